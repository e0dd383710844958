use Rattle.std.proofs.Common.{◌-◌, ◌≤◌, length}
use Rattle.eon_spec.specs.Utf8.{Boundary}
use Rattle.eon_reader.proofs.Stand.{Makes}
use Rattle.eon_reader.proofs.count_checked.Given as goal

-- The tokens counted and those from `at` on make the whole.
abbrev pub invariant-loop-kind : goal.invariant-loop-kind
invariant-loop-kind l = record {
  boundary : Boundary l.bytes l.at;
  makes : Makes l.bytes l.at l.n;
  few : l.n ≤ l.at;
}

abbrev pub decreases-loop-kind : goal.decreases-loop-kind
decreases-loop-kind l = length l.bytes - l.at
