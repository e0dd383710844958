use Rattle.std.proofs.Common.{◌≡◌, ◌-◌, ◌≤◌, length, drop}
use Rattle.eon_token.specs.Machine.{miss, run}
use Rattle.eon_token.proofs.token_kind.close_double.Given as goal

-- The automaton's run over the rest, inside the string, is its run from `from` on.
abbrev pub invariant-loop-b : goal.invariant-loop-b
invariant-loop-b l = record {
  within : length l.rest ≤ length l.text;
  run : run 16 miss l.from (drop l.from l.text) ≡ run 16 miss (length l.text - length l.rest) l.rest;
}

abbrev pub decreases-loop-b : goal.decreases-loop-b
decreases-loop-b l = length l.rest
