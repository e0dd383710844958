use Rattle.std.proofs.Common.{◌≡◌, ◌≤◌, length}
use Rattle.eon_unescape.specs.Views.{kept, Formed, BytesOf}
use Rattle.eon_strings.specs.Views.{FrontOf}
use Rattle.eon_strings.proofs.marks.before_one.Given as goal

-- only carriage returns are passed
abbrev pub invariant-loop-rest : goal.invariant-loop-rest
invariant-loop-rest l = record {
  same : kept l.text ≡ kept l.rest;
  before : FrontOf l.text l.rest;
  formed : Formed l.rest;
  shorter : length l.rest ≤ length l.text;
  bytes : BytesOf l.text l.rest;
}

abbrev pub decreases-loop-rest : goal.decreases-loop-rest
decreases-loop-rest l = length l.rest
