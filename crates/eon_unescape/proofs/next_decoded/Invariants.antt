use Rattle.std.proofs.Common.{◌≡◌, ◌≤◌, length}
use Rattle.eon_unescape.specs.Views.{kept, Formed, BytesOf, TailOf}
use Rattle.eon_unescape.proofs.next_decoded.Given as goal

-- only carriage returns are passed
abbrev pub invariant-loop-c : goal.invariant-loop-c
invariant-loop-c l = record {
  same : kept l.text ≡ kept l.rest;
  behind : TailOf l.text l.rest;
  shorter : length l.rest ≤ length l.text;
  formed : Formed l.text → Formed l.rest;
  bytes : BytesOf l.text l.rest;
}

abbrev pub decreases-loop-c : goal.decreases-loop-c
decreases-loop-c l = length l.rest
