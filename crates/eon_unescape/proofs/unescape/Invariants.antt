use Rattle.std.proofs.Common.{ℕ, ◌+◌, ◌*◌, ◌≤◌, List, length, Result}
use Rattle.eon_spec.specs.declared.refusal.Reason.{Reason}
use Rattle.eon_unescape.specs.Modes.{reads_by}
use Rattle.eon_unescape.specs.Views.{kept, Formed, Reads}
use Rattle.eon_unescape.proofs.unescape.Given as goal

-- whatever the rest of the text gives, written behind what is written, is what the whole gives
abbrev pub invariant-loop-next : goal.invariant-loop-next
invariant-loop-next l = record {
  shorter : length l.rest ≤ length l.text;
  room : l.len + 4 * length l.rest ≤ 4 * length l.text;
  formed : Formed l.rest;
  reads : (exit : List ℕ) (r : Result ℕ Reason) → Reads l.len l.out (reads_by l.mode (kept l.rest)) exit r → Reads 0 l.initial.out (reads_by l.initial.mode (kept l.text)) exit r;
}

abbrev pub decreases-loop-next : goal.decreases-loop-next
decreases-loop-next l = length l.rest
