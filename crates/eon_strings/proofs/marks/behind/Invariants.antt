use Rattle.eon_strings.specs.Views.{Behind}
use Rattle.eon_strings.proofs.marks.behind.Given as goal

abbrev pub invariant-loop-i : goal.invariant-loop-i
invariant-loop-i l = Behind l.text l.mark.quote l._i l.rest
