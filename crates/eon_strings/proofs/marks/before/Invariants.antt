use Rattle.eon_strings.specs.Views.{Before}
use Rattle.eon_strings.proofs.marks.before.Given as goal

abbrev pub invariant-loop-i : goal.invariant-loop-i
invariant-loop-i l = Before l.text l.mark.quote l._i l.rest
