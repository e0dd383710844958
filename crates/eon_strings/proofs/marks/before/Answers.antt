use Rattle.std.proofs.Common.{refl, arith}
use Rattle.eon_strings.proofs.Ends.{before_more, before_none}
use Rattle.eon_strings.proofs.marks.before.Goals as goal

pub returns-in_default : goal.returns-in_default
returns-in_default c =
    let l = c.loop-i in
    (before_none c.args.text.now c.args.mark.quote l._i c.args.mark.count l.rest.now l.invariant (omega arith) c.in_default.ensures, refl)

pub loop-i-preserved : goal.loop-i-preserved
loop-i-preserved c = let l = c.loop-i in before_more c.args.text.now c.args.mark.quote l._i c.args.mark.count l.rest.now l.invariant _ c.in-Some.ensures
