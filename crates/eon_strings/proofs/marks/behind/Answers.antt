use Rattle.std.proofs.Common.{sym, ◌∙◌, arith}
use Rattle.eon_strings.proofs.Openings.{behind_none, behind_other}
use Rattle.eon_strings.proofs.marks.behind.Goals as goal

pub returns-in_err-next : goal.returns-in_err-next
returns-in_err-next c =
    let l = c.loop-i in
    rw c.from_residual.ensures (behind_none c.args.mark.quote l._i c.args.mark.count _ _ l.invariant.is (omega arith) c.in_err-next.ensures)

pub returns-then-next-from : goal.returns-then-next-from
returns-then-next-from c =
    let l = c.loop-i in let x = c.in_ok-next in
    behind_other c.args.mark.quote l._i c.args.mark.count _ _ x.next.code _ l.invariant.is (omega arith) x.ensures.is (λ e. c.if-next-from.true (e ∙ sym c.from.ensures))
