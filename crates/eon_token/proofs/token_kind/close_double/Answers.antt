use Rattle.std.proofs.Common.{sym, ap, ◌∙◌, arith}
use Rattle.eon_token.specs.Machine.{closed}
use Rattle.eon_token.proofs.Steps.{dq_close, dq_escape, dq_on, dq_end, esc_stop, esc_on, esc_end}
use Rattle.eon_token.proofs.token_kind.close_double.Goals as goal

pub returns-in-34 : goal.returns-in-34
returns-in-34 c =
    let l = c.loop-b.invariant in
    l.run ∙ dq_close _ l.within c.in-Some.ensures.cases.0 c.in-34.is

pub returns-in_err-taken-in-92 : goal.returns-in_err-taken-in-92
returns-in_err-taken-in-92 c =
    let l = c.loop-b.invariant in
    l.run ∙ dq_escape _ l.within c.in-Some.ensures.cases.0 c.in-92.is ∙ esc_end _ _ c.in_err-taken-in-92.ensures.cases ∙ sym (ap (closed 12) c.from_residual.ensures)

pub returns-then-taken-eq10 : goal.returns-then-taken-eq10
returns-then-taken-eq10 c =
    let l = c.loop-b.invariant in
    l.run ∙ dq_escape _ l.within c.in-Some.ensures.cases.0 c.in-92.is ∙ esc_stop _ (omega (arith, l.within, c.in-Some.ensures.cases.1)) c.in_ok-taken-in-92.ensures.cases.0 c.if-taken-eq10.true

pub loop-b-preserved-in-92 : goal.loop-b-preserved-in-92
loop-b-preserved-in-92 c =
    let l = c.loop-b.invariant in record {
      within = omega (arith, l.within, c.in-Some.ensures.cases.1, c.in_ok-taken-in-92.ensures.cases.1);
      run = l.run ∙ dq_escape _ l.within c.in-Some.ensures.cases.0 c.in-92.is ∙ esc_on _ (omega (arith, l.within, c.in-Some.ensures.cases.1)) c.in_ok-taken-in-92.ensures.cases.0 c.if-taken-eq10.false;
    }

pub loop-b-preserved : goal.loop-b-preserved
loop-b-preserved c =
    let l = c.loop-b.invariant in record {
      within = omega (arith, l.within, c.in-Some.ensures.cases.1);
      run = l.run ∙ dq_on _ l.within c.in-Some.ensures.cases.0 (λ e. omega arith) (λ e. omega arith);
    }

pub returns : goal.returns
returns c = c.loop-b.invariant.run ∙ dq_end _ _ c.in_default.ensures.cases
