use Rattle.std.proofs.Common.{◌+◌, drop, sym, ap, ◌∙◌, inl, inr, arith}
use Rattle.eon_token.specs.Machine.{class, miss}
use Rattle.eon_token.proofs.Bytes.{quote_class, only_quote}
use Rattle.eon_token.proofs.Steps.{is_quote, multi_on, multi_end, multi_final}
use Rattle.eon_token.proofs.token_kind.close_triple.Goals as goal

pub loop-i-preserved-then-text-i : goal.loop-i-preserved-then-text-i
loop-i-preserved-then-text-i c =
    let l = c.loop-i in
    let q = c.args.quote in record {
      few = omega arith;
      run = l.invariant.run ∙ multi_on (is_quote q) l.marks l.invariant.few c.args.text.now l.i c.loop-i-test.true 0 (inr (λ e. c.if-text-i.true (only_quote q _ e ∙ sym c.byte-mark.ensures), omega arith));
    }

pub returns-then-marks-eq2 : goal.returns-then-marks-eq2
returns-then-marks-eq2 c =
    let l = c.loop-i in
    let q = c.args.quote in
    l.invariant.run ∙ multi_on (is_quote q) l.marks l.invariant.few c.args.text.now l.i c.loop-i-test.true 3 (inl (ap class (c.if-text-i.false ∙ c.byte-mark.ensures) ∙ quote_class q, omega (arith, c.if-marks-eq2.true)))
    ∙ multi_final (is_quote q) miss (l.i + 1) (drop (l.i + 1) c.args.text.now)

pub loop-i-preserved : goal.loop-i-preserved
loop-i-preserved c =
    let l = c.loop-i in
    let q = c.args.quote in record {
      few = omega (arith, l.invariant.few, c.if-marks-eq2.false);
      run = l.invariant.run ∙ multi_on (is_quote q) l.marks l.invariant.few c.args.text.now l.i c.loop-i-test.true _ (inl (ap class (c.if-text-i.false ∙ c.byte-mark.ensures) ∙ quote_class q, omega arith));
    }

pub returns : goal.returns
returns c =
    let l = c.loop-i in
    l.invariant.run ∙ multi_end (is_quote c.args.quote) l.marks l.invariant.few c.args.text.now l.i c.loop-i-test.false
