use Rattle.std.proofs.Common.{◌∙◌, arith}
use Rattle.eon_unescape.proofs.Kept.{kept_none, kept_skip, kept_more, formed_step, shorter, tail_step, rest_bytes}
use Rattle.eon_unescape.proofs.next_decoded.Goals as goal

pub returns-then-code-ne13 : goal.returns-then-code-ne13
returns-then-code-ne13 c = let l = c.loop-c in let x = c.in-Some in record {
  behind = tail_step l.rest.now x.c x.ensures c.args.text.now l.invariant.behind l.invariant.shorter;
  is = l.invariant.same ∙ kept_more l.rest.now x.c x.ensures c.if-code-ne13.true;
  shorter = let h = shorter l.rest.now x.c x.ensures in omega (arith, h, l.invariant.shorter);
  formed = λ f. formed_step l.rest.now x.c x.ensures (l.invariant.formed f);
  bytes = λ b e. rest_bytes l.rest.now x.c x.ensures b (l.invariant.bytes b e);
}

pub loop-c-preserved : goal.loop-c-preserved
loop-c-preserved c = let l = c.loop-c in let x = c.in-Some in record {
  same = l.invariant.same ∙ kept_skip l.rest.now x.c x.ensures (omega arith);
  behind = tail_step l.rest.now x.c x.ensures c.args.text.now l.invariant.behind l.invariant.shorter;
  shorter = let h = shorter l.rest.now x.c x.ensures in omega (arith, h, l.invariant.shorter);
  formed = λ f. formed_step l.rest.now x.c x.ensures (l.invariant.formed f);
  bytes = λ b e. rest_bytes l.rest.now x.c x.ensures b (l.invariant.bytes b e);
}

pub returns : goal.returns
returns c = c.loop-c.invariant.same ∙ kept_none c.loop-c.rest.now c.in_default.ensures
