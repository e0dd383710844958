use Rattle.std.proofs.Common.{ℕ, ◌∙◌, inl, arith, length-take}
use Rattle.eon_strings.proofs.Ends.{last_return, last_quote, last_other, cut_front, front_bytes, none_kept}
use Rattle.eon_strings.proofs.marks.before_one.Goals as goal

pub returns-then-last-mark : goal.returns-then-last-mark
returns-then-last-mark c =
    let l = c.loop-rest in let r = l.rest.now in
    let h = last_quote r c.in-len1-up.len_at_least l.invariant.formed c.args.mark.quote c.args.mark.ascii c.args.mark.no_return c.if-last-mark.true in
    record { is = l.invariant.same ∙ h.1; before = cut_front r c.in-len1-up.len_at_least c.args.text.now l.invariant.before; formed = h.0; shorter = omega (arith, l.invariant.shorter, length-take {A = ℕ}); bytes = λ b e. front_bytes r c.in-len1-up.len_at_least b (l.invariant.bytes b e) }

pub returns-then-last-ne13 : goal.returns-then-last-ne13
returns-then-last-ne13 c =
    let l = c.loop-rest in let r = l.rest.now in
    let h = last_other r c.in-len1-up.len_at_least l.invariant.formed c.args.mark.quote c.args.mark.ascii c.if-last-ne13.true c.if-last-mark.false in
    rw l.invariant.same h

pub loop-rest-preserved : goal.loop-rest-preserved
loop-rest-preserved c =
    let l = c.loop-rest in let r = l.rest.now in
    let h = last_return r c.in-len1-up.len_at_least l.invariant.formed (omega arith) in
    record { same = l.invariant.same ∙ h.1; before = cut_front r c.in-len1-up.len_at_least c.args.text.now l.invariant.before; formed = h.0; shorter = omega (arith, l.invariant.shorter, length-take {A = ℕ}); bytes = λ b e. front_bytes r c.in-len1-up.len_at_least b (l.invariant.bytes b e) }

pub returns : goal.returns
returns c = let l = c.loop-rest in inl (l.invariant.same ∙ none_kept l.rest.now c.in_default.len_below)
