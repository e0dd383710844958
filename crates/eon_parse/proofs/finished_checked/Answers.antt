use Rattle.std.proofs.Common.{◌≡◌, ℕ, Bool, cond, List, sym, ap, ◌∙◌, subst}
use Rattle.eon_spec.specs.Calls.{done, refused_with, nowhere, then, read_finished}
use Rattle.eon_spec.specs.Refused.{refusal_of}
use Rattle.eon_spec.specs.declared.refusal.Refusal.{Refusal}
use Rattle.eon_parse.specs.Call.{count_of}
use Rattle.eon_parse.specs.Top.{top_at}
use Rattle.eon_parse.specs.Tops.{top_view}
use Rattle.eon_parse.specs.declared.walk.Walk.{Walk}
use Rattle.eon_parse.proofs.Calls.{finished_by}
use Rattle.eon_parse.proofs.finished_checked.Goals as goal

pub returns-then-top : goal.returns-then-top
returns-then-top c = let b = c.bytes.ensures in let tb = c.args.table.now in
    let e = sym (c.whole.ensures.answer ∙ ap (λ (w : Walk). top_view tb w.same (top_at c.bytes.result.now)) c.start.ensures) ∙ c.in_ok-top.was in
    subst (λ (s : List ℕ). done c.in_ok-top.top.count ≡ then (read_finished s tb) count_of) b.same
    (ap (λ (y : Bool). cond y (done c.in_ok-top.top.count) (refused_with (nowhere 15))) (sym c.if-top.true) ∙ finished_by _ _ b.utf8 b.short _ e)

pub returns : goal.returns
returns c = let b = c.bytes.ensures in let tb = c.args.table.now in
    let e = sym (c.whole.ensures.answer ∙ ap (λ (w : Walk). top_view tb w.same (top_at c.bytes.result.now)) c.start.ensures) ∙ c.in_ok-top.was in
    subst (λ (s : List ℕ). refused_with (refusal_of c.new.result) ≡ then (read_finished s tb) count_of) b.same
    (ap (λ (r : Refusal). refused_with (refusal_of r)) c.new.ensures ∙ ap (λ (y : Bool). cond y (done c.in_ok-top.top.count) (refused_with (nowhere 15))) (sym c.if-top.false) ∙ finished_by _ _ b.utf8 b.short _ e)
