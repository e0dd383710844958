-- The settings first, then the text.
use Rattle.std.proofs.Common.{◌≡◌, ℕ, Err, Result, ap, ◌∙◌, rules}
use Rattle.eon_spec.specs.declared.refusal.Refusal.{Refusal}
use Rattle.eon_spec.specs.Calls.{after_both, outcome_of}
use Rattle.eon_reformat.proofs.OneCall.{read_refused, settings_first, text_second}
use Rattle.eon_reformat.proofs.in_frame.Goals as goal

pub returns-then-not-good_settings : goal.returns-then-not-good_settings
returns-then-not-good_settings g c = let a = c.args in
    settings_first a.text.now a.table.now a.options.now a.out.now _ (search (rules, c.new.ensures)) (search rules)

pub returns-in_err-n : goal.returns-in_err-n
returns-in_err-n g c = let a = c.args in
    let r = c.read_once in
    let e : c.from_residual.result ≡ Err c.in_err-n.field-0.0 = search rules in
    ap (λ (x : Result ℕ Refusal). after_both (outcome_of x) a.table.now a.out.now) e
    ∙ text_second a.text.now a.table.now a.options.now a.out.now _ (read_refused a.text.now r.new.table r.result r.ensures.count c.in_err-n.field-0.0 c.in_err-n.was) (search rules)
