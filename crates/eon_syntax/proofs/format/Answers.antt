-- The settings first, then the text and its table.
use Rattle.std.proofs.Common.{◌≡◌, ℕ, Err, Result, ap, ◌∙◌, rules}
use Rattle.eon_spec.specs.declared.refusal.Refusal.{Refusal}
use Rattle.eon_spec.specs.Calls.{after, outcome_of}
use Rattle.eon_syntax.proofs.Checks.{settings_refused, text_refused}
use Rattle.eon_syntax.proofs.format.Goals as goal

pub returns-then-not-good_settings : goal.returns-then-not-good_settings
returns-then-not-good_settings c = let a = c.args in
    settings_refused a.text.now a.table.now a.options a.out.now _ (search (rules, c.new.ensures)) (search rules)

pub returns-in_err-n : goal.returns-in_err-n
returns-in_err-n c = let a = c.args in
    let e : c.from_residual.result ≡ Err c.in_err-n.field-0.0 = search rules in
    ap (λ (x : Result ℕ Refusal). after (outcome_of x) a.out.now) e
    ∙ text_refused a.text.now a.table.now c.finished.result c.finished.ensures a.options a.out.now c.in_err-n.field-0.0 c.in_err-n.was (search rules)
