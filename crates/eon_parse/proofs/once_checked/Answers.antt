use Rattle.std.proofs.Common.{◌≡◌, ℕ, ◌+◌, ◌*◌, ◌≤◌, List, length, Err, sym, ap, ◌∙◌, subst, rules}
use Rattle.eon_spec.specs.Calls.{outcome_of, done, then, read_text, read_finished}
use Rattle.eon_parse.specs.Call.{count_of}
use Rattle.eon_parse.proofs.Calls.{once_no, once_yes}
use Rattle.eon_parse.proofs.once_checked.Goals as goal

pub returns-in_err-top-clause-count : goal.returns-in_err-top-clause-count
returns-in_err-top-clause-count c = let b = c.bytes.ensures in
    let e : c.from_residual.result ≡ Err c.in_err-top.field-0.0 = search rules in
    subst (λ (s : List ℕ). outcome_of c.from_residual.result ≡ then (read_text s) count_of) b.same
    (ap outcome_of e ∙ (once_no _ c.args.table.now b.utf8 b.short _ _ c.whole.new.out _ (sym c.whole.ensures.answer ∙ c.in_err-top.was)).count)

pub returns-in_err-top-clause-table : goal.returns-in_err-top-clause-table
returns-in_err-top-clause-table c = let b = c.bytes.ensures in
    subst (λ (s : List ℕ). read_finished s c.whole.new.out ≡ read_text s) b.same
    (once_no _ c.args.table.now b.utf8 b.short _ _ _ _ (sym c.whole.ensures.answer ∙ c.in_err-top.was)).table

pub returns-clause-count : goal.returns-clause-count
returns-clause-count c = let b = c.bytes.ensures in
    let room : 5 * (length c.bytes.result.now + 1) ≤ length c.args.table.now = subst (λ (s : List ℕ). 5 * (length s + 1) ≤ length c.args.table.now) (sym b.same) c.requires in
    subst (λ (s : List ℕ). done c.in_ok-top.top.count ≡ then (read_text s) count_of) b.same
    (once_yes _ _ b.utf8 b.short _ _ _ _ (sym c.whole.ensures.answer ∙ c.in_ok-top.was) room c.whole.ensures.held).count

pub returns-clause-table : goal.returns-clause-table
returns-clause-table c = let b = c.bytes.ensures in
    let room : 5 * (length c.bytes.result.now + 1) ≤ length c.args.table.now = subst (λ (s : List ℕ). 5 * (length s + 1) ≤ length c.args.table.now) (sym b.same) c.requires in
    subst (λ (s : List ℕ). read_finished s c.whole.new.out ≡ read_text s) b.same
    (once_yes _ _ b.utf8 b.short _ _ _ _ (sym c.whole.ensures.answer ∙ c.in_ok-top.was) room c.whole.ensures.held).table
