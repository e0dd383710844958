use Rattle.std.proofs.Common.{◌≡◌, ◌*◌, take, sym, ap, ◌∙◌, arith, rules}
use Rattle.eon_spec.specs.Calls.{read_text}
use Rattle.answer.specs.Verbs.{table, of_outcome, tree_said}
use Rattle.answer.proofs.Said.{lent_word, read_answers, read_refuses, refusal_said}
use Rattle.answer.proofs.desk.Desk.read.Goals as goal

pub returns-in_err-records : goal.returns-in_err-records
returns-in_err-records c =
    let s = c.in_ok-text.text.now in
    let r = c.in_err-records.field-0.0 in
    refusal_said _ r c.from_residual-in_err-records.ensures ∙ sym (read_refuses s c.in_ok-table.table.now c.read.new.table _ c.in_err-records.ensures)
    ∙ ap (λ n. of_outcome (read_text s) (tree_said n)) c.in_ok-table.ensures.size
    ∙ lent_word _ _ _ c.args.words _ s (λ t. of_outcome (read_text t) (tree_said c.args.words)) c.in_ok-text.ensures.stands (search rules) (search rules)

pub returns : goal.returns
returns c =
    let s = c.in_ok-text.text.now in
    let n = c.in_ok-records.records in
    let answer = read_answers s c.in_ok-table.table.now c.read.new.table n c.in_ok-records.ensures in
    let size = c.in_ok-table.ensures.size in
    let end : c.min-end.result ≡ 5 * n = omega (arith, answer.within, answer.size, size, c.saturating_mul.ensures, c.min-end.ensures) in
    ap (λ k. table (take k c.read.new.table)) end ∙ sym answer.said_so ∙ ap (λ n. of_outcome (read_text s) (tree_said n)) size
    ∙ lent_word _ _ _ c.args.words _ s (λ t. of_outcome (read_text t) (tree_said c.args.words)) c.in_ok-text.ensures.stands (search rules) (search rules)
