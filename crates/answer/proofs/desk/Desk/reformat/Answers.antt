use Rattle.std.proofs.Common.{vec_len, sym, ap, ◌∙◌, ap₂, rules}
use Rattle.eon_spec.specs.Calls.{read_text}
use Rattle.answer.specs.Verbs.{bytes, of_outcome, lent_said, laid_said}
use Rattle.answer.proofs.Said.{lent_word, lent_fits, reformat_answers, reformat_refuses, refusal_said}
use Rattle.answer.proofs.desk.Desk.reformat.Goals as goal

pub returns-in_err-written : goal.returns-in_err-written
returns-in_err-written c =
    let s = c.in_ok-text.text.now in
    let told = c.in_ok-table.table.now in
    let oold = c.in_ok-out.out.now in
    let r = c.in_err-written.field-0.0 in
    let call = rw c.default.ensures at c.in_err-written.ensures in
    refusal_said _ r c.from_residual-in_err-written.ensures ∙ sym (reformat_refuses s told oold c.reformat.new.table c.reformat.new.out _ call)
    ∙ ap₂ (λ k n. of_outcome (read_text s) (laid_said k n)) c.in_ok-table.ensures.size c.in_ok-out.ensures.size
    ∙ lent_fits (vec_len c.args.self.now.room) c.args.bytes _ (search rules)
    ∙ lent_word _ _ _ c.args.words _ s (λ t. lent_said (vec_len c.args.self.now.room) c.args.bytes (of_outcome (read_text t) (laid_said c.args.words c.args.bytes))) c.in_ok-text.ensures.stands (search rules) (search rules)

pub returns : goal.returns
returns c =
    let s = c.in_ok-text.text.now in
    let told = c.in_ok-table.table.now in
    let oold = c.in_ok-out.out.now in
    let call = rw c.default.ensures at c.in_ok-written.ensures in
    ap bytes c.front.ensures ∙ sym (reformat_answers s told oold c.reformat.new.table c.reformat.new.out c.in_ok-written.written call)
    ∙ ap₂ (λ k n. of_outcome (read_text s) (laid_said k n)) c.in_ok-table.ensures.size c.in_ok-out.ensures.size
    ∙ lent_fits (vec_len c.args.self.now.room) c.args.bytes _ (search rules)
    ∙ lent_word _ _ _ c.args.words _ s (λ t. lent_said (vec_len c.args.self.now.room) c.args.bytes (of_outcome (read_text t) (laid_said c.args.words c.args.bytes))) c.in_ok-text.ensures.stands (search rules) (search rules)
