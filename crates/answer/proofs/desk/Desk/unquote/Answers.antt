use Rattle.std.proofs.Common.{sym, ap, ◌∙◌, rules}
use Rattle.answer.specs.Verbs.{bytes, of_outcome, value_of, value_said}
use Rattle.answer.proofs.Said.{lent_word, unquote_answers, unquote_refuses, refusal_said}
use Rattle.answer.proofs.desk.Desk.unquote.Goals as goal

pub returns-in_err-part : goal.returns-in_err-part
returns-in_err-part c =
    let s = c.in_ok-quoted.quoted.now in
    let r = c.in_err-part.field-0.0 in
    refusal_said _ r c.from_residual-in_err-part.ensures
    ∙ sym (unquote_refuses s c.in_ok-scratch.scratch.now c.unescape_and_unquote.new.scratch _ c.in_err-part.ensures)
    ∙ ap (λ n. of_outcome (value_of s) (value_said n s)) c.in_ok-scratch.ensures.size
    ∙ lent_word _ _ _ c.args.bytes _ s (λ t. of_outcome (value_of t) (value_said c.args.bytes t)) c.in_ok-quoted.ensures.stands (search rules) (search rules)

pub returns : goal.returns
returns c =
    let s = c.in_ok-quoted.quoted.now in
    ap bytes c.show.ensures.shown
    ∙ sym (unquote_answers s c.in_ok-scratch.scratch.now c.unescape_and_unquote.new.scratch c.in_ok-part.part c.in_ok-part.ensures)
    ∙ ap (λ n. of_outcome (value_of s) (value_said n s)) c.in_ok-scratch.ensures.size
    ∙ lent_word _ _ _ c.args.bytes _ s (λ t. of_outcome (value_of t) (value_said c.args.bytes t)) c.in_ok-quoted.ensures.stands (search rules) (search rules)
