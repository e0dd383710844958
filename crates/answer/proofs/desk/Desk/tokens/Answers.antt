use Rattle.std.proofs.Common.{rules}
use Rattle.answer.proofs.Said.{tokens_good}
use Rattle.answer.proofs.desk.Desk.tokens.Goals as goal

pub returns : goal.returns
returns c =
    let text = c.in_ok-of.field-0.0 in
    tokens_good _ _ _ _ text.str.now c.in_ok-text.ensures.stands (search rules) c.in_ok-of.ensures.text text.short text.utf8
