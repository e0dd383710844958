use Rattle.std.proofs.Common.{rules}
use Rattle.answer_line.proofs.Digits.{is_text, parses}
use Rattle.answer_line.proofs.word.number.Goals as goal

pub returns-in_err-digits-clause-found : goal.returns-in_err-digits-clause-found
returns-in_err-digits-clause-found c digits some few =
    let text = is_text c.args.word.now digits in
    search (rules, text, c.from_utf8.ensures.cases)

pub returns-clause-found : goal.returns-clause-found
returns-clause-found c digits some few =
    let found = parses c.args.word.now c.parse.result in
    search (rules, found)
