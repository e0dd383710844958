use Rattle.std.proofs.Common.{sym}
use Rattle.eon_token.proofs.Text.{boundary_le}
use Rattle.eon_token.proofs.Bytes.{span_keeps}
use Rattle.eon_token.proofs.Whole.{some_token, no_token}
use Rattle.eon_token.proofs.token_kind.next_token.Goals as goal

pub end_while-start-requires-clause-within : goal.end_while-start-requires-clause-within
end_while-start-requires-clause-within c = boundary_le c.args.text.now c.requires.formed c.args.at c.requires.boundary

pub returns-then-start-text : goal.returns-then-start-text
returns-then-start-text c =
    let s = c.args.text.now in
    let at = c.args.at in
    let start = span_keeps _ s 0 1 (λ b x e. sym e) at _ c.end_while-start.ensures.ends in
    some_token s c.requires.formed at c.requires.boundary c.end_while-start.result start c.lexeme.result c.if-start-text.true c.lexeme.ensures

pub returns : goal.returns
returns c =
    let s = c.args.text.now in
    let at = c.args.at in
    let start = span_keeps _ s 0 1 (λ b x e. sym e) at _ c.end_while-start.ensures.ends in
    no_token s c.requires.formed at c.requires.boundary c.end_while-start.result start c.if-start-text.false
