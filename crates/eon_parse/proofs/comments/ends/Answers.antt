use Rattle.std.proofs.Common.{ap, ◌∙◌}
use Rattle.eon_token.specs.Placed.{code_of}
use Rattle.eon_token.specs.declared.cursor.Cursor.{Cursor}
use Rattle.eon_token.specs.declared.token_kind.PlacedToken.{PlacedToken}
use Rattle.eon_parse.specs.Walk.{closes, stops}
use Rattle.eon_parse.proofs.comments.ends.Goals as goal

pub returns : goal.returns
unfolding stops
returns c = c.closes.ensures ∙ ap (λ (t : PlacedToken). closes (code_of t.kind)) (c.peek.ensures ∙ ap (λ (y : Cursor). y.peeked) c.ahead.ensures)
