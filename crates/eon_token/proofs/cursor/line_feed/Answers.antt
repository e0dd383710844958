use Rattle.std.proofs.Common.{◌-◌, take, drop, ◌∙◌}
use Rattle.eon_token.specs.Place.{line_feed}
use Rattle.eon_laws.proofs.Contains.{contains_elem}
use Rattle.eon_token.proofs.cursor.line_feed.Goals as goal

pub returns : goal.returns
unfolding line_feed
returns c = c.contains.ensures.value ∙ contains_elem 10 (take (c.args.b - c.args.a) (drop c.args.a c.args.text.now))
