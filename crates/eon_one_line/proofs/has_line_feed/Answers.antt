use Rattle.std.proofs.Common.{◌∙◌}
use Rattle.eon_laws.proofs.Contains.{contains_elem}
use Rattle.eon_one_line.proofs.has_line_feed.Goals as goal

pub returns : goal.returns
returns c = c.contains.ensures.value ∙ contains_elem 10 c.args.text.now
