use Rattle.std.proofs.Common.{sym, ap}
use Rattle.eon_spec.specs.Parse.{behind}
use Rattle.eon_token.specs.Place.{span}
use Rattle.eon_token.proofs.Laws.{tokens_start}
use Rattle.eon_token.proofs.cursor.Cursor.new.Goals as goal

pub returns-clause-stands : goal.returns-clause-stands
returns-clause-stands c = ap (behind (span 0 0)) (sym (tokens_start c.args.text.now))
