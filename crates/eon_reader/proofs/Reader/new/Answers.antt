use Rattle.std.proofs.Common.{sym, subst}
use Rattle.eon_reader.specs.Read.{Stands}
use Rattle.eon_reader.proofs.Stand.{start_stands}
use Rattle.eon_reader.proofs.Reader.new.Goals as goal

pub returns-clause-stands : goal.returns-clause-stands
returns-clause-stands c = subst (Stands c.args.text.now) (sym c.start.ensures) (start_stands c.args.text.now)
