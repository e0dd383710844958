use Rattle.eon_reader.proofs.Stand.{behind_stands}
use Rattle.eon_reader.proofs.Reader.next.Goals as goal

pub returns-clause-stands : goal.returns-clause-stands
returns-clause-stands c =
    let r = c.args.self.now in
    behind_stands r.text.now r.next c.token_at-token.result c.token_at-token.ensures c.requires
