use Rattle.std.proofs.Common.{sym}
use Rattle.eon_reader.proofs.Stand.{none_left, stands_within}
use Rattle.eon_reader.proofs.token_at.Goals as goal

pub returns-then-text-at : goal.returns-then-text-at
returns-then-text-at c = sym (none_left c.args.text.now c.args.at c.if-text-at.true)

pub next_token-requires : goal.next_token-requires
next_token-requires c =
    let w = stands_within c.args.text.now c.args.at c.requires c.if-text-at.false in
    record { formed = w.0; boundary = w.1 }
