use Rattle.std.proofs.Common.{ℕ, List, ap, ◌∙◌, Bor}
use Rattle.eon_token.specs.Placed.{placed_at}
use Rattle.eon_reader.proofs.Stand.{first_is}
use Rattle.eon_reader.proofs.first.Goals as goal

pub returns : goal.returns
returns c =
    let e = c.new.ensures in
    c.next.ensures.token ∙ ap (λ (x : Bor (List ℕ)). placed_at x.now c.new.result.next) e.text ∙ ap (placed_at c.args.text.now) e.next ∙ first_is c.args.text.now
