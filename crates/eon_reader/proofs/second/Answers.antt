use Rattle.std.proofs.Common.{ℕ, List, ap, ◌∙◌, Bor}
use Rattle.eon_token.specs.Placed.{placed_at}
use Rattle.eon_token.specs.declared.token_kind.PlacedToken.{PlacedToken}
use Rattle.eon_reader.proofs.Stand.{first_is}
use Rattle.eon_reader.proofs.second.Goals as goal

pub returns : goal.returns
returns c =
    let s = c.args.text.now in
    let e = c.new-reader.ensures in
    let n = c.next.ensures in
    let first = n.token ∙ ap (λ (x : Bor (List ℕ)). placed_at x.now c.new-reader.result.next) e.text ∙ ap (placed_at s) e.next ∙ first_is s in
    c.next-2.ensures.token ∙ ap (λ (x : Bor (List ℕ)). placed_at x.now c.next.new.self.next) (n.text ∙ e.text) ∙ ap (placed_at s) (n.next ∙ ap (λ (t : PlacedToken). t.end) first)
