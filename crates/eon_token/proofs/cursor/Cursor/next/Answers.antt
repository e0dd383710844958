use Rattle.std.proofs.Common.{sym, ap, ◌∙◌, subst, arith}
use Rattle.eon_spec.specs.Utf8.{Boundary}
use Rattle.eon_token.specs.Place.{place_of, stands_for}
use Rattle.eon_token.specs.declared.token_kind.PlacedToken.{PlacedToken}
use Rattle.eon_token.proofs.KindCodes.{code_small}
use Rattle.eon_token.proofs.Places.{peeks, peeks_kind, peeks_gets, skips}
use Rattle.eon_token.proofs.cursor.Cursor.next.Goals as goal

pub next_token-requires-clause-boundary : goal.next_token-requires-clause-boundary
next_token-requires-clause-boundary c =
    let s = c.args.text.now in
    let a = c.requires in
    subst (λ (t : PlacedToken). Boundary s t.end) (sym (peeks s c.args.self a.standing)) (peeks_gets s c.args.self a.standing a.there).bound.boundary

pub returns-clause-stands : goal.returns-clause-stands
returns-clause-stands c =
    let s = c.args.text.now in
    let a = c.requires in
    let x = c.args.self in
    ap (λ (t : PlacedToken). stands_for s (record { start = t.start; end = t.end; peeked = c.next_token.result })) (peeks s x a.standing)
    ∙ skips s (place_of x) a.standing.bound (omega (arith, code_small x.peeked.kind a.there, peeks_kind s x a.standing))
