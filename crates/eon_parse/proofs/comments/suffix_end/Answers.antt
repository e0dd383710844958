use Rattle.std.proofs.Common.{◌≡◌, sym, ap, ◌∙◌, arith}
use Rattle.eon_token.specs.Place.{line_feed, next_span, place_of}
use Rattle.eon_token.specs.declared.token_kind.PlacedToken.{PlacedToken}
use Rattle.eon_parse.proofs.Steps.{kind_yes, kind_no, kind_there, suffix_none, suffix_feed, suffix_there}
use Rattle.eon_parse.proofs.Pass.{peeks, peeks_gets}
use Rattle.eon_parse.proofs.comments.suffix_end.Goals as goal
use Rattle.eon_parse.proofs.comments.suffix_end.Goals.{After-peek}

pub returns-then-not-next_is : goal.returns-then-not-next_is
returns-then-not-next_is c = suffix_none _ _ c.requires (kind_no _ _ 0 c.requires 1 _ c.next_is.ensures c.if-not-next_is.true)

-- where the comment starts
starts : (c : After-peek) → c.peek.result.start ≡ (next_span c.args.text.now (place_of c.args.c)).start
starts c = ap (λ (u : PlacedToken). u.start) (c.peek.ensures ∙ peeks _ _ 0 c.requires)

pub line_feed-requires : goal.line_feed-requires
line_feed-requires c =
    let g = peeks_gets _ _ 0 c.requires (kind_there _ _ 0 c.requires 1 _ c.next_is.ensures (omega arith) c.if-not-next_is.false) in
    let b = starts (goal.at.line_feed-requires c).After-peek in
    record { order = omega (arith, b, g.behind); within = omega (arith, b, g.long, g.bound.within) }

pub returns-then-line_feed : goal.returns-then-line_feed
returns-then-line_feed c = let s = c.args.text.now in
    let b = starts (goal.at.returns-then-line_feed c).After-peek in
    suffix_feed _ _ c.requires (kind_yes _ _ 0 c.requires 1 _ c.next_is.ensures c.if-not-next_is.false) (sym (ap (line_feed s c.args.c.end) b) ∙ sym c.line_feed.ensures ∙ c.if-line_feed.true)

pub returns : goal.returns
returns c = let s = c.args.text.now in
    let b = starts (goal.at.returns c).After-peek in
    suffix_there _ _ c.requires (kind_yes _ _ 0 c.requires 1 _ c.next_is.ensures c.if-not-next_is.false) (sym (ap (line_feed s c.args.c.end) b) ∙ sym c.line_feed.ensures ∙ c.if-line_feed.false) _ c.next.ensures.place
