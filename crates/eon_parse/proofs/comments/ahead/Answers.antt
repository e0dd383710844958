use Rattle.std.proofs.Common.{[], ◌∷◌, ◌++◌, sym, refl, ap, ◌∙◌, subst, arith}
use Rattle.eon_spec.specs.Tree.{Span}
use Rattle.eon_spec.specs.Records.{leaf}
use Rattle.eon_token.specs.Place.{place_of, cursor_at, next_span}
use Rattle.eon_parse.specs.Walk.{comment, no_comment, run, end_of}
use Rattle.eon_token.specs.declared.cursor.Cursor.{Cursor}
use Rattle.eon_parse.proofs.Left.{Left, left_start, left_end, left_turn, comment_far, comment_gets}
use Rattle.eon_parse.proofs.Steps.{is_comment, is_none, kind_yes, kind_no}
use Rattle.eon_parse.proofs.Pass.{ready_at}
use Rattle.eon_parse.proofs.comments.ahead.Goals as goal

pub loop-d-init : goal.loop-d-init
loop-d-init c = ([], (left_start _ _ _ (place_of c.args.c) c.requires.bound, c.requires))

pub loop-d-smaller : goal.loop-d-smaller
loop-d-smaller c =
    let d = c.loop-d.d in
    let r = c.loop-d.invariant.1.1 in
    let g = comment_gets _ (place_of d) r.bound (is_comment _ (place_of d) (kind_yes _ _ 0 r 1 _ c.next_is.ensures c.loop-d-test.true)) in
    omega (arith, ap (λ (y : Cursor). y.end) c.next-d.ensures.place, g.behind, g.long, g.bound.within)

pub loop-d-preserved : goal.loop-d-preserved
unfolding comment
loop-d-preserved c = let s = c.args.text.now in
    let d = c.loop-d.d in
    let i = c.loop-d.invariant in
    let r = i.1.1 in
    let e = is_comment _ (place_of d) (kind_yes _ _ 0 r 1 _ c.next_is.ensures c.loop-d-test.true) in
    let g = comment_gets _ (place_of d) r.bound e in
    let l = left_turn _ _ _ (place_of c.args.c) (place_of d) i.0 i.1.0 e refl (comment_far _ 7 (place_of d) r.bound e) in (
      _,
      (
        subst (λ (y : Span). Left s (no_comment s) (comment s 7) (place_of c.args.c) y (i.0 ++ (leaf 7 (next_span s (place_of d)) ∷ []))) (sym (ap place_of c.next-d.ensures.place)) l,
        ready_at _ _ 0 0 _ _ r c.next-d.ensures.place g.bound (omega arith),
      ),
    )

pub returns : goal.returns
unfolding run
returns c = let s = c.args.text.now in
    let d = c.loop-d.d in
    let i = c.loop-d.invariant in
    let e = is_none _ (place_of d) (kind_no _ _ 0 i.1.1 1 _ c.next_is.ensures c.loop-d-test.false) in
    i.1.1.fresh ∙ ap (cursor_at s) (sym (ap end_of (left_end _ _ _ (place_of c.args.c) (place_of d) i.0 i.1.0 e)))
