use Rattle.std.proofs.Common.{◌≡◌, ◌<◌, ◌≤◌, length, sym, refl, ap, ◌∙◌, arith}
use Rattle.eon_spec.specs.RecordKind.{word_of}
use Rattle.eon_parse.specs.Walk.{comment, no_comment, run, got}
use Rattle.eon_parse.specs.Answer.{place, ran}
use Rattle.eon_parse.proofs.Left.{comment_far}
use Rattle.eon_parse.proofs.Page.{Page, page, both}
use Rattle.eon_parse.proofs.Pass.{Inv, inv_start, inv_ready, inv_turn, inv_end}
use Rattle.eon_parse.proofs.Steps.{is_comment, is_none, kind_yes, kind_no}
use Rattle.eon_parse.proofs.comments.comments.Goals as goal
use Rattle.eon_parse.proofs.comments.comments.Goals.{After-leaf-d, After-loop-kind}

pub loop-kind-init : goal.loop-kind-init
loop-kind-init c = inv_start _ _ _ _ _ c.requires.ready

pub leaf-d-requires-clause-ready : goal.leaf-d-requires-clause-ready
leaf-d-requires-clause-ready c = inv_ready _ _ _ _ _ c.requires.ready _ c.loop-kind.invariant

-- a turn
turned : (c : After-leaf-d) → Inv c.args.text.now c.args.old.now (no_comment c.args.text.now) (comment c.args.text.now (word_of c.args.kind)) (page c.args.w c.args.out.now) (page c.leaf-d.result c.leaf-d.new.out)
    × (c.loop-kind.d.cursor.end < c.leaf-d.result.cursor.end) × (c.leaf-d.result.cursor.end ≤ length c.args.text.now)
unfolding comment
turned c = let i = c.loop-kind.invariant in
    let d = c.loop-kind.d in
    let r = inv_ready _ _ _ _ _ c.requires.ready _ i in
    let e = is_comment _ (place d) (kind_yes _ d.cursor d.count r 1 _ c.next_is.ensures c.loop-kind-test.true) in
    inv_turn _ _ _ _ _ c.requires.ready _ i e refl (comment_far _ (word_of c.args.kind) (place d) r.bound e) _ (both c.leaf-d.ensures.walk c.leaf-d.ensures.stored)

pub loop-kind-smaller : goal.loop-kind-smaller
loop-kind-smaller c = let t = turned (goal.at.loop-kind-smaller c).After-leaf-d in omega (arith, t.1, t.2)

pub loop-kind-preserved : goal.loop-kind-preserved
loop-kind-preserved c = (turned (goal.at.loop-kind-preserved c).After-leaf-d).0

-- all of them
ended : (c : After-loop-kind) → run c.args.text.now (word_of c.args.kind) (place c.args.w) ≡ got c.loop-kind.invariant.done (place c.loop-kind.d)
unfolding run
ended c = let i = c.loop-kind.invariant in
    let d = c.loop-kind.d in
    let r = inv_ready _ _ _ _ _ c.requires.ready _ i in
    inv_end _ _ _ _ _ c.requires.ready _ i (is_none _ (place d) (kind_no _ d.cursor d.count r 1 _ c.next_is.ensures c.loop-kind-test.false))

pub returns-clause-walk : goal.returns-clause-walk
unfolding ran
returns-clause-walk c = ap (λ (p : Page). p.cur) c.loop-kind.invariant.cursor ∙ sym (ap (ran c.args.text.now c.args.old.now c.args.w) (ended (goal.at.returns-clause-walk c).After-loop-kind))

pub returns-clause-stored : goal.returns-clause-stored
returns-clause-stored c = rw (ended (goal.at.returns-clause-stored c).After-loop-kind) (ap (λ (p : Page). p.tab) c.loop-kind.invariant.cursor)
