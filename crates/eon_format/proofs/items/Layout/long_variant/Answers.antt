-- Each turn puts the line ends of one value more.
use Rattle.std.proofs.Common.{sym, ◌∙◌, arith}
use Rattle.eon_spec.specs.Layout.{settings_of}
use Rattle.eon_put.proofs.Going.{put_as}
use Rattle.eon_format.proofs.Walk.{through_tree, through_step, through_close, variant_to, ends_content, ends_body, tree_gap}
use Rattle.eon_table.specs.TreeAt.{SomeTree}
use Rattle.eon_table.proofs.Walk.{more_in, tree_pos}
use Rattle.eon_format.proofs.items.Layout.long_variant.Given.{Over}
use Rattle.eon_format.proofs.items.Layout.long_variant.Goals as goal
use Rattle.eon_format.proofs.items.Layout.long_variant.Goals.{In-loop-self}

-- the tree at the turn's record
tree_here : (g : Over) (d : In-loop-self g) → SomeTree d.args.self.sheet.text.now d.args.self.sheet.table.now d.behind-end.result d.loop-self.index
tree_here g d = let q = d.requires.inside in
    through_tree g.S.Sink.puts (d.loop-self.invariant.1 q.0 q.1 (variant_to _ _ _ _ d.behind-end.ensures q.0 q.1 q.2)) (sym d.more.ensures ∙ d.loop-self-test.true)

pub next_tree-index-requires : goal.next_tree-index-requires
next_tree-index-requires g c = (_, tree_here g (goal.at.next_tree-index-requires g c).In-loop-self)

pub loop-self-smaller : goal.loop-self-smaller
loop-self-smaller g c = let u = tree_here g (goal.at.loop-self-smaller g c).In-loop-self in
    omega (arith, c.next_tree-index.ensures _ u.0 u.1, tree_pos u.0, more_in _ _ _ (sym c.more.ensures ∙ c.loop-self-test.true))

pub loop-self-preserved : goal.loop-self-preserved
loop-self-preserved g c =
    let puts = g.S.Sink.puts in
    let append = g.met.S.Sink.append in
    let o = settings_of c.args.self.options.now in
    let u = tree_here g (goal.at.loop-self-preserved g c).In-loop-self in
    let b = c.loop-self.invariant.0 in (
      omega (arith, c.next_tree-index.ensures _ u.0 u.1),
      λ vs cl h. through_step puts append _ _ (ends_body o) (c.loop-self.invariant.1 vs cl h) (sym c.more.ensures ∙ c.loop-self-test.true) b
          (λ t k. append _ _ _ _ _ (put_as puts (tree_gap _ _ o _ _ _ t k) c.gap.ensures) c.newline.ensures)
          (c.next_tree-index.ensures _),
    )

pub returns : goal.returns
returns g c vs cl v =
    let h = variant_to _ _ _ _ c.behind-end.ensures vs cl v in
    through_close g.S.Sink.puts g.met.S.Sink.append _ _ 41 vs h (c.loop-self.invariant.1 vs cl h) (sym c.more.ensures ∙ c.loop-self-test.false) (ends_content (settings_of c.args.self.options.now)) c.open_lines.ensures c.closing.ensures c.close_lines.ensures
