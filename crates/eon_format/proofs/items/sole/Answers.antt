-- A variant's sole list or map stands where its prefix comments end.
use Rattle.std.proofs.Common.{inl, inr, rules}
use Rattle.eon_format.proofs.Walk.{inside_some, sole_nine, sole_more, sole_other, sole_found}
use Rattle.eon_format.proofs.items.sole.Goals.{then-is-via-then-is, then-is-via-else-is+then-next_tree-end, then-is-2-via-then-is-2, then-is-2-via-else-is-2+then-is-3}
use Rattle.eon_format.proofs.items.sole.Goals as goal

pub next_tree-requires : goal.next_tree-requires
next_tree-requires c = let q = c.requires.inside in (q.0, inside_some _ _ _ _ q.1.0 q.1.1 q.1.2 c.requires.there (search rules))

pub returns-then-is : goal.returns-then-is
returns-then-is c s vs cl h =
    elim c.then-is.branch [
      | then-is-via-then-is w ↦ sole_nine _ _ _ _ vs cl h (c.is.ensures.0 w.if-is.true)
      | then-is-via-else-is+then-next_tree-end w ↦ sole_more _ _ _ _ _ vs cl h (w.next_tree.ensures s) w.if-next_tree-end.true
    ]

pub returns-then-is-2 : goal.returns-then-is-2
returns-then-is-2 c s vs cl h =
    sole_found _ _ _ _ _ _ vs cl h c.requires.there (c.next_tree.ensures s) c.if-next_tree-end.false (search rules) c.after_prefix-value.ensures
    (elim c.then-is-2.branch [
      | then-is-2-via-then-is-2 w ↦ inl (c.is-2.ensures.0 w.if-is-2.true)
      | then-is-2-via-else-is-2+then-is-3 w ↦ inr (w.is-else-is-2.ensures.0 w.if-is-3.true)
    ])

pub returns : goal.returns
returns c s vs cl h = sole_other _ _ _ _ _ vs cl h c.after_prefix-value.ensures (search rules) (search rules)
