use Rattle.std.proofs.Common.{◌≤◌, ◌≡◌, refl, sym, ap, ◌∙◌, subst, ℕ, [], ◌∷◌, length, leb, take, length-take-le, length-set, ◌<◌, arith}
use Rattle.std.proofs.lemmas.List.{map-append, length-map}
use Rattle.std.proofs.lemmas.Bool.{false≢true, lt-leb}
use Rattle.eon_spec.specs.Tree.{TokenTree}
use Rattle.eon_spec.specs.Lookup.{paths_max, path_of, paths_of, path_list_in}
use Rattle.eon_table.specs.TreeAt.{SomeTree, TreeAt, value_of}
use Rattle.eon_table.proofs.Walk.{value_kind, more_in, tree_pos, tree_value}
use Rattle.eon_lookup.specs.Keys.{below, whole, wholes, Going, IsPaths}
use Rattle.eon_lookup.proofs.Containers.{TheList, the_list, in_list}
use Rattle.eon_lookup.proofs.Forms.{Listed, listed_start, listed_all, listed_tree, listed_next, listed_bad, listed_long, path_of_lem, list_of_lem, list_other, list_done, list_bad, put_last, going_put}
use Rattle.eon_lookup.proofs.paths.read_paths.Goals as goal
use Rattle.eon_lookup.proofs.paths.read_paths.Goals.{In-loop-room, After-loop-room}

pub returns-then-not-is : goal.returns-then-not-is
returns-then-not-is c = let a = c.args in
    let s = a.list.text.now in
    let tb = a.list.table.now in
    let i = c.after_prefix-i.result in
    record {
      is = λ end u h. list_of_lem u ∙ list_other (value_of u) (λ e. false≢true (c.if-not-is.ensures.1 (value_kind _ _ _ _ (tree_value _ _ _ _ _ u h c.after_prefix-i.ensures) ∙ e)));
      go = tt;
    }

pub loop-room-init : goal.loop-room-init
loop-room-init c = let a = c.args in
    (omega arith, c.told-room, λ p e. absurd (false≢true e), λ vs cl h. listed_start paths_of _ _ _ vs cl _ (in_list c.after_prefix-i.result c.behind-end.ensures h))

-- the list, of a tree
here : (t : In-loop-room) (end : ℕ) (u : TokenTree) (h : TreeAt t.args.list.text.now t.args.list.table.now end 0 u)
    → TheList t.args.list.text.now t.args.list.table.now t.after_prefix-i.result t.behind-end.result t.behind-end.ensures (value_of u) (tree_value t.args.list.text.now t.args.list.table.now end 0 t.after_prefix-i.result u h t.after_prefix-i.ensures)
here t end u h = the_list _ _ _ _ t.behind-end.ensures (value_of u) (tree_value t.args.list.text.now t.args.list.table.now end 0 t.after_prefix-i.result u h t.after_prefix-i.ensures) (t.if-not-is.ensures.0 refl)

tree_here : (t : In-loop-room) → SomeTree t.args.list.text.now t.args.list.table.now t.behind-end.result t.loop-room.j
tree_here t =
    let z = here t t.requires.0 t.requires.1.0 t.requires.1.1 in
    listed_tree (t.loop-room.invariant.3 z.items z.closing z.at) t.loop-room-test.ensures

pub returns-then-n-eq-PATHS_MAX : goal.returns-then-n-eq-PATHS_MAX
returns-then-n-eq-PATHS_MAX c = let a = c.args in
    let s = a.list.text.now in
    let l = c.loop-room in
    let ks = take l.n l.room in
    let full : l.n ≡ 128 = omega arith in
    record {
      is = λ end u h.
          let z = here (goal.at.returns-then-n-eq-PATHS_MAX c).In-loop-room end u h in
          list_of_lem u ∙ ap path_list_in z.is
          ∙ listed_long (l.invariant.3 z.items z.closing z.at) c.loop-room-test.ensures path_of (λ t ts. refl) (λ ps. leb (length ps) 128)
          (λ ps f. lt-leb (length ps) 128 (omega (arith, f, full, length-map ks (whole s), length-take-le l.n l.room (omega (arith, l.invariant.0, l.invariant.1)))));
      go = tt;
    }

pub read_path-requires : goal.read_path-requires
read_path-requires c = let a = c.args in
    let u = tree_here (goal.at.read_path-requires c).In-loop-room in
    (value_of u.0, tree_value _ _ _ _ _ u.0 u.1 c.after_prefix.ensures)

pub returns-in_err-room : goal.returns-in_err-room
returns-in_err-room c =
    let s = c.args.list.text.now in
    let tb = c.args.list.table.now in
    let l = c.loop-room in
    let no = c.in_err-room.ensures.is in
    subst (IsPaths s tb) (sym c.from_residual.ensures)
    (record {
      is = λ end u h.
          let z = here (goal.at.returns-in_err-room c).In-loop-room end u h in
          list_of_lem u ∙ ap path_list_in z.is
          ∙ list_bad z.items z.closing (listed_bad (l.invariant.3 z.items z.closing z.at) c.loop-room-test.ensures path_of (λ t ts. refl)
          (λ t b. path_of_lem t ∙ no (value_of t) (tree_value _ _ _ _ _ t b c.after_prefix.ensures)));
      go = tt;
    })

pub next_tree-j-requires : goal.next_tree-j-requires
next_tree-j-requires c = (c.args.list.text.now, tree_here (goal.at.next_tree-j-requires c).In-loop-room)

pub loop-room-smaller : goal.loop-room-smaller
loop-room-smaller c =
    let a = c.args in
    let u = tree_here (goal.at.loop-room-smaller c).In-loop-room in
    omega (arith, more_in _ _ _ (sym c.loop-room-test.ensures), c.next_tree-j.ensures _ u.0 u.1, tree_pos u.0)

pub loop-room-preserved : goal.loop-room-preserved
loop-room-preserved c =
    let s = c.args.list.text.now in
    let tb = c.args.list.table.now in
    let l = c.loop-room in
    let k = c.in_ok-room.field-0 in
    let is = c.in_ok-room.ensures.is in
    let more : l.n < length l.room = omega (arith, l.invariant.0, l.invariant.1) in (
      omega (arith, l.invariant.0),
      length-set l.room l.n k ∙ l.invariant.1,
      going_put l.room l.n k more l.invariant.1 l.invariant.2 c.in_ok-room.ensures.sized.0 c.in_ok-room.ensures.sized.1,
      λ vs cl h. subst (Listed paths_of _ _ _ vs cl _)
          (sym (ap (wholes s) (put_last l.room l.n k more) ∙ map-append (whole s) (take l.n l.room) (k ∷ [])))
          (listed_next (l.invariant.3 vs cl h) c.loop-room-test.ensures path_of (λ t ts. refl) _ c.next_tree-j.ensures (whole s k)
          (λ u b. path_of_lem u ∙ is (value_of u) (tree_value _ _ _ _ _ u b c.after_prefix.ensures))),
    )

pub returns : goal.returns
returns c =
    let s = c.args.list.text.now in
    let l = c.loop-room in
    record {
      go = subst (λ n. (n ≤ paths_max) × Going (take l.n l.room) 0 (below n)) (sym (length-take-le l.n l.room (omega (arith, l.invariant.0, l.invariant.1)))) (l.invariant.0, l.invariant.2);
      is = λ end u h.
          let t = (goal.at.returns c).After-loop-room in
          let z = the_list _ _ _ _ t.behind-end.ensures (value_of u) (tree_value _ _ _ _ _ u h t.after_prefix-i.ensures) (t.if-not-is.ensures.0 refl) in
          list_of_lem u ∙ ap path_list_in z.is ∙ list_done z.items z.closing (wholes s (take l.n l.room))
          (listed_all (l.invariant.3 z.items z.closing z.at) c.loop-room-test.ensures refl)
          (omega (arith, l.invariant.0, length-map (take l.n l.room) (whole s), length-take-le l.n l.room (omega (arith, l.invariant.0, l.invariant.1))));
    }
