use Rattle.std.proofs.Common.{Some, ◌≡◌, refl, sym, ap, ap₂, ◌∙◌, subst, length, length-set, ◌<◌, arith}
use Rattle.std.proofs.lemmas.Bool.{false≢true}
use Rattle.eon_spec.specs.Base.{within}
use Rattle.eon_spec.specs.Tree.{TokenValue}
use Rattle.eon_spec.specs.Lookup.{key_of, keys_of, path_in}
use Rattle.eon_table.specs.Words.{part}
use Rattle.eon_table.specs.TreeAt.{SomeTree, ValueAt}
use Rattle.eon_table.proofs.Walk.{value_kind, value_in, more_in, tree_pos}
use Rattle.eon_lookup.specs.declared.paths.Place.{Place}
use Rattle.eon_lookup.specs.Keys.{whole}
use Rattle.eon_lookup.proofs.Containers.{TheList, the_list, in_list}
use Rattle.eon_lookup.proofs.Turns.{no_key, a_key}
use Rattle.eon_lookup.proofs.Pairs.{key_here_lem}
use Rattle.eon_lookup.proofs.Forms.{Listed, listed_start, listed_all, listed_tree, listed_next, listed_bad, listed_long, whole_none, whole_length, key_part, key_put, path_other, path_done, path_empty, path_bad, nine_keys}
use Rattle.eon_lookup.proofs.paths.read_path.Goals as goal
use Rattle.eon_lookup.proofs.paths.read_path.Goals.{In-loop-list, After-loop-list}

pub returns-then-not-is : goal.returns-then-not-is
returns-then-not-is c = let a = c.args in
    record { is = λ v h. path_other v (λ e. false≢true (c.if-not-is.ensures.1 (value_kind a.list.text.now a.list.table.now a.i v h ∙ e))); sized = tt }

pub loop-list-init : goal.loop-list-init
loop-list-init c = let a = c.args in
    let n = c.default-path.ensures in
    (omega (arith, n.1), n.0.long, λ vs cl h. subst (Listed keys_of _ _ _ vs cl _) (sym (whole_none _ c.default-path.result n.1)) (listed_start keys_of _ _ _ vs cl _ (in_list a.i c.behind-end.ensures h)))

-- the list, in a turn or behind the last
here : (t : In-loop-list) (v : TokenValue) (h : ValueAt t.args.list.text.now t.args.list.table.now t.args.i v) → TheList t.args.list.text.now t.args.list.table.now t.args.i t.behind-end.result t.behind-end.ensures v h
here t v h = the_list _ _ _ _ t.behind-end.ensures v h (t.if-not-is.ensures.0 refl)

tree_here : (t : In-loop-list) (v : TokenValue) → ValueAt t.args.list.text.now t.args.list.table.now t.args.i v → SomeTree t.args.list.text.now t.args.list.table.now t.behind-end.result t.loop-list.j
tree_here t v h =
    let z = here t v h in
    listed_tree (t.loop-list.invariant.2 z.items z.closing z.at) t.loop-list-test.ensures

pub returns-then-path-eq-KEYS_MAX : goal.returns-then-path-eq-KEYS_MAX
returns-then-path-eq-KEYS_MAX c =
    let s = c.args.list.text.now in
    let l = c.loop-list in
    let full : l.path.len ≡ 8 = omega arith in
    record {
      sized = tt;
      is = λ v h.
          let z = here (goal.at.returns-then-path-eq-KEYS_MAX c).In-loop-list v h in
          ap path_in z.is
          ∙ listed_long (l.invariant.2 z.items z.closing z.at) c.loop-list-test.ensures key_of (λ t ts. refl) (λ ks. within 1 8 (length ks))
          (λ ks f. nine_keys ks (omega (arith, f, full, whole_length s l.path)));
    }

pub returns-then-not-is_key : goal.returns-then-not-is_key
returns-then-not-is_key c =
    let s = c.args.list.text.now in
    let tb = c.args.list.table.now in
    let l = c.loop-list in
    let k = c.after_prefix-k.result in
    record {
      sized = tt;
      is = λ v h.
          let z = here (goal.at.returns-then-not-is_key c).In-loop-list v h in
          ap path_in z.is
          ∙ path_bad z.items z.closing (listed_bad (l.invariant.2 z.items z.closing z.at) c.loop-list-test.ensures key_of (λ t ts. refl)
          (λ u b. key_here_lem s tb c.behind-end.result l.j k u b c.after_prefix-k.ensures ∙ no_key s tb k (sym c.if-not-is_key.ensures)));
    }

pub next_tree-j-requires : goal.next_tree-j-requires
next_tree-j-requires c = (c.args.list.text.now, tree_here (goal.at.next_tree-j-requires c).In-loop-list c.requires.0 c.requires.1)

pub loop-list-smaller : goal.loop-list-smaller
loop-list-smaller c =
    let a = c.args in
    let u = tree_here (goal.at.loop-list-smaller c).In-loop-list c.requires.0 c.requires.1 in
    omega (arith, more_in _ _ _ (sym c.loop-list-test.ensures), c.next_tree-j.ensures _ u.0 u.1, tree_pos u.0)

pub loop-list-preserved : goal.loop-list-preserved
loop-list-preserved c =
    let a = c.args in
    let s = a.list.text.now in
    let tb = a.list.table.now in
    let l = c.loop-list in
    let k = c.after_prefix-k.result in
    let key = sym c.if-not-is_key.ensures in
    let w : Place = record { start = c.start.result; end = c.text_end.result } in (
      omega (arith, l.invariant.0),
      length-set l.path.places l.path.len w ∙ l.invariant.1,
      λ vs cl h. subst (Listed keys_of _ _ _ vs cl _)
          (sym (key_put s l.path.places l.path.len w (omega (arith, l.invariant.0, l.invariant.1))))
          (listed_next (l.invariant.2 vs cl h) c.loop-list-test.ensures key_of (λ t ts. refl) _ c.next_tree-j.ensures (part s c.start.result c.text_end.result)
          (λ u b. key_here_lem s tb c.behind-end.result l.j k u b c.after_prefix-k.ensures ∙ a_key s tb k key ∙ ap Some (key_part s tb k key ∙ ap₂ (part s) (sym c.start.ensures.value) (sym c.text_end.ensures.value)))),
    )

-- all keys were read
behind : (t : After-loop-list) (v : TokenValue) (h : ValueAt t.args.list.text.now t.args.list.table.now t.args.i v)
    → (z : TheList t.args.list.text.now t.args.list.table.now t.args.i t.behind-end.result t.behind-end.ensures v h) × (keys_of z.items ≡ Some (whole t.args.list.text.now t.loop-list.path))
behind t v h =
    let z = the_list _ _ _ _ t.behind-end.ensures v h (t.if-not-is.ensures.0 refl) in
    (z, listed_all (t.loop-list.invariant.2 z.items z.closing z.at) t.loop-list-test.ensures refl)

pub returns-then-path-eq0 : goal.returns-then-path-eq0
returns-then-path-eq0 c =
    let s = c.args.list.text.now in
    let l = c.loop-list in
    record {
      sized = tt;
      is = λ v h.
          let z = behind (goal.at.returns-then-path-eq0 c).After-loop-list v h in
          ap path_in z.0.is ∙ path_empty z.0.items z.0.closing l.path.len (whole s l.path) z.1 (whole_length s l.path) (omega arith);
    }

pub returns : goal.returns
returns c =
    let s = c.args.list.text.now in
    let l = c.loop-list in
    let some : 0 < l.path.len = omega arith in
    record {
      sized = (some, l.invariant.0);
      is = λ v h.
          let z = behind (goal.at.returns c).After-loop-list v h in
          ap path_in z.0.is ∙ path_done z.0.items z.0.closing l.path.len (whole s l.path) z.1 (whole_length s l.path) some l.invariant.0;
    }

pub overflow_add-j : goal.overflow_add-j
overflow_add-j c = omega (arith, value_in _ _ _ _ c.requires.1, c.ranges.list)
