-- The cycle of the layout: what each call needs, and what it has put.
use Rattle.std.proofs.Common.{suc, ◌≡◌, ℕ, ◌+◌, true, List, [], ◌∷◌, ◌++◌, sym, ap, ◌∙◌, subst, add-one, arith, rules}
use Rattle.eon_spec.specs.Tree.{TokenTree, Slice, TokenTrees, variant_of}
use Rattle.eon_spec.specs.Layout.{closing, list_content, no_values, add_indent, settings_of}
use Rattle.eon_one_line.proofs.Rows.{plain_law}
use Rattle.eon_table.specs.TreeAt.{SomeTree, ValueAt, SomePair, PairAt, value_of}
use Rattle.eon_laws.proofs.Records.{tree_size}
use Rattle.eon_table.proofs.Walk.{variant_inside, value_size_lem, tree_pos, value_in, tree_value, more_in}
use Rattle.eon_put.proofs.Going.{put_as}
use Rattle.eon_format.specs.Long.{Found, SoleAt}
use Rattle.eon_format.proofs.Walk.{variant_at, tree_lines, tree_gap, value_at, pair_next, suffix_there, through_tree, through_step, through_close, paired_pair, paired_step, list_content_lem, list_body, map_body, list_to, map_to}
use Rattle.eon_format.proofs.Steps.{several, map_law, paired_closed, pair_law, indented_law, value_list, value_map, value_variant, not_flat, list_value, map_value_lem, variant_value, lines_value, shared_value, blank_value, list_shared, map_shared, container_map}
use Rattle.eon_format.proofs.items.Layout.+layout.Given.{Over}
use Rattle.eon_format.proofs.items.Layout.+layout.Goals as goal
use Rattle.eon_format.proofs.items.Layout.+layout.Goals.{indented_key_value-After-after_prefix-w, list-In-loop-self, map_content-After-next_tree-index, map_content-In-loop-self, variant-In-Some}

pub container-is_flat-requires-clause-inside : goal.container-is_flat-requires-clause-inside
container-is_flat-requires-clause-inside g t c = value_in _ _ _ _ c.requires.value.1

pub container-is_flat-requires-clause-something : goal.container-is_flat-requires-clause-something
container-is_flat-requires-clause-something g t c = several _ _ _ _ c.requires.value.1 c.requires.something

pub container-put_flat-requires-clause-inside : goal.container-put_flat-requires-clause-inside
container-put_flat-requires-clause-inside g t c = value_in _ _ _ _ c.requires.value.1

pub container-put_flat-requires-clause-something : goal.container-put_flat-requires-clause-something
container-put_flat-requires-clause-something g t c = several _ _ _ _ c.requires.value.1 c.requires.something

pub container-list-requires : goal.container-list-requires
container-list-requires g t c κs within = (omega (arith, c.decreases), (within, value_list _ _ _ _ c.requires.value.1 (c.is.ensures.0 c.if-is.true)))

pub container-returns-then-is : goal.container-returns-then-is
container-returns-then-is g t c v h = list_value _ _ _ _ _ g.S.Sink.puts v h (sym c.is_flat.ensures ∙ c.if-is_flat.false) (c.is.ensures.0 c.if-is.true) c.list.ensures

pub container-map-requires : goal.container-map-requires
container-map-requires g t c κs within = (omega (arith, c.decreases), (within, value_map _ _ _ _ c.requires.value.1 (c.is-else-is.ensures.0 c.if-is-2.true)))

pub container-returns-then-is-2 : goal.container-returns-then-is-2
container-returns-then-is-2 g t c v h = map_value_lem _ _ _ _ _ g.S.Sink.puts v h (sym c.is_flat.ensures ∙ c.if-is_flat.false) (c.is-else-is.ensures.0 c.if-is-2.true) c.map.ensures

pub container-variant-requires : goal.container-variant-requires
container-variant-requires g t c κs within = let f = sym c.is_flat.ensures ∙ c.if-is_flat.false in
    (omega (arith, c.decreases), (within, (value_variant _ _ _ _ c.requires.value.1 f (search rules) (search rules), f)))

pub container-returns-else-is-2 : goal.container-returns-else-is-2
container-returns-else-is-2 g t c v h = variant_value _ _ _ _ _ g.S.Sink.puts v h (sym c.is_flat.ensures ∙ c.if-is_flat.false) (search rules) (search rules) c.variant.ensures

-- ---- a key and its value

pub indented_key_value-value-requires : goal.indented_key_value-value-requires
indented_key_value-value-requires g t c κs within = let p = c.requires.pair in
    (omega (arith, c.decreases, c.after_prefix-k.ensures.from), (within, (value_of p.0, tree_value _ _ _ _ _ p.0 p.2.key c.after_prefix-k.ensures)))

-- where the pair's value stands
value_there : (g : Over) (t : ℕ) (d : indented_key_value-After-after_prefix-w g t) (x y : TokenTree) → PairAt d.args.self.sheet.text.now d.args.self.sheet.table.now d.args.end d.args.node.index x y
    → ValueAt d.args.self.sheet.text.now d.args.self.sheet.table.now d.after_prefix-w.result (value_of y)
value_there g t d x y h = tree_value _ _ _ _ _ y (value_at h d.next_tree-v.ensures) d.after_prefix-w.ensures

pub indented_key_value-value-requires-2 : goal.indented_key_value-value-requires-2
indented_key_value-value-requires-2 g t c κs within = let p = c.requires.pair in
    let x = (goal.at.indented_key_value-value-requires-2 g t c).After-after_prefix-w in
    (omega (arith, c.decreases, c.next_tree-v.ensures _ p.0 p.2.key, c.after_prefix-w.ensures.from), (within, (value_of p.1, value_there g t x p.0 p.1 p.2)))

pub indented_key_value-behind-requires : goal.indented_key_value-behind-requires
indented_key_value-behind-requires g t c = let p = c.requires.pair in
    value_in _ _ _ _ (value_there g t (goal.at.indented_key_value-behind-requires g t c).After-after_prefix-w p.0 p.1 p.2)

pub indented_key_value-returns : goal.indented_key_value-returns
indented_key_value-returns g t c x y h =
    let o = settings_of c.args.self.options.now in
    let k = c.after_prefix-k.ensures in
    let w = c.after_prefix-w.ensures in
    let v = value_at h c.next_tree-v.ensures in
    let append = g.met.S.Sink.append in
    put_as g.S.Sink.puts (pair_law o c.args.node.depth x y (tree_lines _ _ _ _ _ _ _ x h.key k) (tree_lines _ _ _ _ _ _ _ y v w))
    (append _ _ _ _ _ (append _ _ _ _ _ (append _ _ _ _ _ (append _ _ _ _ _ (append _ _ _ _ _ c.indented_comments.ensures c.lead.ensures) (c.value.ensures _ (tree_value _ _ _ _ _ x h.key k))) (put_as g.S.Sink.puts c.text.ensures c.put_all.ensures)) (c.value-2.ensures _ (tree_value _ _ _ _ _ y v w)))
    (c.suffix_comment.ensures o _ (suffix_there _ _ y v w c.behind.ensures)))

-- ---- a tree

pub indented_value-value-requires : goal.indented_value-value-requires
indented_value-value-requires g t c κs within = let u = c.requires.tree in
    (omega (arith, c.decreases, c.after_prefix-index.ensures.from), (within, (value_of u.0, tree_value _ _ _ _ _ u.0 u.1 c.after_prefix-index.ensures)))

pub indented_value-behind-requires : goal.indented_value-behind-requires
indented_value-behind-requires g t c = let u = c.requires.tree in value_in _ _ _ _ (tree_value _ _ _ _ _ u.0 u.1 c.after_prefix-index.ensures)

pub indented_value-returns : goal.indented_value-returns
indented_value-returns g t c u h =
    let d = c.after_prefix-index.ensures in
    let append = g.met.S.Sink.append in
    put_as g.S.Sink.puts
    (indented_law _ _ u (tree_lines _ _ _ _ _ _ _ u h d))
    (append _ _ _ _ _ (append _ _ _ _ _ c.lead.ensures (c.value.ensures _ (tree_value _ _ _ _ _ u h d))) (c.suffix_comment.ensures (settings_of c.args.self.options.now) _ (suffix_there _ _ u h d c.behind.ensures)))

-- ---- a list

-- the tree at the turn's record
list_tree : (g : Over) (t : ℕ) (d : list-In-loop-self g t) → SomeTree d.args.self.sheet.text.now d.args.self.sheet.table.now d.behind-end.result d.loop-self.index
list_tree g t d =
    let q = d.requires.list in
    through_tree g.S.Sink.puts (d.loop-self.invariant.1 q.0 q.1 (list_to _ _ _ _ d.behind-end.ensures q.0 q.1 q.2)) (sym d.more.ensures ∙ d.loop-self-test.true)

pub list-behind-end-requires : goal.list-behind-end-requires
list-behind-end-requires g t c = value_in _ _ _ _ c.requires.list.2

pub list-overflow_add-base : goal.list-overflow_add-base
list-overflow_add-base g t c = omega (arith, value_in _ _ _ _ c.requires.list.2)

pub list-overflow_add-depth : goal.list-overflow_add-depth
list-overflow_add-depth g t c = omega (arith, value_in _ _ _ _ c.requires.list.2, c.args.node.shallow)

pub list-indented_value-requires : goal.list-indented_value-requires
list-indented_value-requires g t c κs within =
    (omega (arith, c.decreases, c.loop-self.invariant.0, value_in _ _ _ _ c.requires.list.2), (within, list_tree g t (goal.at.list-indented_value-requires g t c).In-loop-self))

pub list-next_tree-index-requires : goal.list-next_tree-index-requires
list-next_tree-index-requires g t c = (_, list_tree g t (goal.at.list-next_tree-index-requires g t c).In-loop-self)

pub list-loop-self-smaller : goal.list-loop-self-smaller
list-loop-self-smaller g t c = let u = list_tree g t (goal.at.list-loop-self-smaller g t c).In-loop-self in
    omega (arith, c.next_tree-index.ensures _ u.0 u.1, tree_pos u.0, more_in _ _ _ (sym c.more.ensures ∙ c.loop-self-test.true))

pub list-loop-self-preserved : goal.list-loop-self-preserved
list-loop-self-preserved g t c =
    let puts = g.S.Sink.puts in
    let append = g.met.S.Sink.append in
    let u = list_tree g t (goal.at.list-loop-self-preserved g t c).In-loop-self in
    let b = c.loop-self.invariant.0 in (
      omega (arith, c.next_tree-index.ensures _ u.0 u.1),
      λ vs cl h. through_step puts append _ _ (list_body _ _) (c.loop-self.invariant.1 vs cl h) (sym c.more.ensures ∙ c.loop-self-test.true) b
          (λ t k. append _ _ _ _ _ (append _ _ _ _ _ (put_as puts (tree_gap _ _ (settings_of c.args.self.options.now) _ _ _ t k) c.gap.ensures) (c.indented_value.ensures t k)) c.newline.ensures)
          (c.next_tree-index.ensures _),
    )

pub list-returns : goal.list-returns
list-returns g t c vs cl v =
    let o = settings_of c.args.self.options.now in
    let n = c.args.node.depth in
    let h = list_to _ _ _ _ c.behind-end.ensures vs cl v in
    put_as g.S.Sink.puts (ap (λ (x : ℕ). (91 ∷ []) ++ o.newline ++ list_content o x true vs ++ closing o (suc n) (no_values vs) cl ++ add_indent o n ++ (93 ∷ [])) (add-one n))
    (through_close g.S.Sink.puts g.met.S.Sink.append o n 93 vs h (c.loop-self.invariant.1 vs cl h) (sym c.more.ensures ∙ c.loop-self-test.false) (list_content_lem o (n + 1)) c.open_lines.ensures c.closing.ensures c.close_lines.ensures)

-- ---- a map

pub map-overflow_add-depth : goal.map-overflow_add-depth
map-overflow_add-depth g t c = omega (arith, value_in _ _ _ _ c.requires.map.2, c.args.node.shallow)

pub map-overflow_add-index : goal.map-overflow_add-index
map-overflow_add-index g t c = omega (arith, value_in _ _ _ _ c.requires.map.2)

pub map-behind-requires : goal.map-behind-requires
map-behind-requires g t c = value_in _ _ _ _ c.requires.map.2

pub map-map_content-requires : goal.map-map_content-requires
map-map_content-requires g t c κs within = let q = c.requires.map in
    (omega (arith, c.decreases, value_in _ _ _ _ c.requires.map.2), (within, (q.0, q.1, map_to _ _ _ _ c.behind.ensures q.0 q.1 q.2)))

pub map-returns : goal.map-returns
map-returns g t c kvs cl h = let append = g.met.S.Sink.append in
    put_as g.S.Sink.puts (map_law _ _ kvs cl)
    (append _ _ _ _ _ (append _ _ _ _ _ c.open_lines.ensures (c.map_content.ensures kvs cl (map_to _ _ _ _ c.behind.ensures kvs cl h))) c.close_lines.ensures)

-- the pair at the turn's record
map_pair : (g : Over) (t : ℕ) (d : map_content-In-loop-self g t) → SomePair d.args.self.sheet.text.now d.args.self.sheet.table.now d.args.end d.loop-self.index
map_pair g t d = let q = d.requires in paired_pair g.S.Sink.puts (d.loop-self.invariant.1 q.0 q.1 q.2) (sym d.more.ensures ∙ d.loop-self-test.true)

-- the record after it
map_next : (g : Over) (t : ℕ) (d : map_content-After-next_tree-index g t) (k v : TokenTree) → PairAt d.args.self.sheet.text.now d.args.self.sheet.table.now d.args.end d.loop-self.index k v → d.next_tree-index.result ≡ d.loop-self.index + tree_size k + tree_size v
map_next g t d k v p = pair_next p d.next_tree-value.ensures d.next_tree-index.ensures

pub map_content-indented_key_value-requires : goal.map_content-indented_key_value-requires
map_content-indented_key_value-requires g t c κs within =
    (omega (arith, c.decreases, c.loop-self.invariant.0), (within, map_pair g t (goal.at.map_content-indented_key_value-requires g t c).In-loop-self))

pub map_content-next_tree-value-requires : goal.map_content-next_tree-value-requires
map_content-next_tree-value-requires g t c = let p = map_pair g t (goal.at.map_content-next_tree-value-requires g t c).In-loop-self in (_, (p.0, p.2.key))

pub map_content-next_tree-index-requires : goal.map_content-next_tree-index-requires
map_content-next_tree-index-requires g t c = let p = map_pair g t (goal.at.map_content-next_tree-index-requires g t c).In-loop-self in (_, (p.1, value_at p.2 c.next_tree-value.ensures))

pub map_content-loop-self-smaller : goal.map_content-loop-self-smaller
map_content-loop-self-smaller g t c = let x = goal.at.map_content-loop-self-smaller g t c in
    let p = map_pair g t x.In-loop-self in
    omega (arith, map_next g t x.After-next_tree-index p.0 p.1 p.2, tree_pos p.0, more_in _ _ _ (sym c.more.ensures ∙ c.loop-self-test.true))

pub map_content-loop-self-preserved : goal.map_content-loop-self-preserved
map_content-loop-self-preserved g t c =
    let x = goal.at.map_content-loop-self-preserved g t c in
    let puts = g.S.Sink.puts in
    let append = g.met.S.Sink.append in
    let p = map_pair g t x.In-loop-self in
    let b = c.loop-self.invariant.0 in (
      omega (arith, map_next g t x.After-next_tree-index p.0 p.1 p.2),
      λ kvs cl h. paired_step puts append _ _ (map_body _ _) (c.loop-self.invariant.1 kvs cl h) (sym c.more.ensures ∙ c.loop-self-test.true) b
          (λ k v d. append _ _ _ _ _ (append _ _ _ _ _ (put_as puts (tree_gap _ _ (settings_of c.args.self.options.now) _ _ _ k d.key) c.gap.ensures) (c.indented_key_value.ensures k v d)) c.newline.ensures)
          (map_next g t x.After-next_tree-index),
    )

pub map_content-returns : goal.map_content-returns
map_content-returns g t c kvs cl h = paired_closed g.S.Sink.puts g.met.S.Sink.append _ _ kvs h (c.loop-self.invariant.1 kvs cl h) (sym c.more.ensures ∙ c.loop-self-test.false) c.closing.ensures

-- ---- a container within a variant's brackets

pub shared-returns-then-size-eq1 : goal.shared-returns-then-size-eq1
shared-returns-then-size-eq1 g t c v h d = blank_value _ _ _ _ _ g.S.Sink.puts v h d (sym c.size.ensures.value ∙ c.if-size-eq1.true) c.put_blank.ensures

pub shared-list-requires : goal.shared-list-requires
shared-list-requires g t c κs within = (omega (arith, c.decreases), (within, value_list _ _ _ _ c.requires.container.1 (c.is.ensures.0 c.if-is.true)))

pub shared-returns-then-is : goal.shared-returns-then-is
shared-returns-then-is g t c v h d = list_shared _ _ _ _ _ g.S.Sink.puts v h (λ e. c.if-size-eq1.false (c.size.ensures.value ∙ e)) (c.is.ensures.0 c.if-is.true) c.list.ensures

pub shared-map-requires : goal.shared-map-requires
shared-map-requires g t c κs within = let q = c.requires.container in (omega (arith, c.decreases), (within, container_map _ _ _ _ q.1 q.2 (search rules)))

pub shared-returns-else-is : goal.shared-returns-else-is
shared-returns-else-is g t c v h d = map_shared _ _ _ _ _ g.S.Sink.puts v h d (λ e. c.if-size-eq1.false (c.size.ensures.value ∙ e)) (search rules) c.map.ensures

-- ---- a value

pub value-returns-then-size-eq1 : goal.value-returns-then-size-eq1
value-returns-then-size-eq1 g t c v h = put_as g.S.Sink.puts (plain_law _ _ _ _ _ v h (sym (value_size_lem _ _ _ v h) ∙ sym c.size.ensures.value ∙ c.if-size-eq1.true)) c.put_plain.ensures

-- ---- a variant

pub variant-behind-end-requires : goal.variant-behind-end-requires
variant-behind-end-requires g t c = value_in _ _ _ _ c.requires.variant.3

pub variant-overflow_add-node : goal.variant-overflow_add-node
variant-overflow_add-node g t c = omega (arith, value_in _ _ _ _ c.requires.variant.3)

pub variant-sole-requires-clause-there : goal.variant-sole-requires-clause-there
variant-sole-requires-clause-there g t c = omega (arith, c.behind-end.ensures, several _ _ _ _ c.requires.variant.3 (not_flat _ _ _ c.requires.lines))

pub variant-sole-requires-clause-inside : goal.variant-sole-requires-clause-inside
variant-sole-requires-clause-inside g t c = let q = c.requires.variant in (_, (q.1, q.2, variant_at _ _ _ _ c.behind-end.ensures q.0 q.1 q.2 q.3))

pub variant-long_variant-requires-clause-there : goal.variant-long_variant-requires-clause-there
variant-long_variant-requires-clause-there g t c = value_in _ _ _ _ c.requires.variant.3

pub variant-long_variant-requires-clause-inside : goal.variant-long_variant-requires-clause-inside
variant-long_variant-requires-clause-inside g t c = let q = c.requires.variant in (q.1, q.2, variant_inside _ _ _ q.0 q.1 q.2 q.3)

pub variant-returns-in-None : goal.variant-returns-in-None
variant-returns-in-None g t c m vs cl h =
    let lacks = subst (SoleAt _ _ _ vs cl) c.in-None.is (c.sole.ensures _ vs cl (variant_at _ _ _ _ c.behind-end.ensures m vs cl h)) in
    lines_value _ _ _ _ _ g.S.Sink.puts m vs cl h c.requires.lines lacks
    (g.met.S.Sink.append _ _ _ _ _ (put_as g.S.Sink.puts c.text_at.ensures c.put_all.ensures) (c.long_variant.ensures vs cl (variant_inside _ _ _ m vs cl h)))

-- the sole list or map
variant_sole : (g : Over) (t : ℕ) (d : variant-In-Some g t) (m : Slice) (vs : TokenTrees) (cl : List Slice) → ValueAt d.args.self.sheet.text.now d.args.self.sheet.table.now d.args.node.index (variant_of m vs cl)
    → Found d.args.self.sheet.text.now d.args.self.sheet.table.now (d.args.node.index + 1) vs cl d.in-Some.index
variant_sole g t d m vs cl h = subst (SoleAt _ _ _ vs cl) d.in-Some.is (d.sole.ensures _ vs cl (variant_at _ _ _ _ d.behind-end.ensures m vs cl h))

pub variant-invariant_of-shared : goal.variant-invariant_of-shared
variant-invariant_of-shared g t c = let q = c.requires.variant in
    record { shallow = omega (arith, c.args.node.shallow, (variant_sole g t (goal.at.variant-invariant_of-shared g t c).In-Some q.0 q.1 q.2 q.3).from) }

pub variant-shared-requires : goal.variant-shared-requires
variant-shared-requires g t c κs within = let x = goal.at.variant-shared-requires g t c in
    let q = c.requires.variant in
    let f = variant_sole g t x.In-Some q.0 q.1 q.2 q.3 in
    (omega (arith, c.decreases, f.from, value_in _ _ _ _ c.requires.variant.3), (within, (f.val, f.stands, f.container)))

pub variant-returns-in-Some : goal.variant-returns-in-Some
variant-returns-in-Some g t c m vs cl h =
    let append = g.met.S.Sink.append in
    let f = variant_sole g t (goal.at.variant-returns-in-Some g t c).In-Some m vs cl h in
    shared_value _ _ _ _ _ g.S.Sink.puts m vs cl f.val h c.requires.lines f.only (f.shares _ _)
    (append _ _ _ _ _ (put_as g.S.Sink.puts c.text_at.ensures c.put_all.ensures) (append _ _ _ _ _ (append _ _ _ _ _ c.put.ensures (c.shared.ensures f.val f.stands f.container)) c.put-in-Some.ensures))
