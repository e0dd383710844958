-- From the table's words to the trees that it holds.
use Rattle.std.proofs.Common.{None, Some, ◌≡◌, refl, sym, ap, ◌∙◌, subst, Bool, true, false, ◌&&◌, ◌||◌, not, cond, List, [], ◌∷◌, ℕ, suc, ◌+◌, ◌-◌, ◌≤◌, ◌<◌, arith, add-zero, zero-add, add_assoc, length, ltb, leb, eqb, le-leb, eq-eqb, ne_eqb}
use Rattle.std.proofs.Math.Bool.{and-true, and-false}
use Rattle.std.proofs.Math.Decide.{dec_le}
use Rattle.std.proofs.lemmas.Bool.{lt-leb}
use Rattle.eon_spec.specs.Base.{elem}
use Rattle.eon_spec.specs.Tree.{Slice, TokenTree, TokenValue, TokenTrees, KeyValues, tree, identifier, number, quoted_string, list_of, map_of, variant_of, no_trees, ◌∷ᵗ◌, no_pairs, pair}
use Rattle.eon_spec.specs.Layout.{is_empty, no_values, no_key_values, count_trees, simple_value, is_simple, is_number, is_number_tree, value_width, tree_width, all_trees, sum_widths, values_on_one_line, on_one_line}
use Rattle.eon_one_line.specs.Flat.{simple_at, width_at, line_at, one_line_at, Plain}
use Rattle.eon_laws.proofs.Facts.{clash, and_left, and_right}
use Rattle.eon_one_line.proofs.Words.{simple_prefix, simple_long, simple_suffix, simple_string, simple_other, one_many, one_few, line_closing, line_stop, line_go, line_end_lem}
use Rattle.eon_table.specs.Words.{word, has_suffix}
use Rattle.eon_table.specs.TreeAt.{LeafAt, HeadAt, TreeAt, ValueAt, InsideAt, kind_of}
use Rattle.eon_laws.proofs.Records.{tree_size, value_size, trees_size, pairs_size}
use Rattle.eon_table.proofs.Parts.{part_length}
use Rattle.eon_table.proofs.Walk.{value_pos, tree_pos, value_kind, value_size_lem, value_not, bare_value_lem, bare_suffix, tree_not_closing, inside_next, inside_tree, inside_in_lem, inside_closing, inside_end}

module _ (s tb : List ℕ) where
  pub value_plain : (i : ℕ) (v : TokenValue) → ValueAt s tb i v → Plain s tb i
  unfolding ValueAt
  value_plain i (identifier b) h e f = h.in_text
  value_plain i (number b) h e f = h.in_text
  value_plain i (quoted_string b) h e f = h.in_text
  value_plain i (list_of vs cl) h e f = absurd (e h.0.is_kind)
  value_plain i (map_of kvs cl) h e f = absurd (f h.0.is_kind)
  value_plain i (variant_of n vs cl) h e f = h.3

  -- ---- is_simple

  module _ (end i : ℕ) where
    empty_simple : (k : ℕ) → HeadAt s tb k 1 i → k < 7 → (k ≡ 3 → ⊥) → has_suffix tb end (i + 1) ≡ false → true ≡ simple_at s tb end i
    empty_simple k h a b e =
        let q : word tb i 0 ≡ k = h.is_kind in
        simple_other s tb end i (λ z. omega arith) h.is_size e (λ z. b (sym q ∙ z))

    full_simple : (k m : ℕ) → HeadAt s tb k m i → k < 7 → (m ≡ 1 → ⊥) → false ≡ simple_at s tb end i
    full_simple k m h a b =
        let q : word tb i 0 ≡ k = h.is_kind in
        simple_long s tb end i (λ z. omega arith) (λ z. b (sym h.is_size ∙ z))

    trees_simple : (k : ℕ) (vs : TokenTrees) (cl : List Slice) → HeadAt s tb k (1 + (trees_size vs + length cl)) i → k < 7 → (k ≡ 3 → ⊥) →
        has_suffix tb end (i + (1 + (trees_size vs + length cl))) ≡ false → (no_values vs && is_empty cl) ≡ simple_at s tb end i
    unfolding trees_size
    trees_simple k no_trees [] h a b e = empty_simple k h a b e
    trees_simple k no_trees (c ∷ cs) h a b e = full_simple k _ h a (λ z. omega arith)
    trees_simple k (t ∷ᵗ ts) cl h a b e = let p : 1 ≤ tree_size t = tree_pos t in full_simple k _ h a (λ z. omega arith)

    pairs_simple : (k : ℕ) (vs : KeyValues) (cl : List Slice) → HeadAt s tb k (1 + (pairs_size vs + length cl)) i → k < 7 → (k ≡ 3 → ⊥) →
        has_suffix tb end (i + (1 + (pairs_size vs + length cl))) ≡ false → (no_key_values vs && is_empty cl) ≡ simple_at s tb end i
    unfolding pairs_size
    pairs_simple k no_pairs [] h a b e = empty_simple k h a b e
    pairs_simple k no_pairs (c ∷ cs) h a b e = full_simple k _ h a (λ z. omega arith)
    pairs_simple k (pair x y ts) cl h a b e = let p : 1 ≤ tree_size x = tree_pos x in full_simple k _ h a (λ z. omega arith)

    value_simple : (v : TokenValue) → ValueAt s tb i v → has_suffix tb end (i + value_size v) ≡ false → simple_value v ≡ simple_at s tb end i
    unfolding ValueAt value_size
    value_simple (identifier b) h e = simple_other s tb end i (value_not s tb i (identifier b) h) h.is_size e (λ z. let q : word tb i 0 ≡ 1 = h.is_kind in omega arith)
    value_simple (number b) h e = simple_other s tb end i (value_not s tb i (number b) h) h.is_size e (λ z. let q : word tb i 0 ≡ 2 = h.is_kind in omega arith)
    value_simple (quoted_string b) h e = ap (λ (x : List ℕ). not (elem 10 x)) (sym h.bytes) ∙ simple_string s tb end i (value_not s tb i (quoted_string b) h) h.is_size e h.is_kind
    value_simple (list_of vs cl) h e = trees_simple 4 vs cl h.0 (omega arith) (λ z. omega arith) e
    value_simple (map_of kvs cl) h e = pairs_simple 5 kvs cl h.0 (omega arith) (λ z. omega arith) e
    value_simple (variant_of n vs cl) h e = trees_simple 6 vs cl h.0 (omega arith) (λ z. omega arith) e

    with_suffix_lem : (v : TokenValue) → ValueAt s tb i v → has_suffix tb end (i + value_size v) ≡ true → false ≡ simple_at s tb end i
    with_suffix_lem v h e = go (dec_le (value_size v) 1)
      where
        go : Dec (value_size v ≤ 1) → false ≡ simple_at s tb end i
        go (yes d) =
            let p : 1 ≤ value_size v = value_pos v in
            let q : value_size v ≡ 1 = omega arith in
            simple_suffix s tb end i (value_not s tb i v h) (value_size_lem s tb i v h ∙ q) (subst (λ (m : ℕ). has_suffix tb end (i + m) ≡ true) q e)
        go (no d) =
            simple_long s tb end i (value_not s tb i v h) (λ z. let q : value_size v ≡ 1 = sym (value_size_lem s tb i v h) ∙ z in omega arith)

    pub simple_law : (t : TokenTree) → TreeAt s tb end i t → is_simple t ≡ simple_at s tb end i
    simple_law (tree sp (c ∷ cs) v x) h = simple_prefix s tb end i (unfold TreeAt in h.0.0.is_kind)
    simple_law (tree sp [] v None) h = value_simple v (bare_value_lem s tb end i sp v None h) (bare_suffix s tb end i sp v None h)
    simple_law (tree sp [] v (Some c)) h = with_suffix_lem v (bare_value_lem s tb end i sp v (Some c) h) (bare_suffix s tb end i sp v (Some c) h).0

-- ---- should_format_values_on_one_line

numbers_on : (n b m : Bool) → (cond n b false && m) ≡ (b && (n && m))
numbers_on true b m = refl
numbers_on false true m = refl
numbers_on false false m = refl

whole_line : (a n m : Bool) → ((a && true) && (n || m)) ≡ (a && cond n true m)
whole_line true true m = refl
whole_line true false m = refl
whole_line false n m = refl

empty_size : (vs : TokenTrees) (cl : List Slice) → (no_values vs && is_empty cl) ≡ true → 1 + (trees_size vs + length cl) ≡ 1
unfolding trees_size
empty_size no_trees [] e = refl
empty_size no_trees (c ∷ cs) e = clash e refl
empty_size (t ∷ᵗ ts) cl e = clash e refl

empty_pairs : (vs : KeyValues) (cl : List Slice) → (no_key_values vs && is_empty cl) ≡ true → 1 + (pairs_size vs + length cl) ≡ 1
unfolding pairs_size
empty_pairs no_pairs [] e = refl
empty_pairs no_pairs (c ∷ cs) e = clash e refl
empty_pairs (pair k v kvs) cl e = clash e refl

pub value_one : (v : TokenValue) → simple_value v ≡ true → value_size v ≡ 1
unfolding value_size
value_one (identifier b) e = refl
value_one (number b) e = refl
value_one (quoted_string b) e = refl
value_one (list_of vs cl) e = empty_size vs cl e
value_one (map_of kvs cl) e = empty_pairs kvs cl e
value_one (variant_of n vs cl) e = empty_size vs cl e

pub simple_size : (t : TokenTree) → is_simple t ≡ true → tree_size t ≡ 1
unfolding tree_size
simple_size (tree sp (c ∷ cs) v x) e = clash e refl
simple_size (tree sp [] v (Some c)) e = clash e refl
simple_size (tree sp [] v None) e = let q : value_size v ≡ 1 = value_one v e in rw q

pub count_most : (vs : TokenTrees) → count_trees vs ≤ trees_size vs
unfolding trees_size
count_most no_trees = omega arith
count_most (t ∷ᵗ ts) =
    let h : count_trees ts ≤ trees_size ts = count_most ts in
    let p : 1 ≤ tree_size t = tree_pos t in
    omega arith

pub count_simple : (vs : TokenTrees) → all_trees is_simple vs ≡ true → count_trees vs ≡ trees_size vs
unfolding trees_size
count_simple no_trees e = refl
count_simple (t ∷ᵗ ts) e =
    let h : count_trees ts ≡ trees_size ts = count_simple ts (and_right (is_simple t) (all_trees is_simple ts) e) in
    let p : tree_size t ≡ 1 = simple_size t (and_left (is_simple t) (all_trees is_simple ts) e) in
    omega arith

-- what is left of the test
abbrev rest_line : Bool → ℕ → TokenTrees → List Slice → Bool
rest_line b w vs cl = is_empty cl && (all_trees is_simple vs && cond (b && all_trees is_number_tree vs) true (ltb (w + sum_widths vs) 60))

module _ (s tb : List ℕ) where
  kind_number_lem : (i : ℕ) (v : TokenValue) → ValueAt s tb i v → is_number v ≡ eqb (word tb i 0) 2
  kind_number_lem i v h = go v ∙ ap (λ (x : ℕ). eqb x 2) (sym (value_kind s tb i v h))
    where
      go : (v : TokenValue) → is_number v ≡ eqb (kind_of v) 2
      go (identifier b) = refl
      go (number b) = refl
      go (quoted_string b) = refl
      go (list_of vs cl) = refl
      go (map_of kvs cl) = refl
      go (variant_of n vs cl) = refl

  text_width : (i : ℕ) (b : List ℕ) → LeafAt s tb 3 i b → length b + 2 ≡ width_at s tb i
  text_width i b h =
      rw (eq-eqb (word tb i 0) 3 h.is_kind)
      (ap (λ (x : List ℕ). length x + 2) (sym h.bytes) ∙ ap (λ (x : ℕ). x + 2) (part_length s (word tb i 1) (word tb i 2) h.in_text.within))

  other_width : (i k : ℕ) → word tb i 0 ≡ k → (k ≡ 3 → ⊥) → 7 ≡ width_at s tb i
  other_width i k e f = rw (ne_eqb (word tb i 0) 3 (λ z. f (sym e ∙ z)))

  value_width_lem : (i : ℕ) (v : TokenValue) → ValueAt s tb i v → value_width v ≡ width_at s tb i
  value_width_lem i (identifier b) h = other_width i 1 (value_kind s tb i (identifier b) h) (λ z. omega arith)
  value_width_lem i (number b) h = other_width i 2 (value_kind s tb i (number b) h) (λ z. omega arith)
  value_width_lem i (quoted_string b) h = text_width i b (unfold ValueAt in h)
  value_width_lem i (list_of vs cl) h = other_width i 4 (value_kind s tb i (list_of vs cl) h) (λ z. omega arith)
  value_width_lem i (map_of kvs cl) h = other_width i 5 (value_kind s tb i (map_of kvs cl) h) (λ z. omega arith)
  value_width_lem i (variant_of n vs cl) h = other_width i 6 (value_kind s tb i (variant_of n vs cl) h) (λ z. omega arith)

  simple_number : (end i : ℕ) (t : TokenTree) → TreeAt s tb end i t → is_simple t ≡ true → is_number_tree t ≡ eqb (word tb i 0) 2
  simple_number end i (tree sp (c ∷ cs) v x) h e = clash e refl
  simple_number end i (tree sp [] v x) h e = kind_number_lem i v (bare_value_lem s tb end i sp v x h)

  simple_width : (end i : ℕ) (t : TokenTree) → TreeAt s tb end i t → is_simple t ≡ true → tree_width t ≡ width_at s tb i
  simple_width end i (tree sp (c ∷ cs) v x) h e = clash e refl
  simple_width end i (tree sp [] v x) h e = value_width_lem i v (bare_value_lem s tb end i sp v x h)

  module _ (end : ℕ) where
    rest_step : (b : Bool) (w i : ℕ) (t : TokenTree) (ts : TokenTrees) (cl : List Slice) → TreeAt s tb end i t → is_simple t ≡ true →
        rest_line (cond (eqb (word tb i 0) 2) b false) (w + width_at s tb i) ts cl ≡ rest_line b w (t ∷ᵗ ts) cl
    rest_step b w i t ts cl h e =
        ap (λ (z : Bool). is_empty cl && (all_trees is_simple ts && cond z true (ltb (w + width_at s tb i + sum_widths ts) 60))) (numbers_on (eqb (word tb i 0) 2) b (all_trees is_number_tree ts))
        ∙ ap (λ (z : Bool). is_empty cl && (all_trees is_simple ts && cond (b && (z && all_trees is_number_tree ts)) true (ltb (w + width_at s tb i + sum_widths ts) 60))) (sym (simple_number end i t h e))
        ∙ ap (λ (z : ℕ). is_empty cl && (all_trees is_simple ts && cond (b && (is_number_tree t && all_trees is_number_tree ts)) true (ltb z 60))) (add_assoc w (width_at s tb i) (sum_widths ts))
        ∙ ap (λ (z : ℕ). is_empty cl && (all_trees is_simple ts && cond (b && (is_number_tree t && all_trees is_number_tree ts)) true (ltb (w + (z + sum_widths ts)) 60))) (sym (simple_width end i t h e))
        ∙ ap (λ (z : Bool). is_empty cl && ((z && all_trees is_simple ts) && cond (b && (is_number_tree t && all_trees is_number_tree ts)) true (ltb (w + (tree_width t + sum_widths ts)) 60))) (sym e)

    rest_stop : (b : Bool) (w : ℕ) (t : TokenTree) (ts : TokenTrees) (cl : List Slice) → is_simple t ≡ false → rest_line b w (t ∷ᵗ ts) cl ≡ false
    rest_stop b w t ts cl e =
        ap (λ (z : Bool). is_empty cl && ((z && all_trees is_simple ts) && cond (b && (is_number_tree t && all_trees is_number_tree ts)) true (ltb (w + (tree_width t + sum_widths ts)) 60))) e
        ∙ and-false (is_empty cl)

    line_law : (vs : TokenTrees) (cl : List Slice) (b : Bool) (w i : ℕ) → InsideAt s tb end i vs cl → line_at s tb end b w i (end - i) ≡ rest_line b w vs cl
    line_law no_trees [] b w i h =
        let e : end ≡ i + 0 = inside_end s tb end i [] h in
        line_end_lem s tb end b w i (omega arith)
        ∙ ap (λ (z : Bool). cond z true (ltb w 60)) (sym (and-true b))
        ∙ ap (λ (z : ℕ). cond (b && true) true (ltb z 60)) (sym (add-zero w))
    line_law no_trees (c ∷ cs) b w i h =
        let e : end ≡ i + suc (length cs) = inside_end s tb end i (c ∷ cs) h in
        line_closing s tb end b w i (omega arith) (inside_closing s tb end i (c ∷ cs) h).0.is_kind
    line_law (t ∷ᵗ ts) cl b w i h = go (is_simple t) refl (line_law ts cl (cond (eqb (word tb i 0) 2) b false) (w + width_at s tb i) (i + 1))
      where
        go : (z : Bool) → is_simple t ≡ z →
            (InsideAt s tb end (i + 1) ts cl → line_at s tb end (cond (eqb (word tb i 0) 2) b false) (w + width_at s tb i) (i + 1) (end - (i + 1)) ≡ rest_line (cond (eqb (word tb i 0) 2) b false) (w + width_at s tb i) ts cl) →
            line_at s tb end b w i (end - i) ≡ rest_line b w (t ∷ᵗ ts) cl
        go true e f =
            let a = inside_tree s tb end i t ts cl h in
            line_go s tb end b w i (inside_in_lem s tb end i t ts cl h) (tree_not_closing s tb end i t a) (sym (simple_law s tb end i t a) ∙ e)
            ∙ f (subst (λ (m : ℕ). InsideAt s tb end (i + m) ts cl) (simple_size t e) (inside_next s tb end i t ts cl h))
            ∙ rest_step b w i t ts cl a e
        go false e f =
            let a = inside_tree s tb end i t ts cl h in
            line_stop s tb end b w i (inside_in_lem s tb end i t ts cl h) (tree_not_closing s tb end i t a) (sym (simple_law s tb end i t a) ∙ e)
            ∙ sym (rest_stop b w t ts cl e)

    few_law : (vs : TokenTrees) (cl : List Slice) → count_trees vs ≤ 4 → on_one_line vs cl ≡ rest_line true 0 vs cl
    unfolding on_one_line values_on_one_line
    few_law vs cl h =
        ap (λ (z : Bool). is_empty cl && ((all_trees is_simple vs && z) && (all_trees is_number_tree vs || ltb (sum_widths vs) 60))) (le-leb (count_trees vs) 4 h)
        ∙ ap (λ (z : Bool). is_empty cl && z) (whole_line (all_trees is_simple vs) (all_trees is_number_tree vs) (ltb (sum_widths vs) 60))
        ∙ ap (λ (z : ℕ). is_empty cl && (all_trees is_simple vs && cond (all_trees is_number_tree vs) true (ltb z 60))) (sym (zero-add (sum_widths vs)))

    many_law : (vs : TokenTrees) (cl : List Slice) → 4 < trees_size vs + length cl → on_one_line vs cl ≡ false
    unfolding on_one_line values_on_one_line
    many_law vs (c ∷ cs) h = refl
    many_law vs [] h = go (all_trees is_simple vs) refl
      where
        go : (z : Bool) → all_trees is_simple vs ≡ z → ((all_trees is_simple vs && leb (count_trees vs) 4) && (all_trees is_number_tree vs || ltb (sum_widths vs) 60)) ≡ false
        go true e =
            let k : count_trees vs ≡ trees_size vs = count_simple vs e in
            ap (λ (z : Bool). (all_trees is_simple vs && z) && (all_trees is_number_tree vs || ltb (sum_widths vs) 60)) (lt-leb (count_trees vs) 4 (omega arith))
            ∙ ap (λ (z : Bool). (z && false) && (all_trees is_number_tree vs || ltb (sum_widths vs) 60)) e
        go false e = ap (λ (z : Bool). (z && leb (count_trees vs) 4) && (all_trees is_number_tree vs || ltb (sum_widths vs) 60)) e

    pub one_line_law : (i : ℕ) (vs : TokenTrees) (cl : List Slice) → InsideAt s tb end i vs cl → on_one_line vs cl ≡ one_line_at s tb end i
    one_line_law i vs cl h = go (dec_le (end - i) 4)
      where
        go : Dec (end - i ≤ 4) → on_one_line vs cl ≡ one_line_at s tb end i
        go (yes d) =
            let e : end ≡ i + trees_size vs + length cl = h.all in
            let k : count_trees vs ≤ trees_size vs = count_most vs in
            few_law vs cl (omega arith) ∙ sym (one_few s tb end i d ∙ line_law vs cl true 0 i h)
        go (no d) =
            let e : end ≡ i + trees_size vs + length cl = h.all in
            many_law vs cl (omega arith) ∙ one_many s tb end i (omega arith)
