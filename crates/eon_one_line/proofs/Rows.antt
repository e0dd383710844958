-- What is written on one line.
use Rattle.std.proofs.Common.{None, Some, ◌≡◌, refl, sym, ap, ◌∙◌, subst, Bool, true, false, ◌&&◌, cond, List, [], ◌∷◌, ◌++◌, append_assoc, append-nil, ℕ, ◌+◌, ◌-◌, ◌≤◌, ◌<◌, arith, length, lt-ltb, le-ltb}
use Rattle.std.proofs.Math.Decide.{dec_le}
use Rattle.eon_spec.specs.Base.{codes}
use Rattle.eon_spec.specs.Tree.{Slice, TokenTree, TokenValue, TokenTrees, KeyValues, tree, identifier, number, quoted_string, list_of, map_of, variant_of, no_trees, ◌∷ᵗ◌, no_pairs, pair}
use Rattle.eon_spec.specs.Layout.{Settings, is_empty, no_values, no_key_values, is_simple, all_trees, values_on_one_line, on_one_line, value, bare_value, one_line}
use Rattle.eon_one_line.specs.Flat.{flat_at, plain_at, plain_line, Plain}
use Rattle.eon_one_line.proofs.Words.{plain_list, plain_map, plain_text, line_none, line_more, flat_map, flat_more}
use Rattle.eon_one_line.proofs.Trees.{value_plain, simple_size, value_one, one_line_law}
use Rattle.eon_laws.proofs.Facts.{clash, and_left, and_right}
use Rattle.eon_table.specs.Words.{word, text_at}
use Rattle.eon_table.specs.TreeAt.{TreeAt, ValueAt, InsideAt}
use Rattle.eon_laws.proofs.Records.{tree_size, value_size, trees_size, pairs_size}
use Rattle.eon_table.proofs.Walk.{tree_pos, value_kind, value_size_lem, bare_value_lem, inside_next, inside_tree, inside_in_lem, inside_end, list_inside_lem, variant_inside}

-- ---- values of one record

one_list : (vs : TokenTrees) (cl : List Slice) → 1 + (trees_size vs + length cl) ≡ 1 → (no_values vs && is_empty cl) ≡ true
unfolding trees_size
one_list no_trees [] e = refl
one_list no_trees (c ∷ cs) e = absurd (omega arith)
one_list (t ∷ᵗ ts) cl e = let p : 1 ≤ tree_size t = tree_pos t in absurd (omega arith)

one_map : (vs : KeyValues) (cl : List Slice) → 1 + (pairs_size vs + length cl) ≡ 1 → (no_key_values vs && is_empty cl) ≡ true
unfolding pairs_size
one_map no_pairs [] e = refl
one_map no_pairs (c ∷ cs) e = absurd (omega arith)
one_map (pair k v kvs) cl e = let p : 1 ≤ tree_size k = tree_pos k in absurd (omega arith)

pub more_list : (vs : TokenTrees) (cl : List Slice) → (1 + (trees_size vs + length cl) ≡ 1 → ⊥) → (no_values vs && is_empty cl) ≡ false
unfolding trees_size
more_list no_trees [] e = absurd (e refl)
more_list no_trees (c ∷ cs) e = refl
more_list (t ∷ᵗ ts) cl e = refl

pub more_map : (vs : KeyValues) (cl : List Slice) → (1 + (pairs_size vs + length cl) ≡ 1 → ⊥) → (no_key_values vs && is_empty cl) ≡ false
unfolding pairs_size
more_map no_pairs [] e = absurd (e refl)
more_map no_pairs (c ∷ cs) e = refl
more_map (pair k v kvs) cl e = refl

module _ (s tb : List ℕ) where
  tree_plain : (end i : ℕ) (t : TokenTree) → TreeAt s tb end i t → is_simple t ≡ true → Plain s tb i
  tree_plain end i (tree sp (c ∷ cs) v x) h e = clash e refl
  tree_plain end i (tree sp [] v x) h e = value_plain s tb i v (bare_value_lem s tb end i sp v x h)

  module _ (end : ℕ) where
    next_one : (i : ℕ) (t : TokenTree) (ts : TokenTrees) → InsideAt s tb end i (t ∷ᵗ ts) [] → is_simple t ≡ true → InsideAt s tb end (i + 1) ts []
    next_one i t ts h e = subst (λ (m : ℕ). InsideAt s tb end (i + m) ts []) (simple_size t e) (inside_next s tb end i t ts [] h)

    pub row_plains : (vs : TokenTrees) (i : ℕ) → InsideAt s tb end i vs [] → all_trees is_simple vs ≡ true → (j : ℕ) → i ≤ j → j < end → Plain s tb j
    row_plains no_trees i h e j a b = let q : end ≡ i + 0 = inside_end s tb end i [] h in absurd (omega arith)
    row_plains (t ∷ᵗ ts) i h e j a b = go (dec_le j i) (row_plains ts (i + 1) (next_one i t ts h (and_left (is_simple t) (all_trees is_simple ts) e)) (and_right (is_simple t) (all_trees is_simple ts) e) j)
      where
        go : Dec (j ≤ i) → (i + 1 ≤ j → j < end → Plain s tb j) → Plain s tb j
        go (yes d) f = subst (Plain s tb) (omega arith) (tree_plain end i t (inside_tree s tb end i t ts [] h) (and_left (is_simple t) (all_trees is_simple ts) e))
        go (no d) f = f (omega arith) b

module _ (s tb : List ℕ) (o : Settings) (n : ℕ) where
  pub plain_law : (i : ℕ) (v : TokenValue) → ValueAt s tb i v → value_size v ≡ 1 → plain_at s tb i ≡ value o n v
  unfolding value ValueAt value_size
  plain_law i (identifier b) h e = sym (plain_text s tb i (λ z. let q : word tb i 0 ≡ 1 = h.is_kind in omega arith) (λ z. let q : word tb i 0 ≡ 1 = h.is_kind in omega arith)) ∙ h.bytes
  plain_law i (number b) h e = sym (plain_text s tb i (λ z. let q : word tb i 0 ≡ 2 = h.is_kind in omega arith) (λ z. let q : word tb i 0 ≡ 2 = h.is_kind in omega arith)) ∙ h.bytes
  plain_law i (quoted_string b) h e = sym (plain_text s tb i (λ z. let q : word tb i 0 ≡ 3 = h.is_kind in omega arith) (λ z. let q : word tb i 0 ≡ 3 = h.is_kind in omega arith)) ∙ h.bytes
  plain_law i (list_of vs cl) h e = sym (plain_list s tb i h.0.is_kind) ∙ rw (one_list vs cl e, value)
  plain_law i (map_of kvs cl) h e = sym (plain_map s tb i h.0.is_kind) ∙ rw (one_map kvs cl e, value)
  plain_law i (variant_of m vs cl) h e =
      sym (plain_text s tb i (λ z. let q : word tb i 0 ≡ 6 = h.0.is_kind in omega arith) (λ z. let q : word tb i 0 ≡ 6 = h.0.is_kind in omega arith))
      ∙ h.4 ∙ sym (append-nil m.bytes) ∙ rw (one_list vs cl e, value)

  -- ---- simple values

  bare_plain : (end i : ℕ) (t : TokenTree) → TreeAt s tb end i t → is_simple t ≡ true → plain_at s tb i ≡ bare_value o n t
  unfolding bare_value
  bare_plain end i (tree sp (c ∷ cs) v x) h e = clash e refl
  bare_plain end i (tree sp [] v (Some c)) h e = clash e refl
  bare_plain end i (tree sp [] v None) h e = plain_law i v (bare_value_lem s tb end i sp v None h) (value_one v e)

  module _ (end : ℕ) where
    pub row_law : (vs : TokenTrees) (i : ℕ) → InsideAt s tb end i vs [] → all_trees is_simple vs ≡ true → plain_line s tb i (end - i) ≡ one_line o n vs
    unfolding one_line
    row_law no_trees i h e = let q : end ≡ i + 0 = inside_end s tb end i [] h in line_none s tb i end (omega arith)
    row_law (t ∷ᵗ no_trees) i h e =
        let e₁ = and_left (is_simple t) true e in
        let q : end ≡ i + 1 + 0 = inside_end s tb end (i + 1) [] (next_one s tb end i t no_trees h e₁) in
        line_more s tb i end (omega arith)
        ∙ ap (λ (x : Bool). plain_at s tb i ++ cond x (codes ", ") [] ++ plain_line s tb (i + 1) (end - (i + 1))) (le-ltb (i + 1) end (omega arith))
        ∙ ap (λ (x : List ℕ). plain_at s tb i ++ [] ++ x) (line_none s tb (i + 1) end (omega arith))
        ∙ append-nil (plain_at s tb i ++ [])
        ∙ ap (λ (x : List ℕ). x ++ []) (bare_plain end i t (inside_tree s tb end i t no_trees [] h) e₁)
    row_law (t ∷ᵗ (u ∷ᵗ us)) i h e =
        let e₁ = and_left (is_simple t) (all_trees is_simple (u ∷ᵗ us)) e in
        let g = next_one s tb end i t (u ∷ᵗ us) h e₁ in
        line_more s tb i end (inside_in_lem s tb end i t (u ∷ᵗ us) [] h)
        ∙ ap (λ (x : Bool). plain_at s tb i ++ cond x (codes ", ") [] ++ plain_line s tb (i + 1) (end - (i + 1))) (lt-ltb (i + 1) end (inside_in_lem s tb end (i + 1) u us [] g))
        ∙ ap (λ (x : List ℕ). plain_at s tb i ++ codes ", " ++ x) (row_law (u ∷ᵗ us) (i + 1) g (and_right (is_simple t) (all_trees is_simple (u ∷ᵗ us)) e))
        ∙ append_assoc (plain_at s tb i) (codes ", ") (one_line o n (u ∷ᵗ us))
        ∙ ap (λ (x : List ℕ). x ++ (codes ", " ++ one_line o n (u ∷ᵗ us))) (bare_plain end i t (inside_tree s tb end i t (u ∷ᵗ us) [] h) e₁)

-- ---- what one line asks

pub one_closing : (vs : TokenTrees) (cl : List Slice) → on_one_line vs cl ≡ true → cl ≡ []
unfolding on_one_line
one_closing vs [] e = refl
one_closing vs (c ∷ cs) e = clash e refl

pub one_simple : (vs : TokenTrees) (cl : List Slice) → on_one_line vs cl ≡ true → all_trees is_simple vs ≡ true
unfolding on_one_line values_on_one_line
one_simple vs cl e = and_left (all_trees is_simple vs) _ (and_left _ _ (and_right (is_empty cl) _ e))

-- ---- a row between brackets

module _ (o : Settings) (n : ℕ) where
  list_row : (vs : TokenTrees) (cl : List Slice) → (no_values vs && is_empty cl) ≡ false → on_one_line vs cl ≡ true →
      codes "[" ++ one_line o n vs ++ codes "]" ≡ value o n (list_of vs cl)
  unfolding value
  list_row vs cl p q = rw (p, q, value)

  variant_row : (m : Slice) (vs : TokenTrees) (cl : List Slice) → (no_values vs && is_empty cl) ≡ false → on_one_line vs cl ≡ true →
      m.bytes ++ (codes "(" ++ one_line o n vs ++ codes ")") ≡ value o n (variant_of m vs cl)
  unfolding value
  variant_row m vs cl p q = rw (p, q, value)

module _ (s tb : List ℕ) (i : ℕ) where
  abbrev Long : Type 0
  Long = word tb i 4 ≡ 1 → ⊥

  flat_one_line : (vs : TokenTrees) (cl : List Slice) (k : ℕ) → InsideAt s tb (i + word tb i 4) (i + 1) vs cl → word tb i 0 ≡ k → (k ≡ 5 → ⊥) → Long → flat_at s tb i ≡ true → on_one_line vs cl ≡ true
  flat_one_line vs cl k h e a l f = one_line_law s tb (i + word tb i 4) (i + 1) vs cl h ∙ flat_more s tb i l (λ z. a (sym e ∙ z)) ∙ f

  no_leaf : {A : Type 0} (v : TokenValue) → ValueAt s tb i v → value_size v ≡ 1 → Long → A
  no_leaf v h e l = absurd (l (value_size_lem s tb i v h ∙ e))

  no_map : {A : Type 0} (kvs : KeyValues) (cl : List Slice) → ValueAt s tb i (map_of kvs cl) → Long → flat_at s tb i ≡ true → A
  no_map kvs cl h l f = clash (flat_map s tb i l (value_kind s tb i (map_of kvs cl) h) ∙ f) refl

  inside_plains : (vs : TokenTrees) (cl : List Slice) → InsideAt s tb (i + word tb i 4) (i + 1) vs cl → on_one_line vs cl ≡ true → (j : ℕ) → i + 1 ≤ j → j < i + word tb i 4 → Plain s tb j
  inside_plains vs cl h e =
      row_plains s tb (i + word tb i 4) vs (i + 1) (subst (λ (x : List Slice). InsideAt s tb (i + word tb i 4) (i + 1) vs x) (one_closing vs cl e) h) (one_simple vs cl e)

  pub flat_plains : (v : TokenValue) → ValueAt s tb i v → Long → flat_at s tb i ≡ true → (j : ℕ) → i + 1 ≤ j → j < i + word tb i 4 → Plain s tb j
  unfolding value_size
  flat_plains (identifier b) h l f = no_leaf (identifier b) h refl l
  flat_plains (number b) h l f = no_leaf (number b) h refl l
  flat_plains (quoted_string b) h l f = no_leaf (quoted_string b) h refl l
  flat_plains (list_of vs cl) h l f =
      let g = list_inside_lem s tb i vs cl h in
      inside_plains vs cl g (flat_one_line vs cl 4 g (value_kind s tb i (list_of vs cl) h) (λ z. omega arith) l f)
  flat_plains (map_of kvs cl) h l f = no_map kvs cl h l f
  flat_plains (variant_of m vs cl) h l f =
      let g = variant_inside s tb i m vs cl h in
      inside_plains vs cl g (flat_one_line vs cl 6 g (value_kind s tb i (variant_of m vs cl) h) (λ z. omega arith) l f)

  pub flat_not_map : (v : TokenValue) → ValueAt s tb i v → Long → flat_at s tb i ≡ true → word tb i 0 ≡ 5 → ⊥
  flat_not_map v h l f e = clash (flat_map s tb i l e ∙ f) refl

  module _ (o : Settings) (n : ℕ) where
    row_inside : (vs : TokenTrees) (cl : List Slice) → InsideAt s tb (i + word tb i 4) (i + 1) vs cl → on_one_line vs cl ≡ true →
        plain_line s tb (i + 1) (i + word tb i 4 - (i + 1)) ≡ one_line o n vs
    row_inside vs cl h e =
        row_law s tb o n (i + word tb i 4) vs (i + 1) (subst (λ (x : List Slice). InsideAt s tb (i + word tb i 4) (i + 1) vs x) (one_closing vs cl e) h) (one_simple vs cl e)

    pub flat_list : (v : TokenValue) → ValueAt s tb i v → Long → flat_at s tb i ≡ true → word tb i 0 ≡ 4 →
        (91 ∷ []) ++ plain_line s tb (i + 1) (i + word tb i 4 - (i + 1)) ++ (93 ∷ []) ≡ value o n v
    unfolding value_size
    flat_list (identifier b) h l f e = no_leaf (identifier b) h refl l
    flat_list (number b) h l f e = no_leaf (number b) h refl l
    flat_list (quoted_string b) h l f e = no_leaf (quoted_string b) h refl l
    flat_list (list_of vs cl) h l f e =
        let g = list_inside_lem s tb i vs cl h in
        let q = flat_one_line vs cl 4 g e (λ z. omega arith) l f in
        ap (λ (x : List ℕ). (91 ∷ []) ++ x ++ (93 ∷ [])) (row_inside vs cl g q)
        ∙ list_row o n vs cl (more_list vs cl (λ z. l (value_size_lem s tb i (list_of vs cl) h ∙ z))) q
    flat_list (map_of kvs cl) h l f e = no_map kvs cl h l f
    flat_list (variant_of m vs cl) h l f e = let k : word tb i 0 ≡ 6 = value_kind s tb i (variant_of m vs cl) h in absurd (omega arith)

    pub flat_variant : (v : TokenValue) → ValueAt s tb i v → Long → flat_at s tb i ≡ true → (word tb i 0 ≡ 4 → ⊥) →
        text_at s tb i ++ ((40 ∷ []) ++ plain_line s tb (i + 1) (i + word tb i 4 - (i + 1)) ++ (41 ∷ [])) ≡ value o n v
    unfolding value_size
    flat_variant (identifier b) h l f e = no_leaf (identifier b) h refl l
    flat_variant (number b) h l f e = no_leaf (number b) h refl l
    flat_variant (quoted_string b) h l f e = no_leaf (quoted_string b) h refl l
    flat_variant (list_of vs cl) h l f e = absurd (e (value_kind s tb i (list_of vs cl) h))
    flat_variant (map_of kvs cl) h l f e = no_map kvs cl h l f
    flat_variant (variant_of m vs cl) h l f e =
        let g = variant_inside s tb i m vs cl h in
        let q = flat_one_line vs cl 6 g (value_kind s tb i (variant_of m vs cl) h) (λ z. omega arith) l f in
        let name : text_at s tb i ≡ m.bytes = unfold ValueAt in h.4 in
        ap (λ (x : List ℕ). text_at s tb i ++ ((40 ∷ []) ++ x ++ (41 ∷ []))) (row_inside vs cl g q)
        ∙ ap (λ (x : List ℕ). x ++ ((40 ∷ []) ++ one_line o n vs ++ (41 ∷ []))) name
        ∙ variant_row o n m vs cl (more_list vs cl (λ z. l (value_size_lem s tb i (variant_of m vs cl) h ∙ z))) q
