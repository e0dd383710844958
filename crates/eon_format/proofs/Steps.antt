-- From the long forms to the definition.
use Rattle.std.proofs.Common.{subst, ◌≡◌, refl, sym, ap, ◌∙◌, Bool, true, false, ◌&&◌, cond, List, [], ◌∷◌, ◌++◌, append_assoc, ℕ, ◌+◌, ◌-◌, ◌≤◌, ◌<◌, arith, add-one, length, eqb, eq-eqb, ne_eqb}
use Rattle.eon_spec.specs.Base.{codes}
use Rattle.eon_spec.specs.Tree.{Slice, TokenTree, TokenValue, TokenTrees, KeyValues, tree, identifier, number, quoted_string, list_of, map_of, variant_of, no_trees, ◌∷ᵗ◌, no_pairs, pair}
use Rattle.eon_spec.specs.Layout.{Settings, map_content, is_empty, no_values, no_key_values, on_one_line, value, bare_value, prefix_of, suffix_of, closing, indented_value, add_indent, indented_comments, suffix_comment, is_sole_container, is_container, shared, shared_first}
use Rattle.eon_one_line.specs.Flat.{flat_at}
use Rattle.eon_format.specs.Lines.{closing_lines}
use Rattle.eon_format.proofs.Records.{closing_comments}
use Rattle.eon_laws.proofs.Facts.{clash}
use Rattle.eon_one_line.proofs.Words.{flat_one, flat_more}
use Rattle.eon_put.proofs.Going.{Appends, put_as}
use Rattle.eon_one_line.proofs.Trees.{one_line_law}
use Rattle.eon_format.specs.Long.{long_list, long_map, long_variant, pair_text, blank_at}
use Rattle.eon_one_line.proofs.Rows.{more_list, more_map}
use Rattle.eon_format.proofs.Walk.{Paired, paired_empty, paired_done, paired_all, map_content_lem}
use Rattle.eon_table.proofs.Here.{list_is, map_is}
use Rattle.eon_table.specs.Words.{word, text_at, more_at, Within}
use Rattle.eon_table.specs.TreeAt.{PairedAt, SomeList, SomeMap, SomeVariant, ValueAt, InsideAt, value_of}
use Rattle.eon_laws.proofs.Records.{tree_size, value_size, trees_size, pairs_size}
use Rattle.eon_table.proofs.Walk.{tree_pos, value_pos, value_kind, value_size_lem, variant_inside, paired_end, paired_closing}

pub indented_law : (o : Settings) (n : ℕ) (t : TokenTree) {x : List ℕ} → x ≡ indented_comments o n (prefix_of t) → x ++ add_indent o n ++ value o n (value_of t) ++ suffix_comment o (suffix_of t) ≡ indented_value o n t
unfolding indented_value
indented_law o n (tree sp p v x) e = ap (λ (l : List ℕ). l ++ add_indent o n ++ value o n v ++ suffix_comment o x) e

pub bare_law : (o : Settings) (n : ℕ) (t : TokenTree) → value o n (value_of t) ≡ bare_value o n t
unfolding bare_value
bare_law o n (tree sp p v x) = refl

-- ---- the forms of a value that is not flat

module _ (o : Settings) (n : ℕ) where
  list_lines : (vs : TokenTrees) (cl : List Slice) → (no_values vs && is_empty cl) ≡ false → on_one_line vs cl ≡ false → long_list o n vs cl ≡ value o n (list_of vs cl)
  unfolding value
  list_lines vs cl p q = rw (p, q, value)

  map_lines : (kvs : KeyValues) (cl : List Slice) → (no_key_values kvs && is_empty cl) ≡ false → long_map o n kvs cl ≡ value o n (map_of kvs cl)
  unfolding value
  map_lines kvs cl p = rw (p, value)

  variant_lines : (m : Slice) (vs : TokenTrees) (cl : List Slice) → (no_values vs && is_empty cl) ≡ false → on_one_line vs cl ≡ false → (is_empty cl && is_sole_container vs) ≡ false →
      m.bytes ++ long_variant o n vs cl ≡ value o n (variant_of m vs cl)
  unfolding value
  variant_lines m vs cl p q r = rw (p, q, r, value)

  variant_shared : (m : Slice) (vs : TokenTrees) (cl : List Slice) → (no_values vs && is_empty cl) ≡ false → on_one_line vs cl ≡ false → (is_empty cl && is_sole_container vs) ≡ true →
      m.bytes ++ (codes "(" ++ shared_first o n vs ++ codes ")") ≡ value o n (variant_of m vs cl)
  unfolding value
  variant_shared m vs cl p q r = rw (p, q, r, value)

  shared_list : (vs : TokenTrees) (cl : List Slice) → (no_values vs && is_empty cl) ≡ false → long_list o n vs cl ≡ shared o n (list_of vs cl)
  unfolding shared
  shared_list vs cl p = rw (p, shared)

  shared_map : (kvs : KeyValues) (cl : List Slice) → (no_key_values kvs && is_empty cl) ≡ false → long_map o n kvs cl ≡ shared o n (map_of kvs cl)
  unfolding shared
  shared_map kvs cl p = rw (p, shared)

  blank_list : (vs : TokenTrees) (cl : List Slice) → 1 + (trees_size vs + length cl) ≡ 1 → codes "[ ]" ≡ shared o n (list_of vs cl)
  unfolding shared trees_size
  blank_list no_trees [] e = refl
  blank_list no_trees (c ∷ cs) e = absurd (omega arith)
  blank_list (t ∷ᵗ ts) cl e = let p : 1 ≤ tree_size t = tree_pos t in absurd (omega arith)

  blank_map : (kvs : KeyValues) (cl : List Slice) → 1 + (pairs_size kvs + length cl) ≡ 1 → codes "{ }" ≡ shared o n (map_of kvs cl)
  unfolding shared pairs_size
  blank_map no_pairs [] e = refl
  blank_map no_pairs (c ∷ cs) e = absurd (omega arith)
  blank_map (pair k v kvs) cl e = let p : 1 ≤ tree_size k = tree_pos k in absurd (omega arith)

module _ (s tb : List ℕ) (i : ℕ) where
  -- ---- what stands at a record of a kind

  pub value_list : (v : TokenValue) → ValueAt s tb i v → word tb i 0 ≡ 4 → SomeList s tb i
  value_list v h e = let z = list_is s tb i _ refl v h e in (z.items, z.closing, subst (ValueAt s tb i) z.is h)

  pub value_map : (v : TokenValue) → ValueAt s tb i v → word tb i 0 ≡ 5 → SomeMap s tb i
  value_map v h e = let z = map_is s tb i _ refl v h e in (z.items, z.closing, subst (ValueAt s tb i) z.is h)

  pub not_flat : flat_at s tb i ≡ false → word tb i 4 ≡ 1 → ⊥
  not_flat f e = clash (sym (flat_one s tb i e)) f

  no_leaf : {A : Type 0} (v : TokenValue) → ValueAt s tb i v → value_size v ≡ 1 → flat_at s tb i ≡ false → A
  no_leaf v h e f = absurd (not_flat f (value_size_lem s tb i v h ∙ e))

  pub value_variant : (v : TokenValue) → ValueAt s tb i v → flat_at s tb i ≡ false → (word tb i 0 ≡ 4 → ⊥) → (word tb i 0 ≡ 5 → ⊥) → SomeVariant s tb i
  unfolding value_size
  value_variant (identifier b) h f d e = no_leaf (identifier b) h refl f
  value_variant (number b) h f d e = no_leaf (number b) h refl f
  value_variant (quoted_string b) h f d e = no_leaf (quoted_string b) h refl f
  value_variant (list_of vs cl) h f d e = absurd (d (value_kind s tb i (list_of vs cl) h))
  value_variant (map_of kvs cl) h f d e = absurd (e (value_kind s tb i (map_of kvs cl) h))
  value_variant (variant_of m vs cl) h f d e = (m, vs, cl, h)

  pub not_line : (vs : TokenTrees) (cl : List Slice) (k : ℕ) → InsideAt s tb (i + word tb i 4) (i + 1) vs cl → word tb i 0 ≡ k → (k ≡ 5 → ⊥) → flat_at s tb i ≡ false → on_one_line vs cl ≡ false
  not_line vs cl k h e a f = one_line_law s tb (i + word tb i 4) (i + 1) vs cl h ∙ flat_more s tb i (not_flat f) (λ z. a (sym e ∙ z)) ∙ f

  pub full_list : (vs : TokenTrees) (cl : List Slice) → ValueAt s tb i (list_of vs cl) → (word tb i 4 ≡ 1 → ⊥) → (no_values vs && is_empty cl) ≡ false
  unfolding value_size
  full_list vs cl h l = more_list vs cl (λ z. l (value_size_lem s tb i (list_of vs cl) h ∙ z))

  pub full_map : (kvs : KeyValues) (cl : List Slice) → ValueAt s tb i (map_of kvs cl) → (word tb i 4 ≡ 1 → ⊥) → (no_key_values kvs && is_empty cl) ≡ false
  unfolding value_size
  full_map kvs cl h l = more_map kvs cl (λ z. l (value_size_lem s tb i (map_of kvs cl) h ∙ z))

  pub full_variant : (m : Slice) (vs : TokenTrees) (cl : List Slice) → ValueAt s tb i (variant_of m vs cl) → (word tb i 4 ≡ 1 → ⊥) → (no_values vs && is_empty cl) ≡ false
  unfolding value_size
  full_variant m vs cl h l = more_list vs cl (λ z. l (value_size_lem s tb i (variant_of m vs cl) h ∙ z))

  pub variant_text : (m : Slice) (vs : TokenTrees) (cl : List Slice) → ValueAt s tb i (variant_of m vs cl) → text_at s tb i ≡ m.bytes
  unfolding ValueAt
  variant_text m vs cl h = h.4

  pub variant_within : (m : Slice) (vs : TokenTrees) (cl : List Slice) → ValueAt s tb i (variant_of m vs cl) → Within s tb i
  unfolding ValueAt
  variant_within m vs cl h = h.3

  module _ (o : Settings) (n : ℕ) {A : Type 0} (puts : A → List ℕ → A → Type 0) {from to : A} where
    pub list_value : (v : TokenValue) → ValueAt s tb i v → flat_at s tb i ≡ false → word tb i 0 ≡ 4 →
        ((vs : TokenTrees) (cl : List Slice) → ValueAt s tb i (list_of vs cl) → puts from (long_list o n vs cl) to) → puts from (value o n v) to
    list_value v h f e w =
        let z = list_is s tb i _ refl v h e in
        let a = subst (ValueAt s tb i) z.is h in
        subst (λ (u : TokenValue). puts from (value o n u) to) (sym z.is)
        (put_as puts (list_lines o n z.items z.closing (full_list _ _ a (not_flat f)) (not_line _ _ 4 z.inside e (λ k. omega arith) f)) (w z.items z.closing a))

    pub map_value_lem : (v : TokenValue) → ValueAt s tb i v → flat_at s tb i ≡ false → word tb i 0 ≡ 5 →
        ((kvs : KeyValues) (cl : List Slice) → ValueAt s tb i (map_of kvs cl) → puts from (long_map o n kvs cl) to) → puts from (value o n v) to
    map_value_lem v h f e w =
        let z = map_is s tb i _ refl v h e in
        let a = subst (ValueAt s tb i) z.is h in
        subst (λ (u : TokenValue). puts from (value o n u) to) (sym z.is) (put_as puts (map_lines o n z.items z.closing (full_map _ _ a (not_flat f))) (w z.items z.closing a))

    pub variant_value : (v : TokenValue) → ValueAt s tb i v → flat_at s tb i ≡ false → (word tb i 0 ≡ 4 → ⊥) → (word tb i 0 ≡ 5 → ⊥) →
        ((m : Slice) (vs : TokenTrees) (cl : List Slice) → ValueAt s tb i (variant_of m vs cl) → puts from (value o n (variant_of m vs cl)) to) → puts from (value o n v) to
    unfolding value_size
    variant_value (identifier b) h f d e w = no_leaf (identifier b) h refl f
    variant_value (number b) h f d e w = no_leaf (number b) h refl f
    variant_value (quoted_string b) h f d e w = no_leaf (quoted_string b) h refl f
    variant_value (list_of vs cl) h f d e w = absurd (d (value_kind s tb i (list_of vs cl) h))
    variant_value (map_of kvs cl) h f d e w = absurd (e (value_kind s tb i (map_of kvs cl) h))
    variant_value (variant_of m vs cl) h f d e w = w m vs cl h

    -- ---- a variant's lines, and its sole list or map

    pub lines_value : (m : Slice) (vs : TokenTrees) (cl : List Slice) → ValueAt s tb i (variant_of m vs cl) → flat_at s tb i ≡ false → (is_empty cl && is_sole_container vs) ≡ false →
        puts from (text_at s tb i ++ long_variant o n vs cl) to → puts from (value o n (variant_of m vs cl)) to
    lines_value m vs cl h f e w =
        put_as puts
        (ap (λ (x : List ℕ). x ++ long_variant o n vs cl) (variant_text m vs cl h)
        ∙ variant_lines o n m vs cl (full_variant m vs cl h (not_flat f)) (not_line vs cl 6 (variant_inside s tb i m vs cl h) (value_kind s tb i (variant_of m vs cl) h) (λ z. omega arith) f) e)
        w

    pub shared_value : (m : Slice) (vs : TokenTrees) (cl : List Slice) (v : TokenValue) → ValueAt s tb i (variant_of m vs cl) → flat_at s tb i ≡ false → (is_empty cl && is_sole_container vs) ≡ true → shared_first o n vs ≡ shared o n v →
        puts from (text_at s tb i ++ (codes "(" ++ shared o n v ++ codes ")")) to → puts from (value o n (variant_of m vs cl)) to
    shared_value m vs cl v h f e q w =
        put_as puts
        (ap (λ (x : List ℕ). text_at s tb i ++ (codes "(" ++ x ++ codes ")")) (sym q)
        ∙ ap (λ (x : List ℕ). x ++ (codes "(" ++ shared_first o n vs ++ codes ")")) (variant_text m vs cl h)
        ∙ variant_shared o n m vs cl (full_variant m vs cl h (not_flat f)) (not_line vs cl 6 (variant_inside s tb i m vs cl h) (value_kind s tb i (variant_of m vs cl) h) (λ z. omega arith) f) e)
        w

    -- ---- shared

    pub blank_value : (v : TokenValue) → ValueAt s tb i v → is_container v ≡ true → word tb i 4 ≡ 1 → puts from (blank_at tb i) to → puts from (shared o n v) to
    unfolding value_size
    blank_value (identifier b) h c e w = clash c refl
    blank_value (number b) h c e w = clash c refl
    blank_value (quoted_string b) h c e w = clash c refl
    blank_value (list_of vs cl) h c e w =
        put_as puts (ap (λ (x : Bool). cond x (codes "[ ]") (codes "{ }")) (eq-eqb (word tb i 0) 4 (value_kind s tb i (list_of vs cl) h)) ∙ blank_list o n vs cl (sym (value_size_lem s tb i (list_of vs cl) h) ∙ e)) w
    blank_value (map_of kvs cl) h c e w =
        let k : word tb i 0 ≡ 5 = value_kind s tb i (map_of kvs cl) h in
        put_as puts (ap (λ (x : Bool). cond x (codes "[ ]") (codes "{ }")) (ne_eqb (word tb i 0) 4 (λ z. omega arith)) ∙ blank_map o n kvs cl (sym (value_size_lem s tb i (map_of kvs cl) h) ∙ e)) w
    blank_value (variant_of m vs cl) h c e w = clash c refl

    pub list_shared : (v : TokenValue) → ValueAt s tb i v → (word tb i 4 ≡ 1 → ⊥) → word tb i 0 ≡ 4 →
        ((vs : TokenTrees) (cl : List Slice) → ValueAt s tb i (list_of vs cl) → puts from (long_list o n vs cl) to) → puts from (shared o n v) to
    list_shared v h f e w =
        let z = list_is s tb i _ refl v h e in
        let a = subst (ValueAt s tb i) z.is h in
        subst (λ (u : TokenValue). puts from (shared o n u) to) (sym z.is) (put_as puts (shared_list o n z.items z.closing (full_list _ _ a f)) (w z.items z.closing a))

    pub map_shared : (v : TokenValue) → ValueAt s tb i v → is_container v ≡ true → (word tb i 4 ≡ 1 → ⊥) → (word tb i 0 ≡ 4 → ⊥) →
        ((kvs : KeyValues) (cl : List Slice) → ValueAt s tb i (map_of kvs cl) → puts from (long_map o n kvs cl) to) → puts from (shared o n v) to
    map_shared (identifier b) h c f e w = clash c refl
    map_shared (number b) h c f e w = clash c refl
    map_shared (quoted_string b) h c f e w = clash c refl
    map_shared (list_of vs cl) h c f e w = absurd (e (value_kind s tb i (list_of vs cl) h))
    map_shared (map_of kvs cl) h c f e w = put_as puts (shared_map o n kvs cl (full_map kvs cl h f)) (w kvs cl h)
    map_shared (variant_of m vs cl) h c f e w = clash c refl

  pub container_map : (v : TokenValue) → ValueAt s tb i v → is_container v ≡ true → (word tb i 0 ≡ 4 → ⊥) → SomeMap s tb i
  container_map (identifier b) h c e = clash c refl
  container_map (number b) h c e = clash c refl
  container_map (quoted_string b) h c e = clash c refl
  container_map (list_of vs cl) h c e = absurd (e (value_kind s tb i (list_of vs cl) h))
  container_map (map_of kvs cl) h c e = (kvs, cl, h)
  container_map (variant_of m vs cl) h c e = clash c refl

-- the closing comments after a map's pairs
pub paired_closed : {A : Type 0} (puts : A → List ℕ → A → Type 0) → Appends puts → {s tb : List ℕ} {end j base : ℕ} {cl : List Slice} {from to to' : A} (o : Settings) (n : ℕ) (kvs : KeyValues) → PairedAt s tb end base kvs cl →
    Paired s tb end puts from (map_content o n true kvs) (map_content o n) cl base j to → more_at tb end j ≡ false → puts to (closing_lines s tb o n (eqb j base) j (end - j)) to' →
    puts from (map_content o n true kvs ++ closing o n (no_key_values kvs) cl) to'
paired_closed puts append {s} {tb} {end} {j} {base} {cl} {from} {to} {to'} o n kvs h w m v =
    let d = paired_done puts w m in
    let u : end - j ≡ length cl = omega (arith, paired_end s tb end j cl d) in
    put_as puts
    (ap (λ (x : List ℕ). map_content o n true kvs ++ x)
    (ap (closing_lines s tb o n (eqb j base) j) u
    ∙ closing_comments s tb o n j (eqb j base) cl (paired_closing s tb end j cl d)
    ∙ ap (λ (x : Bool). closing o n x cl) (paired_empty base j kvs cl h d)))
    (append from to to' (map_content o n true kvs) _ (paired_all puts w m (map_content_lem o n)) v)

pub map_law : (o : Settings) (n : ℕ) (kvs : KeyValues) (cl : List Slice) →
    (123 ∷ []) ++ o.newline ++ (map_content o (n + 1) true kvs ++ closing o (n + 1) (no_key_values kvs) cl) ++ (add_indent o n ++ (125 ∷ [])) ≡ long_map o n kvs cl
map_law o n kvs cl =
    ap (λ (m : ℕ). (123 ∷ []) ++ o.newline ++ (map_content o m true kvs ++ closing o m (no_key_values kvs) cl) ++ (add_indent o n ++ (125 ∷ []))) (add-one n)
    ∙ simp append_assoc

-- a value of several records
pub several : (s tb : List ℕ) (i : ℕ) (v : TokenValue) → ValueAt s tb i v → (word tb i 4 ≡ 1 → ⊥) → 1 < word tb i 4
several s tb i v h e = omega (arith, value_size_lem s tb i v h, value_pos v)

-- ---- a key and its value

pub pair_law : (o : Settings) (n : ℕ) (k v : TokenTree) {x y : List ℕ} → x ≡ indented_comments o n (prefix_of k) → y ≡ indented_comments o n (prefix_of v) →
    x ++ (y ++ add_indent o n) ++ value o n (value_of k) ++ o.key_value_separator ++ value o n (value_of v) ++ suffix_comment o (suffix_of v) ≡ pair_text o n k v
pair_law o n k v {x} {y} p q =
    ap (λ (z : List ℕ). z ++ (y ++ add_indent o n) ++ value o n (value_of k) ++ o.key_value_separator ++ value o n (value_of v) ++ suffix_comment o (suffix_of v)) p
    ∙ ap (λ (z : List ℕ). indented_comments o n (prefix_of k) ++ (z ++ add_indent o n) ++ value o n (value_of k) ++ o.key_value_separator ++ value o n (value_of v) ++ suffix_comment o (suffix_of v)) q
    ∙ ap (λ (z : List ℕ). z ++ value o n (value_of k) ++ o.key_value_separator ++ value o n (value_of v) ++ suffix_comment o (suffix_of v)) (sym (append_assoc (indented_comments o n (prefix_of k)) (indented_comments o n (prefix_of v)) (add_indent o n)))
    ∙ ap (λ (z : List ℕ). indented_comments o n (prefix_of k) ++ indented_comments o n (prefix_of v) ++ add_indent o n ++ z ++ o.key_value_separator ++ value o n (value_of v) ++ suffix_comment o (suffix_of v)) (bare_law o n k)
    ∙ ap (λ (z : List ℕ). indented_comments o n (prefix_of k) ++ indented_comments o n (prefix_of v) ++ add_indent o n ++ bare_value o n k ++ o.key_value_separator ++ z ++ suffix_comment o (suffix_of v)) (bare_law o n v)
