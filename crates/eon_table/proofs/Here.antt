-- The walk as a feature meets it: what stands at a record, with all that its words and the answers of the steps say of it.
use Rattle.std.proofs.Common.{◌≡◌, ℕ, ◌+◌, ◌<◌, ◌≤◌, true, false, List, length, sym, refl, ap, ◌∙◌, subst, arith}
use Rattle.eon_spec.specs.Tree.{Slice, TokenTree, TokenValue, TokenTrees, KeyValues, identifier, number, quoted_string, list_of, map_of, variant_of, no_trees, ◌∷ᵗ◌, no_pairs, pair}
use Rattle.eon_spec.specs.RecordKind.{IDENTIFIER, NUMBER, STRING, LIST, MAP, VARIANT, CLOSING_COMMENT}
use Rattle.eon_spec.specs.Layout.{prefix_of}
use Rattle.eon_spec.specs.Records.{tree_records}
use Rattle.eon_spec.specs.Calls.{record_text}
use Rattle.eon_laws.proofs.Facts.{clash}
use Rattle.eon_laws.proofs.Records.{tree_size, value_size, trees_size, pairs_size, tree_size_lem}
use Rattle.eon_table.specs.Words.{word, record_of, more_at, AfterPrefix}
use Rattle.eon_table.specs.TreeAt.{kind_of, value_of, LeafAt, CommentsAt, TreeAt, ValueAt, TreesAt, PairsAt, InsideAt, PairedAt, PairAt, NextAt, SomeTree}
use Rattle.eon_table.specs.Finished.{Finished}
use Rattle.eon_table.proofs.Parts.{text_some}
use Rattle.eon_table.proofs.Walk.{tree_pos, value_kind, value_size_lem, value_in, tree_head, tree_value, list_inside_lem, variant_inside, map_inside_lem, inside_next, inside_tree, inside_in_lem, more_none, more_tree, no_more, one_more, paired_first, paired_next}

-- ---- a value

module _ (s tb : List ℕ) (i : ℕ) where
  -- the text of a leaf or a comment
  pub leaf_text : (k : ℕ) (b : List ℕ) → LeafAt s tb k i b → (k ≡ LIST → ⊥) → (k ≡ MAP → ⊥) → record_text s (record_of tb i) ≡ b
  leaf_text k b h e f = sym (text_some s (record_of tb i) (λ z. e (sym h.is_kind ∙ z)) (λ z. f (sym h.is_kind ∙ z))) ∙ h.bytes

  pub off : {A : Type 0} (v : TokenValue) (k : ℕ) → ValueAt s tb i v → word tb i 0 ≡ k → (kind_of v ≡ k → ⊥) → A
  off v k h e f = absurd (f (sym (value_kind s tb i v h) ∙ e))

  pub identifier_is : (v : TokenValue) → ValueAt s tb i v → word tb i 0 ≡ IDENTIFIER → v ≡ identifier (record_text s (record_of tb i))
  identifier_is (identifier b) h e = ap identifier (sym (leaf_text IDENTIFIER b (unfold ValueAt in h) (λ z. omega arith) (λ z. omega arith)))
  identifier_is (number b) h e = off (number b) IDENTIFIER h e (λ z. omega arith)
  identifier_is (quoted_string b) h e = off (quoted_string b) IDENTIFIER h e (λ z. omega arith)
  identifier_is (list_of vs cl) h e = off (list_of vs cl) IDENTIFIER h e (λ z. omega arith)
  identifier_is (map_of kvs cl) h e = off (map_of kvs cl) IDENTIFIER h e (λ z. omega arith)
  identifier_is (variant_of m vs cl) h e = off (variant_of m vs cl) IDENTIFIER h e (λ z. omega arith)

  pub number_is : (v : TokenValue) → ValueAt s tb i v → word tb i 0 ≡ NUMBER → v ≡ number (record_text s (record_of tb i))
  number_is (identifier b) h e = off (identifier b) NUMBER h e (λ z. omega arith)
  number_is (number b) h e = ap number (sym (leaf_text NUMBER b (unfold ValueAt in h) (λ z. omega arith) (λ z. omega arith)))
  number_is (quoted_string b) h e = off (quoted_string b) NUMBER h e (λ z. omega arith)
  number_is (list_of vs cl) h e = off (list_of vs cl) NUMBER h e (λ z. omega arith)
  number_is (map_of kvs cl) h e = off (map_of kvs cl) NUMBER h e (λ z. omega arith)
  number_is (variant_of m vs cl) h e = off (variant_of m vs cl) NUMBER h e (λ z. omega arith)

  pub string_is : (v : TokenValue) → ValueAt s tb i v → word tb i 0 ≡ STRING → v ≡ quoted_string (record_text s (record_of tb i))
  string_is (identifier b) h e = off (identifier b) STRING h e (λ z. omega arith)
  string_is (number b) h e = off (number b) STRING h e (λ z. omega arith)
  string_is (quoted_string b) h e = ap quoted_string (sym (leaf_text STRING b (unfold ValueAt in h) (λ z. omega arith) (λ z. omega arith)))
  string_is (list_of vs cl) h e = off (list_of vs cl) STRING h e (λ z. omega arith)
  string_is (map_of kvs cl) h e = off (map_of kvs cl) STRING h e (λ z. omega arith)
  string_is (variant_of m vs cl) h e = off (variant_of m vs cl) STRING h e (λ z. omega arith)

  -- a container: its items stand from the record behind it up to `end`, which is where its size says (`behind`)
  pub record IsList (end : ℕ) (v : TokenValue) : Type 0 where
    pub items : TokenTrees
    pub closing : List Slice
    pub is : v ≡ list_of items closing
    pub inside : InsideAt s tb end (i + 1) items closing

  pub record IsMap (end : ℕ) (v : TokenValue) : Type 0 where
    pub items : KeyValues
    pub closing : List Slice
    pub is : v ≡ map_of items closing
    pub inside : PairedAt s tb end (i + 1) items closing

  pub record IsVariant (end : ℕ) (v : TokenValue) : Type 0 where
    pub name : Slice
    pub items : TokenTrees
    pub closing : List Slice
    pub is : v ≡ variant_of name items closing
    pub named : record_text s (record_of tb i) ≡ name.bytes
    pub inside : InsideAt s tb end (i + 1) items closing

  pub list_is : (end : ℕ) → end ≡ i + word tb i 4 → (v : TokenValue) → ValueAt s tb i v → word tb i 0 ≡ LIST → IsList end v
  list_is end q (identifier b) h e = off (identifier b) LIST h e (λ z. omega arith)
  list_is end q (number b) h e = off (number b) LIST h e (λ z. omega arith)
  list_is end q (quoted_string b) h e = off (quoted_string b) LIST h e (λ z. omega arith)
  list_is end q (list_of vs cl) h e = record { items = vs; closing = cl; is = refl; inside = subst (λ (j : ℕ). InsideAt s tb j (i + 1) vs cl) (sym q) (list_inside_lem s tb i vs cl h) }
  list_is end q (map_of kvs cl) h e = off (map_of kvs cl) LIST h e (λ z. omega arith)
  list_is end q (variant_of m vs cl) h e = off (variant_of m vs cl) LIST h e (λ z. omega arith)

  pub map_is : (end : ℕ) → end ≡ i + word tb i 4 → (v : TokenValue) → ValueAt s tb i v → word tb i 0 ≡ MAP → IsMap end v
  map_is end q (identifier b) h e = off (identifier b) MAP h e (λ z. omega arith)
  map_is end q (number b) h e = off (number b) MAP h e (λ z. omega arith)
  map_is end q (quoted_string b) h e = off (quoted_string b) MAP h e (λ z. omega arith)
  map_is end q (list_of vs cl) h e = off (list_of vs cl) MAP h e (λ z. omega arith)
  map_is end q (map_of kvs cl) h e = record { items = kvs; closing = cl; is = refl; inside = subst (λ (j : ℕ). PairedAt s tb j (i + 1) kvs cl) (sym q) (map_inside_lem s tb i kvs cl h) }
  map_is end q (variant_of m vs cl) h e = off (variant_of m vs cl) MAP h e (λ z. omega arith)

  variant_text : (m : Slice) (vs : TokenTrees) (cl : List Slice) → ValueAt s tb i (variant_of m vs cl) → record_text s (record_of tb i) ≡ m.bytes
  unfolding ValueAt
  variant_text m vs cl h =
      let k : word tb i 0 ≡ VARIANT = h.0.is_kind in
      sym (text_some s (record_of tb i) (λ z. omega arith) (λ z. omega arith)) ∙ h.4

  pub variant_is : (end : ℕ) → end ≡ i + word tb i 4 → (v : TokenValue) → ValueAt s tb i v → word tb i 0 ≡ VARIANT → IsVariant end v
  variant_is end q (identifier b) h e = off (identifier b) VARIANT h e (λ z. omega arith)
  variant_is end q (number b) h e = off (number b) VARIANT h e (λ z. omega arith)
  variant_is end q (quoted_string b) h e = off (quoted_string b) VARIANT h e (λ z. omega arith)
  variant_is end q (list_of vs cl) h e = off (list_of vs cl) VARIANT h e (λ z. omega arith)
  variant_is end q (map_of kvs cl) h e = off (map_of kvs cl) VARIANT h e (λ z. omega arith)
  variant_is end q (variant_of m vs cl) h e =
      record { name = m; items = vs; closing = cl; is = refl; named = variant_text m vs cl h; inside = subst (λ (j : ℕ). InsideAt s tb j (i + 1) vs cl) (sym q) (variant_inside s tb i m vs cl h) }

module _ (s tb : List ℕ) where
  -- a value at record i
  pub record ValueHere (i : ℕ) (v : TokenValue) : Type 0 where
    pub at : ValueAt s tb i v
    pub in_table : i < length tb
    pub kind : word tb i 0 ≡ kind_of v
    pub size : word tb i 4 ≡ value_size v
    -- by its kind; `end` is what `behind` answers
    pub as_identifier : word tb i 0 ≡ IDENTIFIER → v ≡ identifier (record_text s (record_of tb i))
    pub as_number : word tb i 0 ≡ NUMBER → v ≡ number (record_text s (record_of tb i))
    pub as_string : word tb i 0 ≡ STRING → v ≡ quoted_string (record_text s (record_of tb i))
    pub as_list : (end : ℕ) → end ≡ i + word tb i 4 → word tb i 0 ≡ LIST → IsList s tb i end v
    pub as_map : (end : ℕ) → end ≡ i + word tb i 4 → word tb i 0 ≡ MAP → IsMap s tb i end v
    pub as_variant : (end : ℕ) → end ≡ i + word tb i 4 → word tb i 0 ≡ VARIANT → IsVariant s tb i end v

  pub value_here : (i : ℕ) (v : TokenValue) → ValueAt s tb i v → ValueHere i v
  value_here i v h =
      record {
        at = h;
        in_table = value_in s tb i v h;
        kind = value_kind s tb i v h;
        size = value_size_lem s tb i v h;
        as_identifier = identifier_is s tb i v h;
        as_number = number_is s tb i v h;
        as_string = string_is s tb i v h;
        as_list = λ end e k. list_is s tb i end e v h k;
        as_map = λ end e k. map_is s tb i end e v h k;
        as_variant = λ end e k. variant_is s tb i end e v h k;
      }

  -- ---- a tree

  -- a tree from record i on, in a container whose records end at `end`, or in the whole table
  pub record TreeHere (end i : ℕ) (t : TokenTree) : Type 0 where
    pub at : TreeAt s tb end i t
    -- what `next_tree` asks
    pub asked : (s : List ℕ) × SomeTree s tb end i
    -- where `after_prefix` leads: the number in the definitions' words, and the value there
    pub behind_prefix : (r : ℕ) → AfterPrefix tb i r → r ≡ i + length (prefix_of t)
    pub value : (r : ℕ) → AfterPrefix tb i r → ValueHere r (value_of t)
    -- where `next_tree` leads: the number in the definitions' words, further on
    pub next : (r : ℕ) → NextAt tb end i r → r ≡ i + length (tree_records t)
    pub past : (r : ℕ) → NextAt tb end i r → i < r

  pub tree_here : (end i : ℕ) (t : TokenTree) → TreeAt s tb end i t → TreeHere end i t
  tree_here end i t h =
      record {
        at = h;
        asked = (s, (t, h));
        behind_prefix = λ r a. tree_head s tb end i r t h a;
        value = λ r a. value_here r (value_of t) (tree_value s tb end i r t h a);
        next = λ r n. n s t h ∙ ap (λ (k : ℕ). i + k) (sym (tree_size_lem t));
        past = λ r n. let e : r ≡ i + tree_size t = n s t h in let p : 1 ≤ tree_size t = tree_pos t in omega arith;
      }

-- the root of a finished table
pub root : {s tb : List ℕ} {n : ℕ} {t : TokenTree} → Finished s tb n t → TreeHere s tb n 0 t
root {s} {tb} {n} {t} f = tree_here s tb n 0 t f.holds

-- ---- the items of a container: what `more` says, and where `next_tree` leads

pub record Item (s tb : List ℕ) (end j : ℕ) (vs : TokenTrees) (cl : List Slice) : Type 0 where
  pub first : TokenTree
  pub rest : TokenTrees
  pub is : vs ≡ first ∷ᵗ rest
  pub here : TreeHere s tb end j first
  pub onward : (r : ℕ) → NextAt tb end j r → InsideAt s tb end r rest cl

pub item : {s tb : List ℕ} {end j : ℕ} {vs : TokenTrees} {cl : List Slice} → InsideAt s tb end j vs cl → more_at tb end j ≡ true → Item s tb end j vs cl
item {s} {tb} {end} {j} {vs} {cl} = go vs
  where
    go : (vs : TokenTrees) → InsideAt s tb end j vs cl → more_at tb end j ≡ true → Item s tb end j vs cl
    go no_trees h m = clash m (more_none s tb end j cl h)
    go (t ∷ᵗ ts) h m =
        let a = inside_tree s tb end j t ts cl h in
        record { first = t; rest = ts; is = refl; here = tree_here s tb end j t a; onward = λ r n. subst (λ (k : ℕ). InsideAt s tb end k ts cl) (sym (n s t a)) (inside_next s tb end j t ts cl h) }

pub no_item : {s tb : List ℕ} {end j : ℕ} {vs : TokenTrees} {cl : List Slice} → InsideAt s tb end j vs cl → more_at tb end j ≡ false → vs ≡ no_trees
no_item {s} {tb} {end} {j} {vs} {cl} = go vs
  where
    go : (vs : TokenTrees) → InsideAt s tb end j vs cl → more_at tb end j ≡ false → vs ≡ no_trees
    go no_trees h m = refl
    go (t ∷ᵗ ts) h m = clash (more_tree s tb end j t (inside_tree s tb end j t ts cl h) (inside_in_lem s tb end j t ts cl h)) m

-- ---- the pairs of a map

pub record Entry (s tb : List ℕ) (end j : ℕ) (kvs : KeyValues) (cl : List Slice) : Type 0 where
  pub key : TokenTree
  pub val : TokenTree
  pub rest : KeyValues
  pub is : kvs ≡ pair key val rest
  pub here : TreeHere s tb end j key
  pub there : (r : ℕ) → NextAt tb end j r → TreeHere s tb end r val
  pub onward : (r q : ℕ) → NextAt tb end j r → NextAt tb end r q → PairedAt s tb end q rest cl

pub entry : {s tb : List ℕ} {end j : ℕ} {kvs : KeyValues} {cl : List Slice} → PairedAt s tb end j kvs cl → more_at tb end j ≡ true → Entry s tb end j kvs cl
entry {s} {tb} {end} {j} {kvs} {cl} = go kvs
  where
    go : (kvs : KeyValues) → PairedAt s tb end j kvs cl → more_at tb end j ≡ true → Entry s tb end j kvs cl
    go no_pairs h m = clash m (no_more s tb end j cl h)
    go (pair k v ts) h m = record { key = k; val = v; rest = ts; is = refl; here = tree_here s tb end j k a.key; there = λ r n. tree_here s tb end r v (there r n); onward = onward }
      where
        a : PairAt s tb end j k v
        a = paired_first s tb end j k v ts cl h

        there : (r : ℕ) → NextAt tb end j r → TreeAt s tb end r v
        there r n = subst (λ (x : ℕ). TreeAt s tb end x v) (sym (n s k a.key)) a.val

        onward : (r q : ℕ) → NextAt tb end j r → NextAt tb end r q → PairedAt s tb end q ts cl
        onward r q n m = subst (λ (x : ℕ). PairedAt s tb end x ts cl) (sym (m s v (there r n) ∙ ap (λ (x : ℕ). x + tree_size v) (n s k a.key))) (paired_next s tb end j k v ts cl h)

pub no_entry : {s tb : List ℕ} {end j : ℕ} {kvs : KeyValues} {cl : List Slice} → PairedAt s tb end j kvs cl → more_at tb end j ≡ false → kvs ≡ no_pairs
no_entry {s} {tb} {end} {j} {kvs} {cl} = go kvs
  where
    go : (kvs : KeyValues) → PairedAt s tb end j kvs cl → more_at tb end j ≡ false → kvs ≡ no_pairs
    go no_pairs h m = refl
    go (pair k v ts) h m = clash (one_more s tb end j k v ts cl h) m

-- ---- a map's keys and values in turn, for a walk that takes all containers alike

abbrev pub in_turn : KeyValues → TokenTrees
in_turn no_pairs = no_trees
in_turn (pair k v kvs) = k ∷ᵗ (v ∷ᵗ in_turn kvs)

turn_size : (kvs : KeyValues) → trees_size (in_turn kvs) ≡ pairs_size kvs
unfolding trees_size
turn_size no_pairs = refl
turn_size (pair k v kvs) = ap (λ (n : ℕ). tree_size k + (tree_size v + n)) (turn_size kvs)

turn_at : (s tb : List ℕ) (end j : ℕ) (kvs : KeyValues) → PairsAt s tb end j kvs → TreesAt s tb end j (in_turn kvs)
unfolding TreesAt
turn_at s tb end j no_pairs h = tt
turn_at s tb end j (pair k v kvs) h = (h.0, (h.1, turn_at s tb end (j + tree_size k + tree_size v) kvs h.2))

pub as_items : {s tb : List ℕ} {end j : ℕ} {kvs : KeyValues} {cl : List Slice} → PairedAt s tb end j kvs cl → InsideAt s tb end j (in_turn kvs) cl
as_items {s} {tb} {end} {j} {kvs} {cl} h =
    let e : trees_size (in_turn kvs) ≡ pairs_size kvs = turn_size kvs in
    record { values = turn_at s tb end j kvs h.pairs; closing = subst (λ (n : ℕ). CommentsAt s tb CLOSING_COMMENT (j + n) cl) (sym e) h.closing; all = omega (arith, h.all) }
