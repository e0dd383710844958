-- The steps of a walk over a table that holds a tree.
use Rattle.std.proofs.Common.{inl, inr, ◌⊎◌, ◌≡◌, ℕ, ◌+◌, ◌<◌, ◌≤◌, Bool, true, false, not, ◌&&◌, eqb, ltb, List, [], ◌∷◌, length, Some, None, Option, sym, refl, ap, ◌∙◌, subst, add-zero, arith, ltb-true, le-ltb, lt-ltb, eq-eqb, ne_eqb}
use Rattle.std.proofs.lemmas.Bool.{cases_lt, cases_order, and_right}
use Rattle.eon_spec.specs.RecordKind.{PREFIX_COMMENT, CLOSING_COMMENT}
use Rattle.eon_spec.specs.Tree.{Span, Slice, TokenTree, TokenValue, TokenTrees, KeyValues, tree, identifier, number, quoted_string, list_of, map_of, variant_of, no_trees, ◌∷ᵗ◌, no_pairs, pair}
use Rattle.eon_spec.specs.Layout.{prefix_of, suffix_of}
use Rattle.eon_laws.proofs.Facts.{clash, and_left}
use Rattle.eon_laws.proofs.Records.{suffix_size, tree_size, value_size, trees_size, pairs_size}
use Rattle.eon_table.specs.Words.{word, has_suffix, more_at, AfterPrefix, Within, Texts}
use Rattle.eon_table.specs.TreeAt.{kind_of, value_of, CommentsAt, SuffixAt, HeadAt, TreeAt, ValueAt, TreesAt, PairsAt, InsideAt, PairedAt, PairAt}
use Rattle.eon_table.proofs.Table.{word_in}

-- ---- kinds and sizes

pub kind_low : (v : TokenValue) → kind_of v < 7
kind_low (identifier b) = omega arith
kind_low (number b) = omega arith
kind_low (quoted_string b) = omega arith
kind_low (list_of vs cl) = omega arith
kind_low (map_of kvs cl) = omega arith
kind_low (variant_of n vs cl) = omega arith

pub value_pos : (v : TokenValue) → 1 ≤ value_size v
unfolding value_size
value_pos (identifier b) = omega arith
value_pos (number b) = omega arith
value_pos (quoted_string b) = omega arith
value_pos (list_of vs cl) = omega arith
value_pos (map_of kvs cl) = omega arith
value_pos (variant_of n vs cl) = omega arith

pub tree_pos : (t : TokenTree) → 1 ≤ tree_size t
unfolding tree_size
tree_pos (tree sp p v x) = let h : 1 ≤ value_size v = value_pos v in omega arith

module _ (s tb : List ℕ) where
  pub value_kind : (i : ℕ) (v : TokenValue) → ValueAt s tb i v → word tb i 0 ≡ kind_of v
  unfolding ValueAt
  value_kind i (identifier b) h = h.is_kind
  value_kind i (number b) h = h.is_kind
  value_kind i (quoted_string b) h = h.is_kind
  value_kind i (list_of vs cl) h = h.0.is_kind
  value_kind i (map_of kvs cl) h = h.0.is_kind
  value_kind i (variant_of n vs cl) h = h.0.is_kind

  pub value_size_lem : (i : ℕ) (v : TokenValue) → ValueAt s tb i v → word tb i 4 ≡ value_size v
  unfolding ValueAt value_size
  value_size_lem i (identifier b) h = h.is_size
  value_size_lem i (number b) h = h.is_size
  value_size_lem i (quoted_string b) h = h.is_size
  value_size_lem i (list_of vs cl) h = h.0.is_size
  value_size_lem i (map_of kvs cl) h = h.0.is_size
  value_size_lem i (variant_of n vs cl) h = h.0.is_size

  -- no value's record is a prefix comment
  pub value_not : (i : ℕ) (v : TokenValue) → ValueAt s tb i v → word tb i 0 ≡ PREFIX_COMMENT → ⊥
  value_not i v h e =
      let k : word tb i 0 ≡ kind_of v = value_kind i v h in
      let l : kind_of v < 7 = kind_low v in
      omega arith

  -- a tree without prefix comments
  pub bare_value_lem : (end i : ℕ) (sp : Span) (v : TokenValue) (x : Option Slice) → TreeAt s tb end i (tree sp [] v x) → ValueAt s tb i v
  unfolding TreeAt
  bare_value_lem end i sp v x h = subst (λ (j : ℕ). ValueAt s tb j v) (add-zero i) h.1

  pub bare_suffix : (end i : ℕ) (sp : Span) (v : TokenValue) (x : Option Slice) → TreeAt s tb end i (tree sp [] v x) → SuffixAt s tb end (i + value_size v) x
  unfolding TreeAt
  bare_suffix end i sp v x h = subst (λ (j : ℕ). SuffixAt s tb end (j + value_size v) x) (add-zero i) h.2

  -- a tree does not start with a closing comment
  pub tree_not_closing : (end i : ℕ) (t : TokenTree) → TreeAt s tb end i t → word tb i 0 ≡ CLOSING_COMMENT → ⊥
  tree_not_closing end i (tree sp (c ∷ cs) v x) h e = let q : word tb i 0 ≡ PREFIX_COMMENT = unfold TreeAt in h.0.0.is_kind in omega arith
  tree_not_closing end i (tree sp [] v x) h e =
      let q : word tb i 0 ≡ kind_of v = value_kind i v (bare_value_lem end i sp v x h) in
      let l : kind_of v < 7 = kind_low v in
      omega arith

  pub value_in : (i : ℕ) (v : TokenValue) → ValueAt s tb i v → i < length tb
  value_in i v h =
      let e : word tb i 4 ≡ value_size v = value_size_lem i v h in
      let p : 1 ≤ value_size v = value_pos v in
      word_in tb i 4 (omega arith)

-- ---- comments

-- the texts of comments lie in the text
pub comments_texts : (s tb : List ℕ) (k i : ℕ) (cs : List Slice) → CommentsAt s tb k i cs → Texts s tb i (i + length cs)
comments_texts s tb k i [] h j a b = absurd (omega arith)
comments_texts s tb k i (c ∷ cs) h j a b = go (cases_lt i j) (comments_texts s tb k (i + 1) cs h.1 j)
  where
    go : (i < j) ⊎ (j ≤ i) → (i + 1 ≤ j → j < i + 1 + length cs → Within s tb j) → Within s tb j
    go (inl d) f = f (omega arith) (omega arith)
    go (inr d) f = subst (Within s tb) (omega arith) h.0.in_text

-- a record of a kind among comments
pub comments_kind : (s tb : List ℕ) (k i : ℕ) (cs : List Slice) → CommentsAt s tb k i cs → (j : ℕ) → i ≤ j → j < i + length cs → word tb j 0 ≡ k
comments_kind s tb k i [] h j a b = absurd (omega arith)
comments_kind s tb k i (c ∷ cs) h j a b = go (cases_lt i j) (comments_kind s tb k (i + 1) cs h.1 j)
  where
    go : (i < j) ⊎ (j ≤ i) → (i + 1 ≤ j → j < i + 1 + length cs → word tb j 0 ≡ k) → word tb j 0 ≡ k
    go (inl d) f = f (omega arith) (omega arith)
    go (inr d) f = subst (λ (m : ℕ). word tb m 0 ≡ k) (omega arith) h.0.is_kind

-- where the prefix comments end
pub prefix_ends : (s tb : List ℕ) (i r : ℕ) (p : List Slice) → CommentsAt s tb PREFIX_COMMENT i p → (word tb (i + length p) 0 ≡ PREFIX_COMMENT → ⊥) → AfterPrefix tb i r → r ≡ i + length p
prefix_ends s tb i r p h e a = go (cases_order r (i + length p))
  where
    go : (r ≡ i + length p) ⊎ ((r < i + length p) ⊎ (i + length p < r)) → r ≡ i + length p
    go (inl x) = x
    go (inr (inl x)) = absurd (a.ends (comments_kind s tb PREFIX_COMMENT i p h r a.from (omega arith)))
    go (inr (inr x)) = absurd (e (a.prefix (i + length p) (omega arith) (omega arith)))

-- ---- a tree's parts

module _ (s tb : List ℕ) where
  module _ (end i r : ℕ) where
    pub tree_head : (t : TokenTree) → TreeAt s tb end i t → AfterPrefix tb i r → r ≡ i + length (prefix_of t)
    unfolding TreeAt
    tree_head (tree sp p v x) h a = prefix_ends s tb i r p h.0 (value_not s tb (i + length p) v h.1) a

    pub tree_value : (t : TokenTree) → TreeAt s tb end i t → AfterPrefix tb i r → ValueAt s tb r (value_of t)
    unfolding TreeAt
    tree_value (tree sp p v x) h a = subst (λ (j : ℕ). ValueAt s tb j v) (sym (tree_head (tree sp p v x) h a)) h.1

    pub tree_suffix : (t : TokenTree) → TreeAt s tb end i t → AfterPrefix tb i r → SuffixAt s tb end (r + word tb r 4) (suffix_of t)
    unfolding TreeAt
    tree_suffix (tree sp p v x) h a =
        let e : r ≡ i + length p = tree_head (tree sp p v x) h a in
        let q : word tb r 4 ≡ value_size v = value_size_lem s tb r v (tree_value (tree sp p v x) h a) in
        subst (λ (j : ℕ). SuffixAt s tb end j x) (omega arith) h.2

    pub tree_texts : (t : TokenTree) → TreeAt s tb end i t → AfterPrefix tb i r → Texts s tb i r
    unfolding TreeAt
    tree_texts (tree sp p v x) h a = subst (λ (j : ℕ). Texts s tb i j) (sym (tree_head (tree sp p v x) h a)) (comments_texts s tb PREFIX_COMMENT i p h.0)

    tree_ends : (t : TokenTree) → TreeAt s tb end i t → AfterPrefix tb i r → r + word tb r 4 + suffix_size (suffix_of t) ≡ i + tree_size t
    unfolding TreeAt tree_size
    tree_ends (tree sp p v x) h a =
        let e : r ≡ i + length p = tree_head (tree sp p v x) h a in
        let q : word tb r 4 ≡ value_size v = value_size_lem s tb r v (tree_value (tree sp p v x) h a) in
        omega arith

    suffix_one : (j : ℕ) (x : Option Slice) → SuffixAt s tb end j x → has_suffix tb end j ≡ true → suffix_size x ≡ 1
    suffix_one j None h e = clash e h
    suffix_one j (Some c) h e = refl

    suffix_zero : (j : ℕ) (x : Option Slice) → SuffixAt s tb end j x → has_suffix tb end j ≡ false → suffix_size x ≡ 0
    suffix_zero j None h e = refl
    suffix_zero j (Some c) h e = clash h.0 e

    -- w is the size that the code reads
    pub next_suffix : (t : TokenTree) → TreeAt s tb end i t → AfterPrefix tb i r → (w : ℕ) → w ≡ word tb r 4 → has_suffix tb end (r + w) ≡ true → r + w + 1 ≡ i + tree_size t
    next_suffix t h a w p e =
        let q : suffix_size (suffix_of t) ≡ 1 = suffix_one (r + word tb r 4) (suffix_of t) (tree_suffix t h a) (rw p at e) in
        let z : r + word tb r 4 + suffix_size (suffix_of t) ≡ i + tree_size t = tree_ends t h a in
        omega arith

    pub next_bare : (t : TokenTree) → TreeAt s tb end i t → AfterPrefix tb i r → (w : ℕ) → w ≡ word tb r 4 → has_suffix tb end (r + w) ≡ false → r + w ≡ i + tree_size t
    next_bare t h a w p e =
        let q : suffix_size (suffix_of t) ≡ 0 = suffix_zero (r + word tb r 4) (suffix_of t) (tree_suffix t h a) (rw p at e) in
        let z : r + word tb r 4 + suffix_size (suffix_of t) ≡ i + tree_size t = tree_ends t h a in
        omega arith

-- ---- into a container

module _ (s tb : List ℕ) (i : ℕ) where
  pub trees_inside : (vs : TokenTrees) (cl : List Slice) (k : ℕ) → HeadAt s tb k (1 + (trees_size vs + length cl)) i →
      TreesAt s tb (i + (1 + (trees_size vs + length cl))) (i + 1) vs → CommentsAt s tb CLOSING_COMMENT (i + 1 + trees_size vs) cl →
      InsideAt s tb (i + word tb i 4) (i + 1) vs cl
  trees_inside vs cl k h a b =
      let e : word tb i 4 ≡ 1 + (trees_size vs + length cl) = h.is_size in
      record { values = subst (λ (m : ℕ). TreesAt s tb (i + m) (i + 1) vs) (sym e) a; closing = b; all = omega arith }

  pub list_inside_lem : (vs : TokenTrees) (cl : List Slice) → ValueAt s tb i (list_of vs cl) → InsideAt s tb (i + word tb i 4) (i + 1) vs cl
  unfolding ValueAt value_size
  list_inside_lem vs cl h = trees_inside vs cl 4 h.0 h.1 h.2

  pub variant_inside : (m : Slice) (vs : TokenTrees) (cl : List Slice) → ValueAt s tb i (variant_of m vs cl) → InsideAt s tb (i + word tb i 4) (i + 1) vs cl
  unfolding ValueAt value_size
  variant_inside m vs cl h = trees_inside vs cl 6 h.0 h.1 h.2

  -- with the size as the code has it
  pub inside_by : (w : ℕ) → w ≡ word tb i 4 → (vs : TokenTrees) (cl : List Slice) → InsideAt s tb (i + word tb i 4) (i + 1) vs cl → InsideAt s tb (i + w) (i + 1) vs cl
  inside_by w e vs cl h = subst (λ (x : ℕ). InsideAt s tb (i + x) (i + 1) vs cl) (sym e) h

  pub list_values : (w : ℕ) → w ≡ word tb i 4 → (vs : TokenTrees) (cl : List Slice) → ValueAt s tb i (list_of vs cl) → InsideAt s tb (i + w) (i + 1) vs cl
  list_values w e vs cl h = inside_by w e vs cl (list_inside_lem vs cl h)

  pub map_inside_lem : (kvs : KeyValues) (cl : List Slice) → ValueAt s tb i (map_of kvs cl) → PairedAt s tb (i + word tb i 4) (i + 1) kvs cl
  unfolding ValueAt value_size
  map_inside_lem kvs cl h =
      let e : word tb i 4 ≡ 1 + (pairs_size kvs + length cl) = h.0.is_size in
      record { pairs = subst (λ (m : ℕ). PairsAt s tb (i + m) (i + 1) kvs) (sym e) h.1; closing = h.2; all = omega arith }

  pub map_pairs : (w : ℕ) → w ≡ word tb i 4 → (kvs : KeyValues) (cl : List Slice) → ValueAt s tb i (map_of kvs cl) → PairedAt s tb (i + w) (i + 1) kvs cl
  map_pairs w e kvs cl h = subst (λ (x : ℕ). PairedAt s tb (i + x) (i + 1) kvs cl) (sym e) (map_inside_lem kvs cl h)

-- ---- items

more_off : (tb : List ℕ) (end j : ℕ) → end ≤ j → more_at tb end j ≡ false
unfolding more_at
more_off tb end j h = ap (λ (x : Bool). x && not (eqb (word tb j 0) CLOSING_COMMENT)) (le-ltb j end h)

more_ends : (tb : List ℕ) (end j : ℕ) → word tb j 0 ≡ CLOSING_COMMENT → more_at tb end j ≡ false
unfolding more_at
more_ends tb end j h = and_right (ltb j end) (not (eqb (word tb j 0) CLOSING_COMMENT)) (ap not (eq-eqb (word tb j 0) CLOSING_COMMENT h))

pub more_in : (tb : List ℕ) (end j : ℕ) → more_at tb end j ≡ true → j < end
unfolding more_at
more_in tb end j h = ltb-true j end (and_left (ltb j end) (not (eqb (word tb j 0) CLOSING_COMMENT)) h)

module _ (s tb : List ℕ) (end : ℕ) where
  pub inside_next : (i : ℕ) (t : TokenTree) (ts : TokenTrees) (cl : List Slice) → InsideAt s tb end i (t ∷ᵗ ts) cl → InsideAt s tb end (i + tree_size t) ts cl
  unfolding TreesAt trees_size
  inside_next i t ts cl h =
      record {
        values = h.values.1;
        closing = subst (λ (j : ℕ). CommentsAt s tb CLOSING_COMMENT j cl) (omega arith) h.closing;
        all = let e : end ≡ i + (tree_size t + trees_size ts) + length cl = h.all in omega arith;
      }

  pub inside_tree : (i : ℕ) (t : TokenTree) (ts : TokenTrees) (cl : List Slice) → InsideAt s tb end i (t ∷ᵗ ts) cl → TreeAt s tb end i t
  unfolding TreesAt
  inside_tree i t ts cl h = h.values.0

  pub inside_in_lem : (i : ℕ) (t : TokenTree) (ts : TokenTrees) (cl : List Slice) → InsideAt s tb end i (t ∷ᵗ ts) cl → i < end
  unfolding trees_size
  inside_in_lem i t ts cl h = let e : end ≡ i + (tree_size t + trees_size ts) + length cl = h.all in let p : 1 ≤ tree_size t = tree_pos t in omega arith

  pub inside_closing : (i : ℕ) (cl : List Slice) → InsideAt s tb end i no_trees cl → CommentsAt s tb CLOSING_COMMENT i cl
  unfolding trees_size
  inside_closing i cl h = subst (λ (j : ℕ). CommentsAt s tb CLOSING_COMMENT j cl) (add-zero i) h.closing

  pub inside_end : (i : ℕ) (cl : List Slice) → InsideAt s tb end i no_trees cl → end ≡ i + length cl
  unfolding trees_size
  inside_end i cl h = let e : end ≡ i + 0 + length cl = h.all in omega arith

  more_closing : (j : ℕ) (cl : List Slice) → CommentsAt s tb CLOSING_COMMENT j cl → end ≡ j + length cl → more_at tb end j ≡ false
  more_closing j [] h e = more_off tb end j (omega arith)
  more_closing j (c ∷ cs) h e = more_ends tb end j h.0.is_kind

  pub more_none : (j : ℕ) (cl : List Slice) → InsideAt s tb end j no_trees cl → more_at tb end j ≡ false
  more_none j cl h = more_closing j cl (inside_closing j cl h) (inside_end j cl h)

  pub more_tree : (j : ℕ) (t : TokenTree) → TreeAt s tb end j t → j < end → more_at tb end j ≡ true
  unfolding more_at
  more_tree j t h l =
      ap (λ (x : Bool). x && not (eqb (word tb j 0) CLOSING_COMMENT)) (lt-ltb j end l) ∙ ap not (ne_eqb (word tb j 0) CLOSING_COMMENT (tree_not_closing s tb end j t h))

  pub paired_first : (i : ℕ) (k v : TokenTree) (ts : KeyValues) (cl : List Slice) → PairedAt s tb end i (pair k v ts) cl → PairAt s tb end i k v
  unfolding PairsAt
  paired_first i k v ts cl h = record { key = h.pairs.0; val = h.pairs.1 }

  pub paired_next : (i : ℕ) (k v : TokenTree) (ts : KeyValues) (cl : List Slice) → PairedAt s tb end i (pair k v ts) cl → PairedAt s tb end (i + tree_size k + tree_size v) ts cl
  unfolding PairsAt pairs_size
  paired_next i k v ts cl h =
      record {
        pairs = h.pairs.2;
        closing = subst (λ (j : ℕ). CommentsAt s tb CLOSING_COMMENT j cl) (omega arith) h.closing;
        all = let e : end ≡ i + (tree_size k + (tree_size v + pairs_size ts)) + length cl = h.all in omega arith;
      }

  pub paired_in : (i : ℕ) (k v : TokenTree) (ts : KeyValues) (cl : List Slice) → PairedAt s tb end i (pair k v ts) cl → i < end
  unfolding pairs_size
  paired_in i k v ts cl h =
      let e : end ≡ i + (tree_size k + (tree_size v + pairs_size ts)) + length cl = h.all in
      let p : 1 ≤ tree_size k = tree_pos k in
      omega arith

  pub paired_closing : (i : ℕ) (cl : List Slice) → PairedAt s tb end i no_pairs cl → CommentsAt s tb CLOSING_COMMENT i cl
  unfolding pairs_size
  paired_closing i cl h = subst (λ (j : ℕ). CommentsAt s tb CLOSING_COMMENT j cl) (add-zero i) h.closing

  pub paired_end : (i : ℕ) (cl : List Slice) → PairedAt s tb end i no_pairs cl → end ≡ i + length cl
  unfolding pairs_size
  paired_end i cl h = let e : end ≡ i + 0 + length cl = h.all in omega arith

  pub paired_texts : (j : ℕ) (cl : List Slice) → PairedAt s tb end j no_pairs cl → Texts s tb j end
  paired_texts j cl h = subst (λ (k : ℕ). Texts s tb j k) (sym (paired_end j cl h)) (comments_texts s tb CLOSING_COMMENT j cl (paired_closing j cl h))

  pub no_more : (j : ℕ) (cl : List Slice) → PairedAt s tb end j no_pairs cl → more_at tb end j ≡ false
  no_more j cl h = more_closing j cl (paired_closing j cl h) (paired_end j cl h)

  pub one_more : (j : ℕ) (k v : TokenTree) (ts : KeyValues) (cl : List Slice) → PairedAt s tb end j (pair k v ts) cl → more_at tb end j ≡ true
  one_more j k v ts cl h = more_tree j k (paired_first j k v ts cl h).key (paired_in j k v ts cl h)
