-- What it is that a table holds a tree's records from a record on, and that the text holds its bytes.
use Rattle.std.specs.Prelude.{ℕ, ◌+◌, ◌≡◌, true, false, List, [], ◌∷◌, length, Option, None, Some}
use Rattle.eon_spec.specs.Tree.{Slice, TokenTree, TokenValue, TokenTrees, KeyValues, tree, identifier, number, quoted_string, list_of, map_of, variant_of, no_trees, ◌∷ᵗ◌, no_pairs, pair}
use Rattle.eon_spec.specs.RecordKind.{IDENTIFIER, NUMBER, STRING, LIST, MAP, VARIANT, PREFIX_COMMENT, SUFFIX_COMMENT, CLOSING_COMMENT}
use Rattle.eon_laws.proofs.Records.{tree_size, value_size, trees_size, pairs_size}
use Rattle.eon_table.specs.Words.{word, has_suffix, text_at, Within}

-- a value's kind, as its record has it
abbrev pub kind_of : TokenValue → ℕ
kind_of (identifier b) = IDENTIFIER
kind_of (number b) = NUMBER
kind_of (quoted_string b) = STRING
kind_of (list_of vs cl) = LIST
kind_of (map_of kvs cl) = MAP
kind_of (variant_of n vs cl) = VARIANT

-- a tree's value
abbrev pub value_of : TokenTree → TokenValue
value_of (tree sp p v x) = v

module _ (s tb : List ℕ) where
  pub record LeafAt (kind i : ℕ) (b : List ℕ) : Type 0 where
    pub is_kind : word tb i 0 ≡ kind
    pub is_size : word tb i 4 ≡ 1
    pub in_text : Within s tb i
    pub bytes : text_at s tb i ≡ b

  abbrev pub CommentsAt : ℕ → ℕ → List Slice → Type 0
  CommentsAt k i [] = Unit {0}
  CommentsAt k i (c ∷ cs) = LeafAt k i c.bytes × CommentsAt k (i + 1) cs

  abbrev pub SuffixAt : ℕ → ℕ → Option Slice → Type 0
  SuffixAt end i None = has_suffix tb end i ≡ false
  SuffixAt end i (Some c) = (has_suffix tb end i ≡ true) × LeafAt SUFFIX_COMMENT i c.bytes

  -- a container's record
  pub record HeadAt (kind size i : ℕ) : Type 0 where
    pub is_kind : word tb i 0 ≡ kind
    pub is_size : word tb i 4 ≡ size

  -- `end` is where the container's records end, or the table's
  unfoldable mutual
    pub TreeAt : ℕ → ℕ → TokenTree → Type 0
    TreeAt end i (tree _ p v x) =
        CommentsAt PREFIX_COMMENT i p × ValueAt (i + length p) v × SuffixAt end (i + length p + value_size v) x

    pub ValueAt : ℕ → TokenValue → Type 0
    ValueAt i (identifier b) = LeafAt IDENTIFIER i b
    ValueAt i (number b) = LeafAt NUMBER i b
    ValueAt i (quoted_string b) = LeafAt STRING i b
    ValueAt i (list_of vs cl) =
        HeadAt LIST (value_size (list_of vs cl)) i
        × TreesAt (i + value_size (list_of vs cl)) (i + 1) vs
        × CommentsAt CLOSING_COMMENT (i + 1 + trees_size vs) cl
    ValueAt i (map_of kvs cl) =
        HeadAt MAP (value_size (map_of kvs cl)) i
        × PairsAt (i + value_size (map_of kvs cl)) (i + 1) kvs
        × CommentsAt CLOSING_COMMENT (i + 1 + pairs_size kvs) cl
    ValueAt i (variant_of n vs cl) =
        HeadAt VARIANT (value_size (variant_of n vs cl)) i
        × TreesAt (i + value_size (variant_of n vs cl)) (i + 1) vs
        × CommentsAt CLOSING_COMMENT (i + 1 + trees_size vs) cl
        × Within s tb i
        × (text_at s tb i ≡ n.bytes)

    pub TreesAt : ℕ → ℕ → TokenTrees → Type 0
    TreesAt end i no_trees = Unit {0}
    TreesAt end i (t ∷ᵗ ts) = TreeAt end i t × TreesAt end (i + tree_size t) ts

    pub PairsAt : ℕ → ℕ → KeyValues → Type 0
    PairsAt end i no_pairs = Unit {0}
    PairsAt end i (pair k v kvs) =
        TreeAt end i k × TreeAt end (i + tree_size k) v × PairsAt end (i + tree_size k + tree_size v) kvs

  -- the values and closing comments of a container, from record i up to `end`
  pub record InsideAt (end i : ℕ) (vs : TokenTrees) (cl : List Slice) : Type 0 where
    pub values : TreesAt end i vs
    pub closing : CommentsAt CLOSING_COMMENT (i + trees_size vs) cl
    pub all : end ≡ i + trees_size vs + length cl

  -- a map's pairs and closing comments
  pub record PairedAt (end i : ℕ) (kvs : KeyValues) (cl : List Slice) : Type 0 where
    pub pairs : PairsAt end i kvs
    pub closing : CommentsAt CLOSING_COMMENT (i + pairs_size kvs) cl
    pub all : end ≡ i + pairs_size kvs + length cl

  -- a key and its value
  pub record PairAt (end i : ℕ) (k v : TokenTree) : Type 0 where
    pub key : TreeAt end i k
    pub val : TreeAt end (i + tree_size k) v

  -- what a call needs: that there is something
  abbrev pub SomeTree : ℕ → ℕ → Type 0
  SomeTree end i = (t : TokenTree) × TreeAt end i t

  abbrev pub SomeValue : ℕ → Type 0
  SomeValue i = (v : TokenValue) × ValueAt i v

  abbrev pub SomeInside : ℕ → ℕ → Type 0
  SomeInside end i = (vs : TokenTrees) × (cl : List Slice) × InsideAt end i vs cl

  abbrev pub SomePair : ℕ → ℕ → Type 0
  SomePair end i = (k : TokenTree) × (v : TokenTree) × PairAt end i k v

  abbrev pub SomeList : ℕ → Type 0
  SomeList i = (vs : TokenTrees) × (cl : List Slice) × ValueAt i (list_of vs cl)

  abbrev pub SomeMap : ℕ → Type 0
  SomeMap i = (kvs : KeyValues) × (cl : List Slice) × ValueAt i (map_of kvs cl)

  abbrev pub SomeVariant : ℕ → Type 0
  SomeVariant i = (m : Slice) × (vs : TokenTrees) × (cl : List Slice) × ValueAt i (variant_of m vs cl)

-- r is the record after the tree that starts at record i
abbrev pub NextAt : List ℕ → ℕ → ℕ → ℕ → Type 0
NextAt tb end i r = (s : List ℕ) (t : TokenTree) → TreeAt s tb end i t → r ≡ i + tree_size t
