-- Trees without comments and spans.
use Rattle.std.proofs.Common.{◌≡◌, ℕ, suc, ◌+◌, Bool, true, false, not, ◌&&◌, ◌||◌, ltb, leb, List, [], length, None, refl, ap}
use Rattle.eon_spec.specs.Base.{elem}
use Rattle.eon_spec.specs.Tree.{Span, Slice, TokenTree, TokenValue, TokenTrees, KeyValues, tree, identifier, number, quoted_string, list_of, map_of, variant_of, no_trees, ◌∷ᵗ◌, no_pairs, pair}

mutual
  pub data Value : Type 0 where
    identifierᵛ : List ℕ → Value
    numberᵛ : List ℕ → Value
    stringᵛ : List ℕ → Value
    listᵛ : Values → Value
    mapᵛ : Pairs → Value
    -- quoted name, values
    variantᵛ : List ℕ → Values → Value

  pub data Values : Type 0 where
    noneᵛ : Values
    ◌∷ᵛ◌ : Value → Values → Values

  pub data Pairs : Type 0 where
    noneᵖ : Pairs
    -- key, value, further pairs
    pairᵖ : Value → Value → Pairs → Pairs

infixr 67 ◌∷ᵛ◌
-- a tree without comments is this value, spans aside
mutual
  pub data IsValue : TokenValue → Value → Type 0 where
    is_identifier : {b : List ℕ} → IsValue (identifier b) (identifierᵛ b)
    is_number_lem : {b : List ℕ} → IsValue (number b) (numberᵛ b)
    is_string : {b : List ℕ} → IsValue (quoted_string b) (stringᵛ b)
    is_list : {ts : TokenTrees} {vs : Values} → AreValues ts vs → IsValue (list_of ts []) (listᵛ vs)
    is_map : {kvs : KeyValues} {ps : Pairs} → ArePairs kvs ps → IsValue (map_of kvs []) (mapᵛ ps)
    is_variant : {n : Slice} {b : List ℕ} {ts : TokenTrees} {vs : Values} → n.bytes ≡ b → AreValues ts vs → IsValue (variant_of n ts []) (variantᵛ b vs)

  pub data AreValues : TokenTrees → Values → Type 0 where
    are_none : AreValues no_trees noneᵛ
    are_more : {s : Span} {v : TokenValue} {w : Value} {ts : TokenTrees} {vs : Values} → IsValue v w → AreValues ts vs → AreValues (tree s [] v None ∷ᵗ ts) (w ∷ᵛ vs)

  pub data ArePairs : KeyValues → Pairs → Type 0 where
    are_no_pairs : ArePairs no_pairs noneᵖ
    are_more_pairs : {s t : Span} {k v : TokenValue} {x y : Value} {kvs : KeyValues} {ps : Pairs} → IsValue k x → IsValue v y → ArePairs kvs ps → ArePairs (pair (tree s [] k None) (tree t [] v None) kvs) (pairᵖ x y ps)

pub data IsTree : TokenTree → Value → Type 0 where
  is_tree : {s : Span} {v : TokenValue} {w : Value} → IsValue v w → IsTree (tree s [] v None) w

-- the rule for one line
abbrev pub emptyᵛ : Values → Bool
emptyᵛ noneᵛ = true
emptyᵛ (v ∷ᵛ vs) = false

abbrev pub emptyᵖ : Pairs → Bool
emptyᵖ noneᵖ = true
emptyᵖ (pairᵖ k v ps) = false

abbrev pub simple : Value → Bool
simple (identifierᵛ b) = true
simple (numberᵛ b) = true
simple (stringᵛ b) = not (elem 10 b)
simple (listᵛ vs) = emptyᵛ vs
simple (mapᵛ ps) = emptyᵖ ps
simple (variantᵛ b vs) = emptyᵛ vs

abbrev pub is_numberᵛ : Value → Bool
is_numberᵛ (identifierᵛ b) = false
is_numberᵛ (numberᵛ b) = true
is_numberᵛ (stringᵛ b) = false
is_numberᵛ (listᵛ vs) = false
is_numberᵛ (mapᵛ ps) = false
is_numberᵛ (variantᵛ b vs) = false

abbrev pub width : Value → ℕ
width (identifierᵛ b) = 7
width (numberᵛ b) = 7
width (stringᵛ b) = length b + 2
width (listᵛ vs) = 7
width (mapᵛ ps) = 7
width (variantᵛ b vs) = 7

abbrev pub every : (Value → Bool) → Values → Bool
every f noneᵛ = true
every f (v ∷ᵛ vs) = f v && every f vs

abbrev pub countᵛ : Values → ℕ
countᵛ noneᵛ = 0
countᵛ (v ∷ᵛ vs) = suc (countᵛ vs)

abbrev pub widths : Values → ℕ
widths noneᵛ = 0
widths (v ∷ᵛ vs) = width v + widths vs

unfoldable pub one_lineᵛ : Values → Bool
one_lineᵛ vs = every simple vs && leb (countᵛ vs) 4 && (every is_numberᵛ vs || ltb (widths vs) 60)

abbrev pub is_containerᵛ : Value → Bool
is_containerᵛ (identifierᵛ b) = false
is_containerᵛ (numberᵛ b) = false
is_containerᵛ (stringᵛ b) = false
is_containerᵛ (listᵛ vs) = true
is_containerᵛ (mapᵛ ps) = true
is_containerᵛ (variantᵛ b vs) = false

abbrev pub sole_container : Values → Bool
sole_container noneᵛ = false
sole_container (v ∷ᵛ noneᵛ) = is_containerᵛ v
sole_container (v ∷ᵛ (w ∷ᵛ vs)) = false

-- a variant whose written form holds its values: some, and on one line or just one list or map
abbrev pub variant_fits : Values → Bool
variant_fits vs = not (emptyᵛ vs) && (one_lineᵛ vs || sole_container vs)

-- a variant that fits and is not on one line holds just one list or map
pub fits_sole : (vs : Values) → variant_fits vs ≡ true → one_lineᵛ vs ≡ false → sole_container vs ≡ true
fits_sole noneᵛ e f = cc
fits_sole (v ∷ᵛ vs) e f = rw f at e

-- the value of a tree, its comments and spans left out
unfoldable mutual
  pub plain : TokenTree → Value
  plain (tree s p v x) = plain_value v

  pub plain_value : TokenValue → Value
  plain_value (identifier b) = identifierᵛ b
  plain_value (number b) = numberᵛ b
  plain_value (quoted_string b) = stringᵛ b
  plain_value (list_of vs cl) = listᵛ (plain_trees vs)
  plain_value (map_of kvs cl) = mapᵛ (plain_pairs kvs)
  plain_value (variant_of n vs cl) = variantᵛ n.bytes (plain_trees vs)

  pub plain_trees : TokenTrees → Values
  plain_trees no_trees = noneᵛ
  plain_trees (t ∷ᵗ ts) = plain t ∷ᵛ plain_trees ts

  pub plain_pairs : KeyValues → Pairs
  plain_pairs no_pairs = noneᵖ
  plain_pairs (pair k v kvs) = pairᵖ (plain k) (plain v) (plain_pairs kvs)

-- a tree is the value that it is
mutual
  unfolding plain

  value_is : {v : TokenValue} {w : Value} → IsValue v w → plain_value v ≡ w
  value_is is_identifier = refl
  value_is is_number_lem = refl
  value_is is_string = refl
  value_is (is_list a) = ap listᵛ (values_are a)
  value_is (is_map a) = ap mapᵛ (pairs_are a)
  value_is (is_variant p a) = rw (p, values_are a)

  values_are : {ts : TokenTrees} {vs : Values} → AreValues ts vs → plain_trees ts ≡ vs
  values_are are_none = refl
  values_are (are_more i a) = rw (value_is i, values_are a)

  pairs_are : {kvs : KeyValues} {ps : Pairs} → ArePairs kvs ps → plain_pairs kvs ≡ ps
  pairs_are are_no_pairs = refl
  pairs_are (are_more_pairs i j a) = rw (value_is i, value_is j, pairs_are a)

pub tree_is : {t : TokenTree} {w : Value} → IsTree t w → plain t ≡ w
unfolding plain
tree_is (is_tree i) = value_is i
