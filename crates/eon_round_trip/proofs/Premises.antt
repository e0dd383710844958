-- The premises of demand 3 on a tree, and what they make of it: a value without comments that is ready to be written and read back.
use Rattle.std.proofs.Common.{◌≡◌, ℕ, zero, suc, pred, ◌≤◌, Bool, true, false, ◌&&◌, List, [], ◌∷◌, Some, None, refl, subst, arith}
use Rattle.eon_spec.specs.declared.token_kind.TokenKind.{TokenKind}
use Rattle.eon_spec.specs.declared.token_kind.TokenKind.TheVariants.{Invalid}
use Rattle.eon_spec.specs.Token.{is_kind}
use Rattle.eon_spec.specs.Tree.{Span, TokenTree, TokenValue, TokenTrees, KeyValues, tree, identifier, number, quoted_string, list_of, map_of, variant_of, no_trees, ◌∷ᵗ◌, no_pairs, pair}
use Rattle.eon_spec.specs.Layout.{no_values}
use Rattle.eon_spec.specs.Runs.{every_variant, every_variant_in, every_variant_of, every_variant_of_pairs, holds_value, fits_or_holds_one, height, height_in, height_of, height_of_pairs, depth}
use Rattle.std.proofs.lemmas.Bool.{and_from}
use Rattle.eon_laws.proofs.Facts.{and_left, and_right}
use Rattle.eon_laws.proofs.Word.{IsString, double, single, basic, literal}
use Rattle.eon_laws.proofs.Sources.{TreeLeaves, Leaves, AllLeaves, PairsLeaves}
use Rattle.eon_laws.proofs.Words.{TextLeaf}
use Rattle.eon_round_trip.proofs.Plain.{Value, Values, Pairs, ◌∷ᵛ◌, pairᵖ, IsValue, is_identifier, is_number_lem, is_string, is_list, is_map, is_variant, AreValues, are_none, are_more, ArePairs, are_no_pairs, are_more_pairs, IsTree, is_tree, variant_fits, emptyᵛ, plain, plain_value, plain_trees, plain_pairs}
use Rattle.eon_round_trip.proofs.Ready.{IsName, Ready, AllReady, PairsReady, RootReady, string_name}
use Rattle.eon_round_trip.proofs.Written.{one_line_same, sole_equal}
use Rattle.eon_round_trip.proofs.NoComments.{free_tree, free_in, free_all, free_pairs}

-- a tree without comments is its value
more_trees : {t : TokenTree} {w : Value} {ts : TokenTrees} {vs : Values} → IsTree t w → AreValues ts vs → AreValues (t ∷ᵗ ts) (w ∷ᵛ vs)
more_trees (is_tree i) a = are_more i a

more_pairs : {k v : TokenTree} {x y : Value} {kvs : KeyValues} {ps : Pairs} → IsTree k x → IsTree v y → ArePairs kvs ps → ArePairs (pair k v kvs) (pairᵖ x y ps)
more_pairs (is_tree i) (is_tree j) a = are_more_pairs i j a

mutual
  unfolding plain free_tree

  pub tree_plain : (t : TokenTree) → free_tree t ≡ true → IsTree t (plain t)
  tree_plain (tree s [] v None) e = is_tree (value_plain v e)
  tree_plain (tree s [] v (Some c)) e = cc
  tree_plain (tree s (c ∷ p) v x) e = cc

  value_plain : (v : TokenValue) → free_in v ≡ true → IsValue v (plain_value v)
  value_plain (identifier b) e = is_identifier
  value_plain (number b) e = is_number_lem
  value_plain (quoted_string b) e = is_string
  value_plain (list_of vs []) e = is_list (trees_plain vs e)
  value_plain (list_of vs (c ∷ cl)) e = cc
  value_plain (map_of kvs []) e = is_map (pairs_plain kvs e)
  value_plain (map_of kvs (c ∷ cl)) e = cc
  value_plain (variant_of n vs []) e = is_variant refl (trees_plain vs e)
  value_plain (variant_of n vs (c ∷ cl)) e = cc

  trees_plain : (ts : TokenTrees) → free_all ts ≡ true → AreValues ts (plain_trees ts)
  trees_plain no_trees e = are_none
  trees_plain (t ∷ᵗ ts) e = more_trees (tree_plain t (and_left (free_tree t) (free_all ts) e)) (trees_plain ts (and_right (free_tree t) (free_all ts) e))

  pairs_plain : (kvs : KeyValues) → free_pairs kvs ≡ true → ArePairs kvs (plain_pairs kvs)
  pairs_plain no_pairs e = are_no_pairs
  pairs_plain (pair k v kvs) e =
      let f = and_right (free_tree k) (free_tree v && free_pairs kvs) e in
      more_pairs (tree_plain k (and_left (free_tree k) (free_tree v && free_pairs kvs) e)) (tree_plain v (and_left (free_tree v) (free_pairs kvs) f)) (pairs_plain kvs (and_right (free_tree v) (free_pairs kvs) f))

not_empty : {ts : TokenTrees} {vs : Values} → AreValues ts vs → no_values ts ≡ emptyᵛ vs
not_empty are_none = refl
not_empty (are_more i a) = refl

fits_plain : {ts : TokenTrees} {vs : Values} → AreValues ts vs → holds_value ts ≡ true → fits_or_holds_one ts ≡ true → variant_fits vs ≡ true
fits_plain {ts} a e f = rw (not_empty a, one_line_same a, sole_equal a) at (and_from (holds_value ts) (fits_or_holds_one ts) e f)

valid : {k : TokenKind} → IsString k → is_kind k Invalid ≡ false
valid double = refl
valid single = refl
valid basic = refl
valid literal = refl

-- a variant's test and those of the variants in it; the tests of trees in a row
module _ (test : TokenTrees → Bool) where
  abbrev Every : TokenValue → Type 0
  Every v = every_variant_in test v ≡ true

  abbrev EveryOf : TokenTrees → Type 0
  EveryOf ts = every_variant_of test ts ≡ true

  abbrev EveryPair : KeyValues → Type 0
  EveryPair kvs = every_variant_of_pairs test kvs ≡ true

pair_tests : (test : TokenTrees → Bool) (k v : TokenValue) (kvs : KeyValues) → every_variant_in test k && (every_variant_in test v && every_variant_of_pairs test kvs) ≡ true
    → Every test k × Every test v × EveryPair test kvs
pair_tests test k v kvs e =
    let f = and_right (every_variant_in test k) (every_variant_in test v && every_variant_of_pairs test kvs) e in
    (and_left (every_variant_in test k) (every_variant_in test v && every_variant_of_pairs test kvs) e, and_left (every_variant_in test v) (every_variant_of_pairs test kvs) f, and_right (every_variant_in test v) (every_variant_of_pairs test kvs) f)

-- what is read from a text s and meets the premises is ready
module _ (s : List ℕ) where
  mutual
    unfolding every_variant height

    value_ready : {v : TokenValue} {w : Value} → IsValue v w → (m : ℕ) (sp : Span) → Leaves (TextLeaf s) v sp → Every holds_value v → Every fits_or_holds_one v → height_in v ≤ m → Ready m w
    value_ready is_identifier m sp l e f h = l.0 refl
    value_ready is_number_lem m sp l e f h = l.0 refl
    value_ready (is_string {b = b}) m sp l e f h = string_name l.0 b l.1 (l.2.0 (valid l.1))
    value_ready (is_list a) m sp l e f h = all_ready a m l e f h
    value_ready (is_map a) m sp l e f h = pairs_ready a m l e f h
    value_ready (is_variant {n = n} {b = b} {ts = ts} p a) m sp l e f h = (
      subst (λ (z : List ℕ). IsName z) p (string_name l.0.0 n.bytes l.0.1 (l.0.2.0 (valid l.0.1))),
      fits_plain a (and_left (holds_value ts) (every_variant_of holds_value ts) e) (and_left (fits_or_holds_one ts) (every_variant_of fits_or_holds_one ts) f),
      all_ready a m l.1 (and_right (holds_value ts) (every_variant_of holds_value ts) e) (and_right (fits_or_holds_one ts) (every_variant_of fits_or_holds_one ts) f) h,
    )

    all_ready : {ts : TokenTrees} {vs : Values} → AreValues ts vs → (m : ℕ) → AllLeaves (TextLeaf s) ts → EveryOf holds_value ts → EveryOf fits_or_holds_one ts → height_of ts ≤ m → AllReady m vs
    all_ready are_none m l e f h = tt
    all_ready (are_more {s = sp} {v = v} {ts = ts} i a) zero l e f h = omega arith
    all_ready (are_more {s = sp} {v = v} {ts = ts} i a) (suc m) l e f h = (
      value_ready i m sp l.0 (and_left (every_variant_in holds_value v) (every_variant_of holds_value ts) e) (and_left (every_variant_in fits_or_holds_one v) (every_variant_of fits_or_holds_one ts) f) (omega arith),
      all_ready a (suc m) l.1 (and_right (every_variant_in holds_value v) (every_variant_of holds_value ts) e) (and_right (every_variant_in fits_or_holds_one v) (every_variant_of fits_or_holds_one ts) f) (omega arith),
    )

    pairs_ready : {kvs : KeyValues} {ps : Pairs} → ArePairs kvs ps → (m : ℕ) → PairsLeaves (TextLeaf s) kvs → EveryPair holds_value kvs → EveryPair fits_or_holds_one kvs → height_of_pairs kvs ≤ m → PairsReady m ps
    pairs_ready are_no_pairs m l e f h = tt
    pairs_ready (are_more_pairs i j a) zero l e f h = omega arith
    pairs_ready (are_more_pairs {s = sp} {t = tp} {k = k} {v = v} {kvs = kvs} i j a) (suc m) l e f h =
        let x = pair_tests holds_value k v kvs e in
        let y = pair_tests fits_or_holds_one k v kvs f in (
          value_ready i m sp l.0 x.0 y.0 (omega arith),
          value_ready j m tp l.1 x.1 y.1 (omega arith),
          pairs_ready a (suc m) l.2 x.2 y.2 (omega arith),
        )

  below : (n : ℕ) → pred n ≤ 63 → n ≤ 64
  below n h = omega arith

  pub tree_ready : {t : TokenTree} {w : Value} → IsTree t w → TreeLeaves (TextLeaf s) t → every_variant holds_value t ≡ true → every_variant fits_or_holds_one t ≡ true → depth t ≤ 63 → RootReady w
  unfolding every_variant depth height
  tree_ready (is_tree {s = sp} is_identifier) l e f h = value_ready is_identifier 63 sp l e f h
  tree_ready (is_tree {s = sp} is_number_lem) l e f h = value_ready is_number_lem 63 sp l e f h
  tree_ready (is_tree {s = sp} is_string) l e f h = value_ready is_string 63 sp l e f h
  tree_ready (is_tree {s = sp} (is_list a)) l e f h = value_ready (is_list a) 63 sp l e f h
  tree_ready (is_tree (is_map {kvs = kvs} a)) l e f h = pairs_ready a 64 l e f (below (height_of_pairs kvs) h)
  tree_ready (is_tree {s = sp} (is_variant {n = n} p a)) l e f h = value_ready (is_variant {n = n} p a) 63 sp l e f h
