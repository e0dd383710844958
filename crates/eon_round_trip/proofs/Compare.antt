-- The comparison of record tables says whether two trees without comments are equal, spans aside.
use Rattle.std.proofs.Common.{◌≡◌, ℕ, suc, true, false, eqb, List, [], ◌∷◌, ◌++◌, length, Some, None, Option, sym, refl, ap, ◌∙◌, append_assoc, append-nil, arith}
use Rattle.eon_laws.proofs.Facts.{cons_head, cons_tail}
use Rattle.eon_laws.proofs.Compare.{Key, keys_of, same_keys, keys_same, around_keys, around_keys_lem, append_same, keys_of_append}
use Rattle.eon_spec.specs.Tree.{Span, TokenTree, TokenValue, TokenTrees, KeyValues, tree}
use Rattle.eon_spec.specs.Records.{Record, record_at, around, tree_records, value_records, trees_records, pairs_records}
use Rattle.eon_spec.specs.Calls.{record_text, same_records}
use Rattle.eon_round_trip.proofs.Plain.{Value, Values, Pairs, identifierᵛ, numberᵛ, stringᵛ, listᵛ, mapᵛ, variantᵛ, noneᵛ, ◌∷ᵛ◌, noneᵖ, pairᵖ, IsValue, is_identifier, is_number_lem, is_string, is_list, is_map, is_variant, AreValues, are_none, are_more, ArePairs, are_no_pairs, are_more_pairs, IsTree, is_tree}
use Rattle.eon_laws.proofs.Sources.{TreeLeaves, Leaves, AllLeaves, PairsLeaves}
use Rattle.eon_laws.proofs.Words.{TextLeaf}

-- a tree as its records show it: kind, text, what is in it
mutual
  data Node : Type 0 where
    node : ℕ → List ℕ → Nodes → Node

  data Nodes : Type 0 where
    noneⁿ : Nodes
    ◌∷ⁿ◌ : Node → Nodes → Nodes

infixr 67 ◌∷ⁿ◌
mutual
  keys : Node → List Key
  keys (node k b ns) = record { kind = k; size = suc (length (all_keys ns)); text = b } ∷ all_keys ns

  all_keys : Nodes → List Key
  all_keys noneⁿ = []
  all_keys (n ∷ⁿ ns) = keys n ++ all_keys ns

node_eq : (k l : ℕ) (b c : List ℕ) (ns ms : Nodes) → k ≡ l → b ≡ c → ns ≡ ms → node k b ns ≡ node l c ms
node_eq k l b c ns ms p q r = λ i. node (p i) (q i) (r i)

nodes_eq : (n m : Node) (ns ms : Nodes) → n ≡ m → ns ≡ ms → n ∷ⁿ ns ≡ m ∷ⁿ ms
nodes_eq n m ns ms p q = λ i. p i ∷ⁿ q i

-- a node has a key
some_keys : {A : Type 0} (n : Node) (ks : List Key) → [] ≡ keys n ++ ks → A
unfolding keys
some_keys (node k b ns) ks e = cc

mutual
  unfolding keys

  keys_inj : (n m : Node) (r q : List Key) → keys n ++ r ≡ keys m ++ q → (n ≡ m) × (r ≡ q)
  keys_inj (node k b ns) (node l c ms) r q e =
      let h = cons_head e in
      let z : suc (length (all_keys ns)) ≡ suc (length (all_keys ms)) = ap (λ (x : Key). x.size) h in
      let a = append_same (all_keys ns) (all_keys ms) r q (omega arith) (cons_tail e) in
      (node_eq k l b c ns ms (ap (λ (x : Key). x.kind) h) (ap (λ (x : Key). x.text) h) (all_inj ns ms a.0), a.1)

  all_inj : (ns ms : Nodes) → all_keys ns ≡ all_keys ms → ns ≡ ms
  all_inj noneⁿ noneⁿ e = refl
  all_inj noneⁿ (m ∷ⁿ ms) e = some_keys m (all_keys ms) e
  all_inj (n ∷ⁿ ns) noneⁿ e = some_keys n (all_keys ns) (sym e)
  all_inj (n ∷ⁿ ns) (m ∷ⁿ ms) e = let r = keys_inj n m (all_keys ns) (all_keys ms) e in nodes_eq n m ns ms r.0 (all_inj ns ms r.1)

mutual
  node_of : Value → Node
  node_of (identifierᵛ b) = node 1 b noneⁿ
  node_of (numberᵛ b) = node 2 b noneⁿ
  node_of (stringᵛ b) = node 3 b noneⁿ
  node_of (listᵛ vs) = node 4 [] (nodes_of vs)
  node_of (mapᵛ ps) = node 5 [] (pair_nodes ps)
  node_of (variantᵛ b vs) = node 6 b (nodes_of vs)

  nodes_of : Values → Nodes
  nodes_of noneᵛ = noneⁿ
  nodes_of (v ∷ᵛ vs) = node_of v ∷ⁿ nodes_of vs

  pair_nodes : Pairs → Nodes
  pair_nodes noneᵖ = noneⁿ
  pair_nodes (pairᵖ x y ps) = node_of x ∷ⁿ (node_of y ∷ⁿ pair_nodes ps)

-- and back; a key waits for its value
mutual
  un_node : Node → Value
  un_node (node k b ns) =
      elim (eqb k 1) [
        | true ↦ identifierᵛ b
        | false ↦ elim (eqb k 2) [
          | true ↦ numberᵛ b
          | false ↦ elim (eqb k 3) [
            | true ↦ stringᵛ b
            | false ↦ elim (eqb k 4) [ true ↦ listᵛ (un_nodes ns) | false ↦ elim (eqb k 5) [ true ↦ mapᵛ (un_pairs ns None) | false ↦ variantᵛ b (un_nodes ns) ] ]
          ]
        ]
      ]

  un_nodes : Nodes → Values
  un_nodes noneⁿ = noneᵛ
  un_nodes (n ∷ⁿ ns) = un_node n ∷ᵛ un_nodes ns

  un_pairs : Nodes → Option Value → Pairs
  un_pairs noneⁿ waiting = noneᵖ
  un_pairs (n ∷ⁿ ns) None = un_pairs ns (Some (un_node n))
  un_pairs (n ∷ⁿ ns) (Some k) = pairᵖ k (un_node n) (un_pairs ns None)

mutual
  unfolding node_of un_node

  node_back : (v : Value) → un_node (node_of v) ≡ v
  node_back (identifierᵛ b) = refl
  node_back (numberᵛ b) = refl
  node_back (stringᵛ b) = refl
  node_back (listᵛ vs) = ap listᵛ (nodes_back vs)
  node_back (mapᵛ ps) = ap mapᵛ (pair_nodes_back ps)
  node_back (variantᵛ b vs) = ap (variantᵛ b) (nodes_back vs)

  nodes_back : (vs : Values) → un_nodes (nodes_of vs) ≡ vs
  nodes_back noneᵛ = refl
  nodes_back (v ∷ᵛ vs) = ap (λ (x : Value). x ∷ᵛ un_nodes (nodes_of vs)) (node_back v) ∙ ap (λ (x : Values). v ∷ᵛ x) (nodes_back vs)

  pair_nodes_back : (ps : Pairs) → un_pairs (pair_nodes ps) None ≡ ps
  pair_nodes_back noneᵖ = refl
  pair_nodes_back (pairᵖ x y ps) =
      ap (λ (z : Value). pairᵖ z (un_node (node_of y)) (un_pairs (pair_nodes ps) None)) (node_back x) ∙ ap (λ (z : Value). pairᵖ x z (un_pairs (pair_nodes ps) None)) (node_back y) ∙ ap (λ (z : Pairs). pairᵖ x y z) (pair_nodes_back ps)

module _ (s : List ℕ) where
  bare_around : (k : ℕ) (sp : Span) (e : ℕ) (inside : List Record) (ks : List Key) → keys_of s inside ≡ ks
      → keys_of s (around k sp e (inside ++ [])) ≡ around_keys k (record_text s (record_at k sp e 0)) ks
  bare_around k sp e inside ks h = around_keys_lem s k sp e (inside ++ []) ks (ap (keys_of s) (append-nil inside) ∙ h)

  three_keys : (a b c : List Record) (x y z : List Key) → keys_of s a ≡ x → keys_of s b ≡ y → keys_of s c ≡ z → keys_of s (a ++ b ++ c) ≡ x ++ (y ++ z)
  three_keys a b c x y z p q r = keys_of_append s (a ++ b) c ∙ rw (keys_of_append s a b, p, q, r) (append_assoc x y z)

  tree_keys_eq : (sp : Span) (v : TokenValue) → keys_of s (tree_records (tree sp [] v None)) ≡ keys_of s (value_records sp v)
  unfolding tree_records
  tree_keys_eq sp v = ap (keys_of s) (append-nil (value_records sp v))

  mutual
    unfolding tree_records keys node_of

    value_keys : {v : TokenValue} {w : Value} → IsValue v w → (sp : Span) → Leaves (TextLeaf s) v sp → keys_of s (value_records sp v) ≡ keys (node_of w)
    value_keys is_identifier sp l = rw l.1
    value_keys is_number_lem sp l = rw l.1
    value_keys is_string sp l = rw l.2.1
    value_keys (is_list {ts = ts} {vs = vs} a) sp l = bare_around 4 sp sp.end (trees_records ts) (all_keys (nodes_of vs)) (trees_keys a l)
    value_keys (is_map {kvs = kvs} {ps = ps} a) sp l = bare_around 5 sp sp.end (pairs_records kvs) (all_keys (pair_nodes ps)) (pairs_keys_lem a l)
    value_keys (is_variant {n = n} {b = b} {ts = ts} {vs = vs} p a) sp l =
        bare_around 6 sp n.span.end (trees_records ts) (all_keys (nodes_of vs)) (trees_keys a l.1)
        ∙ ap (λ (x : List ℕ). record { kind = 6; size = suc (length (all_keys (nodes_of vs))); text = x } ∷ all_keys (nodes_of vs)) (l.0.2.1 ∙ p)

    trees_keys : {ts : TokenTrees} {vs : Values} → AreValues ts vs → AllLeaves (TextLeaf s) ts → keys_of s (trees_records ts) ≡ all_keys (nodes_of vs)
    trees_keys are_none l = refl
    trees_keys (are_more {s = sp} {v = v} {w = w} {ts = ts} {vs = vs} i a) l =
        keys_of_append s (tree_records (tree sp [] v None)) (trees_records ts)
        ∙ ap (λ (x : List Key). x ++ keys_of s (trees_records ts)) (tree_keys_eq sp v ∙ value_keys i sp l.0) ∙ ap (λ (x : List Key). keys (node_of w) ++ x) (trees_keys a l.1)

    pairs_keys_lem : {kvs : KeyValues} {ps : Pairs} → ArePairs kvs ps → PairsLeaves (TextLeaf s) kvs → keys_of s (pairs_records kvs) ≡ all_keys (pair_nodes ps)
    pairs_keys_lem are_no_pairs l = refl
    pairs_keys_lem (are_more_pairs {s = sp} {t = tp} {k = k} {v = v} {x = x} {y = y} {kvs = kvs} {ps = ps} i j a) l =
        three_keys (tree_records (tree sp [] k None)) (tree_records (tree tp [] v None)) (pairs_records kvs) (keys (node_of x)) (keys (node_of y)) (all_keys (pair_nodes ps))
        (tree_keys_eq sp k ∙ value_keys i sp l.0) (tree_keys_eq tp v ∙ value_keys j tp l.1) (pairs_keys_lem a l.2)

  tree_keys : {t : TokenTree} {w : Value} → IsTree t w → TreeLeaves (TextLeaf s) t → keys_of s (tree_records t) ≡ keys (node_of w)
  tree_keys (is_tree {s = sp} {v = v} i) l = tree_keys_eq sp v ∙ value_keys i sp l

-- two trees without comments, each with its text
module _ (s t : List ℕ) {a b : TokenTree} {v w : Value} (i : IsTree a v) (j : IsTree b w) (l : TreeLeaves (TextLeaf s) a) (m : TreeLeaves (TextLeaf t) b) where
  pub compared_equal : same_records s (tree_records a) t (tree_records b) ≡ true → v ≡ w
  compared_equal e =
      let k : keys (node_of v) ≡ keys (node_of w) = sym (tree_keys s i l) ∙ same_keys s (tree_records a) t (tree_records b) e ∙ tree_keys t j m in
      let n = keys_inj (node_of v) (node_of w) [] [] (ap (λ (x : List Key). x ++ []) k) in
      sym (node_back v) ∙ ap un_node n.0 ∙ node_back w

  pub equal_compared : v ≡ w → same_records s (tree_records a) t (tree_records b) ≡ true
  equal_compared e = keys_same s (tree_records a) t (tree_records b) (tree_keys s i l ∙ ap (λ (x : Value). keys (node_of x)) e ∙ sym (tree_keys t j m))
