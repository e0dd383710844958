-- How many bytes of a text the tokens of a tree take, at least.
use Rattle.std.proofs.Common.{◌≡◌, ℕ, suc, ◌+◌, ◌≤◌, List, [], ◌∷◌, ◌++◌, length, Some, None, Option, arith}
use Rattle.eon_spec.specs.Tree.{Slice, TokenTree, TokenValue, TokenTrees, KeyValues, tree, identifier, number, quoted_string, list_of, map_of, variant_of, no_trees, ◌∷ᵗ◌, no_pairs, pair}
use Rattle.eon_laws.proofs.Records.{suffix_size, tree_size, value_size, trees_size, pairs_size}

-- the bytes that a token takes: at least one
unfoldable pub held : List ℕ → ℕ
held [] = 1
held (x ∷ b) = suc (length b)

pub held_some : (b : List ℕ) → 1 ≤ held b
unfolding held
held_some [] = omega arith
held_some (x ∷ b) = omega arith

-- .. and no more than any n that holds them
pub held_least : (b : List ℕ) (n : ℕ) → 1 ≤ n → length b ≤ n → held b ≤ n
unfolding held
held_least [] n h k = h
held_least (x ∷ b) n h k = k

unfoldable pub comments_bytes : List Slice → ℕ
comments_bytes [] = 0
comments_bytes (c ∷ cs) = held c.bytes + comments_bytes cs

unfoldable pub suffix_bytes : Option Slice → ℕ
suffix_bytes None = 0
suffix_bytes (Some c) = held c.bytes

-- the two brackets of a list or map
abbrev pub brackets : TokenValue → ℕ
brackets (identifier b) = 0
brackets (number b) = 0
brackets (quoted_string b) = 0
brackets (list_of vs cl) = 2
brackets (map_of kvs cl) = 2
brackets (variant_of n vs cl) = 0

-- a value without these; of a variant's two brackets the closing one is counted
unfoldable mutual
  pub tree_bytes : TokenTree → ℕ
  tree_bytes (tree s p v x) = comments_bytes p + (brackets v + inside_bytes v) + suffix_bytes x

  pub inside_bytes : TokenValue → ℕ
  inside_bytes (identifier b) = held b
  inside_bytes (number b) = held b
  inside_bytes (quoted_string b) = held b
  inside_bytes (list_of vs cl) = trees_bytes vs + comments_bytes cl
  inside_bytes (map_of kvs cl) = pairs_bytes kvs + comments_bytes cl
  inside_bytes (variant_of n vs cl) = held n.bytes + 1 + (trees_bytes vs + comments_bytes cl)

  pub trees_bytes : TokenTrees → ℕ
  trees_bytes no_trees = 0
  trees_bytes (t ∷ᵗ ts) = tree_bytes t + trees_bytes ts

  pub pairs_bytes : KeyValues → ℕ
  pairs_bytes no_pairs = 0
  pairs_bytes (pair k v kvs) = tree_bytes k + (tree_bytes v + pairs_bytes kvs)

abbrev pub value_bytes : TokenValue → ℕ
value_bytes v = brackets v + inside_bytes v

-- a tree without its outermost brackets, which a root may lack
unfoldable pub root_bytes : TokenTree → ℕ
root_bytes (tree s p v x) = comments_bytes p + inside_bytes v + suffix_bytes x

-- comments in a row
pub comments_append : (p q : List Slice) → comments_bytes (p ++ q) ≡ comments_bytes p + comments_bytes q
unfolding comments_bytes
comments_append [] q = omega arith
comments_append (c ∷ p) q = rw (comments_append p q) (omega arith)

-- each comment is a token
comments_some : (cs : List Slice) → length cs ≤ comments_bytes cs
unfolding comments_bytes
comments_some [] = omega arith
comments_some (c ∷ cs) = omega (arith, held_some c.bytes, comments_some cs)

suffix_some : (x : Option Slice) → suffix_size x ≤ suffix_bytes x
unfolding suffix_bytes
suffix_some None = omega arith
suffix_some (Some c) = held_some c.bytes

leaf_some : (b : List ℕ) → (1 ≤ 0 + held b) × (1 ≤ suc (held b))
leaf_some b = let h = held_some b in (omega arith, omega arith)

-- each record takes a byte; a value without its brackets may have one record more
mutual
  unfolding tree_size tree_bytes

  tree_some : (t : TokenTree) → tree_size t ≤ tree_bytes t
  tree_some (tree s p v x) = let h = value_some v in omega (arith, comments_some p, h.0, suffix_some x)

  value_some : (v : TokenValue) → (value_size v ≤ value_bytes v) × (value_size v ≤ suc (inside_bytes v))
  value_some (identifier b) = leaf_some b
  value_some (number b) = leaf_some b
  value_some (quoted_string b) = leaf_some b
  value_some (list_of vs cl) = let h = trees_some vs in let k = comments_some cl in (omega arith, omega arith)
  value_some (map_of kvs cl) = let h = pairs_some kvs in let k = comments_some cl in (omega arith, omega arith)
  value_some (variant_of n vs cl) = let h = trees_some vs in let k = comments_some cl in (omega arith, omega arith)

  trees_some : (ts : TokenTrees) → trees_size ts ≤ trees_bytes ts
  trees_some no_trees = omega arith
  trees_some (t ∷ᵗ ts) = omega (arith, tree_some t, trees_some ts)

  pairs_some : (kvs : KeyValues) → pairs_size kvs ≤ pairs_bytes kvs
  pairs_some no_pairs = omega arith
  pairs_some (pair k v kvs) = omega (arith, tree_some k, tree_some v, pairs_some kvs)

-- .. and so a root
pub root_some : (t : TokenTree) → tree_size t ≤ suc (root_bytes t)
unfolding tree_size root_bytes
root_some (tree s p v x) = let h = value_some v in omega (arith, comments_some p, h.1, suffix_some x)

-- with its brackets a tree takes no less
pub root_least : (t : TokenTree) → root_bytes t ≤ tree_bytes t
unfolding root_bytes tree_bytes
root_least (tree s p v x) = omega arith
