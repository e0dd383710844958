-- How many words and records there are.
use Rattle.std.proofs.Common.{◌≡◌, ℕ, suc, ◌+◌, ◌*◌, List, [], ◌∷◌, length, Some, None, Option, refl, ap, arith, length-append}
use Rattle.eon_spec.specs.Tree.{Span, Slice, TokenTree, TokenValue, TokenTrees, KeyValues, tree, identifier, number, quoted_string, list_of, map_of, variant_of, no_trees, ◌∷ᵗ◌, no_pairs, pair}
use Rattle.eon_spec.specs.Records.{Record, comments, suffix, words, tree_records, value_records, trees_records, pairs_records}

pub words_length : (rs : List Record) → length (words rs) ≡ 5 * length rs
words_length [] = refl
words_length (r ∷ rs) = rw (words_length rs) (omega arith)

abbrev pub suffix_size : Option Slice → ℕ
suffix_size None = 0
suffix_size (Some c) = 1

-- a tree has as many records as the trees in it and its comments
unfoldable mutual
  pub tree_size : TokenTree → ℕ
  tree_size (tree s p v x) = length p + value_size v + suffix_size x

  pub value_size : TokenValue → ℕ
  value_size (identifier b) = 1
  value_size (number b) = 1
  value_size (quoted_string b) = 1
  value_size (list_of vs cl) = 1 + (trees_size vs + length cl)
  value_size (map_of kvs cl) = 1 + (pairs_size kvs + length cl)
  value_size (variant_of n vs cl) = 1 + (trees_size vs + length cl)

  pub trees_size : TokenTrees → ℕ
  trees_size no_trees = 0
  trees_size (t ∷ᵗ ts) = tree_size t + trees_size ts

  pub pairs_size : KeyValues → ℕ
  pairs_size no_pairs = 0
  pairs_size (pair k v kvs) = tree_size k + (tree_size v + pairs_size kvs)

pub comments_length : (k : ℕ) (cs : List Slice) → length (comments k cs) ≡ length cs
comments_length k [] = refl
comments_length k (c ∷ cs) = ap suc (comments_length k cs)

pub suffix_length : (x : Option Slice) → length (suffix x) ≡ suffix_size x
suffix_length None = refl
suffix_length (Some c) = refl

mutual
  unfolding tree_size tree_records

  pub tree_size_lem : (t : TokenTree) → length (tree_records t) ≡ tree_size t
  tree_size_lem (tree s p v x) = simp (length-append, comments_length, value_size_lem v s, suffix_length)

  pub value_size_lem : (v : TokenValue) (s : Span) → length (value_records s v) ≡ value_size v
  value_size_lem (identifier b) s = refl
  value_size_lem (number b) s = refl
  value_size_lem (quoted_string b) s = refl
  value_size_lem (list_of vs cl) s = simp (length-append, comments_length, trees_size_lem vs) (omega arith)
  value_size_lem (map_of kvs cl) s = simp (length-append, comments_length, pairs_size_lem kvs) (omega arith)
  value_size_lem (variant_of n vs cl) s = simp (length-append, comments_length, trees_size_lem vs) (omega arith)

  pub trees_size_lem : (ts : TokenTrees) → length (trees_records ts) ≡ trees_size ts
  trees_size_lem no_trees = refl
  trees_size_lem (t ∷ᵗ ts) = simp (length-append, tree_size_lem t, trees_size_lem ts)

  pub pairs_size_lem : (kvs : KeyValues) → length (pairs_records kvs) ≡ pairs_size kvs
  pairs_size_lem no_pairs = refl
  pairs_size_lem (pair k v kvs) = simp (length-append, tree_size_lem k, tree_size_lem v, pairs_size_lem kvs) (omega arith)
