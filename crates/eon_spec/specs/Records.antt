-- The record table of a tree (document 01, "Reading the sheet"): five words a record, in source order. Kinds: 1 identifier, 2 number,
-- 3 string, 4 list, 5 map, 6 variant, 7 prefix, 8 suffix, 9 closing comment.
use Rattle.std.specs.Prelude.{ℕ, suc, List, [], ◌∷◌, ◌++◌, length, Option, None, Some}
use Rattle.eon_spec.specs.Tree.{Span, Slice, TokenTree, TokenValue, TokenTrees, KeyValues, tree, identifier, number, quoted_string, list_of, map_of, variant_of, no_trees, ◌∷ᵗ◌, no_pairs, pair}

pub record Record : Type 0 where
  pub kind : ℕ
  pub start : ℕ
  -- a variant name's end, otherwise `end`
  pub text_end : ℕ
  pub end : ℕ
  -- the records in it, counting itself
  pub size : ℕ

abbrev pub record_at : ℕ → Span → ℕ → ℕ → Record
record_at k s text_end size = record { kind = k; start = s.start; text_end = text_end; end = s.end; size = size }

-- a record of a value without an inside, or of a comment
abbrev pub leaf : ℕ → Span → Record
leaf k s = record_at k s s.end 1

-- comments of one kind: 7 prefix, 8 suffix, 9 closing
abbrev pub comments : ℕ → List Slice → List Record
comments k [] = []
comments k (c ∷ cs) = leaf k c.span ∷ comments k cs

abbrev pub suffix : Option Slice → List Record
suffix None = []
suffix (Some c) = leaf 8 c.span ∷ []

-- a container's record and its inside
abbrev pub around : ℕ → Span → ℕ → List Record → List Record
around k s text_end inside = record_at k s text_end (suc (length inside)) ∷ inside

-- prefix records stand before their value, suffix records after it; closing comments end a container's inside
unfoldable mutual
  pub tree_records : TokenTree → List Record
  tree_records (tree s p v x) = comments 7 p ++ value_records s v ++ suffix x

  pub value_records : Span → TokenValue → List Record
  value_records s (identifier b) = leaf 1 s ∷ []
  value_records s (number b) = leaf 2 s ∷ []
  value_records s (quoted_string b) = leaf 3 s ∷ []
  value_records s (list_of vs cl) = around 4 s s.end (trees_records vs ++ comments 9 cl)
  value_records s (map_of kvs cl) = around 5 s s.end (pairs_records kvs ++ comments 9 cl)
  value_records s (variant_of n vs cl) = around 6 s n.span.end (trees_records vs ++ comments 9 cl)

  pub trees_records : TokenTrees → List Record
  trees_records no_trees = []
  trees_records (t ∷ᵗ ts) = tree_records t ++ trees_records ts

  pub pairs_records : KeyValues → List Record
  pairs_records no_pairs = []
  pairs_records (pair k v kvs) = tree_records k ++ tree_records v ++ pairs_records kvs

-- the words of the table
abbrev pub words : List Record → List ℕ
words [] = []
words (r ∷ rs) = r.kind ∷ r.start ∷ r.text_end ∷ r.end ∷ r.size ∷ words rs
