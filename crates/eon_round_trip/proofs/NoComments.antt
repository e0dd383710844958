-- A tree has no comments exactly if its table has no record of kinds 7 to 9.
use Rattle.std.proofs.Common.{◌≡◌, Bool, true, not, ◌&&◌, List, [], ◌∷◌, ◌++◌, Some, None, Option, sym, refl, ap, ◌∙◌}
use mathlib.Core.Bool.{and_assoc, and_comm}
use Rattle.eon_spec.specs.Base.{within}
use Rattle.eon_spec.specs.Tree.{Span, Slice, TokenTree, TokenValue, TokenTrees, KeyValues, tree, identifier, number, quoted_string, list_of, map_of, variant_of, no_trees, ◌∷ᵗ◌, no_pairs, pair}
use Rattle.eon_spec.specs.Records.{Record, comments, suffix, tree_records, value_records, trees_records, pairs_records}
use Rattle.eon_spec.specs.Layout.{is_empty, is_none}
use Rattle.eon_spec.specs.Runs.{no_comment_records}

-- no comment anywhere, by the shape of the tree
unfoldable mutual
  pub free_tree : TokenTree → Bool
  free_tree (tree s p v x) = is_empty p && (is_none x && free_in v)

  pub free_in : TokenValue → Bool
  free_in (identifier b) = true
  free_in (number b) = true
  free_in (quoted_string b) = true
  free_in (list_of vs cl) = is_empty cl && free_all vs
  free_in (map_of kvs cl) = is_empty cl && free_pairs kvs
  free_in (variant_of n vs cl) = is_empty cl && free_all vs

  pub free_all : TokenTrees → Bool
  free_all no_trees = true
  free_all (t ∷ᵗ ts) = free_tree t && free_all ts

  pub free_pairs : KeyValues → Bool
  free_pairs no_pairs = true
  free_pairs (pair k v kvs) = free_tree k && (free_tree v && free_pairs kvs)

append_free : (a b : List Record) → no_comment_records (a ++ b) ≡ no_comment_records a && no_comment_records b
append_free [] b = refl
append_free (r ∷ a) b = ap (λ (x : Bool). not (within 7 9 r.kind) && x) (append_free a b) ∙ sym (and_assoc (not (within 7 9 r.kind)) (no_comment_records a) (no_comment_records b))

prefix_free : (p : List Slice) → no_comment_records (comments 7 p) ≡ is_empty p
prefix_free [] = refl
prefix_free (c ∷ p) = refl

closing_free : (p : List Slice) → no_comment_records (comments 9 p) ≡ is_empty p
closing_free [] = refl
closing_free (c ∷ p) = refl

suffix_free : (x : Option Slice) → no_comment_records (suffix x) ≡ is_none x
suffix_free None = refl
suffix_free (Some c) = refl

inside_free : (a : List Record) (cl : List Slice) (b : Bool) → no_comment_records a ≡ b → no_comment_records (a ++ comments 9 cl) ≡ is_empty cl && b
inside_free a cl b e = append_free a (comments 9 cl) ∙ rw (e, closing_free cl) (and_comm b (is_empty cl))

mutual
  unfolding tree_records free_tree

  pub tree_free : (t : TokenTree) → no_comment_records (tree_records t) ≡ free_tree t
  tree_free (tree s p v x) =
      append_free (comments 7 p ++ value_records s v) (suffix x)
      ∙ rw (append_free (comments 7 p) (value_records s v), prefix_free p, suffix_free x, value_free v s)
      (and_assoc (is_empty p) (free_in v) (is_none x) ∙ ap (λ (b : Bool). is_empty p && b) (and_comm (free_in v) (is_none x)))

  value_free : (v : TokenValue) (s : Span) → no_comment_records (value_records s v) ≡ free_in v
  value_free (identifier b) s = refl
  value_free (number b) s = refl
  value_free (quoted_string b) s = refl
  value_free (list_of vs cl) s = inside_free (trees_records vs) cl (free_all vs) (trees_free vs)
  value_free (map_of kvs cl) s = inside_free (pairs_records kvs) cl (free_pairs kvs) (pairs_free kvs)
  value_free (variant_of n vs cl) s = inside_free (trees_records vs) cl (free_all vs) (trees_free vs)

  trees_free : (ts : TokenTrees) → no_comment_records (trees_records ts) ≡ free_all ts
  trees_free no_trees = refl
  trees_free (t ∷ᵗ ts) = append_free (tree_records t) (trees_records ts) ∙ rw (tree_free t, trees_free ts)

  pairs_free : (kvs : KeyValues) → no_comment_records (pairs_records kvs) ≡ free_pairs kvs
  pairs_free no_pairs = refl
  pairs_free (pair k v kvs) =
      append_free (tree_records k ++ tree_records v) (pairs_records kvs)
      ∙ rw (append_free (tree_records k) (tree_records v), tree_free k, tree_free v, pairs_free kvs) (and_assoc (free_tree k) (free_tree v) (free_pairs kvs))
