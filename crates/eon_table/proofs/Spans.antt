-- Each record's text lies in its span, and its span in the text.
use Rattle.std.proofs.Common.{ℕ, zero, suc, ◌+◌, ◌<◌, ◌≤◌, List, [], ◌∷◌, ◌++◌, length, Some, None, Option, sym, subst, add-zero, arith}
use Rattle.eon_spec.specs.Tree.{Span, Slice, TokenTree, TokenValue, TokenTrees, KeyValues, tree, identifier, number, quoted_string, list_of, map_of, variant_of, no_trees, ◌∷ᵗ◌, no_pairs, pair}
use Rattle.eon_spec.specs.Records.{Record, record_at, comments, suffix, tree_records, value_records, trees_records, pairs_records}
use Rattle.eon_laws.proofs.Places.{Fits}
use Rattle.eon_laws.proofs.Spans.{HoldsAll, HoldsSuffix, TreeFits, ValueFits, TreesFit, PairsFit, tree_fits}
use Rattle.eon_table.specs.Words.{record_of, records_of}
use Rattle.eon_table.specs.Finished.{Finished}

module _ (s : List ℕ) where
  pub record Spanned (r : Record) : Type 0 where
    pub order : r.start ≤ r.text_end
    pub inside : r.text_end ≤ r.end
    pub within : r.end ≤ length s

  abbrev pub AllSpanned : List Record → Type 0
  AllSpanned [] = Unit {0}
  AllSpanned (r ∷ rs) = Spanned r × AllSpanned rs

  joined : (a b : List Record) → AllSpanned a → AllSpanned b → AllSpanned (a ++ b)
  joined [] b h k = k
  joined (r ∷ a) b h k = (h.0, joined a b h.1 k)

  leaf_spanned : (k : ℕ) (sp : Span) (n : ℕ) → Fits s sp → Spanned (record_at k sp sp.end n)
  leaf_spanned k sp n h = record { order = h.0; inside = omega arith; within = h.1 }

  comments_spanned : (k : ℕ) (cs : List Slice) → HoldsAll s cs → AllSpanned (comments k cs)
  comments_spanned k [] h = tt
  comments_spanned k (c ∷ cs) h = (leaf_spanned k c.span 1 h.0.0, comments_spanned k cs h.1)

  suffix_spanned : (x : Option Slice) → HoldsSuffix s x → AllSpanned (suffix x)
  suffix_spanned None h = tt
  suffix_spanned (Some c) h = (leaf_spanned 8 c.span 1 h.0, tt)

  mutual
    unfolding tree_records value_records trees_records pairs_records

    pub tree_spanned : (t : TokenTree) → TreeFits s t → AllSpanned (tree_records t)
    tree_spanned (tree sp p v x) h =
        joined (comments 7 p ++ value_records sp v) (suffix x) (joined (comments 7 p) (value_records sp v) (comments_spanned 7 p h.1) (value_spanned v sp h.0 h.2)) (suffix_spanned x h.3)

    value_spanned : (v : TokenValue) (sp : Span) → Fits s sp → ValueFits s sp v → AllSpanned (value_records sp v)
    value_spanned (identifier b) sp f h = (leaf_spanned 1 sp 1 f, tt)
    value_spanned (number b) sp f h = (leaf_spanned 2 sp 1 f, tt)
    value_spanned (quoted_string b) sp f h = (leaf_spanned 3 sp 1 f, tt)
    value_spanned (list_of vs cl) sp f h = (leaf_spanned 4 sp _ f, joined (trees_records vs) (comments 9 cl) (trees_spanned vs h.0) (comments_spanned 9 cl h.1))
    value_spanned (map_of kvs cl) sp f h = (leaf_spanned 5 sp _ f, joined (pairs_records kvs) (comments 9 cl) (pairs_spanned kvs h.0) (comments_spanned 9 cl h.1))
    value_spanned (variant_of n vs cl) sp f h =
        (record { order = omega (arith, h.0.0.0, h.3); inside = h.4; within = f.1 }, joined (trees_records vs) (comments 9 cl) (trees_spanned vs h.1) (comments_spanned 9 cl h.2))

    trees_spanned : (ts : TokenTrees) → TreesFit s ts → AllSpanned (trees_records ts)
    trees_spanned no_trees h = tt
    trees_spanned (t ∷ᵗ ts) h = joined (tree_records t) (trees_records ts) (tree_spanned t h.0) (trees_spanned ts h.1)

    pairs_spanned : (kvs : KeyValues) → PairsFit s kvs → AllSpanned (pairs_records kvs)
    pairs_spanned no_pairs h = tt
    pairs_spanned (pair k v kvs) h =
        joined (tree_records k ++ tree_records v) (pairs_records kvs) (joined (tree_records k) (tree_records v) (tree_spanned k h.0) (tree_spanned v h.1)) (pairs_spanned kvs h.2)

  nth_spanned : (tb : List ℕ) (j n i : ℕ) → AllSpanned (records_of tb j n) → i < n → Spanned (record_of tb (j + i))
  unfolding records_of
  nth_spanned tb j zero i h l = absurd (omega arith)
  nth_spanned tb j (suc n) zero h l = subst (λ (k : ℕ). Spanned (record_of tb k)) (sym (add-zero j)) h.0
  nth_spanned tb j (suc n) (suc i) h l = subst (λ (k : ℕ). Spanned (record_of tb k)) (omega arith) (nth_spanned tb (suc j) n i h.1 (omega arith))

pub record_spanned : {s tb : List ℕ} {n : ℕ} {t : TokenTree} → Finished s tb n t → (i : ℕ) → i < n → Spanned s (record_of tb i)
record_spanned {s} {tb} {n} {t} f i l =
    subst (λ (k : ℕ). Spanned s (record_of tb k)) (omega arith)
    (nth_spanned s tb 0 n i (subst (AllSpanned s) (sym f.records) (tree_spanned s t (tree_fits s f.utf8 t f.parses))) l)
