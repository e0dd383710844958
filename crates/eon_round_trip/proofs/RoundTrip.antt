-- Demand 3 on the definitions: a written text is read back to the same tree, and is written again alike.
use Rattle.std.proofs.Common.{◌≡◌, ℕ, true, false, List, [], length, sym, refl, ap, ◌∙◌}
use Rattle.eon_spec.specs.Utf8.{chars}
use Rattle.eon_laws.proofs.Utf8.{joined_is}
use Rattle.eon_spec.specs.Token.{tokens}
use Rattle.eon_spec.specs.Tree.{TokenTree, TokenValue, TokenTrees, KeyValues}
use Rattle.eon_spec.specs.Parse.{parse}
use Rattle.eon_spec.specs.Records.{tree_records}
use Rattle.eon_spec.specs.Layout.{defaults, format}
use Rattle.eon_spec.specs.Calls.{Outcome, done, read_text, same_records}
use Rattle.eon_round_trip.proofs.Plain.{Value, Values, Pairs, plain, tree_is, IsValue, is_identifier, is_number_lem, is_string, is_list, is_map, is_variant, AreValues, are_none, are_more, ArePairs, are_no_pairs, are_more_pairs, IsTree, is_tree}
use Rattle.eon_round_trip.proofs.Pieces.{flatten, root_p}
use Rattle.eon_round_trip.proofs.Ready.{RootReady}
use Rattle.eon_round_trip.proofs.Written.{format_text}
use Rattle.eon_round_trip.proofs.Round.{written_read}
use Rattle.eon_laws.proofs.Numbers.{read_done}
use Rattle.eon_laws.proofs.Chars.{chars_are}
use Rattle.eon_laws.proofs.Sources.{TreeLeaves, tree_leaves}
use Rattle.eon_laws.proofs.Words.{TextLeaf, leaves_from}
use Rattle.eon_spec.specs.Runs.{Premises, no_comments}
use Rattle.eon_round_trip.proofs.NoComments.{free_tree, free_in, free_all, free_pairs, tree_free}
use Rattle.eon_round_trip.proofs.Premises.{tree_plain, tree_ready}
use Rattle.eon_round_trip.proofs.Compare.{compared_equal, equal_compared}

-- each leaf of its tree is a token that stands in the text
pub text_leaves : (s : List ℕ) (t : TokenTree) → read_text s ≡ done t → TreeLeaves (TextLeaf s) t
unfolding parse tokens chars
text_leaves s t e =
    let r = read_done s t e in
    tree_leaves (TextLeaf s) (length s) (tokens s) t (leaves_from s 0 0 false (chars s) [] (chars_are 0 s) (sym (joined_is s r.0)) refl) r.1

mutual
  unfolding free_tree

  value_bare : {v : TokenValue} {w : Value} → IsValue v w → free_in v ≡ true
  value_bare is_identifier = refl
  value_bare is_number_lem = refl
  value_bare is_string = refl
  value_bare (is_list a) = values_bare a
  value_bare (is_map a) = pairs_bare a
  value_bare (is_variant p a) = values_bare a

  values_bare : {ts : TokenTrees} {vs : Values} → AreValues ts vs → free_all ts ≡ true
  values_bare are_none = refl
  values_bare (are_more i a) = rw (value_bare i, values_bare a)

  pairs_bare : {kvs : KeyValues} {ps : Pairs} → ArePairs kvs ps → free_pairs kvs ≡ true
  pairs_bare are_no_pairs = refl
  pairs_bare (are_more_pairs i j a) = rw (value_bare i, value_bare j, pairs_bare a)

tree_bare : {t : TokenTree} {w : Value} → IsTree t w → free_tree t ≡ true
unfolding free_tree
tree_bare (is_tree i) = value_bare i

-- what reading the written text of t gives, t being the tree of the text s
pub record ReadAgain (s : List ℕ) (t : TokenTree) : Type 0 where
  pub again : TokenTree
  pub reads : read_text (format defaults t) ≡ done again
  pub bare : no_comments again ≡ true
  pub same : plain again ≡ plain t
  pub compared : same_records s (tree_records t) (format defaults t) (tree_records again) ≡ true
  pub writes : format defaults again ≡ format defaults t

-- no comment record is no comment in the tree
plain_of : (t : TokenTree) → no_comments t ≡ true → IsTree t (plain t)
unfolding no_comments
plain_of t e = tree_plain t (sym (tree_free t) ∙ e)

ready_of : (s : List ℕ) (t : TokenTree) → Premises s t → RootReady (plain t)
ready_of s t r = tree_ready s (plain_of t r.no_comments) (text_leaves s t r.accepted) r.no_empty_variant r.variants_fit r.depth_63

pub round_trip : (s : List ℕ) (t : TokenTree) → Premises s t → ReadAgain s t
unfolding no_comments
round_trip s t r =
    let i = plain_of t r.no_comments in
    let rr = ready_of s t r in
    let f = format_text i rr in
    let b = written_read (plain t) rr (rw f at r.written_length) in
    let d : read_text (format defaults t) ≡ done b.0 = rw f b.1 in
    record {
      again = b.0;
      reads = d;
      bare = tree_free b.0 ∙ tree_bare b.2;
      same = tree_is b.2;
      compared = equal_compared s (format defaults t) i b.2 (text_leaves s t r.accepted) (text_leaves (format defaults t) b.0 d) refl;
      writes = format_text b.2 rr ∙ sym f;
    }

-- two such texts are written alike exactly if their trees are equal
done_inj : {a b : TokenTree} → ◌≡◌ {A = Outcome TokenTree} (done a) (done b) → a ≡ b
done_inj e = cc

module _ (s : List ℕ) (a : TokenTree) (p : Premises s a) (t : List ℕ) (b : TokenTree) (q : Premises t b) where
  pub written_equal : format defaults a ≡ format defaults b → plain a ≡ plain b
  written_equal h =
      let x = round_trip s a p in
      let y = round_trip t b q in
      let z : x.again ≡ y.again = done_inj (sym x.reads ∙ ap read_text h ∙ y.reads) in
      sym x.same ∙ ap plain z ∙ y.same

  pub written_compared : format defaults a ≡ format defaults b → same_records s (tree_records a) t (tree_records b) ≡ true
  written_compared h =
      equal_compared s t (plain_of a p.no_comments) (plain_of b q.no_comments) (text_leaves s a p.accepted) (text_leaves t b q.accepted) (written_equal h)

  pub compared_written : same_records s (tree_records a) t (tree_records b) ≡ true → format defaults a ≡ format defaults b
  compared_written h =
      let i = plain_of a p.no_comments in
      let j = plain_of b q.no_comments in
      let g = compared_equal s t i j (text_leaves s a p.accepted) (text_leaves t b q.accepted) h in
      format_text i (ready_of s a p) ∙ ap (λ (v : Value). flatten (root_p v)) g ∙ sym (format_text j (ready_of t b q))
