-- Which bytes the records of a text cover: no byte beyond the text, and one at least where the text has one. So 27 is for the empty text.
use Rattle.std.proofs.Common.{Option, None, Some, ◌≡◌, refl, ◌∙◌, ap, subst, Bool, true, false, ◌||◌, List, [], ◌∷◌, ◌++◌, ℕ, suc, ◌<◌, arith, length, ⊎_elim}
use Rattle.std.proofs.lemmas.Bool.{or_cases}
use Rattle.std.proofs.lemmas.List.Folds.{list_any-append}
use Rattle.eon_spec.specs.Utf8.{is_utf8}
use Rattle.eon_spec.specs.RecordKind.{IDENTIFIER, NUMBER, STRING, LIST, MAP, VARIANT, PREFIX_COMMENT, CLOSING_COMMENT}
use Rattle.eon_spec.specs.Tree.{Span, TokenTree, TokenValue, tree, identifier, number, quoted_string, list_of, map_of, variant_of}
use Rattle.eon_spec.specs.Parse.{parsed, parse}
use Rattle.eon_spec.specs.Records.{Record, record_at, leaf, comments, suffix, around, tree_records, value_records, trees_records, pairs_records}
use Rattle.eon_spec.specs.Pick.{holds_byte, picked}
use Rattle.eon_laws.proofs.Facts.{clash, or_left}
use Rattle.eon_laws.proofs.Spans.{HasByte, tree_fits, tree_has_byte}
use Rattle.eon_table.proofs.Spans.{AllSpanned, tree_spanned}
use Rattle.eon_pick.proofs.Nearest.{covered, held, holds_of, Answered, picked_is}

-- ---- no byte beyond the text

within : (s : List ℕ) (b : ℕ) (rs : List Record) → AllSpanned s rs → covered b rs ≡ true → b < length s
within s b [] h e = clash e refl
within s b (r ∷ rs) h e = ⊎_elim (λ k. omega (arith, (held b r k).1, h.0.within)) (within s b rs h.1) (or_cases (holds_byte b r) (covered b rs) e)

-- ---- a byte of the tree's own record

first_covered : (r : Record) (rs : List Record) → r.start < r.end → covered r.start (r ∷ rs) ≡ true
first_covered r rs h = or_left (holds_byte r.start r) (covered r.start rs) (holds_of r.start r (omega arith) h)

leaf_covers : (k : ℕ) (s : Span) → s.start < s.end → covered s.start (leaf k s ∷ []) ≡ true
leaf_covers k s h = first_covered (leaf k s) [] h

around_covers : (k e : ℕ) (s : Span) (inside : List Record) → s.start < s.end → covered s.start (around k s e inside) ≡ true
around_covers k e s inside h = first_covered (record_at k s e (suc (length inside))) inside h

value_covers : (v : TokenValue) (s : Span) → s.start < s.end → covered s.start (value_records s v) ≡ true
unfolding tree_records
value_covers (identifier b) s h = leaf_covers IDENTIFIER s h
value_covers (number b) s h = leaf_covers NUMBER s h
value_covers (quoted_string b) s h = leaf_covers STRING s h
value_covers (list_of vs cl) s h = around_covers LIST s.end s (trees_records vs ++ comments CLOSING_COMMENT cl) h
value_covers (map_of kvs cl) s h = around_covers MAP s.end s (pairs_records kvs ++ comments CLOSING_COMMENT cl) h
value_covers (variant_of n vs cl) s h = around_covers VARIANT n.span.end s (trees_records vs ++ comments CLOSING_COMMENT cl) h

or_middle : (x y z : Bool) → y ≡ true → (x || y) || z ≡ true
or_middle true y z e = refl
or_middle false y z e = rw e

tree_covers : (t : TokenTree) → HasByte t → (b : ℕ) × (covered b (tree_records t) ≡ true)
unfolding tree_records
tree_covers (tree s p v x) h = (
  s.start,
  list_any-append (holds_byte s.start) (comments PREFIX_COMMENT p ++ value_records s v) (suffix x) ∙ ap (λ (y : Bool). y || covered s.start (suffix x)) (list_any-append (holds_byte s.start) (comments PREFIX_COMMENT p) (value_records s v))
      ∙ or_middle (covered s.start (comments PREFIX_COMMENT p)) (covered s.start (value_records s v)) (covered s.start (suffix x)) (value_covers v s h),
)

-- ---- the laws

module _ (s : List ℕ) (formed : is_utf8 s ≡ true) (t : TokenTree) (e : parse s ≡ parsed t) where
  pub covered_within : (b : ℕ) → covered b (tree_records t) ≡ true → b < length s
  covered_within b = within s b (tree_records t) (tree_spanned s t (tree_fits s formed t e))

  -- a text with a byte: a record is picked at every offset
  pub some_picked : 0 < length s → (o : ℕ) → picked o (tree_records t) ≡ None → ⊥
  some_picked h o n =
      let c = tree_covers t (tree_has_byte s formed t e h) in
      let u = subst (Answered o (tree_records t)) n (picked_is o (tree_records t)) in
      clash c.1 (u c.0)

-- none is picked in the empty text alone, at each offset
pub none_picked : (s : List ℕ) → is_utf8 s ≡ true → (t : TokenTree) → parse s ≡ parsed t → (o : ℕ) → picked o (tree_records t) ≡ None → s ≡ []
none_picked [] formed t e o n = refl
none_picked (b ∷ s) formed t e o n = absurd (some_picked (b ∷ s) formed t e (omega arith) o n)

pub empty_none : is_utf8 [] ≡ true → (t : TokenTree) → parse [] ≡ parsed t → (o : ℕ) → picked o (tree_records t) ≡ None
empty_none formed t e o = go (picked o (tree_records t)) (picked_is o (tree_records t))
  where
    go : (x : Option ℕ) → Answered o (tree_records t) x → x ≡ None
    go None a = refl
    go (Some n) a = absurd (let l : a.byte < 0 = covered_within [] formed t e a.byte a.near.is_covered in omega arith)
