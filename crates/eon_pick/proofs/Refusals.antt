-- Which numbers refuse the two calls: those of the text and its table, then 27, for the empty text alone, or 14. A refusal keeps the list.
use Rattle.std.proofs.Common.{Option, None, Some, ◌≡◌, refl, sym, ap, ◌∙◌, ◌⊎◌, inl, inr, List, [], ℕ, ◌<◌, arith, length}
use Rattle.eon_spec.specs.Refused.{Refusal}
use Rattle.eon_spec.specs.declared.Hit.{Hit}
use Rattle.eon_spec.specs.Tree.{TokenTree}
use Rattle.eon_spec.specs.Records.{tree_records}
use Rattle.eon_spec.specs.Calls.{Outcome, done, refused_with, then, nowhere, or_refused, read_finished}
use Rattle.eon_spec.specs.Pick.{picked, record_at_call, hits, records_in_call}
use Rattle.eon_laws.proofs.Kept.{answers_not, fill_keeps, fill_refuses}
use Rattle.eon_laws.proofs.Numbers.{OfTable, call_numbered}
use Rattle.eon_table.proofs.Finished.{read_finished_lem}
use Rattle.eon_pick.proofs.Covers.{some_picked, none_picked, empty_none}

module _ (s tb : List ℕ) where
  -- the offset call: 1 to 13, 15, and 27 for the empty text
  pub record_at_numbers : (o : ℕ) (r : Refusal) → record_at_call s tb o ≡ refused_with r → OfTable r ⊎ ((s ≡ []) × (r ≡ nowhere 27))
  unfolding record_at_call
  record_at_numbers o r e = go (call_numbered r s tb (λ t. or_refused 27 (picked o (tree_records t))) e)
    where
      by_tree : (t : TokenTree) → read_finished s tb ≡ done t → (x : Option ℕ) → picked o (tree_records t) ≡ x → or_refused 27 x ≡ refused_with r → (s ≡ []) × (r ≡ nowhere 27)
      by_tree t q None p f = let h = read_finished_lem s tb t q in (none_picked s h.utf8 t h.parses o p, (let z : nowhere 27 ≡ r = cc in sym z))
      by_tree t q (Some n) p f = answers_not n r f

      go : OfTable r ⊎ ((t : TokenTree) × (read_finished s tb ≡ done t) × (or_refused 27 (picked o (tree_records t)) ≡ refused_with r)) → OfTable r ⊎ ((s ≡ []) × (r ≡ nowhere 27))
      go (inl n) = inl n
      go (inr f) = inr (by_tree f.0 f.1 (picked o (tree_records f.0)) refl f.2)

  -- 27 is exactly for the empty text, once the table is its own
  pub no_byte_empty : (o : ℕ) → record_at_call s tb o ≡ refused_with (nowhere 27) → s ≡ []
  no_byte_empty o e = go (record_at_numbers o (nowhere 27) e)
    where
      go : OfTable (nowhere 27) ⊎ ((s ≡ []) × (nowhere 27 ≡ nowhere 27)) → s ≡ []
      go (inl (inl n)) = absurd (omega (arith, n.1))
      go (inl (inr z)) = absurd (let n : ◌≡◌ {A = ℕ} 27 15 = ap (λ (q : Refusal). q.number) z in omega arith)
      go (inr f) = f.0

  -- where the text has a byte, every offset is answered
  pub every_offset : (t : TokenTree) → read_finished s tb ≡ done t → 0 < length s → (o : ℕ) → (n : ℕ) × (record_at_call s tb o ≡ done n)
  unfolding record_at_call
  every_offset t q h o = go (picked o (tree_records t)) refl
    where
      go : (x : Option ℕ) → picked o (tree_records t) ≡ x → (n : ℕ) × (then (read_finished s tb) (λ t. or_refused 27 (picked o (tree_records t))) ≡ done n)
      go None p = let f = read_finished_lem s tb t q in absurd (some_picked s f.utf8 t f.parses h o p)
      go (Some n) p = (n, ap (λ (x : Outcome TokenTree). then x (λ t. or_refused 27 (picked o (tree_records t)))) q ∙ ap (or_refused 27) p)

  -- the range call: 1 to 13, 15, 14
  pub records_in_numbers : (from to : ℕ) (l : List Hit) (r : Refusal) → (records_in_call s tb from to l).answer ≡ refused_with r → OfTable r ⊎ (r ≡ nowhere 14)
  unfolding records_in_call
  records_in_numbers from to l r e = go (fill_refuses l (then (read_finished s tb) listing) r e)
    where
      listing : TokenTree → Outcome (ℕ × List Hit)
      listing t = let hs = hits from to 0 (tree_records t) in done (length hs, hs)

      by_tree : OfTable r ⊎ ((t : TokenTree) × (read_finished s tb ≡ done t) × (listing t ≡ refused_with r)) → OfTable r
      by_tree (inl n) = n
      by_tree (inr f) = answers_not _ r f.2

      go : (then (read_finished s tb) listing ≡ refused_with r) ⊎ (r ≡ nowhere 14) → OfTable r ⊎ (r ≡ nowhere 14)
      go (inl f) = inl (by_tree (call_numbered r s tb listing f))
      go (inr z) = inr z

  pub records_in_keeps : (from to : ℕ) (l : List Hit) (r : Refusal) → (records_in_call s tb from to l).answer ≡ refused_with r → (records_in_call s tb from to l).memory ≡ l
  unfolding records_in_call
  records_in_keeps from to l r e = fill_keeps l _ r e

-- the empty text with its table
pub empty_no_byte : (tb : List ℕ) (t : TokenTree) (o : ℕ) → read_finished [] tb ≡ done t → record_at_call [] tb o ≡ refused_with (nowhere 27)
unfolding record_at_call
empty_no_byte tb t o q =
    let f = read_finished_lem [] tb t q in
    ap (λ (x : Outcome TokenTree). then x (λ u. or_refused 27 (picked o (tree_records u)))) q ∙ ap (or_refused 27) (empty_none f.utf8 t f.parses o)
