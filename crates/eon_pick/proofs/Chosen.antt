-- The nearest byte, record by record, and the call with it.
use Rattle.std.proofs.Common.{Option, None, Some, ◌≡◌, refl, sym, ap, ◌∙◌, List, [], ◌∷◌, ◌++◌, append-nil, append_assoc, ℕ, zero, suc, ◌+◌, add-one, fold, ok_or}
use Rattle.std.specs.List.{range_with_len}
use Rattle.eon_spec.specs.Records.{Record, tree_records}
use Rattle.eon_spec.specs.declared.refusal.Refusal.{Refusal}
use Rattle.eon_spec.specs.Refused.{refusal_of}
use Rattle.eon_spec.specs.Calls.{refused_with, nowhere, outcome_of, or_refused}
use Rattle.eon_spec.specs.Pick.{nearest_in, nearer, nearest, picked, record_at_call}
use Rattle.eon_table.specs.Words.{record_of, records_of}
use Rattle.eon_table.specs.Finished.{SomeFinished}
use Rattle.eon_table.proofs.Finished.{answers}
use Rattle.eon_pick.proofs.Nearest.{nearest_next}

module _ (o : ℕ) (tb : List ℕ) where
  -- with one record more
  abbrev pub with : Option ℕ → ℕ → Option ℕ
  with best i = nearer o best (nearest_in o (record_of tb i))

  folded : (front : List Record) (a n : ℕ) → fold with (nearest o front) (range_with_len a n) ≡ nearest o (front ++ records_of tb a n)
  unfolding records_of
  folded front a zero = ap (nearest o) (sym (append-nil front))
  folded front a (suc n) =
      ap (λ (b : Option ℕ). fold with b (range_with_len (a + 1) n)) (sym (nearest_next o front (record_of tb a)))
      ∙ folded (front ++ (record_of tb a ∷ [])) (a + 1) n
      ∙ ap (nearest o) (append_assoc front (record_of tb a ∷ []) (records_of tb (a + 1) n) ∙ ap (λ (k : ℕ). front ++ (record_of tb a ∷ records_of tb k n)) (add-one a))

  pub all_folded : (n : ℕ) → fold with None (range_with_len 0 n) ≡ nearest o (records_of tb 0 n)
  all_folded n = folded [] 0 n

pub at_offset : (s tb : List ℕ) (n o : ℕ) → SomeFinished s tb n → or_refused 27 (picked o (records_of tb 0 n)) ≡ record_at_call s tb o
unfolding record_at_call
at_offset s tb n o f = ap (λ (rs : List Record). or_refused 27 (picked o rs)) f.1.records ∙ answers f.1 (λ t. or_refused 27 (picked o (tree_records t)))

pub or_27 : (x : Option ℕ) (r : Refusal) → refusal_of r ≡ nowhere 27 → outcome_of (ok_or x r) ≡ or_refused 27 x
or_27 None r e = ap refused_with e
or_27 (Some n) r e = refl
