-- Parts of a text, and the text of a record.
use Rattle.std.proofs.Common.{◌≡◌, ℕ, zero, suc, ◌-◌, ◌≤◌, Bool, true, false, cond, List, [], ◌∷◌, length, take, drop, refl, sym, ap, ◌∙◌, arith, take_all, drop_of_length-le, length-drop, length-take-le, ne_eqb}
use Rattle.eon_spec.specs.Base.{elem}
use Rattle.eon_spec.specs.RecordKind.{LIST, MAP}
use Rattle.eon_spec.specs.Records.{Record}
use Rattle.eon_spec.specs.Calls.{record_text}
use Rattle.eon_table.specs.Words.{part}

-- ---- a part of a text

module _ (s : List ℕ) (from to : ℕ) where
  pub part_empty : to ≤ from → [] ≡ part s from to
  part_empty h = ap (λ (n : ℕ). take n (drop from s)) none_eq
    where
      none_eq : 0 ≡ to - from
      none_eq = omega arith

  pub part_past : length s ≤ from → [] ≡ part s from to
  part_past h = go (to - from) ∙ sym (ap (take (to - from)) (drop_of_length-le s h))
    where
      go : (n : ℕ) → ◌≡◌ {A = List ℕ} [] (take n [])
      go zero = refl
      go (suc n) = refl

  pub part_cut : length s ≤ to → take (length s - from) (drop from s) ≡ part s from to
  part_cut h = take_all (length s - from) (drop from s) (omega (arith, length-drop from s)) ∙ sym (take_all (to - from) (drop from s) (omega (arith, length-drop from s)))

  pub part_length : to ≤ length s → length (part s from to) ≡ to - from
  part_length h = let l : length (drop from s) ≡ length s - from = length-drop from s in length-take-le (to - from) (drop from s) (omega arith)

-- ---- the text of a record

module _ (s : List ℕ) (r : Record) where
  pub text_none : elem r.kind (LIST ∷ MAP ∷ []) ≡ true → [] ≡ record_text s r
  text_none e = sym (ap (λ (b : Bool). cond b [] (part s r.start r.text_end)) e)

  pub list_textless : r.kind ≡ LIST → [] ≡ record_text s r
  list_textless e = text_none (ap (λ (x : ℕ). elem x (LIST ∷ MAP ∷ [])) e)

  pub map_textless : r.kind ≡ MAP → [] ≡ record_text s r
  map_textless e = text_none (ap (λ (x : ℕ). elem x (LIST ∷ MAP ∷ [])) e)

  pub text_some : (r.kind ≡ LIST → ⊥) → (r.kind ≡ MAP → ⊥) → part s r.start r.text_end ≡ record_text s r
  text_some g h = sym (ap (λ (b : Bool). cond b [] (part s r.start r.text_end)) has)
    where
      has : elem r.kind (LIST ∷ MAP ∷ []) ≡ false
      has = rw (ne_eqb r.kind LIST g, ne_eqb r.kind MAP h)
