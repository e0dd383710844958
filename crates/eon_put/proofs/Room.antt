-- What a copy of the bytes that fit leaves.
use Rattle.std.proofs.Common.{◌≡◌, refl, sym, ap, ◌∙◌, ℕ, ◌+◌, ◌-◌, ◌≤◌, min, List, ◌++◌, append_assoc, length, take, drop, take-append-drop, Option, Some, arith, drop-drop, length-take}
use Rattle.std.proofs.lemmas.List.{drop_all}
use Rattle.std.proofs.lemmas.List.Edits.{sets, sets-eq}
use Rattle.std.proofs.Math.Decide.{dec_le}
use Rattle.std.proofs.Math.Seq.{length-sets}
use Rattle.std.specs.Option.{ForSome}
use Rattle.eon_put.specs.Put.{put_from}
use Rattle.eon_laws.proofs.Stores.{sets_append, sets_past}

module _ (b l : List ℕ) (at n : ℕ) (e : n ≡ min (length b) (length l - at)) where
  few : length (take n b) ≡ n
  few = length-take n b ∙ omega arith

  -- what does not fit is not stored
  sets_room : at ≤ length l → sets l at (take n b) ≡ sets l at b
  sets_room h = rest (dec_le (length b) n) ∙ sets_append (take n b) (drop n b) l at ∙ ap (sets l at) (take-append-drop n b)
    where
      rest : Dec (length b ≤ n) → sets l at (take n b) ≡ sets (sets l at (take n b)) (at + length (take n b)) (drop n b)
      rest (yes k) = rw (drop_all n b k) refl
      rest (no k) = sym (sets_past (drop n b) (sets l at (take n b)) (at + length (take n b)) (omega (arith, few, length-sets l at (take n b))))

  -- o is the place, and c is copied there in place of k bytes
  pub copied : (o : Option ℕ) → o ≡ Some at → ForSome o (λ a. a ≤ length l) → (k : ℕ) (c : List ℕ) → k ≡ n → c ≡ take n b →
      take at l ++ (c ++ drop k (drop at l)) ≡ put_from o b l
  copied o p inside k c q r = let h : at ≤ length l = inside at p in
      let rest : drop n (drop at l) ≡ drop (at + length (take n b)) l = drop-drop n at l ∙ ap (λ (m : ℕ). drop (at + m) l) (sym few) in
      rw (p, q, r, rest) (sym (append_assoc (take at l) (take n b) _) ∙ sym (sets-eq (take n b) l at (omega (arith, few))) ∙ sets_room h)
