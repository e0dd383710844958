-- The library's tests of bytes, as the definitions word them.
use Rattle.std.proofs.Common.{◌≡◌, ℕ, Bool, true, false, eqb, List, [], ◌∷◌, nat_eq, sym, refl, ◌∙◌, arith, ne_eqb, eqb-true}
use Rattle.std.specs.List.{list_all, list_any}
use Rattle.std.proofs.lemmas.Bool.Decides.{nat_tests}
use lib.Pointwise.{pointwise}
use Rattle.eon_spec.specs.Base.{elem, eq_list}
use Rattle.eon_spec.specs.Utf8.{decode}
use Rattle.eon_spec.specs.Unquote.{is_letter_or_digit, all_letters_or_digits, without}
use Rattle.eon_unescape.specs.Views.{kept, Formed}
use Rattle.eon_unescape.proofs.Runs.{elem_decode}

eqb_sym : (x y : ℕ) → nat_eq x y ≡ eqb y x
eqb_sym x y = grind (arith, nat_tests)

pub any_elem : (x : ℕ) (s : List ℕ) → list_any (λ y. nat_eq y x) s ≡ elem x s
any_elem x [] = refl
any_elem x (y ∷ s) = rw (eqb_sym y x, any_elem x s)

pub all_names : (s : List ℕ) → list_all is_letter_or_digit s ≡ all_letters_or_digits s
all_names [] = refl
all_names (c ∷ s) = rw (all_names s)

pub same_list : (s t : List ℕ) → pointwise eqb s t ≡ eq_list s t
same_list [] [] = refl
same_list [] (y ∷ t) = refl
same_list (x ∷ s) [] = refl
same_list (x ∷ s) (y ∷ t) = rw (same_list s t)

elem_without : (x y : ℕ) (d : List ℕ) → (x ≡ y → ⊥) → elem x (without y d) ≡ elem x d
elem_without x y [] n = refl
elem_without x y (c ∷ d) n = go (eqb c y) refl (elem_without x y d n)
  where
    go : (p : Bool) → eqb c y ≡ p → elem x (without y d) ≡ elem x d → elem x (without y (c ∷ d)) ≡ elem x (c ∷ d)
    go true e r = rw (e, without, ne_eqb x c (λ f. n (f ∙ eqb-true c y e))) r
    go false e r = rw (e, without, r)

-- a line feed among the bytes is one among the characters
pub feed_byte : (t : List ℕ) → Formed t → elem 10 t ≡ elem 10 (kept t)
unfolding kept
feed_byte t f = elem_decode 10 t (omega arith) f ∙ sym (elem_without 10 13 (decode t) (λ e. omega arith))
