-- Facts that tests say, for the laws. Those that the library has go by short names.
use Rattle.std.proofs.Common.{◌≡◌, ℕ, ◌≤◌, Bool, true, false, ◌&&◌, ◌||◌, T, eqb, leb, List, [], ◌∷◌, ◌++◌, sym, refl, ◌∙◌, ⊎_elim, eq-eqb, ne_eqb}
use Rattle.std.proofs.lemmas.Bool.{and_parts, or_parts, both_ways, cases_eq}
use Rattle.eon_spec.specs.Base.{within, elem, eq_list}
pub use Rattle.std.proofs.lemmas.Bool.{or_left, or_right, false_from_ne_true as false_of, leb-true as le_of, ltb-true as lt_of, eqb-true as eq_of, ltb-false as le_of_not, le-ltb as ltb-false}

pub clash : {A : Type 0} {b : Bool} → b ≡ true → b ≡ false → A
clash {b = b} p q = absurd (both_ways b q p)

pub and_left : (x y : Bool) → x && y ≡ true → x ≡ true
and_left x y e = (and_parts x y e).0

pub and_right : (x y : Bool) → x && y ≡ true → y ≡ true
and_right x y e = (and_parts x y e).1

pub or-false : (b : Bool) → b || false ≡ true → b ≡ true
or-false true e = refl
or-false false e = e

-- no test of a row passes
pub nor_left : (x y : Bool) → x || y ≡ false → x ≡ false
nor_left x y e = (or_parts x y e).0

pub nor_right : (x y : Bool) → x || y ≡ false → y ≡ false
nor_right x y e = (or_parts x y e).1

pub true_of : (b : Bool) → T b → b ≡ true
true_of true t = refl
true_of false t = absurd t

pub eqb_same : (n : ℕ) → eqb n n ≡ true
eqb_same n = eq-eqb n n refl

pub within_bounds : (lo hi b : ℕ) → within lo hi b ≡ true → (lo ≤ b) × (b ≤ hi)
within_bounds lo hi b e = let h = and_parts (leb lo b) (leb b hi) e in (le_of lo b h.0, le_of b hi h.1)

pub eqb_sym : (x y : ℕ) → eqb x y ≡ eqb y x
eqb_sym x y = ⊎_elim (λ e. rw e) (λ n. ne_eqb x y n ∙ sym (ne_eqb y x (λ e. n (sym e)))) (cases_eq x y)

-- the parts of equal lists
pub cons_head : {A : Type 0} {x y : A} {s t : List A} → x ∷ s ≡ y ∷ t → x ≡ y
cons_head e = cc

pub cons_tail : {A : Type 0} {x y : A} {s t : List A} → x ∷ s ≡ y ∷ t → s ≡ t
cons_tail e = cc

pub list_same : (s : List ℕ) → eq_list s s ≡ true
list_same [] = refl
list_same (x ∷ s) = rw (eqb_same x) (list_same s)

pub list_eq : (s t : List ℕ) → eq_list s t ≡ true → s ≡ t
list_eq [] [] e = refl
list_eq [] (y ∷ t) e = cc
list_eq (x ∷ s) [] e = cc
list_eq (x ∷ s) (y ∷ t) e = rw (eq_of x y (and_left (eqb x y) (eq_list s t) e), list_eq s t (and_right (eqb x y) (eq_list s t) e))

-- what holds of both branches holds of the choice
pub either : {A : Type 0} (b : Bool) (P : A → Type 0) (x y : A) → (b ≡ true → P x) → (b ≡ false → P y) → P (elim b [ true ↦ x | false ↦ y ])
either true P x y f g = f refl
either false P x y f g = g refl

-- in one list behind another
pub elem_append : (x : ℕ) (a b : List ℕ) → elem x (a ++ b) ≡ elem x a || elem x b
elem_append x [] b = refl
elem_append x (y ∷ a) b = go (eqb x y) (elem_append x a b)
  where
    go : (p : Bool) → elem x (a ++ b) ≡ elem x a || elem x b → p || elem x (a ++ b) ≡ (p || elem x a) || elem x b
    go true e = refl
    go false e = e
