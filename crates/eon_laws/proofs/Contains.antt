-- What a slice's `contains` computes is what the definitions' `elem` does.
use Rattle.std.proofs.Common.{◌≡◌, ℕ, List, [], ◌∷◌, nat_eq, refl}
use Rattle.std.specs.List.{list_any}
use Rattle.eon_spec.specs.Base.{elem}
use Rattle.eon_laws.proofs.Facts.{eqb_sym}

pub contains_elem : (b : ℕ) (l : List ℕ) → list_any (λ y. nat_eq y b) l ≡ elem b l
contains_elem b [] = refl
contains_elem b (y ∷ l) = rw (eqb_sym y b, contains_elem b l)
