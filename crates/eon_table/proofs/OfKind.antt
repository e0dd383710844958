-- What `Sheet::is` answers, as a test of the definitions.
use Rattle.std.proofs.Common.{◌≡◌, ℕ, Bool, true, false, eqb, ◌↔◌, IsTrue, sym, refl}
use Rattle.eon_laws.proofs.Facts.{eq_of, eqb_same}

pub is_eqb : (b : Bool) (w k : ℕ) → (IsTrue b ↔ (w ≡ k)) → b ≡ eqb w k
is_eqb true w k h = let e : w ≡ k = h.0 refl in rw e (sym (eqb_same k))
is_eqb false w k h = go (eqb w k) refl
  where
    go : (t : Bool) → eqb w k ≡ t → false ≡ t
    go true e = h.1 (eq_of w k e)
    go false e = refl
