-- Runs of stores, which end where the memory does.
use Rattle.std.proofs.Common.{◌≡◌, refl, ℕ, suc, ◌+◌, ◌≤◌, List, [], ◌∷◌, ◌++◌, length, set, add-zero, arith}
use Rattle.std.proofs.lemmas.List.{set_past}
use Rattle.std.proofs.lemmas.List.Edits.{sets}

pub sets_append : (b c l : List ℕ) (at : ℕ) → sets (sets l at b) (at + length b) c ≡ sets l at (b ++ c)
sets_append [] c l at = rw (add-zero at)
sets_append (x ∷ b) c l at = let e : at + suc (length b) ≡ suc at + length b = omega arith in rw e (sets_append b c (set l at x) (suc at))

-- nothing is stored past the end
pub sets_past : (b l : List ℕ) (at : ℕ) → length l ≤ at → sets l at b ≡ l
sets_past [] l at h = refl
sets_past (x ∷ b) l at h = rw (set_past l at x h) (sets_past b l (suc at) (omega arith))
