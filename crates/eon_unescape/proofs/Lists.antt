-- A list without a number, and tails.
use Rattle.std.proofs.Common.{◌≡◌, ℕ, ◌+◌, ◌-◌, ◌≤◌, Bool, true, false, eqb, List, [], ◌∷◌, ◌++◌, length, drop, sym, refl, ap, ◌∙◌, subst, arith, length-drop, drop-drop}
use Rattle.eon_spec.specs.Unquote.{without}
use Rattle.eon_unescape.specs.Views.{TailOf}

pub without_append : (x : ℕ) (a b : List ℕ) → without x (a ++ b) ≡ without x a ++ without x b
without_append x [] b = refl
without_append x (c ∷ a) b = go (eqb c x) refl (without_append x a b)
  where
    go : (p : Bool) → eqb c x ≡ p → without x (a ++ b) ≡ without x a ++ without x b → without x (c ∷ (a ++ b)) ≡ without x (c ∷ a) ++ without x b
    go true e r = rw (e, without) r
    go false e r = rw (e, without) (ap (λ (l : List ℕ). c ∷ l) r)

pub tail_drop : (s t : List ℕ) (k : ℕ) → TailOf s t → length t ≤ length s → k ≤ length t → TailOf s (drop k t)
tail_drop s t k e l h =
    let m : (length s - length t) + k ≡ length s - length (drop k t) = omega (arith, length-drop k t, h) in
    ap (drop k) e ∙ drop-drop k (length s - length t) s ∙ ap (λ (n : ℕ). drop n s) m

pub tail_of_tail : (s t u : List ℕ) → TailOf s t → length t ≤ length s → TailOf t u → TailOf s u
tail_of_tail s t u e l h = subst (TailOf s) (sym h) (tail_drop s t (length t - length u) e l (omega arith))
