-- A hexadecimal digit more.
use Rattle.std.proofs.Common.{◌≡◌, ℕ, ◌+◌, ◌*◌, ◌^◌, ◌<◌, List, ◌∷◌, Some, add-one, arith, pow_mono, pow-add, lt-ltb, ne_eqb}
use Rattle.eon_spec.specs.Unquote.{unescape, digits, hex_digit}

pub digit_more : (k n c d : ℕ) (s : List ℕ) → (c ≡ 125 → ⊥) → hex_digit c ≡ Some d → k < 8 → unescape (digits k n) (c ∷ s) ≡ unescape (digits (k + 1) (n * 16 + d)) s
unfolding unescape
digit_more k n c d s e f g = rw (ne_eqb c 125 e, unescape) (rw f (rw (lt-ltb k 8 g, add-one k)))

pub grows : (k n d : ℕ) → n < 2 ^ (4 * k) → d < 16 → n * 16 + d < 2 ^ (4 * (k + 1))
grows k n d h l =
    let p : 4 * (k + 1) ≡ 4 * k + 4 = omega arith in
    rw (p, pow-add 2 (4 * k) 4) (omega arith)

pub room : (k n : ℕ) → k < 8 → n < 2 ^ (4 * k) → n < 2 ^ 28
room k n h l = omega (arith, pow_mono {i = 4 * k} {j = 28} (omega arith))
