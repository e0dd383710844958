-- The two digits that `{:02x}` writes of a byte are those of the table, byte after byte.
use Rattle.std.proofs.Common.{◌≡◌, ℕ, ◌+◌, ◌-◌, ◌/◌, ◌%◌, ◌^◌, ◌<◌, true, false, List, [], ◌∷◌, ◌++◌, length, get_or, take, ◌==◌, slice_index, sym, refl, ap, ◌∙◌, arith}
use Rattle.std.specs.Fmt.{digit_glyph, digits, padded_integral, format_spec}
use Rattle.std.proofs.lemmas.Fmt.{hex_byte}
use Rattle.std.proofs.lemmas.Bool.{agree_below_at}
use Rattle.std.proofs.lemmas.List.{take_more}
use Rattle.hex.specs.Hex.{lower_digits, encode_with, encode_lower}
use Rattle.std.proofs.lemmas.Bool.{eqb-true}

glyph : (d : ℕ) → d < 16 → digit_glyph false d ≡ slice_index lower_digits d
glyph d h = eqb-true (digit_glyph false d) (slice_index lower_digits d) (agree_below_at (λ n. digit_glyph false n == slice_index lower_digits n) (λ _. true) 16 d refl h)

byte_written : (b : ℕ) → b < 256
    → padded_integral (format_spec 32 0 4 2 (2 ^ 64 - 1)) false [] (digits 16 false b) ≡ encode_lower (b ∷ [])
unfolding encode_with
byte_written b h = hex_byte false b h ∙ (λ i. glyph (b / 16) (omega arith) i ∷ glyph (b % 16) (omega arith) i ∷ [])

encode_append : (t xs ys : List ℕ) → encode_with t (xs ++ ys) ≡ encode_with t xs ++ encode_with t ys
unfolding encode_with
encode_append t [] ys = refl
encode_append t (b ∷ xs) ys = ap (λ (l : List ℕ). slice_index t (b / 16) ∷ slice_index t (b % 16) ∷ l) (encode_append t xs ys)

-- the digits of the bytes so far, and of one more
pub encode_more : (xs : List ℕ) (i : ℕ) → i < length xs → get_or xs i 0 < 256
    → encode_lower (take i xs) ++ padded_integral (format_spec 32 0 4 2 (2 ^ 64 - 1)) false [] (digits 16 false (get_or xs i 0)) ≡ encode_lower (take (i + 1) xs)
encode_more xs i h byte =
    ap (λ (l : List ℕ). encode_lower (take i xs) ++ l) (byte_written (get_or xs i 0) byte)
    ∙ sym (ap encode_lower (take_more xs i 0 h) ∙ encode_append lower_digits (take i xs) (get_or xs i 0 ∷ []))

pub encode_nil : encode_lower [] ≡ []
unfolding encode_with
encode_nil = refl
