-- The library's UTF-8, which `str` has, is that of Table 3-7.
use Rattle.std.proofs.Common.{◌≡◌, refl, sym, ap, ◌∙◌, ℕ, suc, ◌+◌, ◌-◌, ◌*◌, ◌/◌, ◌%◌, ◌≤◌, ◌<◌, map, ◌⊎◌, inl, inr, true, List, [], ◌∷◌, ◌++◌, length, take, drop, take-append-drop, subst, arith, rules}
use Rattle.std.proofs.lemmas.Bool.Decides.{nat_tests}
use Rattle.std.proofs.lemmas.Grind.{common_steps}
use native.Mathlib.Decide.{dec_le}
use lib.Utf8.{scalar, scalar_cases, low_scalar, scalars, encodes}
use Rattle.std.specs.Str.{IsUtf8, IsValidUpTo}
use Rattle.eon_spec.specs.Utf8.{char_len, encode, encode_char, code_point, Character, chars_from, joined, is_utf8, well_formed_len, well_formed_from}
use Rattle.eon_laws.proofs.Chars.{IsChar, AllChars, chars_are, all_formed}
use Rattle.eon_laws.proofs.Utf8.{chars_concat, chars_front, well_formed_behind}
use Rattle.eon_laws.proofs.Facts.{and_left, and_right, eq_of}
use lib.Seq.{length-take-le}
use Rattle.eon_laws.proofs.Encode.{encode_one, encode_two, encode_three, encode_four, chars_encoded}

module _ (c : ℕ) where
  encoded_1 : c < 0x80 → char_len (c ∷ []) ≡ 1
  unfolding char_len
  encoded_1 h = grind (arith, nat_tests, common_steps)

  encoded_2 : 0x80 ≤ c → c < 0x800 → char_len ((0xC0 + c / 64) ∷ (0x80 + c % 64) ∷ []) ≡ 2
  unfolding char_len
  encoded_2 h k = grind (arith, nat_tests, common_steps)

  encoded_3 : 0x800 ≤ c → c < 0x10000 → (c < 0xD800) ⊎ (0xE000 ≤ c) → char_len ((0xE0 + c / 4096) ∷ (0x80 + (c / 64) % 64) ∷ (0x80 + c % 64) ∷ []) ≡ 3
  unfolding char_len
  encoded_3 h k (inl s) = grind (arith, nat_tests, common_steps)
  encoded_3 h k (inr s) = grind (arith, nat_tests, common_steps)

  encoded_4 : 0x10000 ≤ c → c < 0x110000 → char_len ((0xF0 + c / 262144) ∷ (0x80 + (c / 4096) % 64) ∷ (0x80 + (c / 64) % 64) ∷ (0x80 + c % 64) ∷ []) ≡ 4
  unfolding char_len
  encoded_4 h k = grind (arith, nat_tests, common_steps)

scalar_1 : (a : ℕ) → char_len (a ∷ []) ≡ 1 → scalar (code_point (a ∷ [])) ≡ true
unfolding char_len
scalar_1 a e = grind (arith, nat_tests, common_steps)

high : (c : ℕ) → 0xE000 ≤ c → c < 0x110000 → scalar c ≡ true
high c h k = grind (arith, nat_tests)

bounds_2 : (a b : ℕ) → char_len (a ∷ b ∷ []) ≡ 2 → (a ≤ 0xDF) × (b ≤ 0xBF)
unfolding char_len
bounds_2 a b e = grind (arith, nat_tests, common_steps)

scalar_2 : (a b : ℕ) → char_len (a ∷ b ∷ []) ≡ 2 → scalar (code_point (a ∷ b ∷ [])) ≡ true
scalar_2 a b e = let h = bounds_2 a b e in low_scalar (code_point (a ∷ b ∷ [])) (omega arith)

bounds_3 : (a b c : ℕ) → char_len (a ∷ b ∷ c ∷ []) ≡ 3 → (0xE0 ≤ a) × (a ≤ 0xEF) × (b ≤ 0xBF) × (c ≤ 0xBF)
unfolding char_len
bounds_3 a b c e = (grind (arith, nat_tests, common_steps), grind (arith, nat_tests, common_steps), grind (arith, nat_tests, common_steps), grind (arith, nat_tests, common_steps))

no_surrogate : (a b c : ℕ) → char_len (a ∷ b ∷ c ∷ []) ≡ 3 → a ≤ 0xED → b ≤ 0x9F + (0xED - a) * 0x20
unfolding char_len
no_surrogate a b c e h = grind (arith, nat_tests, common_steps)

scalar_3 : (a b c : ℕ) → char_len (a ∷ b ∷ c ∷ []) ≡ 3 → scalar (code_point (a ∷ b ∷ c ∷ [])) ≡ true
scalar_3 a b c e = go (dec_le a 0xED)
  where
    go : Dec (a ≤ 0xED) → scalar (code_point (a ∷ b ∷ c ∷ [])) ≡ true
    go (yes h) = low_scalar (code_point (a ∷ b ∷ c ∷ [])) (omega (arith, bounds_3 a b c e, no_surrogate a b c e h))
    go (no h) = high (code_point (a ∷ b ∷ c ∷ [])) (omega (arith, bounds_3 a b c e)) (omega (arith, bounds_3 a b c e))

bounds_4 : (a b c d : ℕ) → char_len (a ∷ b ∷ c ∷ d ∷ []) ≡ 4 → (0xF0 ≤ a) × (a ≤ 0xF4) × (b ≤ 0xBF) × (c ≤ 0xBF) × (d ≤ 0xBF)
unfolding char_len
bounds_4 a b c d e = (grind (arith, nat_tests, common_steps), grind (arith, nat_tests, common_steps), grind (arith, nat_tests, common_steps), grind (arith, nat_tests, common_steps), grind (arith, nat_tests, common_steps))

planes : (a b c d : ℕ) → char_len (a ∷ b ∷ c ∷ d ∷ []) ≡ 4 → (0x90 ≤ b + (a - 0xF0) * 0x10) × (b ≤ 0x8F + (0xF4 - a) * 0x30)
unfolding char_len
planes a b c d e = (grind (arith, nat_tests, common_steps), grind (arith, nat_tests, common_steps))

scalar_4 : (a b c d : ℕ) → char_len (a ∷ b ∷ c ∷ d ∷ []) ≡ 4 → scalar (code_point (a ∷ b ∷ c ∷ d ∷ [])) ≡ true
scalar_4 a b c d e = high (code_point (a ∷ b ∷ c ∷ d ∷ [])) (omega (arith, bounds_4 a b c d e, planes a b c d e)) (omega (arith, bounds_4 a b c d e, planes a b c d e))

no_longer : (a b c d e : ℕ) (s : List ℕ) → ¬ (char_len (a ∷ b ∷ c ∷ d ∷ e ∷ s) ≡ suc (suc (suc (suc (suc (length s))))))
unfolding char_len
no_longer a b c d e s h = grind (arith, nat_tests, common_steps)

char_scalar : (c : Character) → IsChar c → scalar (code_point c) ≡ true
char_scalar [] h = absurd h
char_scalar (a ∷ []) h = scalar_1 a h
char_scalar (a ∷ b ∷ []) h = scalar_2 a b h
char_scalar (a ∷ b ∷ c ∷ []) h = scalar_3 a b c h
char_scalar (a ∷ b ∷ c ∷ d ∷ []) h = scalar_4 a b c d h
char_scalar (a ∷ b ∷ c ∷ d ∷ e ∷ s) h = absurd (no_longer a b c d e s h)

chars_scalars : (cs : List Character) → AllChars cs → scalars (map code_point cs) ≡ true
chars_scalars [] h = refl
chars_scalars (c ∷ cs) h = rw (char_scalar c h.0) (chars_scalars cs h.1)

-- the library's encoding is the paper's
encodes_are : (cs : List ℕ) → encodes cs ≡ encode cs
unfolding encode encode_char lib.Utf8.encode
encodes_are [] = refl
encodes_are (c ∷ cs) = ap (λ (s : List ℕ). encode_char c ++ s) (encodes_are cs)

chars_str : (cs : List Character) → AllChars cs → IsUtf8 (joined cs)
chars_str cs h = (map code_point cs, (chars_scalars cs h, encodes_are (map code_point cs) ∙ chars_encoded cs h))

pub formed_str : (s : List ℕ) → is_utf8 s ≡ true → IsUtf8 s
unfolding is_utf8 well_formed_len
formed_str s u = subst IsUtf8 (chars_concat 0 s (omega arith) (eq_of (well_formed_from 0 s) (length s) u)) (chars_str (chars_from 0 s) (chars_are 0 s))

-- ---- and back

encoded_char : (c : ℕ) → scalar c ≡ true → IsChar (encode_char c)
encoded_char c s = go (scalar_cases c s) (dec_le 0x80 c) (dec_le 0x800 c) (dec_le 0x10000 c)
  where
    go : (c < 0xD800) ⊎ ((0xE000 ≤ c) × (c < 0x110000)) → Dec (0x80 ≤ c) → Dec (0x800 ≤ c) → Dec (0x10000 ≤ c) → IsChar (encode_char c)
    go s (no h) _ _ = rw (encode_one c (omega arith)) (encoded_1 c (omega arith))
    go s (yes h) (no k) _ = rw (encode_two c h (omega arith)) (encoded_2 c h (omega arith))
    go (inl s) (yes h) (yes k) (no l) = rw (encode_three c k (omega arith)) (encoded_3 c k (omega arith) (inl s))
    go (inr s) (yes h) (yes k) (no l) = rw (encode_three c k (omega arith)) (encoded_3 c k (omega arith) (inr s.0))
    go (inl s) (yes h) (yes k) (yes l) = absurd (omega arith)
    go (inr s) (yes h) (yes k) (yes l) = rw (encode_four c l) (encoded_4 c l s.1)

encoded_chars : (cs : List ℕ) → scalars cs ≡ true → AllChars (map encode_char cs)
encoded_chars [] h = tt
encoded_chars (c ∷ cs) h = (encoded_char c (and_left (scalar c) (scalars cs) h), encoded_chars cs (and_right (scalar c) (scalars cs) h))

encodes_joined : (cs : List ℕ) → encodes cs ≡ joined (map encode_char cs)
unfolding encode_char lib.Utf8.encode
encodes_joined [] = refl
encodes_joined (c ∷ cs) = ap (λ (s : List ℕ). encode_char c ++ s) (encodes_joined cs)

pub str_length : (s : List ℕ) → IsUtf8 s → well_formed_len s ≡ length s
str_length s (cs, (h, e)) = let f = sym (encodes_joined cs) ∙ e in
    subst (λ (t : List ℕ). well_formed_len t ≡ length t) f (all_formed (map encode_char cs) (encoded_chars cs h))

pub str_formed : (s : List ℕ) → IsUtf8 s → is_utf8 s ≡ true
unfolding is_utf8
str_formed s u = search (rules, str_length s u)

-- where the library's check stops
pub valid_len : (s : List ℕ) (n : ℕ) → IsValidUpTo s n → n ≡ well_formed_len s
unfolding well_formed_len
valid_len s n v = let w = well_formed_from 0 s in
    let front : IsUtf8 (take w s) = subst IsUtf8 (chars_front 0 s (omega arith)) (chars_str (chars_from 0 s) (chars_are 0 s)) in
    let beyond : well_formed_from 0 (take n s ++ drop n s) ≡ length (take n s) + well_formed_from 0 (drop n s) = well_formed_behind 0 (take n s) (drop n s) (omega arith) (str_length (take n s) v.front) in
    let short = v.short in
    le_both n w (omega (arith, length-take-le n s (omega arith), beyond, ap (well_formed_from 0) (take-append-drop n s))) (λ h. v.longest w h front)
  where
    le_both : (n w : ℕ) → n ≤ w → ¬ (n < w) → n ≡ w
    le_both n w h k = omega arith
