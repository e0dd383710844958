-- A well-formed text from a boundary on.
use Rattle.std.proofs.Common.{◌≡◌, ℕ, zero, suc, ◌+◌, ◌≤◌, true, List, [], ◌∷◌, length, take, drop, sym, refl, ap, ◌∙◌, add_assoc, suc-add, zero-add, arith, length-append, take_at, drop_at, take_all}
use Rattle.eon_spec.specs.Utf8.{Character, chars, joined, is_utf8, Boundary}
use Rattle.eon_laws.proofs.Utf8.{joined_is}
use Rattle.eon_laws.proofs.Words.{joined_split}
use Rattle.eon_laws.proofs.Chars.{AllChars, chars_are, all_chars}

-- the bytes of the first n characters
abbrev pub bytes : ℕ → List Character → ℕ
bytes n cs = length (joined (take n cs))

pub prefix : (n : ℕ) (cs : List Character) → take (bytes n cs) (joined cs) ≡ joined (take n cs)
prefix n cs = ap (take (bytes n cs)) (joined_split n cs) ∙ take_at (joined (take n cs)) (joined (drop n cs)) _ refl

pub suffix : (n : ℕ) (cs : List Character) → drop (bytes n cs) (joined cs) ≡ joined (drop n cs)
suffix n cs = ap (drop (bytes n cs)) (joined_split n cs) ∙ drop_at (joined (take n cs)) (joined (drop n cs)) _ refl

pub bytes_le : (n : ℕ) (cs : List Character) → bytes n cs + length (joined (drop n cs)) ≡ length (joined cs)
bytes_le n cs = sym (ap length (joined_split n cs) ∙ length-append (joined (take n cs)) (joined (drop n cs)))

bytes_none : (n : ℕ) → bytes n [] ≡ 0
bytes_none zero = refl
bytes_none (suc n) = refl

pub bytes_add : (j n : ℕ) (cs : List Character) → bytes (j + n) cs ≡ bytes j cs + bytes n (drop j cs)
bytes_add zero n cs = ap (λ (m : ℕ). bytes m cs) (zero-add n) ∙ sym (zero-add (bytes n cs))
bytes_add (suc j) n [] = bytes_none (suc j + n) ∙ sym (omega (arith, bytes_none n))
bytes_add (suc j) n (c ∷ cs) =
    ap (λ (m : ℕ). bytes m (c ∷ cs)) (suc-add j n)
    ∙ length-append c (joined (take (j + n) cs))
    ∙ ap (λ (m : ℕ). length c + m) (bytes_add j n cs)
    ∙ sym (ap (λ (m : ℕ). m + bytes n (drop j cs)) (length-append c (joined (take j cs))) ∙ add_assoc (length c) (bytes j cs) (bytes n (drop j cs)))

pub all_drop : (n : ℕ) (cs : List Character) → AllChars cs → AllChars (drop n cs)
all_drop zero cs a = a
all_drop (suc n) [] a = tt
all_drop (suc n) (c ∷ cs) a = all_drop n cs a.1

module _ (s : List ℕ) (u : is_utf8 s ≡ true) where
  all : AllChars (chars s)
  unfolding chars
  all = chars_are 0 s

  module _ (j : ℕ) where
    pub all_from : AllChars (drop j (chars s))
    all_from = all_drop j (chars s) all

    pub text_from : drop (bytes j (chars s)) s ≡ joined (drop j (chars s))
    text_from = ap (drop (bytes j (chars s))) (sym (joined_is s u)) ∙ suffix j (chars s)

    pub chars_from_lem : chars (drop (bytes j (chars s)) s) ≡ drop j (chars s)
    chars_from_lem = ap chars text_from ∙ all_chars (drop j (chars s)) all_from

    pub text_le : bytes j (chars s) + length (joined (drop j (chars s))) ≡ length s
    text_le = bytes_le j (chars s) ∙ ap length (joined_is s u)

  pub boundary_le : (at : ℕ) → Boundary s at → at ≤ length s
  boundary_le at b = omega (arith, b.place, text_le b.count)

-- the two ends
pub boundary_start : (s : List ℕ) → Boundary s 0
boundary_start s = record { count = 0; place = refl }

pub boundary_end : (s : List ℕ) → is_utf8 s ≡ true → Boundary s (length s)
boundary_end s u = record { count = length (chars s); place = sym (ap (λ (cs : List Character). length (joined cs)) (take_all _ (chars s) (omega arith)) ∙ ap length (joined_is s u)) }
