-- A text cut at an ASCII byte.
use Rattle.std.proofs.Common.{◌≡◌, ℕ, zero, suc, ◌<◌, ◌≤◌, ◌⊎◌, List, [], ◌∷◌, ◌++◌, length, get_or, take, drop, sym, refl, ap, ◌∙◌, inl, inr, arith, length-append, take-append-drop}
use Rattle.std.proofs.lemmas.List.{take-append-le}
use native.Mathlib.Decide.{dec_le, dec_lt}
use lib.ListN.{get_or-append}
use lib.Seq.{take-append_seam, drop-append_seam, drop-append-le, get_or-append_seam}
use Rattle.eon_spec.specs.Utf8.{Character, chars, well_formed_from, well_formed_len, joined, code_point, encode_char}
use Rattle.eon_laws.proofs.Utf8.{chars_concat}
use Rattle.eon_laws.proofs.Chars.{IsChar, AllChars, chars_are, all_formed}
use Rattle.eon_laws.proofs.Encode.{char_encoded, encode_one, encode_two, encode_three, encode_four}
use Rattle.eon_unescape.specs.Views.{Formed}

-- ---- a character is an ASCII byte, or has none

abbrev pub AllHigh : List ℕ → Type 0
AllHigh [] = Unit {0}
AllHigh (b ∷ s) = (128 ≤ b) × AllHigh s

pub high_at : (s : List ℕ) (k : ℕ) → AllHigh s → k < length s → 128 ≤ get_or s k 0
high_at [] k h l = absurd (omega arith)
high_at (b ∷ s) zero h l = h.0
high_at (b ∷ s) (suc k) h l = high_at s k h.1 (omega arith)

abbrev pub CharIs : Character → Type 0
CharIs c = ((c ≡ code_point c ∷ []) × (code_point c < 128)) ⊎ (AllHigh c × (128 ≤ code_point c))

pub char_is : (c : Character) → IsChar c → CharIs c
char_is c h = one (dec_lt p 0x80)
  where
    p : ℕ
    p = code_point c

    by : (l : List ℕ) → encode_char p ≡ l → AllHigh l → 128 ≤ p → CharIs c
    by l e g k = inr (rw (sym (char_encoded c h) ∙ e) g, k)

    three : Dec (p < 0x10000) → 0x800 ≤ p → CharIs c
    three (yes l) k = by _ (encode_three p k l) (omega arith, (omega arith, (omega arith, tt))) (omega arith)
    three (no l) k = by _ (encode_four p (omega arith)) (omega arith, (omega arith, (omega arith, (omega arith, tt)))) (omega arith)

    two : Dec (p < 0x800) → 0x80 ≤ p → CharIs c
    two (yes l) k = by _ (encode_two p k l) (omega arith, (omega arith, tt)) k
    two (no l) k = three (dec_lt p 0x10000) (omega arith)

    one : Dec (p < 0x80) → CharIs c
    one (yes l) = inl (sym (char_encoded c h) ∙ encode_one p l, l)
    one (no l) = two (dec_lt p 0x800) (omega arith)

-- ---- so an ASCII byte begins a character

abbrev CutAt : List ℕ → List ℕ → Type 0
CutAt a r = (ds : List Character) × (es : List Character) × (joined ds ≡ a) × (joined es ≡ r) × AllChars ds × AllChars es

module _ (b : ℕ) (t : List ℕ) (k : b < 128) where
  cut_in : (c : Character) (cs : List Character) (a : List ℕ) → IsChar c → 0 < length a → length a < length c → c ++ joined cs ≡ a ++ (b ∷ t) → ⊥
  cut_in c cs a h n l e = go (char_is c h)
    where
      there : get_or c (length a) 0 ≡ b
      there = sym (get_or-append c (joined cs) 0 (length a) l) ∙ ap (λ (s : List ℕ). get_or s (length a) 0) e ∙ get_or-append_seam a b t 0

      go : CharIs c → ⊥
      go (inl x) = omega (arith, ap length x.0)
      go (inr x) = omega (arith, high_at c (length a) x.0 l, there)

  cut_at : (cs : List Character) (a : List ℕ) → AllChars cs → joined cs ≡ a ++ (b ∷ t) → CutAt a (b ∷ t)
  cut_at [] a h e = absurd (omega (arith, ap length e, length-append a (b ∷ t)))
  cut_at (c ∷ cs) [] h e = ([], c ∷ cs, refl, e, tt, h)
  cut_at (c ∷ cs) (x ∷ a) h e = go (dec_le (length c) (suc (length a))) (cut_at cs (drop (length c) (x ∷ a)) h.1)
    where
      front : length c ≤ suc (length a) → c ≡ take (length c) (x ∷ a)
      front l = sym (take-append_seam c (joined cs)) ∙ ap (take (length c)) e ∙ take-append-le (length c) (x ∷ a) (b ∷ t) l

      back : length c ≤ suc (length a) → joined cs ≡ drop (length c) (x ∷ a) ++ (b ∷ t)
      back l = sym (drop-append_seam c (joined cs)) ∙ ap (drop (length c)) e ∙ drop-append-le (length c) (x ∷ a) (b ∷ t) l

      go : Dec (length c ≤ suc (length a)) → (joined cs ≡ drop (length c) (x ∷ a) ++ (b ∷ t) → CutAt (drop (length c) (x ∷ a)) (b ∷ t)) → CutAt (x ∷ a) (b ∷ t)
      go (no l) f = absurd (cut_in c cs (x ∷ a) h.0 (omega arith) (omega arith) e)
      go (yes l) f =
          let r = f (back l) in
          let w : c ++ joined r.0 ≡ x ∷ a = ap (λ (s : List ℕ). c ++ s) r.2 ∙ ap (λ (s : List ℕ). s ++ drop (length c) (x ∷ a)) (front l) ∙ take-append-drop (length c) (x ∷ a) in
          (c ∷ r.0, r.1, w, r.3, (h.0, r.4), r.5)

  pub ascii_cuts : (a : List ℕ) → Formed (a ++ (b ∷ t)) → Formed a × Formed (b ∷ t)
  unfolding chars well_formed_len
  ascii_cuts a f =
      let s = a ++ (b ∷ t) in
      let r = cut_at (chars s) a (chars_are 0 s) (chars_concat 0 s (omega arith) f) in
      (rw r.2 at (all_formed r.0 r.4), rw r.3 at (all_formed r.1 r.5))

pub no_bytes : Formed []
unfolding well_formed_len well_formed_from
no_bytes = refl
