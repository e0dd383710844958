-- The characters of a text without carriage returns, one by one.
use Rattle.std.proofs.Common.{◌≡◌, ℕ, zero, suc, ◌-◌, ◌<◌, ◌≤◌, true, nat_lt, List, [], ◌∷◌, map, length, get_or, take, drop, sym, refl, ap, ◌∙◌, arith, length-drop, take-append-drop, eq-eqb, ne_eqb}
use Rattle.eon_spec.specs.Base.{elem}
use Rattle.eon_laws.proofs.Facts.{nor_right, elem_append}
use Rattle.eon_spec.specs.Utf8.{char_len, chars_from, chars, decode, code_point, Character, well_formed_len}
use Rattle.eon_spec.specs.Unquote.{without}
use Rattle.eon_unescape.proofs.Lists.{tail_drop}
use Rattle.eon_unescape.specs.Views.{kept, Formed, BytesOf, TailOf}
use Rattle.eon_utf8.specs.Post.{StartsWith}
use Rattle.eon_utf8.specs.declared.Char.{Char}
use Rattle.std.proofs.lemmas.List.{take_rest}
use Rattle.eon_laws.proofs.Utf8.{goes_on, ascii_char}

chars_skip : (k : ℕ) (s : List ℕ) → chars_from k s ≡ chars_from 0 (drop k s)
unfolding chars_from
chars_skip zero s = refl
chars_skip (suc k) [] = refl
chars_skip (suc k) (b ∷ s) = chars_skip k s

chars_on : (n : ℕ) (t : List ℕ) → n ≡ char_len t → 0 < n → chars_from 0 t ≡ take n t ∷ chars_from 0 (drop n t)
unfolding chars_from char_len
chars_on zero t e h = absurd (omega arith)
chars_on (suc k) [] e h = absurd (omega arith)
chars_on (suc k) (b ∷ s) e h = rw (sym e, chars_from) (ap (λ (cs : List Character). (b ∷ take k s) ∷ cs) (chars_skip k s))

chars_off : (t : List ℕ) → char_len t ≡ 0 → chars_from 0 t ≡ []
unfolding chars_from
chars_off [] e = refl
chars_off (b ∷ s) e = rw (e, chars_from)

without_it : (c : ℕ) (u : List ℕ) → c ≡ 13 → without 13 (c ∷ u) ≡ without 13 u
without_it c u e = rw (eq-eqb c 13 e, without)

without_other : (c : ℕ) (u : List ℕ) → (c ≡ 13 → ⊥) → without 13 (c ∷ u) ≡ c ∷ without 13 u
without_other c u e = rw (ne_eqb c 13 e, without)

pub kept_none : (s : List ℕ) → char_len s ≡ 0 → kept s ≡ []
unfolding kept decode chars
kept_none s e = ap (λ (cs : List Character). without 13 (map code_point cs)) (chars_off s e)

module _ (s : List ℕ) (c : Char) (h : StartsWith s c) where
  decode_on : decode s ≡ c.code ∷ decode (drop c.len s)
  unfolding decode chars
  decode_on = ap (λ (cs : List Character). map code_point cs) (chars_on c.len s h.is h.some) ∙ ap (λ (x : ℕ). x ∷ decode (drop c.len s)) (sym h.point)

  pub kept_skip : c.code ≡ 13 → kept s ≡ kept (take (length s - c.len) (drop c.len s))
  unfolding kept
  kept_skip q = rw (take_rest s c.len) (ap (without 13) decode_on ∙ without_it c.code (decode (drop c.len s)) q)

  pub kept_more : (c.code ≡ 13 → ⊥) → kept s ≡ c.code ∷ kept (take (length s - c.len) (drop c.len s))
  unfolding kept
  kept_more q = rw (take_rest s c.len) (ap (without 13) decode_on ∙ without_other c.code (decode (drop c.len s)) q)

  pub formed_step : Formed s → Formed (take (length s - c.len) (drop c.len s))
  unfolding well_formed_len
  formed_step f = rw (take_rest s c.len) (omega (arith, goes_on c.len s h.is h.some, length-drop c.len s, h.inside))

  pub shorter : length (take (length s - c.len) (drop c.len s)) < length s
  shorter = rw (take_rest s c.len) (omega (arith, length-drop c.len s, h.inside, h.some))

  pub tail_step : (u : List ℕ) → TailOf u s → length s ≤ length u → TailOf u (take (length s - c.len) (drop c.len s))
  tail_step u e l = rw (take_rest s c.len) (tail_drop u s c.len e l h.inside)

  pub rest_bytes : BytesOf s (take (length s - c.len) (drop c.len s))
  rest_bytes x e = rw (take_rest s c.len) (nor_right (elem x (take c.len s)) (elem x (drop c.len s)) (sym (elem_append x (take c.len s) (drop c.len s)) ∙ rw (take-append-drop c.len s) e))

-- a byte of ASCII is a character
pub ascii_starts : (s : List ℕ) (c : ℕ) → 0 < length s → c ≡ get_or s 0 0 → nat_lt c 0x80 ≡ true → StartsWith s (record { code = c; len = 1 })
ascii_starts [] c p e h = absurd (omega arith)
ascii_starts (b ∷ s) c p e h = record { is = ascii_char b s (rw e at h); some = omega arith; inside = omega arith; point = e }

pub tail_whole : (s : List ℕ) → TailOf s s
tail_whole s = let z : length s - length s ≡ 0 = omega arith in rw z refl
