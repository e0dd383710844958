-- The characters of a text, one by one.
use Rattle.std.proofs.Common.{◌≡◌, ℕ, zero, suc, Bool, true, false, List, [], ◌∷◌, length, take, Some, None, Option, sym, refl, ap, ◌∙◌, arith, length-append, length-take-le, take_all}
use Rattle.eon_laws.proofs.Facts.{and_left, and_right}
use Rattle.eon_spec.specs.Utf8.{Range, in_range, row_of, table37, fits, len_if, char_len, well_formed_from, well_formed_len, chars_from, chars, joined, Character}
use Rattle.eon_laws.proofs.Utf8.{char_length, chars_append, well_formed_append}

-- the bytes are one character
abbrev pub IsChar : Character → Type 0
IsChar [] = ⊥
IsChar (b ∷ s) = char_len (b ∷ s) ≡ suc (length s)

abbrev pub AllChars : List Character → Type 0
AllChars [] = Unit {0}
AllChars (c ∷ cs) = IsChar c × AllChars cs

fits_take : (rs : List Range) (s : List ℕ) → fits rs s ≡ true → fits rs (take (length rs) s) ≡ true
fits_take [] s e = refl
fits_take (r ∷ rs) [] e = cc
fits_take (r ∷ rs) (b ∷ s) e = rw (and_left (in_range r b) (fits rs s) e) (fits_take rs s (and_right (in_range r b) (fits rs s) e))

len_if_take : (o : Option (List Range)) (s : List ℕ) (k : ℕ) → len_if o s ≡ suc k → len_if o (take k s) ≡ suc k
len_if_take None s k e = e
len_if_take (Some rs) s k e = go (fits rs s) refl e
  where
    go : (x : Bool) → fits rs s ≡ x → len_if (Some rs) s ≡ suc k → len_if (Some rs) (take k s) ≡ suc k
    go true p e =
        let z : suc (length rs) ≡ suc k = rw (p, len_if) at e in
        let y : length rs ≡ k = omega arith in
        rw (← y, fits_take rs s p, len_if)
    go false p e = absurd (let z = rw (p, len_if) at e in omega arith)

cut_char : (b : ℕ) (s : List ℕ) (k : ℕ) → char_len (b ∷ s) ≡ suc k → char_len (b ∷ take k s) ≡ suc (length (take k s))
unfolding char_len
cut_char b s k e = len_if_take (row_of table37 b) s k e ∙ ap suc (sym (length-take-le k s (char_length b s k e)))

pub chars_are : (k : ℕ) (s : List ℕ) → AllChars (chars_from k s)
unfolding chars_from
chars_are zero [] = tt
chars_are (suc k) [] = tt
chars_are (suc k) (b ∷ s) = chars_are k s
chars_are zero (b ∷ s) = go (char_len (b ∷ s)) refl (λ k. chars_are k s)
  where
    go : (n : ℕ) → char_len (b ∷ s) ≡ n → ((k : ℕ) → AllChars (chars_from k s)) → AllChars (chars_from 0 (b ∷ s))
    go zero p f = rw (p, chars_from) tt
    go (suc k) p f = rw (p, chars_from) (cut_char b s k p, f k)

no_bytes : well_formed_from 0 [] ≡ 0
unfolding well_formed_from
no_bytes = refl

no_chars : chars_from 0 [] ≡ []
unfolding chars_from
no_chars = refl

-- behind a character's first byte
formed_over : (s : List ℕ) → well_formed_from (length s) s ≡ length s
unfolding well_formed_from
formed_over [] = refl
formed_over (b ∷ s) = ap suc (formed_over s)

chars_over : (s : List ℕ) → chars_from (length s) s ≡ []
unfolding chars_from
chars_over [] = refl
chars_over (b ∷ s) = chars_over s

char_formed : (c : Character) → IsChar c → well_formed_len c ≡ length c
unfolding well_formed_len well_formed_from
char_formed [] h = absurd h
char_formed (b ∷ s) h = rw (h, well_formed_from) (ap suc (formed_over s))

char_alone : (c : Character) → IsChar c → chars c ≡ c ∷ []
unfolding chars chars_from
char_alone [] h = absurd h
char_alone (b ∷ s) h = rw (h, chars_from, chars_over s, take_all (length s) s (omega arith))

-- characters in a row are well-formed, and are the characters of the row
pub all_formed : (cs : List Character) → AllChars cs → well_formed_len (joined cs) ≡ length (joined cs)
unfolding well_formed_len
all_formed [] h = no_bytes
all_formed (c ∷ cs) h = well_formed_append 0 c (joined cs) (omega arith) (char_formed c h.0) (all_formed cs h.1) ∙ sym (length-append c (joined cs))

pub all_chars : (cs : List Character) → AllChars cs → chars (joined cs) ≡ cs
unfolding chars well_formed_len
all_chars [] h = no_chars
all_chars (c ∷ cs) h = chars_append 0 c (joined cs) (omega arith) (char_formed c h.0) ∙ rw (char_alone c h.0, all_chars cs h.1)
