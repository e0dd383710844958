-- Laws of UTF-8 that the definitions give.
use Rattle.std.proofs.Common.{◌≡◌, ℕ, zero, suc, ◌+◌, ◌≤◌, ◌<◌, nat_lt, Bool, true, false, List, [], ◌∷◌, ◌++◌, length, take, drop, Some, None, Option, refl, ap, sym, arith, take-append-drop}
use Rattle.std.proofs.lemmas.List.{take-append-le}
use Rattle.std.proofs.lemmas.Bool.Decides.{nat_tests}
use Rattle.eon_laws.proofs.Facts.{eq_of}
use Rattle.eon_spec.specs.Utf8.{Range, in_range, row_of, table37, fits, len_if, char_len, well_formed_len, well_formed_from, chars_from, chars, is_utf8, joined}

-- bytes that fit still fit with more behind them, and there are enough of them
fits_append : (rs : List Range) (s t : List ℕ) → fits rs s ≡ true → fits rs (s ++ t) ≡ true
fits_append [] s t e = refl
fits_append (r ∷ rs) [] t e = cc
fits_append (r ∷ rs) (b ∷ s) t e = go (in_range r b) refl e (fits_append rs s t)
  where
    go : (x : Bool) → in_range r b ≡ x → fits (r ∷ rs) (b ∷ s) ≡ true → (fits rs s ≡ true → fits rs (s ++ t) ≡ true) → fits (r ∷ rs) (b ∷ (s ++ t)) ≡ true
    go true p e f = rw (p, fits) (f (rw (p, fits) at e))
    go false p e f = cc (rw (p, fits) at e)

pub fits_length : (rs : List Range) (s : List ℕ) → fits rs s ≡ true → length rs ≤ length s
fits_length [] s e = omega arith
fits_length (r ∷ rs) [] e = cc
fits_length (r ∷ rs) (b ∷ s) e = go (in_range r b) refl e (fits_length rs s)
  where
    go : (x : Bool) → in_range r b ≡ x → fits (r ∷ rs) (b ∷ s) ≡ true → (fits rs s ≡ true → length rs ≤ length s) → suc (length rs) ≤ suc (length s)
    go true p e f = let h = f (rw (p, fits) at e) in omega arith
    go false p e f = cc (rw (p, fits) at e)

len_if_append : (o : Option (List Range)) (s t : List ℕ) (k : ℕ) → len_if o s ≡ suc k → len_if o (s ++ t) ≡ suc k
len_if_append None s t k e = e
len_if_append (Some rs) s t k e = go (fits rs s) refl e
  where
    go : (x : Bool) → fits rs s ≡ x → len_if (Some rs) s ≡ suc k → len_if (Some rs) (s ++ t) ≡ suc k
    go true p e = rw (fits_append rs s t p, len_if) (rw (p, len_if) at e)
    go false p e = absurd (let z = rw (p, len_if) at e in omega arith)

len_if_length : (o : Option (List Range)) (s : List ℕ) (k : ℕ) → len_if o s ≡ suc k → k ≤ length s
len_if_length None s k e = absurd (omega arith)
len_if_length (Some rs) s k e = go (fits rs s) refl e
  where
    go : (x : Bool) → fits rs s ≡ x → len_if (Some rs) s ≡ suc k → k ≤ length s
    go true p e = let z = rw (p, len_if) at e in omega (arith, fits_length rs s p)
    go false p e = absurd (let z = rw (p, len_if) at e in omega arith)

char_append : (x : ℕ) (s t : List ℕ) (k : ℕ) → char_len (x ∷ s) ≡ suc k → char_len (x ∷ (s ++ t)) ≡ suc k
unfolding char_len
char_append x s t k e = len_if_append (row_of table37 x) s t k e

pub char_length : (x : ℕ) (s : List ℕ) (k : ℕ) → char_len (x ∷ s) ≡ suc k → k ≤ length s
unfolding char_len
char_length x s k e = len_if_length (row_of table37 x) s k e

-- the characters of a well-formed text stay, whatever stands behind it
pub chars_append : (k : ℕ) (a b : List ℕ) → k ≤ length a → well_formed_from k a ≡ length a → chars_from k (a ++ b) ≡ chars_from k a ++ chars_from 0 b
unfolding well_formed_from chars_from
chars_append zero [] b h e = refl
chars_append (suc k) [] b h e = absurd (omega arith)
chars_append (suc k) (x ∷ a) b h e = chars_append k a b (omega arith) (omega arith)
chars_append zero (x ∷ a) b h e = go (char_len (x ∷ a)) refl e (λ k. chars_append k a b)
  where
    go : (n : ℕ) → char_len (x ∷ a) ≡ n → well_formed_from 0 (x ∷ a) ≡ suc (length a) → ((k : ℕ) → k ≤ length a → well_formed_from k a ≡ length a → chars_from k (a ++ b) ≡ chars_from k a ++ chars_from 0 b) → chars_from 0 (x ∷ (a ++ b)) ≡ chars_from 0 (x ∷ a) ++ chars_from 0 b
    go zero p e f = absurd (let z = rw (p, well_formed_from) at e in omega arith)
    go (suc k) p e f =
        let z = rw (p, well_formed_from) at e in
        let l = char_length x a k p in
        rw (p, char_append x a b k p, chars_from) (rw (take-append-le k a b l, f k l (omega arith)))

-- the characters of a text are its longest well-formed beginning
pub chars_front : (k : ℕ) (a : List ℕ) → k ≤ length a → take k a ++ joined (chars_from k a) ≡ take (well_formed_from k a) a
unfolding well_formed_from chars_from
chars_front zero [] h = refl
chars_front (suc k) [] h = absurd (omega arith)
chars_front (suc k) (x ∷ a) h = ap (λ (s : List ℕ). x ∷ s) (chars_front k a (omega arith))
chars_front zero (x ∷ a) h = go (char_len (x ∷ a)) refl (λ k. chars_front k a)
  where
    go : (n : ℕ) → char_len (x ∷ a) ≡ n → ((k : ℕ) → k ≤ length a → take k a ++ joined (chars_from k a) ≡ take (well_formed_from k a) a) → joined (chars_from 0 (x ∷ a)) ≡ take (well_formed_from 0 (x ∷ a)) (x ∷ a)
    go zero p f = rw (p, well_formed_from, chars_from)
    go (suc k) p f = rw (p, well_formed_from, chars_from) (ap (λ (s : List ℕ). x ∷ s) (f k (char_length x a k p)))

-- a well-formed text is its characters in a row
pub chars_concat : (k : ℕ) (a : List ℕ) → k ≤ length a → well_formed_from k a ≡ length a → joined (chars_from k a) ≡ drop k a
unfolding well_formed_from chars_from
chars_concat zero [] h e = refl
chars_concat (suc k) [] h e = absurd (omega arith)
chars_concat (suc k) (x ∷ a) h e = chars_concat k a (omega arith) (omega arith)
chars_concat zero (x ∷ a) h e = go (char_len (x ∷ a)) refl e (λ k. chars_concat k a)
  where
    go : (n : ℕ) → char_len (x ∷ a) ≡ n → well_formed_from 0 (x ∷ a) ≡ suc (length a) → ((k : ℕ) → k ≤ length a → well_formed_from k a ≡ length a → joined (chars_from k a) ≡ drop k a) → joined (chars_from 0 (x ∷ a)) ≡ x ∷ a
    go zero p e f = absurd (let z = rw (p, well_formed_from) at e in omega arith)
    go (suc k) p e f =
        let z = rw (p, well_formed_from) at e in
        rw (p, chars_from) (rw (f k (char_length x a k p) (omega arith), take-append-drop k a))

pub joined_is : (s : List ℕ) → is_utf8 s ≡ true → joined (chars s) ≡ s
unfolding is_utf8 well_formed_len chars
joined_is s formed = chars_concat 0 s (omega arith) (eq_of (well_formed_len s) (length s) formed)

-- what stands behind a well-formed text is read anew
pub well_formed_behind : (k : ℕ) (a b : List ℕ) → k ≤ length a → well_formed_from k a ≡ length a → well_formed_from k (a ++ b) ≡ length a + well_formed_from 0 b
unfolding well_formed_from
well_formed_behind zero [] b h e = omega arith
well_formed_behind (suc k) [] b h e = absurd (omega arith)
well_formed_behind (suc k) (x ∷ a) b h e = let g = well_formed_behind k a b (omega arith) (omega arith) in omega arith
well_formed_behind zero (x ∷ a) b h e = go (char_len (x ∷ a)) refl e (λ k. well_formed_behind k a b)
  where
    go : (n : ℕ) → char_len (x ∷ a) ≡ n → well_formed_from 0 (x ∷ a) ≡ suc (length a) → ((k : ℕ) → k ≤ length a → well_formed_from k a ≡ length a → well_formed_from k (a ++ b) ≡ length a + well_formed_from 0 b) → well_formed_from 0 (x ∷ (a ++ b)) ≡ suc (length a) + well_formed_from 0 b
    go zero p e f = absurd (let z = rw (p, well_formed_from) at e in omega arith)
    go (suc k) p e f =
        let z = rw (p, well_formed_from) at e in
        let g = f k (char_length x a k p) (omega arith) in
        rw (char_append x a b k p, well_formed_from) (omega arith)

-- a well-formed text and another behind it are well-formed
pub well_formed_append : (k : ℕ) (a b : List ℕ) → k ≤ length a → well_formed_from k a ≡ length a → well_formed_from 0 b ≡ length b → well_formed_from k (a ++ b) ≡ length a + length b
well_formed_append k a b h e f = let g = well_formed_behind k a b h e in omega arith

-- ---- a text's first character

formed_skip : (k : ℕ) (s : List ℕ) → k ≤ length s → well_formed_from k s ≡ k + well_formed_from 0 (drop k s)
unfolding well_formed_from
formed_skip zero s h = omega arith
formed_skip (suc k) [] h = absurd (omega arith)
formed_skip (suc k) (b ∷ s) h = let e = formed_skip k s (omega arith) in omega arith

pub goes_on : (n : ℕ) (t : List ℕ) → n ≡ char_len t → 0 < n → well_formed_from 0 t ≡ n + well_formed_from 0 (drop n t)
unfolding well_formed_from char_len
goes_on zero t e h = absurd (omega arith)
goes_on (suc k) [] e h = absurd (omega arith)
goes_on (suc k) (b ∷ t) e h = let f = formed_skip k t (char_length b t k (sym e)) in rw (sym e, well_formed_from) (omega arith)

pub ascii_char : (b : ℕ) (s : List ℕ) → nat_lt b 0x80 ≡ true → 1 ≡ char_len (b ∷ s)
unfolding char_len
ascii_char b s e = grind (arith, nat_tests)
