-- Encoding undoes decoding: a character is the bytes of its code point, and a well-formed text those of its code points.
use Rattle.std.proofs.Common.{◌≡◌, ℕ, suc, ◌+◌, ◌-◌, ◌*◌, ◌/◌, ◌%◌, ◌<◌, ◌≤◌, Bool, true, false, ◌⊎◌, List, [], ◌∷◌, ◌++◌, map, length, Some, None, Option, sym, refl, ap, ◌∙◌, inl, inr, append_assoc, arith, le-ltb, lt-ltb}
use Rattle.eon_spec.specs.Base.{within}
use Rattle.eon_spec.specs.Utf8.{Range, ◌to◌, trailing, row_of, table37, fits, len_if, char_len, Character, chars, joined, code_point, decode, encode_char, encode, is_utf8, well_formed_len}
use Rattle.eon_laws.proofs.Facts.{and_left, and_right, within_bounds, eq_of}
use Rattle.eon_laws.proofs.Utf8.{chars_concat}
use Rattle.eon_laws.proofs.Chars.{IsChar, AllChars, chars_are}
use Rattle.eon_laws.proofs.Spaces.{InRows, row_in}

abbrev Between : ℕ → ℕ → ℕ → Type 0
Between lo hi b = (lo ≤ b) × (b ≤ hi)

-- the bytes that a code point gets, by its size
module _ (c : ℕ) where
  pub encode_one : c < 0x80 → encode_char c ≡ c ∷ []
  unfolding encode_char
  encode_one h = rw (lt-ltb c 0x80 h, encode_char)

  pub encode_two : 0x80 ≤ c → c < 0x800 → encode_char c ≡ (0xC0 + c / 64) ∷ (0x80 + c % 64) ∷ []
  unfolding encode_char
  encode_two h k = rw (le-ltb c 0x80 h, encode_char) (rw (lt-ltb c 0x800 k))

  pub encode_three : 0x800 ≤ c → c < 0x10000 → encode_char c ≡ (0xE0 + c / 4096) ∷ (0x80 + (c / 64) % 64) ∷ (0x80 + c % 64) ∷ []
  unfolding encode_char
  encode_three h k = rw (le-ltb c 0x80 (omega arith), encode_char) (rw (le-ltb c 0x800 h) (rw (lt-ltb c 0x10000 k)))

  pub encode_four : 0x10000 ≤ c → encode_char c ≡ (0xF0 + c / 262144) ∷ (0x80 + (c / 4096) % 64) ∷ (0x80 + (c / 64) % 64) ∷ (0x80 + c % 64) ∷ []
  unfolding encode_char
  encode_four h = rw (le-ltb c 0x80 (omega arith), encode_char) (rw (le-ltb c 0x800 (omega arith)) (rw (le-ltb c 0x10000 h)))

same_2 : (a b x y : ℕ) → a ≡ x → b ≡ y → a ∷ b ∷ [] ≡ x ∷ y ∷ []
same_2 a b x y e f = rw (e, f)

same_3 : (a b c x y z : ℕ) → a ≡ x → b ≡ y → c ≡ z → a ∷ b ∷ c ∷ [] ≡ x ∷ y ∷ z ∷ []
same_3 a b c x y z e f g = rw (e, f, g)

same_4 : (a b c d w x y z : ℕ) → a ≡ w → b ≡ x → c ≡ y → d ≡ z → a ∷ b ∷ c ∷ d ∷ [] ≡ w ∷ x ∷ y ∷ z ∷ []
same_4 a b c d w x y z e f g h = rw (e, f, g, h)

-- a character by the bounds of its bytes
two : (b x : ℕ) → Between 0xC2 0xDF b → Between 0x80 0xBF x → encode_char (code_point (b ∷ x ∷ [])) ≡ b ∷ x ∷ []
two b x h k = encode_two ((b - 0xC0) * 64 + (x - 0x80)) (omega arith) (omega arith) ∙ same_2 _ _ b x (omega arith) (omega arith)

three : (b x y : ℕ) → Between 0xE0 0xEF b → Between 0x80 0xBF x → Between 0x80 0xBF y → (0xE1 ≤ b) ⊎ (0xA0 ≤ x) → encode_char (code_point (b ∷ x ∷ y ∷ [])) ≡ b ∷ x ∷ y ∷ []
three b x y h k l (inl m) = encode_three (((b - 0xE0) * 64 + (x - 0x80)) * 64 + (y - 0x80)) (omega arith) (omega arith) ∙ same_3 _ _ _ b x y (omega arith) (omega arith) (omega arith)
three b x y h k l (inr m) = encode_three (((b - 0xE0) * 64 + (x - 0x80)) * 64 + (y - 0x80)) (omega arith) (omega arith) ∙ same_3 _ _ _ b x y (omega arith) (omega arith) (omega arith)

four : (b x y z : ℕ) → Between 0xF0 0xF4 b → Between 0x80 0xBF x → Between 0x80 0xBF y → Between 0x80 0xBF z → (0xF1 ≤ b) ⊎ (0x90 ≤ x) → encode_char (code_point (b ∷ x ∷ y ∷ z ∷ [])) ≡ b ∷ x ∷ y ∷ z ∷ []
four b x y z h k l m (inl n) =
    encode_four ((((b - 0xF0) * 64 + (x - 0x80)) * 64 + (y - 0x80)) * 64 + (z - 0x80)) (omega arith) ∙ same_4 _ _ _ _ b x y z (omega arith) (omega arith) (omega arith) (omega arith)
four b x y z h k l m (inr n) =
    encode_four ((((b - 0xF0) * 64 + (x - 0x80)) * 64 + (y - 0x80)) * 64 + (z - 0x80)) (omega arith) ∙ same_4 _ _ _ _ b x y z (omega arith) (omega arith) (omega arith) (omega arith)

-- bytes that fit as many ranges
fit_1 : (lo hi : ℕ) (s : List ℕ) → fits (lo to hi ∷ []) s ≡ true → 1 ≡ length s → (x : ℕ) × (s ≡ x ∷ []) × Between lo hi x
fit_1 lo hi [] e l = absurd (omega arith)
fit_1 lo hi (x ∷ []) e l = (x, refl, within_bounds lo hi x (and_left (within lo hi x) true e))
fit_1 lo hi (x ∷ y ∷ s) e l = absurd (omega arith)

fit_more : (lo hi : ℕ) (rs : List Range) (s : List ℕ) (n : ℕ) → fits (lo to hi ∷ rs) s ≡ true → suc n ≡ length s → (x : ℕ) × (t : List ℕ) × (s ≡ x ∷ t) × Between lo hi x × (fits rs t ≡ true) × (n ≡ length t)
fit_more lo hi rs [] n e l = absurd (omega arith)
fit_more lo hi rs (x ∷ t) n e l = (x, t, refl, within_bounds lo hi x (and_left (within lo hi x) (fits rs t) e), and_right (within lo hi x) (fits rs t) e, omega arith)

-- the rows of two, three and four bytes
Encodes : ℕ → List ℕ → Type 0
Encodes b s = encode_char (code_point (b ∷ s)) ≡ b ∷ s

row_2 : (b : ℕ) (s : List ℕ) → Between 0xC2 0xDF b → fits (trailing ∷ []) s ≡ true → 1 ≡ length s → Encodes b s
unfolding Encodes
row_2 b s h e l = let f = fit_1 0x80 0xBF s e l in rw f.1 (two b f.0 h f.2)

row_3 : (b lo hi : ℕ) (s : List ℕ) → Between 0xE0 0xEF b → 0x80 ≤ lo → hi ≤ 0xBF → (0xE1 ≤ b) ⊎ (0xA0 ≤ lo) → fits (lo to hi ∷ trailing ∷ []) s ≡ true → 2 ≡ length s → Encodes b s
unfolding Encodes
row_3 b lo hi s h p q c e l =
    let f = fit_more lo hi (trailing ∷ []) s 1 e l in
    let g = fit_1 0x80 0xBF f.1 f.4 f.5 in
    rw (f.2, g.1) (three b f.0 g.0 h (omega (arith, f.3), omega (arith, f.3)) g.2 (over c f.0 f.3.0))
  where
    over : (0xE1 ≤ b) ⊎ (0xA0 ≤ lo) → (x : ℕ) → lo ≤ x → (0xE1 ≤ b) ⊎ (0xA0 ≤ x)
    over (inl m) x k = inl m
    over (inr m) x k = inr (omega arith)

row_4 : (b lo hi : ℕ) (s : List ℕ) → Between 0xF0 0xF4 b → 0x80 ≤ lo → hi ≤ 0xBF → (0xF1 ≤ b) ⊎ (0x90 ≤ lo) → fits (lo to hi ∷ trailing ∷ trailing ∷ []) s ≡ true → 3 ≡ length s → Encodes b s
unfolding Encodes
row_4 b lo hi s h p q c e l =
    let f = fit_more lo hi (trailing ∷ trailing ∷ []) s 2 e l in
    let g = fit_more 0x80 0xBF (trailing ∷ []) f.1 1 f.4 f.5 in
    let k = fit_1 0x80 0xBF g.1 g.4 g.5 in
    rw (f.2, g.2, k.1) (four b f.0 g.0 k.0 h (omega (arith, f.3), omega (arith, f.3)) g.3 k.2 (over c f.0 f.3.0))
  where
    over : (0xF1 ≤ b) ⊎ (0x90 ≤ lo) → (x : ℕ) → lo ≤ x → (0xF1 ≤ b) ⊎ (0x90 ≤ x)
    over (inl m) x k = inl m
    over (inr m) x k = inr (omega arith)

none_left : (s : List ℕ) → 0 ≡ length s → s ≡ []
none_left [] l = refl
none_left (x ∷ s) l = absurd (omega arith)

-- row by row of Table 3-7
by_row : (b : ℕ) (s : List ℕ) (m : List Range) → InRows table37 b m → fits m s ≡ true → length m ≡ length s → Encodes b s
unfolding Encodes
by_row b s m (inl p) f l = rw (none_left s (p.1 ∙ l)) (encode_one b (omega (arith, (within_bounds 0x00 0x7F b p.0).1)))
by_row b s m (inr (inl p)) f l = row_2 b s (within_bounds 0xC2 0xDF b p.0) (p.2 s f) (p.1 ∙ l)
by_row b s m (inr (inr (inl p))) f l = let h = within_bounds 0xE0 0xE0 b p.0 in row_3 b 0xA0 0xBF s (omega arith, omega arith) (omega arith) (omega arith) (inr (omega arith)) (p.2 s f) (p.1 ∙ l)
by_row b s m (inr (inr (inr (inl p)))) f l = let h = within_bounds 0xE1 0xEC b p.0 in row_3 b 0x80 0xBF s (omega arith, omega arith) (omega arith) (omega arith) (inl h.0) (p.2 s f) (p.1 ∙ l)
by_row b s m (inr (inr (inr (inr (inl p))))) f l = let h = within_bounds 0xED 0xED b p.0 in row_3 b 0x80 0x9F s (omega arith, omega arith) (omega arith) (omega arith) (inl (omega arith)) (p.2 s f) (p.1 ∙ l)
by_row b s m (inr (inr (inr (inr (inr (inl p)))))) f l = let h = within_bounds 0xEE 0xEF b p.0 in row_3 b 0x80 0xBF s (omega arith, omega arith) (omega arith) (omega arith) (inl (omega arith)) (p.2 s f) (p.1 ∙ l)
by_row b s m (inr (inr (inr (inr (inr (inr (inl p))))))) f l = let h = within_bounds 0xF0 0xF0 b p.0 in row_4 b 0x90 0xBF s (omega arith, omega arith) (omega arith) (omega arith) (inr (omega arith)) (p.2 s f) (p.1 ∙ l)
by_row b s m (inr (inr (inr (inr (inr (inr (inr (inl p)))))))) f l = let h = within_bounds 0xF1 0xF3 b p.0 in row_4 b 0x80 0xBF s (omega arith, omega arith) (omega arith) (omega arith) (inl h.0) (p.2 s f) (p.1 ∙ l)
by_row b s m (inr (inr (inr (inr (inr (inr (inr (inr (inl p))))))))) f l = let h = within_bounds 0xF4 0xF4 b p.0 in row_4 b 0x80 0x8F s (omega arith, omega arith) (omega arith) (omega arith) (inl (omega arith)) (p.2 s f) (p.1 ∙ l)
by_row b s m (inr (inr (inr (inr (inr (inr (inr (inr (inr p))))))))) f l = absurd p

pub char_encoded : (c : Character) → IsChar c → encode_char (code_point c) ≡ c
unfolding char_len Encodes
char_encoded [] h = absurd h
char_encoded (b ∷ s) e = go (row_of table37 b) refl e
  where
    fitting : (m : List Range) (x : Bool) → row_of table37 b ≡ Some m → fits m s ≡ x → len_if (Some m) s ≡ suc (length s) → encode_char (code_point (b ∷ s)) ≡ b ∷ s
    fitting m true p q e = let y : suc (length m) ≡ suc (length s) = rw (q, len_if) at e in by_row b s m (row_in table37 b m p) q (omega arith)
    fitting m false p q e = absurd (let y : 0 ≡ suc (length s) = rw (q, len_if) at e in omega arith)

    go : (o : Option (List Range)) → row_of table37 b ≡ o → len_if o s ≡ suc (length s) → encode_char (code_point (b ∷ s)) ≡ b ∷ s
    go None p e = absurd (omega arith)
    go (Some m) p e = fitting m (fits m s) p refl e

pub chars_encoded : (cs : List Character) → AllChars cs → encode (map code_point cs) ≡ joined cs
unfolding encode
chars_encoded [] h = refl
chars_encoded (c ∷ cs) h = rw (char_encoded c h.0, chars_encoded cs h.1)

-- a well-formed text is the encoding of its code points
pub encode_decode : (s : List ℕ) → is_utf8 s ≡ true → encode (decode s) ≡ s
unfolding decode chars is_utf8 well_formed_len
encode_decode s e = chars_encoded (chars s) (chars_are 0 s) ∙ chars_concat 0 s (omega arith) (eq_of (well_formed_len s) (length s) e)

pub encode_append : (a b : List ℕ) → encode (a ++ b) ≡ encode a ++ encode b
unfolding encode
encode_append [] b = refl
encode_append (c ∷ a) b = ap (λ (x : List ℕ). encode_char c ++ x) (encode_append a b) ∙ sym (append_assoc (encode_char c) (encode a) (encode b))
