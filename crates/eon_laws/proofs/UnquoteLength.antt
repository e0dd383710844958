-- The value of a quoted string takes no more bytes than the string; and unquoting refuses by 17 to 26.
use Rattle.std.proofs.Common.{◌≡◌, ℕ, suc, ◌+◌, ◌-◌, ◌*◌, ◌≤◌, Bool, true, false, cond, ◌&&◌, eqb, ltb, List, [], ◌∷◌, ◌++◌, length, take, drop, Some, None, Option, refl, ap, arith, length-append, take-append-drop}
use Rattle.eon_spec.specs.Base.{elem, codes}
use Rattle.eon_spec.specs.Utf8.{encode_char, encode, decode, is_scalar, is_utf8}
use Rattle.eon_spec.specs.Unquote.{Unescaped, value, fault, push, lookup, escapes, hex_digit, white_space, Mode, plain, backslash, blanks, unicode, digits, unescape, without, starts_with, ends_with, in_marks, one_line_only, drop_line_feed, unquote_chars, value_bytes, unquote}
use Rattle.eon_laws.proofs.Facts.{either, and_left, and_right, eq_of}
use Rattle.eon_laws.proofs.Encode.{encode_append, encode_decode}

-- the bytes that code points take
abbrev size : List ℕ → ℕ
size s = length (encode s)

-- code points of at most m bytes, or a refusal of unquoting
abbrev Within : ℕ → Unescaped → Type 0
Within m (value v) = size v ≤ m
Within m (fault n) = (17 ≤ n) × (n ≤ 26)

-- ---- sizes

-- what holds of both values holds of the one that is chosen
chosen : {A : Type 0} (b : Bool) (P : A → Type 0) (x y : A) → P x → P y → P (cond b x y)
chosen true P x y f g = f
chosen false P x y f g = g

-- a code point takes one to four bytes
char_size : (c : ℕ) → (1 ≤ length (encode_char c)) × (length (encode_char c) ≤ 4)
unfolding encode_char
char_size c = chosen (ltb c 0x80) P _ _ (omega arith, omega arith) (chosen (ltb c 0x800) P _ _ (omega arith, omega arith) (chosen (ltb c 0x10000) P _ _ (omega arith, omega arith) (omega arith, omega arith)))
  where
    P : List ℕ → Type 0
    P b = (1 ≤ length b) × (length b ≤ 4)

-- code points in a row
size_cons : (c : ℕ) (s : List ℕ) → size (c ∷ s) ≡ length (encode_char c) + size s
unfolding encode
size_cons c s = length-append (encode_char c) (encode s)

size_append : (a b : List ℕ) → size (a ++ b) ≡ size a + size b
size_append a b = rw (encode_append a b) (length-append (encode a) (encode b))

size_parts : (n : ℕ) (s : List ℕ) → size s ≡ size (take n s) + size (drop n s)
size_parts n s = rw (take-append-drop n s) at (size_append (take n s) (drop n s))

-- ---- escapes

-- a larger bound; and a character before the others
grow : (m k : ℕ) (u : Unescaped) → m ≤ k → Within m u → Within k u
grow m k (value v) h w = omega arith
grow m k (fault n) h w = w

push_within : (c m k : ℕ) (u : Unescaped) → length (encode_char c) + m ≤ k → Within m u → Within k (push c u)
push_within c m k (value v) h w = omega (arith, size_cons c v)
push_within c m k (fault n) h w = w

-- what holds of what is found and of what stands for nothing
found : {A B : Type 0} (o : Option B) (Q : Option B → Type 0) (P : A → Type 0) (f : B → A) (y : A) → Q o → ((b : B) → Q (Some b) → P (f b)) → P y → P (elim o [ Some b ↦ f b | None ↦ y ])
found (Some b) Q P f y q g h = g b q
found None Q P f y q g h = h

-- an escape of one character gives one byte
abbrev OneByte : Option ℕ → Type 0
OneByte None = Unit {0}
OneByte (Some d) = length (encode_char d) ≡ 1

-- .. as the table says
abbrev all_one_byte : List (ℕ × ℕ) → Bool
all_one_byte [] = true
all_one_byte (e ∷ es) = eqb (length (encode_char e.1)) 1 && all_one_byte es

lookup_one : (c : ℕ) (es : List (ℕ × ℕ)) → all_one_byte es ≡ true → OneByte (lookup c es)
lookup_one c [] h = tt
lookup_one c (e ∷ es) h =
    either (eqb c e.0) OneByte (Some e.1) (lookup c es) (λ p. eq_of (length (encode_char e.1)) 1 (and_left (eqb (length (encode_char e.1)) 1) (all_one_byte es) h))
    (λ p. lookup_one c es (and_right (eqb (length (encode_char e.1)) 1) (all_one_byte es) h))

escape_one : (c : ℕ) → OneByte (lookup c escapes)
unfolding encode_char
escape_one c = lookup_one c escapes refl

-- the bytes of an escape that were passed over, at least: a backslash, `u` and `{`
abbrev passed : Mode → ℕ
passed plain = 0
passed backslash = 1
passed blanks = 0
passed unicode = 2
passed (digits k n) = 3

-- one character more, where k bytes were passed over before it
module _ (c : ℕ) (s : List ℕ) (rec : (m : Mode) → Within (passed m + size s) (unescape m s)) where
  abbrev Here : ℕ → Unescaped → Type 0
  Here k = Within (k + size (c ∷ s))

  more : 1 + size s ≤ size (c ∷ s)
  more = let h = char_size c in omega (arith, size_cons c s, h.0)

  go_on_lem : (k : ℕ) (m : Mode) → passed m ≤ suc k → Here k (unescape m s)
  go_on_lem k m h = grow (passed m + size s) (k + size (c ∷ s)) (unescape m s) (omega (arith, more)) (rec m)

  give : (k d : ℕ) → length (encode_char d) ≤ suc k → Here k (push d (unescape plain s))
  give k d h = push_within d (0 + size s) (k + size (c ∷ s)) (unescape plain s) (omega (arith, more)) (rec plain)

  -- in plain text
  read_on : Here 0 (elim (eqb c 92) [ true ↦ unescape backslash s | false ↦ push c (unescape plain s) ])
  read_on =
      either (eqb c 92) (Here 0) _ _ (λ e. go_on_lem 0 backslash (omega arith))
      (λ e. push_within c (0 + size s) (0 + size (c ∷ s)) (unescape plain s) (omega (arith, size_cons c s)) (rec plain))

  step : (m : Mode) → Here (passed m) (unescape m (c ∷ s))
  unfolding unescape
  step plain = read_on
  step backslash =
      found (lookup c escapes) OneByte (Here 1) _ _ (escape_one c) (λ d q. give 1 d (omega arith))
      (either (eqb c 10) (Here 1) _ _ (λ e. go_on_lem 1 blanks (omega arith)) (λ e. either (eqb c 117) (Here 1) _ _ (λ e. go_on_lem 1 unicode (omega arith)) (λ e. (omega arith, omega arith))))
  step blanks = either (elem c white_space) (Here 0) _ _ (λ e. go_on_lem 0 blanks (omega arith)) (λ e. read_on)
  step unicode = either (eqb c 123) (Here 2) _ _ (λ e. go_on_lem 2 (digits 0 0) (omega arith)) (λ e. (omega arith, omega arith))
  step (digits k n) =
      either (eqb c 125) (Here 3) _ _ (λ e. either (is_scalar n) (Here 3) _ _ (λ e. give 3 n (char_size n).1) (λ e. (omega arith, omega arith)))
      (λ e. found (hex_digit c) (λ o. Unit {0}) (Here 3) _ _ tt
      (λ d q. either (ltb k 8) (Here 3) _ _ (λ e. go_on_lem 3 (digits (suc k) (n * 16 + d)) (omega arith)) (λ e. (omega arith, omega arith)))
      (either (eqb c 95) (Here 3) _ _ (λ e. go_on_lem 3 (digits k n) (omega arith)) (λ e. (omega arith, omega arith))))

-- an escape is no shorter than what it stands for
unescape_within : (s : List ℕ) (m : Mode) → Within (passed m + size s) (unescape m s)
unfolding unescape encode
unescape_within [] plain = omega arith
unescape_within [] backslash = (omega arith, omega arith)
unescape_within [] blanks = omega arith
unescape_within [] unicode = (omega arith, omega arith)
unescape_within [] (digits k n) = (omega arith, omega arith)
unescape_within (c ∷ s) m = step c s (unescape_within s) m

-- ---- between the marks

-- without its marks a string is shorter; f keeps within what it is handed
in_marks_lem : (m s : List ℕ) (f : List ℕ → Unescaped) → ((t : List ℕ) → Within (size t) (f t)) → Within (size s) (in_marks m s f)
in_marks_lem m s f h =
    let rest : List ℕ = drop (length m) s in
    let n : ℕ = length rest - length m in
    either (ends_with m rest) (Within (size s)) (f (take n rest)) (fault 18)
    (λ e. grow (size (take n rest)) (size s) (f (take n rest)) (omega (arith, size_parts (length m) s, size_parts n rest)) (h (take n rest))) (λ e. (omega arith, omega arith))

on_one_line_lem : (f : List ℕ → Unescaped) → ((t : List ℕ) → Within (size t) (f t)) → (t : List ℕ) → Within (size t) (one_line_only f t)
on_one_line_lem f h t = either (elem 10 t) (Within (size t)) (fault 19) (f t) (λ e. (omega arith, omega arith)) (λ e. h t)

unescaped_within : (t : List ℕ) → Within (size t) (unescape plain t)
unescaped_within t = grow (0 + size t) (size t) (unescape plain t) (omega arith) (unescape_within t plain)

-- fewer code points take no more bytes
size_less : (c : ℕ) (s : List ℕ) → size s ≤ size (c ∷ s)
size_less c s = omega (arith, size_cons c s)

line_feed_within : (t : List ℕ) → size (drop_line_feed t) ≤ size t
line_feed_within [] = omega arith
line_feed_within (c ∷ t) = either (eqb c 10) (λ x. size x ≤ size (c ∷ t)) t (c ∷ t) (λ e. size_less c t) (λ e. omega arith)

without_within : (x : ℕ) (s : List ℕ) → size (without x s) ≤ size s
without_within x [] = omega arith
without_within x (c ∷ s) =
    let h = without_within x s in
    either (eqb c x) (λ y. size y ≤ size (c ∷ s)) (without x s) (c ∷ without x s) (λ e. omega (arith, size_less c s)) (λ e. omega (arith, size_cons c s, size_cons c (without x s)))

-- each way of quoting
chars_within : (s : List ℕ) → Within (size s) (unquote_chars s)
unfolding unquote_chars
chars_within s =
    chosen (starts_with (codes "'''") s) (Within (size s)) _ _ (in_marks_lem (codes "'''") s (λ t. value (drop_line_feed t)) line_feed_within)
    (chosen (starts_with (codes "'") s) (Within (size s)) _ _ (in_marks_lem (codes "'") s (one_line_only value) (on_one_line_lem value λ t. omega arith))
    (chosen (starts_with (codes "\"\"\"") s) (Within (size s)) _ _ (in_marks_lem (codes "\"\"\"") s (unescape plain) unescaped_within)
    (chosen (starts_with (codes "\"") s) (Within (size s)) _ _ (in_marks_lem (codes "\"") s (one_line_only (unescape plain)) (on_one_line_lem (unescape plain) unescaped_within))
    (omega arith, omega arith))))

-- ---- the law

-- at most m bytes, or a refusal of unquoting
abbrev pub Unquoted : ℕ → Unescaped → Type 0
Unquoted m (value b) = length b ≤ m
Unquoted m (fault n) = (17 ≤ n) × (n ≤ 26)

encoded_within : (m : ℕ) (u : Unescaped) → Within m u → Unquoted m (value_bytes u)
encoded_within m (value v) h = h
encoded_within m (fault n) h = h

-- a value takes no more bytes than its quoted string; refusals are 17 to 26
pub unquote_length : (s : List ℕ) → is_utf8 s ≡ true → Unquoted (length s) (unquote s)
unfolding unquote
unquote_length s formed =
    encoded_within (length s) (unquote_chars (without 13 (decode s)))
    (grow (size (without 13 (decode s))) (length s) (unquote_chars (without 13 (decode s))) (omega (arith, without_within 13 (decode s), ap length (encode_decode s formed))) (chars_within (without 13 (decode s))))
