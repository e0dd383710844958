-- Unquoting a string, with the refusals 17 to 26, and the identifier test (strings.rs; document 01, "Unquoting").
use Rattle.std.specs.Prelude.{ℕ, suc, ◌+◌, ◌*◌, ◌-◌, Bool, true, false, ◌&&◌, ◌||◌, not, cond, List, [], ◌∷◌, length, take, drop, ltb, leb, eqb, Option, None, Some}
use Rattle.eon_spec.specs.Base.{within, elem, eq_list, codes}
use Rattle.eon_spec.specs.Utf8.{decode, encode, is_scalar}

-- the characters of the value, or the number of a refusal
pub data Unescaped : Type 0 where
  value : List ℕ → Unescaped
  fault : ℕ → Unescaped

-- a character before the others
abbrev pub push : ℕ → Unescaped → Unescaped
push c (value s) = value (c ∷ s)
push c (fault n) = fault n

-- Unicode White_Space: 25 code points
abbrev pub white_space : List ℕ
white_space =
    0x09 ∷ 0x0A ∷ 0x0B ∷ 0x0C ∷ 0x0D ∷ 0x20 ∷ 0x85 ∷ 0xA0 ∷ 0x1680 ∷ 0x2000 ∷ 0x2001 ∷ 0x2002 ∷ 0x2003 ∷ 0x2004 ∷ 0x2005 ∷ 0x2006
    ∷ 0x2007 ∷ 0x2008 ∷ 0x2009 ∷ 0x200A ∷ 0x2028 ∷ 0x2029 ∷ 0x202F ∷ 0x205F ∷ 0x3000 ∷ []

-- one-character escapes: the character behind the backslash, and what it gives
abbrev pub escapes : List (ℕ × ℕ)
escapes =
    (32, 32) ∷ (34, 34) ∷ (47, 47) ∷ (39, 39) ∷ (92, 92) ∷ (96, 96) ∷ (36, 36)  -- blank " / ' \ ` $
    ∷ (97, 7) ∷ (98, 8) ∷ (101, 27) ∷ (69, 27) ∷ (102, 12) ∷ (110, 10) ∷ (114, 13) ∷ (116, 9) ∷ (118, 11)  -- a b e E f n r t v
    ∷ []

-- what the table gives for c
abbrev pub lookup : ℕ → List (ℕ × ℕ) → Option ℕ
lookup c [] = None
lookup c (e ∷ es) = elim (eqb c e.0) [ true ↦ Some e.1 | false ↦ lookup c es ]

-- the value of a hexadecimal digit
abbrev pub hex_digit : ℕ → Option ℕ
hex_digit c =
    cond (within 48 57 c) (Some (c - 48))
    (cond (within 97 102 c) (Some (c - 87))
    (cond (within 65 70 c) (Some (c - 55))
    None))

-- where reading stands: in plain text, behind a backslash, in the blanks behind an escaped line feed, behind `\u`, or in
-- `\u{..` after so many digits with that number so far
pub data Mode : Type 0 where
  plain backslash blanks unicode : Mode
  digits : ℕ → ℕ → Mode

-- unescape, character by character. A backslash before a line feed swallows all following white space; an underscore in `\u{..}`
-- counts as no digit, and `\u{}` is 0
unfoldable pub unescape : Mode → List ℕ → Unescaped
unescape plain [] = value []
unescape backslash [] = fault 20
unescape blanks [] = value []
unescape unicode [] = fault 22
unescape (digits k n) [] = fault 25
unescape plain (c ∷ s) = elim (eqb c 92) [ true ↦ unescape backslash s | false ↦ push c (unescape plain s) ]
unescape backslash (c ∷ s) =
    elim (lookup c escapes) [
      | Some d ↦ push d (unescape plain s)
      | None ↦ elim (eqb c 10) [
        | true ↦ unescape blanks s
        | false ↦ elim (eqb c 117) [ true ↦ unescape unicode s | false ↦ fault 21 ]
      ]
    ]
unescape blanks (c ∷ s) =
    elim (elem c white_space) [
      | true ↦ unescape blanks s
      | false ↦ elim (eqb c 92) [ true ↦ unescape backslash s | false ↦ push c (unescape plain s) ]
    ]
unescape unicode (c ∷ s) = elim (eqb c 123) [ true ↦ unescape (digits 0 0) s | false ↦ fault 22 ]
unescape (digits k n) (c ∷ s) =
    elim (eqb c 125) [
      | true ↦ elim (is_scalar n) [ true ↦ push n (unescape plain s) | false ↦ fault 26 ]
      | false ↦ elim (hex_digit c) [
        | Some d ↦ elim (ltb k 8) [ true ↦ unescape (digits (suc k) (n * 16 + d)) s | false ↦ fault 23 ]
        | None ↦ elim (eqb c 95) [ true ↦ unescape (digits k n) s | false ↦ fault 24 ]
      ]
    ]

-- the list without x
abbrev pub without : ℕ → List ℕ → List ℕ
without x [] = []
without x (c ∷ s) = elim (eqb c x) [ true ↦ without x s | false ↦ c ∷ without x s ]

-- s begins, or ends, with m
abbrev pub starts_with : List ℕ → List ℕ → Bool
starts_with m s = eq_list (take (length m) s) m

abbrev pub ends_with : List ℕ → List ℕ → Bool
ends_with m s = leb (length m) (length s) && eq_list (drop (length s - length m) s) m

-- what is left of s behind the mark m and before it at the end, handed to f; 18 if it does not end so
abbrev pub in_marks : List ℕ → List ℕ → (List ℕ → Unescaped) → Unescaped
in_marks m s f =
    let rest = drop (length m) s in
    elim (ends_with m rest) [ true ↦ f (take (length rest - length m) rest) | false ↦ fault 18 ]

-- 19 if there is a line feed
abbrev pub one_line_only : (List ℕ → Unescaped) → List ℕ → Unescaped
one_line_only f s = elim (elem 10 s) [ true ↦ fault 19 | false ↦ f s ]

-- without a leading line feed
abbrev pub drop_line_feed : List ℕ → List ℕ
drop_line_feed [] = []
drop_line_feed (c ∷ s) = elim (eqb c 10) [ true ↦ s | false ↦ c ∷ s ]

-- unescape_and_unquote, on characters without carriage returns: "Openings are tried in the order `'''`, `'`, `"""`, `"`; the rest must
-- end in the same mark. Only `'''` drops one leading line feed. Escapes stand only in the last two"
unfoldable pub unquote_chars : List ℕ → Unescaped
unquote_chars s =
    cond (starts_with (codes "'''") s) (in_marks (codes "'''") s (λ t. value (drop_line_feed t)))
    (cond (starts_with (codes "'") s) (in_marks (codes "'") s (one_line_only value))
    (cond (starts_with (codes "\"\"\"") s) (in_marks (codes "\"\"\"") s (unescape plain))
    (cond (starts_with (codes "\"") s) (in_marks (codes "\"") s (one_line_only (unescape plain)))
    (fault 17))))

-- the value of a quoted string as bytes
abbrev pub value_bytes : Unescaped → Unescaped
value_bytes (value s) = value (encode s)
value_bytes (fault n) = fault n

-- "All carriage returns are removed first"
unfoldable pub unquote : List ℕ → Unescaped
unquote s = value_bytes (unquote_chars (without 13 (decode s)))

-- [a-zA-Z_] and [a-zA-Z0-9_]
abbrev pub is_letter : ℕ → Bool
is_letter c = within 97 122 c || within 65 90 c || eqb c 95

abbrev pub is_letter_or_digit : ℕ → Bool
is_letter_or_digit c = is_letter c || within 48 57 c

abbrev pub all_letters_or_digits : List ℕ → Bool
all_letters_or_digits [] = true
all_letters_or_digits (c ∷ s) = is_letter_or_digit c && all_letters_or_digits s

-- [a-zA-Z_][a-zA-Z0-9_]*
abbrev pub is_name : List ℕ → Bool
is_name [] = false
is_name (c ∷ s) = is_letter c && all_letters_or_digits s

-- is_valid_identifier: ".. other than `true`, `false` and `null`"
unfoldable pub is_valid_identifier : List ℕ → Bool
is_valid_identifier s = is_name s && not (eq_list s (codes "true") || eq_list s (codes "false") || eq_list s (codes "null"))
