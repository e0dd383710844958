-- UTF-8: the Unicode standard's Table 3-7, "Well-Formed UTF-8 Byte Sequences". Refusal 2 names the length of a text's longest
-- well-formed beginning, and a token is a run of characters, so both are defined here.
use Rattle.std.specs.Prelude.{ℕ, zero, suc, ◌+◌, ◌*◌, ◌-◌, ◌/◌, ◌%◌, Bool, true, false, ◌&&◌, ◌||◌, cond, ◌≡◌, List, [], ◌∷◌, ◌++◌, map, length, take, ltb, eqb, Option, None, Some}
use Prim.Native.String.{String}
use Rattle.eon_spec.specs.Base.{within, codes}

-- a range of bytes, its ends included
pub data Range : Type 0 where
  ◌to◌ : ℕ → ℕ → Range

infix 70 ◌to◌
abbrev pub in_range : Range → ℕ → Bool
in_range (lo to hi) b = within lo hi b

-- a form of a character: the range of its first byte, and those of its further bytes
pub data Row : Type 0 where
  ◌then◌ : Range → List Range → Row

infix 60 ◌then◌
-- any byte behind the first, where the table does not say otherwise
abbrev pub trailing : Range
trailing = 0x80 to 0xBF

-- Table 3-7, row by row
abbrev pub table37 : List Row
table37 =
    (0x00 to 0x7F then [])
    ∷ (0xC2 to 0xDF then trailing ∷ [])
    ∷ (0xE0 to 0xE0 then 0xA0 to 0xBF ∷ trailing ∷ [])
    ∷ (0xE1 to 0xEC then trailing ∷ trailing ∷ [])
    ∷ (0xED to 0xED then 0x80 to 0x9F ∷ trailing ∷ [])
    ∷ (0xEE to 0xEF then trailing ∷ trailing ∷ [])
    ∷ (0xF0 to 0xF0 then 0x90 to 0xBF ∷ trailing ∷ trailing ∷ [])
    ∷ (0xF1 to 0xF3 then trailing ∷ trailing ∷ trailing ∷ [])
    ∷ (0xF4 to 0xF4 then 0x80 to 0x8F ∷ trailing ∷ trailing ∷ [])
    ∷ []

-- the further bytes of the row whose first byte this is
abbrev pub row_of : List Row → ℕ → Option (List Range)
row_of [] b = None
row_of ((first then more) ∷ rows) b = elim (in_range first b) [ true ↦ Some more | false ↦ row_of rows b ]

-- the text begins with bytes of these ranges
abbrev pub fits : List Range → List ℕ → Bool
fits [] s = true
fits (r ∷ rs) [] = false
fits (r ∷ rs) (b ∷ s) = in_range r b && fits rs s

-- the length of a character with these further bytes, 0 if the text has others
abbrev pub len_if : Option (List Range) → List ℕ → ℕ
len_if None s = 0
len_if (Some more) s = elim (fits more s) [ true ↦ suc (length more) | false ↦ 0 ]

-- the length of the well-formed character that the text begins with, 0 if there is none
unfoldable pub char_len : List ℕ → ℕ
char_len [] = 0
char_len (b ∷ s) = len_if (row_of table37 b) s

-- the bytes of the longest well-formed beginning; `skip` bytes are still of the character before
unfoldable pub well_formed_from : ℕ → List ℕ → ℕ
well_formed_from skip [] = 0
well_formed_from (suc k) (b ∷ s) = suc (well_formed_from k s)
well_formed_from zero (b ∷ s) = elim (char_len (b ∷ s)) [ zero ↦ 0 | suc k ↦ suc (well_formed_from k s) ]

-- the length of the longest well-formed beginning
unfoldable pub well_formed_len : List ℕ → ℕ
well_formed_len s = well_formed_from 0 s

-- the whole text is well-formed
unfoldable pub is_utf8 : List ℕ → Bool
is_utf8 s = eqb (well_formed_len s) (length s)

-- the code point of a character, given as its bytes
abbrev pub code_point : List ℕ → ℕ
code_point [] = 0
code_point (a ∷ []) = a
code_point (a ∷ b ∷ []) = (a - 0xC0) * 64 + (b - 0x80)
code_point (a ∷ b ∷ c ∷ []) = ((a - 0xE0) * 64 + (b - 0x80)) * 64 + (c - 0x80)
code_point (a ∷ b ∷ c ∷ d ∷ s) = (((a - 0xF0) * 64 + (b - 0x80)) * 64 + (c - 0x80)) * 64 + (d - 0x80)

-- a character, as its bytes
abbrev pub Character : Type 0
Character = List ℕ

-- the characters of a text, up to the first fault; `skip` bytes are still of the character before
unfoldable pub chars_from : ℕ → List ℕ → List Character
chars_from skip [] = []
chars_from (suc k) (b ∷ s) = chars_from k s
chars_from zero (b ∷ s) = elim (char_len (b ∷ s)) [ zero ↦ [] | suc k ↦ (b ∷ take k s) ∷ chars_from k s ]

-- the characters of a text
unfoldable pub chars : List ℕ → List Character
chars s = chars_from 0 s

-- their bytes in a row
abbrev pub joined : List Character → List ℕ
joined [] = []
joined (c ∷ cs) = c ++ joined cs

-- a character of the text begins at the byte `at`, or the text ends there: its first `count` characters take as many bytes
pub record Boundary (s : List ℕ) (at : ℕ) : Type 0 where
  pub count : ℕ
  pub place : at ≡ length (joined (take count (chars s)))

-- the code points of a text
unfoldable pub decode : List ℕ → List ℕ
decode s = map code_point (chars s)

-- the bytes of a code point
unfoldable pub encode_char : ℕ → List ℕ
encode_char c =
    cond (ltb c 0x80) (c ∷ [])
    (cond (ltb c 0x800) ((0xC0 + c / 64) ∷ (0x80 + c % 64) ∷ [])
    (cond (ltb c 0x10000) ((0xE0 + c / 4096) ∷ (0x80 + (c / 64) % 64) ∷ (0x80 + c % 64) ∷ [])
    ((0xF0 + c / 262144) ∷ (0x80 + (c / 4096) % 64) ∷ (0x80 + (c / 64) % 64) ∷ (0x80 + c % 64) ∷ [])))

-- the bytes of code points
unfoldable pub encode : List ℕ → List ℕ
encode [] = []
encode (c ∷ cs) = encode_char c ++ encode cs

-- a Unicode scalar value: no surrogate, at most 10FFFF
abbrev pub is_scalar : ℕ → Bool
is_scalar c = ltb c 0xD800 || within 0xE000 0x10FFFF c

-- the bytes of a quoted text
unfoldable pub utf8 : String → List ℕ
utf8 s = encode (codes s)
