-- Regular expressions over characters, as token_kind.rs prints them, and the longest beginning of a text that one matches, by
-- derivatives. That this is the textbook meaning is a law (eon_laws, Regex).
use Rattle.std.specs.Prelude.{ℕ, zero, suc, Bool, true, false, ◌&&◌, ◌||◌, cond, List, [], ◌∷◌, eqb}
use Prim.Native.Char.{Char, code}
use Prim.Native.String.{String, [] as []ˢ, ◌∷◌ as ◌∷ˢ◌}
use Rattle.eon_spec.specs.Base.{within}
use Rattle.eon_spec.specs.Utf8.{Character, code_point}

-- a part of a class: a range of characters, or one character
pub data Item : Type 0 where
  ◌to◌ : Char → Char → Item
  only : Char → Item

infix 70 ◌to◌
abbrev pub in_item : Item → Character → Bool
in_item (a to z) c = within (code a) (code z) (code_point c)
in_item (only a) c = eqb (code a) (code_point c)

-- a class is one of its parts
abbrev pub in_class : List Item → Character → Bool
in_class [] c = false
in_class (i ∷ is) c = in_item i c || in_class is c

-- nothing; the empty text; one character in a class or outside it; one after the other; either; any number in a row
infixr 61 ◌then◌
infixr 60 ◌or◌
pub data Regex : Type 0 where
  never : Regex
  empty : Regex
  one_of : List Item → Regex
  none_of : List Item → Regex
  ◌then◌ : Regex → Regex → Regex
  ◌or◌ : Regex → Regex → Regex
  many : Regex → Regex

-- a character, a text, `.` (which excludes line feed)
abbrev pub char : Char → Regex
char c = one_of (only c ∷ [])

abbrev pub text : String → Regex
text []ˢ = empty
text (c ∷ˢ s) = char c then text s

abbrev pub dot : Regex
dot = none_of (only "\n" ∷ [])

-- r matches the empty text
abbrev pub nullable : Regex → Bool
nullable never = false
nullable empty = true
nullable (one_of k) = false
nullable (none_of k) = false
nullable (a then b) = nullable a && nullable b
nullable (a or b) = nullable a || nullable b
nullable (many a) = true

-- r is `never`
abbrev pub is_never : Regex → Bool
is_never never = true
is_never empty = false
is_never (one_of k) = false
is_never (none_of k) = false
is_never (a then b) = false
is_never (a or b) = false
is_never (many a) = false

-- `then` and `or`, without the parts that match nothing
abbrev pub and_then : Regex → Regex → Regex
and_then never r = never
and_then empty r = r
and_then (one_of k) r = one_of k then r
and_then (none_of k) r = none_of k then r
and_then (a then b) r = a then and_then b r
and_then (a or b) r = (a or b) then r
and_then (many a) r = many a then r

abbrev pub or_else : Regex → Regex → Regex
or_else a b = cond (is_never a) b (cond (is_never b) a (a or b))

-- what must follow the character c for r to match (Brzozowski's derivative)
unfoldable pub deriv : Regex → Character → Regex
deriv never c = never
deriv empty c = never
deriv (one_of k) c = cond (in_class k c) empty never
deriv (none_of k) c = cond (in_class k c) never empty
deriv (a then b) c =
    elim (nullable a) [ true ↦ or_else (and_then (deriv a c) b) (deriv b c) | false ↦ and_then (deriv a c) b ]
deriv (a or b) c = or_else (deriv a c) (deriv b c)
deriv (many a) c = and_then (deriv a c) (many a)

-- the number of characters of the longest beginning that r matches, of one character or more; 0 if there is none
unfoldable pub longest : Regex → List Character → ℕ
longest r [] = 0
longest r (c ∷ cs) =
    let d = deriv r c in
    elim (is_never d) [
      | true ↦ 0
      | false ↦ elim (longest d cs) [
        | zero ↦ elim (nullable d) [ true ↦ 1 | false ↦ 0 ]
        | suc n ↦ suc (suc n)
      ]
    ]
