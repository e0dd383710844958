-- Where a reader may stand in a text, where it starts, and what it reads of a text that need not be well-formed.
use Rattle.std.specs.Prelude.{◌≡◌, true, false, cond, List, [], ◌∷◌, ℕ, length, Option, None, Some}
use Rattle.eon_spec.specs.Utf8.{is_utf8, Boundary}
use Rattle.eon_spec.specs.declared.token_kind.TokenKind.TheVariants.{Invalid}
use Rattle.eon_spec.specs.Token.{is_kind, Token, tokens}
use Rattle.eon_spec.specs.Parse.{refusal, span_of}
use Rattle.eon_spec.specs.Calls.{Outcome, done, refused_with, checked}
use Rattle.eon_token.specs.Placed.{placed_at}
use Rattle.eon_token.specs.declared.token_kind.PlacedToken.{PlacedToken}

-- at the text's end, or where a character of a well-formed text begins
pub data Stands (s : List ℕ) (at : ℕ) : Type 0 where
  ended : at ≡ length s → Stands s at
  begins : is_utf8 s ≡ true → Boundary s at → Stands s at

-- nothing is read of a text that is not well-formed
unfoldable pub start_of : List ℕ → ℕ
start_of s = cond (is_utf8 s) 0 (length s)

abbrev pub end_token : List ℕ → PlacedToken
end_token s = record { kind = None; start = length s; end = length s }

unfoldable pub first_token : List ℕ → PlacedToken
first_token s = cond (is_utf8 s) (placed_at s 0) (end_token s)

abbrev pub second_token : List ℕ → PlacedToken
second_token s = placed_at s (first_token s).end

-- ---- counting

unfoldable pub first_invalid : List Token → Option Token
first_invalid [] = None
first_invalid (t ∷ ts) = elim (is_kind t.kind Invalid) [ true ↦ Some t | false ↦ first_invalid ts ]

-- "3 stray: invalid token; its span"; without one, the number n
abbrev pub stray_or : Option Token → ℕ → Outcome ℕ
stray_or None n = done n
stray_or (Some u) n = refused_with (refusal 3 (span_of u))

unfoldable pub counted : List Token → Outcome ℕ
counted ts = stray_or (first_invalid ts) (length ts)

-- how many tokens a text has, behind "1 overlong: text over 65,535 bytes; 65535, 65535" and "2 garbled: not UTF-8; twice the
-- length of its longest well-formed beginning"
unfoldable pub count_call : List ℕ → Outcome ℕ
count_call s = checked s λ t. counted (tokens t)
