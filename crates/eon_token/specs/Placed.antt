-- The token call's answer, from the definition of tokens, and what it says of the token list.
use Rattle.std.specs.Prelude.{Bool, ◌||◌, List, [], ◌∷◌, ℕ, ◌-◌, length, take, drop, get_or, Option, None, Some}
use Rattle.eon_spec.specs.Base.{elem}
use Rattle.eon_spec.specs.Utf8.{chars}
use Rattle.eon_spec.specs.declared.token_kind.TokenKind.{TokenKind}
use Rattle.eon_spec.specs.declared.token_kind.TokenKind.TheVariants.{Invalid, Comment, OpenList, CloseList, OpenBrace, CloseBrace, OpenParen, CloseParen, Colon, Comma, Identifier, Number, DoubleQuotedString, SingleQuotedString, MultilineBasicString, MultilineLiteralString}
use Rattle.eon_spec.specs.Token.{Token, tokens_from, token_from, kind_number}
use Rattle.eon_token.specs.declared.token_kind.PlacedToken.{PlacedToken}

abbrev pub placed_token : List ℕ → Option Token → PlacedToken
placed_token s None = record { kind = None; start = length s; end = length s }
placed_token s (Some t) = record { kind = Some t.kind; start = t.start; end = t.end }

-- the first token from a byte on
unfoldable pub placed_at : List ℕ → ℕ → PlacedToken
placed_at s at = placed_token s (token_from s at)

-- the tokens from a byte on; nl says whether a line feed stands between the token before and that byte
abbrev pub tokens_at : List ℕ → ℕ → Bool → List Token
tokens_at s at nl = tokens_from 0 at nl (chars (drop at s))

-- the number of the kind of what stands somewhere, and 16 for the text's end
abbrev pub code_of : Option TokenKind → ℕ
code_of None = 16
code_of (Some k) = kind_number k

-- the kind with a number
abbrev pub kind_of : ℕ → TokenKind
kind_of n =
    get_or
    (Invalid ∷ Comment ∷ OpenList ∷ CloseList ∷ OpenBrace ∷ CloseBrace ∷ OpenParen ∷ CloseParen ∷ Colon ∷ Comma ∷ Identifier ∷ Number ∷ DoubleQuotedString ∷ SingleQuotedString ∷ MultilineBasicString ∷ MultilineLiteralString ∷ [])
    n Invalid

-- the kind of a token that is there
abbrev pub kind_in : Option TokenKind → TokenKind
kind_in None = Invalid
kind_in (Some k) = k

-- the token that the call's answer at a byte stands for
abbrev pub token_of : List ℕ → ℕ → Bool → PlacedToken → Token
token_of s at nl r = record {
  kind = kind_in r.kind;
  start = r.start;
  end = r.end;
  slice = take (r.end - r.start) (drop r.start s);
  new_line = nl || elem 10 (take (r.start - at) (drop at s));
}
