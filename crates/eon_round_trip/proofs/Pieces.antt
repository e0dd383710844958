-- A written text as words and blanks.
use Rattle.std.proofs.Common.{ℕ, zero, suc, ◌+◌, Bool, true, false, ◌||◌, eqb, List, [], ◌∷◌, ◌++◌, length}
use Rattle.eon_spec.specs.Utf8.{chars}
use Rattle.eon_spec.specs.declared.token_kind.TokenKind.{TokenKind}
use Rattle.eon_spec.specs.declared.token_kind.TokenKind.TheVariants.{OpenList, CloseList, OpenBrace, CloseBrace, OpenParen, CloseParen, Colon, Comma, Identifier, Number}
use Rattle.eon_spec.specs.Token.{Token, longest_rule, rules}
use Rattle.eon_round_trip.proofs.Plain.{Value, Values, Pairs, identifierᵛ, numberᵛ, stringᵛ, listᵛ, mapᵛ, variantᵛ, noneᵛ, ◌∷ᵛ◌, noneᵖ, pairᵖ, one_lineᵛ}

pub data Piece : Type 0 where
  -- a byte of white space
  blank : ℕ → Piece
  -- a token: its kind and bytes
  word : TokenKind → List ℕ → Piece

abbrev pub flatten : List Piece → List ℕ
flatten [] = []
flatten (blank b ∷ ps) = b ∷ flatten ps
flatten (word k b ∷ ps) = b ++ flatten ps

-- their tokens, from a byte position on
abbrev pub placed_tokens : ℕ → Bool → List Piece → List Token
placed_tokens at nl [] = []
placed_tokens at nl (blank b ∷ ps) = placed_tokens (at + 1) (nl || eqb b 10) ps
placed_tokens at nl (word k b ∷ ps) =
    record { kind = k; start = at; end = at + length b; slice = b; new_line = nl } ∷ placed_tokens (at + length b) false ps

-- the kind of a quoted string
unfoldable pub string_kind : List ℕ → TokenKind
string_kind b = (longest_rule rules (chars b)).0

-- indentation
abbrev pub tabs : ℕ → List Piece → List Piece
tabs zero k = k
tabs (suc n) k = blank 9 ∷ tabs n k

abbrev pub line_end : Piece
line_end = blank 10

abbrev pub opening : Piece
opening = word OpenList (91 ∷ [])

abbrev pub closing : Piece
closing = word CloseList (93 ∷ [])

abbrev pub opening_brace : Piece
opening_brace = word OpenBrace (123 ∷ [])

abbrev pub closing_brace : Piece
closing_brace = word CloseBrace (125 ∷ [])

abbrev pub opening_paren : Piece
opening_paren = word OpenParen (40 ∷ [])

abbrev pub closing_paren : Piece
closing_paren = word CloseParen (41 ∷ [])

abbrev pub colon : Piece
colon = word Colon (58 ∷ [])

abbrev pub comma : Piece
comma = word Comma (44 ∷ [])

-- the pieces of a value at an indentation, and of what holds it, before the pieces k
unfoldable mutual
  pub value_p : ℕ → Value → List Piece → List Piece
  value_p n (identifierᵛ b) k = word Identifier b ∷ k
  value_p n (numberᵛ b) k = word Number b ∷ k
  value_p n (stringᵛ b) k = word (string_kind b) b ∷ k
  value_p n (listᵛ vs) k =
      opening ∷ elim (one_lineᵛ vs) [
        | true ↦ one_line_p n vs (closing ∷ k)
        | false ↦ line_end ∷ lines_p (suc n) vs (tabs n (closing ∷ k))
      ]
  value_p n (mapᵛ ps) k = opening_brace ∷ inside_p n ps (closing_brace ∷ k)
  value_p n (variantᵛ b vs) k =
      word (string_kind b) b ∷ opening_paren ∷ elim (one_lineᵛ vs) [
        | true ↦ one_line_p n vs (closing_paren ∷ k)
        | false ↦ sole_p n vs (closing_paren ∷ k)
      ]

  -- values parted by commas
  pub one_line_p : ℕ → Values → List Piece → List Piece
  one_line_p n noneᵛ k = k
  one_line_p n (v ∷ᵛ vs) k = value_p n v (more_p n vs k)

  -- each behind a comma
  pub more_p : ℕ → Values → List Piece → List Piece
  more_p n noneᵛ k = k
  more_p n (v ∷ᵛ vs) k = comma ∷ blank 32 ∷ value_p n v (more_p n vs k)

  -- each value on a line
  pub lines_p : ℕ → Values → List Piece → List Piece
  lines_p n noneᵛ k = k
  lines_p n (v ∷ᵛ vs) k = tabs n (value_p n v (line_end ∷ lines_p n vs k))

  pub pairs_p : ℕ → Pairs → List Piece → List Piece
  pairs_p n noneᵖ k = k
  pairs_p n (pairᵖ x y ps) k = tabs n (value_p n x (colon ∷ blank 32 ∷ value_p n y (line_end ∷ pairs_p n ps k)))

  -- the inside of braces
  pub inside_p : ℕ → Pairs → List Piece → List Piece
  inside_p n noneᵖ k = k
  inside_p n (pairᵖ x y ps) k =
      line_end ∷ tabs (suc n) (value_p (suc n) x (colon ∷ blank 32 ∷ value_p (suc n) y (line_end ∷ pairs_p (suc n) ps (tabs n k))))

  -- one list or map, on lines
  pub sole_p : ℕ → Values → List Piece → List Piece
  sole_p n noneᵛ k = k
  sole_p n (v ∷ᵛ vs) k = shared_p n v k

  pub shared_p : ℕ → Value → List Piece → List Piece
  shared_p n (identifierᵛ b) k = k
  shared_p n (numberᵛ b) k = k
  shared_p n (stringᵛ b) k = k
  shared_p n (listᵛ vs) k = opening ∷ line_end ∷ lines_p (suc n) vs (tabs n (closing ∷ k))
  shared_p n (mapᵛ ps) k = opening_brace ∷ inside_p n ps (closing_brace ∷ k)
  shared_p n (variantᵛ b vs) k = k

-- a whole text: a root map goes without its braces
abbrev pub root_p : Value → List Piece
root_p (identifierᵛ b) = value_p 0 (identifierᵛ b) []
root_p (numberᵛ b) = value_p 0 (numberᵛ b) []
root_p (stringᵛ b) = value_p 0 (stringᵛ b) []
root_p (listᵛ vs) = value_p 0 (listᵛ vs) []
root_p (mapᵛ ps) = pairs_p 0 ps []
root_p (variantᵛ b vs) = value_p 0 (variantᵛ b vs) []
