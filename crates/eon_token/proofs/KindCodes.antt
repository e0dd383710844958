-- The kinds of tokens, and of the text's end, by their numbers.
use Rattle.std.proofs.Common.{◌≡◌, ℕ, ◌<◌, ◌≤◌, IsSome, Some, None, Option, sym, refl, ap, ◌∙◌, arith}
use Rattle.eon_spec.specs.declared.token_kind.TokenKind.{TokenKind}
use Rattle.eon_spec.specs.declared.token_kind.TokenKind.TheVariants.{Invalid, Comment, OpenList, CloseList, OpenBrace, CloseBrace, OpenParen, CloseParen, Colon, Comma, Identifier, Number, DoubleQuotedString, SingleQuotedString, MultilineBasicString, MultilineLiteralString}
use Rattle.eon_spec.specs.Token.{kind_number}
use Rattle.eon_token.specs.Placed.{code_of, kind_of, kind_in}
use Rattle.eon_token.proofs.Tests.{tabled, tabled_at}

pub kind_of_lem : (k : TokenKind) → kind_of (kind_number k) ≡ k
kind_of_lem Invalid = refl
kind_of_lem Comment = refl
kind_of_lem OpenList = refl
kind_of_lem CloseList = refl
kind_of_lem OpenBrace = refl
kind_of_lem CloseBrace = refl
kind_of_lem OpenParen = refl
kind_of_lem CloseParen = refl
kind_of_lem Colon = refl
kind_of_lem Comma = refl
kind_of_lem Identifier = refl
kind_of_lem Number = refl
kind_of_lem DoubleQuotedString = refl
kind_of_lem SingleQuotedString = refl
kind_of_lem MultilineBasicString = refl
kind_of_lem MultilineLiteralString = refl

pub kind_small : (k : TokenKind) → kind_number k < 16
kind_small Invalid = omega arith
kind_small Comment = omega arith
kind_small OpenList = omega arith
kind_small CloseList = omega arith
kind_small OpenBrace = omega arith
kind_small CloseBrace = omega arith
kind_small OpenParen = omega arith
kind_small CloseParen = omega arith
kind_small Colon = omega arith
kind_small Comma = omega arith
kind_small Identifier = omega arith
kind_small Number = omega arith
kind_small DoubleQuotedString = omega arith
kind_small SingleQuotedString = omega arith
kind_small MultilineBasicString = omega arith
kind_small MultilineLiteralString = omega arith

all_numbers : tabled 16 (λ n. kind_number (kind_of n)) ≡ tabled 16 (λ n. n)
all_numbers = refl

pub number_of : (n : ℕ) → n < 16 → kind_number (kind_of n) ≡ n
number_of n h = tabled_at 16 (λ k. kind_number (kind_of k)) (λ k. k) all_numbers n h

-- kinds with one number are one
pub kind_same : (j k : TokenKind) → kind_number j ≡ kind_number k → j ≡ k
kind_same j k e = sym (kind_of_lem j) ∙ ap kind_of e ∙ kind_of_lem k

-- what the code of a token's kind says of it, and the other way round
pub code_some : (o : Option TokenKind) (k : TokenKind) → o ≡ Some k → code_of o ≡ kind_number k
code_some o k e = ap code_of e

pub code_none : (o : Option TokenKind) → o ≡ None → code_of o ≡ 16
code_none o e = ap code_of e

pub not_both : (o : Option TokenKind) → o ≡ None → IsSome o → ⊥
not_both None e h = cc
not_both (Some k) e h = cc

pub code_le : (o : Option TokenKind) → code_of o ≤ 16
code_le None = omega arith
code_le (Some k) = omega (arith, kind_small k)

pub code_small : (o : Option TokenKind) → IsSome o → code_of o < 16
code_small None h = cc
code_small (Some k) h = kind_small k

pub code_in : (o : Option TokenKind) → IsSome o → kind_number (kind_in o) ≡ code_of o
code_in None h = cc
code_in (Some k) h = refl

pub there : (o : Option TokenKind) → code_of o < 16 → IsSome o
there None h = absurd (omega arith)
there (Some k) h = refl

pub is_end : (o : Option TokenKind) → code_of o ≡ 16 → o ≡ None
is_end None h = refl
is_end (Some k) h = absurd (omega (arith, kind_small k))
