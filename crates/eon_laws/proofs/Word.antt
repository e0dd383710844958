-- Bytes that are one whole token.
use Rattle.std.proofs.Common.{◌≡◌, ℕ, false, List, [], ◌∷◌, length}
use Rattle.eon_spec.specs.Utf8.{Character, chars, well_formed_len}
use Rattle.eon_spec.specs.declared.token_kind.TokenKind.{TokenKind}
use Rattle.eon_spec.specs.declared.token_kind.TokenKind.TheVariants.{DoubleQuotedString, SingleQuotedString, MultilineBasicString, MultilineLiteralString}
use Rattle.eon_spec.specs.Token.{longest_rule, rules, is_space}

pub data IsString : TokenKind → Type 0 where
  double : IsString DoubleQuotedString
  single : IsString SingleQuotedString
  basic : IsString MultilineBasicString
  literal : IsString MultilineLiteralString

-- the characters begin with one that is no white space
abbrev pub Begins : List Character → Type 0
Begins [] = ⊥
Begins (c ∷ cs) = is_space c ≡ false

-- the bytes are one token of this kind
pub record IsWord (k : TokenKind) (b : List ℕ) : Type 0 where
  pub well_formed : well_formed_len b ≡ length b
  pub begins : Begins (chars b)
  pub whole : longest_rule rules (chars b) ≡ (k, length (chars b))
