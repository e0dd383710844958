-- The trees that are read back: what reading and layout ask of a tree without comments.
use Rattle.std.proofs.Common.{◌≡◌, ℕ, zero, suc, true, List, sym, ap, subst}
use Rattle.eon_spec.specs.Utf8.{chars}
use Rattle.eon_spec.specs.declared.token_kind.TokenKind.{TokenKind}
use Rattle.eon_spec.specs.declared.token_kind.TokenKind.TheVariants.{Identifier, Number}
use Rattle.eon_spec.specs.Token.{longest_rule, rules}
use Rattle.eon_laws.proofs.Word.{IsString, IsWord}
use Rattle.eon_round_trip.proofs.Plain.{Value, Values, Pairs, identifierᵛ, numberᵛ, stringᵛ, listᵛ, mapᵛ, variantᵛ, noneᵛ, ◌∷ᵛ◌, noneᵖ, pairᵖ, variant_fits}
use Rattle.eon_round_trip.proofs.Pieces.{string_kind}

pub record IsName (b : List ℕ) : Type 0 where
  pub string : IsString (string_kind b)
  pub is_word : IsWord (string_kind b) b

-- its leaves are tokens, its variants fit, and it holds no value inside more than m containers, itself counted
abbrev mutual
  pub Ready : ℕ → Value → Type 0
  Ready m (identifierᵛ b) = IsWord Identifier b
  Ready m (numberᵛ b) = IsWord Number b
  Ready m (stringᵛ b) = IsName b
  Ready m (listᵛ vs) = AllReady m vs
  Ready m (mapᵛ ps) = PairsReady m ps
  Ready m (variantᵛ b vs) = IsName b × (variant_fits vs ≡ true) × AllReady m vs

  pub AllReady : ℕ → Values → Type 0
  AllReady m noneᵛ = Unit {0}
  AllReady zero (v ∷ᵛ vs) = ⊥
  AllReady (suc m) (v ∷ᵛ vs) = Ready m v × AllReady (suc m) vs

  pub PairsReady : ℕ → Pairs → Type 0
  PairsReady m noneᵖ = Unit {0}
  PairsReady zero (pairᵖ x y ps) = ⊥
  PairsReady (suc m) (pairᵖ x y ps) = Ready m x × Ready m y × PairsReady (suc m) ps

-- a root map does not count
abbrev pub RootReady : Value → Type 0
RootReady (identifierᵛ b) = Ready 63 (identifierᵛ b)
RootReady (numberᵛ b) = Ready 63 (numberᵛ b)
RootReady (stringᵛ b) = Ready 63 (stringᵛ b)
RootReady (listᵛ vs) = Ready 63 (listᵛ vs)
RootReady (mapᵛ ps) = PairsReady 64 ps
RootReady (variantᵛ b vs) = Ready 63 (variantᵛ b vs)

-- a string's kind is that of its bytes
pub string_name : (k : TokenKind) (b : List ℕ) → IsString k → IsWord k b → IsName b
unfolding string_kind
string_name k b i w =
    let e : k ≡ (longest_rule rules (chars b)).0 = ap (λ (x : TokenKind × ℕ). x.0) (sym w.whole) in
    record { string = subst (λ (q : TokenKind). IsString q) e i; is_word = subst (λ (q : TokenKind). IsWord q b) e w }
