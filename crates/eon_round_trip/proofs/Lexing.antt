-- The tokens of pieces in a row are their words.
use Rattle.std.proofs.Common.{◌≡◌, ℕ, suc, ◌+◌, Bool, false, ◌||◌, eqb, List, [], ◌∷◌, ◌++◌, length, sym, refl, ap, ◌∙◌, arith, length-append, take_at, drop_at}
use Rattle.eon_spec.specs.Utf8.{Character, chars, chars_from, char_len, joined, well_formed_len, well_formed_from}
use Rattle.eon_laws.proofs.Utf8.{chars_append, joined_is, well_formed_append}
use Rattle.eon_spec.specs.declared.token_kind.TokenKind.{TokenKind}
use Rattle.eon_spec.specs.Token.{Token, tokens_from, longest_rule, rules}
use Rattle.eon_laws.proofs.Checked.{good_text}
use Rattle.eon_laws.proofs.Token.{tokens_step}
use Rattle.eon_round_trip.proofs.Pieces.{Piece, blank, word, flatten, placed_tokens}
use Rattle.eon_laws.proofs.Word.{Begins, IsWord}

-- the white space that layout writes
pub data IsBlank : ℕ → Type 0 where
  tab : IsBlank 9
  line_feed : IsBlank 10
  space : IsBlank 32

-- each word is the longest token at its place
abbrev pub Good : List Piece → Type 0
Good [] = Unit {0}
Good (blank b ∷ ps) = IsBlank b × Good ps
Good (word k b ∷ ps) = IsWord k b × (longest_rule rules (chars b ++ chars (flatten ps)) ≡ (k, length (chars b))) × Good ps

word_step : (at : ℕ) (nl : Bool) (q : TokenKind) (cs t : List Character) (b : List ℕ) → Begins cs → joined cs ≡ b → longest_rule rules (cs ++ t) ≡ (q, length cs)
    → tokens_from 0 at nl (cs ++ t) ≡ record { kind = q; start = at; end = at + length b; slice = b; new_line = nl } ∷ tokens_from 0 (at + length b) false t
word_step at nl q [] t b h e f = absurd h
word_step at nl q (c ∷ cs) t b h e f =
    tokens_step at nl c (cs ++ t) (length cs) h (rw f)
    ∙ rw (f, take_at cs t _ refl, drop_at cs t _ refl, e)

chars_of_append : (b s : List ℕ) → well_formed_len b ≡ length b → chars (b ++ s) ≡ chars b ++ chars s
unfolding chars well_formed_len
chars_of_append b s e = chars_append 0 b s (omega arith) e

blank_step : {b : ℕ} → IsBlank b → (at : ℕ) (nl : Bool) (s : List ℕ) → tokens_from 0 at nl (chars (b ∷ s)) ≡ tokens_from 0 (at + 1) (nl || eqb b 10) (chars s)
unfolding tokens_from chars chars_from char_len
blank_step tab at nl s = refl
blank_step line_feed at nl s = refl
blank_step space at nl s = refl

no_tokens : (at : ℕ) (nl : Bool) → tokens_from 0 at nl (chars []) ≡ []
unfolding tokens_from chars chars_from
no_tokens at nl = refl

pub lex : (ps : List Piece) (at : ℕ) (nl : Bool) → Good ps → tokens_from 0 at nl (chars (flatten ps)) ≡ placed_tokens at nl ps
lex [] at nl g = no_tokens at nl
lex (blank b ∷ ps) at nl g = blank_step g.0 at nl (flatten ps) ∙ lex ps (at + 1) (nl || eqb b 10) g.1
lex (word k b ∷ ps) at nl g =
    ap (tokens_from 0 at nl) (chars_of_append b (flatten ps) g.0.well_formed)
    ∙ word_step at nl k (chars b) (chars (flatten ps)) b g.0.begins (joined_is b (good_text b _ refl g.0.well_formed)) g.1
    ∙ ap (λ (ts : List Token). record { kind = k; start = at; end = at + length b; slice = b; new_line = nl } ∷ ts) (lex ps (at + length b) false g.2)

-- and they are well-formed
blank_formed : {b : ℕ} → IsBlank b → (s : List ℕ) → well_formed_len s ≡ length s → well_formed_len (b ∷ s) ≡ suc (length s)
unfolding well_formed_len well_formed_from char_len
blank_formed tab s e = ap suc e
blank_formed line_feed s e = ap suc e
blank_formed space s e = ap suc e

formed_append : (a b : List ℕ) → well_formed_len a ≡ length a → well_formed_len b ≡ length b → well_formed_len (a ++ b) ≡ length (a ++ b)
unfolding well_formed_len
formed_append a b e f = well_formed_append 0 a b (omega arith) e f ∙ sym (length-append a b)

no_bytes : well_formed_len [] ≡ 0
unfolding well_formed_len well_formed_from
no_bytes = refl

pub well_formed : (ps : List Piece) → Good ps → well_formed_len (flatten ps) ≡ length (flatten ps)
well_formed [] g = no_bytes
well_formed (blank b ∷ ps) g = blank_formed g.0 (flatten ps) (well_formed ps g.1)
well_formed (word k b ∷ ps) g = formed_append b (flatten ps) g.0.well_formed (well_formed ps g.2)
