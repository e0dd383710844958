-- Some answers, computed by the definition.
use Rattle.std.proofs.Common.{◌≡◌, ℕ, List, [], ◌∷◌, refl}
use Rattle.eon_spec.specs.Utf8.{utf8, encode, encode_char, chars_from, chars, char_len}
use Rattle.eon_spec.specs.Regex.{deriv, longest}
use Rattle.eon_spec.specs.Token.{tokens_from, token_from, longest_rule, rules}
use Rattle.eon_token.specs.Placed.{placed_at, code_of}
use Rattle.eon_token.specs.declared.token_kind.PlacedToken.{PlacedToken}

abbrev brief : PlacedToken → List ℕ
brief r = code_of r.kind ∷ r.start ∷ r.end ∷ []

abbrev answers : List (List ℕ)
answers =
    brief (placed_at (utf8 "  a-b") 1)
    -- a comment ends before the line feed
    ∷ brief (placed_at (utf8 "x // é\ny") 1)
    -- no end of three quotes: two of them
    ∷ brief (placed_at (utf8 "\"\"\"a\" b") 0)
    ∷ brief (placed_at (utf8 "\"\"\"a\"\"\"\" b") 0)
    -- a backslash takes a character, and no line feed
    ∷ brief (placed_at (utf8 "\"\\é\" b") 0)
    ∷ brief (placed_at (utf8 "\"\\\n\" b") 0)
    -- an invalid token of three bytes; the end of the text
    ∷ brief (placed_at (utf8 "€ b") 0)
    ∷ brief (placed_at (utf8 "b \t\n") 1)
    ∷ []

answers_are : answers ≡ (10 ∷ 2 ∷ 3 ∷ []) ∷ (1 ∷ 2 ∷ 7 ∷ []) ∷ (12 ∷ 0 ∷ 2 ∷ []) ∷ (14 ∷ 0 ∷ 7 ∷ []) ∷ (12 ∷ 0 ∷ 5 ∷ []) ∷ (0 ∷ 0 ∷ 1 ∷ []) ∷ (0 ∷ 0 ∷ 3 ∷ []) ∷ (16 ∷ 4 ∷ 4 ∷ []) ∷ []
unfolding placed_at utf8 encode encode_char chars_from chars char_len tokens_from token_from longest_rule rules deriv longest
answers_are = refl
