-- Some counts, computed by the definition.
use Rattle.std.proofs.Common.{◌≡◌, ℕ, List, [], ◌∷◌, replicate, refl}
use Rattle.eon_spec.specs.Utf8.{utf8, encode, encode_char, chars_from, chars, char_len, is_utf8, well_formed_len, well_formed_from}
use Rattle.eon_spec.specs.Regex.{deriv, longest}
use Rattle.eon_spec.specs.Token.{tokens, tokens_from, longest_rule, rules}
use Rattle.eon_spec.specs.Calls.{Outcome, done, refused_with, checked}
use Rattle.eon_reader.specs.Read.{first_invalid, counted, count_call}

abbrev brief : Outcome ℕ → List ℕ
brief (done n) = n ∷ []
brief (refused_with r) = r.number ∷ r.start ∷ r.end ∷ []

abbrev answers : List (List ℕ)
answers =
    brief (count_call (utf8 "a b"))
    -- white space and the end are no tokens
    ∷ brief (count_call (utf8 " \n"))
    -- too long; half a character, at the start and behind an invalid token
    ∷ brief (count_call (replicate 65536 32))
    ∷ brief (count_call (0xC3 ∷ []))
    ∷ brief (count_call (0x23 ∷ 0xC3 ∷ []))
    -- the first of two invalid tokens
    ∷ brief (count_call (utf8 "a # b #"))
    -- no end of three quotes: two of them, and an invalid one; in a run of five twice two
    ∷ brief (count_call (utf8 "\"\"\"a"))
    ∷ brief (count_call (utf8 "'''''a"))
    ∷ []

answers_are : answers ≡ (2 ∷ []) ∷ (0 ∷ []) ∷ (1 ∷ 65535 ∷ 65535 ∷ []) ∷ (2 ∷ 0 ∷ 0 ∷ []) ∷ (2 ∷ 1 ∷ 1 ∷ []) ∷ (3 ∷ 2 ∷ 3 ∷ []) ∷ (3 ∷ 2 ∷ 3 ∷ []) ∷ (3 ∷ 4 ∷ 5 ∷ []) ∷ []
unfolding utf8 encode encode_char chars_from chars char_len is_utf8 well_formed_len well_formed_from tokens tokens_from longest_rule rules deriv longest checked first_invalid counted count_call
answers_are = refl
