-- Document 01's "Unquoting", a row for each sentence that a wrong reading would break: the value as it is shown behind unquoting, or
-- the refusal's number; and the identifier test. The values and numbers are the original's.
use Rattle.std.proofs.Common.{◌≡◌, ℕ, List, [], ◌∷◌, ◌++◌, map, replicate, refl}
use Rattle.eon_spec.specs.Utf8.{encode, encode_char}
use Rattle.eon_rows.proofs.Computing.{shows, ident, bytes, ◌unquotes_to◌, ◌is_no_string◌}

-- ---- the marks

-- 17 no opening quote
no_opening : "a" is_no_string 17
unfolding shows bytes
no_opening = refl

-- the empty text too
nothing : "" is_no_string 17
unfolding shows bytes
nothing = refl

-- single quotes, no escapes
literal : "'a\\n'" unquotes_to "a\\n"
unfolding shows bytes
literal = refl

-- double quotes
basic : "\"a\"" unquotes_to "a"
unfolding shows bytes
basic = refl

-- empty
empty_strings : "''" unquotes_to ""
unfolding shows bytes
empty_strings = refl

-- "Openings are tried in the order `'''`, `'`, `"""`, `"`"
three_first : "'''a'''" unquotes_to "a"
unfolding shows bytes
three_first = refl

-- so that `"""` is not `""` and `"`
three_quotes_first : "\"\"\"a\"\"\"" unquotes_to "a"
unfolding shows bytes
three_quotes_first = refl

-- "the rest must end in the same mark": the opening is not the closing one
one_quote : "'" is_no_string 18
unfolding shows bytes
one_quote = refl

-- nor is it with three
three_quotes : "'''" is_no_string 18
unfolding shows bytes
three_quotes = refl

-- nor a part of it
four_quotes : "''''" is_no_string 18
unfolding shows bytes
four_quotes = refl

-- two quotes do not close three
five_quotes : "\"\"\"\"\"" is_no_string 18
unfolding shows bytes
five_quotes = refl

-- three do
six_quotes : "\"\"\"\"\"\"" unquotes_to ""
unfolding shows bytes
six_quotes = refl

-- another mark does not
other_mark : "'a\"" is_no_string 18
unfolding shows bytes
other_mark = refl

-- nothing may follow
text_behind : "'a' " is_no_string 18
unfolding shows bytes
text_behind = refl

-- quotes inside are kept
quote_inside : "'a'b'" unquotes_to "a'b"
unfolding shows bytes
quote_inside = refl

-- "Only `'''` drops one leading line feed": one
line_feed_dropped : "'''\n\na'''" unquotes_to "\na"
unfolding shows bytes
line_feed_dropped = refl

-- `"""` keeps its own
line_feed_kept : "\"\"\"\na\"\"\"" unquotes_to "\na"
unfolding shows bytes
line_feed_kept = refl

-- a leading one only
line_feed_behind_blank : "''' \na'''" unquotes_to " \na"
unfolding shows bytes
line_feed_behind_blank = refl

-- "19 line break in a one-line string"
line_feed_one_line : "'a\nb'" is_no_string 19
unfolding shows bytes
line_feed_one_line = refl

-- also in double quotes,
line_feed_basic : "\"a\nb\"" is_no_string 19
unfolding shows bytes
line_feed_basic = refl

-- before the escapes are looked at
line_feed_before_escapes : "\"\\q\n\"" is_no_string 19
unfolding shows bytes
line_feed_before_escapes = refl

-- 18 comes before 19
closing_before_line_feed : "\"\na" is_no_string 18
unfolding shows bytes
closing_before_line_feed = refl

-- ---- "All carriage returns are removed first"

-- everywhere
carriage_returns : "'a\rb\r'" unquotes_to "ab"
unfolding shows bytes
carriage_returns = refl

-- in the marks too
carriage_return_in_a_mark : "'\r''a'''" unquotes_to "a"
unfolding shows bytes
carriage_return_in_a_mark = refl

-- behind the closing one
carriage_return_behind : "'a'\r" unquotes_to "a"
unfolding shows bytes
carriage_return_behind = refl

-- between a backslash and its character
carriage_return_in_an_escape : "\"\\\rn\"" unquotes_to "\n"
unfolding shows bytes
carriage_return_in_an_escape = refl

-- before the line feed that is dropped
carriage_return_before_the_line_feed : "'''\r\na'''" unquotes_to "a"
unfolding shows bytes
carriage_return_before_the_line_feed = refl

-- an escaped one is the value's
escaped_carriage_return : "\"\\r\"" unquotes_to "\r"
unfolding shows bytes
escaped_carriage_return = refl

-- ---- escapes

-- "blank, `"`, `/`, `'`, backslash, backtick and `$` give themselves; `a` gives byte 7, `b` 8, `e` and `E` 27, `f` 12, `n` 10, `r` 13,
-- `t` 9, `v` 11"
all_escapes : "\"\\ \\\"\\/\\'\\\\\\`\\$\\a\\b\\e\\E\\f\\n\\r\\t\\v\"" unquotes_to " \"/'\\`$\u{7}\u{8}\u{1b}\u{1b}\u{c}\n\r\t\u{b}"
unfolding shows bytes
all_escapes = refl

-- in `"""` too
escapes_in_three : "\"\"\"\\n\"\"\"" unquotes_to "\n"
unfolding shows bytes
escapes_in_three = refl

-- 21 unknown escape
unknown_escape : "\"\\0\"" is_no_string 21
unfolding shows bytes
unknown_escape = refl

-- letters are told apart
unknown_letter : "\"\\N\"" is_no_string 21
unfolding shows bytes
unknown_letter = refl

-- 20 ends in a backslash
ends_in_a_backslash : "\"\\\"" is_no_string 20
unfolding shows bytes
ends_in_a_backslash = refl

-- the second backslash is taken by the first
backslash_taken : "\"\\\\\"" unquotes_to "\\"
unfolding shows bytes
backslash_taken = refl

-- ---- "`\u{..}` gives the code point of its hexadecimal digits"

-- 22 `\u` without `{`
u_without_brace : "\"\\u41\"" is_no_string 22
unfolding shows bytes
u_without_brace = refl

-- also at the end
u_at_the_end : "\"\\u\"" is_no_string 22
unfolding shows bytes
u_at_the_end = refl

-- 25 `\u{..}` not closed
u_not_closed : "\"\\u{41\"" is_no_string 25
unfolding shows bytes
u_not_closed = refl

-- also without a digit
u_open_only : "\"\\u{\"" is_no_string 25
unfolding shows bytes
u_open_only = refl

-- 24 foreign character in `\u{..}`: behind f
u_foreign : "\"\\u{g}\"" is_no_string 24
unfolding shows bytes
u_foreign = refl

-- behind 9
u_foreign_digit : "\"\\u{4:}\"" is_no_string 24
unfolding shows bytes
u_foreign_digit = refl

-- behind F
u_foreign_capital : "\"\\u{G}\"" is_no_string 24
unfolding shows bytes
u_foreign_capital = refl

-- digits of both cases
u_upper_and_lower : shows (bytes "\"\\u{e9}\\u{E9}\\u{aF}\"") ≡ 0 ∷ 0xC3 ∷ 0xA9 ∷ 0xC3 ∷ 0xA9 ∷ 0xC2 ∷ 0xAF ∷ []
unfolding shows bytes
u_upper_and_lower = refl

-- none is 0
u_no_digit : "\"\\u{}\"" unquotes_to "\0"
unfolding shows bytes
u_no_digit = refl

-- "Underscores in `\u{..}` count as no digit"
u_underscore : "\"\\u{_4_1_}\"" unquotes_to "A"
unfolding shows bytes
u_underscore = refl

-- the eighth digit is read,
u_eight_digits : "\"\\u{00000041}\"" unquotes_to "A"
unfolding shows bytes
u_eight_digits = refl

-- 23 ninth hex digit,
u_ninth_digit : "\"\\u{000000041}\"" is_no_string 23
unfolding shows bytes
u_ninth_digit = refl

-- before 25,
u_ninth_before_closed : "\"\\u{000000041\"" is_no_string 23
unfolding shows bytes
u_ninth_before_closed = refl

-- and before 26
u_ninth_before_scalar : "\"\\u{FFFFFFFFF}\"" is_no_string 23
unfolding shows bytes
u_ninth_before_scalar = refl

-- 10FFFF
u_last_scalar : shows (bytes "\"\\u{10FFFF}\"") ≡ 0 ∷ 0xF4 ∷ 0x8F ∷ 0xBF ∷ 0xBF ∷ []
unfolding shows bytes
u_last_scalar = refl

-- 26 not a Unicode scalar value: beyond it
u_beyond : "\"\\u{110000}\"" is_no_string 26
unfolding shows bytes
u_beyond = refl

-- D7FF
u_before_surrogates : shows (bytes "\"\\u{D7FF}\"") ≡ 0 ∷ 0xED ∷ 0x9F ∷ 0xBF ∷ []
unfolding shows bytes
u_before_surrogates = refl

-- 26 for surrogates, from D800
u_first_surrogate : "\"\\u{D800}\"" is_no_string 26
unfolding shows bytes
u_first_surrogate = refl

-- to DFFF
u_last_surrogate : "\"\\u{DFFF}\"" is_no_string 26
unfolding shows bytes
u_last_surrogate = refl

-- E000
u_behind_surrogates : shows (bytes "\"\\u{E000}\"") ≡ 0 ∷ 0xEE ∷ 0x80 ∷ 0x80 ∷ []
unfolding shows bytes
u_behind_surrogates = refl

-- code points of one to four bytes at their edges
u_lengths : shows (bytes "\"\\u{7F}\\u{80}\\u{7FF}\\u{800}\\u{FFFF}\\u{10000}\"") ≡ 0 ∷ 0x7F ∷ 0xC2 ∷ 0x80 ∷ 0xDF ∷ 0xBF ∷ 0xE0 ∷ 0xA0 ∷ 0x80 ∷ 0xEF ∷ 0xBF ∷ 0xBF ∷ 0xF0 ∷ 0x90 ∷ 0x80 ∷ 0x80 ∷ []
unfolding shows bytes
u_lengths = refl

-- ---- "A backslash before a line feed swallows all following Unicode White_Space (25 code points, a table)"

-- the characters, each behind an escaped line feed of its own
abbrev swallowing : List ℕ → List ℕ
swallowing [] = []
swallowing (c ∷ cs) = 92 ∷ 10 ∷ encode_char c ++ swallowing cs

-- all of them are swallowed
white_space_lem :
    shows (bytes "\"\"\"\\\n" ++ encode (0x09 ∷ 0x0A ∷ 0x0B ∷ 0x0C ∷ 0x0D ∷ 0x20 ∷ 0x85 ∷ 0xA0 ∷ 0x1680 ∷ 0x2000 ∷ 0x2001 ∷ 0x2002 ∷ 0x2003
    ∷ 0x2004 ∷ 0x2005 ∷ 0x2006 ∷ 0x2007 ∷ 0x2008 ∷ 0x2009 ∷ 0x200A ∷ 0x2028 ∷ 0x2029 ∷ 0x202F ∷ 0x205F ∷ 0x3000 ∷ []) ++ bytes "x\"\"\"") ≡ 0
    ∷ bytes "x"
unfolding shows bytes
white_space_lem = refl

-- and nothing beside them: the code points before and behind each range, U+180E and U+FEFF
beside : List ℕ
beside = 0x08 ∷ 0x0E ∷ 0x1F ∷ 0x21 ∷ 0x84 ∷ 0x86 ∷ 0x9F ∷ 0xA1 ∷ 0x167F ∷ 0x1681 ∷ 0x180E ∷ 0x1FFF ∷ 0x200B ∷ 0x2027 ∷ 0x202A ∷ 0x202E ∷ 0x2030 ∷ 0x205E ∷ 0x2060 ∷ 0x2FFF ∷ 0x3001 ∷ 0xFEFF ∷ []

beside_white_space : shows (bytes "\"\"\"" ++ swallowing beside ++ bytes "\"\"\"") ≡ 0 ∷ encode beside
unfolding shows bytes beside
beside_white_space = refl

-- up to the end
swallows_to_the_end : "\"\"\"a\\\n  \"\"\"" unquotes_to "a"
unfolding shows bytes
swallows_to_the_end = refl

-- an escape behind it is one
escape_behind_white_space : "\"\"\"\\\n \\n\"\"\"" unquotes_to "\n"
unfolding shows bytes
escape_behind_white_space = refl

-- a line feed without a backslash is the value's
line_feed_behind_blank_kept : "\"\"\"a\n b\"\"\"" unquotes_to "a\n b"
unfolding shows bytes
line_feed_behind_blank_kept = refl

-- a backslash and a blank are a blank
backslash_blank_line_feed : "\"\"\"\\ \n\"\"\"" unquotes_to " \n"
unfolding shows bytes
backslash_blank_line_feed = refl

-- ---- refusals as met

-- the first fault is told
first_fault : "\"\\q\\u\"" is_no_string 21
unfolding shows bytes
first_fault = refl

-- whatever its number
first_fault_2 : "\"\\u{110000}\\q\"" is_no_string 26
unfolding shows bytes
first_fault_2 = refl

-- ---- "The identifier test says yes exactly for `[a-zA-Z_][a-zA-Z0-9_]*` other than `true`, `false` and `null`; it never refuses"

-- names: an underscore alone, the edges of the letters and digits, and what is no keyword by one character
identifiers : map ident (bytes "_" ∷ bytes "azAZ_09" ∷ bytes "True" ∷ bytes "true1" ∷ bytes "nul" ∷ []) ≡ replicate 5 (0 ∷ 1 ∷ [])
unfolding ident bytes
identifiers = refl

-- the keywords, the empty text, a digit first
keywords : map ident (bytes "true" ∷ bytes "false" ∷ bytes "null" ∷ bytes "" ∷ bytes "1a" ∷ []) ≡ replicate 5 (0 ∷ 0 ∷ [])
unfolding ident bytes
keywords = refl

-- the characters beside the letters and digits
beside_letters : map ident (bytes "a@" ∷ bytes "a[" ∷ bytes "a`" ∷ bytes "a{" ∷ bytes "a/" ∷ bytes "a:" ∷ bytes "a-b" ∷ []) ≡ replicate 7 (0 ∷ 0 ∷ [])
unfolding ident bytes
beside_letters = refl

-- a letter of two bytes, and bytes that are no text
no_ascii : map ident (bytes "é" ∷ (97 ∷ 0xC3 ∷ []) ∷ []) ≡ replicate 2 (0 ∷ 0 ∷ [])
unfolding ident bytes
no_ascii = refl

-- ---- digits and characters at their edges

-- "its hexadecimal digits": the last small and the first capital letter
u_small_f_capital_a : shows (bytes "\"\\u{fA}\"") ≡ 0 ∷ 0xC3 ∷ 0xBA ∷ []
unfolding shows bytes
u_small_f_capital_a = refl

-- 24: the characters before 0, A and a
u_foreign_before : map shows (bytes "\"\\u{/}\"" ∷ bytes "\"\\u{@}\"" ∷ bytes "\"\\u{`}\"" ∷ []) ≡ replicate 3 (24 ∷ 0 ∷ 0 ∷ 0 ∷ 0 ∷ [])
unfolding shows bytes
u_foreign_before = refl

-- a code point with the sixth bit of its second byte of four
u_20000 : shows (bytes "\"\\u{20000}\"") ≡ 0 ∷ 0xF0 ∷ 0xA0 ∷ 0x80 ∷ 0x80 ∷ []
unfolding shows bytes
u_20000 = refl

-- a character of four bytes beside an escape stays as it is
four_bytes_kept : shows (bytes "\"" ++ (0xF0 ∷ 0x9F ∷ 0x98 ∷ 0x80 ∷ []) ++ bytes "\\n\"") ≡ 0 ∷ 0xF0 ∷ 0x9F ∷ 0x98 ∷ 0x80 ∷ 10 ∷ []
unfolding shows bytes
four_bytes_kept = refl

-- "Underscores in `\u{..}` count as no digit": among eight digits there is no ninth
u_underscore_among_eight : "\"\\u{0000_0041}\"" unquotes_to "A"
unfolding shows bytes
u_underscore_among_eight = refl

-- "21 unknown escape": a capital U is one
capital_u : "\"\\U{41}\"" is_no_string 21
unfolding shows bytes
capital_u = refl
