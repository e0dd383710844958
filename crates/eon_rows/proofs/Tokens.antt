-- Document 01's "Tokens", by rows: kind, start and end of each token, 0 for an invalid one. The answers are the original's over the printed
-- rules.
use Rattle.std.proofs.Common.{◌≡◌, false, [], ◌∷◌, Some, None, refl}
use Rattle.eon_spec.specs.declared.token_kind.TokenKind.TheVariants.{Comma}
use Rattle.eon_spec.specs.Token.{token_from}
use Rattle.eon_rows.proofs.Computing.{tokens_of, bytes, ◌has_tokens◌}

-- ---- "Kinds 1 to 15 in the enum's order"

-- each kind once
all_kinds :
    "//c\n[]{}():,a 1\"b\"'c'\"\"\"d\"\"\"'''e'''" has_tokens 1 ∷ 0 ∷ 3 ∷ 2 ∷ 4 ∷ 5 ∷ 3 ∷ 5 ∷ 6 ∷ 4 ∷ 6 ∷ 7 ∷ 5 ∷ 7 ∷ 8 ∷ 6 ∷ 8 ∷ 9 ∷ 7 ∷ 9 ∷ 10
    ∷ 8 ∷ 10 ∷ 11 ∷ 9 ∷ 11 ∷ 12 ∷ 10 ∷ 12 ∷ 13 ∷ 11 ∷ 14 ∷ 15 ∷ 12 ∷ 15 ∷ 18 ∷ 13 ∷ 18 ∷ 21 ∷ 14 ∷ 21 ∷ 28 ∷ 15 ∷ 28 ∷ 35 ∷ []
unfolding tokens_of bytes
all_kinds = refl

-- ---- "Space, tab, line feed, form feed and carriage return are skipped"

-- all five
skipped : " \t\n\u{c}\ra" has_tokens 10 ∷ 5 ∷ 6 ∷ []
unfolding tokens_of bytes
skipped = refl

-- and no other: a vertical tab is an invalid token
vertical_tab : "a\u{b}b" has_tokens 10 ∷ 0 ∷ 1 ∷ 0 ∷ 1 ∷ 2 ∷ 10 ∷ 2 ∷ 3 ∷ []
unfolding tokens_of bytes
vertical_tab = refl

-- nor U+0085, which is White_Space
next_line : "\u{85}a" has_tokens 0 ∷ 0 ∷ 2 ∷ 10 ∷ 2 ∷ 3 ∷ []
unfolding tokens_of bytes
next_line = refl

-- nor a byte order mark: "an invalid token is one character", of three bytes here
byte_order_mark : "\u{feff}a" has_tokens 0 ∷ 0 ∷ 3 ∷ 10 ∷ 3 ∷ 4 ∷ []
unfolding tokens_of bytes
byte_order_mark = refl

-- ---- "the longest match of the printed rules"

-- an identifier is of letters, digits and underscores, and does not begin with a digit
letters : "_a9Zz a-b" has_tokens 10 ∷ 0 ∷ 5 ∷ 10 ∷ 6 ∷ 7 ∷ 11 ∷ 7 ∷ 9 ∷ []
unfolding tokens_of bytes
letters = refl

-- the bytes beside the letters and digits are in no identifier or number
above_the_letters : "@A[`z{/9:" has_tokens 0 ∷ 0 ∷ 1 ∷ 10 ∷ 1 ∷ 2 ∷ 2 ∷ 2 ∷ 3 ∷ 0 ∷ 3 ∷ 4 ∷ 10 ∷ 4 ∷ 5 ∷ 4 ∷ 5 ∷ 6 ∷ 0 ∷ 6 ∷ 7 ∷ 11 ∷ 7 ∷ 8 ∷ 8 ∷ 8 ∷ 9 ∷ []
unfolding tokens_of bytes
above_the_letters = refl

-- a number begins with a digit, a sign or a point, and goes on with letters too
numbers : "+1 -1 .5 9z_.+- 0xFF" has_tokens 11 ∷ 0 ∷ 2 ∷ 11 ∷ 3 ∷ 5 ∷ 11 ∷ 6 ∷ 8 ∷ 11 ∷ 9 ∷ 15 ∷ 11 ∷ 16 ∷ 20 ∷ []
unfolding tokens_of bytes
numbers = refl

-- a sign or a point alone is a number
sign_alone : "+ - ." has_tokens 11 ∷ 0 ∷ 1 ∷ 11 ∷ 2 ∷ 3 ∷ 11 ∷ 4 ∷ 5 ∷ []
unfolding tokens_of bytes
sign_alone = refl

-- a comment goes to the line feed, with carriage returns
comment_to_the_line_feed : "//a\r\nb" has_tokens 1 ∷ 0 ∷ 4 ∷ 10 ∷ 5 ∷ 6 ∷ []
unfolding tokens_of bytes
comment_to_the_line_feed = refl

-- one slash is no comment
slash_alone : "/ a" has_tokens 0 ∷ 0 ∷ 1 ∷ 10 ∷ 2 ∷ 3 ∷ []
unfolding tokens_of bytes
slash_alone = refl

-- a backslash takes the next character into a one-line string
escaped_quote : "\"a\\\"b\" c" has_tokens 12 ∷ 0 ∷ 6 ∷ 10 ∷ 7 ∷ 8 ∷ []
unfolding tokens_of bytes
escaped_quote = refl

-- also one of two bytes
escaped_letter : "\"\\é\"" has_tokens 12 ∷ 0 ∷ 5 ∷ []
unfolding tokens_of bytes
escaped_letter = refl

-- "`.` excludes line feed": no string here
escaped_line_feed : "\"\\\n\"" has_tokens 0 ∷ 0 ∷ 1 ∷ 0 ∷ 1 ∷ 2 ∷ 0 ∷ 3 ∷ 4 ∷ []
unfolding tokens_of bytes
escaped_line_feed = refl

-- "`[^"]` does not"
line_feed_in_string : "\"a\nb\"" has_tokens 12 ∷ 0 ∷ 5 ∷ []
unfolding tokens_of bytes
line_feed_in_string = refl

-- in a string of single quotes a backslash is a character
backslash_in_literal : "'\\' a" has_tokens 13 ∷ 0 ∷ 3 ∷ 10 ∷ 4 ∷ 5 ∷ []
unfolding tokens_of bytes
backslash_in_literal = refl

-- `[^']` takes a line feed too
line_feed_in_literal : "'\n' a" has_tokens 13 ∷ 0 ∷ 3 ∷ 10 ∷ 4 ∷ 5 ∷ []
unfolding tokens_of bytes
line_feed_in_literal = refl

-- an unclosed string is an invalid quote
unclosed : "\"a" has_tokens 0 ∷ 0 ∷ 1 ∷ 10 ∷ 1 ∷ 2 ∷ []
unfolding tokens_of bytes
unclosed = refl

-- "An unclosed `"""` is thus read as `""`"
unclosed_multiline : "\"\"\"a" has_tokens 12 ∷ 0 ∷ 2 ∷ 0 ∷ 2 ∷ 3 ∷ 10 ∷ 3 ∷ 4 ∷ []
unfolding tokens_of bytes
unclosed_multiline = refl

-- in a run of five it happens twice
unclosed_twice : "\"\"\"\"\"x\"" has_tokens 12 ∷ 0 ∷ 2 ∷ 12 ∷ 2 ∷ 4 ∷ 12 ∷ 4 ∷ 7 ∷ []
unfolding tokens_of bytes
unclosed_twice = refl

-- `'''` likewise
unclosed_literal : "'''a" has_tokens 13 ∷ 0 ∷ 2 ∷ 0 ∷ 2 ∷ 3 ∷ 10 ∷ 3 ∷ 4 ∷ []
unfolding tokens_of bytes
unclosed_literal = refl

-- two quotes in a row do not close three
two_quotes_inside : "\"\"\"a\"\"b\"c\"\"\"" has_tokens 14 ∷ 0 ∷ 12 ∷ []
unfolding tokens_of bytes
two_quotes_inside = refl

-- the first three do
first_three_close : "\"\"\"a\"\"\"\"" has_tokens 14 ∷ 0 ∷ 7 ∷ 0 ∷ 7 ∷ 8 ∷ []
unfolding tokens_of bytes
first_three_close = refl

-- six quotes are one string
empty_multiline : "\"\"\"\"\"\" ''''''" has_tokens 14 ∷ 0 ∷ 6 ∷ 15 ∷ 7 ∷ 13 ∷ []
unfolding tokens_of bytes
empty_multiline = refl

-- one and two single quotes do not close three
quotes_inside_literal : "'''a'b''c'''" has_tokens 15 ∷ 0 ∷ 12 ∷ []
unfolding tokens_of bytes
quotes_inside_literal = refl

-- "`[^"]` does not" exclude line feed in `"""` either
line_feed_in_three : "\"\"\"\n\"\"\"" has_tokens 14 ∷ 0 ∷ 7 ∷ []
unfolding tokens_of bytes
line_feed_in_three = refl

-- places are in bytes behind a string too
place_behind_two_bytes : "'é' a" has_tokens 13 ∷ 0 ∷ 4 ∷ 10 ∷ 5 ∷ 6 ∷ []
unfolding tokens_of bytes
place_behind_two_bytes = refl

-- the first three single quotes close: what follows is a token of its own
first_three_single_close : "'''a''''" has_tokens 15 ∷ 0 ∷ 7 ∷ 0 ∷ 7 ∷ 8 ∷ []
unfolding tokens_of bytes
first_three_single_close = refl

-- "`.` excludes line feed", and not carriage return
escaped_carriage_return : "\"\\\r\"" has_tokens 12 ∷ 0 ∷ 4 ∷ []
unfolding tokens_of bytes
escaped_carriage_return = refl

-- "`[^"]`" takes a carriage return in a one-line string too
carriage_return_in_string : "\"a\rb\"" has_tokens 12 ∷ 0 ∷ 5 ∷ []
unfolding tokens_of bytes
carriage_return_in_string = refl

-- the printed rules have no letters but `a-zA-Z`: "an invalid token is one character"
accented_letter : "é" has_tokens 0 ∷ 0 ∷ 2 ∷ []
unfolding tokens_of bytes
accented_letter = refl

-- a backslash hides no quote in `"""`: the three behind it close, though a fourth follows
backslash_before_four : "\"\"\"\\\"\"\"\"" has_tokens 14 ∷ 0 ∷ 7 ∷ 0 ∷ 7 ∷ 8 ∷ []
unfolding tokens_of bytes
backslash_before_four = refl

-- ---- "The token call": the first token from a position on, with its place in the whole text

token_from_a_position : token_from (bytes "ab ,c") 2 ≡ Some (record { kind = Comma; start = 3; end = 4; slice = bytes ","; new_line = false })
unfolding tokens_of token_from bytes
token_from_a_position = refl

no_token_behind_blanks : token_from (bytes "a ") 1 ≡ None
unfolding tokens_of token_from bytes
no_token_behind_blanks = refl
