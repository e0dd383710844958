-- The tokens of a text (token_kind.rs; document 01, "Tokens"): the longest match of the printed rules; space, tab, line feed, form
-- feed and carriage return are skipped; an invalid token is one character.
use Rattle.std.specs.Prelude.{ℕ, zero, suc, ◌+◌, pred, Bool, true, false, ◌||◌, cond, List, [], ◌∷◌, length, take, drop, ltb, eqb, Option, None, Some}
-- the kinds of token_kind.rs in the enum's order, behind `Invalid` for what no rule matches
use Rattle.eon_spec.specs.declared.token_kind.TokenKind.{TokenKind}
use Rattle.eon_spec.specs.declared.token_kind.TokenKind.TheVariants.{Invalid, Comment, OpenList, CloseList, OpenBrace, CloseBrace, OpenParen, CloseParen, Colon, Comma, Identifier, Number, DoubleQuotedString, SingleQuotedString, MultilineBasicString, MultilineLiteralString}
use Rattle.eon_spec.specs.Base.{elem}
use Rattle.eon_spec.specs.Utf8.{Character, chars, joined, code_point}
use Rattle.eon_spec.specs.Regex.{Regex, ◌to◌, only, one_of, none_of, ◌then◌, ◌or◌, many, char, text, dot, longest}

-- document 01's numbers
abbrev pub kind_number : TokenKind → ℕ
kind_number Invalid = 0
kind_number Comment = 1
kind_number OpenList = 2
kind_number CloseList = 3
kind_number OpenBrace = 4
kind_number CloseBrace = 5
kind_number OpenParen = 6
kind_number CloseParen = 7
kind_number Colon = 8
kind_number Comma = 9
kind_number Identifier = 10
kind_number Number = 11
kind_number DoubleQuotedString = 12
kind_number SingleQuotedString = 13
kind_number MultilineBasicString = 14
kind_number MultilineLiteralString = 15

-- the two kinds are the same
abbrev pub is_kind : TokenKind → TokenKind → Bool
is_kind a b = eqb (kind_number a) (kind_number b)

-- a rule: a kind and its expression
pub data Rule : Type 0 where
  ◌is◌ : TokenKind → Regex → Rule

infix 50 ◌is◌
-- [^"] and [^']
abbrev pub not_quote : Regex
not_quote = none_of (only "\"" ∷ [])

abbrev pub not_apostrophe : Regex
not_apostrophe = none_of (only "'" ∷ [])

-- the printed rules; behind each the expression that token_kind.rs has
unfoldable pub rules : List Rule
rules =
    -- //[^\n]*
    (Comment is text "//" then many (none_of (only "\n" ∷ [])))
    ∷ (OpenList is char "[")
    ∷ (CloseList is char "]")
    ∷ (OpenBrace is char "{")
    ∷ (CloseBrace is char "}")
    ∷ (OpenParen is char "(")
    ∷ (CloseParen is char ")")
    ∷ (Colon is char ":")
    ∷ (Comma is char ",")
    -- [a-zA-Z_][a-zA-Z0-9_]*
    ∷ (Identifier is one_of ("a" to "z" ∷ "A" to "Z" ∷ only "_" ∷ []) then many (one_of ("a" to "z" ∷ "A" to "Z" ∷ "0" to "9" ∷ only "_" ∷ [])))
    -- [+\-0-9\.][0-9a-zA-Z\.+\-_]*
    ∷ (Number is one_of (only "+" ∷ only "-" ∷ "0" to "9" ∷ only "." ∷ []) then many (one_of ("0" to "9" ∷ "a" to "z" ∷ "A" to "Z" ∷ only "." ∷ only "+" ∷ only "-" ∷ only "_" ∷ [])))
    -- "([^"\\]|\\.)*"
    ∷ (DoubleQuotedString is char "\"" then many (none_of (only "\"" ∷ only "\\" ∷ []) or char "\\" then dot) then char "\"")
    -- '([^'])*'
    ∷ (SingleQuotedString is char "'" then many not_apostrophe then char "'")
    -- """([^"]|"[^"]|""[^"])*"""
    ∷ (MultilineBasicString is text "\"\"\"" then many (not_quote or char "\"" then not_quote or text "\"\"" then not_quote) then text "\"\"\"")
    -- '''([^']|'[^']|''[^'])*'''
    ∷ (MultilineLiteralString is text "'''" then many (not_apostrophe or char "'" then not_apostrophe or text "''" then not_apostrophe) then text "'''")
    ∷ []

-- [ \t\n\f\r], skipped between tokens
abbrev pub is_space : Character → Bool
is_space c = elem (code_point c) (32 ∷ 9 ∷ 10 ∷ 12 ∷ 13 ∷ [])

-- the longer of two matches: a kind and a number of characters
abbrev pub better : TokenKind → TokenKind × ℕ → ℕ → TokenKind × ℕ
better k found n = cond (ltb found.1 n) (k, n) found

-- the rule with the longest match, and the number of its characters; `Invalid` and 0 if no rule matches
unfoldable pub longest_rule : List Rule → List Character → TokenKind × ℕ
longest_rule [] cs = (Invalid, 0)
longest_rule ((k is r) ∷ rs) cs = better k (longest_rule rs cs) (longest r cs)

-- a token: its kind, its place in bytes and its bytes there
pub record Token : Type 0 where
  pub kind : TokenKind
  pub start : ℕ
  pub end : ℕ
  pub slice : List ℕ
  -- a line feed stands between the token before, or the text's start, and this one
  pub new_line : Bool

-- the token of n characters at a byte position
abbrev pub placed : TokenKind → ℕ → ℕ → Bool → List Character → Token
placed k n at nl cs =
    let s = joined (take n cs) in
    record { kind = k; start = at; end = at + length s; slice = s; new_line = nl }

-- the tokens of the characters from a byte position on, each with whether a line feed stands before it; `skip` characters are
-- still of the token before. `pred` and `suc` make an invalid token, of which the rules match 0 characters, one character.
unfoldable pub tokens_from : ℕ → ℕ → Bool → List Character → List Token
tokens_from skip at nl [] = []
tokens_from (suc k) at nl (c ∷ cs) = tokens_from k (at + length c) false cs
tokens_from zero at nl (c ∷ cs) =
    elim (is_space c) [
      | true ↦ tokens_from zero (at + 1) (nl || eqb (code_point c) 10) cs
      | false ↦
          let found = longest_rule rules (c ∷ cs) in
          let more = pred found.1 in
          placed found.0 (suc more) at nl (c ∷ cs) ∷ tokens_from more (at + length c) false cs
    ]

-- the tokens of a well-formed text
unfoldable pub tokens : List ℕ → List Token
tokens s = tokens_from 0 0 false (chars s)

-- the token call: the first token of a well-formed text from a byte position on, which begins a character
unfoldable pub token_from : List ℕ → ℕ → Option Token
token_from s at = first (tokens_from 0 at false (chars (drop at s)))
  where
    first : List Token → Option Token
    first [] = None
    first (t ∷ ts) = Some t
