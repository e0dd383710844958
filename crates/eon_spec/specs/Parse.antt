-- From tokens to a tree (parse.rs; document 01, "Reading the sheet"), with the refusals 3 to 13.
use Rattle.std.specs.Prelude.{ℕ, zero, suc, Bool, true, false, ◌&&◌, not, cond, List, [], ◌∷◌, ◌++◌, length, ltb, Option, None, Some}
use Rattle.eon_spec.specs.Refused.{Refusal}
use Rattle.eon_spec.specs.Base.{elem}
use Rattle.eon_spec.specs.declared.token_kind.TokenKind.{TokenKind}
use Rattle.eon_spec.specs.declared.token_kind.TokenKind.TheVariants.{Invalid, Comment, OpenList, CloseList, OpenBrace, CloseBrace, OpenParen, CloseParen, Colon, Comma, Identifier, Number, DoubleQuotedString, SingleQuotedString, MultilineBasicString, MultilineLiteralString}
use Rattle.eon_spec.specs.Token.{kind_number, is_kind, Token, tokens}
use Rattle.eon_spec.specs.Tree.{Span, Slice, TokenTree, TokenValue, TokenTrees, KeyValues, tree, identifier, number, quoted_string, list_of, map_of, variant_of, no_trees, ◌∷ᵗ◌, no_pairs, pair}

-- a refusal at a place; one of 11 and 12, with the expected and the found kind
abbrev pub refusal : ℕ → Span → Refusal
refusal n s = record { number = n; start = s.start; end = s.end; expected = 0; found = 0 }

abbrev pub mismatch : ℕ → Span → TokenKind → ℕ → Refusal
mismatch n s e f = record { number = n; start = s.start; end = s.end; expected = kind_number e; found = f }

-- the span of the last token consumed, and the tokens still to come (PeekableIter)
pub data Cursor : Type 0 where
  behind : Span → List Token → Cursor

abbrev pub last : Cursor → Span
last (behind l ts) = l

abbrev pub rest : Cursor → List Token
rest (behind l ts) = ts

abbrev pub span_of : Token → Span
span_of t = record { start = t.start; end = t.end }

abbrev pub slice_of : Token → Slice
slice_of t = record { span = span_of t; bytes = t.slice }

-- what a reader answers: a value and the cursor behind it, or a refusal and where the last token consumed ends
pub data Read (A : Type 0) : Type 0 where
  read : A → Cursor → Read A
  refused : Refusal → ℕ → Read A

abbrev pub bind : {A B : Type 0} → Read A → (A → Cursor → Read B) → Read B
bind (read a c) f = f a c
bind (refused r l) f = refused r l

-- refused at a token, which counts as consumed
abbrev pub refuse_at : {A : Type 0} → ℕ → Token → Read A
refuse_at n t = refused (refusal n (span_of t)) t.end

-- parse_comments: the comments here
unfoldable pub parse_comments : Span → List Token → List Slice × Cursor
parse_comments l [] = ([], behind l [])
parse_comments l (t ∷ ts) =
    elim (is_kind t.kind Comment) [
      | true ↦ let r = parse_comments (span_of t) ts in (slice_of t ∷ r.0, r.1)
      | false ↦ ([], behind l (t ∷ ts))
    ]

abbrev pub comments_at : Cursor → List Slice × Cursor
comments_at (behind l ts) = parse_comments l ts

-- parse_suffix_comment: a comment next, on the same line
unfoldable pub suffix_comment : Cursor → Option Slice × Cursor
suffix_comment (behind l []) = (None, behind l [])
suffix_comment (behind l (t ∷ ts)) =
    elim (is_kind t.kind Comment && not t.new_line) [
      | true ↦ (Some (slice_of t), behind (span_of t) ts)
      | false ↦ (None, behind l (t ∷ ts))
    ]

-- consume_token: 12 at the previous token where the text ends, 3 an invalid token, 11 a wrong one
unfoldable pub consume_token : TokenKind → Cursor → Read (Unit {0})
consume_token k (behind l []) = refused (mismatch 12 l k 0) l.end
consume_token k (behind l (t ∷ ts)) =
    elim (is_kind t.kind Invalid) [
      | true ↦ refuse_at 3 t
      | false ↦ elim (is_kind t.kind k) [
        | true ↦ read tt (behind (span_of t) ts)
        | false ↦ refused (mismatch 11 (span_of t) k (kind_number t.kind)) t.end
      ]
    ]

-- the next token is of this kind
unfoldable pub next_is : TokenKind → Cursor → Bool
next_is k (behind l []) = false
next_is k (behind l (t ∷ ts)) = is_kind t.kind k

-- an inside ends here: at a closing token or at the text's end
unfoldable pub at_end : Cursor → Bool
at_end (behind l []) = true
at_end (behind l (t ∷ ts)) = elem (kind_number t.kind) (3 ∷ 5 ∷ 7 ∷ [])

-- the cursor behind the next token
unfoldable pub skip : Cursor → Cursor
skip (behind l []) = behind l []
skip (behind l (t ∷ ts)) = behind (span_of t) ts

abbrev pub with_prefix : List Slice → TokenTree → TokenTree
with_prefix p (tree s q v x) = tree s (p ++ q) v x

abbrev pub with_suffix : Option Slice → TokenTree → TokenTree
with_suffix y (tree s q v x) = tree s q v y

-- one comma may follow a value; the suffix comment is then looked for anew, and replaces the earlier one, even by none
unfoldable pub after_comma : TokenTree → Cursor → TokenTree × Cursor
after_comma v c =
    elim (next_is Comma c) [
      | true ↦ let s = suffix_comment (skip c) in (with_suffix s.0 v, s.1)
      | false ↦ (v, c)
    ]

-- what stands between brackets: values or pairs, and closing comments
pub record TokenList : Type 0 where
  pub values : TokenTrees
  pub closing : List Slice

pub record TokenMap : Type 0 where
  pub key_values : KeyValues
  pub closing : List Slice

abbrev pub Reader : Type 0
Reader = Cursor → Read TokenTree

-- the answer where the fuel runs out, which is never met
abbrev pub no_fuel : {A : Type 0} → Cursor → Read A
no_fuel c = refused (refusal 0 (last c)) (last c).end

-- parse_list_contents: values up to a closing token, each read by `value`
unfoldable pub list_contents : Reader → ℕ → Cursor → Read TokenList
list_contents value zero c = no_fuel c
list_contents value (suc fuel) c =
    let p = comments_at c in
    elim (at_end p.1) [
      | true ↦ read (record { values = no_trees; closing = p.0 }) p.1
      | false ↦
          bind (value p.1) λ v c1.
          let vc = after_comma v c1 in
          bind (list_contents value fuel vc.1) λ l c2.
          read (record { values = with_prefix p.0 vc.0 ∷ᵗ l.values; closing = l.closing }) c2
    ]

-- parse_map_contents: keys and values up to a closing token
unfoldable pub map_contents : Reader → ℕ → Cursor → Read TokenMap
map_contents value zero c = no_fuel c
map_contents value (suc fuel) c =
    let p = comments_at c in
    elim (at_end p.1) [
      | true ↦ read (record { key_values = no_pairs; closing = p.0 }) p.1
      | false ↦
          bind (value p.1) λ k c1.
          bind (consume_token Colon c1) λ _ c2.
          bind (value c2) λ v c3.
          let vc = after_comma v c3 in
          bind (map_contents value fuel vc.1) λ m c4.
          read (record { key_values = pair (with_prefix p.0 k) vc.0 m.key_values; closing = m.closing }) c4
    ]

-- the inside of a container; each value takes a token, so the tokens left are fuel enough
unfoldable pub list_inside : Reader → Cursor → Read TokenList
list_inside value c = list_contents value (suc (length (rest c))) c

unfoldable pub map_inside : Reader → Cursor → Read TokenMap
map_inside value c = map_contents value (suc (length (rest c))) c

-- a string, or the name of a variant; `c` is behind it
unfoldable pub string_or_variant : Reader → Token → Cursor → Read TokenValue
string_or_variant inner t c =
    elim (next_is OpenParen c) [
      | true ↦
          bind (list_inside inner (skip c)) λ l c1.
          bind (consume_token CloseParen c1) λ _ c2.
          read (variant_of (slice_of t) l.values l.closing) c2
      | false ↦ read (quoted_string t.slice) c
    ]

-- the value that begins with the token t; `c` is behind it, and `inner` reads the values inside
unfoldable pub value_of : Reader → TokenKind → Token → Cursor → Read TokenValue
value_of inner Invalid t c = refuse_at 3 t
value_of inner Comment t c = refuse_at 0 t
value_of inner OpenList t c =
    bind (list_inside inner c) λ l c1. bind (consume_token CloseList c1) λ _ c2. read (list_of l.values l.closing) c2
value_of inner CloseList t c = refuse_at 6 t
value_of inner OpenBrace t c =
    bind (map_inside inner c) λ m c1. bind (consume_token CloseBrace c1) λ _ c2. read (map_of m.key_values m.closing) c2
value_of inner CloseBrace t c = refuse_at 7 t
value_of inner OpenParen t c = refuse_at 9 t
value_of inner CloseParen t c = refuse_at 8 t
value_of inner Colon t c = refuse_at 10 t
value_of inner Comma t c = refuse_at 10 t
value_of inner Identifier t c = read (identifier t.slice) c
value_of inner Number t c = read (number t.slice) c
value_of inner DoubleQuotedString t c = string_or_variant inner t c
value_of inner SingleQuotedString t c = string_or_variant inner t c
value_of inner MultilineBasicString t c = string_or_variant inner t c
value_of inner MultilineLiteralString t c = string_or_variant inner t c

module _ (len : ℕ) where
  -- parse_token_tree, behind its prefix comments p; `len` is the text's length
  unfoldable pub tree_behind : Reader → List Slice → Cursor → Read TokenTree
  tree_behind inner p (behind l []) = refused (refusal 5 (record { start = len; end = len })) l.end
  tree_behind inner p (behind l (t ∷ ts)) =
      bind (value_of inner t.kind t (behind (span_of t) ts)) λ v c1.
      let s = suffix_comment c1 in
      read (tree (record { start = t.start; end = (last c1).end }) p v s.0) s.1

  unfoldable pub tree_with : Reader → Cursor → Read TokenTree
  tree_with inner c = let p = comments_at c in tree_behind inner p.0 p.1

  -- 4, at the previous token
  abbrev pub too_deep : Reader
  too_deep c = refused (refusal 4 (last c)) (last c).end

  -- "A container's inside is at the container's depth + 1, each value in it one deeper": the remaining depth falls by one from a
  -- value to the inside that it holds, and by one from there to a value in it
  unfoldable mutual
    pub value_at : ℕ → Reader
    value_at zero = too_deep
    value_at (suc d) = tree_with (inside_at d)

    pub inside_at : ℕ → Reader
    inside_at zero = too_deep
    inside_at (suc d) = value_at d

abbrev pub MAX-RECURSION-DEPTH : ℕ
MAX-RECURSION-DEPTH = 128

-- what a whole text gives
pub data Parsed : Type 0 where
  parsed : TokenTree → Parsed
  refused_by : Refusal → Parsed

-- check_for_trailing_tokens: "one further token, always a closing one, gives 13" (eon_laws, InsideEnds)
unfoldable pub none_is_left : Cursor → TokenTree → Parsed
none_is_left (behind l []) t = parsed t
none_is_left (behind l (x ∷ xs)) t = refused_by (refusal 13 (span_of x))

-- one value is the tree, several are a list that spans the text
abbrev pub top_list : ℕ → TokenTrees → List Slice → TokenTree
top_list len no_trees cl = tree (record { start = 0; end = len }) [] (list_of no_trees cl) None
top_list len (t ∷ᵗ no_trees) cl = t
top_list len (t ∷ᵗ (u ∷ᵗ us)) cl = tree (record { start = 0; end = len }) [] (list_of (t ∷ᵗ (u ∷ᵗ us)) cl) None

-- both attempts fail: the second's refusal wins only if its last consumed token ends strictly later
abbrev pub further : Refusal → ℕ → Refusal → ℕ → Refusal
further ra la rb lb = cond (ltb la lb) rb ra

-- parse_top_str: the text read as the inside of a map and, if that fails, as the inside of a list
abbrev pub top_of : ℕ → Read TokenMap → Read TokenList → Parsed
top_of len (read m c) l = none_is_left c (tree (record { start = 0; end = len }) [] (map_of m.key_values m.closing) None)
top_of len (refused ra la) (read l c) = none_is_left c (top_list len l.values l.closing)
top_of len (refused ra la) (refused rb lb) = refused_by (further ra la rb lb)

unfoldable pub parse_top : ℕ → List Token → Parsed
parse_top len ts =
    let start : Cursor = behind (record { start = 0; end = 0 }) ts in
    let value = inside_at len MAX-RECURSION-DEPTH in
    top_of len (map_inside value start) (list_inside value start)

-- the tree of a well-formed text (parse_str)
unfoldable pub parse : List ℕ → Parsed
parse s = parse_top (length s) (tokens s)
