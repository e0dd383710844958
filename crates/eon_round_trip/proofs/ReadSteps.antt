-- How the reader goes over the tokens of pieces, step by step.
use Rattle.std.proofs.Common.{◌≡◌, ℕ, zero, suc, ◌+◌, ◌<◌, Bool, true, false, ◌||◌, eqb, List, [], ◌∷◌, length, None, sym, refl, ◌∙◌, not-suc-le-zero}
use Rattle.std.proofs.lemmas.Bool.{or_parts}
use Rattle.eon_spec.specs.Base.{elem}
use Rattle.eon_spec.specs.declared.token_kind.TokenKind.{TokenKind}
use Rattle.eon_spec.specs.declared.token_kind.TokenKind.TheVariants.{Comment, OpenList, CloseList, OpenBrace, OpenParen, Comma}
use Rattle.eon_spec.specs.Token.{kind_number, is_kind, Token}
use Rattle.eon_spec.specs.Tree.{Span, TokenTree, TokenValue, TokenTrees, KeyValues, tree, quoted_string, list_of, map_of, variant_of, no_trees, ◌∷ᵗ◌, no_pairs, pair}
use Rattle.eon_spec.specs.Parse.{Cursor, behind, rest, Read, read, Reader, list_contents, map_contents, list_inside, map_inside, parse_comments, consume_token, string_or_variant, value_of, tree_behind, tree_with, at_end, after_comma, suffix_comment, next_is, skip, TokenList, TokenMap}
use Rattle.eon_laws.proofs.Parse.{Strict}
use Rattle.eon_round_trip.proofs.Plain.{Value, Values, Pairs, identifierᵛ, numberᵛ, stringᵛ, listᵛ, mapᵛ, variantᵛ, noneᵛ, ◌∷ᵛ◌, noneᵖ, pairᵖ, IsValue, is_string, is_list, is_map, is_variant, AreValues, are_none, are_more, ArePairs, are_no_pairs, are_more_pairs}
use Rattle.eon_round_trip.proofs.Pieces.{Piece, blank, word, placed_tokens, tabs, opening, closing, opening_brace, closing_brace, opening_paren, closing_paren, colon, comma, value_p}
use Rattle.eon_laws.proofs.Word.{IsString, double, single, basic, literal}
use Rattle.eon_round_trip.proofs.Ready.{Ready}

-- the kind of the first token; the text's end counts as a closing one
abbrev pub head_kind : List Piece → TokenKind
head_kind [] = CloseList
head_kind (blank b ∷ ps) = head_kind ps
head_kind (word k b ∷ ps) = k

abbrev pub ends : TokenKind → Bool
ends k = elem (kind_number k) (3 ∷ 5 ∷ 7 ∷ [])

pub comments_here : (k : List Piece) (at : ℕ) (nl : Bool) (l : Span) → is_kind (head_kind k) Comment ≡ false → parse_comments l (placed_tokens at nl k) ≡ ([], behind l (placed_tokens at nl k))
unfolding parse_comments
comments_here [] at nl l e = refl
comments_here (blank b ∷ ps) at nl l e = comments_here ps (at + 1) (nl || eqb b 10) l e
comments_here (word k b ∷ ps) at nl l e = rw (e, parse_comments)

pub suffix_here : (k : List Piece) (at : ℕ) (nl : Bool) (l : Span) → is_kind (head_kind k) Comment ≡ false → suffix_comment (behind l (placed_tokens at nl k)) ≡ (None, behind l (placed_tokens at nl k))
unfolding suffix_comment
suffix_here [] at nl l e = refl
suffix_here (blank b ∷ ps) at nl l e = suffix_here ps (at + 1) (nl || eqb b 10) l e
suffix_here (word k b ∷ ps) at nl l e = rw (e, suffix_comment)

pub at_end_here : (k : List Piece) (at : ℕ) (nl : Bool) (l : Span) → at_end (behind l (placed_tokens at nl k)) ≡ ends (head_kind k)
unfolding at_end
at_end_here [] at nl l = refl
at_end_here (blank b ∷ ps) at nl l = at_end_here ps (at + 1) (nl || eqb b 10) l
at_end_here (word k b ∷ ps) at nl l = refl

pub next_here : (k : List Piece) (at : ℕ) (nl : Bool) (l : Span) (q : TokenKind) → is_kind CloseList q ≡ false → next_is q (behind l (placed_tokens at nl k)) ≡ is_kind (head_kind k) q
unfolding next_is
next_here [] at nl l q e = sym e
next_here (blank b ∷ ps) at nl l q e = next_here ps (at + 1) (nl || eqb b 10) l q e
next_here (word k b ∷ ps) at nl l q e = refl

pub comma_none : (v : TokenTree) (k : List Piece) (at : ℕ) (nl : Bool) (l : Span) → is_kind (head_kind k) Comma ≡ false → after_comma v (behind l (placed_tokens at nl k)) ≡ (v, behind l (placed_tokens at nl k))
unfolding after_comma
comma_none v k at nl l e = rw (next_here k at nl l Comma refl ∙ e, after_comma)

abbrev pub comma_span : ℕ → Span
comma_span at = record { start = at; end = at + 1 }

pub comma_there : (s : Span) (v : TokenValue) (k : List Piece) (at : ℕ) (nl : Bool) (l : Span) → is_kind (head_kind k) Comment ≡ false
    → after_comma (tree s [] v None) (behind l (placed_tokens at nl (comma ∷ k))) ≡ (tree s [] v None, behind (comma_span at) (placed_tokens (at + 1) false k))
unfolding after_comma next_is skip
comma_there s v k at nl l e = rw (suffix_here k (at + 1) false (comma_span at) e)

-- a reader's answer is this value, and the pieces k are still to come
pub record Back (k : List Piece) (w : Value) (r : Read TokenTree) : Type 0 where
  pub place : Span
  pub val : TokenValue
  pub last : Span
  pub at : ℕ
  pub nl : Bool
  pub eq : r ≡ read (tree place [] val None) (behind last (placed_tokens at nl k))
  pub same : IsValue val w

pub record BackList (k : List Piece) (ws : Values) (r : Read TokenList) : Type 0 where
  pub vals : TokenTrees
  pub last : Span
  pub at : ℕ
  pub nl : Bool
  pub eq : r ≡ read (record { values = vals; closing = [] }) (behind last (placed_tokens at nl k))
  pub same : AreValues vals ws

pub record BackMap (k : List Piece) (ws : Pairs) (r : Read TokenMap) : Type 0 where
  pub vals : KeyValues
  pub last : Span
  pub at : ℕ
  pub nl : Bool
  pub eq : r ≡ read (record { key_values = vals; closing = [] }) (behind last (placed_tokens at nl k))
  pub same : ArePairs vals ws

-- what may stand behind a value, and behind an inside
pub record After (k : TokenKind) : Type 0 where
  pub no_comment : is_kind k Comment ≡ false
  pub no_paren : is_kind k OpenParen ≡ false

pub record Closes (k : TokenKind) : Type 0 where
  pub after : After k
  pub no_comma : is_kind k Comma ≡ false
  pub an_end : ends k ≡ true

-- what may stand at the start of a value
pub record Starts (k : TokenKind) : Type 0 where
  pub after : After k
  pub no_end : ends k ≡ false
  pub no_comma : is_kind k Comma ≡ false

abbrev pub unfit : TokenKind → Bool
unfit k = is_kind k Comment || (ends k || (is_kind k Comma || is_kind k OpenParen))

pub starts : {k : TokenKind} → unfit k ≡ false → Starts k
starts {k} e =
    let (c, r) = or_parts (is_kind k Comment) (ends k || (is_kind k Comma || is_kind k OpenParen)) e in
    let (n, q) = or_parts (ends k) (is_kind k Comma || is_kind k OpenParen) r in
    let (m, p) = or_parts (is_kind k Comma) (is_kind k OpenParen) q in
    record { after = record { no_comment = c; no_paren = p }; no_end = n; no_comma = m }

pub string_starts : {k : TokenKind} → IsString k → Starts k
string_starts double = starts refl
string_starts single = starts refl
string_starts basic = starts refl
string_starts literal = starts refl

pub value_starts : (v : Value) (m n : ℕ) (k : List Piece) → Ready m v → Starts (head_kind (value_p n v k))
unfolding value_p
value_starts (identifierᵛ b) m n k r = starts refl
value_starts (numberᵛ b) m n k r = starts refl
value_starts (stringᵛ b) m n k r = string_starts r.string
value_starts (listᵛ vs) m n k r = starts refl
value_starts (mapᵛ ps) m n k r = starts refl
value_starts (variantᵛ b vs) m n k r = string_starts r.0.string

pub tabs_head : (n : ℕ) (k : List Piece) → head_kind (tabs n k) ≡ head_kind k
tabs_head zero k = refl
tabs_head (suc n) k = tabs_head n k

-- an inside: its end, and one more value
module _ (value : Reader) where
  pub list_end : (k : List Piece) (fuel at : ℕ) (nl : Bool) (l : Span) → is_kind (head_kind k) Comment ≡ false → ends (head_kind k) ≡ true → 0 < fuel → BackList k noneᵛ (list_contents value fuel (behind l (placed_tokens at nl k)))
  unfolding list_contents
  list_end k zero at nl l e f h = absurd (not-suc-le-zero h)
  list_end k (suc fuel) at nl l e f h =
      record {
        vals = no_trees;
        last = l;
        at = at;
        nl = nl;
        eq = rw (comments_here k at nl l e, list_contents, at_end_here k at nl l ∙ f, comments_here k at nl l e);
        same = are_none;
      }

  pub list_item : (ps k1 k : List Piece) (fuel at : ℕ) (nl : Bool) (l : Span) (w : Value) (ws : Values) → Starts (head_kind ps) → is_kind (head_kind k1) Comma ≡ false
      → (b : Back k1 w (value (behind l (placed_tokens at nl ps)))) → BackList k ws (list_contents value fuel (behind b.last (placed_tokens b.at b.nl k1)))
      → BackList k (w ∷ᵛ ws) (list_contents value (suc fuel) (behind l (placed_tokens at nl ps)))
  unfolding list_contents
  list_item ps k1 k fuel at nl l w ws st nc b more =
      record {
        vals = tree b.place [] b.val None ∷ᵗ more.vals;
        last = more.last;
        at = more.at;
        nl = more.nl;
        eq = rw (comments_here ps at nl l st.after.no_comment, list_contents, at_end_here ps at nl l ∙ st.no_end, comments_here ps at nl l st.after.no_comment, b.eq, comma_none (tree b.place [] b.val None) k1 b.at b.nl b.last nc, more.eq);
        same = are_more b.same more.same;
      }

  pub list_comma : (ps k1 k : List Piece) (fuel at : ℕ) (nl : Bool) (l : Span) (w : Value) (ws : Values) → Starts (head_kind ps) → is_kind (head_kind k1) Comment ≡ false
      → (b : Back (comma ∷ k1) w (value (behind l (placed_tokens at nl ps)))) → BackList k ws (list_contents value fuel (behind (comma_span b.at) (placed_tokens (b.at + 1) false k1)))
      → BackList k (w ∷ᵛ ws) (list_contents value (suc fuel) (behind l (placed_tokens at nl ps)))
  unfolding list_contents
  list_comma ps k1 k fuel at nl l w ws st nc b more =
      record {
        vals = tree b.place [] b.val None ∷ᵗ more.vals;
        last = more.last;
        at = more.at;
        nl = more.nl;
        eq = rw (comments_here ps at nl l st.after.no_comment, list_contents, at_end_here ps at nl l ∙ st.no_end, comments_here ps at nl l st.after.no_comment, b.eq, comma_there b.place b.val k1 b.at b.nl b.last nc, more.eq);
        same = are_more b.same more.same;
      }

  pub map_end : (k : List Piece) (fuel at : ℕ) (nl : Bool) (l : Span) → is_kind (head_kind k) Comment ≡ false → ends (head_kind k) ≡ true → 0 < fuel → BackMap k noneᵖ (map_contents value fuel (behind l (placed_tokens at nl k)))
  unfolding map_contents
  map_end k zero at nl l e f h = absurd (not-suc-le-zero h)
  map_end k (suc fuel) at nl l e f h =
      record {
        vals = no_pairs;
        last = l;
        at = at;
        nl = nl;
        eq = rw (comments_here k at nl l e, map_contents, at_end_here k at nl l ∙ f, comments_here k at nl l e);
        same = are_no_pairs;
      }

  pub map_pair : (ps k1 k2 k : List Piece) (fuel at : ℕ) (nl : Bool) (l : Span) (x y : Value) (ws : Pairs) → Starts (head_kind ps) → is_kind (head_kind k2) Comma ≡ false
      → (b : Back (colon ∷ k1) x (value (behind l (placed_tokens at nl ps))))
      → (c : Back k2 y (value (behind (comma_span b.at) (placed_tokens (b.at + 1) false k1))))
      → BackMap k ws (map_contents value fuel (behind c.last (placed_tokens c.at c.nl k2)))
      → BackMap k (pairᵖ x y ws) (map_contents value (suc fuel) (behind l (placed_tokens at nl ps)))
  unfolding map_contents consume_token
  map_pair ps k1 k2 k fuel at nl l x y ws st nc b c more =
      record {
        vals = pair (tree b.place [] b.val None) (tree c.place [] c.val None) more.vals;
        last = more.last;
        at = more.at;
        nl = more.nl;
        eq = rw (comments_here ps at nl l st.after.no_comment, map_contents, at_end_here ps at nl l ∙ st.no_end, comments_here ps at nl l st.after.no_comment, b.eq, c.eq, comma_none (tree c.place [] c.val None) k2 c.at c.nl c.last nc, more.eq);
        same = are_more_pairs b.same c.same more.same;
      }

-- the tokens behind a value that is read are fewer
pub fewer : {A : Type 0} (n : ℕ) (a : A) (c : Cursor) (r : Read A) → r ≡ read a c → Strict n r → length (rest c) < n
fewer n a c r e s = rw e at s

-- a value from its first token on
module _ (len : ℕ) (inner : Reader) where
  pub from_word : (ps k : List Piece) (at a1 : ℕ) (nl n1 : Bool) (l s1 : Span) (q : TokenKind) (b : List ℕ) (v : TokenValue) (w : Value) → is_kind q Comment ≡ false → is_kind (head_kind k) Comment ≡ false
      → value_of inner q (record { kind = q; start = at; end = at + length b; slice = b; new_line = nl }) (behind (record { start = at; end = at + length b }) (placed_tokens (at + length b) false ps)) ≡ read v (behind s1 (placed_tokens a1 n1 k))
      → IsValue v w → Back k w (tree_with len inner (behind l (placed_tokens at nl (word q b ∷ ps))))
  unfolding tree_with tree_behind parse_comments
  from_word ps k at a1 nl n1 l s1 q b v w e f g same =
      record {
        place = record { start = at; end = s1.end };
        val = v;
        last = s1;
        at = a1;
        nl = n1;
        eq = rw (e, parse_comments, g, suffix_here k a1 n1 s1 f);
        same = same;
      }

  -- a list, given its inside; a map; a variant
  pub list_back : (ps k : List Piece) (at : ℕ) (nl : Bool) (l : Span) (ws : Values) → is_kind (head_kind k) Comment ≡ false
      → BackList (closing ∷ k) ws (list_inside inner (behind (comma_span at) (placed_tokens (at + 1) false ps)))
      → Back k (listᵛ ws) (tree_with len inner (behind l (placed_tokens at nl (opening ∷ ps))))
  unfolding value_of consume_token
  list_back ps k at nl l ws f r =
      from_word ps k at (r.at + 1) nl false l (comma_span r.at) OpenList (91 ∷ []) (list_of r.vals []) (listᵛ ws) refl f (rw r.eq) (is_list r.same)

  pub map_back : (ps k : List Piece) (at : ℕ) (nl : Bool) (l : Span) (ws : Pairs) → is_kind (head_kind k) Comment ≡ false
      → BackMap (closing_brace ∷ k) ws (map_inside inner (behind (comma_span at) (placed_tokens (at + 1) false ps)))
      → Back k (mapᵛ ws) (tree_with len inner (behind l (placed_tokens at nl (opening_brace ∷ ps))))
  unfolding value_of consume_token
  map_back ps k at nl l ws f r =
      from_word ps k at (r.at + 1) nl false l (comma_span r.at) OpenBrace (123 ∷ []) (map_of r.vals []) (mapᵛ ws) refl f (rw r.eq) (is_map r.same)

  -- the four string kinds are read alike
  pub string_of : {q : TokenKind} → IsString q → (t : Token) (c : Cursor) → value_of inner q t c ≡ string_or_variant inner t c
  unfolding value_of
  string_of double t c = refl
  string_of single t c = refl
  string_of basic t c = refl
  string_of literal t c = refl

  pub string_back : (k : List Piece) (at : ℕ) (nl : Bool) (l : Span) (q : TokenKind) (b : List ℕ) → IsString q → is_kind (head_kind k) Comment ≡ false → is_kind (head_kind k) OpenParen ≡ false
      → Back k (stringᵛ b) (tree_with len inner (behind l (placed_tokens at nl (word q b ∷ k))))
  unfolding string_or_variant
  string_back k at nl l q b s f g =
      from_word k k at (at + length b) nl false l (record { start = at; end = at + length b }) q b (quoted_string b) (stringᵛ b) (string_starts s).after.no_comment f
      (string_of s _ _ ∙ rw (next_here k (at + length b) false (record { start = at; end = at + length b }) OpenParen refl ∙ g, string_or_variant)) is_string

  pub variant_back : (ps k : List Piece) (at : ℕ) (nl : Bool) (l : Span) (q : TokenKind) (b : List ℕ) (ws : Values) → IsString q → is_kind (head_kind k) Comment ≡ false
      → BackList (closing_paren ∷ k) ws (list_inside inner (behind (comma_span (at + length b)) (placed_tokens (at + length b + 1) false ps)))
      → Back k (variantᵛ b ws) (tree_with len inner (behind l (placed_tokens at nl (word q b ∷ opening_paren ∷ ps))))
  unfolding string_or_variant consume_token next_is skip
  variant_back ps k at nl l q b ws s f r =
      from_word (opening_paren ∷ ps) k at (r.at + 1) nl false l (comma_span r.at) q b
      (variant_of (record { span = record { start = at; end = at + length b }; bytes = b }) r.vals []) (variantᵛ b ws) (string_starts s).after.no_comment f
      (string_of s _ _ ∙ rw r.eq) (is_variant refl r.same)

-- twice the number
abbrev pub twice : ℕ → ℕ
twice zero = zero
twice (suc m) = suc (suc (twice m))

-- tokens behind an indentation
pub shift : (n at : ℕ) (nl : Bool) (k : List Piece) → (a : ℕ) × (x : Bool) × (placed_tokens at nl (tabs n k) ≡ placed_tokens a x k)
shift zero at nl k = (at, nl, refl)
shift (suc n) at nl k = shift n (at + 1) (nl || eqb 9 10) k

pub untab : (n : ℕ) (k : List Piece) (ws : Values) (r : Read TokenList) → BackList (tabs n k) ws r → BackList k ws r
untab n k ws r b =
    let e = shift n b.at b.nl k in
    record { vals = b.vals; last = b.last; at = e.0; nl = e.1; eq = rw e.2 at b.eq; same = b.same }

pub untab_map : (n : ℕ) (k : List Piece) (ws : Pairs) (r : Read TokenMap) → BackMap (tabs n k) ws r → BackMap k ws r
untab_map n k ws r b =
    let e = shift n b.at b.nl k in
    record { vals = b.vals; last = b.last; at = e.0; nl = e.1; eq = rw e.2 at b.eq; same = b.same }
