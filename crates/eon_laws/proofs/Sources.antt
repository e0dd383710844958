-- Each leaf of a tree that is read is a token of the text.
use Rattle.std.proofs.Common.{◌≡◌, ℕ, zero, suc, Bool, true, false, not, ◌&&◌, List, [], ◌∷◌, length, Option, refl, subst}
use Rattle.eon_spec.specs.declared.token_kind.TokenKind.{TokenKind}
use Rattle.eon_spec.specs.declared.token_kind.TokenKind.TheVariants.{Invalid, Comment, OpenList, CloseList, OpenBrace, CloseBrace, OpenParen, CloseParen, Colon, Comma, Identifier, Number, DoubleQuotedString, SingleQuotedString, MultilineBasicString, MultilineLiteralString}
use Rattle.eon_spec.specs.Token.{is_kind, Token}
use Rattle.eon_spec.specs.Tree.{Span, Slice, TokenTree, TokenValue, TokenTrees, KeyValues, tree, identifier, number, quoted_string, list_of, map_of, variant_of, no_trees, ◌∷ᵗ◌, no_pairs, pair}
use Rattle.eon_spec.specs.Parse.{Cursor, behind, rest, last, Read, read, refused, Reader, bind, list_contents, map_contents, list_inside, map_inside, comments_at, parse_comments, consume_token, string_or_variant, value_of, tree_behind, tree_with, value_at, inside_at, at_end, after_comma, suffix_comment, next_is, skip, span_of, with_prefix, with_suffix, TokenList, TokenMap, Parsed, parsed, refused_by, none_is_left, top_of, top_list, parse_top}
use Rattle.eon_laws.proofs.Word.{IsString, double, single, basic, literal}

-- `Leaf` holds of each token: its kind, start, end and bytes
module _ (Leaf : TokenKind → ℕ → ℕ → List ℕ → Type 0) where
  abbrev pub AllTokens : List Token → Type 0
  AllTokens [] = Unit {0}
  AllTokens (t ∷ ts) = Leaf t.kind t.start t.end t.slice × AllTokens ts

  abbrev pub StringLeaf : ℕ → ℕ → List ℕ → Type 0
  StringLeaf s e b = (k : TokenKind) × IsString k × Leaf k s e b

  abbrev mutual
    pub TreeLeaves : TokenTree → Type 0
    TreeLeaves (tree s p v x) = Leaves v s

    pub Leaves : TokenValue → Span → Type 0
    Leaves (identifier b) s = Leaf Identifier s.start s.end b
    Leaves (number b) s = Leaf Number s.start s.end b
    Leaves (quoted_string b) s = StringLeaf s.start s.end b
    Leaves (list_of vs cl) s = AllLeaves vs
    Leaves (map_of kvs cl) s = PairsLeaves kvs
    Leaves (variant_of n vs cl) s = StringLeaf s.start n.span.end n.bytes × AllLeaves vs

    pub AllLeaves : TokenTrees → Type 0
    AllLeaves no_trees = Unit {0}
    AllLeaves (t ∷ᵗ ts) = TreeLeaves t × AllLeaves ts

    pub PairsLeaves : KeyValues → Type 0
    PairsLeaves no_pairs = Unit {0}
    PairsLeaves (pair k v kvs) = TreeLeaves k × TreeLeaves v × PairsLeaves kvs

  -- an answer of which Q holds, with tokens left of which Leaf holds
  abbrev Ok : {A : Type 0} → (A → Cursor → Type 0) → Read A → Type 0
  Ok Q (read a c) = Q a c × AllTokens (rest c)
  Ok Q (refused r l) = Unit {0}

  bind_ok : {A B : Type 0} (Q : A → Cursor → Type 0) (R : B → Cursor → Type 0) (r : Read A) (f : A → Cursor → Read B) → Ok Q r → ((a : A) (c : Cursor) → Q a c → AllTokens (rest c) → Ok R (f a c)) → Ok R (bind r f)
  bind_ok Q R (read a c) f o h = h a c o.0 o.1
  bind_ok Q R (refused r l) f o h = tt

  comments_ok : (s : Span) (ts : List Token) → AllTokens ts → AllTokens (rest (parse_comments s ts).1)
  unfolding parse_comments
  comments_ok s [] a = tt
  comments_ok s (t ∷ ts) a = go (is_kind t.kind Comment) refl (comments_ok (span_of t) ts a.1)
    where
      go : (b : Bool) → is_kind t.kind Comment ≡ b → AllTokens (rest (parse_comments (span_of t) ts).1) → AllTokens (rest (parse_comments s (t ∷ ts)).1)
      go true e h = rw (e, parse_comments) h
      go false e h = rw (e, parse_comments) a

  comments_at_ok : (c : Cursor) → AllTokens (rest c) → AllTokens (rest (comments_at c).1)
  comments_at_ok (behind l ts) a = comments_ok l ts a

  suffix_ok : (c : Cursor) → AllTokens (rest c) → AllTokens (rest (suffix_comment c).1)
  unfolding suffix_comment
  suffix_ok (behind l []) a = tt
  suffix_ok (behind l (t ∷ ts)) a = go (is_kind t.kind Comment && not t.new_line) refl
    where
      go : (b : Bool) → is_kind t.kind Comment && not t.new_line ≡ b → AllTokens (rest (suffix_comment (behind l (t ∷ ts))).1)
      go true e = rw (e, suffix_comment) a.1
      go false e = rw (e, suffix_comment) a

  skip_ok : (c : Cursor) → AllTokens (rest c) → AllTokens (rest (skip c))
  unfolding skip
  skip_ok (behind l []) a = tt
  skip_ok (behind l (t ∷ ts)) a = a.1

  prefix_leaves : (p : List Slice) (v : TokenTree) → TreeLeaves v → TreeLeaves (with_prefix p v)
  prefix_leaves p (tree s q v x) h = h

  suffix_leaves : (y : Option Slice) (v : TokenTree) → TreeLeaves v → TreeLeaves (with_suffix y v)
  suffix_leaves y (tree s q v x) h = h

  comma_ok : (v : TokenTree) (c : Cursor) → TreeLeaves v → AllTokens (rest c) → TreeLeaves (after_comma v c).0 × AllTokens (rest (after_comma v c).1)
  unfolding after_comma
  comma_ok v c h a = go (next_is Comma c) refl
    where
      go : (b : Bool) → next_is Comma c ≡ b → TreeLeaves (after_comma v c).0 × AllTokens (rest (after_comma v c).1)
      go true e = rw (e, after_comma) (suffix_leaves (suffix_comment (skip c)).0 v h, suffix_ok (skip c) (skip_ok c a))
      go false e = rw (e, after_comma) (h, a)

  consume_ok : (k : TokenKind) (c : Cursor) → AllTokens (rest c) → Ok (λ u c. Unit {0}) (consume_token k c)
  unfolding consume_token
  consume_ok k (behind l []) a = tt
  consume_ok k (behind l (t ∷ ts)) a = go (is_kind t.kind Invalid) (is_kind t.kind k) refl refl
    where
      go : (x y : Bool) → is_kind t.kind Invalid ≡ x → is_kind t.kind k ≡ y → Ok (λ u c. Unit {0}) (consume_token k (behind l (t ∷ ts)))
      go true y e f = rw (e, consume_token) tt
      go false true e f = rw (e, consume_token, f) (tt, a.1)
      go false false e f = rw (e, consume_token, f) tt

  abbrev OkReader : Reader → Type 0
  OkReader value = (c : Cursor) → AllTokens (rest c) → Ok (λ t c. TreeLeaves t) (value c)

  abbrev ListLeaves : TokenList → Cursor → Type 0
  ListLeaves l c = AllLeaves l.values

  abbrev MapLeaves : TokenMap → Cursor → Type 0
  MapLeaves m c = PairsLeaves m.key_values

  module _ (value : Reader) (pr : OkReader value) where
    list_ok : (f : ℕ) (c : Cursor) → AllTokens (rest c) → Ok ListLeaves (list_contents value f c)
    unfolding list_contents
    list_ok zero c a = tt
    list_ok (suc f) c a = go (at_end (comments_at c).1) refl (list_ok f)
      where
        go : (b : Bool) → at_end (comments_at c).1 ≡ b → ((d : Cursor) → AllTokens (rest d) → Ok ListLeaves (list_contents value f d)) → Ok ListLeaves (list_contents value (suc f) c)
        go true e rec = rw (e, list_contents) (tt, comments_at_ok c a)
        go false e rec =
            rw (e, list_contents)
            (bind_ok (λ t c. TreeLeaves t) ListLeaves (value (comments_at c).1) _ (pr (comments_at c).1 (comments_at_ok c a)) λ v d hv hd.
            let k = comma_ok v d hv hd in
            bind_ok ListLeaves ListLeaves (list_contents value f (after_comma v d).1) _ (rec (after_comma v d).1 k.1) λ l d2 hl h2.
            ((prefix_leaves (comments_at c).0 (after_comma v d).0 k.0, hl), h2))

    map_ok : (f : ℕ) (c : Cursor) → AllTokens (rest c) → Ok MapLeaves (map_contents value f c)
    unfolding map_contents
    map_ok zero c a = tt
    map_ok (suc f) c a = go (at_end (comments_at c).1) refl (map_ok f)
      where
        go : (b : Bool) → at_end (comments_at c).1 ≡ b → ((d : Cursor) → AllTokens (rest d) → Ok MapLeaves (map_contents value f d)) → Ok MapLeaves (map_contents value (suc f) c)
        go true e rec = rw (e, map_contents) (tt, comments_at_ok c a)
        go false e rec =
            rw (e, map_contents)
            (bind_ok (λ t c. TreeLeaves t) MapLeaves (value (comments_at c).1) _ (pr (comments_at c).1 (comments_at_ok c a)) λ k c1 hk h1.
            bind_ok (λ u c. Unit {0}) MapLeaves (consume_token Colon c1) _ (consume_ok Colon c1 h1) λ u c2 hu h2.
            bind_ok (λ t c. TreeLeaves t) MapLeaves (value c2) _ (pr c2 h2) λ v c3 hv h3.
            let j = comma_ok v c3 hv h3 in
            bind_ok MapLeaves MapLeaves (map_contents value f (after_comma v c3).1) _ (rec (after_comma v c3).1 j.1) λ m c4 hm h4.
            ((prefix_leaves (comments_at c).0 k hk, j.0, hm), h4))

    list_inside_ok : (c : Cursor) → AllTokens (rest c) → Ok ListLeaves (list_inside value c)
    unfolding list_inside
    list_inside_ok c a = list_ok (suc (length (rest c))) c a

    map_inside_ok : (c : Cursor) → AllTokens (rest c) → Ok MapLeaves (map_inside value c)
    unfolding map_inside
    map_inside_ok c a = map_ok (suc (length (rest c))) c a

    -- a value that begins with the token t; its span ends where the last token does
    abbrev From : Token → TokenValue → Cursor → Type 0
    From t v c = Leaves v (record { start = t.start; end = (last c).end })

    string_ok : {k : TokenKind} → IsString k → (t : Token) (ts : List Token) → Leaf k t.start t.end t.slice → AllTokens ts → Ok (From t) (string_or_variant value t (behind (span_of t) ts))
    unfolding string_or_variant
    string_ok {k} i t ts l a = go (next_is OpenParen (behind (span_of t) ts)) refl
      where
        go : (b : Bool) → next_is OpenParen (behind (span_of t) ts) ≡ b → Ok (From t) (string_or_variant value t (behind (span_of t) ts))
        go true e =
            rw (e, string_or_variant)
            (bind_ok ListLeaves (From t) (list_inside value (skip (behind (span_of t) ts))) _ (list_inside_ok (skip (behind (span_of t) ts)) (skip_ok (behind (span_of t) ts) a)) λ x c1 hx h1.
            bind_ok (λ u c. Unit {0}) (From t) (consume_token CloseParen c1) _ (consume_ok CloseParen c1 h1) λ u c2 hu h2.
            (((k, i, l), hx), h2))
        go false e = rw (e, string_or_variant) ((k, i, l), a)

    value_ok : (k : TokenKind) (t : Token) (ts : List Token) → Leaf k t.start t.end t.slice → AllTokens ts → Ok (From t) (value_of value k t (behind (span_of t) ts))
    unfolding value_of
    value_ok Invalid t ts l a = tt
    value_ok Comment t ts l a = tt
    value_ok OpenList t ts l a =
        bind_ok ListLeaves (From t) (list_inside value (behind (span_of t) ts)) _ (list_inside_ok (behind (span_of t) ts) a) λ x c1 hx h1.
        bind_ok (λ u c. Unit {0}) (From t) (consume_token CloseList c1) _ (consume_ok CloseList c1 h1) λ u c2 hu h2.
        (hx, h2)
    value_ok CloseList t ts l a = tt
    value_ok OpenBrace t ts l a =
        bind_ok MapLeaves (From t) (map_inside value (behind (span_of t) ts)) _ (map_inside_ok (behind (span_of t) ts) a) λ x c1 hx h1.
        bind_ok (λ u c. Unit {0}) (From t) (consume_token CloseBrace c1) _ (consume_ok CloseBrace c1 h1) λ u c2 hu h2.
        (hx, h2)
    value_ok CloseBrace t ts l a = tt
    value_ok OpenParen t ts l a = tt
    value_ok CloseParen t ts l a = tt
    value_ok Colon t ts l a = tt
    value_ok Comma t ts l a = tt
    value_ok Identifier t ts l a = (l, a)
    value_ok Number t ts l a = (l, a)
    value_ok DoubleQuotedString t ts l a = string_ok double t ts l a
    value_ok SingleQuotedString t ts l a = string_ok single t ts l a
    value_ok MultilineBasicString t ts l a = string_ok basic t ts l a
    value_ok MultilineLiteralString t ts l a = string_ok literal t ts l a

    behind_ok : (len : ℕ) (p : List Slice) (c : Cursor) → AllTokens (rest c) → Ok (λ t c. TreeLeaves t) (tree_behind len value p c)
    unfolding tree_behind
    behind_ok len p (behind l []) a = tt
    behind_ok len p (behind l (t ∷ ts)) a =
        bind_ok (From t) (λ t c. TreeLeaves t) (value_of value t.kind t (behind (span_of t) ts)) _ (value_ok t.kind t ts a.0 a.1) λ v c1 hv h1.
        (hv, suffix_ok c1 h1)

  module _ (len : ℕ) where
    tree_ok : (value : Reader) → OkReader value → OkReader (tree_with len value)
    unfolding tree_with
    tree_ok value pr c a = behind_ok value pr len (comments_at c).0 (comments_at c).1 (comments_at_ok c a)

    mutual
      unfolding value_at

      value_at_ok : (d : ℕ) → OkReader (value_at len d)
      value_at_ok zero c a = tt
      value_at_ok (suc d) c a = tree_ok (inside_at len d) (λ x b. inside_at_ok d x b) c a

      inside_at_ok : (d : ℕ) → OkReader (inside_at len d)
      inside_at_ok zero c a = tt
      inside_at_ok (suc d) c a = value_at_ok d c a

    abbrev OkParsed : Parsed → Type 0
    OkParsed (parsed t) = TreeLeaves t
    OkParsed (refused_by r) = Unit {0}

    none_ok : (c : Cursor) (t : TokenTree) → TreeLeaves t → OkParsed (none_is_left c t)
    unfolding none_is_left
    none_ok (behind l []) t h = h
    none_ok (behind l (x ∷ xs)) t h = tt

    top_list_ok : (vs : TokenTrees) (cl : List Slice) → AllLeaves vs → TreeLeaves (top_list len vs cl)
    top_list_ok no_trees cl h = tt
    top_list_ok (t ∷ᵗ no_trees) cl h = h.0
    top_list_ok (t ∷ᵗ (u ∷ᵗ us)) cl h = h

    top_ok : (m : Read TokenMap) (l : Read TokenList) → Ok MapLeaves m → Ok ListLeaves l → OkParsed (top_of len m l)
    top_ok (read m c) l g h = none_ok c _ g.0
    top_ok (refused ra la) (read l c) g h = none_ok c _ (top_list_ok l.values l.closing h.0)
    top_ok (refused ra la) (refused rb lb) g h = tt

    parse_ok : (ts : List Token) → AllTokens ts → OkParsed (parse_top len ts)
    unfolding parse_top
    parse_ok ts a =
        let start : Cursor = behind (record { start = 0; end = 0 }) ts in
        top_ok (map_inside (inside_at len 128) start) (list_inside (inside_at len 128) start)
        (map_inside_ok (inside_at len 128) (inside_at_ok 128) start a) (list_inside_ok (inside_at len 128) (inside_at_ok 128) start a)

    -- the leaves of a tree that is read
    pub tree_leaves : (ts : List Token) (t : TokenTree) → AllTokens ts → parse_top len ts ≡ parsed t → TreeLeaves t
    tree_leaves ts t a e = subst (λ (p : Parsed). OkParsed p) e (parse_ok ts a)
