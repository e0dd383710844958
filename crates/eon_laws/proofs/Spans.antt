-- Where the parts of a tree stand: each span lies within the text, and a slice is the text's bytes at its span; where the text has a byte,
-- so has the tree. Its tokens take no more bytes than the text has, so that a text of n bytes has at most n + 1 records. And how deep a tree
-- is.
use Rattle.std.proofs.Common.{◌≡◌, ℕ, zero, suc, ◌+◌, ◌-◌, ◌<◌, ◌≤◌, Bool, true, false, not, ◌&&◌, List, [], ◌∷◌, ◌++◌, length, drop, Some, None, Option, refl, subst, arith, length-take}
use Rattle.eon_spec.specs.Utf8.{is_utf8}
use Rattle.eon_spec.specs.declared.token_kind.TokenKind.{TokenKind}
use Rattle.eon_spec.specs.declared.token_kind.TokenKind.TheVariants.{Invalid, Comment, OpenList, CloseList, OpenBrace, CloseBrace, OpenParen, CloseParen, Colon, Comma, Identifier, Number, DoubleQuotedString, SingleQuotedString, MultilineBasicString, MultilineLiteralString}
use Rattle.eon_spec.specs.Token.{is_kind, Token, tokens}
use Rattle.eon_spec.specs.Tree.{Span, Slice, TokenTree, TokenValue, TokenTrees, KeyValues, tree, identifier, number, quoted_string, list_of, map_of, variant_of, no_trees, ◌∷ᵗ◌, no_pairs, pair}
use Rattle.eon_spec.specs.Parse.{Cursor, behind, rest, last, Read, read, refused, Reader, bind, list_contents, map_contents, list_inside, map_inside, comments_at, parse_comments, consume_token, string_or_variant, value_of, tree_behind, tree_with, value_at, inside_at, at_end, after_comma, suffix_comment, next_is, skip, span_of, slice_of, with_prefix, with_suffix, TokenList, TokenMap, Parsed, parsed, refused_by, none_is_left, top_of, top_list, parse_top, parse}
use Rattle.eon_spec.specs.Records.{tree_records}
use Rattle.eon_spec.specs.Runs.{height, height_in, height_of, height_of_pairs}
use Rattle.eon_laws.proofs.Records.{tree_size_lem}
use Rattle.eon_laws.proofs.Bytes.{held, held_some, held_least, comments_bytes, comments_append, suffix_bytes, tree_bytes, value_bytes, trees_bytes, pairs_bytes, root_bytes, root_some, root_least}
use Rattle.eon_laws.proofs.Places.{Fits, Holds, Stands, Row, row_within, tokens_stand}

module _ (s : List ℕ) where
  abbrev pub HoldsSlice : Slice → Type 0
  HoldsSlice c = Holds s c.span c.bytes

  abbrev pub HoldsAll : List Slice → Type 0
  HoldsAll [] = Unit {0}
  HoldsAll (c ∷ cs) = HoldsSlice c × HoldsAll cs

  abbrev pub HoldsSuffix : Option Slice → Type 0
  HoldsSuffix None = Unit {0}
  HoldsSuffix (Some c) = HoldsSlice c

  abbrev mutual
    pub TreeFits : TokenTree → Type 0
    TreeFits (tree p q v x) = Fits s p × HoldsAll q × ValueFits p v × HoldsSuffix x

    pub ValueFits : Span → TokenValue → Type 0
    ValueFits p (identifier b) = Holds s p b
    ValueFits p (number b) = Holds s p b
    ValueFits p (quoted_string b) = Holds s p b
    ValueFits p (list_of vs cl) = TreesFit vs × HoldsAll cl
    ValueFits p (map_of kvs cl) = PairsFit kvs × HoldsAll cl
    -- the name stands at the variant's start
    ValueFits p (variant_of n vs cl) = HoldsSlice n × TreesFit vs × HoldsAll cl × (n.span.start ≡ p.start) × (n.span.end ≤ p.end)

    pub TreesFit : TokenTrees → Type 0
    TreesFit no_trees = Unit {0}
    TreesFit (t ∷ᵗ ts) = TreeFits t × TreesFit ts

    pub PairsFit : KeyValues → Type 0
    PairsFit no_pairs = Unit {0}
    PairsFit (pair k v kvs) = TreeFits k × TreeFits v × PairsFit kvs

-- a tree whose span has a byte, and trees that all are such
abbrev pub HasByte : TokenTree → Type 0
HasByte (tree p q v x) = p.start < p.end

abbrev HaveBytes : TokenTrees → Type 0
HaveBytes no_trees = Unit {0}
HaveBytes (t ∷ᵗ ts) = HasByte t × HaveBytes ts

-- ---- what the readers keep

-- the containers that a depth allows, for a value and for an inside: each costs two steps
unfoldable mutual
  value_levels : ℕ → ℕ
  value_levels zero = 0
  value_levels (suc d) = suc (inside_levels d)

  inside_levels : ℕ → ℕ
  inside_levels zero = 0
  inside_levels (suc d) = value_levels d

module _ (s : List ℕ) where
  -- a cursor whose tokens stand in the text
  abbrev Good : Cursor → Type 0
  Good (behind l ts) = (l.start ≤ l.end) × Row s l.end ts

  -- from one cursor to another, past tokens of at least n bytes
  record Moves (c d : Cursor) (n : ℕ) : Type 0 where
    good : Good d
    took : n + (last c).end ≤ (last d).end

  -- an answer of which Q holds, and whose tokens were taken
  abbrev Ok : {A : Type 0} → Cursor → (A → Cursor → Type 0) → (A → ℕ) → Read A → Type 0
  Ok c Q bytes (read a d) = Q a d × Moves c d (bytes a)
  Ok c Q bytes (refused r l) = Unit {0}

  bind_ok : {A B : Type 0} (c : Cursor) (Q : A → Cursor → Type 0) (m : A → ℕ) (R : B → Cursor → Type 0) (n : B → ℕ) (e : Cursor) (r : Read A) (f : A → Cursor → Read B) → Ok c Q m r
      → ((a : A) (d : Cursor) → Q a d → Moves c d (m a) → Ok e R n (f a d)) → Ok e R n (bind r f)
  bind_ok c Q m R n e (read a d) f o h = h a d o.0 o.1
  bind_ok c Q m R n e (refused r l) f o h = tt

  stay : (c : Cursor) → Good c → Moves c c 0
  stay c g = record { good = g; took = omega arith }

  weaken : (c d : Cursor) (m n : ℕ) → n ≤ m → Moves c d m → Moves c d n
  weaken c d m n h x = record { good = x.good; took = omega (arith, x.took) }

  within : (c : Cursor) → Good c → (last c).end ≤ length s
  within (behind l ts) g = row_within s l.end ts g.1

  token_bytes : (at : ℕ) (t : Token) → Stands s at t → held t.slice + at ≤ t.end
  token_bytes at t h =
      let b : length t.slice ≤ t.end - t.start = rw (← h.holds.1) (omega (arith, length-take (t.end - t.start) (drop t.start s))) in
      omega (arith, held_least t.slice (t.end - t.start) (omega (arith, h.byte)) b, h.behind, h.byte)

  -- past one token
  past : (l : Span) (t : Token) (ts : List Token) → Good (behind l (t ∷ ts)) → Moves (behind l (t ∷ ts)) (behind (span_of t) ts) (held t.slice)
  past l t ts g = record { good = (g.1.0.holds.0.0, g.1.1); took = token_bytes l.end t g.1.0 }

  comments_ok : (l : Span) (ts : List Token) → Good (behind l ts)
      → HoldsAll s (parse_comments l ts).0 × Moves (behind l ts) (parse_comments l ts).1 (comments_bytes (parse_comments l ts).0)
  unfolding parse_comments comments_bytes
  comments_ok l [] g = (tt, stay (behind l []) g)
  comments_ok l (t ∷ ts) g = go (is_kind t.kind Comment) refl (comments_ok (span_of t) ts (past l t ts g).good)
    where
      go : (b : Bool) → is_kind t.kind Comment ≡ b → HoldsAll s (parse_comments (span_of t) ts).0 × Moves (behind (span_of t) ts) (parse_comments (span_of t) ts).1 (comments_bytes (parse_comments (span_of t) ts).0)
          → HoldsAll s (parse_comments l (t ∷ ts)).0 × Moves (behind l (t ∷ ts)) (parse_comments l (t ∷ ts)).1 (comments_bytes (parse_comments l (t ∷ ts)).0)
      go true e h = rw (e, parse_comments) ((g.1.0.holds, h.0), record { good = h.1.good; took = omega (arith, (past l t ts g).took, h.1.took) })
      go false e h = rw (e, parse_comments) (tt, stay (behind l (t ∷ ts)) g)

  comments_at_ok : (c : Cursor) → Good c → HoldsAll s (comments_at c).0 × Moves c (comments_at c).1 (comments_bytes (comments_at c).0)
  comments_at_ok (behind l ts) g = comments_ok l ts g

  suffix_ok : (c : Cursor) → Good c → HoldsSuffix s (suffix_comment c).0 × Moves c (suffix_comment c).1 (suffix_bytes (suffix_comment c).0)
  unfolding suffix_comment suffix_bytes
  suffix_ok (behind l []) g = (tt, stay (behind l []) g)
  suffix_ok (behind l (t ∷ ts)) g = go (is_kind t.kind Comment && not t.new_line) refl
    where
      go : (b : Bool) → is_kind t.kind Comment && not t.new_line ≡ b → HoldsSuffix s (suffix_comment (behind l (t ∷ ts))).0 × Moves (behind l (t ∷ ts)) (suffix_comment (behind l (t ∷ ts))).1 (suffix_bytes (suffix_comment (behind l (t ∷ ts))).0)
      go true e = rw (e, suffix_comment) (g.1.0.holds, past l t ts g)
      go false e = rw (e, suffix_comment) (tt, stay (behind l (t ∷ ts)) g)

  skip_ok : (c : Cursor) → Good c → Moves c (skip c) 0
  unfolding skip
  skip_ok (behind l []) g = stay (behind l []) g
  skip_ok (behind l (t ∷ ts)) g = weaken (behind l (t ∷ ts)) (behind (span_of t) ts) (held t.slice) 0 (omega arith) (past l t ts g)

  consume_ok : (k : TokenKind) (c : Cursor) → Good c → Ok c (λ u d. Unit {0}) (λ u. 1) (consume_token k c)
  unfolding consume_token
  consume_ok k (behind l []) g = tt
  consume_ok k (behind l (t ∷ ts)) g = go (is_kind t.kind Invalid) (is_kind t.kind k) refl refl
    where
      go : (x y : Bool) → is_kind t.kind Invalid ≡ x → is_kind t.kind k ≡ y → Ok (behind l (t ∷ ts)) (λ u d. Unit {0}) (λ u. 1) (consume_token k (behind l (t ∷ ts)))
      go true y e f = rw (e, consume_token) tt
      go false true e f = rw (e, consume_token, f) (tt, weaken (behind l (t ∷ ts)) (behind (span_of t) ts) (held t.slice) 1 (held_some t.slice) (past l t ts g))
      go false false e f = rw (e, consume_token, f) tt

  append_holds : (p q : List Slice) → HoldsAll s p → HoldsAll s q → HoldsAll s (p ++ q)
  append_holds [] q h k = k
  append_holds (c ∷ p) q h k = (h.0, append_holds p q h.1 k)

  -- a tree that fits and has a byte, in which a value stands inside fewer than k containers
  abbrev FitsBelow : ℕ → TokenTree → Type 0
  FitsBelow k t = TreeFits s t × (height t < k) × HasByte t

  prefix_fits : (k : ℕ) (p : List Slice) (v : TokenTree) → HoldsAll s p → FitsBelow k v → FitsBelow k (with_prefix p v)
  unfolding height
  prefix_fits k p (tree r q v x) h f = ((f.0.0, append_holds p q h f.0.1, f.0.2, f.0.3), f.1, f.2)

  prefix_bytes : (p : List Slice) (v : TokenTree) → tree_bytes (with_prefix p v) ≡ comments_bytes p + tree_bytes v
  unfolding tree_bytes
  prefix_bytes p (tree r q v x) = rw (comments_append p q) (omega arith)

  suffix_fits : (k : ℕ) (y : Option Slice) (v : TokenTree) → HoldsSuffix s y → FitsBelow k v → FitsBelow k (with_suffix y v)
  unfolding height
  suffix_fits k y (tree r q v x) h f = ((f.0.0, f.0.1, f.0.2, h), f.1, f.2)

  suffix_bytes_lem : (y : Option Slice) (v : TokenTree) → tree_bytes (with_suffix y v) ≤ tree_bytes v + suffix_bytes y
  unfolding tree_bytes
  suffix_bytes_lem y (tree r q v x) = omega arith

  -- behind a comma a suffix is looked for anew
  comma_ok : (k : ℕ) (v : TokenTree) (c : Cursor) → FitsBelow k v → Good c
      → FitsBelow k (after_comma v c).0 × Good (after_comma v c).1 × (tree_bytes (after_comma v c).0 + (last c).end ≤ tree_bytes v + (last (after_comma v c).1).end)
  unfolding after_comma
  comma_ok k v c f g = go (next_is Comma c) refl
    where
      go : (b : Bool) → next_is Comma c ≡ b
          → FitsBelow k (after_comma v c).0 × Good (after_comma v c).1 × (tree_bytes (after_comma v c).0 + (last c).end ≤ tree_bytes v + (last (after_comma v c).1).end)
      go true e =
          let j = skip_ok c g in
          let x = suffix_ok (skip c) j.good in
          rw (e, after_comma) (suffix_fits k (suffix_comment (skip c)).0 v x.0 f, x.1.good, omega (arith, suffix_bytes_lem (suffix_comment (skip c)).0 v, j.took, x.1.took))
      go false e = rw (e, after_comma) (f, g, omega arith)

  -- a reader of trees in which a value stands inside fewer than k containers
  abbrev OkReader : ℕ → Reader → Type 0
  OkReader k value = (c : Cursor) → Good c → Ok c (λ t d. FitsBelow k t) tree_bytes (value c)

  abbrev list_bytes : TokenList → ℕ
  list_bytes l = trees_bytes l.values + comments_bytes l.closing

  abbrev map_bytes : TokenMap → ℕ
  map_bytes m = pairs_bytes m.key_values + comments_bytes m.closing

  abbrev ListFits : ℕ → TokenList → Cursor → Type 0
  ListFits k l d = (TreesFit s l.values × HoldsAll s l.closing) × (height_of l.values ≤ k) × HaveBytes l.values

  abbrev MapFits : ℕ → TokenMap → Cursor → Type 0
  MapFits k m d = (PairsFit s m.key_values × HoldsAll s m.closing) × (height_of_pairs m.key_values ≤ k)

  module _ (k : ℕ) (value : Reader) (ok : OkReader k value) where
    list_ok : (f : ℕ) (c : Cursor) → Good c → Ok c (ListFits k) list_bytes (list_contents value f c)
    unfolding list_contents tree_bytes height
    list_ok zero c g = tt
    list_ok (suc f) c g = go (at_end (comments_at c).1) refl (list_ok f)
      where
        p : HoldsAll s (comments_at c).0 × Moves c (comments_at c).1 (comments_bytes (comments_at c).0)
        p = comments_at_ok c g

        go : (b : Bool) → at_end (comments_at c).1 ≡ b → ((d : Cursor) → Good d → Ok d (ListFits k) list_bytes (list_contents value f d)) → Ok c (ListFits k) list_bytes (list_contents value (suc f) c)
        go true e rec = rw (e, list_contents) (((tt, p.0), omega arith, tt), weaken c (comments_at c).1 (comments_bytes (comments_at c).0) (0 + comments_bytes (comments_at c).0) (omega arith) p.1)
        go false e rec =
            rw (e, list_contents)
            (bind_ok (comments_at c).1 (λ t d. FitsBelow k t) tree_bytes (ListFits k) list_bytes c (value (comments_at c).1) _ (ok (comments_at c).1 p.1.good) λ v d hv mv.
            let j = comma_ok k v d hv mv.good in
            bind_ok (after_comma v d).1 (ListFits k) list_bytes (ListFits k) list_bytes c (list_contents value f (after_comma v d).1) _ (rec (after_comma v d).1 j.1) λ l e hl ml.
            let x = prefix_fits k (comments_at c).0 (after_comma v d).0 p.0 j.0 in (
              (((x.0, hl.0.0), hl.0.1), omega (arith, x.1, hl.1), (x.2, hl.2)),
              record { good = ml.good; took = rw (prefix_bytes (comments_at c).0 (after_comma v d).0) (omega (arith, p.1.took, mv.took, j.2, ml.took)) },
            ))

    map_ok : (f : ℕ) (c : Cursor) → Good c → Ok c (MapFits k) map_bytes (map_contents value f c)
    unfolding map_contents tree_bytes height
    map_ok zero c g = tt
    map_ok (suc f) c g = go (at_end (comments_at c).1) refl (map_ok f)
      where
        p : HoldsAll s (comments_at c).0 × Moves c (comments_at c).1 (comments_bytes (comments_at c).0)
        p = comments_at_ok c g

        go : (b : Bool) → at_end (comments_at c).1 ≡ b → ((d : Cursor) → Good d → Ok d (MapFits k) map_bytes (map_contents value f d)) → Ok c (MapFits k) map_bytes (map_contents value (suc f) c)
        go true e rec = rw (e, map_contents) (((tt, p.0), omega arith), weaken c (comments_at c).1 (comments_bytes (comments_at c).0) (0 + comments_bytes (comments_at c).0) (omega arith) p.1)
        go false e rec =
            rw (e, map_contents)
            (bind_ok (comments_at c).1 (λ t d. FitsBelow k t) tree_bytes (MapFits k) map_bytes c (value (comments_at c).1) _ (ok (comments_at c).1 p.1.good) λ a c1 ha m1.
            bind_ok c1 (λ u d. Unit {0}) (λ u. 1) (MapFits k) map_bytes c (consume_token Colon c1) _ (consume_ok Colon c1 m1.good) λ u c2 hu m2.
            bind_ok c2 (λ t d. FitsBelow k t) tree_bytes (MapFits k) map_bytes c (value c2) _ (ok c2 m2.good) λ v c3 hv m3.
            let j = comma_ok k v c3 hv m3.good in
            bind_ok (after_comma v c3).1 (MapFits k) map_bytes (MapFits k) map_bytes c (map_contents value f (after_comma v c3).1) _ (rec (after_comma v c3).1 j.1) λ m c4 hm m4.
            let x = prefix_fits k (comments_at c).0 a p.0 ha in (
              (((x.0, j.0.0, hm.0.0), hm.0.1), omega (arith, x.1, j.0.1, hm.1)),
              record { good = m4.good; took = rw (prefix_bytes (comments_at c).0 a) (omega (arith, p.1.took, m1.took, m2.took, m3.took, j.2, m4.took)) },
            ))

    list_inside_ok : (c : Cursor) → Good c → Ok c (ListFits k) list_bytes (list_inside value c)
    unfolding list_inside
    list_inside_ok c g = list_ok (suc (length (rest c))) c g

    map_inside_ok : (c : Cursor) → Good c → Ok c (MapFits k) map_bytes (map_inside value c)
    unfolding map_inside
    map_inside_ok c g = map_ok (suc (length (rest c))) c g

    -- a value that begins with the token t: its span ends where the last token does
    abbrev From : Token → TokenValue → Cursor → Type 0
    From t v d = ValueFits s (record { start = t.start; end = (last d).end }) v × (t.end ≤ (last d).end) × (height_in v ≤ k)

    module _ (l : Span) (t : Token) (ts : List Token) (g : Good (behind l (t ∷ ts))) where
      -- a leaf, which is the token itself
      leaf_ok : (v : TokenValue) → ValueFits s (span_of t) v → height_in v ≤ k → value_bytes v ≤ held t.slice → Ok (behind l (t ∷ ts)) (From t) value_bytes (read v (behind (span_of t) ts))
      leaf_ok v h b n = ((h, omega arith, b), weaken (behind l (t ∷ ts)) (behind (span_of t) ts) (held t.slice) (value_bytes v) n (past l t ts g))

      -- a container, which closes behind its inside
      close_ok : {A : Type 0} (c : Cursor) (Q : A → Cursor → Type 0) (bytes : A → ℕ) (close : TokenKind) (r : Read A) (f : A → TokenValue) → t.end ≤ (last c).end → Ok c Q bytes r
          → ((a : A) (d e : Cursor) → Q a d → t.end ≤ (last e).end → ValueFits s (record { start = t.start; end = (last e).end }) (f a) × (height_in (f a) ≤ k)) → ((a : A) → value_bytes (f a) ≤ held t.slice + bytes a + 1)
          → Ok (behind l (t ∷ ts)) (From t) value_bytes (bind r λ a d. bind (consume_token close d) λ u e. read (f a) e)
      close_ok c Q bytes close r f b o h n =
          bind_ok c Q bytes (From t) value_bytes (behind l (t ∷ ts)) r _ o λ a d ha ma.
          bind_ok d (λ u e. Unit {0}) (λ u. 1) (From t) value_bytes (behind l (t ∷ ts)) (consume_token close d) _ (consume_ok close d ma.good) λ u e hu me.
          let x = h a d e ha (omega (arith, ma.took, me.took)) in
          ((x.0, omega (arith, ma.took, me.took), x.1), record { good = me.good; took = omega (arith, (past l t ts g).took, ma.took, me.took, n a) })

      string_ok : Ok (behind l (t ∷ ts)) (From t) value_bytes (string_or_variant value t (behind (span_of t) ts))
      unfolding string_or_variant tree_bytes height
      string_ok = go (next_is OpenParen (behind (span_of t) ts)) refl
        where
          here : Cursor
          here = behind (span_of t) ts

          go : (b : Bool) → next_is OpenParen here ≡ b → Ok (behind l (t ∷ ts)) (From t) value_bytes (string_or_variant value t here)
          go true e =
              let j = skip_ok here (past l t ts g).good in
              rw (e, string_or_variant)
              (close_ok (skip here) (ListFits k) list_bytes CloseParen (list_inside value (skip here)) (λ x. variant_of (slice_of t) x.values x.closing) (omega (arith, j.took))
              (list_inside_ok (skip here) j.good) (λ x d e h q. ((g.1.0.holds, h.0.0, h.0.1, refl, q), h.1)) (λ x. omega arith))
          go false e = rw (e, string_or_variant) (leaf_ok (quoted_string t.slice) g.1.0.holds (omega arith) (omega arith))

      value_ok : (kind : TokenKind) → Ok (behind l (t ∷ ts)) (From t) value_bytes (value_of value kind t (behind (span_of t) ts))
      unfolding value_of tree_bytes height
      value_ok Invalid = tt
      value_ok Comment = tt
      value_ok OpenList =
          close_ok (behind (span_of t) ts) (ListFits k) list_bytes CloseList (list_inside value (behind (span_of t) ts)) (λ x. list_of x.values x.closing) (omega arith)
          (list_inside_ok (behind (span_of t) ts) (past l t ts g).good) (λ x d e h q. (h.0, h.1)) (λ x. omega (arith, held_some t.slice))
      value_ok CloseList = tt
      value_ok OpenBrace =
          close_ok (behind (span_of t) ts) (MapFits k) map_bytes CloseBrace (map_inside value (behind (span_of t) ts)) (λ x. map_of x.key_values x.closing) (omega arith)
          (map_inside_ok (behind (span_of t) ts) (past l t ts g).good) (λ x d e h q. h) (λ x. omega (arith, held_some t.slice))
      value_ok CloseBrace = tt
      value_ok OpenParen = tt
      value_ok CloseParen = tt
      value_ok Colon = tt
      value_ok Comma = tt
      value_ok Identifier = leaf_ok (identifier t.slice) g.1.0.holds (omega arith) (omega arith)
      value_ok Number = leaf_ok (number t.slice) g.1.0.holds (omega arith) (omega arith)
      value_ok DoubleQuotedString = string_ok
      value_ok SingleQuotedString = string_ok
      value_ok MultilineBasicString = string_ok
      value_ok MultilineLiteralString = string_ok

    behind_ok : (len : ℕ) (p : List Slice) (b c : Cursor) → HoldsAll s p → Moves b c (comments_bytes p) → Ok b (λ t d. FitsBelow (suc k) t) tree_bytes (tree_behind len value p c)
    unfolding tree_behind tree_bytes height
    behind_ok len p b (behind l []) h m = tt
    behind_ok len p b (behind l (t ∷ ts)) h m =
        bind_ok (behind l (t ∷ ts)) (From t) value_bytes (λ t d. FitsBelow (suc k) t) tree_bytes b (value_of value t.kind t (behind (span_of t) ts)) _ (value_ok l t ts m.good t.kind) λ v d hv mv.
        let x = suffix_ok d mv.good in
        let w = within d mv.good in
        let y = m.good.1.0.byte in (
          (((omega (arith, hv.1), w), h, hv.0, x.0), omega (arith, hv.2), omega (arith, hv.1, y)),
          record { good = x.1.good; took = omega (arith, m.took, mv.took, x.1.took) },
        )

  module _ (len : ℕ) (whole : len ≡ length s) where
    tree_ok : (k : ℕ) (value : Reader) → OkReader k value → OkReader (suc k) (tree_with len value)
    unfolding tree_with
    tree_ok k value ok c g = let p = comments_at_ok c g in behind_ok k value ok len (comments_at c).0 c (comments_at c).1 p.0 p.1

    mutual
      unfolding value_at value_levels

      value_at_ok : (d : ℕ) → OkReader (value_levels d) (value_at len d)
      value_at_ok zero c g = tt
      value_at_ok (suc d) c g = tree_ok (inside_levels d) (inside_at len d) (λ x h. inside_at_ok d x h) c g

      inside_at_ok : (d : ℕ) → OkReader (inside_levels d) (inside_at len d)
      inside_at_ok zero c g = tt
      inside_at_ok (suc d) c g = value_at_ok d c g

    -- the depth of 128 is 64 containers, a root without brackets counted
    abbrev OkParsed : Parsed → Type 0
    OkParsed (parsed t) = TreeFits s t × (root_bytes t ≤ length s) × (height t ≤ 64) × (0 < length s → HasByte t)
    OkParsed (refused_by r) = Unit {0}

    none_ok : (c : Cursor) (t : TokenTree) → OkParsed (parsed t) → OkParsed (none_is_left c t)
    unfolding none_is_left
    none_ok (behind l []) t h = h
    none_ok (behind l (x ∷ xs)) t h = tt

    top_list_ok : (vs : TokenTrees) (cl : List Slice) → TreesFit s vs → HoldsAll s cl → height_of vs ≤ 64 → HaveBytes vs → trees_bytes vs + comments_bytes cl ≤ length s → OkParsed (parsed (top_list len vs cl))
    unfolding tree_bytes root_bytes comments_bytes suffix_bytes height
    top_list_ok no_trees cl h k d w b = (((omega arith, omega arith), tt, (tt, k), tt), omega arith, omega arith, λ y. omega arith)
    top_list_ok (t ∷ᵗ no_trees) cl h k d w b = (h.0, omega (arith, root_least t), omega arith, λ y. w.0)
    top_list_ok (t ∷ᵗ (u ∷ᵗ us)) cl h k d w b = (((omega arith, omega arith), tt, (h, k), tt), omega arith, omega arith, λ y. omega arith)

    top_ok : (c : Cursor) (m : Read TokenMap) (l : Read TokenList) → Ok c (MapFits 64) map_bytes m → Ok c (ListFits 64) list_bytes l → OkParsed (top_of len m l)
    unfolding tree_bytes root_bytes comments_bytes suffix_bytes height
    top_ok c (read m d) l x y = none_ok d _ (((omega arith, omega arith), tt, x.0.0, tt), omega (arith, x.1.took, within d x.1.good), x.0.1, λ y. omega arith)
    top_ok c (refused ra la) (read l d) x y = none_ok d (top_list len l.values l.closing) (top_list_ok l.values l.closing y.0.0.0 y.0.0.1 y.0.1 y.0.2 (omega (arith, y.1.took, within d y.1.good)))
    top_ok c (refused ra la) (refused rb lb) x y = tt

    parse_ok : (ts : List Token) → Row s 0 ts → OkParsed (parse_top len ts)
    unfolding parse_top value_levels
    parse_ok ts r =
        let start : Cursor = behind (record { start = 0; end = 0 }) ts in
        top_ok start (map_inside (inside_at len 128) start) (list_inside (inside_at len 128) start)
        (map_inside_ok 64 (inside_at len 128) (inside_at_ok 128) start (omega arith, r)) (list_inside_ok 64 (inside_at len 128) (inside_at_ok 128) start (omega arith, r))

-- ---- the laws

module _ (s : List ℕ) (formed : is_utf8 s ≡ true) where
  tree_ok_of : (t : TokenTree) → parse s ≡ parsed t → OkParsed s (length s) refl (parsed t)
  unfolding parse
  tree_ok_of t e = subst (λ (p : Parsed). OkParsed s (length s) refl p) e (parse_ok s (length s) refl (tokens s) (tokens_stand s formed))

  -- "every span of a tree lies within the text, and a slice is the text's bytes at its span"
  pub tree_fits : (t : TokenTree) → parse s ≡ parsed t → TreeFits s t
  tree_fits t e = (tree_ok_of t e).0

  -- its tokens take no more bytes than the text has
  pub tree_bytes_lem : (t : TokenTree) → parse s ≡ parsed t → root_bytes t ≤ length s
  tree_bytes_lem t e = (tree_ok_of t e).1

  -- no value of it stands inside more than 64 containers
  pub tree_height : (t : TokenTree) → parse s ≡ parsed t → height t ≤ 64
  tree_height t e = (tree_ok_of t e).2

  -- "a text of n bytes needs at most n + 1 records"
  pub few_records : (t : TokenTree) → parse s ≡ parsed t → length (tree_records t) ≤ suc (length s)
  few_records t e = rw (tree_size_lem t) (omega (arith, root_some t, tree_bytes_lem t e))

  -- the tree of a text that has a byte has one
  pub tree_has_byte : (t : TokenTree) → parse s ≡ parsed t → 0 < length s → HasByte t
  tree_has_byte t e = (tree_ok_of t e).3
