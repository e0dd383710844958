-- Reading never runs out of fuel, and each of its refusals has a number from 3 to 13.
use Rattle.std.proofs.Common.{◌≡◌, ℕ, zero, suc, ◌<◌, ◌≤◌, Bool, true, false, cond, not, ◌&&◌, ltb, List, [], ◌∷◌, length, refl, not-suc-le-zero, arith}
use Rattle.eon_spec.specs.declared.token_kind.TokenKind.{TokenKind}
use Rattle.eon_spec.specs.declared.token_kind.TokenKind.TheVariants.{Invalid, Comment, OpenList, CloseList, OpenBrace, CloseBrace, OpenParen, CloseParen, Colon, Comma, Identifier, Number, DoubleQuotedString, SingleQuotedString, MultilineBasicString, MultilineLiteralString}
use Rattle.eon_spec.specs.Token.{is_kind, Token}
use Rattle.eon_spec.specs.Tree.{Span, Slice, TokenTree}
use Rattle.eon_spec.specs.Refused.{Refusal}
use Rattle.eon_spec.specs.Parse.{Cursor, behind, rest, Read, read, refused, Reader, bind, list_contents, map_contents, list_inside, map_inside, comments_at, parse_comments, consume_token, string_or_variant, value_of, tree_behind, tree_with, value_at, inside_at, at_end, after_comma, suffix_comment, next_is, skip, span_of, TokenList, TokenMap, Parsed, parsed, refused_by, none_is_left, top_of, parse_top}

-- "reading (3 to 13)"
abbrev pub Listed : Refusal → Type 0
Listed r = (3 ≤ r.number) × (r.number ≤ 13)

-- at most n tokens are left; a refusal has its number
abbrev pub Good : {A : Type 0} → ℕ → Read A → Type 0
Good n (read a d) = length (rest d) ≤ n
Good n (refused r l) = Listed r

-- fewer than n are left
abbrev pub Strict : {A : Type 0} → ℕ → Read A → Type 0
Strict n (read a d) = length (rest d) < n
Strict n (refused r l) = Listed r

abbrev pub Progresses : Reader → Type 0
Progresses value = (c : Cursor) → Strict (length (rest c)) (value c)

bind_good : {A B : Type 0} (n m : ℕ) (r : Read A) (f : A → Cursor → Read B) → Good n r → ((a : A) (d : Cursor) → length (rest d) ≤ n → Good m (f a d)) → Good m (bind r f)
bind_good n m (read a d) f g h = h a d g
bind_good n m (refused r l) f g h = g

bind_strict : {A B : Type 0} (n m : ℕ) (r : Read A) (f : A → Cursor → Read B) → Good n r → ((a : A) (d : Cursor) → length (rest d) ≤ n → Strict m (f a d)) → Strict m (bind r f)
bind_strict n m (read a d) f g h = h a d g
bind_strict n m (refused r l) f g h = g

strict_bind : {A B : Type 0} (n m : ℕ) (r : Read A) (f : A → Cursor → Read B) → Strict n r → ((a : A) (d : Cursor) → length (rest d) < n → Good m (f a d)) → Good m (bind r f)
strict_bind n m (read a d) f g h = h a d g
strict_bind n m (refused r l) f g h = g

comments_le : (s : Span) (ts : List Token) → length (rest (parse_comments s ts).1) ≤ length ts
unfolding parse_comments
comments_le s [] = omega arith
comments_le s (t ∷ ts) = go (is_kind t.kind Comment) refl (comments_le (span_of t) ts)
  where
    go : (b : Bool) → is_kind t.kind Comment ≡ b → length (rest (parse_comments (span_of t) ts).1) ≤ length ts → length (rest (parse_comments s (t ∷ ts)).1) ≤ suc (length ts)
    go true e h = rw (e, parse_comments) (omega arith)
    go false e h = rw (e, parse_comments) (omega arith)

pub comments_at_le : (c : Cursor) → length (rest (comments_at c).1) ≤ length (rest c)
comments_at_le (behind l ts) = comments_le l ts

-- behind the comments stands no comment
NoComment : Cursor → Type 0
NoComment (behind l []) = Unit {0}
NoComment (behind l (t ∷ ts)) = is_kind t.kind Comment ≡ false

comments_none : (s : Span) (ts : List Token) → NoComment (parse_comments s ts).1
unfolding parse_comments NoComment
comments_none s [] = tt
comments_none s (t ∷ ts) = go (is_kind t.kind Comment) refl (comments_none (span_of t) ts)
  where
    go : (b : Bool) → is_kind t.kind Comment ≡ b → NoComment (parse_comments (span_of t) ts).1 → NoComment (parse_comments s (t ∷ ts)).1
    go true e h = rw (e, parse_comments) h
    go false e h = rw (e, parse_comments) e

comments_at_none : (c : Cursor) → NoComment (comments_at c).1
comments_at_none (behind l ts) = comments_none l ts

suffix_le : (c : Cursor) → length (rest (suffix_comment c).1) ≤ length (rest c)
unfolding suffix_comment
suffix_le (behind l []) = omega arith
suffix_le (behind l (t ∷ ts)) = go (is_kind t.kind Comment && not t.new_line) refl
  where
    go : (b : Bool) → is_kind t.kind Comment && not t.new_line ≡ b → length (rest (suffix_comment (behind l (t ∷ ts))).1) ≤ suc (length ts)
    go true e = rw (e, suffix_comment) (omega arith)
    go false e = rw (e, suffix_comment) (omega arith)

skip_le : (c : Cursor) → length (rest (skip c)) ≤ length (rest c)
unfolding skip
skip_le (behind l []) = omega arith
skip_le (behind l (t ∷ ts)) = omega arith

pub comma_le : (v : TokenTree) (c : Cursor) → length (rest (after_comma v c).1) ≤ length (rest c)
unfolding after_comma
comma_le v c = go (next_is Comma c) refl
  where
    go : (b : Bool) → next_is Comma c ≡ b → length (rest (after_comma v c).1) ≤ length (rest c)
    go true e = rw (e, after_comma) (omega (arith, suffix_le (skip c), skip_le c))
    go false e = rw (e, after_comma) (omega arith)

pub consume_good : (k : TokenKind) (c : Cursor) → Good (length (rest c)) (consume_token k c)
unfolding consume_token
consume_good k (behind l []) = (omega arith, omega arith)
consume_good k (behind l (t ∷ ts)) = go (is_kind t.kind Invalid) (is_kind t.kind k) refl refl
  where
    go : (x y : Bool) → is_kind t.kind Invalid ≡ x → is_kind t.kind k ≡ y → Good (suc (length ts)) (consume_token k (behind l (t ∷ ts)))
    go true y e f = rw (e, consume_token) (omega arith, omega arith)
    go false true e f = rw (e, consume_token, f) (omega arith)
    go false false e f = rw (e, consume_token, f) (omega arith, omega arith)

module _ (value : Reader) (pr : Progresses value) where
  list_good : (f : ℕ) (c : Cursor) → length (rest c) < f → Good (length (rest c)) (list_contents value f c)
  unfolding list_contents
  list_good zero c h = absurd (not-suc-le-zero h)
  list_good (suc f) c h = go (at_end (comments_at c).1) refl (list_good f)
    where
      go : (b : Bool) → at_end (comments_at c).1 ≡ b → ((d : Cursor) → length (rest d) < f → Good (length (rest d)) (list_contents value f d)) → Good (length (rest c)) (list_contents value (suc f) c)
      go true e rec = rw (e, list_contents) (comments_at_le c)
      go false e rec =
          rw (e, list_contents)
          (strict_bind (length (rest (comments_at c).1)) (length (rest c)) (value (comments_at c).1) _ (pr (comments_at c).1) λ v d hd.
          let a = comments_at_le c in
          let b = comma_le v d in
          bind_good (length (rest (after_comma v d).1)) (length (rest c)) (list_contents value f (after_comma v d).1) _ (rec (after_comma v d).1 (omega arith)) λ l d2 h2.
          omega arith)

  map_good : (f : ℕ) (c : Cursor) → length (rest c) < f → Good (length (rest c)) (map_contents value f c)
  unfolding map_contents
  map_good zero c h = absurd (not-suc-le-zero h)
  map_good (suc f) c h = go (at_end (comments_at c).1) refl (map_good f)
    where
      go : (b : Bool) → at_end (comments_at c).1 ≡ b → ((d : Cursor) → length (rest d) < f → Good (length (rest d)) (map_contents value f d)) → Good (length (rest c)) (map_contents value (suc f) c)
      go true e rec = rw (e, map_contents) (comments_at_le c)
      go false e rec =
          rw (e, map_contents)
          (strict_bind (length (rest (comments_at c).1)) (length (rest c)) (value (comments_at c).1) _ (pr (comments_at c).1) λ k c1 h1.
          let a = comments_at_le c in
          bind_good (length (rest c1)) (length (rest c)) (consume_token Colon c1) _ (consume_good Colon c1) λ _ c2 h2.
          strict_bind (length (rest c2)) (length (rest c)) (value c2) _ (pr c2) λ v c3 h3.
          let b = comma_le v c3 in
          bind_good (length (rest (after_comma v c3).1)) (length (rest c)) (map_contents value f (after_comma v c3).1) _ (rec (after_comma v c3).1 (omega arith)) λ m c4 h4.
          omega arith)

  list_inside_good : (c : Cursor) → Good (length (rest c)) (list_inside value c)
  unfolding list_inside
  list_inside_good c = list_good (suc (length (rest c))) c (omega arith)

  map_inside_good : (c : Cursor) → Good (length (rest c)) (map_inside value c)
  unfolding map_inside
  map_inside_good c = map_good (suc (length (rest c))) c (omega arith)

  string_good : (t : Token) (c : Cursor) → Good (length (rest c)) (string_or_variant value t c)
  unfolding string_or_variant
  string_good t c = go (next_is OpenParen c) refl
    where
      go : (b : Bool) → next_is OpenParen c ≡ b → Good (length (rest c)) (string_or_variant value t c)
      go true e =
          rw (e, string_or_variant)
          (let a = skip_le c in
          bind_good (length (rest (skip c))) (length (rest c)) (list_inside value (skip c)) _ (list_inside_good (skip c)) λ l c1 h1.
          bind_good (length (rest c1)) (length (rest c)) (consume_token CloseParen c1) _ (consume_good CloseParen c1) λ _ c2 h2.
          omega arith)
      go false e = rw (e, string_or_variant) (omega arith)

  value_good : (k : TokenKind) (t : Token) (c : Cursor) → is_kind k Comment ≡ false → Good (length (rest c)) (value_of value k t c)
  unfolding value_of
  value_good Invalid t c n = (omega arith, omega arith)
  value_good Comment t c n = cc
  value_good OpenList t c n =
      bind_good (length (rest c)) (length (rest c)) (list_inside value c) _ (list_inside_good c) λ l c1 h1.
      bind_good (length (rest c1)) (length (rest c)) (consume_token CloseList c1) _ (consume_good CloseList c1) λ _ c2 h2.
      omega arith
  value_good CloseList t c n = (omega arith, omega arith)
  value_good OpenBrace t c n =
      bind_good (length (rest c)) (length (rest c)) (map_inside value c) _ (map_inside_good c) λ l c1 h1.
      bind_good (length (rest c1)) (length (rest c)) (consume_token CloseBrace c1) _ (consume_good CloseBrace c1) λ _ c2 h2.
      omega arith
  value_good CloseBrace t c n = (omega arith, omega arith)
  value_good OpenParen t c n = (omega arith, omega arith)
  value_good CloseParen t c n = (omega arith, omega arith)
  value_good Colon t c n = (omega arith, omega arith)
  value_good Comma t c n = (omega arith, omega arith)
  value_good Identifier t c n = omega arith
  value_good Number t c n = omega arith
  value_good DoubleQuotedString t c n = string_good t c
  value_good SingleQuotedString t c n = string_good t c
  value_good MultilineBasicString t c n = string_good t c
  value_good MultilineLiteralString t c n = string_good t c

  behind_good : (len : ℕ) (p : List Slice) (c : Cursor) → NoComment c → Strict (length (rest c)) (tree_behind len value p c)
  unfolding tree_behind NoComment
  behind_good len p (behind l []) n = (omega arith, omega arith)
  behind_good len p (behind l (t ∷ ts)) n =
      bind_strict (length ts) (suc (length ts)) (value_of value t.kind t (behind (span_of t) ts)) _ (value_good t.kind t (behind (span_of t) ts) n) λ v c1 h1.
      let a = suffix_le c1 in
      omega arith

widen : {A : Type 0} (n m : ℕ) (r : Read A) → n ≤ m → Strict n r → Strict m r
widen n m (read a d) h s = omega arith
widen n m (refused r l) h s = s

module _ (len : ℕ) where
  tree_good : (value : Reader) → Progresses value → Progresses (tree_with len value)
  unfolding tree_with
  tree_good value pr c =
      widen (length (rest (comments_at c).1)) (length (rest c)) (tree_behind len value (comments_at c).0 (comments_at c).1) (comments_at_le c)
      (behind_good value pr len (comments_at c).0 (comments_at c).1 (comments_at_none c))

  mutual
    unfolding value_at

    pub value_at_good : (d : ℕ) → Progresses (value_at len d)
    value_at_good zero c = (omega arith, omega arith)
    value_at_good (suc d) c = tree_good (inside_at len d) (λ x. inside_at_good d x) c

    pub inside_at_good : (d : ℕ) → Progresses (inside_at len d)
    inside_at_good zero c = (omega arith, omega arith)
    inside_at_good (suc d) c = value_at_good d c

-- what reading answers: a tree, or a refusal with its number
abbrev pub Numbered : Parsed → Type 0
Numbered (parsed t) = Unit {0}
Numbered (refused_by r) = Listed r

cond_number : (b : Bool) (r q : Refusal) → Listed r → Listed q → Listed (cond b r q)
cond_number true r q g h = g
cond_number false r q g h = h

none_left : (c : Cursor) (t : TokenTree) → Numbered (none_is_left c t)
unfolding none_is_left
none_left (behind l []) t = tt
none_left (behind l (x ∷ xs)) t = (omega arith, omega arith)

top_numbered : (len n : ℕ) (m : Read TokenMap) (l : Read TokenList) → Good n m → Good n l → Numbered (top_of len m l)
top_numbered len n (read m c) l g h = none_left c _
top_numbered len n (refused ra la) (read l c) g h = none_left c _
top_numbered len n (refused ra la) (refused rb lb) g h = cond_number (ltb la lb) rb ra h g

pub parse_numbered : (len : ℕ) (ts : List Token) → Numbered (parse_top len ts)
unfolding parse_top
parse_numbered len ts =
    let start : Cursor = behind (record { start = 0; end = 0 }) ts in
    top_numbered len (length ts) (map_inside (inside_at len 128) start) (list_inside (inside_at len 128) start)
    (map_inside_good (inside_at len 128) (inside_at_good len 128) start) (list_inside_good (inside_at len 128) (inside_at_good len 128) start)
