use Rattle.eon_spec.specs.declared.refusal.Reason.TheVariants.{MissingValue}
use Rattle.std.proofs.Common.{◌≡◌, ℕ, zero, suc, ◌+◌, ◌<◌, ◌≤◌, Bool, true, false, cond, eqb, List, [], ◌∷◌, ◌++◌, length, Some, None, Option, sym, refl, ap, ◌∙◌, append_assoc, append-nil, not-suc-le-zero, arith, le-ltb, lt-ltb, ne_eqb, eqb-true}
use Rattle.std.proofs.lemmas.Bool.{eqb-false}
-- Reading by places is reading by the list of tokens: the walk gives the records of the trees that `Parse` gives, and refuses as it does.
-- Assumes nothing.
use Rattle.eon_spec.specs.Base.{elem}
use Rattle.eon_spec.specs.declared.token_kind.TokenKind.{TokenKind}
use Rattle.eon_spec.specs.declared.token_kind.TokenKind.TheVariants.{Invalid, Comment, OpenList, CloseList, OpenBrace, CloseBrace, OpenParen, CloseParen, Colon, Comma, Identifier, Number, DoubleQuotedString, SingleQuotedString, MultilineBasicString, MultilineLiteralString}
use Rattle.eon_spec.specs.Token.{Token, kind_number, is_kind}
use Rattle.eon_spec.specs.Tree.{Span, Slice, TokenTree, TokenValue, TokenTrees, KeyValues, tree, identifier, number, quoted_string, list_of, map_of, variant_of, no_trees, ◌∷ᵗ◌, no_pairs, pair}
use Rattle.eon_spec.specs.declared.refusal.Refusal.{Refusal}
use Rattle.eon_spec.specs.Refused.{refusal_of, number_of}
use Rattle.eon_spec.specs.Refused as paper
use Rattle.eon_spec.specs.declared.refusal.Reason.{Reason}
use Rattle.eon_spec.specs.declared.refusal.Reason.TheVariants.{Stray, TooDeep, UnbalancedList, UnbalancedBrace, UnbalancedParen, Nameless, NoValue, Mismatch, CutOff}
use Rattle.eon_spec.specs.Parse.{refusal, mismatch, Cursor, behind, last, rest, span_of, slice_of, Read, read, refused, bind as bindP, refuse_at, parse_comments, comments_at, suffix_comment, consume_token, next_is, at_end, skip, with_prefix, with_suffix, after_comma, TokenList, TokenMap, Reader, list_contents, map_contents, list_inside, map_inside, string_or_variant, value_of, tree_behind, tree_with, value_at, inside_at}
use Rattle.eon_laws.proofs.Parse.{Progresses, comments_at_le, comma_le, consume_good, inside_at_good}
use Rattle.eon_spec.specs.Records.{leaf, comments, suffix, tree_records, value_records, trees_records, pairs_records}
use Rattle.eon_token.specs.Placed.{tokens_at, kind_of}
use Rattle.eon_token.specs.Place.{Spot, span, cursor_behind, kind_at, next_span, line_feed}
use Rattle.eon_parse.specs.Walk.{Out, refuse, got, bind, Records, closes, strings, reason_of, many, loop, comment, no_comment, run, end_of, expect, suffix_end, tail_r, Item, whole, settled, stops, one, two, inside, closed, header, list_at, map_at, variant_at, leaf_at, string_at, bare_at, item_at, reader, below, refused_at}
use Rattle.eon_token.proofs.Places.{Gets, gets, Seen, over, comes, see}
use Rattle.eon_token.proofs.KindCodes.{kind_small, kind_of_lem}
use Rattle.eon_parse.proofs.Left.{FarItem, suffix_far, expect_far, below_far}
use Rattle.eon_parse.proofs.Pass.{string_variant, string_leaf}
use Rattle.eon_parse.proofs.Steps.{is_comment, is_none}

bind_assoc : {A B D : Type 0} (o : Out A) (f : A → Span → Out B) (k : B → Span → Out D) → bind (bind o f) k ≡ bind o (λ a n. bind (f a n) k)
bind_assoc (refuse r e) f k = refl
bind_assoc (got a n) f k = refl

comments_append : (k : ℕ) (a b : List Slice) → comments k (a ++ b) ≡ comments k a ++ comments k b
comments_append k [] b = refl
comments_append k (c ∷ a) b = ap (λ (l : Records). leaf k c.span ∷ l) (comments_append k a b)

module _ (s : List ℕ) where
  -- the definition's cursor behind a span
  abbrev pub C : Span → Cursor
  C l = cursor_behind s l

  -- ---- both readings give the like

  pub data Same {A B : Type 0} (P : A → B → Span → Type 0) (r : Read A) (o : Out B) : Type 0 where
    fine : (a : A) (b : B) (n : Span) → r ≡ read a (C n) → o ≡ got b n → Spot s n → P a b n → Same P r o
    fails : (q : Refusal) (e : ℕ) → r ≡ refused (refusal_of q) e → o ≡ refuse q e → Same P r o

  -- along equations
  pub along : {A B : Type 0} {P : A → B → Span → Type 0} {r r' : Read A} {o o' : Out B} → r ≡ r' → o ≡ o' → Same P r' o' → Same P r o
  along e f (fine a b n p q k h) = fine a b n (e ∙ p) (f ∙ q) k h
  along e f (fails q x p h) = fails q x (e ∙ p) (f ∙ h)

  pub same_bind : {A B D E : Type 0} (P : A → B → Span → Type 0) (Q : D → E → Span → Type 0) (r : Read A) (o : Out B) (f : A → Cursor → Read D) (g : B → Span → Out E)
      → Same P r o → ((a : A) (b : B) (n : Span) → r ≡ read a (C n) → o ≡ got b n → Spot s n → P a b n → Same Q (f a (C n)) (g b n)) → Same Q (bindP r f) (bind o g)
  same_bind P Q r o f g (fine a b n p q k h) next = along (ap (λ (x : Read _). bindP x f) p) (ap (λ (x : Out _). bind x g) q) (next a b n p q k h)
  same_bind P Q r o f g (fails q x p h) next = fails q x (ap (λ (z : Read _). bindP z f) p) (ap (λ (z : Out _). bind z g) h)

  pub same_map : {A B D : Type 0} (P : A → B → Span → Type 0) (Q : D → B → Span → Type 0) (r : Read A) (o : Out B) (f : A → D)
      → Same P r o → ((a : A) (b : B) (n : Span) → P a b n → Q (f a) b n) → Same Q (bindP r (λ a c. read (f a) c)) o
  same_map P Q r o f (fine a b n p q k h) next = fine (f a) b n (ap (λ (z : Read _). bindP z (λ a c. read (f a) c)) p) q k (next a b n h)
  same_map P Q r o f (fails q x p h) next = fails q x (ap (λ (z : Read _). bindP z (λ a c. read (f a) c)) p) h

  -- ---- comments

  pub record Ran (l : Span) : Type 0 where
    pub found : List Slice
    pub to : Span
    pub parsed : comments_at (C l) ≡ (found, C to)
    pub runs : (kind : ℕ) → run s kind l ≡ got (comments kind found) to
    pub spot : Spot s to
    pub on : l.end ≤ to.end
    pub past : kind_at s to ≡ 1 → ⊥

  record Many (f : ℕ) (l : Span) : Type 0 where
    found : List Slice
    to : Span
    parsed : parse_comments l (tokens_at s l.end false) ≡ (found, C to)
    runs : (kind : ℕ) (done : Records) → many (no_comment s) (comment s kind) f l done ≡ got (done ++ comments kind found) to
    spot : Spot s to
    on : l.end ≤ to.end
    past : kind_at s to ≡ 1 → ⊥

  many_same : (f : ℕ) (l : Span) → length s < l.end + f → Spot s l → Many f l
  unfolding many comment parse_comments
  many_same zero l h b = absurd (omega (arith, b.within))
  many_same (suc f) l h b = go (see s l b) (λ n. many_same f n)
    where
      stop : (kind : ℕ) (done : Records) → no_comment s l ≡ true → many (no_comment s) (comment s kind) (suc f) l done ≡ got (done ++ []) l
      stop kind done e = ap (λ (x : Bool). cond x (got done l) (bind (comment s kind l) (λ ts n. many (no_comment s) (comment s kind) f n (done ++ ts)))) e ∙ ap (λ (x : Records). got x l) (sym (append-nil done))

      turn : Gets s l → (t : Token) → tokens_at s l.end false ≡ t ∷ tokens_at s (next_span s l).end false → span_of t ≡ next_span s l → is_kind t.kind Comment ≡ true → kind_at s l ≡ 1 → Many f (next_span s l) → Many (suc f) l
      turn g t e p i k m = record {
        found = slice_of t ∷ m.found;
        to = m.to;
        parsed = ap (parse_comments l) e ∙ rw (i, parse_comments) (ap (λ (r : List Slice × Cursor). (slice_of t ∷ r.0, r.1)) (ap (λ (sp : Span). parse_comments sp (tokens_at s (next_span s l).end false)) p ∙ m.parsed));
        runs = λ kind done.
            ap (λ (x : Bool). cond x (got done l) (bind (comment s kind l) (λ ts n. many (no_comment s) (comment s kind) f n (done ++ ts)))) (is_comment s l k)
            ∙ m.runs kind (done ++ (leaf kind (next_span s l) ∷ []))
            ∙ ap (λ (x : Records). got x m.to) (append_assoc done (leaf kind (next_span s l) ∷ []) (comments kind m.found) ∙ ap (λ (sp : Span). done ++ (leaf kind sp ∷ comments kind m.found)) (sym p));
        spot = m.spot;
        on = omega (arith, g.behind, g.long, m.on);
        past = m.past;
      }

      go : Seen s l → ((n : Span) → length s < n.end + f → Spot s n → Many f n) → Many (suc f) l
      go (over k e) rec = record {
        found = [];
        to = l;
        parsed = ap (parse_comments l) e ∙ ap (λ (ts : List Token). ([], behind l ts)) (sym e);
        runs = λ kind done. stop kind done (is_none s l (λ z. omega arith));
        spot = b;
        on = omega arith;
        past = λ z. omega arith;
      }
      go (comes t e p k n g) rec = by (is_kind t.kind Comment) refl
        where
          by : (x : Bool) → is_kind t.kind Comment ≡ x → Many (suc f) l
          by true i = turn g t e p i (sym k ∙ eqb-true (kind_number t.kind) 1 i) (rec (next_span s l) (omega (arith, g.behind, g.long)) g.bound)
          by false i = record {
            found = [];
            to = l;
            parsed = ap (parse_comments l) e ∙ rw (i, parse_comments) (ap (λ (ts : List Token). ([], behind l ts)) (sym e));
            runs = λ kind done. stop kind done (is_none s l (λ z. eqb-false (kind_number t.kind) 1 i (k ∙ z)));
            spot = b;
            on = omega arith;
            past = λ z. eqb-false (kind_number t.kind) 1 i (k ∙ z);
          }

  pub comments_same : (l : Span) → Spot s l → Ran l
  unfolding run loop
  comments_same l b =
      let m = many_same (suc (length s)) l (omega arith) b in
      record { found = m.found; to = m.to; parsed = m.parsed; runs = λ kind. m.runs kind []; spot = m.spot; on = m.on; past = m.past }

  -- ---- a suffix comment

  pub record Tail (n : Span) : Type 0 where
    pub found : Option Slice
    pub parsed : suffix_comment (C n) ≡ (found, C (suffix_end s n))
    pub is : suffix found ≡ tail_r n.end (suffix_end s n)

  tail_empty : (n : Span) → tail_r n.end n ≡ []
  unfolding tail_r
  tail_empty n = ap (λ (b : Bool). cond b (leaf 8 n ∷ []) []) (le-ltb n.end n.end (omega arith))

  tail_one : (m n : Span) → m.end < n.end → tail_r m.end n ≡ leaf 8 n ∷ []
  unfolding tail_r
  tail_one m n h = ap (λ (b : Bool). cond b (leaf 8 n ∷ []) []) (lt-ltb m.end n.end h)

  stays : (n : Span) → suffix_end s n ≡ n → suffix_comment (C n) ≡ (None, C n) → Tail n
  stays n e p = record {
    found = None;
    parsed = p ∙ ap (λ (l : Span). (None, C l)) (sym e);
    is = sym (ap (tail_r n.end) e ∙ tail_empty n);
  }

  pub suffix_same : (n : Span) → Spot s n → Tail n
  unfolding suffix_comment suffix_end
  suffix_same n b = go (see s n b)
    where
      go : Seen s n → Tail n
      go (over k e) = stays n (ap (λ (x : Bool). cond x (cond (line_feed s n.end (next_span s n).start) n (next_span s n)) n) (ne_eqb (kind_at s n) 1 (λ z. omega arith)))
          (ap (λ (ts : List Token). suffix_comment (behind n ts)) e ∙ ap (λ (ts : List Token). (None, behind n ts)) (sym e))
      go (comes t e p k f g) = by (is_kind t.kind Comment) refl t.new_line refl
        where
          at_list : suffix_comment (C n) ≡ suffix_comment (behind n (t ∷ tokens_at s (next_span s n).end false))
          at_list = ap (λ (ts : List Token). suffix_comment (behind n ts)) e

          by : (x : Bool) → is_kind t.kind Comment ≡ x → (y : Bool) → t.new_line ≡ y → Tail n
          by false i y j = stays n (ap (λ (x : Bool). cond x (cond (line_feed s n.end (next_span s n).start) n (next_span s n)) n) (sym (ap (λ (x : ℕ). eqb x 1) k) ∙ i))
              (at_list ∙ rw (i, suffix_comment) (ap (λ (ts : List Token). (None, behind n ts)) (sym e)))
          by true i true j = stays n
              (ap (λ (x : Bool). cond x (cond (line_feed s n.end (next_span s n).start) n (next_span s n)) n) (sym (ap (λ (x : ℕ). eqb x 1) k) ∙ i) ∙ ap (λ (x : Bool). cond x n (next_span s n)) (sym f ∙ j))
              (at_list ∙ rw (i, j, suffix_comment) (ap (λ (ts : List Token). (None, behind n ts)) (sym e)))
          by true i false j =
              let q : suffix_end s n ≡ next_span s n = ap (λ (x : Bool). cond x (cond (line_feed s n.end (next_span s n).start) n (next_span s n)) n) (sym (ap (λ (x : ℕ). eqb x 1) k) ∙ i) ∙ ap (λ (x : Bool). cond x n (next_span s n)) (sym f ∙ j) in
              record {
                found = Some (slice_of t);
                parsed = at_list ∙ rw (i, j, suffix_comment) (ap (λ (sp : Span). (Some (slice_of t), behind sp (tokens_at s (next_span s n).end false))) p ∙ ap (λ (l : Span). (Some (slice_of t), C l)) (sym q));
                is = ap (λ (sp : Span). leaf 8 sp ∷ []) p ∙ sym (ap (tail_r n.end) q ∙ tail_one n (next_span s n) (omega (arith, g.behind, g.long)));
              }

  -- ---- a token that must come

  abbrev pub Both : Unit {0} → Unit {0} → Span → Type 0
  Both a b n = Unit {0}

  pub consume_same : (k : TokenKind) (l : Span) → Spot s l → Same Both (consume_token k (C l)) (expect s k l)
  unfolding consume_token expect
  consume_same k l b = go (see s l b)
    where
      E : ℕ → Out (Unit {0})
      E x =
          cond (eqb x 16) (refuse (refused_at (CutOff k) l) l.end)
          (cond (eqb x 0) (refuse (refused_at Stray (next_span s l)) (next_span s l).end)
          (cond (eqb x (kind_number k)) (got tt (next_span s l)) (refuse (refused_at (Mismatch k (kind_of x)) (next_span s l)) (next_span s l).end)))

      go : Seen s l → Same Both (consume_token k (C l)) (expect s k l)
      go (over z e) = fails (refused_at (CutOff k) l) l.end (ap (λ (ts : List Token). consume_token k (behind l ts)) e) (ap E z)
      go (comes t e p z f g) = by (is_kind t.kind Invalid) refl (is_kind t.kind k) refl
        where
          at_list : consume_token k (C l) ≡ consume_token k (behind l (t ∷ tokens_at s (next_span s l).end false))
          at_list = ap (λ (ts : List Token). consume_token k (behind l ts)) e

          at_kind : expect s k l ≡ E (kind_number t.kind)
          at_kind = ap E (sym z)

          no_end : eqb (kind_number t.kind) 16 ≡ false
          no_end = ne_eqb (kind_number t.kind) 16 (λ x. omega (arith, kind_small t.kind))

          by : (x : Bool) → is_kind t.kind Invalid ≡ x → (y : Bool) → is_kind t.kind k ≡ y → Same Both (consume_token k (C l)) (expect s k l)
          by true i y j = fails (refused_at Stray (next_span s l)) (next_span s l).end
              (at_list ∙ rw (i, consume_token) (ap (λ (sp : Span). refused (refusal 3 sp) sp.end) p)) (at_kind ∙ rw (no_end, i))
          by false i true j = fine tt tt (next_span s l)
              (at_list ∙ rw (i, j, consume_token) (ap (λ (sp : Span). read tt (behind sp (tokens_at s (next_span s l).end false))) p)) (at_kind ∙ rw (no_end, i, j)) g.bound tt
          by false i false j = fails (refused_at (Mismatch k t.kind) (next_span s l)) (next_span s l).end
              (at_list ∙ rw (i, j, consume_token) (ap (λ (sp : Span). refused (mismatch 11 sp k (kind_number t.kind)) sp.end) p)) (at_kind ∙ rw (no_end, i, j) (ap (λ (x : TokenKind). refuse (refused_at (Mismatch k x) (next_span s l)) (next_span s l).end) (kind_of_lem t.kind)))

  -- ---- where an inside ends; a token of a kind comes next

  pub next_same : (k : TokenKind) (l : Span) → Spot s l → next_is k (C l) ≡ eqb (kind_at s l) (kind_number k)
  unfolding next_is
  next_same k l b = go (see s l b)
    where
      go : Seen s l → next_is k (C l) ≡ eqb (kind_at s l) (kind_number k)
      go (over z e) = ap (λ (ts : List Token). next_is k (behind l ts)) e ∙ sym (ne_eqb (kind_at s l) (kind_number k) (λ x. omega (arith, kind_small k)))
      go (comes t e p z f g) = ap (λ (ts : List Token). next_is k (behind l ts)) e ∙ ap (λ (x : ℕ). eqb x (kind_number k)) z

  pub skip_same : (l : Span) → Spot s l → kind_at s l < 16 → skip (C l) ≡ C (next_span s l)
  unfolding skip
  skip_same l b h = go (see s l b)
    where
      go : Seen s l → skip (C l) ≡ C (next_span s l)
      go (over z e) = absurd (omega arith)
      go (comes t e p z f g) = ap (λ (ts : List Token). skip (behind l ts)) e ∙ ap (λ (sp : Span). behind sp (tokens_at s (next_span s l).end false)) p

  elem_closes : (k : TokenKind) → elem (kind_number k) (3 ∷ 5 ∷ 7 ∷ []) ≡ closes (kind_number k)
  unfolding closes
  elem_closes Invalid = refl
  elem_closes Comment = refl
  elem_closes OpenList = refl
  elem_closes CloseList = refl
  elem_closes OpenBrace = refl
  elem_closes CloseBrace = refl
  elem_closes OpenParen = refl
  elem_closes CloseParen = refl
  elem_closes Colon = refl
  elem_closes Comma = refl
  elem_closes Identifier = refl
  elem_closes Number = refl
  elem_closes DoubleQuotedString = refl
  elem_closes SingleQuotedString = refl
  elem_closes MultilineBasicString = refl
  elem_closes MultilineLiteralString = refl

  pub end_same : (l : Span) → Spot s l → at_end (C l) ≡ closes (kind_at s l)
  unfolding at_end closes
  end_same l b = go (see s l b)
    where
      go : Seen s l → at_end (C l) ≡ closes (kind_at s l)
      go (over z e) = ap (λ (ts : List Token). at_end (behind l ts)) e ∙ sym (ap closes z)
      go (comes t e p z f g) = ap (λ (ts : List Token). at_end (behind l ts)) e ∙ elem_closes t.kind ∙ ap closes z

  -- ---- a value and its comma

  abbrev pub Shown : TokenTree → Item → Span → Type 0
  Shown (tree sp p v x) i n = (comments 7 p ++ value_records sp v ≡ i.body) × (suffix x ≡ tail_r i.from n)

  pub record Settled (cs : List Slice) (v : TokenTree) (i : Item) (n : Span) : Type 0 where
    pub value : TokenTree
    pub to : Span
    pub recs : Records
    pub parsed : after_comma v (C n) ≡ (value, C to)
    pub is : settled s i n ≡ got recs to
    pub shown : tree_records (with_prefix cs value) ≡ comments 7 cs ++ recs
    pub spot : Spot s to
    pub on : n.end ≤ to.end

  -- the records of a tree with its prefix comments and a suffix
  tree_is : (cs : List Slice) (sp : Span) (p : List Slice) (v : TokenValue) (x : Option Slice) (body t : Records) → comments 7 p ++ value_records sp v ≡ body → suffix x ≡ t
      → tree_records (tree sp (cs ++ p) v x) ≡ comments 7 cs ++ (body ++ t)
  unfolding tree_records
  tree_is cs sp p v x body t e f =
      ap (λ (a : Records). (a ++ value_records sp v) ++ suffix x) (comments_append 7 cs p)
      ∙ ap (λ (a : Records). a ++ suffix x) (append_assoc (comments 7 cs) (comments 7 p) (value_records sp v) ∙ ap (λ (a : Records). comments 7 cs ++ a) e)
      ∙ append_assoc (comments 7 cs) body (suffix x)
      ∙ ap (λ (a : Records). comments 7 cs ++ (body ++ a)) f

  pub settle_same : (cs : List Slice) (v : TokenTree) (i : Item) (n : Span) → Spot s n → Shown v i n → Settled cs v i n
  unfolding after_comma settled whole
  settle_same cs (tree sp p v x) i n b h = by (eqb (kind_at s n) 9) refl
    where
      by : (k : Bool) → eqb (kind_at s n) 9 ≡ k → Settled cs (tree sp p v x) i n
      by true e =
          let g = gets s n b (omega (arith, eqb-true (kind_at s n) 9 e)) in
          let t = suffix_same (next_span s n) g.bound in
          let f = suffix_far s (next_span s n) g.bound in
          record {
            value = tree sp p v t.found;
            to = suffix_end s (next_span s n);
            recs = i.body ++ tail_r (next_span s n).end (suffix_end s (next_span s n));
            parsed = rw (next_same Comma n b ∙ e, after_comma) (ap (λ (r : Option Slice × Cursor). (with_suffix r.0 (tree sp p v x), r.1)) (ap suffix_comment (skip_same n b (omega (arith, eqb-true (kind_at s n) 9 e))) ∙ t.parsed));
            is = ap (λ (z : Bool). cond z (got (i.body ++ tail_r (next_span s n).end (suffix_end s (next_span s n))) (suffix_end s (next_span s n))) (got (i.body ++ tail_r i.from n) n)) e;
            shown = tree_is cs sp p v t.found i.body _ h.0 t.is;
            spot = f.1;
            on = omega (arith, g.behind, g.long, f.0);
          }
      by false e = record {
        value = tree sp p v x;
        to = n;
        recs = i.body ++ tail_r i.from n;
        parsed = rw (next_same Comma n b ∙ e, after_comma);
        is = ap (λ (z : Bool). cond z (got (i.body ++ tail_r (next_span s n).end (suffix_end s (next_span s n))) (suffix_end s (next_span s n))) (got (i.body ++ tail_r i.from n) n)) e;
        shown = tree_is cs sp p v x i.body _ h.0 h.1;
        spot = b;
        on = omega arith;
      }

  -- ---- insides

  abbrev pub Listed : Records → TokenList → Records → Span → Type 0
  Listed before l ts n = before ++ (trees_records l.values ++ comments 9 l.closing) ≡ ts

  abbrev pub Mapped : Records → TokenMap → Records → Span → Type 0
  Mapped before m ts n = before ++ (pairs_records m.key_values ++ comments 9 m.closing) ≡ ts

  -- the comments before a closing token
  abbrev pub closing_k : Records → Span → Out Records
  closing_k ts p = bind (run s 9 p) (λ cs q. got (ts ++ cs) q)

  pub no_trees_lem : (before : Records) (cl : List Slice) → before ++ (trees_records no_trees ++ comments 9 cl) ≡ before ++ comments 9 cl
  unfolding trees_records
  no_trees_lem before cl = refl

  no_pairs_lem : (before : Records) (cl : List Slice) → before ++ (pairs_records no_pairs ++ comments 9 cl) ≡ before ++ comments 9 cl
  unfolding pairs_records
  no_pairs_lem before cl = refl

  pub more_trees : (before : Records) (t : TokenTree) (own : Records) (us : TokenTrees) (cl : List Slice) (ts : Records) → tree_records t ≡ own
      → (before ++ own) ++ (trees_records us ++ comments 9 cl) ≡ ts → before ++ (trees_records (t ∷ᵗ us) ++ comments 9 cl) ≡ ts
  unfolding trees_records
  more_trees before t own us cl ts e f =
      ap (λ (a : Records). before ++ a) (append_assoc (tree_records t) (trees_records us) (comments 9 cl) ∙ ap (λ (a : Records). a ++ (trees_records us ++ comments 9 cl)) e)
      ∙ sym (append_assoc before own (trees_records us ++ comments 9 cl))
      ∙ f

  more_pairs : (before : Records) (k v : TokenTree) (own own' : Records) (us : KeyValues) (cl : List Slice) (ts : Records) → tree_records k ≡ own → tree_records v ≡ own'
      → (before ++ (own ++ own')) ++ (pairs_records us ++ comments 9 cl) ≡ ts → before ++ (pairs_records (pair k v us) ++ comments 9 cl) ≡ ts
  unfolding pairs_records
  more_pairs before k v own own' us cl ts e e' f =
      ap (λ (a : Records). before ++ a)
      (append_assoc (tree_records k ++ tree_records v) (pairs_records us) (comments 9 cl)
      ∙ ap (λ (a : Records). (a ++ tree_records v) ++ (pairs_records us ++ comments 9 cl)) e
      ∙ ap (λ (a : Records). (own ++ a) ++ (pairs_records us ++ comments 9 cl)) e')
      ∙ sym (append_assoc before (own ++ own') (pairs_records us ++ comments 9 cl))
      ∙ f

  -- a loop's end and a turn of it
  pub stops_is : (l : Span) (r : Ran l) → stops s l ≡ closes (kind_at s r.to)
  unfolding stops
  stops_is l r = ap (λ (o : Out Records). closes (kind_at s (end_of o))) (r.runs 7)

  pub many_end : (step : Span → Out Records) (g : ℕ) (l : Span) (before : Records) (r : Ran l) → closes (kind_at s r.to) ≡ true
      → bind (many (stops s) step (suc g) l before) closing_k ≡ got (before ++ comments 9 r.found) r.to
  unfolding many
  many_end step g l before r e =
      ap (λ (b : Bool). bind (cond b (got before l) (bind (step l) (λ ts n. many (stops s) step g n (before ++ ts)))) closing_k) (stops_is l r ∙ e)
      ∙ ap (λ (o : Out Records). bind o (λ cs q. got (before ++ cs) q)) (r.runs 9)

  pub many_turn : (step : Span → Out Records) (g : ℕ) (l : Span) (before : Records) (r : Ran l) → closes (kind_at s r.to) ≡ false
      → bind (many (stops s) step (suc g) l before) closing_k ≡ bind (bind (step l) (λ ts n. many (stops s) step g n (before ++ ts))) closing_k
  unfolding many
  many_turn step g l before r e =
      ap (λ (b : Bool). bind (cond b (got before l) (bind (step l) (λ ts n. many (stops s) step g n (before ++ ts)))) closing_k) (stops_is l r ∙ e)

  module _ (value : Reader) (pr : Progresses value) (by : Span → Out Item) (far : (p : Span) → Spot s p → FarItem s p (by p))
      (same : (l : Span) → Spot s l → Same Shown (value (C l)) (by l)) where
    pub strict : (l n : Span) (v : TokenTree) → value (C l) ≡ read v (C n) → length (tokens_at s n.end false) < length (tokens_at s l.end false)
    strict l n v e = rw e at (pr (C l))

    pub ahead : (l n : Span) (i : Item) → Spot s l → by l ≡ got i n → l.end < n.end
    ahead l n i b e = let f : FarItem s l (got i n) = rw e at (far l b) in omega (arith, f.1, f.2)

    pub fewer : (l : Span) (r : Ran l) → length (tokens_at s r.to.end false) ≤ length (tokens_at s l.end false)
    fewer l r = omega (arith, comments_at_le (C l), ap (λ (p : List Slice × Cursor). length (rest p.1)) r.parsed)

    pub fewer_comma : (cs : List Slice) (v : TokenTree) (i : Item) (n : Span) (t : Settled cs v i n) → length (tokens_at s t.to.end false) ≤ length (tokens_at s n.end false)
    fewer_comma cs v i n t = omega (arith, comma_le v (C n), ap (λ (p : TokenTree × Cursor). length (rest p.1)) t.parsed)

    -- the body of `list_contents` behind its comments
    abbrev pub list_more : ℕ → List Slice → TokenTree → Cursor → Read TokenList
    list_more f cs v c1 =
        let vc = after_comma v c1 in
        bindP (list_contents value f vc.1) λ l c2. read (record { values = with_prefix cs vc.0 ∷ᵗ l.values; closing = l.closing }) c2

    abbrev pub list_from : ℕ → List Slice × Cursor → Read TokenList
    list_from f p =
        elim (at_end p.1) [
          | true ↦ read (record { values = no_trees; closing = p.0 }) p.1
          | false ↦ bindP (value p.1) (list_more f p.0)
        ]

    abbrev pub turn_l : ℕ → Records → List Slice → Item → Span → Out Records
    turn_l g before cs i n = bind (bind (bind (settled s i n) (λ ts m. got (comments 7 cs ++ ts) m)) (λ ts n. many (stops s) (one s by) g n (before ++ ts))) closing_k

    pub list_on : (f : ℕ) (cs : List Slice) (c : Cursor) → at_end c ≡ false → list_from f (cs, c) ≡ bindP (value c) (list_more f cs)
    list_on f cs c e = rw (e, list_from)

    pub list_off : (f : ℕ) (cs : List Slice) (c : Cursor) → at_end c ≡ true → list_from f (cs, c) ≡ read (record { values = no_trees; closing = cs }) c
    list_off f cs c e = rw (e, list_from)

    pub list_is : (f : ℕ) (c : Cursor) → list_contents value (suc f) c ≡ list_from f (comments_at c)
    unfolding list_contents
    list_is f c = refl

    list_end : (g : ℕ) (l : Span) (before : Records) (r : Ran l) → closes (kind_at s r.to) ≡ true
        → bind (many (stops s) (one s by) (suc g) l before) closing_k ≡ got (before ++ comments 9 r.found) r.to
    list_end g l before r e = many_end (one s by) g l before r e

    pub list_turn : (g : ℕ) (l : Span) (before : Records) (r : Ran l) → closes (kind_at s r.to) ≡ false
        → bind (many (stops s) (one s by) (suc g) l before) closing_k
        ≡ bind (by r.to) (λ i n. bind (bind (bind (settled s i n) (λ ts m. got (comments 7 r.found ++ ts) m)) (λ ts n. many (stops s) (one s by) g n (before ++ ts))) closing_k)
    unfolding one
    list_turn g l before r e =
        many_turn (one s by) g l before r e
        ∙ ap (λ (o : Out Records). bind (bind (bind o (λ pre p. bind (by p) (λ i n. bind (settled s i n) (λ ts m. got (pre ++ ts) m)))) (λ ts n. many (stops s) (one s by) g n (before ++ ts))) closing_k) (r.runs 7)
        ∙ ap (λ (o : Out Records). bind o closing_k) (bind_assoc (by r.to) (λ i n. bind (settled s i n) (λ ts m. got (comments 7 r.found ++ ts) m)) (λ ts n. many (stops s) (one s by) g n (before ++ ts)))
        ∙ bind_assoc (by r.to) (λ i n. bind (bind (settled s i n) (λ ts m. got (comments 7 r.found ++ ts) m)) (λ ts n. many (stops s) (one s by) g n (before ++ ts))) closing_k

    pub list_same : (f g : ℕ) (l : Span) (before : Records) → length (tokens_at s l.end false) < f → length s < l.end + g → Spot s l
        → Same (Listed before) (list_contents value f (C l)) (bind (many (stops s) (one s by) g l before) closing_k)
    list_same zero g l before h k b = absurd (not-suc-le-zero h)
    list_same (suc f) zero l before h k b = absurd (omega (arith, b.within))
    list_same (suc f) (suc g) l before h k b = go (closes (kind_at s r.to)) refl (list_same f g)
      where
        r : Ran l
        r = comments_same l b

        left : list_contents value (suc f) (C l) ≡ list_from f (r.found, C r.to)
        left = list_is f (C l) ∙ ap (list_from f) r.parsed

        ending : at_end (C r.to) ≡ closes (kind_at s r.to)
        ending = end_same r.to r.spot

        go : (x : Bool) → closes (kind_at s r.to) ≡ x
            → ((m : Span) (before : Records) → length (tokens_at s m.end false) < f → length s < m.end + g → Spot s m → Same (Listed before) (list_contents value f (C m)) (bind (many (stops s) (one s by) g m before) closing_k))
            → Same (Listed before) (list_contents value (suc f) (C l)) (bind (many (stops s) (one s by) (suc g) l before) closing_k)
        go true e rec = fine (record { values = no_trees; closing = r.found }) (before ++ comments 9 r.found) r.to
            (left ∙ list_off f r.found (C r.to) (ending ∙ e)) (list_end g l before r e) r.spot (no_trees_lem before r.found)
        go false e rec = along (left ∙ list_on f r.found (C r.to) (ending ∙ e)) (list_turn g l before r e)
            (same_bind Shown (Listed before) (value (C r.to)) (by r.to) (list_more f r.found) (turn_l g before r.found) (same r.to r.spot) λ v i n p q sp hv.
            let t = settle_same r.found v i n sp hv in
            along (ap (λ (vc : TokenTree × Cursor). bindP (list_contents value f vc.1) λ l c2. read (record { values = with_prefix r.found vc.0 ∷ᵗ l.values; closing = l.closing }) c2) t.parsed)
            (ap (λ (o : Out Records). bind (bind (bind o (λ ts m. got (comments 7 r.found ++ ts) m)) (λ ts n. many (stops s) (one s by) g n (before ++ ts))) closing_k) t.is)
            (same_map (Listed (before ++ (comments 7 r.found ++ t.recs))) (Listed before) (list_contents value f (C t.to)) (bind (many (stops s) (one s by) g t.to (before ++ (comments 7 r.found ++ t.recs))) closing_k) (λ l. record { values = with_prefix r.found t.value ∷ᵗ l.values; closing = l.closing })
            (rec t.to (before ++ (comments 7 r.found ++ t.recs))
            (omega (arith, fewer l r, strict r.to n v p, fewer_comma r.found v i n t))
            (omega (arith, r.on, ahead r.to n i r.spot q, t.on))
            t.spot)
            λ a ts m z. more_trees before (with_prefix r.found t.value) (comments 7 r.found ++ t.recs) a.values a.closing ts t.shown z))

    -- ---- a map's inside

    abbrev pub map_last : ℕ → List Slice → TokenTree → TokenTree → Cursor → Read TokenMap
    map_last f cs k v c3 =
        let vc = after_comma v c3 in
        bindP (map_contents value f vc.1) λ m c4. read (record { key_values = pair (with_prefix cs k) vc.0 m.key_values; closing = m.closing }) c4

    abbrev pub map_value : ℕ → List Slice → TokenTree → Unit {0} → Cursor → Read TokenMap
    map_value f cs k _ c2 = bindP (value c2) (map_last f cs k)

    abbrev pub map_more : ℕ → List Slice → TokenTree → Cursor → Read TokenMap
    map_more f cs k c1 = bindP (consume_token Colon c1) (map_value f cs k)

    abbrev pub map_from : ℕ → List Slice × Cursor → Read TokenMap
    map_from f p =
        elim (at_end p.1) [
          | true ↦ read (record { key_values = no_pairs; closing = p.0 }) p.1
          | false ↦ bindP (value p.1) (map_more f p.0)
        ]

    map_is : (f : ℕ) (c : Cursor) → map_contents value (suc f) c ≡ map_from f (comments_at c)
    unfolding map_contents
    map_is f c = refl

    map_on : (f : ℕ) (cs : List Slice) (c : Cursor) → at_end c ≡ false → map_from f (cs, c) ≡ bindP (value c) (map_more f cs)
    map_on f cs c e = rw (e, map_from)

    map_off : (f : ℕ) (cs : List Slice) (c : Cursor) → at_end c ≡ true → map_from f (cs, c) ≡ read (record { key_values = no_pairs; closing = cs }) c
    map_off f cs c e = rw (e, map_from)

    abbrev go_on : ℕ → Records → Records → Span → Out Records
    go_on g before ts n = many (stops s) (two s by) g n (before ++ ts)

    abbrev last_m : ℕ → Records → Records → Item → Span → Out Records
    last_m g before own v m = bind (bind (bind (settled s v m) (λ ts r. got (own ++ ts) r)) (go_on g before)) closing_k

    abbrev value_m : ℕ → Records → Records → Unit {0} → Span → Out Records
    value_m g before own _ q = bind (by q) (last_m g before own)

    abbrev key_m : ℕ → Records → List Slice → Item → Span → Out Records
    key_m g before cs k n = bind (expect s Colon n) (value_m g before (comments 7 cs ++ whole k n))

    map_turn : (g : ℕ) (l : Span) (before : Records) (r : Ran l) → closes (kind_at s r.to) ≡ false
        → bind (many (stops s) (two s by) (suc g) l before) closing_k ≡ bind (by r.to) (key_m g before r.found)
    unfolding two
    map_turn g l before r e =
        many_turn (two s by) g l before r e
        ∙ ap (λ (o : Out Records). bind (bind (bind o (λ pre p. bind (by p) (K1 pre))) (go_on g before)) closing_k) (r.runs 7)
        ∙ push (by r.to) (K1 (comments 7 r.found))
        ∙ cong (by r.to) (λ i n. push (expect s Colon n) (K2 (comments 7 r.found) i n) ∙ cong (expect s Colon n) (λ u q. push (by q) (K3 (comments 7 r.found) i n)))
      where
        K3 : Records → Item → Span → Item → Span → Out Records
        K3 pre k n v m = bind (settled s v m) (λ ts r. got ((pre ++ whole k n) ++ ts) r)

        K2 : Records → Item → Span → Unit {0} → Span → Out Records
        K2 pre k n _ q = bind (by q) (K3 pre k n)

        K1 : Records → Item → Span → Out Records
        K1 pre k n = bind (expect s Colon n) (K2 pre k n)

        push : {A : Type 0} (o : Out A) (f : A → Span → Out Records) → bind (bind (bind o f) (go_on g before)) closing_k ≡ bind o (λ a n. bind (bind (f a n) (go_on g before)) closing_k)
        push o f = ap (λ (x : Out Records). bind x closing_k) (bind_assoc o f (go_on g before)) ∙ bind_assoc o (λ a n. bind (f a n) (go_on g before)) closing_k

        cong : {A : Type 0} (o : Out A) {f h : A → Span → Out Records} → ((a : A) (n : Span) → f a n ≡ h a n) → bind o f ≡ bind o h
        cong (refuse x y) p = refl
        cong (got a n) p = p a n

    fewer_token : (n q : Span) (u : Unit {0}) → consume_token Colon (C n) ≡ read u (C q) → length (tokens_at s q.end false) ≤ length (tokens_at s n.end false)
    fewer_token n q u e = rw e at (consume_good Colon (C n))

    far_token : (n c : Span) (u : Unit {0}) → Spot s n → expect s Colon n ≡ got u c → n.end ≤ c.end
    far_token n c u b e = let f : (n.end + 1 ≤ c.end) × Spot s c = rw e at (expect_far s Colon n b) in omega (arith, f.0)

    -- a key with its prefix and suffix comments
    key_is : (cs : List Slice) (k : TokenTree) (i : Item) (n : Span) → Shown k i n → tree_records (with_prefix cs k) ≡ comments 7 cs ++ whole i n
    unfolding whole
    key_is cs (tree sp p v x) i n h = tree_is cs sp p v x i.body (tail_r i.from n) h.0 h.1

    plain_value_lem : (v : TokenTree) → with_prefix [] v ≡ v
    plain_value_lem (tree sp p v x) = refl

    pub map_same : (f g : ℕ) (l : Span) (before : Records) → length (tokens_at s l.end false) < f → length s < l.end + g → Spot s l
        → Same (Mapped before) (map_contents value f (C l)) (bind (many (stops s) (two s by) g l before) closing_k)
    map_same zero g l before h k b = absurd (not-suc-le-zero h)
    map_same (suc f) zero l before h k b = absurd (omega (arith, b.within))
    map_same (suc f) (suc g) l before h fuel b = go (closes (kind_at s r.to)) refl (map_same f g)
      where
        r : Ran l
        r = comments_same l b

        cs : List Slice
        cs = r.found

        left : map_contents value (suc f) (C l) ≡ map_from f (cs, C r.to)
        left = map_is f (C l) ∙ ap (map_from f) r.parsed

        ending : at_end (C r.to) ≡ closes (kind_at s r.to)
        ending = end_same r.to r.spot

        go : (x : Bool) → closes (kind_at s r.to) ≡ x
            → ((m : Span) (before : Records) → length (tokens_at s m.end false) < f → length s < m.end + g → Spot s m → Same (Mapped before) (map_contents value f (C m)) (bind (many (stops s) (two s by) g m before) closing_k))
            → Same (Mapped before) (map_contents value (suc f) (C l)) (bind (many (stops s) (two s by) (suc g) l before) closing_k)
        go true e rec = fine (record { key_values = no_pairs; closing = cs }) (before ++ comments 9 cs) r.to
            (left ∙ map_off f cs (C r.to) (ending ∙ e)) (many_end (two s by) g l before r e) r.spot (no_pairs_lem before cs)
        go false e rec = along (left ∙ map_on f cs (C r.to) (ending ∙ e)) (map_turn g l before r e)
            (same_bind Shown (Mapped before) (value (C r.to)) (by r.to) (map_more f cs) (key_m g before cs) (same r.to r.spot) λ k i n p q sp hk.
            same_bind Both (Mapped before) (consume_token Colon (C n)) (expect s Colon n) (map_value f cs k) (value_m g before (comments 7 cs ++ whole i n)) (consume_same Colon n sp) λ u u' c pc qc spc _.
            same_bind Shown (Mapped before) (value (C c)) (by c) (map_last f cs k) (last_m g before (comments 7 cs ++ whole i n)) (same c spc) λ v j m pv qv spv hv.
            let t = settle_same [] v j m spv hv in
            let own = comments 7 cs ++ whole i n in
            let reach : n.end ≤ c.end = far_token n c u' sp qc in
            along (ap (λ (vc : TokenTree × Cursor). bindP (map_contents value f vc.1) λ m c4. read (record { key_values = pair (with_prefix cs k) vc.0 m.key_values; closing = m.closing }) c4) t.parsed)
            (ap (λ (o : Out Records). bind (bind (bind o (λ ts r. got (own ++ ts) r)) (go_on g before)) closing_k) t.is)
            (same_map (Mapped (before ++ (own ++ t.recs))) (Mapped before) (map_contents value f (C t.to)) (bind (many (stops s) (two s by) g t.to (before ++ (own ++ t.recs))) closing_k)
            (λ m. record { key_values = pair (with_prefix cs k) t.value m.key_values; closing = m.closing })
            (rec t.to (before ++ (own ++ t.recs))
            (omega (arith, fewer l r, strict r.to n k p, fewer_token n c u pc, strict c m v pv, fewer_comma [] v j m t))
            (omega (arith, r.on, ahead r.to n i r.spot q, ahead c m j spc qv, t.on))
            t.spot)
            λ a ts o z. more_pairs before (with_prefix cs k) t.value own t.recs a.key_values a.closing ts (key_is cs k i n hk) (sym (ap tree_records (plain_value_lem t.value)) ∙ t.shown) z))

    pub list_inside_lem : (l : Span) → Spot s l → Same (Listed []) (list_inside value (C l)) (inside s (one s by) l)
    unfolding list_inside inside loop
    list_inside_lem l b = list_same (suc (length (tokens_at s l.end false))) (suc (length s)) l [] (omega arith) (omega arith) b

    pub map_inside_lem : (l : Span) → Spot s l → Same (Mapped []) (map_inside value (C l)) (inside s (two s by) l)
    unfolding map_inside inside loop
    map_inside_lem l b = map_same (suc (length (tokens_at s l.end false))) (suc (length s)) l [] (omega arith) (omega arith) b

    -- ---- a value

    abbrev Valued : ℕ → TokenValue → Records → Span → Type 0
    Valued start v ts n = value_records (span start n.end) v ≡ ts

    -- a container: its inside, and what closes it
    closed_same : {L : Type 0} (P : L → Records → Span → Type 0) (r : Read L) (o : Out Records) (make : L → TokenValue) (k : ℕ) (close : TokenKind) (start name : ℕ) → Same P r o
        → ((a : L) (ts : Records) (n m : Span) → P a ts n → Valued start (make a) (header k start name m.end ts ∷ ts) m)
        → Same (Valued start) (bindP r λ a c1. bindP (consume_token close c1) λ _ c2. read (make a) c2) (closed s k close start name o)
    unfolding closed
    closed_same P r o make k close start name inner made =
        same_bind P (Valued start) r o (λ a c1. bindP (consume_token close c1) λ _ c2. read (make a) c2) (λ ts p. bind (expect s close p) (λ _ q. got (header k start name q.end ts ∷ ts) q)) inner λ a ts n p q sp h.
        same_bind Both (Valued start) (consume_token close (C n)) (expect s close n) (λ _ c2. read (make a) c2) (λ _ q. got (header k start name q.end ts ∷ ts) q) (consume_same close n sp) λ u u' m pm qm spm _.
        fine (make a) (header k start name m.end ts ∷ ts) m refl refl spm (made a ts n m h)

    list_closed : (start : ℕ) (l : Span) → Spot s l
        → Same (Valued start) (bindP (list_inside value (C l)) λ x c1. bindP (consume_token CloseList c1) λ _ c2. read (list_of x.values x.closing) c2) (closed s 4 CloseList start 0 (inside s (one s by) l))
    unfolding value_records
    list_closed start l b =
        closed_same (Listed []) (list_inside value (C l)) (inside s (one s by) l) (λ x. list_of x.values x.closing) 4 CloseList start 0 (list_inside_lem l b) λ x ts n m h. ap (λ (y : Records). header 4 start 0 m.end y ∷ y) h

    map_closed : (start : ℕ) (l : Span) → Spot s l
        → Same (Valued start) (bindP (map_inside value (C l)) λ x c1. bindP (consume_token CloseBrace c1) λ _ c2. read (map_of x.key_values x.closing) c2) (closed s 5 CloseBrace start 0 (inside s (two s by) l))
    unfolding value_records
    map_closed start l b =
        closed_same (Mapped []) (map_inside value (C l)) (inside s (two s by) l) (λ x. map_of x.key_values x.closing) 5 CloseBrace start 0 (map_inside_lem l b) λ x ts n m h. ap (λ (y : Records). header 5 start 0 m.end y ∷ y) h

    variant_closed : (start : ℕ) (name : Slice) (l : Span) → Spot s l
        → Same (Valued start) (bindP (list_inside value (C l)) λ x c1. bindP (consume_token CloseParen c1) λ _ c2. read (variant_of name x.values x.closing) c2) (closed s 6 CloseParen start name.span.end (inside s (one s by) l))
    unfolding value_records
    variant_closed start name l b =
        closed_same (Listed []) (list_inside value (C l)) (inside s (one s by) l) (λ x. variant_of name x.values x.closing) 6 CloseParen start name.span.end (list_inside_lem l b)
        λ x ts n m h. ap (λ (y : Records). header 6 start name.span.end m.end y ∷ y) h

    module _ (t : Token) (l : Span) (b : Spot s l) (g : Gets s l) (p : span_of t ≡ next_span s l) where
      -- the value by its token's number
      bare_by : ℕ → Out Records
      bare_by k =
          cond (eqb k 10) (leaf_at s 1 l)
          (cond (eqb k 11) (leaf_at s 2 l)
          (cond (eqb k 2) (list_at s by l)
          (cond (eqb k 4) (map_at s by l)
          (cond (strings k) (string_at s by l)
          (cond (eqb k 16) (refuse (refused_at MissingValue (span (length s) (length s))) l.end)
          (refuse (refused_at (reason_of k) (next_span s l)) (next_span s l).end))))))

      bare_is : (k : ℕ) → kind_at s l ≡ k → bare_at s by l ≡ bare_by k
      unfolding bare_at bare_by
      bare_is k e = ap bare_by e

      no_value_lem : (r : Reason) (k : ℕ) → refusal_of (refused_at r (next_span s l)) ≡ refusal (number_of r) (next_span s l) → kind_at s l ≡ k → bare_by k ≡ refuse (refused_at r (next_span s l)) (next_span s l).end
          → Same (Valued (next_span s l).start) (refuse_at (number_of r) t) (bare_at s by l)
      no_value_lem r k n e f = fails (refused_at r (next_span s l)) (next_span s l).end
          (ap (λ (sp : Span). refused (refusal (number_of r) sp) sp.end) p ∙ ap (λ (q : paper.Refusal). refused q (next_span s l).end) (sym n)) (bare_is k e ∙ f)

      string_same : strings (kind_at s l) ≡ true → bare_at s by l ≡ string_at s by l → Same (Valued (next_span s l).start) (string_or_variant value t (C (next_span s l))) (bare_at s by l)
      unfolding string_or_variant variant_at leaf_at value_records
      string_same _ e = go (eqb (kind_at s (next_span s l)) 6) refl
        where
          go : (x : Bool) → eqb (kind_at s (next_span s l)) 6 ≡ x → Same (Valued (next_span s l).start) (string_or_variant value t (C (next_span s l))) (bare_at s by l)
          go true f =
              let k = eqb-true (kind_at s (next_span s l)) 6 f in
              let h = gets s (next_span s l) g.bound (omega (arith, k)) in
              along
              (rw (next_same OpenParen (next_span s l) g.bound ∙ f, string_or_variant)
              (ap (λ (c : Cursor). bindP (list_inside value c) λ x c1. bindP (consume_token CloseParen c1) λ _ c2. read (variant_of (slice_of t) x.values x.closing) c2) (skip_same (next_span s l) g.bound (omega (arith, k)))))
              (e ∙ string_variant s by l k ∙ ap (λ (n : ℕ). closed s 6 CloseParen (next_span s l).start n (inside s (one s by) (next_span s (next_span s l)))) (sym (ap (λ (sp : Span). sp.end) p)))
              (variant_closed (next_span s l).start (slice_of t) (next_span s (next_span s l)) h.bound)
          go false f =
              fine (quoted_string t.slice) (leaf 3 (next_span s l) ∷ []) (next_span s l) (rw (next_same OpenParen (next_span s l) g.bound ∙ f, string_or_variant))
              (e ∙ string_leaf s by l (eqb-false (kind_at s (next_span s l)) 6 f)) g.bound refl

      value_same : (kind_at s l ≡ 1 → ⊥) → (k : TokenKind) → kind_at s l ≡ kind_number k → Same (Valued (next_span s l).start) (value_of value k t (C (next_span s l))) (bare_at s by l)
      unfolding value_of bare_by strings reason_of leaf_at value_records list_at map_at
      value_same h Invalid e = no_value_lem Stray 0 refl e refl
      value_same h Comment e = absurd (h e)
      value_same h OpenList e = along refl (bare_is 2 e) (list_closed (next_span s l).start (next_span s l) g.bound)
      value_same h CloseList e = no_value_lem UnbalancedList 3 refl e refl
      value_same h OpenBrace e = along refl (bare_is 4 e) (map_closed (next_span s l).start (next_span s l) g.bound)
      value_same h CloseBrace e = no_value_lem UnbalancedBrace 5 refl e refl
      value_same h OpenParen e = no_value_lem Nameless 6 refl e refl
      value_same h CloseParen e = no_value_lem UnbalancedParen 7 refl e refl
      value_same h Colon e = no_value_lem NoValue 8 refl e refl
      value_same h Comma e = no_value_lem NoValue 9 refl e refl
      value_same h Identifier e = fine (identifier t.slice) (leaf 1 (next_span s l) ∷ []) (next_span s l) refl (bare_is 10 e) g.bound refl
      value_same h Number e = fine (number t.slice) (leaf 2 (next_span s l) ∷ []) (next_span s l) refl (bare_is 11 e) g.bound refl
      value_same h DoubleQuotedString e = string_same (ap strings e) (bare_is 12 e)
      value_same h SingleQuotedString e = string_same (ap strings e) (bare_is 13 e)
      value_same h MultilineBasicString e = string_same (ap strings e) (bare_is 14 e)
      value_same h MultilineLiteralString e = string_same (ap strings e) (bare_is 15 e)

    none_at : (l : Span) → kind_at s l ≡ 16 → bare_at s by l ≡ refuse (refused_at MissingValue (span (length s) (length s))) l.end
    unfolding bare_at strings
    none_at l e = simp e

    -- a value with its comments
    abbrev tree_end : ℕ → List Slice → TokenValue → Cursor → Read TokenTree
    tree_end start cs v c1 = let x = suffix_comment c1 in read (tree (record { start = start; end = (last c1).end }) cs v x.0) x.1

    abbrev item_end : Records → Records → Span → Out Item
    item_end pre t n = got (record { body = pre ++ t; from = n.end }) (suffix_end s n)

    end_item : (start : ℕ) (cs : List Slice) (v : TokenValue) (ts : Records) (n : Span) → Spot s n → Valued start v ts n → Same Shown (tree_end start cs v (C n)) (item_end (comments 7 cs) ts n)
    end_item start cs v ts n b h =
        let x = suffix_same n b in
        fine (tree (span start n.end) cs v x.found) (record { body = comments 7 cs ++ ts; from = n.end }) (suffix_end s n)
        (ap (λ (r : Option Slice × Cursor). read (tree (span start n.end) cs v r.0) r.1) x.parsed) refl (suffix_far s n b).1
        (ap (λ (r : Records). comments 7 cs ++ r) h, x.is)

    behind_same : (cs : List Slice) (l : Span) → (kind_at s l ≡ 1 → ⊥) → Spot s l → Same Shown (tree_behind (length s) value cs (C l)) (bind (bare_at s by l) (item_end (comments 7 cs)))
    unfolding tree_behind
    behind_same cs l h b = go (see s l b)
      where
        go : Seen s l → Same Shown (tree_behind (length s) value cs (C l)) (bind (bare_at s by l) (item_end (comments 7 cs)))
        go (over k e) = fails (refused_at MissingValue (span (length s) (length s))) l.end (ap (λ (ts : List Token). tree_behind (length s) value cs (behind l ts)) e) (ap (λ (o : Out Records). bind o (item_end (comments 7 cs))) (none_at l k))
        go (comes t e p k f g) =
            along
            (ap (λ (ts : List Token). tree_behind (length s) value cs (behind l ts)) e
            ∙ ap (λ (sp : Span). bindP (value_of value t.kind t (behind sp (tokens_at s (next_span s l).end false))) (tree_end t.start cs)) p
            ∙ ap (λ (n : ℕ). bindP (value_of value t.kind t (C (next_span s l))) (tree_end n cs)) (ap (λ (sp : Span). sp.start) p))
            refl
            (same_bind (Valued (next_span s l).start) Shown (value_of value t.kind t (C (next_span s l))) (bare_at s by l) (tree_end (next_span s l).start cs) (item_end (comments 7 cs)) (value_same t l b g p h t.kind (sym k)) λ v ts n _ _ sp h.
            end_item (next_span s l).start cs v ts n sp h)

    pub item_same : (l : Span) → Spot s l → Same Shown (tree_with (length s) value (C l)) (item_at s by l)
    unfolding tree_with item_at
    item_same l b =
        let r = comments_same l b in
        along (ap (λ (q : List Slice × Cursor). tree_behind (length s) value q.0 q.1) r.parsed)
        (ap (λ (o : Out Records). bind o (λ pre q. bind (bare_at s by q) (item_end pre))) (r.runs 7))
        (behind_same r.found r.to r.past r.spot)

  mutual
    unfolding value_at reader

    pub reader_same : (d : ℕ) (l : Span) → Spot s l → Same Shown (value_at (length s) d (C l)) (reader d s l)
    reader_same zero l b = fails (refused_at TooDeep l) l.end refl refl
    reader_same (suc d) l b = item_same (inside_at (length s) d) (inside_at_good (length s) d) (below d s) (below_far d s) (λ q k. below_same d q k) l b

    pub below_same : (d : ℕ) (l : Span) → Spot s l → Same Shown (inside_at (length s) d (C l)) (below d s l)
    below_same zero l b = fails (refused_at TooDeep l) l.end refl refl
    below_same (suc d) l b = reader_same d l b
