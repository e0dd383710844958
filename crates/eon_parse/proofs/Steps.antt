-- What the small functions' answers are, over plain variables. Assumes nothing.
use Rattle.std.proofs.Common.{◌≡◌, ℕ, ◌+◌, ◌-◌, ◌*◌, ◌<◌, ◌≤◌, Bool, true, false, cond, not, eqb, List, [], ◌∷◌, IsSome, Some, None, Ok, Err, sym, refl, ap, ◌∙◌, subst, arith, le-ltb, lt-ltb, eq-eqb, ne_eqb, eqb-true}
use Rattle.std.proofs.lemmas.Bool.{eqb-false}
use lib.Seq.{sets}
use Rattle.eon_spec.specs.Tree.{Span}
use Rattle.eon_spec.specs.Token.{kind_number}
use Rattle.eon_spec.specs.declared.refusal.Reason.TheVariants.{Stray, CutOff, Mismatch}
use Rattle.eon_spec.specs.declared.token_kind.TokenKind.{TokenKind}
use Rattle.eon_spec.specs.declared.token_kind.TokenKind.TheVariants.{Invalid}
use Rattle.eon_spec.specs.declared.record_kind.RecordKind.TheVariants as kind
use Rattle.eon_spec.specs.Records.{leaf}
use Rattle.eon_token.specs.Placed.{placed_at, code_of, kind_of}
use Rattle.eon_token.specs.Place.{Spot, span, place_of, cursor_at, kind_at, next_span, line_feed}
use Rattle.eon_token.specs.declared.cursor.Cursor.{Cursor}
use Rattle.eon_token.specs.declared.token_kind.PlacedToken.{PlacedToken}
use Rattle.eon_token.proofs.KindCodes.{kind_of_lem, kind_same, code_some, code_none, code_small, there}
use Rattle.eon_token.proofs.Places.{Gets, gets}
use Rattle.eon_parse.specs.Walk.{Out, refuse, got, refused_at, no_comment, expect, suffix_end, tail_r}
use Rattle.eon_parse.specs.Answer.{agrees, stop_of, place, Ready, emit, moved, entered, begun, Open, expected, ended_at, record_words, closed_at, tailed, stored, ran, set_cursor, settled_r, StoredEnd}
use Rattle.eon_parse.specs.declared.walk.Walk.{Walk}
use Rattle.eon_parse.specs.declared.walk.Begun.{Begun}
use Rattle.eon_parse.specs.declared.walk.Stop.{Stop}
use Rattle.eon_parse.proofs.Laws.{tail_emit}
use Rattle.eon_parse.proofs.Left.{Reach, expect_far, suffix_far}
use Rattle.eon_parse.proofs.Page.{page, both, emit_p, seal_p}
use Rattle.eon_parse.proofs.Pass.{ready_at, peeks, peeks_kind, peeks_gets, sealed_leaf}
use Rattle.eon_spec.specs.RecordKind.{word_of}
use Rattle.eon_spec.specs.declared.record_kind.RecordKind.{RecordKind}

-- ---- kinds

pub is_comment : (s : List ℕ) (l : Span) → kind_at s l ≡ 1 → no_comment s l ≡ false
unfolding no_comment
is_comment s l e = ap not (eq-eqb (kind_at s l) 1 e)

pub is_none : (s : List ℕ) (l : Span) → (kind_at s l ≡ 1 → ⊥) → no_comment s l ≡ true
unfolding no_comment
is_none s l e = ap not (ne_eqb (kind_at s l) 1 e)

-- whether the next token is of a kind
module _ (s : List ℕ) (c : Cursor) (n : ℕ) (h : Ready s c n) (k : ℕ) (b : Bool) (q : b ≡ eqb (code_of c.peeked.kind) k) where
  pub kind_yes : b ≡ true → kind_at s (place_of c) ≡ k
  kind_yes e = sym (peeks_kind s c n h) ∙ eqb-true _ _ (sym q ∙ e)

  pub kind_no : b ≡ false → kind_at s (place_of c) ≡ k → ⊥
  kind_no e z = eqb-false _ _ (sym q ∙ e) (peeks_kind s c n h ∙ z)

  pub kind_there : k < 16 → b ≡ true → IsSome c.peeked.kind
  kind_there l e = there c.peeked.kind (omega (arith, eqb-true _ _ (sym q ∙ e)))

-- a record that starts with the next token can be ended behind it
pub opens : (s : List ℕ) (w : Walk) → Ready s w.cursor w.count → IsSome w.cursor.peeked.kind → (k : RecordKind) (d : Walk) → d ≡ entered s w (next_span s (place w)) → (b : Begun) → b ≡ begun k w.count w.cursor.peeked.start 0 → Open d b
opens s w h t k d e b f =
    let g = peeks_gets s w.cursor w.count h t in
    let p : w.cursor.peeked.start ≡ (next_span s (place w)).start = ap (λ (t : PlacedToken). t.start) (peeks s w.cursor w.count h) in
    record {
      base = omega (arith, ap (λ (x : Walk). x.count) e, ap (λ (x : Begun). x.base) f);
      start = omega (arith, ap (λ (x : Walk). x.cursor.end) e, ap (λ (x : Begun). x.start) f, p, g.long);
      name = omega (arith, ap (λ (x : Begun). x.name) f);
      few = omega (arith, ap (λ (x : Walk). x.count) e, h.few, h.bound.within, h.short);
      short = omega (arith, ap (λ (x : Walk). x.cursor.end) e, g.bound.within, h.short);
    }

-- ---- a token that must come

module _ (s : List ℕ) (w : Walk) (h : Ready s w.cursor w.count) (k : TokenKind) (t : PlacedToken) (q : t ≡ w.cursor.peeked) where
  p : t ≡ placed_at s w.cursor.end
  p = q ∙ peeks s w.cursor w.count h

  kind_is : code_of t.kind ≡ kind_at s (place w)
  kind_is = ap (λ (u : PlacedToken). code_of u.kind) p

  pub must_end : t.kind ≡ None → (x : Stop) → x ≡ stop_of (refused_at (CutOff k) (place w)) w.cursor.end → Err x ≡ expected s w (expect s k (place w))
  unfolding expected expect
  must_end e x f = ap Err f ∙ rw (eq-eqb _ _ (sym kind_is ∙ code_none t.kind e))

  not_end : (f : TokenKind) → t.kind ≡ Some f → eqb (kind_at s (place w)) 16 ≡ false
  not_end f e = ne_eqb _ _ (λ z. omega (arith, kind_is, code_small t.kind (rw e refl)))

  pub must_stray : t.kind ≡ Some Invalid → (x : Stop) → x ≡ stop_of (refused_at Stray (span t.start t.end)) t.end → Err x ≡ expected s w (expect s k (place w))
  unfolding expected expect
  must_stray e x f =
      ap Err f ∙ ap (λ (u : PlacedToken). Err (stop_of (refused_at Stray (span u.start u.end)) u.end)) p ∙ rw (not_end Invalid e, eq-eqb _ _ (sym kind_is ∙ code_some t.kind Invalid e))

  module _ (f : TokenKind) (e : t.kind ≡ Some f) (a : f ≡ Invalid → ⊥) where
    code : kind_at s (place w) ≡ kind_number f
    code = sym kind_is ∙ code_some t.kind f e

    not_stray : eqb (kind_at s (place w)) 0 ≡ false
    not_stray = ne_eqb _ _ (λ z. a (kind_same f Invalid (sym code ∙ z)))

    pub must_done : kind_at s (place w) ≡ kind_number k → (x : Walk) → x ≡ moved s w (next_span s (place w)) → Ok x ≡ expected s w (expect s k (place w))
    unfolding expected expect
    must_done z x y = ap Ok y ∙ rw (not_end f e, not_stray, eq-eqb _ _ z)

    pub must_other : (kind_at s (place w) ≡ kind_number k → ⊥) → (x : Stop) → x ≡ stop_of (refused_at (Mismatch k f) (span t.start t.end)) t.end → Err x ≡ expected s w (expect s k (place w))
    unfolding expected expect
    must_other z x y =
        ap Err y
        ∙ ap (λ (u : PlacedToken). Err (stop_of (refused_at (Mismatch k f) (span u.start u.end)) u.end)) p
        ∙ ap (λ (g : TokenKind). Err (stop_of (refused_at (Mismatch k g) (next_span s (place w))) (next_span s (place w)).end)) (sym (ap kind_of code ∙ kind_of_lem f))
        ∙ rw (not_end f e, not_stray, ne_eqb _ _ z)

-- a container's end
module _ (s old tb : List ℕ) (w : Walk) (b : Begun) where
  pub close_no : (o : Out (Unit {0})) (x : Stop) → Err x ≡ expected s w o → Err x ≡ closed_at s old w o b
  unfolding expected closed_at
  close_no (refuse r p) x e = ap Err cc
  close_no (got u l) x e = cc

  pub close_stored_no : (o : Out (Unit {0})) (x : Stop) → Err x ≡ expected s w o → (tb' : List ℕ) → StoredEnd s tb w o b tb'
  unfolding expected
  close_stored_no (refuse r p) x e tb' = tt
  close_stored_no (got u l) x e tb' = cc

  module _ (x : Walk) where
    pub close_ok : (o : Out (Unit {0})) → Ok x ≡ expected s w o → (y : Walk) → y ≡ ended_at x old b → Ok y ≡ closed_at s old w o b
    unfolding expected closed_at
    close_ok (refuse r p) e y f = cc
    close_ok (got u l) e y f = let q : x ≡ moved s w l = cc in ap Ok (f ∙ ap (λ (v : Walk). ended_at v old b) q)

    pub close_stored : (o : Out (Unit {0})) → Ok x ≡ expected s w o → (tb' : List ℕ) → tb' ≡ sets tb (5 * b.base) (record_words x b) → StoredEnd s tb w o b tb'
    unfolding expected
    close_stored (refuse r p) e tb' f = tt
    close_stored (got u l) e tb' f = let q : x ≡ moved s w l = cc in f ∙ ap (λ (v : Walk). sets tb (5 * b.base) (record_words v b)) q

-- a record that could be ended before that token can be ended behind it
pub opens_behind : (s : List ℕ) (w : Walk) (b : Begun) → Ready s w.cursor w.count → Open w b → (k : TokenKind) (x : Walk) → Ok x ≡ expected s w (expect s k (place w)) → Open x b
unfolding expected
opens_behind s w b h a k x e = go (expect s k (place w)) (expect_far s k (place w) h.bound) e
  where
    go : (o : Out (Unit {0})) → Reach (λ _. 1) s (place w) o → Ok x ≡ expected s w o → Open x b
    go (refuse r p) f e = cc
    go (got u l) f e =
        let q : x ≡ moved s w l = cc in
        let n = ap (λ (v : Walk). v.count) q in
        let m = ap (λ (v : Walk). v.cursor.end) q in
        record {
          base = omega (arith, n, a.base);
          start = omega (arith, m, f.0, a.start);
          name = omega (arith, m, f.0, a.name);
          few = omega (arith, n, a.few);
          short = omega (arith, m, f.1.within, h.short);
        }

-- ---- a suffix comment

module _ (s : List ℕ) (c : Cursor) (h : Ready s c 0) where
  pub suffix_none : (kind_at s (place_of c) ≡ 1 → ⊥) → c ≡ cursor_at s (suffix_end s (place_of c))
  unfolding suffix_end
  suffix_none a = h.fresh ∙ ap (cursor_at s) (ap (λ (b : Bool). cond b (cond (line_feed s c.end (next_span s (place_of c)).start) (place_of c) (next_span s (place_of c))) (place_of c)) (sym (ne_eqb _ _ a)))

  module _ (e : kind_at s (place_of c) ≡ 1) where
    suffix_by : (b : Bool) → line_feed s c.end (next_span s (place_of c)).start ≡ b → cond b (place_of c) (next_span s (place_of c)) ≡ suffix_end s (place_of c)
    unfolding suffix_end
    suffix_by b f =
        ap (λ (x : Bool). cond x (place_of c) (next_span s (place_of c))) (sym f)
        ∙ ap (λ (x : Bool). cond x (cond (line_feed s c.end (next_span s (place_of c)).start) (place_of c) (next_span s (place_of c))) (place_of c)) (sym (eq-eqb _ _ e))

    pub suffix_feed : line_feed s c.end (next_span s (place_of c)).start ≡ true → c ≡ cursor_at s (suffix_end s (place_of c))
    suffix_feed f = h.fresh ∙ ap (cursor_at s) (suffix_by true f)

    pub suffix_there : line_feed s c.end (next_span s (place_of c)).start ≡ false → (x : Cursor) → x ≡ cursor_at s (next_span s (place_of c)) → x ≡ cursor_at s (suffix_end s (place_of c))
    suffix_there f x q = q ∙ ap (cursor_at s) (suffix_by false f)

module _ (old tb : List ℕ) (w : Walk) (from : ℕ) where
  own : w.count + 1 - w.count ≡ 1
  own = omega arith

  pub tail_ended : from < w.cursor.end → ended_at (record { cursor = w.cursor; count = w.count + 1; same = w.same }) old (begun kind.SuffixComment w.count w.cursor.start 0) ≡ tailed old w (tail_r from (place w))
  unfolding tail_r
  tail_ended h =
      ap (λ (n : ℕ). record { cursor = w.cursor; count = w.count + 1; same = cond w.same (agrees old (5 * w.count) (8 ∷ w.cursor.start ∷ w.cursor.end ∷ w.cursor.end ∷ n ∷ [])) false }) own
      ∙ ap (λ (b : Bool). tailed old w (cond b (leaf 8 (place w) ∷ []) [])) (sym (lt-ltb from w.cursor.end h))

  pub tail_put : from < w.cursor.end → sets tb (5 * w.count) (record_words (record { cursor = w.cursor; count = w.count + 1; same = w.same }) (begun kind.SuffixComment w.count w.cursor.start 0)) ≡ stored tb w (tail_r from (place w))
  unfolding tail_r
  tail_put h =
      ap (λ (n : ℕ). sets tb (5 * w.count) (8 ∷ w.cursor.start ∷ w.cursor.end ∷ w.cursor.end ∷ n ∷ [])) own
      ∙ ap (λ (b : Bool). stored tb w (cond b (leaf 8 (place w) ∷ []) [])) (sym (lt-ltb from w.cursor.end h))

  pub tail_none : w.cursor.end ≤ from → w ≡ tailed old w (tail_r from (place w))
  unfolding tail_r agrees
  tail_none h = nothing ∙ ap (λ (b : Bool). tailed old w (cond b (leaf 8 (place w) ∷ []) [])) (sym (le-ltb from w.cursor.end h))
    where
      more : w.count ≡ w.count + 0
      more = omega arith

      and : (b : Bool) → b ≡ cond b true false
      and true = refl
      and false = refl

      nothing : w ≡ tailed old w []
      nothing = λ i. record { cursor = w.cursor; count = more i; same = and w.same i }

  pub tail_kept : w.cursor.end ≤ from → tb ≡ stored tb w (tail_r from (place w))
  unfolding tail_r
  tail_kept h = ap (λ (b : Bool). stored tb w (cond b (leaf 8 (place w) ∷ []) [])) (sym (le-ltb from w.cursor.end h))

-- a record with nothing inside, and the page behind it
pub leaf_put : (s old tb : List ℕ) (w : Walk) → Ready s w.cursor w.count → (k : RecordKind) → eqb (word_of k) 6 ≡ false → (d : Walk) → d ≡ entered s w (next_span s (place w))
    → (b : Begun) → b ≡ begun k w.count w.cursor.peeked.start 0 → (x : Walk) → x ≡ ended_at d old b → (tb' : List ℕ) → tb' ≡ sets tb (5 * b.base) (record_words d b)
    → page x tb' ≡ emit_p s old (page w tb) (leaf (word_of k) (next_span s (place w)) ∷ []) (next_span s (place w))
leaf_put s old tb w h k ne d e b f x p tb' q =
    sealed_leaf s old (page w tb) (next_span s (place w)) k ne (page x tb')
    (both p q ∙ ap (λ (y : Walk). seal_p s old (page y tb) b) e ∙ ap (seal_p s old (page (entered s w (next_span s (place w))) tb)) (f ∙ ap (λ (n : ℕ). begun k w.count n 0) (ap (λ (t : PlacedToken). t.start) (peeks s w.cursor w.count h))))

-- ---- a value is settled

module _ (s old : List ℕ) (w : Walk) (from : ℕ) (h : Ready s w.cursor w.count) where
  pub settle_plain : (kind_at s (place w) ≡ 9 → ⊥) → (x : Walk) → x ≡ tailed old w (tail_r from (place w)) → x ≡ ran s old w (settled_r s (place w) from)
  unfolding ran
  settle_plain a x e = rw (ne_eqb _ _ a) (e ∙ tail_emit s old w h.fresh (tail_r from (place w)))

  module _ (z : kind_at s (place w) ≡ 9) (d : Walk) (a : d ≡ moved s w (next_span s (place w))) where
    comma : Gets s (place w)
    comma = gets s (place w) h.bound (omega arith)

    pub comma_ready : Ready s d.cursor 0
    comma_ready = ready_at s w.cursor w.count 0 d.cursor (next_span s (place w)) h (ap (λ (y : Walk). y.cursor) a) comma.bound (omega arith)

    pub comma_spot : (e : Cursor) → e ≡ cursor_at s (suffix_end s (place_of d.cursor)) → Spot s (place_of e)
    comma_spot e b = subst (λ (y : Cursor). Spot s (place_of y)) (sym b) (suffix_far s (place_of d.cursor) comma_ready.bound).1

    pub settle_comma : (e : Cursor) → e ≡ cursor_at s (suffix_end s (place_of d.cursor)) → (f : Walk) → f ≡ set_cursor d e → (r : Walk) → r ≡ tailed old f (tail_r d.cursor.end (place f)) → r ≡ ran s old w (settled_r s (place w) from)
    unfolding ran emit
    settle_comma e b f c r q =
        rw (eq-eqb _ _ z)
        (q
        ∙ ap (λ (x : Walk). tailed old x (tail_r d.cursor.end (place x))) (c ∙ ap (set_cursor d) b)
        ∙ ap (λ (x : Walk). tailed old (set_cursor x (cursor_at s (suffix_end s (place_of x.cursor)))) (tail_r x.cursor.end (suffix_end s (place_of x.cursor)))) a)
