-- What is left of a loop's definition, from the place where it stands; and how far a reading gets.
-- Assumes nothing.
use Rattle.eon_spec.specs.declared.token_kind.TokenKind.TheVariants.{CloseList, CloseBrace, CloseParen, Colon}
use Rattle.std.proofs.Common.{◌≡◌, ℕ, zero, suc, ◌+◌, ◌<◌, ◌≤◌, Bool, true, false, not, eqb, ltb, List, [], ◌∷◌, ◌++◌, length, sym, refl, ap, ◌∙◌, arith, length-append, ltb-true, eqb-true}
use Rattle.std.proofs.lemmas.Bool.{eqb-false}
use Rattle.eon_spec.specs.Tree.{Span}
use Rattle.eon_spec.specs.declared.refusal.Refusal.{Refusal}
use Rattle.eon_spec.specs.Records.{leaf}
use Rattle.eon_spec.specs.declared.token_kind.TokenKind.{TokenKind}
use Rattle.eon_spec.specs.Token.{kind_number}
use Rattle.eon_token.specs.Place.{Spot, kind_at, next_span, line_feed}
use Rattle.eon_parse.specs.Walk.{Out, refuse, got, bind, Records, strings, many, loop, comment, no_comment, run, expect, suffix_end, tail_r, Item, whole, settled, stops, one, two, inside, closed, header, list_at, map_at, variant_at, leaf_at, string_at, bare_at, item_at, reader, below}
use Rattle.eon_token.proofs.Places.{Gets, gets, kind_lt}
use Rattle.eon_parse.proofs.Laws.{picked, Came}

pub record Left (s : List ℕ) (stop : Span → Bool) (step : Span → Out Records) (start at : Span) (done : Records) : Type 0 where
  pub fuel : ℕ
  pub enough : length s < at.end + fuel
  pub rest : many stop step fuel at done ≡ loop s stop step start
  pub few : start.end + length done ≤ at.end
  pub bound : Spot s at

-- how far a step gets, and anything else that is read: each record takes a byte
abbrev pub Far : List ℕ → Span → Out Records → Type 0
Far s l (refuse r e) = Unit {0}
Far s l (got ts n) = (l.end + length ts ≤ n.end) × (l.end < n.end) × Spot s n

abbrev pub Reach : {A : Type 0} → (A → ℕ) → List ℕ → Span → Out A → Type 0
Reach m s l (refuse r e) = Unit {0}
Reach m s l (got a n) = (l.end + m a ≤ n.end) × Spot s n

abbrev pub FarItem : List ℕ → Span → Out Item → Type 0
FarItem s l (refuse r e) = Unit {0}
FarItem s l (got i n) = (l.end + length i.body ≤ i.from) × (l.end < i.from) × (i.from ≤ n.end) × Spot s n

module _ (s : List ℕ) (stop : Span → Bool) (step : Span → Out Records) (start : Span) where
  pub left_start : Spot s start → Left s stop step start start []
  unfolding loop
  left_start h = record { fuel = suc (length s); enough = omega arith; rest = refl; few = omega arith; bound = h }

  module _ (at : Span) (done : Records) (l : Left s stop step start at done) where
    some : (f : ℕ) → length s < at.end + f → (g : ℕ) × (f ≡ suc g)
    some zero h = absurd (omega (arith, l.bound.within))
    some (suc g) h = (g, refl)

    pub left_end : stop at ≡ true → loop s stop step start ≡ got done at
    unfolding many
    left_end e =
        let g = some l.fuel l.enough in
        sym l.rest ∙ ap (λ (f : ℕ). many stop step f at done) g.1 ∙ simp e

    pub turn : stop at ≡ false → (g : ℕ) × (length s < at.end + suc g) × (loop s stop step start ≡ bind (step at) (λ ts n. many stop step g n (done ++ ts)))
    unfolding many
    turn e =
        let g = some l.fuel l.enough in
        (g.0, rw g.1 at l.enough, sym l.rest ∙ ap (λ (f : ℕ). many stop step f at done) g.1 ∙ simp e)

    pub left_stop : stop at ≡ false → {r : Refusal} {p : ℕ} → step at ≡ refuse r p → loop s stop step start ≡ refuse r p
    left_stop e r = (turn e).2 ∙ simp r

    pub left_turn : stop at ≡ false → {ts : Records} {n : Span} → step at ≡ got ts n → Far s at (got ts n) → Left s stop step start n (done ++ ts)
    left_turn e {ts} {n} r h =
        let t = turn e in
        record {
          fuel = t.0;
          enough = omega (arith, t.1, h);
          rest = sym (t.2 ∙ simp r);
          few = omega (arith, length-append done ts, l.few, h);
          bound = h.2;
        }

  -- a loop whose steps get on reaches
  module _ (far : (p : Span) → Spot s p → stop p ≡ false → Far s p (step p)) where
    many_reach : (b : Span) (f : ℕ) (at : Span) (done : Records) → b.end + length done ≤ at.end → Spot s at → Reach length s b (many stop step f at done)
    unfolding many
    many_reach b zero at done few in-s = tt
    many_reach b (suc f) at done few in-s =
        picked (Reach length s b) (stop at) (λ e. (few, in-s)) (λ e. go (step at) (far at in-s e) (λ ts n. many_reach b f n (done ++ ts)))
      where
        go : (o : Out Records) → Far s at o
            → ((ts : Records) (n : Span) → b.end + length (done ++ ts) ≤ n.end → Spot s n → Reach length s b (many stop step f n (done ++ ts)))
            → Reach length s b (bind o (λ ts n. many stop step f n (done ++ ts)))
        go (refuse k p) g next = tt
        go (got ts n) g next = next ts n (omega (arith, g, length-append done ts)) g.2

    pub loop_reach : Spot s start → Reach length s start (loop s stop step start)
    unfolding loop
    loop_reach h = many_reach start (suc (length s)) start [] (omega arith) h

-- ---- comments

pub not_comment : (s : List ℕ) (l : Span) → no_comment s l ≡ false → kind_at s l ≡ 1
unfolding no_comment
not_comment s l = go (eqb (kind_at s l) 1) refl
  where
    go : (b : Bool) → eqb (kind_at s l) 1 ≡ b → not b ≡ false → kind_at s l ≡ 1
    go true e h = eqb-true (kind_at s l) 1 e
    go false e h = cc

pub comment_gets : (s : List ℕ) (p : Span) → Spot s p → no_comment s p ≡ false → Gets s p
comment_gets s p b e = gets s p b (omega (arith, not_comment s p e))

module _ (s : List ℕ) (kind : ℕ) where
  pub comment_far : (p : Span) → Spot s p → no_comment s p ≡ false → Far s p (comment s kind p)
  unfolding comment
  comment_far p b e = let g = comment_gets s p b e in (omega (arith, g.behind, g.long), omega (arith, g.behind, g.long), g.bound)

  many_got : (f : ℕ) (at : Span) (done : Records) → length s < at.end + f → Spot s at → Came (many (no_comment s) (comment s kind) f at done) (λ ts n. Unit {0})
  unfolding many comment
  many_got zero at done h k = absurd (omega (arith, k.within))
  many_got (suc f) at done h k =
      picked (λ (o : Out Records). Came o (λ ts n. Unit {0})) (no_comment s at)
      (λ e. record { what = done; next = at; is = refl; so = tt })
      (λ e. let g = comment_gets s at k e in many_got f (next_span s at) (done ++ (leaf kind (next_span s at) ∷ [])) (omega (arith, g.behind, g.long)) g.bound)

  -- comments are never refused
  pub run_got : (at : Span) → Spot s at → Came (run s kind at) (λ f p. (at.end + length f ≤ p.end) × Spot s p)
  unfolding run loop
  run_got at h =
      let c = many_got (suc (length s)) at [] (omega arith) h in
      record { what = c.what; next = c.next; is = c.is; so = rw c.is at (reach at h) }
    where
      reach : (p : Span) → Spot s p → Reach length s p (loop s (no_comment s) (comment s kind) p)
      reach p k = loop_reach s (no_comment s) (comment s kind) p (λ q j e. comment_far q j e) k

-- ---- a suffix comment, a token

pub suffix_far : (s : List ℕ) (p : Span) → Spot s p → (p.end ≤ (suffix_end s p).end) × Spot s (suffix_end s p)
unfolding suffix_end
suffix_far s p h =
    picked (λ (n : Span). (p.end ≤ n.end) × Spot s n) (eqb (kind_at s p) 1)
    (λ e. let g = gets s p h (omega (arith, eqb-true (kind_at s p) 1 e)) in
    picked (λ (n : Span). (p.end ≤ n.end) × Spot s n) (line_feed s p.end (next_span s p).start)
    (λ e. (omega arith, h)) (λ e. (omega (arith, g.behind, g.long), g.bound)))
    (λ e. (omega arith, h))

pub tail_size : (from : ℕ) (to : Span) → from ≤ to.end → from + length (tail_r from to) ≤ to.end
unfolding tail_r
tail_size from to h = picked (λ (f : Records). from + length f ≤ to.end) (ltb from to.end) (λ e. omega (arith, ltb-true from to.end e)) (λ e. omega arith)

pub expect_far : (s : List ℕ) (k : TokenKind) (p : Span) → Spot s p → Reach (λ _. 1) s p (expect s k p)
unfolding expect
expect_far s k p b =
    picked (Reach (λ _. 1) s p) (eqb (kind_at s p) 16) (λ e. tt)
    λ e. picked (Reach (λ _. 1) s p) (eqb (kind_at s p) 0) (λ e. tt)
    λ _. picked (Reach (λ _. 1) s p) (eqb (kind_at s p) (kind_number k))
    (λ _. let g = gets s p b (kind_lt s p (eqb-false (kind_at s p) 16 e)) in (omega (arith, g.behind, g.long), g.bound))
    (λ _. tt)

pub settled_far : (s : List ℕ) (i : Item) (at n : Span) → FarItem s at (got i n) → Far s at (settled s i n)
unfolding settled whole
settled_far s i at n h =
    picked (Far s at) (eqb (kind_at s n) 9)
    (λ e. let k = gets s n h.3 (omega (arith, eqb-true (kind_at s n) 9 e)) in
    let g = suffix_far s (next_span s n) k.bound in
    let z = tail_size (next_span s n).end (suffix_end s (next_span s n)) g.0 in
    let w = length-append i.body (tail_r (next_span s n).end (suffix_end s (next_span s n))) in
    (omega (arith, h, g.0, k.behind, k.long), omega (arith, h, g.0, k.behind, k.long), g.1))
    (λ e. let z = tail_size i.from n h.2 in let w = length-append i.body (tail_r i.from n) in (omega (arith, h), omega (arith, h), h.3))

pub strings_lt : (k : ℕ) → strings k ≡ true → k < 16
unfolding strings
strings_lt k =
    picked (λ (b : Bool). b ≡ true → k < 16) (eqb k 12) (λ e _. omega (arith, eqb-true k 12 e))
    λ _. picked (λ (b : Bool). b ≡ true → k < 16) (eqb k 13) (λ e _. omega (arith, eqb-true k 13 e))
    λ _. picked (λ (b : Bool). b ≡ true → k < 16) (eqb k 14) (λ e _. omega (arith, eqb-true k 14 e))
    λ _ e. omega (arith, eqb-true k 15 e)

-- ---- a step of an inside, an inside, a value

module _ (s : List ℕ) where
  after_items : (at p : Span) (pre : Records) → at.end + length pre ≤ p.end → (o : Out Records) → Far s p o → Far s at (bind o (λ ts m. got (pre ++ ts) m))
  after_items at p pre h (refuse k q) f = tt
  after_items at p pre h (got ts m) f = let z = length-append pre ts in (omega (arith, f.0), omega (arith, f.1), f.2)

  pub inside_reach : (step : Span → Out Records) → ((p : Span) → Spot s p → Far s p (step p)) → (at : Span) → Spot s at → Reach length s at (inside s step at)
  unfolding inside
  inside_reach step far at h = go (loop s (stops s) step at) (loop_reach s (stops s) step at (λ p k e. far p k) h)
    where
      go : (o : Out Records) → Reach length s at o → Reach length s at (bind o (λ ts p. bind (run s 9 p) (λ cs q. got (ts ++ cs) q)))
      go (refuse k p) r = tt
      go (got ts p) r = let c = run_got s 9 p r.1 in let z = length-append ts c.what in rw c.is (omega (arith, r.0, c.so.0), c.so.1)

  closed_far : (kind : ℕ) (close : TokenKind) (start name : ℕ) (at l : Span) → at.end < l.end → (o : Out Records) → Reach length s l o → Far s at (closed s kind close start name o)
  unfolding closed
  closed_far kind close start name at l h (refuse k p) r = tt
  closed_far kind close start name at l h (got ts p) r = go (expect s close p) (expect_far s close p r.1)
    where
      go : (o : Out (Unit {0})) → Reach (λ _. 1) s p o → Far s at (bind o (λ _ q. got (header kind start name q.end ts ∷ ts) q))
      go (refuse k q) f = tt
      go (got u q) f = (omega (arith, f.0, r.0), omega (arith, f.0, r.0), f.1)

  module _ (read : Span → Out Item) (far : (p : Span) → Spot s p → FarItem s p (read p)) where
    pub one_far : (at : Span) → Spot s at → Far s at (one s read at)
    unfolding one
    one_far at h = let c = run_got s 7 at h in rw c.is (go c.what c.next c.so.0 (read c.next) (far c.next c.so.1))
      where
        go : (pre : Records) (p : Span) → at.end + length pre ≤ p.end → (o : Out Item) → FarItem s p o → Far s at (bind o (λ i n. bind (settled s i n) (λ ts m. got (pre ++ ts) m)))
        go pre p k (refuse j q) f = tt
        go pre p k (got i n) f = after_items at p pre k (settled s i n) (settled_far s i p n f)

    pub two_far : (at : Span) → Spot s at → Far s at (two s read at)
    unfolding two whole
    two_far at h = let c = run_got s 7 at h in rw c.is (key c.what c.next c.so.0 (read c.next) (far c.next c.so.1))
      where
        value : (pre : Records) (q : Span) → at.end + length pre ≤ q.end → (o : Out Item) → FarItem s q o → Far s at (bind o (λ v m. bind (settled s v m) (λ ts r. got (pre ++ ts) r)))
        value pre q k (refuse j p) f = tt
        value pre q k (got v m) f = after_items at q pre k (settled s v m) (settled_far s v q m f)

        colon : (pre : Records) (n : Span) → at.end + length pre ≤ n.end → (o : Out (Unit {0})) → Reach (λ _. 1) s n o
            → Far s at (bind o (λ _ q. bind (read q) (λ v m. bind (settled s v m) (λ ts r. got (pre ++ ts) r))))
        colon pre n k (refuse j p) f = tt
        colon pre n k (got u q) f = value pre q (omega (arith, f.0)) (read q) (far q f.1)

        key : (pre : Records) (p : Span) → at.end + length pre ≤ p.end → (o : Out Item) → FarItem s p o
            → Far s at (bind o (λ k n. bind (expect s Colon n) (λ _ q. bind (read q) (λ v m. bind (settled s v m) (λ ts r. got ((pre ++ whole k n) ++ ts) r)))))
        key pre p k (refuse j q) f = tt
        key pre p k (got i n) f =
            let z = tail_size i.from n f.2 in
            let w = length-append i.body (tail_r i.from n) in
            let v = length-append pre (i.body ++ tail_r i.from n) in
            colon (pre ++ whole i n) n (omega (arith, f.0, f.1)) (expect s Colon n) (expect_far s Colon n f.3)

    pub list_reach : (at : Span) → Spot s at → Reach length s at (inside s (one s read) at)
    list_reach at h = inside_reach (one s read) one_far at h

    pub map_reach : (at : Span) → Spot s at → Reach length s at (inside s (two s read) at)
    map_reach at h = inside_reach (two s read) two_far at h

    leaf_far : (kind : ℕ) (at : Span) → Gets s at → Far s at (leaf_at s kind at)
    unfolding leaf_at
    leaf_far kind at g = (omega (arith, g.behind, g.long), omega (arith, g.behind, g.long), g.bound)

    string_far : (at : Span) → Gets s at → Far s at (string_at s read at)
    unfolding string_at variant_at
    string_far at g =
        picked (Far s at) (eqb (kind_at s (next_span s at)) 6)
        (λ e. let h = gets s (next_span s at) g.bound (omega (arith, eqb-true (kind_at s (next_span s at)) 6 e)) in
        closed_far 6 CloseParen (next_span s at).start (next_span s at).end at (next_span s (next_span s at)) (omega (arith, g.behind, g.long, h.behind, h.long)) _ (list_reach (next_span s (next_span s at)) h.bound))
        (λ e. leaf_far 3 at g)

    pub bare_far : (at : Span) → Spot s at → Far s at (bare_at s read at)
    unfolding bare_at list_at map_at
    bare_far at h =
        picked (Far s at) (eqb (kind_at s at) 10) (λ e. leaf_far 1 at (on 10 (omega arith) e))
        λ _. picked (Far s at) (eqb (kind_at s at) 11) (λ e. leaf_far 2 at (on 11 (omega arith) e))
        λ _. picked (Far s at) (eqb (kind_at s at) 2)
        (λ e. let g = on 2 (omega arith) e in closed_far 4 CloseList _ 0 at (next_span s at) (omega (arith, g.behind, g.long)) _ (list_reach (next_span s at) g.bound))
        λ _. picked (Far s at) (eqb (kind_at s at) 4)
        (λ e. let g = on 4 (omega arith) e in closed_far 5 CloseBrace _ 0 at (next_span s at) (omega (arith, g.behind, g.long)) _ (map_reach (next_span s at) g.bound))
        λ _. picked (Far s at) (strings (kind_at s at)) (λ e. string_far at (gets s at h (strings_lt (kind_at s at) e)))
        λ _. picked (Far s at) (eqb (kind_at s at) 16) (λ e. tt) (λ e. tt)
      where
        on : (k : ℕ) → k < 16 → eqb (kind_at s at) k ≡ true → Gets s at
        on k l e = gets s at h (omega (arith, eqb-true (kind_at s at) k e))

    item_far : (at : Span) → Spot s at → FarItem s at (item_at s read at)
    unfolding item_at
    item_far at h = let c = run_got s 7 at h in rw c.is (go c.what c.next c.so.0 (bare_at s read c.next) (bare_far c.next c.so.1))
      where
        go : (pre : Records) (p : Span) → at.end + length pre ≤ p.end → (o : Out Records) → Far s p o
            → FarItem s at (bind o (λ t n. got (record { body = pre ++ t; from = n.end }) (suffix_end s n)))
        go pre p k (refuse j q) f = tt
        go pre p k (got t n) f =
            let z = length-append pre t in
            let g = suffix_far s n f.2 in
            (omega (arith, f.0), omega (arith, f.1), g.0, g.1)

mutual
  unfolding reader

  pub reader_far : (d : ℕ) (s : List ℕ) (at : Span) → Spot s at → FarItem s at (reader d s at)
  reader_far zero s at h = tt
  reader_far (suc d) s at h = item_far s (below d s) (λ p k. below_far d s p k) at h

  pub below_far : (d : ℕ) (s : List ℕ) (at : Span) → Spot s at → FarItem s at (below d s at)
  below_far zero s at h = tt
  below_far (suc d) s at h = reader_far d s at h
