-- Either pass: its loops' invariant, and what a start, a turn, a stop and an end make of it.
-- Assumes nothing.
use Rattle.eon_spec.specs.declared.refusal.Reason.TheVariants.{MissingValue}
use Rattle.eon_spec.specs.declared.token_kind.TokenKind.TheVariants.{Colon}
use Rattle.std.proofs.Common.{◌≡◌, ℕ, ◌+◌, ◌<◌, ◌≤◌, Bool, true, false, cond, eqb, List, [], ◌∷◌, ◌++◌, length, IsSome, sym, refl, ap, ◌∙◌, subst, arith, length-append, eq-eqb, ne_eqb}
use Rattle.eon_spec.specs.Tree.{Span}
use Rattle.eon_spec.specs.declared.refusal.Refusal.{Refusal}
use Rattle.eon_spec.specs.Records.{Record, record_at, leaf}
use Rattle.eon_token.specs.Placed.{placed_at, code_of}
use Rattle.eon_token.specs.Place.{Spot, Standing, place_of, cursor_at, kind_at, next_span, span}
use Rattle.eon_parse.specs.Walk.{Out, refuse, got, Records, strings, loop, run, expect, suffix_end, tail_r, Item, whole, settled, stops, one, two, inside, header, list_at, map_at, variant_at, leaf_at, string_at, bare_at, item_at, reason_of, refused_at}
use Rattle.eon_parse.specs.Answer.{Ready}
use Rattle.eon_token.specs.declared.cursor.Cursor.{Cursor}
use Rattle.eon_parse.specs.Answer.{moved as moved_w, entered as entered_w, begun}
use Rattle.eon_parse.specs.declared.walk.Begun.{Begun}
use Rattle.eon_spec.specs.RecordKind.{word_of}
use Rattle.eon_spec.specs.declared.record_kind.RecordKind.{RecordKind}
use Rattle.eon_parse.proofs.Page.{Page, page, both, emit_p, seal_p, none_p, again_p, finish_p}
use Rattle.eon_token.proofs.Places.{Gets, peeks as peeked, peeks_kind as peeked-kind, peeks_gets as peeked-gets}
use Rattle.eon_parse.proofs.Laws.{Came, emit_cursor, emit_count, emit_moved as moved_emit}
use Rattle.eon_parse.proofs.Left.{Left, Far, FarItem, left_start, left_end, left_turn, left_stop, run_got, tail_size, expect_far, settled_far}

-- ---- a value, by its token

module _ (s : List ℕ) (read : Span → Out Item) (at : Span) where
  abbrev pub bare_by : ℕ → Out Records
  bare_by k =
      cond (eqb k 10) (leaf_at s 1 at)
      (cond (eqb k 11) (leaf_at s 2 at)
      (cond (eqb k 2) (list_at s read at)
      (cond (eqb k 4) (map_at s read at)
      (cond (strings k) (string_at s read at)
      (cond (eqb k 16) (refuse (refused_at MissingValue (span (length s) (length s))) at.end)
      (refuse (refused_at (reason_of k) (next_span s at)) (next_span s at).end))))))

  pub bare_is : (k : ℕ) → kind_at s at ≡ k → bare_at s read at ≡ bare_by k
  unfolding bare_at
  bare_is k e = ap bare_by e

module _ (s : List ℕ) (read : Span → Out Item) (at : Span) where
  pub string_variant : kind_at s (next_span s at) ≡ 6 → string_at s read at ≡ variant_at s read at
  unfolding string_at
  string_variant e = rw (eq-eqb _ _ e)

  pub string_leaf : (kind_at s (next_span s at) ≡ 6 → ⊥) → string_at s read at ≡ leaf_at s 3 at
  unfolding string_at
  string_leaf e = rw (ne_eqb _ _ e)

header_leaf : (kind : ℕ) (l : Span) → eqb kind 6 ≡ false → header kind l.start 0 l.end [] ≡ leaf kind l
header_leaf kind l ne = ap (λ (b : Bool). record_at kind l (cond b 0 l.end) 1) ne

-- a cursor that stands where it says
pub ready_at : (s : List ℕ) (c : Cursor) (n m : ℕ) (x : Cursor) (l : Span) → Ready s c n → x ≡ cursor_at s l → Spot s l → m ≤ l.end + 1 → Ready s x m
ready_at s c n m x l h e b k = record {
  short = h.short;
  bound = subst (λ (y : Cursor). Spot s (place_of y)) (sym e) b;
  few = omega (arith, ap (λ (y : Cursor). y.end) e);
  fresh = e ∙ ap (λ (y : Cursor). cursor_at s (place_of y)) (sym e);
}

pub standing : {s : List ℕ} {c : Cursor} {n : ℕ} → Ready s c n → Standing s c
standing h = record { bound = h.bound; fresh = h.fresh }

-- the next token of a cursor that is ready
pub peeks : (s : List ℕ) (c : Cursor) (n : ℕ) → Ready s c n → c.peeked ≡ placed_at s c.end
peeks s c n h = peeked s c (standing h)

pub peeks_kind : (s : List ℕ) (c : Cursor) (n : ℕ) → Ready s c n → code_of c.peeked.kind ≡ kind_at s (place_of c)
peeks_kind s c n h = peeked-kind s c (standing h)

pub peeks_gets : (s : List ℕ) (c : Cursor) (n : ℕ) → Ready s c n → IsSome c.peeked.kind → Gets s (place_of c)
peeks_gets s c n h = peeked-gets s c (standing h)

module _ (s old : List ℕ) where
  abbrev S : Type 0
  S = Page

  abbrev cur : S → Cursor
  cur σ = σ.cur.cursor

  abbrev num : S → ℕ
  num σ = σ.cur.count

  abbrev emit : S → Records → Span → S
  emit σ f n = emit_p s old σ f n

  abbrev moved : S → Span → S
  moved σ n = page (moved_w s σ.cur n) σ.tab

  abbrev entered : S → Span → S
  entered σ n = page (entered_w s σ.cur n) σ.tab

  abbrev seal : S → Begun → S
  seal σ b = seal_p s old σ b

  emit_cur : (σ : S) (f : Records) (n : Span) → cur (emit σ f n) ≡ cursor_at s n
  emit_cur σ f n = emit_cursor s old σ.cur f n

  emit_num : (σ : S) (f : Records) (n : Span) → num (emit σ f n) ≡ num σ + length f
  emit_num σ f n = emit_count s old σ.cur f n

  emit_none : (σ : S) → cur σ ≡ cursor_at s (place_of (cur σ)) → σ ≡ emit σ [] (place_of (cur σ))
  emit_none σ e = none_p s old σ e

  emit_emit : (σ : S) (f : Records) (p : Span) (g : Records) (n : Span) → emit (emit σ f p) g n ≡ emit σ (f ++ g) n
  emit_emit σ f p g n = again_p s old σ f p g n

  emit_moved : (σ : S) (f : Records) (p n : Span) → moved (emit σ f p) n ≡ emit σ f n
  emit_moved σ f p n = both (moved_emit s old σ.cur f p n) refl

  finish : (σ : S) (l : Span) (f : Records) (q p : Span) (k : RecordKind) (start name : ℕ)
      → seal (moved (emit (entered σ l) f q) p) (begun k (num σ) start name) ≡ emit σ (header (word_of k) start name p.end f ∷ f) p
  finish σ l f q p k start name = finish_p s old σ l f q p k start name

  abbrev pub pos : S → Span
  pos σ = place_of (cur σ)

  abbrev pub Stands : S → Type 0
  Stands σ = Ready s (cur σ) (num σ)

  emit_pos : (σ : S) (f : Records) (n : Span) → pos (emit σ f n) ≡ n
  emit_pos σ f n = ap place_of (emit_cur σ f n)

  pub record Inv (stop : Span → Bool) (step : Span → Out Records) (d₀ d : S) : Type 0 where
    pub done : Records
    pub cursor : d ≡ emit d₀ done (pos d)
    pub rest : Left s stop step (pos d₀) (pos d) done

  -- a walk moved on over records is as ready
  pub emit_ready : (c : S) (f : Records) (n : Span) (x : S) → x ≡ emit c f n → Stands c → ((pos c).end + length f ≤ n.end) → Spot s n → Stands x
  emit_ready c f n x e h k l =
      ready_at s (cur c) (num c) (num x) (cur x) n h (ap cur e ∙ emit_cur c f n) l (omega (arith, ap num e ∙ emit_num c f n, h.few))

  pub moved_ready : (c : S) (n : Span) (x : S) → x ≡ moved c n → Stands c → ((pos c).end ≤ n.end) → Spot s n → Stands x
  moved_ready c n x e h k l =
      ready_at s (cur c) (num c) (num x) (cur x) n h (ap cur e) l (omega (arith, ap num e, h.few))

  pub entered_ready : (c : S) (n : Span) (x : S) → x ≡ entered c n → Stands c → ((pos c).end < n.end) → Spot s n → Stands x
  entered_ready c n x e h k l =
      ready_at s (cur c) (num c) (num x) (cur x) n h (ap cur e) l (omega (arith, ap num e, h.few))

  module _ (stop : Span → Bool) (step : Span → Out Records) (d₀ : S) (ready : Stands d₀) where
    pub inv_start : Inv stop step d₀ d₀
    inv_start = record { done = []; cursor = emit_none d₀ ready.fresh; rest = left_start s stop step (pos d₀) ready.bound }

    module _ (d : S) (inv : Inv stop step d₀ d) where
      pub inv_ready : Stands d
      inv_ready = emit_ready d₀ inv.done (pos d) d inv.cursor ready inv.rest.few inv.rest.bound

      pub inv_turn : stop (pos d) ≡ false → {ts : Records} {n : Span} → step (pos d) ≡ got ts n → Far s (pos d) (got ts n) → (x : S) → x ≡ emit d ts n
          → Inv stop step d₀ x × ((pos d).end < (pos x).end) × ((pos x).end ≤ length s)
      inv_turn e {ts} {n} r h x q = (
        record {
          done = inv.done ++ ts;
          cursor = q ∙ ap (λ (y : S). emit y ts n) inv.cursor ∙ emit_emit d₀ inv.done (pos d) ts n ∙ ap (emit d₀ (inv.done ++ ts)) (sym place);
          rest = subst (λ (l : Span). Left s stop step (pos d₀) l (inv.done ++ ts)) (sym place) (left_turn s stop step (pos d₀) (pos d) inv.done inv.rest e r h);
        },
        omega (arith, h.1, ap (λ (l : Span). l.end) place),
        omega (arith, h.2.within, ap (λ (l : Span). l.end) place),
      )
        where
          place : pos x ≡ n
          place = ap pos q ∙ emit_pos d ts n

      pub inv_stop : stop (pos d) ≡ false → {k : Refusal} {p : ℕ} → step (pos d) ≡ refuse k p → loop s stop step (pos d₀) ≡ refuse k p
      inv_stop e r = left_stop s stop step (pos d₀) (pos d) inv.done inv.rest e r

      pub inv_end : stop (pos d) ≡ true → loop s stop step (pos d₀) ≡ got inv.done (pos d)
      inv_end e = left_end s stop step (pos d₀) (pos d) inv.done inv.rest e

  -- ---- comments are read

  abbrev pub Ran : ℕ → S → S → Type 0
  Ran kind c x = Came (run s kind (pos c)) (λ f p. (x ≡ emit c f p) × (pos x ≡ p) × ((pos c).end + length f ≤ p.end) × Spot s p)

  pub ran_is : (c : S) (kind : ℕ) → Spot s (pos c) → (x : S) → ((f : Records) (p : Span) → run s kind (pos c) ≡ got f p → x ≡ emit c f p) → Ran kind c x
  ran_is c kind h x e =
      let r = run_got s kind (pos c) h in
      let q : x ≡ emit c r.what r.next = e r.what r.next r.is in
      record { what = r.what; next = r.next; is = r.is; so = (q, ap pos q ∙ emit_pos c r.what r.next, r.so.0, r.so.1) }

  -- ---- a value is settled

  abbrev pub settled_k : S → ℕ → S
  settled_k c from =
      cond (eqb (kind_at s (pos c)) 9)
      (emit c (tail_r (next_span s (pos c)).end (suffix_end s (next_span s (pos c)))) (suffix_end s (next_span s (pos c))))
      (emit c (tail_r from (pos c)) (pos c))

  pub settle_is : (c : S) (i : Item) (n : Span) → FarItem s (pos c) (got i n) → (x : S) → x ≡ emit c i.body n → (from : ℕ) → from ≡ i.from
      → (y : S) → y ≡ settled_k x from → Came (settled s i n) (λ ts m. (y ≡ emit c ts m) × Far s (pos c) (got ts m))
  unfolding settled whole
  settle_is c i n h x q from k y e = go (eqb (kind_at s n) 9) (settled_far s i (pos c) n h) (e ∙ moved_in)
    where
      place : pos x ≡ n
      place = ap pos q ∙ emit_pos c i.body n

      F : Span → ℕ → S
      F p f = cond (eqb (kind_at s p) 9) (emit x (tail_r (next_span s p).end (suffix_end s (next_span s p))) (suffix_end s (next_span s p))) (emit x (tail_r f p) p)

      moved_in : settled_k x from ≡ cond (eqb (kind_at s n) 9) (emit x (tail_r (next_span s n).end (suffix_end s (next_span s n))) (suffix_end s (next_span s n))) (emit x (tail_r i.from n) n)
      moved_in = ap (λ (p : Span). F p from) place ∙ ap (F n) k

      out : (t : Records) (m : Span) → y ≡ emit x t m → y ≡ emit c (i.body ++ t) m
      out t m z = z ∙ ap (λ (w : S). emit w t m) q ∙ emit_emit c i.body n t m

      go : (b : Bool) → Far s (pos c) (cond b (got (i.body ++ tail_r (next_span s n).end (suffix_end s (next_span s n))) (suffix_end s (next_span s n))) (got (i.body ++ tail_r i.from n) n))
          → y ≡ cond b (emit x (tail_r (next_span s n).end (suffix_end s (next_span s n))) (suffix_end s (next_span s n))) (emit x (tail_r i.from n) n)
          → Came (cond b (got (i.body ++ tail_r (next_span s n).end (suffix_end s (next_span s n))) (suffix_end s (next_span s n))) (got (i.body ++ tail_r i.from n) n)) (λ ts m. (y ≡ emit c ts m) × Far s (pos c) (got ts m))
      go true f z = record { what = i.body ++ tail_r (next_span s n).end (suffix_end s (next_span s n)); next = suffix_end s (next_span s n); is = refl; so = (out _ _ z, f) }
      go false f z = record { what = i.body ++ tail_r i.from n; next = n; is = refl; so = (out _ _ z, f) }

  -- ---- steps of an inside

  abbrev pub Valued : (Span → Out Item) → S → S → ℕ → Type 0
  Valued read e x from = Came (read (pos e)) (λ i n. (x ≡ emit e i.body n) × (from ≡ i.from))

  module _ (read : Span → Out Item) (far : (p : Span) → Spot s p → FarItem s p (read p)) (d : S) (ready : Stands d) (e : S) (pre : Ran 7 d e) where
    pub pre_ready : Stands e
    pre_ready = emit_ready d pre.what pre.next e pre.so.0 ready pre.so.2 pre.so.3

    pub one_stop : {k : Refusal} {p : ℕ} → read (pos e) ≡ refuse k p → one s read (pos d) ≡ refuse k p
    unfolding one
    one_stop r = rw pre.is (rw (sym (ap read pre.so.1) ∙ r))

    pub two_stop : {k : Refusal} {p : ℕ} → read (pos e) ≡ refuse k p → two s read (pos d) ≡ refuse k p
    unfolding two
    two_stop r = rw pre.is (rw (sym (ap read pre.so.1) ∙ r))

    module _ (x : S) (from : ℕ) (v : Valued read e x from) where
      v_far : FarItem s (pos e) (got v.what v.next)
      v_far = rw v.is at (far (pos e) pre_ready.bound)

      pub value_ready : Stands x
      value_ready = emit_ready e v.what.body v.next x v.so.0 pre_ready (omega (arith, v_far.0, v_far.2)) v_far.3

      pub one_next : (y : S) → y ≡ settled_k x from → Came (one s read (pos d)) (λ ts m. (y ≡ emit d ts m) × Far s (pos d) (got ts m))
      unfolding one
      one_next y q =
          let z = settle_is e v.what v.next v_far x v.so.0 from v.so.1 y q in
          let w = length-append pre.what z.what in
          let a = ap (λ (l : Span). l.end) pre.so.1 in
          record {
            what = pre.what ++ z.what;
            next = z.next;
            is = rw pre.is (rw (sym (ap read pre.so.1) ∙ v.is) (rw z.is));
            so = (
              z.so.0 ∙ ap (λ (u : S). emit u z.what z.next) pre.so.0 ∙ emit_emit d pre.what pre.next z.what z.next,
              (omega (arith, z.so.1.0, pre.so.2), omega (arith, z.so.1.1, pre.so.2), z.so.1.2),
            );
          }

      -- a key: its suffix comment is a record, and a colon comes
      module _ (y : S) (t : y ≡ emit x (tail_r from (pos x)) (pos x)) where
        key_is : y ≡ emit e (whole v.what v.next) v.next
        unfolding whole
        key_is =
            t
            ∙ ap (λ (n : Span). emit x (tail_r from n) n) place
            ∙ ap (λ (f : ℕ). emit x (tail_r f v.next) v.next) v.so.1
            ∙ ap (λ (u : S). emit u (tail_r v.what.from v.next) v.next) v.so.0
            ∙ emit_emit e v.what.body v.next (tail_r v.what.from v.next) v.next
          where
            place : pos x ≡ v.next
            place = ap pos v.so.0 ∙ emit_pos e v.what.body v.next

        key_at_lem : pos y ≡ v.next
        key_at_lem = ap pos key_is ∙ emit_pos e (whole v.what v.next) v.next

        key_size : (pos e).end + length (whole v.what v.next) ≤ v.next.end
        unfolding whole
        key_size = omega (arith, v_far.0, tail_size v.what.from v.next v_far.2, length-append v.what.body (tail_r v.what.from v.next))

        pub key_ready : Stands y
        key_ready = emit_ready e (whole v.what v.next) v.next y key_is pre_ready key_size v_far.3

        pub colon_stop : {k : Refusal} {p : ℕ} → expect s Colon (pos y) ≡ refuse k p → two s read (pos d) ≡ refuse k p
        unfolding two
        colon_stop r = rw pre.is (rw (sym (ap read pre.so.1) ∙ v.is) (rw (sym (ap (expect s Colon) key_at_lem) ∙ r)))

        module _ (z : S) (c : Came (expect s Colon (pos y)) (λ u n. z ≡ moved y n)) where
          z_at : pos z ≡ c.next
          z_at = ap pos c.so

          z_is : z ≡ emit e (whole v.what v.next) c.next
          z_is = c.so ∙ ap (λ (u : S). moved u c.next) key_is ∙ emit_moved e (whole v.what v.next) v.next c.next

          z_far : ((pos y).end + 1 ≤ c.next.end) × Spot s c.next
          z_far = rw c.is at (expect_far s Colon (pos y) key_ready.bound)

          pub colon_ready : Stands z
          colon_ready =
              emit_ready e (whole v.what v.next) c.next z z_is pre_ready (omega (arith, z_far.0, ap (λ (l : Span). l.end) key_at_lem, key_size)) z_far.1

          pub value_stop : {k : Refusal} {p : ℕ} → read (pos z) ≡ refuse k p → two s read (pos d) ≡ refuse k p
          unfolding two
          value_stop r = rw pre.is (rw (sym (ap read pre.so.1) ∙ v.is) (rw (sym (ap (expect s Colon) key_at_lem) ∙ c.is) (rw (sym (ap read z_at) ∙ r))))

          module _ (w : S) (since : ℕ) (u : Valued read z w since) where
            u_far : FarItem s (pos z) (got u.what u.next)
            u_far = rw u.is at (far (pos z) colon_ready.bound)

            pub second_ready : Stands w
            second_ready = emit_ready z u.what.body u.next w u.so.0 colon_ready (omega (arith, u_far.0, u_far.2)) u_far.3

            pub two_next : (r : S) → r ≡ settled_k w since → Came (two s read (pos d)) (λ ts m. (r ≡ emit d ts m) × Far s (pos d) (got ts m))
            unfolding two
            two_next r q =
                let f = settle_is z u.what u.next u_far w u.so.0 since u.so.1 r q in
                let k = whole v.what v.next in
                let a = ap (λ (l : Span). l.end) pre.so.1 in
                let b = ap (λ (l : Span). l.end) key_at_lem in
                let g = ap (λ (l : Span). l.end) z_at in
                record {
                  what = (pre.what ++ k) ++ f.what;
                  next = f.next;
                  is = rw pre.is (rw (sym (ap read pre.so.1) ∙ v.is) (rw (sym (ap (expect s Colon) key_at_lem) ∙ c.is) (rw (sym (ap read z_at) ∙ u.is) (rw f.is))));
                  so = (
                    f.so.0
                        ∙ ap (λ (m : S). emit m f.what f.next) (z_is ∙ ap (λ (m : S). emit m k c.next) pre.so.0 ∙ emit_emit d pre.what pre.next k c.next)
                        ∙ emit_emit d (pre.what ++ k) c.next f.what f.next,
                    (
                      omega (arith, f.so.1.0, pre.so.2, length-append pre.what k, length-append (pre.what ++ k) f.what, key_size, z_far.0),
                      omega (arith, f.so.1.1, pre.so.2, key_size, z_far.0),
                      f.so.1.2,
                    ),
                  );
                }

  -- ---- an inside ends

  module _ (step : Span → Out Records) (d₀ : S) (ready : Stands d₀) (d : S) (inv : Inv (stops s) step d₀ d) where
    pub inside_stop : stops s (pos d) ≡ false → {k : Refusal} {p : ℕ} → step (pos d) ≡ refuse k p → inside s step (pos d₀) ≡ refuse k p
    unfolding inside
    inside_stop e {k} {p} r = rw (inv_stop (stops s) step d₀ ready d inv e r)

    pub inside_got : stops s (pos d) ≡ true → (f : S) → Ran 9 d f → Came (inside s step (pos d₀)) (λ ts n. f ≡ emit d₀ ts n)
    unfolding inside
    inside_got e f post = record {
      what = inv.done ++ post.what;
      next = post.next;
      is = rw (inv_end (stops s) step d₀ ready d inv e) (rw post.is);
      so = post.so.0 ∙ ap (λ (u : S). emit u post.what post.next) inv.cursor ∙ emit_emit d₀ inv.done (pos d) post.what post.next;
    }

  -- a record with nothing inside
  pub single : (c : S) (l : Span) (k : RecordKind) (start name : ℕ) → seal (entered c l) (begun k (num c) start name) ≡ emit c (header (word_of k) start name l.end [] ∷ []) l
  single c l k start name =
      ap (λ (y : S). seal y (begun k (num c) start name)) (here ∙ sym (emit_moved (entered c l) [] l l)) ∙ finish c l [] l l k start name
    where
      here : entered c l ≡ emit (entered c l) [] l
      here = emit_none (entered c l) refl

  -- a record with nothing inside, as a token's
  pub sealed_leaf : (c : S) (l : Span) (k : RecordKind) → eqb (word_of k) 6 ≡ false → (x : S) → x ≡ seal (entered c l) (begun k (num c) l.start 0) → x ≡ emit c (leaf (word_of k) l ∷ []) l
  sealed_leaf c l k ne x q = q ∙ single c l k l.start 0 ∙ ap (λ (r : Record). emit c (r ∷ []) l) (header_leaf (word_of k) l ne)

  -- a value's comments, then the value
  module _ (read : Span → Out Item) (c e : S) (pre : Ran 7 c e) where
    pub value_refused : {k : Refusal} {p : ℕ} → bare_at s read (pos e) ≡ refuse k p → item_at s read (pos c) ≡ refuse k p
    unfolding item_at
    value_refused r = rw pre.is (rw (sym (ap (bare_at s read) pre.so.1) ∙ r))

    pub value_is : (x : S) (b : Came (bare_at s read (pos e)) (λ t n. x ≡ emit e t n)) (y : S) → y ≡ moved x (suffix_end s (pos x))
        → Came (item_at s read (pos c)) (λ i n. (y ≡ emit c i.body n) × ((pos x).end ≡ i.from))
    unfolding item_at
    value_is x b y q = record {
      what = record { body = pre.what ++ b.what; from = b.next.end };
      next = to;
      is = rw pre.is (rw (sym (ap (bare_at s read) pre.so.1) ∙ b.is));
      so = (
        q
            ∙ ap (λ (n : Span). moved x (suffix_end s n)) place
            ∙ ap (λ (u : S). moved u to) b.so
            ∙ emit_moved e b.what b.next to
            ∙ ap (λ (u : S). emit u b.what to) pre.so.0
            ∙ emit_emit c pre.what pre.next b.what to,
        ap (λ (l : Span). l.end) place,
      );
    }
      where
        to : Span
        to = suffix_end s b.next

        place : pos x ≡ b.next
        place = ap pos b.so ∙ emit_pos e b.what b.next
