-- A whole text, over plain variables. Assumes nothing.
use Rattle.std.proofs.Common.{◌≡◌, ℕ, ◌+◌, ◌-◌, ◌*◌, ◌≤◌, Bool, true, false, cond, eqb, List, [], ◌∷◌, length, take, drop, Ok, Err, Result, sym, refl, ap, ◌∙◌, subst, arith}
use lib.Seq.{sets, take-append_seam}
use Rattle.eon_spec.specs.Utf8.{is_utf8}
use Rattle.eon_spec.specs.Tree.{Span}
use Rattle.eon_spec.specs.RecordKind.{word_of}
use Rattle.eon_spec.specs.declared.record_kind.RecordKind.{RecordKind}
use Rattle.eon_spec.specs.declared.refusal.Refusal.{Refusal}
use Rattle.eon_spec.specs.declared.refusal.Reason.TheVariants.{Surplus}
use Rattle.eon_spec.specs.Records.{words}
use Rattle.eon_token.specs.Placed.{placed_at}
use Rattle.eon_token.specs.Place.{Spot, span, place_of, cursor_at, kind_at, next_span}
use Rattle.eon_token.specs.declared.cursor.Cursor.{Cursor}
use Rattle.eon_token.proofs.Places.{start_spot}
use Rattle.eon_parse.specs.Walk.{refused_at, Out, refuse, got, Records, run, end_of, stops, one, two, inside, header, below}
use Rattle.eon_parse.specs.Top.{Shape, denied, asMap, asSingle, asSeveral, Whole, denies, gives, shape_whole, ended, several_by, list_by, map_by, top_at}
use Rattle.eon_parse.specs.Answer.{agrees, stop_of, place, Ready, emit, entered, moved, set_cursor, stored, begun, record_words, words_of, put_at, ended_at as sealed_at, bared, Stored}
use Rattle.eon_parse.specs.Tops.{start_of, Starts, within, spanning, topped, further_by, top_of, ended_at, ended_by, viewed, top_view, Held}
use Rattle.eon_parse.specs.declared.words.Record.{Record}
use Rattle.eon_parse.specs.declared.walk.Walk.{Walk}
use Rattle.eon_parse.specs.declared.walk.Stop.{Stop}
use Rattle.eon_parse.specs.declared.top.Top.{Top}
use Rattle.eon_parse.specs.declared.top.Form.{Form}
use Rattle.eon_parse.specs.declared.top.Form.TheVariants as form
use Rattle.eon_parse.proofs.Laws.{Came, Failed, emit_cursor, emit_count, emit_moved}
use Rattle.eon_parse.proofs.Left.{Far, Reach, one_far, below_far}
use Rattle.eon_parse.proofs.Store.{sets_front}
use Rattle.eon_parse.proofs.Page.{Page, page, both, emit_p, finish_p}
use Rattle.eon_parse.proofs.Pass.{ready_at}
use Rattle.eon_parse.proofs.Readings.{Reads, Leads, read_yes, read_no, yes_read, no_read}

-- ---- the text's start

module _ (s : List ℕ) (w : Walk) (st : Starts s w) where
  pub start_place : place w ≡ span 0 0
  start_place = ap (λ (y : Walk). place y) st.is

  pub start_count : w.count ≡ 0
  start_count = ap (λ (y : Walk). y.count) st.is

  start_cursor : w.cursor ≡ cursor_at s (span 0 0)
  start_cursor = ap (λ (y : Walk). y.cursor) st.is

  pub start_ready : (n : ℕ) → n ≤ 1 → Ready s w.cursor n
  start_ready n h = record {
    short = st.short;
    bound = subst (λ (p : Span). Spot s p) (sym start_place) (start_spot s st.formed);
    few = omega arith;
    fresh = start_cursor ∙ ap (cursor_at s) (sym start_place);
  }

  pub starts_ready : Ready s w.cursor w.count
  starts_ready = start_ready w.count (omega (arith, start_count))

pub starts_at : (s : List ℕ) → is_utf8 s ≡ true → length s ≤ 65535 → (w : Walk) (b : Bool) → w ≡ start_of s b → Starts s w
starts_at s u h w b e = record { formed = u; short = h; is = e ∙ ap (start_of s) (sym (ap (λ (y : Walk). y.same) e)) }

-- ---- a container that spans the text

module _ (s old tb : List ℕ) (w : Walk) (st : Starts s w) (step : Span → Out Records) (d : Walk) (e : d ≡ within w) where
  at_d : inside s step (place d) ≡ inside s step (span 0 0)
  at_d = ap (λ (y : Walk). inside s step (place y)) e ∙ ap (inside s step) (start_place s w st)

  pub within_ready : Ready s d.cursor d.count
  within_ready = subst (λ (y : Walk). Ready s y.cursor y.count) (sym e) (start_ready s w st (w.count + 1) (omega (arith, start_count s w st)))

  module _ (r : Result Walk Stop) (e₁ : r ≡ bared s old d (inside s step (place d))) where
    pub top_no : (k : ℕ) (x : Stop) → r ≡ Err x → (t : List ℕ) → Reads s old tb w (topped (length s) k (inside s step (span 0 0))) (Err x) t
    top_no k x q t =
        let f = read_no s old tb d (inside s step (place d)) r e₁ x q in
        no_read s old tb w (topped (length s) k (inside s step (span 0 0))) x t (record { why = f.why; far = f.far; is = ap (topped (length s) k) (sym at_d ∙ f.is); so = f.so })

    module _ (x : Walk) (q : r ≡ Ok x) (t₁ : List ℕ) (h₁ : Stored tb d (inside s step (place d)) t₁) where
      came : Came (inside s step (place d)) (Leads s old tb d x t₁)
      came = read_yes s old tb d (inside s step (place d)) r t₁ e₁ h₁ x q

      pub top_count : Reach length s (place d) (inside s step (place d)) → x.count ≤ 70000
      top_count g =
          let f : (d.cursor.end + length came.what ≤ came.next.end) × Spot s came.next = subst (λ (o : Out Records). Reach length s (place d) o) came.is g in
          omega (arith, f.0, f.1.within, st.short, within_ready.few, ap (λ (σ : Page). σ.cur.count) came.so ∙ emit_count s old d came.what came.next)

      module _ (k : RecordKind) (ne : eqb (word_of k) 6 ≡ false) (y : Walk) (t₂ : List ℕ) where
        len : ℕ
        len = length s

        -- the record of the text, as one that ends behind it
        own : ℕ → Page → Page
        own n σ = page (moved s (sealed_at (moved s σ.cur (span 0 (length s))) old (begun k n 0 0)) came.next) (sets σ.tab (5 * n) (record_words (moved s σ.cur (span 0 (length s))) (begun k n 0 0)))

        row_words : words_of (spanning k (length s) x.count) ≡ record_words (moved s x (span 0 (length s))) (begun k 0 0 0)
        row_words =
            ap (λ (n : ℕ). word_of k ∷ 0 ∷ length s ∷ length s ∷ n ∷ []) less
            ∙ ap (λ (b : Bool). word_of k ∷ 0 ∷ cond b 0 (length s) ∷ length s ∷ (x.count - 0) ∷ []) (sym ne)
          where
            less : x.count ≡ x.count - 0
            less = omega arith

        at_x : x.cursor ≡ cursor_at s came.next
        at_x = ap (λ (σ : Page). σ.cur.cursor) came.so ∙ emit_cursor s old d came.what came.next

        entered_is : d ≡ entered s w (span 0 0)
        entered_is = e ∙ ap (λ (c : Cursor). record { cursor = c; count = w.count + 1; same = w.same }) (ap (λ (v : Walk). v.cursor) st.is)

        led : y ≡ put_at x old 0 (words_of (spanning k (length s) x.count)) → t₂ ≡ sets t₁ 0 (words_of (spanning k (length s) x.count))
            → page y t₂ ≡ emit_p s old (page w tb) (header (word_of k) 0 0 (length s) came.what ∷ came.what) came.next
        unfolding own
        led f g =
            both f g
            ∙ ap (λ (ws : List ℕ). page (put_at x old 0 ws) (sets t₁ 0 ws)) row_words
            ∙ ap (λ (c : Cursor). page (record { cursor = c; count = x.count; same = (put_at x old 0 (record_words (moved s x (span 0 (length s))) (begun k 0 0 0))).same }) (sets t₁ 0 (record_words (moved s x (span 0 (length s))) (begun k 0 0 0)))) at_x
            ∙ ap (own 0) came.so
            ∙ ap (λ (v : Walk). own 0 (emit_p s old (page v tb) came.what came.next)) entered_is
            ∙ ap (λ (n : ℕ). own n (emit_p s old (page (entered s w (span 0 0)) tb) came.what came.next)) (sym (start_count s w st))
            ∙ ap (λ (σ : Page). page (moved s σ.cur came.next) σ.tab) (finish_p s old (page w tb) (span 0 0) came.what came.next (span 0 (length s)) k 0 0)
            ∙ both (emit_moved s old w (header (word_of k) 0 0 (length s) came.what ∷ came.what) (span 0 (length s)) came.next) refl

        pub top_yes : (row : Record) → row ≡ spanning k (length s) x.count → y ≡ put_at x old 0 (words_of row) → t₂ ≡ sets t₁ 0 (words_of row) → Reads s old tb w (topped (length s) (word_of k) (inside s step (span 0 0))) (Ok y) t₂
        top_yes row a f g =
            yes_read s old tb w (topped (length s) (word_of k) (inside s step (span 0 0))) y t₂ (record {
              what = header (word_of k) 0 0 (length s) came.what ∷ came.what;
              next = came.next;
              is = ap (topped (length s) (word_of k)) (sym at_d ∙ came.is);
              so = led (f ∙ ap (λ (z : Record). put_at x old 0 (words_of z)) a) (g ∙ ap (λ (z : Record). sets t₁ 0 (words_of z)) a);
            })

-- ---- what is answered, and what the table holds

pub record Tells (s old tb : List ℕ) (w : Walk) (x : Shape) (r : Result Top Refusal) (tb' : List ℕ) : Type 0 where
  pub answer : r ≡ top_view old w.same x
  pub held : Held (shape_whole x) tb tb'

held_over : (x : Whole) (t tb tb' : List ℕ) → length t ≡ length tb → Held x t tb' → Held x tb tb'
held_over (denies r) t tb tb' e h = tt
held_over (gives ts) t tb tb' e h = λ k. h (omega (arith, e, k))

module _ (s old tb : List ℕ) (w : Walk) (st : Starts s w) where
  front : (ts : Records) (tb' : List ℕ) → tb' ≡ stored tb w ts → length (words ts) ≤ length tb → take (length (words ts)) tb' ≡ words ts
  front ts tb' e h =
      ap (take (length (words ts))) (e ∙ ap (λ (n : ℕ). sets tb (5 * n) (words ts)) (start_count s w st) ∙ sets_front tb (words ts) (length (words ts)) refl h) ∙ take-append_seam (words ts) (drop (length (words ts)) tb)

  -- nothing may follow
  module _ (f : Form) (shape : Records → Shape) (whole : (ts : Records) → shape_whole (shape ts) ≡ gives ts) (view : (b : Bool) (ts : Records) → top_view old b (shape ts) ≡ viewed old b f ts) where
    pub end_tells : (ts : Records) (l : Span) (x : Walk) (tb' : List ℕ) → page x tb' ≡ emit_p s old (page w tb) ts l → (r : Result Top Refusal) → r ≡ ended_by x f → Tells s old tb w (ended s l (shape ts)) r tb'
    unfolding ended emit
    end_tells ts l x tb' e r q = record {
      answer =
          q
          ∙ ap (λ (σ : Page). ended_by σ.cur f) e
          ∙ ap (λ (n : ℕ). ended_at (placed_at s l.end) (top_of f (n + length ts) (cond w.same (agrees old (5 * n) (words ts)) false))) (start_count s w st)
          ∙ ap (λ (n : ℕ). ended_at (placed_at s l.end) (top_of f n (cond w.same (agrees old 0 (words ts)) false))) none
          ∙ answers (eqb (kind_at s l) 16);
      held = holds (eqb (kind_at s l) 16);
    }
      where
        none : 0 + length ts ≡ length ts
        none = omega arith

        answers : (b : Bool) → cond b (viewed old w.same f ts) (Err (refused_at Surplus (next_span s l))) ≡ top_view old w.same (cond b (shape ts) (denied (refused_at Surplus (next_span s l))))
        answers true = sym (view w.same ts)
        answers false = refl

        holds : (b : Bool) → Held (shape_whole (cond b (shape ts) (denied (refused_at Surplus (next_span s l))))) tb tb'
        holds true = subst (λ (x : Whole). Held x tb tb') (sym (whole ts)) (front ts tb' (ap (λ (σ : Page). σ.tab) e))
        holds false = tt

  module _ (a : Stop) (tb' : List ℕ) where
    -- ---- a list of several

    several_failed : (o : Out Records) (b : Stop) → Failed (topped (length s) 4 o) b → (r : Refusal) → r ≡ further_by a b → Tells s old tb w (several_by s a.refusal a.consumed o) (Err r) tb'
    unfolding several_by
    several_failed (refuse rb lb) b f r e =
        let g : b ≡ stop_of f.why f.far = f.so in
        let z : Out.refuse rb lb ≡ Out.refuse f.why f.far = f.is in
        let c : rb ≡ f.why = cc in
        let d : lb ≡ f.far = cc in
        record { answer = ap Err (e ∙ ap (further_by a) (g ∙ ap (λ (q : Refusal). stop_of q f.far) (sym c) ∙ ap (stop_of rb) (sym d))); held = tt }
    several_failed (got ts l) b f r e = let g = f.is in cc

    several_came : (o : Out Records) (x : Walk) → Came (topped (length s) 4 o) (Leads s old tb w x tb') → (r : Result Top Refusal) → r ≡ ended_by x form.Several → Tells s old tb w (several_by s a.refusal a.consumed o) r tb'
    unfolding several_by
    several_came (refuse rb lb) x c r e = let g = c.is in cc
    several_came (got ts l) x c r e =
        let g : Out.got (header 4 0 0 (length s) ts ∷ ts) l ≡ Out.got c.what c.next = c.is in
        let p : header 4 0 0 (length s) ts ∷ ts ≡ c.what = cc in
        let q : l ≡ c.next = cc in
        end_tells form.Several asSeveral (λ ts. refl) (λ b ts. refl) (header 4 0 0 (length s) ts ∷ ts) l x tb'
        (c.so ∙ ap (λ (f : Records). emit_p s old (page w tb) f c.next) (sym p) ∙ ap (emit_p s old (page w tb) (header 4 0 0 (length s) ts ∷ ts)) (sym q)) r e

    module _ (o : Out Records) (ls : Result Walk Stop) (e : ls ≡ bared s old w (topped (length s) 4 o)) where
      pub several_no : (b : Stop) → ls ≡ Err b → (r : Refusal) → r ≡ further_by a b → Tells s old tb w (several_by s a.refusal a.consumed o) (Err r) tb'
      several_no b q = several_failed o b (read_no s old tb w (topped (length s) 4 o) ls e b q)

      pub several_yes : Stored tb w (topped (length s) 4 o) tb' → (x : Walk) → ls ≡ Ok x → (r : Result Top Refusal) → r ≡ ended_by x form.Several → Tells s old tb w (several_by s a.refusal a.consumed o) r tb'
      several_yes h x q = several_came o x (read_yes s old tb w (topped (length s) 4 o) ls tb' e h x q)

    -- ---- a list: its first value, and what follows

    abbrev pub first : Out Records
    first = one s (below 128 s) (span 0 0)

    abbrev pub rest : Out Records
    rest = inside s (one s (below 128 s)) (span 0 0)

    first_at : one s (below 128 s) (place w) ≡ one s (below 128 s) (span 0 0)
    first_at = ap (one s (below 128 s)) (start_place s w st)

    module _ (o : Result Walk Stop) (e : o ≡ bared s old w (one s (below 128 s) (place w))) where
      pub list_no : (b : Stop) → o ≡ Err b → (r : Refusal) → r ≡ further_by a b → Tells s old tb w (list_by s a.refusal a.consumed first) (Err r) tb'
      unfolding list_by
      list_no b q r f =
          let g = read_no s old tb w (one s (below 128 s) (place w)) o e b q in
          rw (sym first_at ∙ g.is) (record { answer = ap Err (f ∙ ap (further_by a) g.so); held = tt })

      module _ (y : Walk) (q : o ≡ Ok y) (t : List ℕ) (h : Stored tb w (one s (below 128 s) (place w)) t) where
        head : Came (one s (below 128 s) (place w)) (Leads s old tb w y t)
        head = read_yes s old tb w (one s (below 128 s) (place w)) o t e h y q

        got_first : first ≡ got head.what head.next
        got_first = sym first_at ∙ head.is

        first_far : Far s (span 0 0) (got head.what head.next)
        first_far = subst (λ (o : Out Records). Far s (span 0 0) o) got_first (one_far s (below 128 s) (below_far 128 s) (span 0 0) (start_spot s st.formed))

        y_cursor : y.cursor ≡ cursor_at s head.next
        y_cursor = ap (λ (σ : Page). σ.cur.cursor) head.so ∙ emit_cursor s old w head.what head.next

        y_place : place y ≡ head.next
        y_place = ap place_of y_cursor

        pub first_ready : (n : ℕ) → n ≤ y.count → Ready s y.cursor n
        first_ready n g =
            ready_at s w.cursor w.count n y.cursor head.next (starts_ready s w st) y_cursor first_far.2
            (omega (arith, g, first_far.0, start_count s w st, ap (λ (σ : Page). σ.cur.count) head.so ∙ emit_count s old w head.what head.next))

        -- the walk at another place
        moved_on : (l : Span) (c : Cursor) → c ≡ cursor_at s l → (z : Walk) → z ≡ set_cursor y c → page z t ≡ emit_p s old (page w tb) head.what l
        moved_on l c f z g =
            both (g ∙ ap (set_cursor y) f) refl
            ∙ ap (λ (σ : Page). page (moved s σ.cur l) σ.tab) head.so
            ∙ both (emit_moved s old w head.what head.next l) refl

        module _ (b : Bool) (f : b ≡ stops s (place y)) where
          pub list_single : b ≡ true → (c : Cursor) → c ≡ cursor_at s (end_of (run s 7 (place y))) → (z : Walk) → z ≡ set_cursor y c → (r : Result Top Refusal) → r ≡ ended_by z form.Single → Tells s old tb w (list_by s a.refusal a.consumed first) r t
          unfolding list_by
          list_single g c i z j r k =
              rw (got_first, sym (ap (stops s) y_place) ∙ sym f ∙ g)
              (end_tells form.Single asSingle (λ ts. refl) (λ b ts. refl) head.what (end_of (run s 7 head.next)) z t
              (moved_on (end_of (run s 7 head.next)) c (i ∙ ap (λ (p : Span). cursor_at s (end_of (run s 7 p))) y_place) z j) r k)

          pub list_several : b ≡ false → (r : Result Top Refusal) → r ≡ top_view old w.same (several_by s a.refusal a.consumed rest) → Held (shape_whole (several_by s a.refusal a.consumed rest)) t tb' → length t ≡ length tb
              → Tells s old tb w (list_by s a.refusal a.consumed first) r tb'
          unfolding list_by
          list_several g r k held long =
              rw (got_first, sym (ap (stops s) y_place) ∙ sym f ∙ g) (record { answer = k; held = held_over (shape_whole (several_by s a.refusal a.consumed rest)) t tb tb' long held })

  -- ---- a map, or else a list

  module _ (o : Result Walk Stop) (e : o ≡ bared s old w (topped (length s) 5 (inside s (two s (below 128 s)) (span 0 0)))) where
    map_came : (m : Out Records) (x : Walk) (t : List ℕ) → Came (topped (length s) 5 m) (Leads s old tb w x t) → (r : Result Top Refusal) → r ≡ ended_by x form.Map → Tells s old tb w (map_by s m) r t
    unfolding map_by
    map_came (refuse rb lb) x t c r e = let g = c.is in cc
    map_came (got ts l) x t c r e =
        let g : Out.got (header 5 0 0 (length s) ts ∷ ts) l ≡ Out.got c.what c.next = c.is in
        let p : header 5 0 0 (length s) ts ∷ ts ≡ c.what = cc in
        let q : l ≡ c.next = cc in
        end_tells form.Map asMap (λ ts. refl) (λ b ts. refl) (header 5 0 0 (length s) ts ∷ ts) l x t
        (c.so ∙ ap (λ (f : Records). emit_p s old (page w tb) f c.next) (sym p) ∙ ap (emit_p s old (page w tb) (header 5 0 0 (length s) ts ∷ ts)) (sym q)) r e

    pub map_yes : (t : List ℕ) → Stored tb w (topped (length s) 5 (inside s (two s (below 128 s)) (span 0 0))) t → (x : Walk) → o ≡ Ok x → (r : Result Top Refusal) → r ≡ ended_by x form.Map → Tells s old tb w (top_at s) r t
    unfolding top_at
    map_yes t h x q = map_came (inside s (two s (below 128 s)) (span 0 0)) x t (read_yes s old tb w (topped (length s) 5 (inside s (two s (below 128 s)) (span 0 0))) o t e h x q)

    map_failed : (m : Out Records) (a : Stop) → Failed (topped (length s) 5 m) a → map_by s m ≡ list_by s a.refusal a.consumed (one s (below 128 s) (span 0 0))
    unfolding map_by
    map_failed (got ts l) a f = let g = f.is in cc
    map_failed (refuse ra la) a f =
        let z : Out.refuse ra la ≡ Out.refuse f.why f.far = f.is in
        let c : ra ≡ f.why = cc in
        let d : la ≡ f.far = cc in
        let g : a ≡ stop_of ra la = f.so ∙ ap (λ (q : Refusal). stop_of q f.far) (sym c) ∙ ap (stop_of ra) (sym d) in
        sym (ap (λ (y : Stop). list_by s y.refusal y.consumed (one s (below 128 s) (span 0 0))) g)

    pub map_no : (a : Stop) → o ≡ Err a → (r : Result Top Refusal) → r ≡ top_view old w.same (list_by s a.refusal a.consumed (one s (below 128 s) (span 0 0))) → (t tb' : List ℕ)
        → Held (shape_whole (list_by s a.refusal a.consumed (one s (below 128 s) (span 0 0)))) t tb' → length t ≡ length tb → Tells s old tb w (top_at s) r tb'
    unfolding top_at
    map_no a q r k t tb' held long =
        let f = map_failed (inside s (two s (below 128 s)) (span 0 0)) a (read_no s old tb w (topped (length s) 5 (inside s (two s (below 128 s)) (span 0 0))) o e a q) in
        subst (λ (x : Shape). Tells s old tb w x r tb') (sym f)
        (record { answer = k; held = held_over (shape_whole (list_by s a.refusal a.consumed (one s (below 128 s) (span 0 0)))) t tb tb' long held })
