-- What the readers' clauses say of what is read, and what a reader's steps make of its own. Over plain variables. Assumes nothing.
use Rattle.std.proofs.Common.{◌≡◌, ℕ, ◌+◌, ◌-◌, ◌*◌, ◌<◌, ◌≤◌, Bool, true, false, cond, eqb, List, [], ◌∷◌, length, IsSome, Some, None, Ok, Err, Result, sym, refl, ap, ◌∙◌, subst, arith, ne_eqb, Option}
use lib.Seq.{sets}
use Rattle.eon_spec.specs.Tree.{Span}
use Rattle.eon_spec.specs.RecordKind.{word_of}
use Rattle.eon_spec.specs.declared.record_kind.RecordKind.{RecordKind}
use Rattle.eon_spec.specs.declared.token_kind.TokenKind.{TokenKind}
use Rattle.eon_spec.specs.declared.token_kind.TokenKind.TheVariants.{Colon, CloseParen}
use Rattle.eon_spec.specs.declared.refusal.Reason.TheVariants.{TooDeep, MissingValue}
use Rattle.eon_spec.specs.Records.{leaf}
use Rattle.eon_token.specs.Place.{Spot, span, place_of, cursor_at, kind_at, next_span}
use Rattle.eon_token.specs.declared.cursor.Cursor.{Cursor}
use Rattle.eon_token.specs.declared.token_kind.PlacedToken.{PlacedToken}
use Rattle.eon_token.proofs.Places.{Gets, gets}
use Rattle.eon_token.proofs.KindCodes.{code_some, code_none, kind_small}
use Rattle.eon_spec.specs.declared.token_kind.TokenKind.TheVariants as token
use Rattle.eon_parse.specs.Tops.{no_value}
use Rattle.eon_spec.specs.Token.{kind_number}
use Rattle.eon_spec.specs.declared.record_kind.RecordKind.TheVariants as kind
use Rattle.eon_parse.proofs.Steps.{leaf_put}
use Rattle.eon_parse.specs.Walk.{refused_at, reason_of, strings, leaf_at, Out, refuse, got, bind, Records, Item, run, expect, suffix_end, tail_r, stops, one, two, inside, closed, header, string_at, variant_at, bare_at, item_at, reader, below}
use Rattle.eon_parse.specs.Answer.{stop_of, past, place, Ready, emit, moved, entered, begun, Open, stored, tailed, record_words, ended_at, ran, bared, counted, expected, closed_at, Stored, StoredItem, StoredEnd, settled_r, set_cursor}
use Rattle.eon_parse.specs.declared.walk.Walk.{Walk}
use Rattle.eon_parse.specs.declared.walk.Begun.{Begun}
use Rattle.eon_parse.specs.declared.walk.Stop.{Stop}
use Rattle.eon_parse.specs.declared.walk.Past.{Past}
use Rattle.eon_parse.proofs.Laws.{Came, Failed, passed, was_refused, was_done, was_stopped, was_value, not_expected, was_expected, emit_cursor, emit_count, tail_emit, below_less, reader_in}
use Rattle.eon_parse.proofs.Left.{Far, FarItem, Reach, bare_far, below_far, list_reach}
use Rattle.eon_parse.proofs.Page.{Page, page, both, emit_p, seal_p, finish_p}
use Rattle.eon_parse.proofs.Pass.{Inv, Ran, Valued, settled_k, emit_ready, entered_ready, inv_start, inv_ready, inv_turn, ran_is, pre_ready, one_stop, two_stop, value_ready, one_next, key_ready, colon_stop, colon_ready, value_stop, second_ready, two_next, inside_stop, inside_got, value_refused, value_is, peeks, peeks_kind, peeks_gets, string_variant, string_leaf, ready_at, bare_by, bare_is}

-- a reader's two clauses
pub record Reads (s old tb : List ℕ) (w : Walk) (o : Out Records) (r : Result Walk Stop) (tb' : List ℕ) : Type 0 where
  pub walk : r ≡ bared s old w o
  pub stored : Stored tb w o tb'

pub record ReadsItem (s old tb : List ℕ) (w : Walk) (o : Out Item) (r : Result Past Stop) (tb' : List ℕ) : Type 0 where
  pub walk : r ≡ counted s old w o
  pub stored : StoredItem tb w o tb'

module _ (s old tb : List ℕ) (w : Walk) where
  abbrev pub Leads : Walk → List ℕ → Records → Span → Type 0
  Leads x tb' f n = page x tb' ≡ emit_p s old (page w tb) f n

  abbrev pub LeadsItem : Past → List ℕ → Item → Span → Type 0
  LeadsItem v tb' i n = (page v.walk tb' ≡ emit_p s old (page w tb) i.body n) × (v.from ≡ i.from)

  module _ (o : Out Records) where
    stored_at : (tb' : List ℕ) → Stored tb w o tb' → (f : Records) (n : Span) → o ≡ got f n → tb' ≡ stored tb w f
    stored_at tb' h f n e = subst (λ (z : Out Records). Stored tb w z tb') e h

    pub read_yes : (r : Result Walk Stop) (tb' : List ℕ) → r ≡ bared s old w o → Stored tb w o tb' → (x : Walk) → r ≡ Ok x → Came o (Leads x tb')
    read_yes r tb' e h x q =
        let c = was_done s old w o {x = x} (sym e ∙ q) in
        record { what = c.what; next = c.next; is = c.is; so = both c.so (stored_at tb' h c.what c.next c.is) }

    pub read_no : (r : Result Walk Stop) → r ≡ bared s old w o → (x : Stop) → r ≡ Err x → Failed o x
    read_no r e x q = was_refused s old w o {x = x} (sym e ∙ q)

    pub yes_read : (x : Walk) (tb' : List ℕ) → Came o (Leads x tb') → Reads s old tb w o (Ok x) tb'
    unfolding bared
    yes_read x tb' c = record {
      walk = ap (λ (σ : Page). Ok σ.cur) c.so ∙ sym (ap (bared s old w) c.is);
      stored = subst (λ (z : Out Records). Stored tb w z tb') (sym c.is) (ap (λ (σ : Page). σ.tab) c.so);
    }

    pub no_read : (x : Stop) (tb' : List ℕ) → Failed o x → Reads s old tb w o (Err x) tb'
    unfolding bared
    no_read x tb' f = record {
      walk = ap Err f.so ∙ sym (ap (bared s old w) f.is);
      stored = subst (λ (z : Out Records). Stored tb w z tb') (sym f.is) tt;
    }

  module _ (o : Out Item) where
    pub item_yes : (r : Result Past Stop) (tb' : List ℕ) → r ≡ counted s old w o → StoredItem tb w o tb' → (v : Past) → r ≡ Ok v → Came o (LeadsItem v tb')
    item_yes r tb' e h v q =
        let c = was_value s old w o {x = v.walk} {f = v.from} (sym e ∙ q) in
        record {
          what = c.what;
          next = c.next;
          is = c.is;
          so = (both c.so.0 (subst (λ (z : Out Item). StoredItem tb w z tb') c.is h), c.so.1);
        }

    pub item_no : (r : Result Past Stop) → r ≡ counted s old w o → (x : Stop) → r ≡ Err x → Failed o x
    item_no r e x q = was_stopped s old w o {x = x} (sym e ∙ q)

    pub yes_item : (v : Past) (tb' : List ℕ) → Came o (LeadsItem v tb') → ReadsItem s old tb w o (Ok v) tb'
    unfolding counted
    yes_item v tb' c = record {
      walk = ap (λ (x : Walk). past x v.from) (ap (λ (σ : Page). σ.cur) c.so.0) ∙ ap (past (emit s old w c.what.body c.next)) c.so.1 ∙ sym (ap (counted s old w) c.is);
      stored = subst (λ (z : Out Item). StoredItem tb w z tb') (sym c.is) (ap (λ (σ : Page). σ.tab) c.so.0);
    }

    pub no_item : (x : Stop) (tb' : List ℕ) → Failed o x → ReadsItem s old tb w o (Err x) tb'
    unfolding counted
    no_item x tb' f = record {
      walk = ap Err f.so ∙ sym (ap (counted s old w) f.is);
      stored = subst (λ (z : Out Item). StoredItem tb w z tb') (sym f.is) tt;
    }

  -- comments, and the end of a value, which are never refused
  module _ (x : Walk) (tb' : List ℕ) where
    pub comments_on : (k : ℕ) → Spot s (place w) → x ≡ ran s old w (run s k (place w)) → Stored tb w (run s k (place w)) tb' → Ran s old k (page w tb) (page x tb')
    unfolding ran
    comments_on k h e f =
        ran_is s old (page w tb) k h (page x tb')
        (λ g p q. both (e ∙ ap (ran s old w) q) (subst (λ (z : Out Records). Stored tb w z tb') q f))

    pub settled_on : (from : ℕ) → x ≡ ran s old w (settled_r s (place w) from) → Stored tb w (settled_r s (place w) from) tb' → page x tb' ≡ settled_k s old (page w tb) from
    unfolding ran
    settled_on from = go (eqb (kind_at s (place w)) 9) _ _ _ _
      where
        go : (b : Bool) (f g : Records) (n m : Span) → x ≡ ran s old w (cond b (got f n) (got g m)) → Stored tb w (cond b (got f n) (got g m)) tb' → page x tb' ≡ cond b (emit_p s old (page w tb) f n) (emit_p s old (page w tb) g m)
        go true f g n m e h = both e h
        go false f g n m e h = both e h

-- ---- an inside: w and tb where it began, d and t where its loop stands

module _ {s old tb : List ℕ} {w : Walk} (ready : Ready s w.cursor w.count) {step : Span → Out Records} where
  pub turns_start : Inv s old (stops s) step (page w tb) (page w tb)
  turns_start = inv_start s old (stops s) step (page w tb) ready

  module _ {d : Walk} {t : List ℕ} (inv : Inv s old (stops s) step (page w tb) (page d t)) where
    pub stands : Ready s d.cursor d.count
    stands = inv_ready s old (stops s) step (page w tb) ready (page d t) inv

    pub inside_no : stops s (place d) ≡ false → {r : Result Walk Stop} → r ≡ bared s old d (step (place d)) → {x : Stop} → r ≡ Err x → (t' : List ℕ) → Reads s old tb w (inside s step (place w)) (Err x) t'
    inside_no e {r} q {x} i t' =
        no_read s old tb w (inside s step (place w)) x t' (passed (read_no s old t d (step (place d)) r q x i) (λ k p h. inside_stop s old step (page w tb) ready (page d t) inv e h))

    pub turned : ((p : Span) → Spot s p → Far s p (step p)) → stops s (place d) ≡ false → {r : Result Walk Stop} {t' : List ℕ} → r ≡ bared s old d (step (place d)) → Stored t d (step (place d)) t' → {y : Walk} → r ≡ Ok y
        → Inv s old (stops s) step (page w tb) (page y t') × (length s - y.cursor.end < length s - d.cursor.end)
    turned far e {r} {t'} q h {y} i =
        let c = read_yes s old t d (step (place d)) r t' q h y i in
        let k = inv_turn s old (stops s) step (page w tb) ready (page d t) inv e c.is (subst (λ (o : Out Records). Far s (place d) o) c.is (far (place d) stands.bound)) (page y t') c.so in
        (k.0, omega (arith, k.1, k.2))

    pub inside_yes : stops s (place d) ≡ true → {x : Walk} {t' : List ℕ} → x ≡ ran s old d (run s 9 (place d)) → Stored t d (run s 9 (place d)) t' → Reads s old tb w (inside s step (place w)) (Ok x) t'
    inside_yes e {x} {t'} q h =
        yes_read s old tb w (inside s step (place w)) x t' (inside_got s old step (page w tb) ready (page d t) inv e (page x t') (comments_on s old t d x t' 9 stands.bound q h))

-- ---- a value of a list, a key with its value: b behind the comments

module _ (s old : List ℕ) (depth : ℕ) (w : Walk) (tb : List ℕ) (ready : Ready s w.cursor w.count) {b : Walk} (t₁ : List ℕ)
    (e₁ : b ≡ ran s old w (run s 7 (place w))) (h₁ : Stored tb w (run s 7 (place w)) t₁) where
  abbrev read : Span → Out Item
  read = below depth s

  far : (p : Span) → Spot s p → FarItem s p (read p)
  far = below_far depth s

  pre : Ran s old 7 (page w tb) (page b t₁)
  pre = comments_on s old tb w b t₁ 7 ready.bound e₁ h₁

  pub item_ready : Ready s b.cursor b.count
  item_ready = pre_ready s old read far (page w tb) ready (page b t₁) pre

  module _ {j : ℕ} (less : j ≡ depth - 1) {r : Result Past Stop} (e₂ : r ≡ counted s old b (reader j s (place b))) where
    at_read : reader j s (place b) ≡ read (place b)
    at_read = ap (λ (i : ℕ). reader i s (place b)) less ∙ below_less depth s (place b)

    stopped : (x : Stop) → r ≡ Err x → Failed (read (place b)) x
    stopped x q = item_no s old t₁ b (read (place b)) r (e₂ ∙ ap (counted s old b) at_read) x q

    pub one_no : {x : Stop} → r ≡ Err x → (t : List ℕ) → Reads s old tb w (one s read (place w)) (Err x) t
    one_no {x} q t = no_read s old tb w (one s read (place w)) x t (passed (stopped x q) (λ k p h. one_stop s old read far (page w tb) ready (page b t₁) pre h))

    pub two_no : {x : Stop} → r ≡ Err x → (t : List ℕ) → Reads s old tb w (two s read (place w)) (Err x) t
    two_no {x} q t = no_read s old tb w (two s read (place w)) x t (passed (stopped x q) (λ k p h. two_stop s old read far (page w tb) ready (page b t₁) pre h))

    module _ {v : Past} (q : r ≡ Ok v) (t₂ : List ℕ) (h₂ : StoredItem t₁ b (reader j s (place b)) t₂) where
      valued : Valued s old read (page b t₁) (page v.walk t₂) v.from
      valued = item_yes s old t₁ b (read (place b)) r t₂ (e₂ ∙ ap (counted s old b) at_read) (subst (λ (o : Out Item). StoredItem t₁ b o t₂) at_read h₂) v q

      pub got_ready : Ready s v.walk.cursor v.walk.count
      got_ready = value_ready s old read far (page w tb) ready (page b t₁) pre (page v.walk t₂) v.from valued

      pub one_yes : {y : Walk} {t₃ : List ℕ} → y ≡ ran s old v.walk (settled_r s (place v.walk) v.from) → Stored t₂ v.walk (settled_r s (place v.walk) v.from) t₃ → Reads s old tb w (one s read (place w)) (Ok y) t₃
      one_yes {y} {t₃} e h =
          let c = one_next s old read far (page w tb) ready (page b t₁) pre (page v.walk t₂) v.from valued (page y t₃) (settled_on s old t₂ v.walk y t₃ v.from e h) in
          yes_read s old tb w (one s read (place w)) y t₃ (record { what = c.what; next = c.next; is = c.is; so = c.so.0 })

      -- a key, with its suffix comment
      module _ {y : Walk} (e₃ : y ≡ tailed old v.walk (tail_r v.from (place v.walk))) {t₃ : List ℕ} (h₃ : t₃ ≡ stored t₂ v.walk (tail_r v.from (place v.walk))) where
        keyed : page y t₃ ≡ emit_p s old (page v.walk t₂) (tail_r v.from (place v.walk)) (place v.walk)
        keyed = both (e₃ ∙ tail_emit s old v.walk got_ready.fresh (tail_r v.from (place v.walk))) h₃

        pub colon_next : Ready s y.cursor y.count
        colon_next = key_ready s old read far (page w tb) ready (page b t₁) pre (page v.walk t₂) v.from valued (page y t₃) keyed

        module _ {r₄ : Result Walk Stop} (e₄ : r₄ ≡ expected s y (expect s Colon (place y))) where
          pub colon_no : {x : Stop} → r₄ ≡ Err x → (t : List ℕ) → Reads s old tb w (two s read (place w)) (Err x) t
          colon_no {x} q t =
              no_read s old tb w (two s read (place w)) x t
              (passed (not_expected s y (expect s Colon (place y)) {x = x} (sym e₄ ∙ q)) (λ k p h. colon_stop s old read far (page w tb) ready (page b t₁) pre (page v.walk t₂) v.from valued (page y t₃) keyed h))

          module _ {z : Walk} (q₄ : r₄ ≡ Ok z) where
            colon : Came (expect s Colon (place y)) (λ u n. page z t₃ ≡ page (moved s y n) t₃)
            colon = let c = was_expected s y (expect s Colon (place y)) {x = z} (sym e₄ ∙ q₄) in record { what = c.what; next = c.next; is = c.is; so = both c.so refl }

            pub value_next : Ready s z.cursor z.count
            value_next = colon_ready s old read far (page w tb) ready (page b t₁) pre (page v.walk t₂) v.from valued (page y t₃) keyed (page z t₃) colon

            module _ {i : ℕ} (less₅ : i ≡ depth - 1) {r₅ : Result Past Stop} (e₅ : r₅ ≡ counted s old z (reader i s (place z))) where
              at_second : reader i s (place z) ≡ read (place z)
              at_second = ap (λ (n : ℕ). reader n s (place z)) less₅ ∙ below_less depth s (place z)

              pub second_no : {x : Stop} → r₅ ≡ Err x → (t : List ℕ) → Reads s old tb w (two s read (place w)) (Err x) t
              second_no {x} q t =
                  no_read s old tb w (two s read (place w)) x t
                  (passed (item_no s old t₃ z (read (place z)) r₅ (e₅ ∙ ap (counted s old z) at_second) x q) (λ k p h. value_stop s old read far (page w tb) ready (page b t₁) pre (page v.walk t₂) v.from valued (page y t₃) keyed (page z t₃) colon h))

              module _ {u : Past} (q₅ : r₅ ≡ Ok u) (t₅ : List ℕ) (h₅ : StoredItem t₃ z (reader i s (place z)) t₅) where
                valued₅ : Valued s old read (page z t₃) (page u.walk t₅) u.from
                valued₅ = item_yes s old t₃ z (read (place z)) r₅ t₅ (e₅ ∙ ap (counted s old z) at_second) (subst (λ (o : Out Item). StoredItem t₃ z o t₅) at_second h₅) u q₅

                pub settle_next : Ready s u.walk.cursor u.walk.count
                settle_next = second_ready s old read far (page w tb) ready (page b t₁) pre (page v.walk t₂) v.from valued (page y t₃) keyed (page z t₃) colon (page u.walk t₅) u.from valued₅

                pub two_yes : {x : Walk} {t₆ : List ℕ} → x ≡ ran s old u.walk (settled_r s (place u.walk) u.from) → Stored t₅ u.walk (settled_r s (place u.walk) u.from) t₆ → Reads s old tb w (two s read (place w)) (Ok x) t₆
                two_yes {x} {t₆} e h =
                    let c = two_next s old read far (page w tb) ready (page b t₁) pre (page v.walk t₂) v.from valued (page y t₃) keyed (page z t₃) colon (page u.walk t₅) u.from valued₅ (page x t₆) (settled_on s old t₅ u.walk x t₆ u.from e h) in
                    yes_read s old tb w (two s read (place w)) x t₆ (record { what = c.what; next = c.next; is = c.is; so = c.so.0 })

-- ---- a value with its comments: b behind its prefix comments

module _ (s old : List ℕ) (depth : ℕ) (w : Walk) (tb : List ℕ) (ready : Ready s w.cursor w.count) where
  pub value_deep : depth ≡ 0 → {x : Stop} → x ≡ stop_of (refused_at TooDeep (place w)) w.cursor.end → ReadsItem s old tb w (reader depth s (place w)) (Err x) tb
  unfolding reader
  value_deep e {x} q = no_item s old tb w (reader depth s (place w)) x tb (record { why = refused_at TooDeep (place w); far = w.cursor.end; is = rw e refl; so = q })

  module _ (more : depth ≡ 0 → ⊥) {b : Walk} (t₁ : List ℕ) (e₁ : b ≡ ran s old w (run s 7 (place w))) (h₁ : Stored tb w (run s 7 (place w)) t₁) where
    abbrev inner : Span → Out Item
    inner = below (depth - 1) s

    prefix : Ran s old 7 (page w tb) (page b t₁)
    prefix = comments_on s old tb w b t₁ 7 ready.bound e₁ h₁

    pub core_ready : Ready s b.cursor b.count
    core_ready = pre_ready s old inner (below_far (depth - 1) s) (page w tb) ready (page b t₁) prefix

    by_item : reader depth s (place w) ≡ item_at s inner (place w)
    by_item = reader_in depth s (place w) more

    module _ {r : Result Walk Stop} (e₂ : r ≡ bared s old b (bare_at s inner (place b))) where
      pub value_no : {x : Stop} → r ≡ Err x → (t : List ℕ) → ReadsItem s old tb w (reader depth s (place w)) (Err x) t
      value_no {x} q t =
          no_item s old tb w (reader depth s (place w)) x t
          (passed (read_no s old t₁ b (bare_at s inner (place b)) r e₂ x q) (λ k p h. by_item ∙ value_refused s old inner (page w tb) (page b t₁) prefix h))

      module _ {x : Walk} (q : r ≡ Ok x) (t₂ : List ℕ) (h₂ : Stored t₁ b (bare_at s inner (place b)) t₂) where
        bare : Came (bare_at s inner (place b)) (Leads s old t₁ b x t₂)
        bare = read_yes s old t₁ b (bare_at s inner (place b)) r t₂ e₂ h₂ x q

        pub bare_ready : Ready s x.cursor 0
        bare_ready =
            let f = subst (λ (o : Out Records). Far s (place b) o) bare.is (bare_far s inner (below_far (depth - 1) s) (place b) core_ready.bound) in
            ready_at s b.cursor b.count 0 x.cursor bare.next core_ready (ap (λ (σ : Page). σ.cur.cursor) bare.so ∙ emit_cursor s old b bare.what bare.next) f.2 (omega arith)

        pub value_yes : {e : Cursor} → e ≡ cursor_at s (suffix_end s (place x)) → {y : Walk} → y ≡ set_cursor x e → ReadsItem s old tb w (reader depth s (place w)) (past y x.cursor.end) t₂
        value_yes {e} g {y} f =
            let c = value_is s old inner (page w tb) (page b t₁) prefix (page x t₂) bare (page y t₂) (both (f ∙ ap (set_cursor x) g) refl) in
            yes_item s old tb w (reader depth s (place w)) (record { walk = y; from = x.cursor.end }) t₂ (record { what = c.what; next = c.next; is = by_item ∙ c.is; so = c.so })

-- ---- a container: l is what opens it, d stands behind that, x behind the inside

pub record Over (s : List ℕ) (w : Walk) (l : Span) : Type 0 where
  pub on : w.cursor.end < l.end
  pub spot : Spot s l

module _ (s old tb : List ℕ) (w : Walk) (ready : Ready s w.cursor w.count) (step : Span → Out Records) (reach : (p : Span) → Spot s p → Reach length s p (inside s step p))
    {l : Span} (over : Over s w l) {d : Walk} (e : d ≡ entered s w l) where
  pub inner_ready : Ready s d.cursor d.count
  inner_ready = entered_ready s old (page w tb) l (page d tb) (both e refl) ready over.on over.spot

  at_l : inside s step (place d) ≡ inside s step l
  at_l = ap (λ (y : Walk). inside s step (place y)) e

  module _ {r : Result Walk Stop} (e₁ : r ≡ bared s old d (inside s step (place d))) where
    pub container_no : (k : ℕ) (close : TokenKind) (start name : ℕ) {x : Stop} → r ≡ Err x → (t : List ℕ) → Reads s old tb w (closed s k close start name (inside s step l)) (Err x) t
    unfolding closed
    container_no k close start name {x} q t =
        no_read s old tb w (closed s k close start name (inside s step l)) x t
        (passed (read_no s old tb d (inside s step (place d)) r e₁ x q) (λ n p h. ap (λ (o : Out Records). closed s k close start name o) (sym at_l ∙ h)))

    module _ {x : Walk} (q : r ≡ Ok x) (t₁ : List ℕ) (h₁ : Stored tb d (inside s step (place d)) t₁) where
      within : Came (inside s step (place d)) (Leads s old tb d x t₁)
      within = read_yes s old tb d (inside s step (place d)) r t₁ e₁ h₁ x q

      got_far : (d.cursor.end + length within.what ≤ within.next.end) × Spot s within.next
      got_far = subst (λ (o : Out Records). Reach length s (place d) o) within.is (reach (place d) inner_ready.bound)

      pub close_ready : Ready s x.cursor x.count
      close_ready = emit_ready s old (page d tb) within.what within.next (page x t₁) within.so inner_ready got_far.0 got_far.1

      x_place : place x ≡ within.next
      x_place = ap (λ (σ : Page). place_of σ.cur.cursor) within.so ∙ ap place_of (emit_cursor s old d within.what within.next)

      pub close_opens : (k : RecordKind) (b : Begun) (start name : ℕ) → b ≡ begun k w.count start name → start ≤ l.end → name ≤ l.end → Open x b
      close_opens k b start name f g n =
          let c = ap (λ (σ : Page). σ.cur.count) within.so ∙ emit_count s old d within.what within.next in
          let m = ap (λ (p : Span). p.end) x_place in
          let dc = ap (λ (y : Walk). y.count) e in
          let de = ap (λ (y : Walk). y.cursor.end) e in
          record {
            base = omega (arith, c, dc, ap (λ (y : Begun). y.base) f);
            start = omega (arith, m, de, got_far.0, g, ap (λ (y : Begun). y.start) f);
            name = omega (arith, m, de, got_far.0, n, ap (λ (y : Begun). y.name) f);
            few = omega (arith, close_ready.few, close_ready.bound.within, close_ready.short);
            short = omega (arith, close_ready.bound.within, close_ready.short);
          }

      module _ (k : RecordKind) (close : TokenKind) (start name : ℕ) (b : Begun) (f : b ≡ begun k w.count start name) (r₂ : Result Walk Stop) (t₂ : List ℕ) where
        finished : (n : Span) → page (ended_at (moved s x n) old b) (sets t₁ (5 * b.base) (record_words (moved s x n) b)) ≡ emit_p s old (page w tb) (header (word_of k) start name n.end within.what ∷ within.what) n
        finished n =
            ap (λ (σ : Page). seal_p s old (page (moved s σ.cur n) σ.tab) b) within.so
            ∙ ap (λ (y : Walk). seal_p s old (page (moved s (emit s old y within.what within.next) n) (stored tb y within.what)) b) e
            ∙ ap (λ (c : Begun). seal_p s old (page (moved s (emit s old (entered s w l) within.what within.next) n) (stored tb (entered s w l) within.what)) c) f
            ∙ finish_p s old (page w tb) l within.what within.next n k start name

        by_end : (o : Out (Unit {0})) → r₂ ≡ closed_at s old x o b → StoredEnd s t₁ x o b t₂ → Reads s old tb w (bind o (λ _ n. got (header (word_of k) start name n.end within.what ∷ within.what) n)) r₂ t₂
        unfolding closed_at bared
        by_end (refuse n p) g h = record { walk = g; stored = tt }
        by_end (got u n) g h = record { walk = g ∙ ap (λ (σ : Page). Ok σ.cur) (finished n); stored = h ∙ ap (λ (σ : Page). σ.tab) (finished n) }

        pub container_yes : r₂ ≡ closed_at s old x (expect s close (place x)) b → StoredEnd s t₁ x (expect s close (place x)) b t₂ → Reads s old tb w (closed s (word_of k) close start name (inside s step l)) r₂ t₂
        unfolding closed
        container_yes g h =
            rw (sym at_l ∙ within.is)
            (by_end (expect s close within.next) (g ∙ ap (λ (p : Span). closed_at s old x (expect s close p) b) x_place) (subst (λ (p : Span). StoredEnd s t₁ x (expect s close p) b t₂) x_place h))

-- ---- a value without comments, by its first token

module _ (s old tb : List ℕ) (w : Walk) (read : Span → Out Item) (r : Result Walk Stop) (t : List ℕ) where
  pub core_by : (k : ℕ) → kind_at s (place w) ≡ k → Reads s old tb w (bare_by s read (place w) k) r t → Reads s old tb w (bare_at s read (place w)) r t
  core_by k e h = subst (λ (o : Out Records). Reads s old tb w o r t) (sym (bare_is s read (place w) k e)) h

pub leaf_reads : (s old tb : List ℕ) (w : Walk) (k : ℕ) (x : Walk) → x ≡ emit s old w (leaf k (next_span s (place w)) ∷ []) (next_span s (place w)) → (t : List ℕ) → t ≡ stored tb w (leaf k (next_span s (place w)) ∷ [])
    → Reads s old tb w (leaf_at s k (place w)) (Ok x) t
unfolding leaf_at bared
leaf_reads s old tb w k x e t h = record { walk = ap Ok e; stored = h }

-- the next token is there
pub some_token : {o : Option TokenKind} {k : TokenKind} → o ≡ Some k → IsSome o
some_token e = rw e refl

module _ (s : List ℕ) (w : Walk) (ready : Ready s w.cursor w.count) where
  pub starts : (b : Begun) (k : RecordKind) → b ≡ begun k w.count w.cursor.peeked.start 0 → b ≡ begun k w.count (next_span s (place w)).start 0
  starts b k e = e ∙ ap (λ (t : PlacedToken). begun k w.count t.start 0) (peeks s w.cursor w.count ready)

  module _ (tok : IsSome w.cursor.peeked.kind) where
    there : Gets s (place w)
    there = peeks_gets s w.cursor w.count ready tok

    pub over_token : Over s w (next_span s (place w))
    over_token = record { on = omega (arith, there.behind, there.long); spot = there.bound }

    pub token_long : (next_span s (place w)).start ≤ (next_span s (place w)).end
    token_long = omega (arith, there.long)

  module _ (k : TokenKind) (e : w.cursor.peeked.kind ≡ Some k) where
    pub token_code : kind_at s (place w) ≡ kind_number k
    token_code = sym (peeks_kind s w.cursor w.count ready) ∙ code_some w.cursor.peeked.kind k e

-- ---- a string: d behind it

module _ (s old tb : List ℕ) (w : Walk) (ready : Ready s w.cursor w.count) (tok : IsSome w.cursor.peeked.kind) (read : Span → Out Item) (far : (p : Span) → Spot s p → FarItem s p (read p))
    {d : Walk} (e : d ≡ entered s w (next_span s (place w))) where
  l₁ : Span
  l₁ = next_span s (place w)

  at_d : place d ≡ next_span s (place w)
  at_d = ap (λ (y : Walk). place y) e

  pub string_ready : Ready s d.cursor d.count
  string_ready = inner_ready s old tb w ready (one s read) (list_reach s read far) (over_token s w ready tok) e

  pub string_plain : (kind_at s (place d) ≡ 6 → ⊥) → (b : Begun) → b ≡ begun kind.String w.count w.cursor.peeked.start 0 → (x : Walk) → x ≡ ended_at d old b → (t : List ℕ) → t ≡ sets tb (5 * b.base) (record_words d b)
      → Reads s old tb w (string_at s read (place w)) (Ok x) t
  string_plain a b f x g t h =
      let c = leaf_put s old tb w ready kind.String refl d e b f x g t h in
      subst (λ (o : Out Records). Reads s old tb w o (Ok x) t) (sym (string_leaf s read (place w) (λ z. a (ap (kind_at s) at_d ∙ z))))
      (leaf_reads s old tb w 3 x (ap (λ (σ : Page). σ.cur) c) t (ap (λ (σ : Page). σ.tab) c))

  module _ (a : kind_at s (place d) ≡ 6) {z : Walk} (f : z ≡ moved s d (next_span s (place d))) where
    abbrev l₂ : Span
    l₂ = next_span s (next_span s (place w))

    paren : Gets s (next_span s (place w))
    paren = gets s (next_span s (place w)) (over_token s w ready tok).spot (omega (arith, a, ap (kind_at s) at_d))

    entered_both : z ≡ entered s w (next_span s (next_span s (place w)))
    entered_both = f ∙ ap (λ (y : Walk). moved s y (next_span s (place y))) e

    over : Over s w l₂
    over = record { on = omega (arith, (over_token s w ready tok).on, paren.behind, paren.long); spot = paren.bound }

    pub variant_ready : Ready s z.cursor z.count
    variant_ready = inner_ready s old tb w ready (one s read) (list_reach s read far) over entered_both

    is_variant : string_at s read (place w) ≡ variant_at s read (place w)
    is_variant = string_variant s read (place w) (sym (ap (kind_at s) at_d) ∙ a)

    module _ {r : Result Walk Stop} (e₁ : r ≡ bared s old z (inside s (one s read) (place z))) where
      pub variant_no : {x : Stop} → r ≡ Err x → (t : List ℕ) → Reads s old tb w (string_at s read (place w)) (Err x) t
      unfolding variant_at
      variant_no {x} q t =
          subst (λ (o : Out Records). Reads s old tb w o (Err x) t) (sym is_variant)
          (container_no s old tb w ready (one s read) (list_reach s read far) over entered_both e₁ 6 CloseParen (next_span s (place w)).start (next_span s (place w)).end q t)

      module _ {x : Walk} (q : r ≡ Ok x) (t₁ : List ℕ) (h₁ : Stored tb z (inside s (one s read) (place z)) t₁) where
        pub variant_close : Ready s x.cursor x.count
        variant_close = close_ready s old tb w ready (one s read) (list_reach s read far) over entered_both e₁ q t₁ h₁

        module _ {b : Begun} (g : b ≡ begun kind.Variant w.count w.cursor.peeked.start d.cursor.end) where
          b_is : b ≡ begun kind.Variant w.count (next_span s (place w)).start (next_span s (place w)).end
          b_is =
              g
              ∙ ap (λ (t : PlacedToken). begun kind.Variant w.count t.start d.cursor.end) (peeks s w.cursor w.count ready)
              ∙ ap (λ (p : Span). begun kind.Variant w.count (next_span s (place w)).start p.end) at_d

          pub variant_opens : Open x b
          variant_opens =
              close_opens s old tb w ready (one s read) (list_reach s read far) over entered_both e₁ q t₁ h₁ kind.Variant b (next_span s (place w)).start (next_span s (place w)).end b_is
              (omega (arith, token_long s w ready tok, paren.behind, paren.long)) (omega (arith, paren.behind, paren.long))

          pub variant_yes : (r₂ : Result Walk Stop) → r₂ ≡ closed_at s old x (expect s CloseParen (place x)) b → (t₂ : List ℕ) → StoredEnd s t₁ x (expect s CloseParen (place x)) b t₂ → Reads s old tb w (string_at s read (place w)) r₂ t₂
          unfolding variant_at
          variant_yes r₂ m t₂ n =
              subst (λ (o : Out Records). Reads s old tb w o r₂ t₂) (sym is_variant)
              (container_yes s old tb w ready (one s read) (list_reach s read far) over entered_both e₁ q t₁ h₁ kind.Variant CloseParen (next_span s (place w)).start (next_span s (place w)).end b b_is r₂ t₂ m n)

-- ---- no value begins here

module _ (s : List ℕ) (read : Span → Out Item) (at : Span) where
  none_by : (k : TokenKind) → (k ≡ token.Identifier → ⊥) → (k ≡ token.Number → ⊥) → (k ≡ token.OpenList → ⊥) → (k ≡ token.OpenBrace → ⊥) → (k ≡ token.DoubleQuotedString → ⊥) → (k ≡ token.SingleQuotedString → ⊥)
      → (k ≡ token.MultilineBasicString → ⊥) → (k ≡ token.MultilineLiteralString → ⊥) → bare_by s read at (kind_number k) ≡ refuse (refused_at (reason_of (kind_number k)) (next_span s at)) (next_span s at).end
  unfolding strings
  none_by token.Invalid a b c d e f g h = refl
  none_by token.Comment a b c d e f g h = refl
  none_by token.OpenList a b c d e f g h = absurd (c refl)
  none_by token.CloseList a b c d e f g h = refl
  none_by token.OpenBrace a b c d e f g h = absurd (d refl)
  none_by token.CloseBrace a b c d e f g h = refl
  none_by token.OpenParen a b c d e f g h = refl
  none_by token.CloseParen a b c d e f g h = refl
  none_by token.Colon a b c d e f g h = refl
  none_by token.Comma a b c d e f g h = refl
  none_by token.Identifier a b c d e f g h = absurd (a refl)
  none_by token.Number a b c d e f g h = absurd (b refl)
  none_by token.DoubleQuotedString a b c d e f g h = absurd (e refl)
  none_by token.SingleQuotedString a b c d e f g h = absurd (f refl)
  none_by token.MultilineBasicString a b c d e f g h = absurd (g refl)
  none_by token.MultilineLiteralString a b c d e f g h = absurd (h refl)

module _ (s old tb : List ℕ) (w : Walk) (ready : Ready s w.cursor w.count) (read : Span → Out Item) (x : Stop) (q : x ≡ no_value (length s) w.cursor) where
  by_kind : ℕ → Stop
  by_kind k = cond (eqb k 16) (stop_of (refused_at MissingValue (span (length s) (length s))) w.cursor.end) (stop_of (refused_at (reason_of k) (next_span s (place w))) (next_span s (place w)).end)

  x_is : (k : ℕ) → kind_at s (place w) ≡ k → x ≡ by_kind k
  unfolding by_kind
  x_is k e = q ∙ ap (no_value (length s)) ready.fresh ∙ ap by_kind e

  pub end_reads : w.cursor.peeked.kind ≡ None → Reads s old tb w (bare_at s read (place w)) (Err x) tb
  unfolding strings by_kind
  end_reads e =
      let k : kind_at s (place w) ≡ 16 = sym (peeks_kind s w.cursor w.count ready) ∙ code_none w.cursor.peeked.kind e in
      no_read s old tb w (bare_at s read (place w)) x tb (record { why = refused_at MissingValue (span (length s) (length s)); far = w.cursor.end; is = bare_is s read (place w) 16 k; so = x_is 16 k })

  pub none_reads : (k : TokenKind) → w.cursor.peeked.kind ≡ Some k → (k ≡ token.Identifier → ⊥) → (k ≡ token.Number → ⊥) → (k ≡ token.OpenList → ⊥) → (k ≡ token.OpenBrace → ⊥) → (k ≡ token.DoubleQuotedString → ⊥)
      → (k ≡ token.SingleQuotedString → ⊥) → (k ≡ token.MultilineBasicString → ⊥) → (k ≡ token.MultilineLiteralString → ⊥) → Reads s old tb w (bare_at s read (place w)) (Err x) tb
  unfolding by_kind
  none_reads k e a b c d f g h i =
      let n = token_code s w ready k e in
      no_read s old tb w (bare_at s read (place w)) x tb (record {
        why = refused_at (reason_of (kind_number k)) (next_span s (place w));
        far = (next_span s (place w)).end;
        is = bare_is s read (place w) (kind_number k) n ∙ none_by s read (place w) k a b c d f g h i;
        so = x_is (kind_number k) n ∙ rw (ne_eqb (kind_number k) 16 (λ z. omega (arith, kind_small k)));
      })
