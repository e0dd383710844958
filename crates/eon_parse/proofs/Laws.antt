-- Laws of the definitions: records and their words, the comparison, the walk after records.
-- Assumes nothing.
use Rattle.std.proofs.Common.{◌≡◌, ℕ, zero, suc, ◌+◌, ◌-◌, ◌*◌, Bool, true, false, cond, List, [], ◌∷◌, ◌++◌, length, Ok, Err, sym, refl, ap, ◌∙◌, add-zero, add-suc, suc-add, arith, length-append}
use native.Mathlib.Numerals.{towards_suc}
use Rattle.eon_spec.specs.Tree.{Span}
use Rattle.eon_spec.specs.declared.refusal.Refusal.{Refusal}
use Rattle.eon_spec.specs.Records.{words}
use Rattle.eon_laws.proofs.Records.{words_length}
use Rattle.eon_token.specs.Place.{cursor_at}
use Rattle.eon_parse.specs.Walk.{Out, refuse, got, Records, Item, header, text_end, reader, below, item_at}
use Rattle.eon_spec.specs.RecordKind.{word_of}
use Rattle.eon_spec.specs.declared.record_kind.RecordKind.{RecordKind}
use Rattle.eon_parse.specs.Answer.{agrees, holds, stop_of, place, emit, bared, counted, entered, moved, begun, ended_at, expected, tailed, past}
use Rattle.eon_parse.specs.declared.walk.Walk.{Walk}
use Rattle.eon_parse.specs.declared.walk.Stop.{Stop}
use Rattle.eon_parse.specs.declared.walk.Past.{Past}

-- ---- tests

pub and_assoc : (a b c : Bool) → cond (cond a b false) c false ≡ cond a (cond b c false) false
and_assoc true b c = refl
and_assoc false b c = refl

pub and_comm : (a b : Bool) → cond a b false ≡ cond b a false
and_comm true true = refl
and_comm true false = refl
and_comm false true = refl
and_comm false false = refl

pub and_true : (a : Bool) → cond a true false ≡ a
and_true true = refl
and_true false = refl

-- what holds of both holds of the one picked
pub picked : {A : Type 0} (P : A → Type 0) (b : Bool) {x y : A} → (b ≡ true → P x) → (b ≡ false → P y) → P (cond b x y)
picked P true f g = f refl
picked P false f g = g refl

-- ---- records

pub words_append : (f g : Records) → words (f ++ g) ≡ words f ++ words g
words_append [] g = refl
words_append (r ∷ f) g = ap (λ (l : List ℕ). r.kind ∷ r.start ∷ r.text_end ∷ r.end ∷ r.size ∷ l) (words_append f g)

-- ---- the comparison

pub agrees_append : (tb : List ℕ) (i : ℕ) (xs ys : List ℕ) → agrees tb i (xs ++ ys) ≡ cond (agrees tb i xs) (agrees tb (i + length xs) ys) false
unfolding agrees
agrees_append tb i [] ys = rw add-zero
agrees_append tb i (x ∷ xs) ys =
    rw (agrees_append tb (suc i) xs ys, add-suc, suc-add) (sym (and_assoc (holds tb i x) _ _))

pub agrees_5 : (t : List ℕ) (i a b c d e : ℕ)
    → agrees t i (a ∷ b ∷ c ∷ d ∷ e ∷ [])
    ≡ cond (holds t i a) (cond (holds t (i + 1) b) (cond (holds t (i + 2) c) (cond (holds t (i + 3) d) (holds t (i + 4) e) false) false) false) false
unfolding agrees
agrees_5 t i a b c d e =
    ap (λ (z : Bool). cond (holds t i a) (cond (holds t (suc i) b) (cond (holds t (suc (suc i)) c) (cond (holds t (suc (suc (suc i))) d) z false) false) false) false)
    (and_true (holds t (suc (suc (suc (suc i)))) e))
    ∙ sym (simp towards_suc)

pub agrees_last : (t : List ℕ) (i a b c d e : ℕ) → holds t i a ≡ true → holds t (i + 1) b ≡ true → holds t (i + 2) c ≡ true → holds t (i + 3) d ≡ true
    → holds t (i + 4) e ≡ agrees t i (a ∷ b ∷ c ∷ d ∷ e ∷ [])
agrees_last t i a b c d e p q r u = sym (agrees_5 t i a b c d e ∙ rw (p, q, r, u))

-- ---- the walk after records

module _ (s tb : List ℕ) (w : Walk) where
  pub emit_none : w.cursor ≡ cursor_at s (place w) → w ≡ emit s tb w [] (place w)
  unfolding emit agrees
  emit_none e = λ i. record { cursor = e i; count = sym (add-zero w.count) i; same = sym (and_true w.same) i }

  -- records that end where the walk stands
  pub tail_emit : w.cursor ≡ cursor_at s (place w) → (f : Records) → tailed tb w f ≡ emit s tb w f (place w)
  unfolding emit
  tail_emit e f = λ i. record { cursor = e i; count = w.count + length f; same = cond w.same (agrees tb (5 * w.count) (words f)) false }

  pub emit_emit : (f : Records) (p : Span) (g : Records) (n : Span) → emit s tb (emit s tb w f p) g n ≡ emit s tb w (f ++ g) n
  unfolding emit
  emit_emit f p g n = λ i. record { cursor = cursor_at s n; count = count_eq i; same = same_eq i }
    where
      count_eq : w.count + length f + length g ≡ w.count + length (f ++ g)
      count_eq = omega (arith, length-append f g)

      at_words : 5 * (w.count + length f) ≡ 5 * w.count + length (words f)
      at_words = omega (arith, words_length f)

      same_eq : cond (cond w.same (agrees tb (5 * w.count) (words f)) false) (agrees tb (5 * (w.count + length f)) (words g)) false
          ≡ cond w.same (agrees tb (5 * w.count) (words (f ++ g))) false
      same_eq =
          and_assoc w.same _ _
          ∙ ap (λ (z : Bool). cond w.same z false)
          (ap (λ (n : ℕ). cond (agrees tb (5 * w.count) (words f)) (agrees tb n (words g)) false) at_words
          ∙ sym (ap (agrees tb (5 * w.count)) (words_append f g) ∙ agrees_append tb (5 * w.count) (words f) (words g)))

  pub emit_cursor : (f : Records) (n : Span) → (emit s tb w f n).cursor ≡ cursor_at s n
  unfolding emit
  emit_cursor f n = refl

  pub emit_count : (f : Records) (n : Span) → (emit s tb w f n).count ≡ w.count + length f
  unfolding emit
  emit_count f n = refl

  pub emit_moved : (f : Records) (p n : Span) → moved s (emit s tb w f p) n ≡ emit s tb w f n
  unfolding emit
  emit_moved f p n = refl

  -- a record that starts here and ends at p, with f inside
  pub finish : (l : Span) (f : Records) (q p : Span) (k : RecordKind) (start name : ℕ)
      → ended_at (moved s (emit s tb (entered s w l) f q) p) tb (begun k w.count start name) ≡ emit s tb w (header (word_of k) start name p.end f ∷ f) p
  unfolding emit
  finish l f q p k start name = λ i. record { cursor = cursor_at s p; count = count_eq i; same = same_eq i }
    where
      count_eq : w.count + 1 + length f ≡ w.count + suc (length f)
      count_eq = omega arith

      size_eq : w.count + 1 + length f - w.count ≡ suc (length f)
      size_eq = omega arith

      at_words : 5 * (w.count + 1) ≡ 5 * w.count + 5
      at_words = omega arith

      kind : ℕ
      kind = word_of k

      head : List ℕ
      head = kind ∷ start ∷ text_end kind name p.end ∷ p.end ∷ suc (length f) ∷ []

      same_eq : cond (cond w.same (agrees tb (5 * (w.count + 1)) (words f)) false)
          (agrees tb (5 * w.count) (kind ∷ start ∷ text_end kind name p.end ∷ p.end ∷ (w.count + 1 + length f - w.count) ∷ [])) false
          ≡ cond w.same (agrees tb (5 * w.count) (words (header kind start name p.end f ∷ f))) false
      same_eq =
          and_assoc w.same _ _
          ∙ ap (λ (z : Bool). cond w.same z false)
          (and_comm (agrees tb (5 * (w.count + 1)) (words f)) _
          ∙ ap (λ (n : ℕ). cond (agrees tb (5 * w.count) (kind ∷ start ∷ text_end kind name p.end ∷ p.end ∷ n ∷ [])) (agrees tb (5 * (w.count + 1)) (words f)) false) size_eq
          ∙ ap (λ (n : ℕ). cond (agrees tb (5 * w.count) head) (agrees tb n (words f)) false) at_words
          ∙ sym (agrees_append tb (5 * w.count) head (words f)))

-- ---- what a contract's equation says of the definition

pub record Came {A : Type 0} (o : Out A) (P : A → Span → Type 0) : Type 0 where
  pub what : A
  pub next : Span
  pub is : o ≡ got what next
  pub so : P what next

pub record Failed {A : Type 0} (o : Out A) (x : Stop) : Type 0 where
  pub why : Refusal
  pub far : ℕ
  pub is : o ≡ refuse why far
  pub so : x ≡ stop_of why far

-- a refusal goes through
pub passed : {A B : Type 0} {o : Out A} {q : Out B} {x : Stop} → Failed o x → ((r : Refusal) (e : ℕ) → o ≡ refuse r e → q ≡ refuse r e) → Failed q x
passed f h = record { why = f.why; far = f.far; is = h f.why f.far f.is; so = f.so }

module _ (s tb : List ℕ) (w : Walk) where
  pub was_refused : (o : Out Records) {x : Stop} → bared s tb w o ≡ Err x → Failed o x
  unfolding bared
  was_refused (refuse r e) q = record { why = r; far = e; is = refl; so = cc }
  was_refused (got t n) q = cc

  pub was_done : (o : Out Records) {x : Walk} → bared s tb w o ≡ Ok x → Came o (λ f n. x ≡ emit s tb w f n)
  unfolding bared
  was_done (refuse r e) q = cc
  was_done (got t n) q = record { what = t; next = n; is = refl; so = cc }

  pub was_stopped : (o : Out Item) {x : Stop} → counted s tb w o ≡ Err x → Failed o x
  unfolding counted
  was_stopped (refuse r e) q = record { why = r; far = e; is = refl; so = cc }
  was_stopped (got t n) q = cc

  pub was_value : (o : Out Item) {x : Walk} {f : ℕ} → counted s tb w o ≡ past x f → Came o (λ i n. (x ≡ emit s tb w i.body n) × (f ≡ i.from))
  unfolding counted
  was_value (refuse r e) q = cc
  was_value (got i n) {x} {f} q =
      let z : record { walk = emit s tb w i.body n; from = i.from } ≡ record { walk = x; from = f } = cc in
      record { what = i; next = n; is = refl; so = (sym (ap (λ (y : Past). y.walk) z), sym (ap (λ (y : Past). y.from) z)) }

pub not_expected : (s : List ℕ) (w : Walk) (o : Out (Unit {0})) {x : Stop} → expected s w o ≡ Err x → Failed o x
unfolding expected
not_expected s w (refuse r e) q = record { why = r; far = e; is = refl; so = cc }
not_expected s w (got t n) q = cc

pub was_expected : (s : List ℕ) (w : Walk) (o : Out (Unit {0})) {x : Walk} → expected s w o ≡ Ok x → Came o (λ u n. x ≡ moved s w n)
unfolding expected
was_expected s w (refuse r e) q = cc
was_expected s w (got u n) q = record { what = u; next = n; is = refl; so = cc }

-- ---- depth

pub reader_in : (d : ℕ) (s : List ℕ) (l : Span) → (d ≡ 0 → ⊥) → reader d s l ≡ item_at s (below (d - 1) s) l
unfolding reader
reader_in zero s l h = absurd (h refl)
reader_in (suc d) s l h = rw pred_eq
  where
    pred_eq : suc d - 1 ≡ d
    pred_eq = omega arith

pub below_less : (d : ℕ) (s : List ℕ) (l : Span) → reader (d - 1) s l ≡ below d s l
unfolding reader
below_less zero s l = refl
below_less (suc d) s l = ap (λ (k : ℕ). reader k s l) pred_eq
  where
    pred_eq : suc d - 1 ≡ d
    pred_eq = omega arith
