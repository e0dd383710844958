-- KeyMatched a key of the event: the turns over the paths.
use Rattle.std.proofs.Common.{append-nil, Option, None, Some, ◌≡◌, refl, sym, ap, ap₂, ◌∙◌, subst, Bool, true, false, ◌&&◌, not, cond, List, [], ◌∷◌, ◌++◌, ℕ, ◌+◌, ◌≤◌, ◌<◌, arith, add-one, length, get_or, take, set, length-set, take-suc, take_all, take-suc-set, ltb, eqb, lt-ltb, le-ltb, filter}
use Rattle.std.proofs.lemmas.List.Elements.{filter-append}
use Rattle.eon_spec.specs.Base.{elem, eq_list}
use Rattle.eon_spec.specs.Calls.{record_text}
use Rattle.eon_spec.specs.Lookup.{Key, is_key}
use Rattle.eon_table.specs.Words.{word, record_of}
use Rattle.eon_lookup.specs.declared.paths.Keys.{Keys}
use Rattle.eon_lookup.specs.Keys.{many, key_kind, key_here, key_at, GoesOn, Going}
use Rattle.eon_lookup.specs.Live.{answered, Gains, among, matches, ends_at, goes_on, KeyMatched}
use Rattle.eon_lookup.proofs.Lists.{neither, elem_at, gains_nothing, gains_then, gave, among_more}

pub no_key : (s tb : List ℕ) (k : ℕ) → key_kind (word tb k 0) ≡ false → key_here s tb k ≡ None
no_key s tb k e = ap (λ (b : Bool). cond b (Some (record_text s (record_of tb k))) None) e

pub a_key : (s tb : List ℕ) (k : ℕ) → key_kind (word tb k 0) ≡ true → key_here s tb k ≡ Some (record_text s (record_of tb k))
a_key s tb k e = ap (λ (b : Bool). cond b (Some (record_text s (record_of tb k))) None) e

pub going_at : (paths : List Keys) (d : ℕ) (live : List ℕ) → Going paths d live → (i : ℕ) → i < length live → GoesOn paths d (get_or live i 0)
going_at paths d live g i h = g (get_or live i 0) (elem_at live i h)

module _ (q : List ℕ) (paths : List Keys) (d : ℕ) (key : Option Key) (live : List ℕ) (w : ℕ) (old : List ℕ) where
  abbrev on : ℕ → Bool
  on = goes_on q paths d key

  abbrev ends : ℕ → Option ℕ
  ends = ends_at q paths d key w

  -- the first i paths are looked at, and n of them go on
  pub record Turns (answers next : List ℕ) (n i : ℕ) : Type 0 where
    pub few : n ≤ i
    pub inside : i ≤ length live
    pub size : length answers ≡ 128
    pub room : length next ≡ 128
    pub list : take n next ≡ filter on (take i live)
    pub gains : Gains (among (take i live) ends) old answers

  pub turns_start : (next : List ℕ) → length old ≡ 128 → length next ≡ 128 → Turns old next 0 0
  turns_start next h k =
      record { few = omega arith; inside = omega arith; size = h; room = k; list = refl; gains = gains_nothing (λ p. refl) }

  pub turns_end : (answers next : List ℕ) (n i : ℕ) → Turns answers next n i → length live ≤ i → KeyMatched q paths d key live w old answers (take n next)
  turns_end answers next n i t h =
      let e : take i live ≡ live = take_all i live h in
      record { size = t.size; list = t.list ∙ ap (filter on) e; gains = subst (λ (ps : List ℕ). Gains (among ps ends) old answers) e t.gains }

  -- what the test of two texts says
  pub text_says : (b : List ℕ) → key ≡ Some b → (p : ℕ) (z : Bool) → z ≡ eq_list (key_at q paths p d) b → matches q paths d key p ≡ z
  text_says b e p z f = ap (is_key (key_at q paths p d)) e ∙ sym f

  -- the event's key is none
  pub none_matched : length old ≡ 128 → key ≡ None → KeyMatched q paths d key live w old old []
  none_matched h e =
      record { size = h; list = sym (all live); gains = gains_nothing (λ p. nothing p) }
    where
      off : (p : ℕ) → matches q paths d key p ≡ false
      off p = ap (is_key (key_at q paths p d)) e

      all : (l : List ℕ) → filter on l ≡ []
      all [] = refl
      all (p ∷ l) = ap (λ (b : Bool). cond (b && ltb (d + 1) (many paths p)) (p ∷ filter on l) (filter on l)) (off p) ∙ all l

      nothing : (p : ℕ) → among live ends p ≡ None
      nothing p = ap (λ (b : Bool). among live (λ x. cond (b && not (ltb (d + 1) (many paths p))) (Some w) None) p) (off p) ∙ neither (elem p live)

  module _ (answers next : List ℕ) (n i : ℕ) (t : Turns answers next n i) (h : i < length live) where
    abbrev p : ℕ
    p = get_or live i 0

    more : take (i + 1) live ≡ take i live ++ (p ∷ [])
    more = ap (λ (m : ℕ). take m live) (add-one i) ∙ take-suc live i 0 h

    lists : (b : Bool) → on p ≡ b → filter on (take (i + 1) live) ≡ filter on (take i live) ++ cond b (p ∷ []) []
    lists b e = ap (filter on) more ∙ filter-append on (take i live) (p ∷ []) ∙ ap (λ (c : Bool). filter on (take i live) ++ cond c (p ∷ []) []) e

    -- answers that gain what path p gains
    gained : (answers' : List ℕ) → Gains (λ x. cond (eqb x p) (ends p) None) answers answers' → Gains (among (take (i + 1) live) ends) old answers'
    gained answers' g =
        gains_then t.gains g (λ x. among_more (take i live) p ends x ∙ ap (λ (ps : List ℕ). among ps ends x) (sym more))

    stay : ends p ≡ None → Gains (λ x. cond (eqb x p) (ends p) None) answers answers
    stay e = gains_nothing (λ x. ap (λ (o : Option ℕ). cond (eqb x p) o None) e ∙ neither (eqb x p))

    -- another key
    pub turn_other : matches q paths d key p ≡ false → Turns answers next n (i + 1)
    turn_other e =
        let m : n ≤ i = t.few in
        record {
          few = omega arith;
          inside = omega arith;
          size = t.size;
          room = t.room;
          list = t.list ∙ sym (lists false (ap (λ (b : Bool). b && ltb (d + 1) (many paths p)) e) ∙ append-nil (filter on (take i live)));
          gains = gained answers (stay (ap (λ (b : Bool). cond (b && not (ltb (d + 1) (many paths p))) (Some w) None) e));
        }

    -- this key, and a further one is left
    pub turn_on : matches q paths d key p ≡ true → d + 1 < many paths p → i < 128 → Turns answers (set next n p) (n + 1) (i + 1)
    turn_on e l k =
        let m : n ≤ i = t.few in
        let r : length next ≡ 128 = t.room in
        let f : on p ≡ true = ap₂ (λ (a b : Bool). a && b) e (lt-ltb (d + 1) (many paths p) l) in
        record {
          few = omega arith;
          inside = omega arith;
          size = t.size;
          room = length-set next n p ∙ r;
          list = ap (λ (m : ℕ). take m (set next n p)) (add-one n) ∙ take-suc-set next n p (omega arith) ∙ ap (λ (l : List ℕ). l ++ (p ∷ [])) t.list ∙ sym (lists true f);
          gains = gained answers (stay (ap₂ (λ (a b : Bool). cond (a && not b) (Some w) None) e (lt-ltb (d + 1) (many paths p) l)));
        }

    -- this key, and the path ends
    pub turn_ends : matches q paths d key p ≡ true → many paths p ≤ d + 1 → p < 128 → w < 4294967295
        → (answers' : List ℕ) → answers' ≡ answered answers p w → Turns answers' next n (i + 1)
    turn_ends e l k v answers' a =
        let m : n ≤ i = t.few in
        let z : length answers ≡ 128 = t.size in
        let f : on p ≡ false = ap₂ (λ (a b : Bool). a && b) e (le-ltb (d + 1) (many paths p) l) in
        let o : ends p ≡ Some w = ap₂ (λ (a b : Bool). cond (a && not b) (Some w) None) e (le-ltb (d + 1) (many paths p) l) in
        record {
          few = omega arith;
          inside = omega arith;
          size = ap length a ∙ same (eqb (get_or answers p 0) 4294967295) ∙ z;
          room = t.room;
          list = t.list ∙ sym (lists false f ∙ append-nil (filter on (take i live)));
          gains = gained answers' (subst (λ (x : List ℕ). Gains (λ x. cond (eqb x p) (ends p) None) answers x) (sym a) (subst (λ (x : Option ℕ). Gains (λ y. cond (eqb y p) x None) answers (answered answers p w)) (sym o) (gave answers p w (omega arith) v)));
        }
      where
        same : (b : Bool) → length (cond b (set answers p w) answers) ≡ length answers
        same true = length-set answers p w
        same false = refl
