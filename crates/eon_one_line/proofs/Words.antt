-- The one-line rule and what it writes, by the table's words, case by case.
use Rattle.std.proofs.Common.{◌≡◌, refl, sym, ap, ◌∙◌, Bool, true, false, not, cond, List, [], ◌∷◌, ◌++◌, length, take, drop, get_or, drop-cons, ℕ, zero, suc, ◌+◌, ◌-◌, ◌≤◌, ◌<◌, add-one, arith, ltb, eqb, lt-ltb, le-ltb, eq-eqb, ne_eqb}
use Rattle.eon_spec.specs.Base.{elem, codes}
use Rattle.eon_table.specs.Words.{word, has_suffix, text_at, part}
use Rattle.eon_table.proofs.Parts.{part_past}
use Rattle.eon_one_line.specs.Flat.{comma_at, simple_at, width_at, line_at, one_line_at, flat_at, plain_at, plain_line}

-- ---- a part of a text

pub part_cons : (s : List ℕ) (j to : ℕ) → j < to → j < length s → part s j to ≡ get_or s j 0 ∷ part s (j + 1) to
part_cons s j to h k =
    let e : to - j ≡ suc (to - (j + 1)) = omega arith in
    ap (λ (l : List ℕ). take (to - j) l) (drop-cons s j 0 k)
    ∙ ap (λ (n : ℕ). take n (get_or s j 0 ∷ drop (suc j) s)) e
    ∙ ap (λ (n : ℕ). get_or s j 0 ∷ take (to - (j + 1)) (drop n s)) (sym (add-one j))

-- a line feed in a part
pub feed_here : (s : List ℕ) (j to : ℕ) → j < to → j < length s → get_or s j 0 ≡ 10 → elem 10 (part s j to) ≡ true
feed_here s j to h k e = ap (elem 10) (part_cons s j to h k) ∙ ap (λ (x : ℕ). elem 10 (x ∷ part s (j + 1) to)) e

pub feed_on : (s : List ℕ) (j to : ℕ) → j < to → j < length s → (get_or s j 0 ≡ 10 → ⊥) → elem 10 (part s j to) ≡ elem 10 (part s (j + 1) to)
feed_on s j to h k e = ap (elem 10) (part_cons s j to h k) ∙ rw (ne_eqb 10 (get_or s j 0) (λ q. e (sym q)))

pub feed_past : (s : List ℕ) (j to : ℕ) → length s ≤ j → elem 10 (part s j to) ≡ elem 10 (part s (j + 1) to)
feed_past s j to h = ap (elem 10) (sym (part_past s j to h) ∙ part_past s (j + 1) to (omega arith))

-- ---- plain values

pub plain_list : (s tb : List ℕ) (i : ℕ) → word tb i 0 ≡ 4 → codes "[]" ≡ plain_at s tb i
unfolding plain_at
plain_list s tb i e = rw (eq-eqb (word tb i 0) 4 e)

pub plain_map : (s tb : List ℕ) (i : ℕ) → word tb i 0 ≡ 5 → codes "{}" ≡ plain_at s tb i
unfolding plain_at
plain_map s tb i e =
    let f : word tb i 0 ≡ 4 → ⊥ = λ q. omega arith in
    rw (ne_eqb (word tb i 0) 4 f, eq-eqb (word tb i 0) 5 e)

pub plain_text : (s tb : List ℕ) (i : ℕ) → (word tb i 0 ≡ 4 → ⊥) → (word tb i 0 ≡ 5 → ⊥) → text_at s tb i ≡ plain_at s tb i
unfolding plain_at
plain_text s tb i e f = rw (ne_eqb (word tb i 0) 4 e, ne_eqb (word tb i 0) 5 f)

pub line_none : (s tb : List ℕ) (i end : ℕ) → end ≤ i → plain_line s tb i (end - i) ≡ []
unfolding plain_line
line_none s tb i end h = let e : end - i ≡ 0 = omega arith in rw e

pub line_more : (s tb : List ℕ) (i end : ℕ) → i < end →
    plain_line s tb i (end - i) ≡ plain_at s tb i ++ comma_at (i + 1) end ++ plain_line s tb (i + 1) (end - (i + 1))
unfolding plain_line
line_more s tb i end h =
    let e : end - i ≡ suc (end - (i + 1)) = omega arith in
    rw e (ap (λ (b : Bool). plain_at s tb i ++ cond b (codes ", ") [] ++ plain_line s tb (i + 1) (end - (i + 1))) (more (end - (i + 1)) refl))
  where
    more : (k : ℕ) → end - (i + 1) ≡ k → ltb 0 (end - (i + 1)) ≡ ltb (i + 1) end
    more zero q = le-ltb 0 (end - (i + 1)) (omega arith) ∙ sym (le-ltb (i + 1) end (omega arith))
    more (suc k) q = lt-ltb 0 (end - (i + 1)) (omega arith) ∙ sym (lt-ltb (i + 1) end (omega arith))

-- ---- simple values by the table

module _ (s tb : List ℕ) (end i : ℕ) where
  pub simple_prefix : word tb i 0 ≡ 7 → false ≡ simple_at s tb end i
  unfolding simple_at
  simple_prefix e = rw (eq-eqb (word tb i 0) 7 e)

  pub simple_long : (word tb i 0 ≡ 7 → ⊥) → (word tb i 4 ≡ 1 → ⊥) → false ≡ simple_at s tb end i
  unfolding simple_at
  simple_long e f = rw (ne_eqb (word tb i 0) 7 e, ne_eqb (word tb i 4) 1 f)

  pub simple_suffix : (word tb i 0 ≡ 7 → ⊥) → word tb i 4 ≡ 1 → has_suffix tb end (i + 1) ≡ true → false ≡ simple_at s tb end i
  unfolding simple_at
  simple_suffix e f g = rw (ne_eqb (word tb i 0) 7 e, eq-eqb (word tb i 4) 1 f, g)

  pub simple_string : (word tb i 0 ≡ 7 → ⊥) → word tb i 4 ≡ 1 → has_suffix tb end (i + 1) ≡ false → word tb i 0 ≡ 3 → not (elem 10 (text_at s tb i)) ≡ simple_at s tb end i
  unfolding simple_at
  simple_string e f g h = rw (ne_eqb (word tb i 0) 7 e, eq-eqb (word tb i 4) 1 f, g, eq-eqb (word tb i 0) 3 h)

  pub simple_other : (word tb i 0 ≡ 7 → ⊥) → word tb i 4 ≡ 1 → has_suffix tb end (i + 1) ≡ false → (word tb i 0 ≡ 3 → ⊥) → true ≡ simple_at s tb end i
  unfolding simple_at
  simple_other e f g h = rw (ne_eqb (word tb i 0) 7 e, eq-eqb (word tb i 4) 1 f, g, ne_eqb (word tb i 0) 3 h)

  pub one_many : 4 < end - i → false ≡ one_line_at s tb end i
  unfolding one_line_at
  one_many h = rw (lt-ltb 4 (end - i) h)

  pub one_few : end - i ≤ 4 → one_line_at s tb end i ≡ line_at s tb end true 0 i (end - i)
  unfolding one_line_at
  one_few h = rw (le-ltb 4 (end - i) h)

module _ (s tb : List ℕ) (end : ℕ) (b : Bool) (w j : ℕ) where
  pub line_closing : j < end → word tb j 0 ≡ 9 → line_at s tb end b w j (end - j) ≡ false
  unfolding line_at
  line_closing h e = let d : end - j ≡ suc (end - (j + 1)) = omega arith in rw (d, eq-eqb (word tb j 0) 9 e)

  pub line_stop : j < end → (word tb j 0 ≡ 9 → ⊥) → simple_at s tb end j ≡ false → line_at s tb end b w j (end - j) ≡ false
  unfolding line_at
  line_stop h e f = let d : end - j ≡ suc (end - (j + 1)) = omega arith in rw (d, ne_eqb (word tb j 0) 9 e, f)

  pub line_go : j < end → (word tb j 0 ≡ 9 → ⊥) → simple_at s tb end j ≡ true →
      line_at s tb end b w j (end - j) ≡ line_at s tb end (cond (eqb (word tb j 0) 2) b false) (w + width_at s tb j) (j + 1) (end - (j + 1))
  unfolding line_at
  line_go h e f = let d : end - j ≡ suc (end - (j + 1)) = omega arith in rw (d, ne_eqb (word tb j 0) 9 e, f)

  pub line_end_lem : end ≤ j → line_at s tb end b w j (end - j) ≡ cond b true (ltb w 60)
  unfolding line_at
  line_end_lem h = let d : end - j ≡ 0 = omega arith in rw d

module _ (s tb : List ℕ) (i : ℕ) where
  pub flat_one : word tb i 4 ≡ 1 → true ≡ flat_at s tb i
  unfolding flat_at
  flat_one e = rw (eq-eqb (word tb i 4) 1 e)

  pub flat_map : (word tb i 4 ≡ 1 → ⊥) → word tb i 0 ≡ 5 → false ≡ flat_at s tb i
  unfolding flat_at
  flat_map e f = rw (ne_eqb (word tb i 4) 1 e, eq-eqb (word tb i 0) 5 f)

  pub flat_more : (word tb i 4 ≡ 1 → ⊥) → (word tb i 0 ≡ 5 → ⊥) → one_line_at s tb (i + word tb i 4) (i + 1) ≡ flat_at s tb i
  unfolding flat_at
  flat_more e f = rw (ne_eqb (word tb i 4) 1 e, ne_eqb (word tb i 0) 5 f)
