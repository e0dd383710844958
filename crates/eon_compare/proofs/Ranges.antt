-- Comparison over ranges of records. Assumes nothing.
use Rattle.std.proofs.Common.{◌≡◌, refl, sym, ap, ap₂, ◌∙◌, Bool, true, false, ◌&&◌, List, [], ◌∷◌, length, ℕ, zero, suc, ◌+◌, ◌-◌, ◌≤◌, ◌<◌, add-zero, zero-add, add-suc, suc-add, arith}
use Rattle.std.proofs.Math.Bool.{and_assoc, and-true}
use Rattle.eon_spec.specs.Records.{Record, tree_records}
use Rattle.eon_spec.specs.Calls.{done, then, read_finished, same_records, compare_call}
use Rattle.eon_table.specs.Words.{record_of, records_of}
use Rattle.eon_table.specs.Finished.{SomeFinished}
use Rattle.eon_table.proofs.Finished.{answers}
use Rattle.eon_table.proofs.Table.{records_all}
use Rattle.eon_compare.specs.Ranges.{same_record}

module _ (s ta t tb : List ℕ) where
  -- the comparison of n records from i and from j on
  abbrev pub Same : ℕ → ℕ → ℕ → Bool
  Same i j n = same_records s (records_of ta i n) t (records_of tb j n)

  -- of those up to `end`, at the same numbers
  abbrev pub SameTo : ℕ → ℕ → Bool
  SameTo end i = Same i i (end - i)

  abbrev pub SameAt : ℕ → Bool
  SameAt i = same_record s (record_of ta i) t (record_of tb i)

  -- ranges are compared part by part
  same_split : (k m i j : ℕ) → Same i j (k + m) ≡ Same i j k && Same (i + k) (j + k) m
  unfolding records_of
  same_split zero m i j = rw (zero-add m, add-zero i, add-zero j)
  same_split (suc k) m i j =
      ap (λ (n : ℕ). Same i j n) (suc-add k m)
      ∙ ap (λ (b : Bool). same_record s (record_of ta i) t (record_of tb j) && b) (same_split k m (suc i) (suc j))
      ∙ sym (and_assoc (same_record s (record_of ta i) t (record_of tb j)) (Same (suc i) (suc j) k) (Same (suc i + k) (suc j + k) m))
      ∙ ap₂ (λ (x y : ℕ). same_record s (record_of ta i) t (record_of tb j) && Same (suc i) (suc j) k && Same x y m) (suc-add i k ∙ sym (add-suc i k)) (suc-add j k ∙ sym (add-suc j k))

  module _ (i j n : ℕ) where
    pub range_part : (x k : ℕ) → x + k ≤ n → Same (i + x) (j + x) (n - x) ≡ Same (i + x) (j + x) k && Same (i + (x + k)) (j + (x + k)) (n - (x + k))
    range_part x k h =
        let a : n - x ≡ k + (n - (x + k)) = omega arith in
        ap (Same (i + x) (j + x)) a
        ∙ same_split k (n - (x + k)) (i + x) (j + x)
        ∙ ap₂ (λ (y z : ℕ). Same (i + x) (j + x) k && Same y z (n - (x + k))) (omega arith) (omega arith)

    pub range_one : (x : ℕ) → x < n → Same (i + x) (j + x) (n - x) ≡ same_record s (record_of ta (i + x)) t (record_of tb (j + x)) && Same (i + (x + 1)) (j + (x + 1)) (n - (x + 1))
    unfolding records_of
    range_one x h =
        range_part x 1 (omega arith)
        ∙ ap (λ (b : Bool). b && Same (i + (x + 1)) (j + (x + 1)) (n - (x + 1))) (and-true (same_record s (record_of ta (i + x)) t (record_of tb (j + x))))

  to_part : (end i j : ℕ) → i ≤ j → j ≤ end → SameTo end i ≡ SameTo j i && SameTo end j
  to_part end i j h l =
      let a : end - i ≡ (j - i) + (end - j) = omega arith in
      let b : i + (j - i) ≡ j = omega arith in
      ap (Same i i) a ∙ same_split (j - i) (end - j) i i ∙ ap (λ (x : ℕ). Same i i (j - i) && Same x x (end - j)) b

  to_one : (end i : ℕ) → i < end → SameTo end i ≡ SameAt i && SameTo end (i + 1)
  unfolding records_of
  to_one end i h =
      let a : (i + 1) - i ≡ 1 = omega arith in
      to_part end i (i + 1) (omega arith) (omega arith) ∙ ap (λ (n : ℕ). Same i i n && SameTo end (i + 1)) a ∙ ap (λ (b : Bool). b && SameTo end (i + 1)) (and-true (SameAt i))

  -- a turn: the range says `w`
  module _ (end i : ℕ) (w : Bool) (inv : SameTo end i ≡ w) (h : i < end) where
    pub one_fails : SameAt i ≡ false → false ≡ w
    one_fails e = sym (to_one end i h ∙ ap (λ (b : Bool). b && SameTo end (i + 1)) e) ∙ inv

    pub one_goes : SameAt i ≡ true → SameTo end (i + 1) ≡ w
    one_goes e = sym (to_one end i h ∙ ap (λ (b : Bool). b && SameTo end (i + 1)) e) ∙ inv

  module _ (end i j : ℕ) (w : Bool) (inv : SameTo end i ≡ w) (h : i ≤ j) (l : j ≤ end) where
    pub part_fails : SameTo j i ≡ false → false ≡ w
    part_fails e = sym (to_part end i j h l ∙ ap (λ (b : Bool). b && SameTo end j) e) ∙ inv

    pub part_goes : SameTo j i ≡ true → SameTo end j ≡ w
    part_goes e = sym (to_part end i j h l ∙ ap (λ (b : Bool). b && SameTo end j) e) ∙ inv

  pub range_none : (end i : ℕ) → end ≤ i → SameTo end i ≡ true
  unfolding records_of
  range_none end i h = let a : end - i ≡ 0 = omega arith in ap (Same i i) a

-- ---- the call

module _ (s ta t tb : List ℕ) (n : ℕ) (a : SomeFinished s ta n) (m : ℕ) (b : SomeFinished t tb m) where
  -- with both trees
  both : done (same_records s (tree_records a.0) t (tree_records b.0)) ≡ compare_call s ta t tb
  unfolding compare_call
  both =
      answers b.1 (λ u. done (same_records s (tree_records a.0) t (tree_records u)))
      ∙ answers a.1 (λ v. then (read_finished t tb) λ u. done (same_records s (tree_records v) t (tree_records u)))

  pub counts_differ : (n ≡ m → ⊥) → done false ≡ compare_call s ta t tb
  counts_differ h = ap done (differ (tree_records a.0) (tree_records b.0) (λ e. h (a.1.count ∙ e ∙ sym b.1.count))) ∙ both
    where
      no : (c : Bool) → c && false ≡ false
      no true = refl
      no false = refl

      differ : (rs qs : List Record) → (length rs ≡ length qs → ⊥) → false ≡ same_records s rs t qs
      differ [] [] h = absurd (h refl)
      differ [] (q ∷ qs) h = refl
      differ (r ∷ rs) [] h = refl
      differ (r ∷ rs) (q ∷ qs) h = sym (rw (sym (differ rs qs (λ e. h (ap suc e)))) (no (same_record s r t q)))

  pub ranges_say : n ≡ m → done (SameTo s ta t tb n 0) ≡ compare_call s ta t tb
  ranges_say h = ap done (ap₂ (λ (p q : List Record). same_records s p t q) (records_all ta n ∙ a.1.records) (records_all tb n ∙ ap (records_of tb 0) h ∙ b.1.records)) ∙ both
