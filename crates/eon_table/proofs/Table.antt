-- The records of a table in their order.
use Rattle.std.proofs.Common.{⊎_elim, ◌≡◌, ℕ, zero, suc, ◌+◌, ◌-◌, ◌*◌, ◌≤◌, ◌<◌, List, [], ◌∷◌, ◌++◌, length, get_or, take, drop, sym, refl, ap, ◌∙◌, add-zero, add-suc, suc-add, zero-add, add-one, arith, take-append-drop, get_or-drop, drop-drop}
use Rattle.std.proofs.lemmas.List.{get_or_past}
use Rattle.std.proofs.lemmas.Bool.{cases_lt}
use Rattle.eon_spec.specs.Records.{Record, words}
use Rattle.eon_table.specs.Words.{word, record_of, records_of}

-- a word that is not 0 stands in the table
pub word_in : (tb : List ℕ) (i k : ℕ) → 0 < word tb i k → i < length tb
word_in tb i k h = ⊎_elim (λ l. l) (λ l. let z : word tb i k ≡ 0 = get_or_past tb _ 0 (omega arith) in absurd (omega arith)) (cases_lt i (length tb))

module _ (tb : List ℕ) where
  pub records_length : (i n : ℕ) → length (records_of tb i n) ≡ n
  unfolding records_of
  records_length i zero = refl
  records_length i (suc n) = ap suc (records_length (suc i) n)

  -- ranges are joined
  pub records_split : (i k m : ℕ) → records_of tb i (k + m) ≡ records_of tb i k ++ records_of tb (i + k) m
  unfolding records_of
  records_split i zero m = ap (λ (n : ℕ). records_of tb i n) (zero-add m) ∙ ap (λ (n : ℕ). records_of tb n m) (sym (add-zero i))
  records_split i (suc k) m =
      ap (λ (n : ℕ). records_of tb i n) (suc-add k m)
      ∙ ap (λ (l : List Record). record_of tb i ∷ l) (records_split (suc i) k m)
      ∙ ap (λ (n : ℕ). record_of tb i ∷ (records_of tb (suc i) k ++ records_of tb n m)) (suc-add i k ∙ sym (add-suc i k))

  -- a walk from the first record on: one more at the end of what was seen
  pub records_more : (i k : ℕ) → records_of tb i (k + 1) ≡ records_of tb i k ++ (record_of tb (i + k) ∷ [])
  unfolding records_of
  records_more i k = records_split i k 1

  -- or one less at the front of what is left
  pub records_first : (i n : ℕ) → i < n → records_of tb i (n - i) ≡ record_of tb i ∷ records_of tb (i + 1) (n - (i + 1))
  unfolding records_of
  records_first i n h =
      let e : n - i ≡ suc (n - (i + 1)) = omega arith in
      ap (λ (m : ℕ). records_of tb i m) e ∙ ap (λ (m : ℕ). record_of tb i ∷ records_of tb m (n - (i + 1))) (sym (add-one i))

  -- none are left
  pub records_none : (i n : ℕ) → n ≤ i → records_of tb i (n - i) ≡ []
  unfolding records_of
  records_none i n h = let e : n - i ≡ 0 = omega arith in ap (λ (m : ℕ). records_of tb i m) e

  pub records_all : (n : ℕ) → records_of tb 0 (n - 0) ≡ records_of tb 0 n
  records_all n = let e : n - 0 ≡ n = omega arith in ap (λ (m : ℕ). records_of tb 0 m) e

  -- the table's words are those of records
  pub records_are : (rs : List Record) (i : ℕ) (rest : List ℕ) → drop (5 * i) tb ≡ words rs ++ rest → records_of tb i (length rs) ≡ rs
  unfolding records_of
  records_are [] i rest e = refl
  records_are (r ∷ rs) i rest e = λ j. head j ∷ records_are rs (suc i) rest tail j
    where
      at : (k : ℕ) → word tb i k ≡ get_or (words (r ∷ rs) ++ rest) k 0
      at k = sym (get_or-drop (5 * i) tb k 0) ∙ ap (λ (l : List ℕ). get_or l k 0) e

      head : record_of tb i ≡ r
      head = λ j. record { kind = at 0 j; start = at 1 j; text_end = at 2 j; end = at 3 j; size = at 4 j }

      tail : drop (5 * suc i) tb ≡ words rs ++ rest
      tail = ap (λ (n : ℕ). drop n tb) five ∙ sym (drop-drop 5 (5 * i) tb) ∙ ap (drop 5) e
        where
          five : 5 * suc i ≡ 5 * i + 5
          five = omega arith

  pub records_front : (rs : List Record) → take (length (words rs)) tb ≡ words rs → records_of tb 0 (length rs) ≡ rs
  records_front rs e =
      records_are rs 0 (drop (length (words rs)) tb)
      (sym (take-append-drop (length (words rs)) tb) ∙ ap (λ (l : List ℕ). l ++ drop (length (words rs)) tb) e)
