-- The test for one line, and what is written there, by the table's words.
use Rattle.std.specs.Prelude.{ℕ, zero, suc, ◌+◌, ◌-◌, ◌≡◌, Bool, true, false, not, cond, List, [], ◌++◌, ltb, eqb}
use Rattle.eon_spec.specs.Base.{elem, codes}
use Rattle.eon_spec.specs.RecordKind.{NUMBER, STRING, LIST, MAP, PREFIX_COMMENT, CLOSING_COMMENT}
use Rattle.eon_table.specs.Words.{word, has_suffix, text_at, Within}

-- a comma and a blank, if record j is before `end`
abbrev pub comma_at : ℕ → ℕ → List ℕ
comma_at j end = cond (ltb j end) (codes ", ") []

module _ (s tb : List ℕ) where
  -- is_simple, of a tree that starts at record i
  unfoldable pub simple_at : ℕ → ℕ → Bool
  simple_at end i =
      cond (eqb (word tb i 0) PREFIX_COMMENT) false
      (cond (eqb (word tb i 4) 1)
      (cond (has_suffix tb end (i + 1)) false (cond (eqb (word tb i 0) STRING) (not (elem 10 (text_at s tb i))) true)) false)

  abbrev pub width_at : ℕ → ℕ
  width_at i = cond (eqb (word tb i 0) STRING) (word tb i 2 - word tb i 1 + 2) 7

  -- k further records on one line, after those with this width, which were all numbers or not
  unfoldable pub line_at : ℕ → Bool → ℕ → ℕ → ℕ → Bool
  line_at end numbers width i zero = cond numbers true (ltb width 60)
  line_at end numbers width i (suc k) =
      cond (eqb (word tb i 0) CLOSING_COMMENT) false
      (cond (simple_at end i) (line_at end (cond (eqb (word tb i 0) NUMBER) numbers false) (width + width_at i) (i + 1) k) false)

  -- should_format_list_on_one_line, of the records from i up to `end`
  unfoldable pub one_line_at : ℕ → ℕ → Bool
  one_line_at end i = cond (ltb 4 (end - i)) false (line_at end true 0 i (end - i))

  -- the value at record i needs no lines
  unfoldable pub flat_at : ℕ → Bool
  flat_at i =
      cond (eqb (word tb i 4) 1) true
      (cond (eqb (word tb i 0) MAP) false (one_line_at (i + word tb i 4) (i + 1)))

  -- a simple value
  unfoldable pub plain_at : ℕ → List ℕ
  plain_at i = cond (eqb (word tb i 0) LIST) (codes "[]") (cond (eqb (word tb i 0) MAP) (codes "{}") (text_at s tb i))

  -- k simple values from record i on, parted by `, `
  unfoldable pub plain_line : ℕ → ℕ → List ℕ
  plain_line i zero = []
  plain_line i (suc k) = plain_at i ++ comma_at 0 k ++ plain_line (i + 1) k

  -- record i has its text, if it is no list or map
  abbrev pub Plain : ℕ → Type 0
  Plain i = (word tb i 0 ≡ LIST → ⊥) → (word tb i 0 ≡ MAP → ⊥) → Within s tb i
