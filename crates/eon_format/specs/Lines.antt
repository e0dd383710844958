-- Comments and gaps on lines, by the table's words.
use Rattle.std.specs.Prelude.{ℕ, zero, suc, ◌+◌, Bool, true, false, List, [], ◌++◌, eqb}
use Rattle.eon_spec.specs.Layout.{Settings, add_indent}
use Rattle.eon_spec.specs.RecordKind.{PREFIX_COMMENT}
use Rattle.eon_table.specs.Words.{word, text_at}

-- a line end before a later item with prefix comments
abbrev pub gap_at : Settings → List ℕ → Bool → ℕ → List ℕ
gap_at o tb true i = []
gap_at o tb false i = elim (eqb (word tb i 0) PREFIX_COMMENT) [ true ↦ o.newline | false ↦ [] ]

module _ (s tb : List ℕ) where
  -- the texts of k records from i on, each on an indented line
  unfoldable pub lines : Settings → ℕ → ℕ → ℕ → List ℕ
  lines o n i zero = []
  lines o n i (suc k) = add_indent o n ++ text_at s tb i ++ o.newline ++ lines o n (i + 1) k

  -- closing comments, after a line end if there are items
  unfoldable pub closing_lines : Settings → ℕ → Bool → ℕ → ℕ → List ℕ
  closing_lines o n empty i zero = []
  closing_lines o n true i (suc k) = lines o n i (suc k)
  closing_lines o n false i (suc k) = o.newline ++ lines o n i (suc k)
