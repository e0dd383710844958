-- What it is that a table is a text's: its first n records are the tree's, and it holds the tree.
use Rattle.std.specs.Prelude.{ℕ, ◌*◌, ◌≤◌, ◌≡◌, true, List, length}
use Rattle.eon_spec.specs.Utf8.{is_utf8}
use Rattle.eon_spec.specs.Tree.{TokenTree}
use Rattle.eon_spec.specs.Parse.{parsed, parse}
use Rattle.eon_spec.specs.Records.{tree_records}
use Rattle.eon_spec.specs.Calls.{done, read_finished}
use Rattle.eon_table.specs.Words.{records_of}
use Rattle.eon_table.specs.TreeAt.{TreeAt}

-- a table that is a text's, with n records: its tree, which it holds from record 0 on
pub record Finished (s tb : List ℕ) (n : ℕ) (t : TokenTree) : Type 0 where
  pub read : read_finished s tb ≡ done t
  pub utf8 : is_utf8 s ≡ true
  pub parses : parse s ≡ parsed t
  pub count : n ≡ length (tree_records t)
  -- every word of a record below n stands in the table
  pub room : 5 * n ≤ length tb
  pub records : records_of tb 0 n ≡ tree_records t
  pub holds : TreeAt s tb n 0 t

abbrev pub SomeFinished : List ℕ → List ℕ → ℕ → Type 0
SomeFinished s tb n = (t : TokenTree) × Finished s tb n t
