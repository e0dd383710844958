-- The table holds the tree, so that the call lays it out.
use Rattle.std.proofs.Common.{◌≡◌, ℕ, List, length, sym, ◌∙◌, subst}
use Rattle.eon_spec.specs.Tree.{TokenTree}
use Rattle.eon_spec.specs.Records.{tree_records}
use Rattle.eon_spec.specs.Calls.{done, read_finished}
use Rattle.eon_table.specs.TreeAt.{TreeAt}
use Rattle.eon_table.proofs.Finished.{read_finished_lem}
use Rattle.eon_format.proofs.Answered.{formatted}
use Rattle.eon_format.proofs.format_finished.Goals as goal

-- the table holds the tree
holds : (s tb : List ℕ) (end : ℕ) (t : TokenTree) → read_finished s tb ≡ done t → end ≡ length (tree_records t) → TreeAt s tb end 0 t
holds s tb end t e l = subst (λ (n : ℕ). TreeAt s tb n 0 t) (sym l) (read_finished_lem s tb t e).holds

pub lay_out-requires : goal.lay_out-requires
lay_out-requires c = let q = c.requires.finished in
    (q.0, holds _ _ _ q.0 q.1 q.2)

pub returns : goal.returns
returns c = let q = c.requires.finished in
    c.lay_out.ensures q.0 (holds _ _ _ q.0 q.1 q.2) ∙ formatted _ _ _ _ q.0 c.requires.settings q.1
