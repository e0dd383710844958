-- The keys read so far are stored, and the list's keys are these and those of the items left.
use Rattle.std.proofs.Common.{◌≡◌, List, length, ◌-◌, ◌≤◌}
use Rattle.eon_spec.specs.Tree.{Slice, TokenTrees, list_of}
use Rattle.eon_spec.specs.Lookup.{keys_of}
use Rattle.eon_table.specs.TreeAt.{ValueAt}
use Rattle.eon_lookup.specs.Keys.{whole}
use Rattle.eon_lookup.proofs.Forms.{Listed}
use Rattle.eon_lookup.proofs.paths.read_path.Given as goal

abbrev pub invariant-loop-list : goal.invariant-loop-list
invariant-loop-list l = (l.path.len ≤ 8)
    × (length l.path.places ≡ 8)
    × ((vs : TokenTrees) (cl : List Slice) → ValueAt l.list.text.now l.list.table.now l.i (list_of vs cl) → Listed keys_of l.list.text.now l.list.table.now l.end vs cl l.j (whole l.list.text.now l.path))

abbrev pub decreases-loop-list : goal.decreases-loop-list
decreases-loop-list l = l.end - l.j
