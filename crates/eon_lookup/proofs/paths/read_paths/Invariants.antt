-- The paths read so far are stored, and the list's paths are these and those of the items left.
use Rattle.std.proofs.Common.{◌≡◌, List, length, take, ◌-◌, ◌≤◌}
use Rattle.eon_spec.specs.Tree.{Slice, TokenTrees, list_of}
use Rattle.eon_spec.specs.Lookup.{paths_of}
use Rattle.eon_table.specs.TreeAt.{ValueAt}
use Rattle.eon_lookup.specs.Keys.{below, wholes, Going}
use Rattle.eon_lookup.proofs.Forms.{Listed}
use Rattle.eon_lookup.proofs.paths.read_paths.Given as goal

abbrev pub invariant-loop-room : goal.invariant-loop-room
invariant-loop-room l = (l.n ≤ 128)
    × (length l.room ≡ 128)
    × Going (take l.n l.room) 0 (below l.n)
    × ((vs : TokenTrees) (cl : List Slice) → ValueAt l.list.text.now l.list.table.now l.i (list_of vs cl) → Listed paths_of l.list.text.now l.list.table.now l.end vs cl l.j (wholes l.list.text.now (take l.n l.room)))

abbrev pub decreases-loop-room : goal.decreases-loop-room
decreases-loop-room l = l.end - l.j
