use Rattle.std.proofs.Common.{◌≡◌, List, length, ◌+◌, ◌-◌}
use Rattle.eon_spec.specs.Tree.{Slice, KeyValues, map_of}
use Rattle.eon_table.specs.TreeAt.{ValueAt}
use Rattle.eon_lookup.proofs.Through.{Through}
use Rattle.eon_lookup.proofs.walks.Live.+inside_map.Given as goal

abbrev pub decreases-inside_map : goal.decreases-inside_map
decreases-inside_map l = 8 - l.self.matched

abbrev pub invariant-loop-next : goal.invariant-loop-next
invariant-loop-next l = (length l.answers ≡ 128)
    × ((kvs : KeyValues) (cl : List Slice) → ValueAt l.event.text.now l.event.table.now l.i (map_of kvs cl) → Through l.event.text.now l.event.table.now l.end l.self.text.now l.self.paths.now l.self.matched l.self.numbers.now kvs cl (l.i + 1) l.initial.answers l.answers l.j l.steps)

abbrev pub decreases-loop-next : goal.decreases-loop-next
decreases-loop-next l = l.end - l.j
