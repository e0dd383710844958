use Rattle.std.proofs.Common.{◌+◌, ◌-◌, ◌*◌, length}
use Rattle.eon_parse.specs.Walk.{stops, one, two, below}
use Rattle.eon_parse.proofs.Page.{page}
use Rattle.eon_parse.proofs.Pass.{Inv}
use Rattle.eon_parse.proofs.readers.+reading.Given as goal

abbrev pub decreases-core : goal.decreases-core
decreases-core l = 7 * l.depth + 6

abbrev pub decreases-nested : goal.decreases-nested
decreases-nested l = 7 * l.depth + 5

abbrev pub decreases-string : goal.decreases-string
decreases-string l = 7 * l.depth + 4

abbrev pub decreases-list : goal.decreases-list
decreases-list l = 7 * l.depth + 3

abbrev pub decreases-map : goal.decreases-map
decreases-map l = 7 * l.depth + 3

abbrev pub decreases-one : goal.decreases-one
decreases-one l = 7 * l.depth + 2

abbrev pub decreases-two : goal.decreases-two
decreases-two l = 7 * l.depth + 2

abbrev pub decreases-value : goal.decreases-value
decreases-value l = 7 * l.depth

abbrev pub invariant-list-loop-out : goal.invariant-list-loop-out
invariant-list-loop-out l = Inv l.text l.old (stops l.text) (one l.text (below l.depth l.text)) (page l.initial.d l.initial.out) (page l.d l.out)

abbrev pub decreases-list-loop-out : goal.decreases-list-loop-out
decreases-list-loop-out l = length l.text - l.d.cursor.end

abbrev pub invariant-map-loop-out : goal.invariant-map-loop-out
invariant-map-loop-out l = Inv l.text l.old (stops l.text) (two l.text (below l.depth l.text)) (page l.initial.d l.initial.out) (page l.d l.out)

abbrev pub decreases-map-loop-out : goal.decreases-map-loop-out
decreases-map-loop-out l = length l.text - l.d.cursor.end
