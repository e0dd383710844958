-- What is left decides.
use Rattle.std.proofs.Common.{◌≡◌, ◌-◌, ◌≤◌}
use Rattle.eon_compare.proofs.Ranges.{SameTo}
use Rattle.eon_compare.proofs.records.+same_range.Given as goal

abbrev pub decreases-same_range : goal.decreases-same_range
decreases-same_range l = l.end - l.from

abbrev pub invariant-loop-i : goal.invariant-loop-i
invariant-loop-i l = (l.from ≤ l.i) × (SameTo l.a.text.now l.a.table.now l.b.text.now l.b.table.now l.end l.i ≡ SameTo l.a.text.now l.a.table.now l.b.text.now l.b.table.now l.end l.from)

abbrev pub decreases-loop-i : goal.decreases-loop-i
decreases-loop-i l = l.end - l.i
