use Rattle.std.proofs.Common.{arith, sym, ap, ◌∙◌}
use Rattle.eon_compare.proofs.Ranges.{SameTo, range_none, one_fails, one_goes, part_fails, part_goes}
use Rattle.eon_compare.proofs.records.+same_range.Goals as goal
use Rattle.eon_compare.proofs.records.+same_range.Goals.{else-i-behind-via-then-i-behind+else-not-same_range, else-i-behind-via-else-i-behind}

pub returns-then-not-same_record : goal.returns-then-not-same_record
returns-then-not-same_record t c = one_fails _ _ _ _ _ _ _ c.loop-i.invariant.1 c.loop-i-test.true (sym c.if-not-same_record.ensures)

pub returns-then-not-same_range : goal.returns-then-not-same_range
returns-then-not-same_range t c =
    let h = one_goes _ _ _ _ _ _ _ c.loop-i.invariant.1 c.loop-i-test.true (sym c.if-not-same_record.ensures) in
    part_fails _ _ _ _ _ _ _ _ h (omega arith) (omega (arith, c.min.ensures, c.loop-i-test.true)) (sym c.if-not-same_range.ensures)

pub loop-i-preserved : goal.loop-i-preserved
loop-i-preserved t c =
    let h = one_goes _ _ _ _ _ _ _ c.loop-i.invariant.1 c.loop-i-test.true (sym c.if-not-same_record.ensures) in (
      omega (arith, c.loop-i.invariant.0),
      elim c.else-i-behind.branch [
        | else-i-behind-via-then-i-behind+else-not-same_range w ↦ part_goes _ _ _ _ _ _ _ _ h (omega arith) (omega (arith, c.min.ensures, c.loop-i-test.true)) (sym w.if-not-same_range.ensures)
        | else-i-behind-via-else-i-behind w ↦ ap (SameTo _ _ _ _ _) (omega (arith, w.if-i-behind.false)) ∙ h
      ],
    )

pub returns : goal.returns
returns t c = sym (range_none _ _ _ _ _ _ c.loop-i-test.false) ∙ c.loop-i.invariant.1
