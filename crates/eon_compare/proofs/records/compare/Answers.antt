use Rattle.std.proofs.Common.{rules, ap, ◌∙◌, ne_eqb}
use Rattle.eon_spec.specs.Calls.{done}
use Rattle.eon_table.proofs.Finished.{finished_done}
use Rattle.eon_compare.proofs.Ranges.{counts_differ, ranges_say}
use Rattle.eon_compare.proofs.records.compare.Goals as goal

pub returns-then-n-m : goal.returns-then-n-m
returns-then-n-m c = search (rules, finished_done, ranges_say)

pub returns-else-n-m : goal.returns-else-n-m
returns-else-n-m c = ap done (ne_eqb _ _ c.if-n-m.false) ∙ counts_differ _ _ _ _ _ (finished_done _ _ _ c.in_ok-n.ensures) _ (finished_done _ _ _ c.in_ok-m.ensures) c.if-n-m.false
