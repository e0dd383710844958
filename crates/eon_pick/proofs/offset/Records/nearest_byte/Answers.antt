use Rattle.std.proofs.Common.{None, refl, rules, tests, ◌∙◌, arith}
use Rattle.std.proofs.lemmas.Iterator.{YieldsList-from_range}
use Rattle.std.proofs.lemmas.Iterator.Consumers.{fold_from_yields_List}
use Rattle.eon_pick.proofs.Chosen.{with, all_folded}
use Rattle.eon_pick.proofs.offset.Records.nearest_byte.Goals as goal

pub returns : goal.returns
returns c =
    let a = c.args in
    let n = a.self.count in
    fold_from_yields_List _ (with a.o a.self.sheet.table.now) None c.fold.result c.fold.ensures.ran (YieldsList-from_range 0 n n refl (omega arith)) (λ best i b q k. search (rules, tests)) ∙ all_folded a.o a.self.sheet.table.now n
