use Rattle.std.proofs.Common.{◌∙◌, rules, tests, arith}
use Rattle.std.proofs.lemmas.Iterator.{YieldsList-from_range}
use Rattle.std.proofs.lemmas.Iterator.Consumers.{YieldsList-from_filter, count_from_yields_List}
use Rattle.eon_spec.specs.Pick.{shares_byte}
use Rattle.eon_table.specs.Words.{record_of}
use Rattle.eon_pick.proofs.Listing.{counted}
use Rattle.eon_pick.proofs.range.Query.count.Goals as goal

pub returns : goal.returns
returns c =
    let q = c.args.self in
    count_from_yields_List c.filter.result c.count.result c.count.ensures.ran
    (YieldsList-from_filter _ (λ i. shares_byte q.from q.to (record_of q.sheet.table.now i)) (YieldsList-from_range 0 q.records q.records c.filter.ensures.source (omega arith)) c.filter.ensures.closure (λ x b q k. search (rules, tests)))
    ∙ counted q.from q.to q.sheet.table.now q.records
