use Rattle.std.proofs.Common.{sym, ◌∙◌, rules, tests}
use Rattle.std.proofs.lemmas.Iterator.Adapters.{option_map_id}
use Rattle.std.proofs.lemmas.Iterator.Search.{find_from_yields_List}
use Rattle.eon_spec.specs.Pick.{holds_byte}
use Rattle.eon_table.specs.Words.{record_of}
use Rattle.eon_pick.proofs.Downward.{yields_falling, find_highest}
use Rattle.eon_pick.proofs.offset.Records.last_holding.Goals as goal

pub returns : goal.returns
returns c =
    let a = c.args in
    sym (option_map_id c.find.result) ∙ find_from_yields_List (λ i. holds_byte a.b (record_of a.self.sheet.table.now i)) _ _ c.find.result c.find.ensures.ran (yields_falling a.self.count c.rev.ensures.source) (λ x b q k. search (rules, tests))
    ∙ find_highest a.b a.self.sheet.table.now a.self.count
