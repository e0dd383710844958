use Rattle.std.proofs.Common.{ap, ap₂, ◌∙◌, arith}
use Rattle.eon_spec.specs.Refused.{refusal_of}
use Rattle.eon_spec.specs.Calls.{after, done, refused_with}
use Rattle.eon_table.proofs.Finished.{finished_done}
use Rattle.eon_pick.proofs.Listing.{too_short, has_room}
use Rattle.eon_pick.proofs.range.records_in.Goals as goal

pub returns-then-hits-count : goal.returns-then-hits-count
returns-then-hits-count c =
    let a = c.args in
    ap (λ r. after (refused_with (refusal_of r)) a.hits.now) c.new.ensures
    ∙ too_short (finished_done _ _ _ c.in_ok-records.ensures) a.from a.to a.hits.now (omega (arith, c.if-hits-count.true, c.count-count.ensures))

pub returns : goal.returns
returns c =
    let a = c.args in
    ap₂ (λ n m. after (done n) m) c.count-count.ensures c.fill.ensures
    ∙ has_room (finished_done _ _ _ c.in_ok-records.ensures) a.from a.to a.hits.now (omega (arith, c.if-hits-count.false, c.count-count.ensures))
