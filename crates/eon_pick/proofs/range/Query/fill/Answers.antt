use Rattle.std.proofs.Common.{sym, rules, tests, ap, ap₂, ◌∙◌, ◌≡◌, ◌<◌, ◌++◌, [], ◌∷◌, length, map, set, arith, map-id}
use Rattle.std.proofs.lemmas.Iterator.{YieldsList-from_range}
use Rattle.std.proofs.lemmas.Iterator.Consumers.{YieldsList-at, YieldsList-from_filter, YieldsList-from_enumerate, YieldsList-turn, YieldsList-end}
use Rattle.eon_spec.specs.Calls.{written}
use Rattle.eon_spec.specs.Pick.{shares_byte}
use Rattle.eon_table.specs.Words.{record_of}
use Rattle.eon_pick.proofs.Listing.{placed, all_placed, one_more}
use Rattle.eon_pick.proofs.range.Query.fill.Goals as goal
use Rattle.eon_pick.proofs.range.Query.fill.Goals.{In-Some}

-- the place of a hit, and what a store there leaves
here : (x : In-Some) → (x.in-Some.count < length x.args.hits.now)
    × (set (written (map (placed x.args.self.from x.args.self.to x.args.self.sheet.table.now) x.loop-count.yielded) x.args.hits.now) x.in-Some.count (placed x.args.self.from x.args.self.to x.args.self.sheet.table.now (x.in-Some.count, x.in-Some.i)) ≡ written (map (placed x.args.self.from x.args.self.to x.args.self.sheet.table.now) (x.loop-count.yielded ++ ((x.in-Some.count, x.in-Some.i) ∷ []))) x.args.hits.now)
here x =
    let q = x.args.self in
    one_more q.from q.to q.sheet.table.now q.records x.args.hits.now x.loop-count.yielded (x.in-Some.count, x.in-Some.i) x.requires
    (YieldsList-turn
    (YieldsList-at x.into_iter-count-iterator.ensures.into_iter_gives (YieldsList-from_enumerate (YieldsList-at x.enumerate-count-items.ensures.source (YieldsList-from_filter _ (λ i. shares_byte q.from q.to (record_of q.sheet.table.now i)) (YieldsList-from_range 0 q.records q.records x.filter-found.ensures.source (omega arith)) x.filter-found.ensures.closure (λ x b q k. search (rules, tests)))) x.enumerate-count-items.ensures.count))
    x.loop-count.yielded _ x.loop-count.yielded_by _ _ (x.in-Some.count, x.in-Some.i) x.in-Some.is x.next.ensures.steps)

pub bounds-hits-count : goal.bounds-hits-count
bounds-hits-count c = omega (arith, (here (goal.at.bounds-hits-count c).In-Some).0, c.loop-count.auto.hits)

pub loop-count-preserved : goal.loop-count-preserved
loop-count-preserved c = ap₂ (λ hs h. set hs c.in-Some.count h) c.loop-count.invariant c.hit.ensures ∙ (here (goal.at.loop-count-preserved c).In-Some).1

pub returns : goal.returns
returns c =
    let q = c.args.self in
    let all =
    YieldsList-end
    (YieldsList-at c.into_iter-count-iterator.ensures.into_iter_gives (YieldsList-from_enumerate (YieldsList-at c.enumerate-count-items.ensures.source (YieldsList-from_filter _ (λ i. shares_byte q.from q.to (record_of q.sheet.table.now i)) (YieldsList-from_range 0 q.records q.records c.filter-found.ensures.source (omega arith)) c.filter-found.ensures.closure (λ x b q k. search (rules, tests)))) c.enumerate-count-items.ensures.count))
    c.loop-count.yielded _ c.loop-count.yielded_by _ _ c.in-None.is c.next.ensures.steps in
    c.loop-count.invariant ∙ ap (λ hs. written hs c.args.hits.now) (ap (map (placed q.from q.to q.sheet.table.now)) (sym (map-id c.loop-count.yielded) ∙ all.0) ∙ all_placed q.from q.to q.sheet.table.now q.records)
