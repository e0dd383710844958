use Rattle.std.proofs.Common.{ap, arith}
use Rattle.eon_parse.specs.declared.walk.Walk.{Walk}
use Rattle.eon_parse.proofs.Steps.{kind_yes, kind_no, settle_plain, comma_ready, comma_spot, settle_comma}
use Rattle.eon_parse.proofs.comments.settle.Goals as goal

pub returns-then-not-next_is-clause-walk : goal.returns-then-not-next_is-clause-walk
returns-then-not-next_is-clause-walk c =
    let w = c.args.v.walk in
    settle_plain _ _ _ _ c.requires (kind_no _ w.cursor w.count c.requires 9 _ c.next_is.ensures c.if-not-next_is.true) _ c.tail.ensures.walk

pub suffix_end-requires : goal.suffix_end-requires
suffix_end-requires c =
    let w = c.args.v.walk in
    comma_ready _ c.args.old.now _ c.args.v.from c.requires (kind_yes _ w.cursor w.count c.requires 9 _ c.next_is.ensures c.if-not-next_is.false) _ c.skip-d.ensures

pub tail-requires-2-clause-order : goal.tail-requires-2-clause-order
tail-requires-2-clause-order c =
    let w = c.args.v.walk in
    let l = comma_spot _ c.args.old.now _ c.args.v.from c.requires (kind_yes _ w.cursor w.count c.requires 9 _ c.next_is.ensures c.if-not-next_is.false) _ c.skip-d.ensures _ c.suffix_end.ensures in
    omega (arith, l.order, ap (λ (x : Walk). x.cursor.start) c.at-walk.ensures, ap (λ (x : Walk). x.cursor.end) c.at-walk.ensures)

pub tail-requires-2-clause-short : goal.tail-requires-2-clause-short
tail-requires-2-clause-short c =
    let w = c.args.v.walk in
    let l = comma_spot _ c.args.old.now _ c.args.v.from c.requires (kind_yes _ w.cursor w.count c.requires 9 _ c.next_is.ensures c.if-not-next_is.false) _ c.skip-d.ensures _ c.suffix_end.ensures in
    omega (arith, l.within, c.requires.short, ap (λ (x : Walk). x.cursor.end) c.at-walk.ensures)

pub returns-clause-walk : goal.returns-clause-walk
returns-clause-walk c =
    let w = c.args.v.walk in
    settle_comma _ _ _ _ c.requires (kind_yes _ w.cursor w.count c.requires 9 _ c.next_is.ensures c.if-not-next_is.false) _ c.skip-d.ensures _ c.suffix_end.ensures _ c.at-walk.ensures _ c.tail-2.ensures.walk
