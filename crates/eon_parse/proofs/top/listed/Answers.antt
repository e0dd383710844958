use Rattle.std.proofs.Common.{arith}
use Rattle.eon_parse.proofs.Tops.{list_no, first_ready, list_single, list_several}
use Rattle.eon_parse.proofs.top.listed.Goals as goal

pub ends-requires : goal.ends-requires
ends-requires c =
    first_ready _ _ _ _ c.requires c.args.a c.one.new.out _ c.one.ensures.walk c.in-Ok.y c.in-Ok.is _ c.one.ensures.stored c.in-Ok.y.count (omega arith)

pub ahead-requires : goal.ahead-requires
ahead-requires c =
    first_ready _ _ _ _ c.requires c.args.a c.one.new.out _ c.one.ensures.walk c.in-Ok.y c.in-Ok.is _ c.one.ensures.stored 0 (omega arith)

pub returns-then-ends-clause-answer : goal.returns-then-ends-clause-answer
returns-then-ends-clause-answer c =
    (list_single _ _ _ _ c.requires _ c.one.new.out _ c.one.ensures.walk c.in-Ok.y c.in-Ok.is _ c.one.ensures.stored _ c.ends.ensures c.if-ends.true _ c.ahead.ensures _ c.at.ensures _ c.ended.ensures).answer

pub returns-then-ends-clause-held : goal.returns-then-ends-clause-held
returns-then-ends-clause-held c =
    (list_single _ _ _ _ c.requires _ c.one.new.out _ c.one.ensures.walk c.in-Ok.y c.in-Ok.is _ c.one.ensures.stored _ c.ends.ensures c.if-ends.true _ c.ahead.ensures _ c.at.ensures _ c.ended.ensures).held

pub returns-in-Err-clause-answer : goal.returns-in-Err-clause-answer
returns-in-Err-clause-answer c =
    (list_no _ _ c.args.out.now _ c.requires _ c.one.new.out _ c.one.ensures.walk _ c.in-Err.is _ c.or_further.ensures).answer

pub returns-in-Err-clause-held : goal.returns-in-Err-clause-held
returns-in-Err-clause-held c = (list_no _ _ _ _ c.requires _ _ _ c.one.ensures.walk _ c.in-Err.is _ c.or_further.ensures).held

pub returns-else-ends-clause-answer : goal.returns-else-ends-clause-answer
returns-else-ends-clause-answer c =
    (list_several _ _ _ _ c.requires _ _ _ c.one.ensures.walk c.in-Ok.y c.in-Ok.is _ c.one.ensures.stored _ c.ends.ensures c.if-ends.false _ c.several.ensures.answer c.several.ensures.held c.one.auto.out).answer

pub returns-else-ends-clause-held : goal.returns-else-ends-clause-held
returns-else-ends-clause-held c =
    (list_several _ _ _ _ c.requires _ _ _ c.one.ensures.walk c.in-Ok.y c.in-Ok.is _ c.one.ensures.stored _ c.ends.ensures c.if-ends.false _ c.several.ensures.answer c.several.ensures.held c.one.auto.out).held
