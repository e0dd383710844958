use Rattle.eon_parse.proofs.Tops.{map_yes, map_no}
use Rattle.eon_parse.proofs.top.whole.Goals as goal

pub returns-in-Ok-clause-answer : goal.returns-in-Ok-clause-answer
returns-in-Ok-clause-answer c =
    (map_yes _ _ _ _ c.requires _ c.as_map.ensures.walk _ c.as_map.ensures.stored _ c.in-Ok.is _ c.ended.ensures).answer

pub returns-in-Ok-clause-held : goal.returns-in-Ok-clause-held
returns-in-Ok-clause-held c =
    (map_yes _ _ _ _ c.requires _ c.as_map.ensures.walk _ c.as_map.ensures.stored _ c.in-Ok.is _ c.ended.ensures).held

pub returns-in-Err-clause-answer : goal.returns-in-Err-clause-answer
returns-in-Err-clause-answer c =
    (map_no _ _ _ _ c.requires _ c.as_map.ensures.walk _ c.in-Err.is _ c.listed.ensures.answer _ _ c.listed.ensures.held c.as_map.auto.out).answer

pub returns-in-Err-clause-held : goal.returns-in-Err-clause-held
returns-in-Err-clause-held c =
    (map_no _ _ _ _ c.requires _ c.as_map.ensures.walk _ c.in-Err.is _ c.listed.ensures.answer _ _ c.listed.ensures.held c.as_map.auto.out).held
