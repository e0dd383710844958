use Rattle.eon_parse.proofs.Tops.{several_no, several_yes}
use Rattle.eon_parse.proofs.top.several.Goals as goal

pub returns-in-Err-clause-answer : goal.returns-in-Err-clause-answer
returns-in-Err-clause-answer c =
    (several_no _ _ c.args.out.now _ c.requires _ c.as_list.new.out _ _ c.as_list.ensures.walk _ c.in-Err.is _ c.or_further.ensures).answer

pub returns-in-Err-clause-held : goal.returns-in-Err-clause-held
returns-in-Err-clause-held c = (several_no _ _ _ _ c.requires _ _ _ _ c.as_list.ensures.walk _ c.in-Err.is _ c.or_further.ensures).held

pub returns-in-Ok-clause-answer : goal.returns-in-Ok-clause-answer
returns-in-Ok-clause-answer c =
    (several_yes _ _ _ _ c.requires _ _ _ _ c.as_list.ensures.walk c.as_list.ensures.stored _ c.in-Ok.is _ c.ended.ensures).answer

pub returns-in-Ok-clause-held : goal.returns-in-Ok-clause-held
returns-in-Ok-clause-held c =
    (several_yes _ _ _ _ c.requires _ _ _ _ c.as_list.ensures.walk c.as_list.ensures.stored _ c.in-Ok.is _ c.ended.ensures).held
