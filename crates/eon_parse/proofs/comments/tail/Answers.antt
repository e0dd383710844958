use Rattle.std.proofs.Common.{◌∙◌}
use Rattle.eon_parse.proofs.Steps.{tail_none, tail_kept, tail_ended, tail_put}
use Rattle.eon_parse.proofs.comments.tail.Goals as goal

pub returns-then-w-v-clause-walk : goal.returns-then-w-v-clause-walk
returns-then-w-v-clause-walk c = tail_none _ c.args.out.now _ _ c.if-w-v.true

pub returns-then-w-v-clause-stored : goal.returns-then-w-v-clause-stored
returns-then-w-v-clause-stored c = tail_kept c.args.old.now _ c.args.v.walk _ c.if-w-v.true

pub returns-clause-walk : goal.returns-clause-walk
returns-clause-walk c = c.end.ensures.walk ∙ tail_ended _ c.args.out.now _ _ c.if-w-v.false

pub returns-clause-stored : goal.returns-clause-stored
returns-clause-stored c = c.end.ensures.stored ∙ tail_put c.args.old.now _ c.args.v.walk _ c.if-w-v.false
