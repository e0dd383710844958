use Rattle.std.proofs.Common.{ap}
use Rattle.eon_parse.proofs.Steps.{opens, leaf_put}
use Rattle.eon_parse.proofs.Page.{Page}
use Rattle.eon_parse.proofs.comments.leaf.Goals as goal

pub end-requires : goal.end-requires
end-requires c = opens _ _ c.requires.ready c.requires.token _ _ c.enter.ensures _ c.begin.ensures

pub returns-clause-walk : goal.returns-clause-walk
returns-clause-walk c = ap (λ (σ : Page). σ.cur) (leaf_put _ _ _ _ c.requires.ready _ c.requires.nameless _ c.enter.ensures _ c.begin.ensures _ c.end.ensures.walk _ c.end.ensures.stored)
