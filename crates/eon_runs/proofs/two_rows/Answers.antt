use Rattle.eon_round_trip.proofs.Runs.{share_text}
use Rattle.eon_runs.proofs.two_rows.Goals as goal

pub returns-clause-shared : goal.returns-clause-shared
returns-clause-shared c t u p m q n =
    share_text _ t p _ _ m _ u q _ _ n _ _ _ _ _ _ c.two_runs-first.ensures.afternoon c.two_runs-second.ensures.afternoon
