-- The evening run is made on the text that the afternoon run wrote.
use Rattle.std.proofs.Common.{ap, ◌∙◌}
use Rattle.eon_spec.specs.Runs.{wrote}
use Rattle.eon_round_trip.proofs.Runs as round
use Rattle.eon_runs.proofs.two_runs.Goals as goal

pub returns : goal.returns
returns c =
    let i = c.run-afternoon.ensures in
    let j = rw (c.written_part.ensures ∙ ap wrote i.writes) at c.run-evening.ensures in
    record { afternoon = i; evening = j; under_the_premises = λ u p m n. round.two_runs _ u _ _ _ _ _ _ _ _ _ _ p m n i j }
