use Rattle.std.proofs.Common.{ap, ◌∙◌}
use Rattle.eon_spec.specs.Refused.{refusal_of}
use Rattle.eon_spec.specs.Calls.{outcome_of, or_refused}
use Rattle.eon_table.proofs.Finished.{finished_done}
use Rattle.eon_pick.proofs.Chosen.{at_offset, or_27}
use Rattle.eon_pick.proofs.offset.record_at.Goals as goal

pub returns : goal.returns
returns c =
    ap outcome_of c.ok_or.ensures.value ∙ or_27 _ _ (ap refusal_of c.new.ensures) ∙ ap (or_refused 27) c.pick.ensures
    ∙ at_offset _ _ _ c.args.offset (finished_done _ _ _ c.in_ok-count.ensures)
