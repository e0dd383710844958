use Rattle.std.proofs.Common.{◌≡◌}
use Rattle.eon_spec.specs.Calls.{outcome_of}
use Rattle.eonfmt.specs.Said.{said, formatted}
use Rattle.eonfmt.proofs.Said.{said_by_run}
use Rattle.eonfmt.proofs.lay_out.Goals as goal

pub returns : goal.returns
returns g c =
    let run = c.run-run in
    let told : said (outcome_of c.and-answer.result) run.new.out ≡ formatted c.args.text.now =
    rw c.and-answer.ensures (said_by_run c.args.text.now run.result run.new.table run.new.out run.ensures) in
    rw told at c.write_answer.ensures
