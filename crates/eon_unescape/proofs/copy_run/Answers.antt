use Rattle.eon_unescape.proofs.Runs.{bare_run}
use Rattle.eon_unescape.proofs.copy_run.Goals as goal

pub returns-in-Literal-clause-run : goal.returns-in-Literal-clause-run
returns-in-Literal-clause-run c = bare_run c.args.text.now c.bare_len-run.result c.args.mode c.bare_len-run.ensures c.requires.formed c.in-Literal.is
