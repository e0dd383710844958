use Rattle.std.proofs.Common.{length, sym, ap, ◌∙◌}
use Rattle.eon_laws.proofs.Str.{str_length, valid_len}
use Rattle.eon_utf8.proofs.well_formed_len.Goals as goal

pub returns-in-Ok : goal.returns-in-Ok
returns-in-Ok c = let e = c.in-Ok.ensures.cases in ap length e.0 ∙ sym (str_length c.args.text.now e.1)

pub returns-in-Err : goal.returns-in-Err
returns-in-Err c = c.valid_up_to.ensures ∙ valid_len c.args.text.now _ c.in-Err.ensures.cases.1
