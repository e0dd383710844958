use Rattle.std.proofs.Common.{◌≡◌, Err, sym, ◌∙◌, rules}
use Rattle.eon_parse.proofs.Steps.{close_no, close_stored_no, close_ok, close_stored, opens_behind}
use Rattle.eon_parse.proofs.readers.close.Goals as goal

pub returns-in_err-x-clause-walk : goal.returns-in_err-x-clause-walk
returns-in_err-x-clause-walk c = let a = c.args in
    let e : c.from_residual.result ≡ Err c.in_err-x.field-0.0 = search rules in
    e ∙ close_no _ _ a.out.now _ _ _ _ (sym (c.in_err-x.was) ∙ c.must.ensures)

pub returns-in_err-x-clause-stored : goal.returns-in_err-x-clause-stored
returns-in_err-x-clause-stored c = let a = c.args in
    close_stored_no _ a.old.now _ _ _ _ _ (sym (c.in_err-x.was) ∙ c.must.ensures) _

pub end-requires : goal.end-requires
end-requires c = opens_behind _ _ _ c.requires.ready c.requires.begun _ _ (sym (c.in_ok-x.was) ∙ c.must.ensures)

pub returns-clause-walk : goal.returns-clause-walk
returns-clause-walk c = let a = c.args in
    close_ok _ _ a.out.now _ _ _ _ (sym (c.in_ok-x.was) ∙ c.must.ensures) _ c.end.ensures.walk

pub returns-clause-stored : goal.returns-clause-stored
returns-clause-stored c = let a = c.args in
    close_stored _ a.old.now _ _ _ _ _ (sym (c.in_ok-x.was) ∙ c.must.ensures) _ c.end.ensures.stored
