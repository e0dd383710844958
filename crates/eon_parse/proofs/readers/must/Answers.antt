use Rattle.std.proofs.Common.{◌≡◌, Some, rules}
use Rattle.eon_spec.specs.Token.{kind_number}
use Rattle.eon_spec.specs.declared.token_kind.TokenKind.TheVariants.{Invalid}
use Rattle.eon_parse.proofs.Steps.{must_end, must_stray, must_done, must_other, kind_yes, kind_no}
use Rattle.eon_parse.proofs.readers.must.Goals as goal

pub returns-in-None : goal.returns-in-None
returns-in-None c = must_end _ _ c.requires _ _ c.peek-t.ensures c.in-None.is _ c.behind.ensures

pub returns-in-Some-Invalid : goal.returns-in-Some-Invalid
returns-in-Some-Invalid c = let e : c.peek-t.result.kind ≡ Some Invalid = search rules in
    must_stray _ _ c.requires _ _ c.peek-t.ensures e _ c.at.ensures

pub returns-then-next_is : goal.returns-then-next_is
returns-then-next_is c =
    must_done _ _ c.requires _ _ c.peek-t.ensures c.in-Some.found c.in-Some.is (search rules)
    (kind_yes _ _ _ c.requires (kind_number c.args.k) _ c.next_is.ensures c.if-next_is.true) _ c.skip.ensures

pub returns-else-next_is : goal.returns-else-next_is
returns-else-next_is c =
    must_other _ _ c.requires _ _ c.peek-t.ensures c.in-Some.found c.in-Some.is (search rules)
    (kind_no _ _ _ c.requires (kind_number c.args.k) _ c.next_is.ensures c.if-next_is.false) _ c.at-in-Some.ensures
