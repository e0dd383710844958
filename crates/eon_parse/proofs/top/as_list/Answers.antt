use Rattle.std.proofs.Common.{◌≡◌, Err, refl, ◌∙◌, rules}
use Rattle.eon_spec.specs.declared.record_kind.RecordKind.TheVariants as kind
use Rattle.eon_parse.specs.Walk.{one, below}
use Rattle.eon_parse.specs.Answer.{place}
use Rattle.eon_parse.proofs.Left.{list_reach, below_far}
use Rattle.eon_parse.proofs.Tops.{within_ready, top_no, top_count, top_yes}
use Rattle.eon_parse.proofs.top.as_list.Goals as goal

pub returns-in_err-x-clause-walk : goal.returns-in_err-x-clause-walk
returns-in_err-x-clause-walk c =
    let e : c.from_residual.result ≡ Err c.in_err-x.field-0.0 = search rules in
    e ∙ (top_no _ _ c.args.out.now _ c.requires _ _ c.within.ensures _ c.list.ensures.walk 4 _ c.in_err-x.was c.list.new.out).walk

pub returns-in_err-x-clause-stored : goal.returns-in_err-x-clause-stored
returns-in_err-x-clause-stored c =
    (top_no _ _ _ _ c.requires _ _ c.within.ensures _ c.list.ensures.walk 4 _ c.in_err-x.was c.list.new.out).stored

pub spanning-row-requires-clause-count : goal.spanning-row-requires-clause-count
spanning-row-requires-clause-count c = let s = c.args.text.now in
    top_count _ _ _ _ c.requires _ _ c.within.ensures _ c.list.ensures.walk _ c.in_ok-x.was _ c.list.ensures.stored (list_reach _ _ (below_far 128 _) (place c.within.result) (within_ready _ c.args.old.now c.args.out.now _ c.requires (one s (below 128 s)) _ c.within.ensures).bound)

pub returns-clause-walk : goal.returns-clause-walk
returns-clause-walk c =
    (top_yes _ _ _ _ c.requires _ _ c.within.ensures _ c.list.ensures.walk _ c.in_ok-x.was _ c.list.ensures.stored kind.List refl _ _ _ c.spanning-row.ensures c.put.ensures.walk c.put.ensures.stored).walk

pub returns-clause-stored : goal.returns-clause-stored
returns-clause-stored c =
    (top_yes _ _ _ _ c.requires _ _ c.within.ensures _ c.list.ensures.walk _ c.in_ok-x.was _ c.list.ensures.stored kind.List refl _ _ _ c.spanning-row.ensures c.put.ensures.walk c.put.ensures.stored).stored
