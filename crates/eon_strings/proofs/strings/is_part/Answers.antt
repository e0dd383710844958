use Rattle.std.proofs.Common.{◌∙◌, arith}
use Rattle.std.proofs.lemmas.Grind.{common_steps}
use Rattle.eon_strings.proofs.Bytes.{any_elem}
use Rattle.eon_strings.proofs.strings.is_part.Goals as goal

pub returns-then-starts_with : goal.returns-then-starts_with
returns-then-starts_with c = let s = c.args.text.now in let e = c.contains.ensures.value ∙ any_elem 13 s in grind (arith, common_steps)

pub returns-else-starts_with : goal.returns-else-starts_with
returns-else-starts_with c =
    let s = c.args.text.now in let e = c.contains.ensures.value ∙ any_elem 13 s in
    let d = c.contains-else-starts_with.ensures.value ∙ any_elem 92 s in
    grind (arith, common_steps)

pub returns-else-not-contains : goal.returns-else-not-contains
returns-else-not-contains c = let s = c.args.text.now in let e = c.contains.ensures.value ∙ any_elem 13 s in grind (arith, common_steps)
