use Rattle.std.proofs.Common.{◌∙◌, arith}
use Rattle.std.proofs.lemmas.Grind.{common_steps}
use Rattle.eon_strings.proofs.Bytes.{any_elem, feed_byte}
use Rattle.eon_strings.proofs.marks.one_line.Goals as goal

pub returns-then-contains-clause-given : goal.returns-then-contains-clause-given
returns-then-contains-clause-given c = let s = c.args.text.now in let e = c.contains.ensures.value ∙ any_elem 10 s ∙ feed_byte s c.requires in grind (arith, common_steps)

pub returns-clause-given : goal.returns-clause-given
returns-clause-given c = let s = c.args.text.now in let e = c.contains.ensures.value ∙ any_elem 10 s ∙ feed_byte s c.requires in grind (arith, common_steps)
