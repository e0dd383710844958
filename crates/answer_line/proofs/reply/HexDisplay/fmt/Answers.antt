use Rattle.std.proofs.Common.{refl, arith, rules}
use Rattle.std.proofs.Output.{has_written_append, has_written_of_eq}
use Rattle.std.proofs.lemmas.Grind.{common_steps}
use Rattle.answer_line.proofs.Printing.{encode_more, encode_nil}
use Rattle.answer_line.proofs.reply.HexDisplay.fmt.Goals as goal

pub loop-byte-init : goal.loop-byte-init
loop-byte-init g c = grind (arith, common_steps, encode_nil)

pub loop-byte-preserved : goal.loop-byte-preserved
loop-byte-preserved g c = λ plain.
    let so_far = c.loop-byte.invariant plain in
    let wrote = rw (c.laid_out.ensures, c.in_radix.ensures) at c.in_ok-write.ensures.writes in
    has_written_of_eq _ _ _ _ _ (encode_more c.args.self.now.0.now c.loop-byte.byte-index (search rules) (search rules)) (has_written_append _ _ _ _ _ _ so_far (wrote so_far.plain refl))
