use Rattle.std.proofs.Common.{arith}
use Rattle.eon_unescape.proofs.Hex.{grows, room}
use Rattle.eon_unescape.proofs.digits.Digits.with.Goals as goal

pub overflow_mul-result : goal.overflow_mul-result
overflow_mul-result c = let h = room c.args.self.count c.args.self.value (omega arith) c.args.self.fits in omega arith

pub overflow_add-result-then-self-lt8 : goal.overflow_add-result-then-self-lt8
overflow_add-result-then-self-lt8 c = let h = room c.args.self.count c.args.self.value (omega arith) c.args.self.fits in omega arith

pub invariant_of-result-clause-fits : goal.invariant_of-result-clause-fits
invariant_of-result-clause-fits c = grows c.args.self.count c.args.self.value c.args.digit c.args.self.fits (omega arith)
