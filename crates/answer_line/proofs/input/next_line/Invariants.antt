-- The line so far is cut off.
use Rattle.std.proofs.Common.{◌≤◌, vec_len}
use Rattle.answer_line.proofs.input.next_line.Given as goal

abbrev pub invariant-loop : goal.invariant-loop
invariant-loop g l = vec_len l.line ≤ 524288
