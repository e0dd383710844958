use Rattle.std.proofs.Common.{ℕ, ◌<◌, ◌≤◌, true, get_or}
use Rattle.eon_token.proofs.token_kind.end_while.Given as goal

-- All bytes from `from` up to i pass.
abbrev pub invariant-loop-i : goal.invariant-loop-i
invariant-loop-i g l = (j : ℕ) → l.from ≤ j → j < l.i → goal.F-post g l.inside (get_or l.text j 0) true
