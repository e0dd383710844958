-- The records passed are prefix comments.
use Rattle.std.proofs.Common.{◌≡◌, ℕ, ◌<◌, ◌≤◌}
use Rattle.eon_table.specs.Words.{word}
use Rattle.eon_table.proofs.sheet.Sheet.after_prefix.Given as goal

abbrev pub invariant-loop-j : goal.invariant-loop-j
invariant-loop-j l = (k : ℕ) → l.i ≤ k → k < l.j → word l.self.table.now k 0 ≡ 7
