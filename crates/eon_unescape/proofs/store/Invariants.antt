use Rattle.std.proofs.Common.{◌≡◌, ◌++◌, length, take, drop}
use Rattle.eon_unescape.proofs.store.Given as goal

-- the first bytes are copied, and the others are as they were
abbrev pub invariant-loop-i : goal.invariant-loop-i
invariant-loop-i l = record {
  same : length l.to ≡ length l.from;
  done : l.to ≡ take l.i l.from ++ drop l.i l.initial.to;
}
