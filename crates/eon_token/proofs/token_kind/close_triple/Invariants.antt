use Rattle.std.proofs.Common.{◌≡◌, ◌<◌, drop}
use Rattle.eon_token.specs.Machine.{miss, run, multi_s, class_of}
use Rattle.eon_token.proofs.token_kind.close_triple.Given as goal

-- The automaton's run from i on, in the state for the quotes read last, is its run from `from` on.
abbrev pub invariant-loop-i : goal.invariant-loop-i
invariant-loop-i l = record {
  few : l.marks < 3;
  run : run (multi_s (class_of l.fn.quote) 0) miss l.from (drop l.from l.text) ≡ run (multi_s (class_of l.fn.quote) l.marks) miss l.i (drop l.i l.text);
}
