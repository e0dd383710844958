use Rattle.std.proofs.Common.{◌≡◌, ◌-◌, ◌*◌, ◌≤◌}
use Rattle.eon_one_line.specs.Flat.{line_at, one_line_at}
use Rattle.eon_one_line.proofs.on_one_line.Given as goal

abbrev pub invariant-loop-j : goal.invariant-loop-j
invariant-loop-j l = (l.wide ≤ (l.j - l.i) * 4294967298) × (one_line_at l.sheet.text.now l.sheet.table.now l.end l.i ≡ line_at l.sheet.text.now l.sheet.table.now l.end l.numbers l.wide l.j (l.end - l.j))
