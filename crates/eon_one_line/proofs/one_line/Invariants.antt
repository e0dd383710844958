-- What is left of the line is that of the records from j on.
use Rattle.std.proofs.Common.{◌-◌}
use Rattle.eon_one_line.specs.Flat.{plain_line}
use Rattle.eon_put.proofs.Going.{Going}
use Rattle.eon_one_line.proofs.one_line.Given as goal

abbrev pub invariant-loop-j : goal.invariant-loop-j
invariant-loop-j g l = let s = l.sheet.text.now in
    let tb = l.sheet.table.now in
    Going g.S.Sink.puts l.fn.sink (plain_line s tb l.i (l.end - l.i)) l.sink (plain_line s tb l.j (l.end - l.j))
