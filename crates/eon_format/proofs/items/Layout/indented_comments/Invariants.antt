-- What is left are the lines of the records from j on.
use Rattle.std.proofs.Common.{◌-◌}
use Rattle.eon_spec.specs.Layout.{settings_of}
use Rattle.eon_format.specs.Lines.{lines}
use Rattle.eon_put.proofs.Going.{Going}
use Rattle.eon_format.proofs.items.Layout.indented_comments.Given as goal

abbrev pub invariant-loop-j : goal.invariant-loop-j
invariant-loop-j g l = let s = l.self.sheet.text.now in
    let tb = l.self.sheet.table.now in
    let o = settings_of l.self.options.now in
    Going g.S.Sink.puts l.fn.sink (lines s tb o l.n l.i (l.end - l.i)) l.sink (lines s tb o l.n l.j (l.end - l.j))
