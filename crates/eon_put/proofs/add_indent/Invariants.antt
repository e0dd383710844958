-- As many indentations were put as turns were taken.
use Rattle.eon_spec.specs.Layout.{settings_of, add_indent}
use Rattle.eon_put.proofs.add_indent.Given as goal

abbrev pub invariant-loop : goal.invariant-loop
invariant-loop g l = g.S.Sink.puts l.fn.sink (add_indent (settings_of l.options) l.counter) l.sink
