-- The line ends of the values so far.
use Rattle.std.proofs.Common.{◌-◌, ◌≤◌, true, List}
use Rattle.eon_spec.specs.Tree.{Slice, TokenTrees}
use Rattle.eon_spec.specs.Layout.{line_ends, settings_of}
use Rattle.eon_format.proofs.Walk.{Through}
use Rattle.eon_table.specs.TreeAt.{InsideAt}
use Rattle.eon_format.proofs.items.Layout.long_variant.Given as goal

abbrev pub invariant-loop-self : goal.invariant-loop-self
invariant-loop-self g l = let s = l.self.sheet.text.now in
    let tb = l.self.sheet.table.now in
    let o = settings_of l.self.options.now in
    (l.base ≤ l.index) × ((vs : TokenTrees) (cl : List Slice) → InsideAt s tb l.end l.base vs cl → Through s tb l.end g.S.Sink.puts l.initial.sink (line_ends o true vs) (line_ends o) cl l.base l.index l.sink)

abbrev pub decreases-loop-self : goal.decreases-loop-self
decreases-loop-self g l = l.end - l.index
