-- What each loop has put, and the records that a call has left.
use Rattle.std.proofs.Common.{◌+◌, ◌*◌, ◌-◌, ◌≤◌, true, List, length}
use Rattle.eon_spec.specs.Tree.{Slice, TokenTrees, KeyValues}
use Rattle.eon_spec.specs.Layout.{list_content, map_content, settings_of}
use Rattle.eon_table.specs.TreeAt.{InsideAt, PairedAt}
use Rattle.eon_format.proofs.Walk.{Through, Paired}
use Rattle.eon_format.proofs.items.Layout.+layout.Given as goal

abbrev pub decreases-container : goal.decreases-container
decreases-container g l = 5 * (length l.self.sheet.table.now - l.node.index) + 2

abbrev pub decreases-indented_key_value : goal.decreases-indented_key_value
decreases-indented_key_value g l = 5 * (length l.self.sheet.table.now - l.node.index) + 4

abbrev pub decreases-indented_value : goal.decreases-indented_value
decreases-indented_value g l = 5 * (length l.self.sheet.table.now - l.node.index) + 4

abbrev pub decreases-list : goal.decreases-list
decreases-list g l = 5 * (length l.self.sheet.table.now - l.node.index) + 1

abbrev pub decreases-map : goal.decreases-map
decreases-map g l = 5 * (length l.self.sheet.table.now - l.node.index) + 1

abbrev pub decreases-map_content : goal.decreases-map_content
decreases-map_content g l = 5 * (length l.self.sheet.table.now - l.first.index) + 5

abbrev pub decreases-shared : goal.decreases-shared
decreases-shared g l = 5 * (length l.self.sheet.table.now - l.node.index) + 2

abbrev pub decreases-value : goal.decreases-value
decreases-value g l = 5 * (length l.self.sheet.table.now - l.node.index) + 3

abbrev pub decreases-variant : goal.decreases-variant
decreases-variant g l = 5 * (length l.self.sheet.table.now - l.node.index) + 1

abbrev pub invariant-list-loop-self : goal.invariant-list-loop-self
invariant-list-loop-self g l = let s = l.self.sheet.text.now in
    let tb = l.self.sheet.table.now in
    let o = settings_of l.self.options.now in
    (l.base ≤ l.index) × ((vs : TokenTrees) (cl : List Slice) → InsideAt s tb l.end l.base vs cl → Through s tb l.end g.S.Sink.puts l.initial.sink (list_content o (l.depth) true vs) (list_content o (l.depth)) cl l.base l.index l.sink)

abbrev pub decreases-list-loop-self : goal.decreases-list-loop-self
decreases-list-loop-self g l = l.end - l.index

abbrev pub invariant-map_content-loop-self : goal.invariant-map_content-loop-self
invariant-map_content-loop-self g l = let s = l.self.sheet.text.now in
    let tb = l.self.sheet.table.now in
    let o = settings_of l.self.options.now in
    (l.first.index ≤ l.index) × ((kvs : KeyValues) (cl : List Slice) → PairedAt s tb l.end l.first.index kvs cl → Paired s tb l.end g.S.Sink.puts l.initial.sink (map_content o l.depth true kvs) (map_content o l.depth) cl l.first.index l.index l.sink)

abbrev pub decreases-map_content-loop-self : goal.decreases-map_content-loop-self
decreases-map_content-loop-self g l = l.end - l.index
