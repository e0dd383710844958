-- Behind the value's records, or behind the suffix comment there.
use Rattle.std.proofs.Common.{◌<◌, length, sym, ◌∙◌, arith}
use Rattle.eon_table.proofs.Walk.{value_in, tree_value, next_suffix, next_bare}
use Rattle.eon_table.proofs.sheet.Sheet.next_tree.Goals as goal

pub overflow_add-result : goal.overflow_add-result
overflow_add-result c =
    let (s, (t, h)) = c.requires in
    let a = c.args in
    let tb = a.self.table.now in
    let r = c.after_prefix-j.result in
    let l : r < length tb = value_in s tb r _ (tree_value s tb a.end a.i r t h c.after_prefix-j.ensures) in
    omega (arith, l, c.size.ensures.sized)

pub returns-then-has_suffix : goal.returns-then-has_suffix
returns-then-has_suffix c s t h =
    let a = c.args in
    next_suffix s a.self.table.now a.end a.i c.after_prefix-j.result t h c.after_prefix-j.ensures _ c.size.ensures.value (sym c.has_suffix.ensures ∙ c.if-has_suffix.true)

pub returns-else-has_suffix : goal.returns-else-has_suffix
returns-else-has_suffix c s t h =
    let a = c.args in
    next_bare s a.self.table.now a.end a.i c.after_prefix-j.result t h c.after_prefix-j.ensures _ c.size.ensures.value (sym c.has_suffix.ensures ∙ c.if-has_suffix.false)
