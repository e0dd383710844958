-- The row between brackets is the value's layout.
use Rattle.std.proofs.Common.{ℕ, ◌+◌, ◌-◌, List, [], ◌∷◌, ◌++◌, ap, ◌∙◌, arith, rules}
use Rattle.eon_one_line.specs.Flat.{plain_line}
use Rattle.eon_put.proofs.Going.{put_as}
use Rattle.eon_one_line.proofs.Rows.{flat_list, flat_variant}
use Rattle.eon_table.specs.Words.{text_at}
use Rattle.eon_one_line.proofs.put_flat.Goals as goal

pub returns-then-is : goal.returns-then-is
returns-then-is g c o n v h = let s = c.args.sheet.text.now in
    let tb = c.args.sheet.table.now in
    let i = c.args.i in
    put_as g.S.Sink.puts
    (ap (λ (x : ℕ). (91 ∷ []) ++ plain_line s tb (i + 1) (x - (i + 1)) ++ (93 ∷ [])) c.behind-end.ensures
    ∙ flat_list _ _ _ o n v h (λ e. omega (arith, e, c.requires.something)) c.requires.flat (c.is.ensures.0 c.if-is.true))
    c.put_row.ensures

pub returns-else-is : goal.returns-else-is
returns-else-is g c o n v h = let s = c.args.sheet.text.now in
    let tb = c.args.sheet.table.now in
    let i = c.args.i in
    put_as g.S.Sink.puts
    (ap (λ (b : List ℕ). b ++ ((40 ∷ []) ++ plain_line s tb (i + 1) (c.behind-end.result - (i + 1)) ++ (41 ∷ []))) c.text_at.ensures
    ∙ ap (λ (x : ℕ). text_at s tb i ++ ((40 ∷ []) ++ plain_line s tb (i + 1) (x - (i + 1)) ++ (41 ∷ []))) c.behind-end.ensures
    ∙ flat_variant _ _ _ o n v h (λ e. omega (arith, e, c.requires.something)) c.requires.flat (search rules))
    (g.met.S.Sink.append _ _ _ _ _ c.put_all.ensures c.put_row-else-is.ensures)
