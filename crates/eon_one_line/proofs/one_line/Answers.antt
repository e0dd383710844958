-- A value and its comma are the next of the line.
use Rattle.std.proofs.Common.{◌≡◌, ◌+◌, ◌-◌, Bool, [], lt-ltb, le-ltb, cond, sym, ap, subst, arith}
use Rattle.eon_spec.specs.Base.{codes}
use Rattle.eon_one_line.specs.Flat.{plain_at, plain_line, comma_at}
use Rattle.eon_one_line.proofs.Words.{line_none, line_more}
use Rattle.eon_put.proofs.Going.{Going, going_step, going_end, put_as}
use Rattle.eon_one_line.proofs.one_line.Goals.{then-j-end, else-j-end}
use Rattle.eon_one_line.proofs.one_line.Goals as goal

pub loop-j-preserved : goal.loop-j-preserved
loop-j-preserved g c = let s = c.args.sheet.text.now in
    let tb = c.args.sheet.table.now in
    let j = c.loop-j.j in
    let e = c.args.end in
    let p = g.S.Sink.puts in
    let m = g.met.S.Sink in
    let step : (t : g.row.S.Denot) → p c.put_plain.new.sink (comma_at (j + 1) e) t → Going p c.args.sink.now (plain_line s tb c.args.i (e - c.args.i)) t (plain_line s tb (j + 1) (e - (j + 1))) =
    λ t q. going_step p m.append c.loop-j.invariant (line_more s tb j e c.loop-j-test.true) (m.append c.loop-j.sink c.put_plain.new.sink t (plain_at s tb j) (comma_at (j + 1) e) c.put_plain.ensures q) in
    elim c.if-j-end.branch [
      | then-j-end w ↦
          let comma : codes ", " ≡ comma_at (j + 1) e = ap (λ (b : Bool). cond b (codes ", ") []) (sym (lt-ltb (j + 1) e w.if-j-end.true)) in
          step c.if-j-end.sink (subst (λ x. p c.put_plain.new.sink (comma_at (j + 1) e) x) (sym w.sink-is) (put_as p comma w.put_all.ensures))
      | else-j-end w ↦
          let comma : [] ≡ comma_at (j + 1) e = ap (λ (b : Bool). cond b (codes ", ") []) (sym (le-ltb (j + 1) e w.if-j-end.false)) in
          step c.if-j-end.sink (subst (λ x. p c.put_plain.new.sink (comma_at (j + 1) e) x) (sym w.sink-is) (put_as p comma (m.nothing c.put_plain.new.sink)))
    ]

pub returns : goal.returns
returns g c = going_end g.S.Sink.puts c.loop-j.invariant (line_none _ _ _ c.args.end (omega arith))
