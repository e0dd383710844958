use Rattle.std.proofs.Common.{◌-◌, eq-eqb, ne_eqb, subst}
use Rattle.eon_spec.specs.Layout.{settings_of}
use Rattle.eon_format.specs.Lines.{lines}
use Rattle.eon_put.proofs.Going.{put_as}
use Rattle.eon_format.proofs.Records.{closing_empty, closing_items, closing_none}
use Rattle.eon_format.proofs.items.Layout.closing.Goals.{then-i-base, else-i-base}
use Rattle.eon_format.proofs.items.Layout.closing.Goals as goal

pub returns-then-end-i : goal.returns-then-end-i
returns-then-end-i g c = put_as g.S.Sink.puts (closing_none _ _ _ _ _ _ _ c.if-end-i.true) (g.met.S.Sink.nothing _)

pub returns : goal.returns
returns g c = let a = c.args in
    let puts = g.S.Sink.puts in
    let ls = lines a.self.sheet.text.now a.self.sheet.table.now (settings_of a.self.options.now) a.n a.i (a.end - a.i) in
    elim c.if-i-base.branch [
      | then-i-base w ↦
          put_as puts (closing_items _ _ _ _ _ _ _ c.if-end-i.false (ne_eqb a.i a.base w.if-i-base.true))
          (g.met.S.Sink.append _ _ _ _ _ w.newline.ensures (subst (λ x. puts x ls c.indented_comments.new.sink) w.sink-is c.indented_comments.ensures))
      | else-i-base w ↦
          put_as puts (closing_empty _ _ _ _ _ _ _ c.if-end-i.false (eq-eqb a.i a.base w.if-i-base.false))
          (subst (λ x. puts x ls c.indented_comments.new.sink) w.sink-is c.indented_comments.ensures)
    ]
