-- A line more.
use Rattle.std.proofs.Common.{ℕ, List, ◌++◌, ap}
use Rattle.eon_spec.specs.Layout.{settings_of, add_indent}
use Rattle.eon_put.proofs.Going.{put_as, going_step, going_end}
use Rattle.eon_format.proofs.Records.{lines_more, lines_none}
use Rattle.eon_format.proofs.items.Layout.indented_comments.Goals as goal

pub loop-j-preserved : goal.loop-j-preserved
loop-j-preserved g c = let o = settings_of c.args.self.options.now in
    let append = g.met.S.Sink.append in
    going_step g.S.Sink.puts append c.loop-j.invariant (lines_more _ _ o c.args.n _ _ c.loop-j-test.true)
    (put_as g.S.Sink.puts (ap (λ (b : List ℕ). add_indent o c.args.n ++ b ++ o.newline) c.text_at.ensures)
    (append _ _ _ _ _ (append _ _ _ _ _ c.add_indent.ensures c.put_all.ensures) c.newline.ensures))

pub returns : goal.returns
returns g c = going_end g.S.Sink.puts c.loop-j.invariant (lines_none _ _ _ _ _ _ c.loop-j-test.false)
