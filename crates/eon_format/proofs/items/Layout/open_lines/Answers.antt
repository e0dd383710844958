use Rattle.eon_format.proofs.items.Layout.open_lines.Goals as goal

pub returns : goal.returns
returns g c = g.met.S.Sink.append _ _ _ _ _ c.put.ensures c.newline.ensures
