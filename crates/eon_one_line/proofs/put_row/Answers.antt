use Rattle.eon_one_line.proofs.put_row.Goals as goal

pub returns : goal.returns
returns g c = let m = g.met.S.Sink in
    m.append _ _ _ _ _ c.put.ensures (m.append _ _ _ _ _ c.one_line.ensures c.put-2.ensures)
