use Rattle.std.proofs.Common.{ℕ, ◌+◌, Ok, ap, ◌∙◌, arith, length-drop, length-take, length-take-le}
use Rattle.eon_unescape.specs.Modes.{onward}
use Rattle.eon_unescape.proofs.Runs.{turn_end, turn_put, turn_formed}
use Rattle.eon_unescape.proofs.unescape.Goals as goal

pub returns-in_default : goal.returns-in_default
returns-in_default c =
    let l = c.loop-next in let p = c.copy_run-run in let n = p.result in let x = p.ensures.run in
    l.invariant.reads _ _ (turn_end l.rest.now l.mode n l.len l.out x p.new.out (l.len + n) (omega (arith, x.within, length-take-le n l.rest.now x.within)) p.ensures.written c.in_default.ensures c.in_ok-at_end.ensures)

pub loop-next-preserved : goal.loop-next-preserved
loop-next-preserved c =
    let l = c.loop-next in let p = c.copy_run-run in let n = p.result in let x = c.in-Some in let q = c.put_char-len in let y = c.in-Put in
    record {
      shorter = omega (arith, x.ensures.shorter, l.invariant.shorter, length-take {A = ℕ}, length-drop {A = ℕ});
      room = omega (arith, x.ensures.shorter, l.invariant.room, q.ensures.few, p.ensures.run.within, length-take {A = ℕ}, length-drop {A = ℕ});
      formed = x.ensures.formed (turn_formed l.rest.now l.mode n l.len l.out p.ensures.run);
      reads = λ exit r h. l.invariant.reads exit r
          (turn_put l.rest.now l.mode n l.len l.out p.ensures.run x.next y.c y.to (l.len + n) q.result p.new.out q.new.out exit r (omega (arith, length-take-le n l.rest.now p.ensures.run.within)) p.ensures.written
          x.ensures.is (λ u. c.read_char.ensures u ∙ ap (λ z. onward z u) (c.in_ok-to.was ∙ ap Ok y.is)) q.ensures.behind q.ensures.written h);
    }
