use Rattle.std.proofs.Common.{◌≡◌, ◌+◌, ◌-◌, sym, arith}
use Rattle.eon_laws.proofs.Stores.{sets_past}
use Rattle.eon_unescape.proofs.Writes.{sets_room}
use Rattle.eon_unescape.proofs.put.Goals as goal

pub returns-then-out-at-clause-written : goal.returns-then-out-at-clause-written
returns-then-out-at-clause-written c = let a = c.args in sym (sets_past a.bytes.now a.out.now a.at c.if-out-at.true)

pub returns-clause-written : goal.returns-clause-written
returns-clause-written c =
    let a = c.args in let n = c.min-n.result in
    let z : a.at + n - a.at ≡ n = omega arith in
    let y = c.store.ensures in
    simp (z, y) (sym (sets_room a.bytes.now a.out.now a.at n (omega arith) c.min-n.ensures))
