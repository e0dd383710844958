-- Of the first paths, those that end behind the key are answered, and those that go on are listed.
use Rattle.eon_lookup.specs.Keys.{key_here}
use Rattle.eon_lookup.proofs.Turns.{Turns}
use Rattle.eon_lookup.proofs.walks.Live.match_key.Given as goal

abbrev pub invariant-loop-p : goal.invariant-loop-p
invariant-loop-p l = Turns l.self.text.now l.self.paths.now l.self.matched (key_here l.event.text.now l.event.table.now l.k) l.self.numbers.now l.w l.initial.answers l.answers l.next l.n l.p-index
