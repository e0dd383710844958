use Rattle.std.proofs.Common.{length, sym, rules}
use Rattle.answer_line.proofs.Bytes.{dash, empty, capital, long, decoded}
use Rattle.answer_line.proofs.word.bytes.Goals as goal
use Rattle.answer_line.proofs.word.bytes.Goals.{then-is_empty-via-then-is_empty, then-is_empty-via-else-is_empty+then-any}

pub returns-then-eq-clause-stands : goal.returns-then-eq-clause-stands
returns-then-eq-clause-stands c = search (rules, dash)

pub returns-then-is_empty-clause-stands : goal.returns-then-is_empty-clause-stands
returns-then-is_empty-clause-stands c = elim c.then-is_empty.branch [
  | then-is_empty-via-then-is_empty w ↦ sym (empty _ _ (search rules) (search rules))
  | then-is_empty-via-else-is_empty+then-any w ↦ sym (capital _ _ (search rules) (search rules))
]

pub returns-in_err-bytes-clause-stands : goal.returns-in_err-bytes-clause-stands
returns-in_err-bytes-clause-stands c = let said = long (length c.args.room.now) c.args.word.now (search rules) (search rules) in search (rules, said)

pub returns-clause-stands : goal.returns-clause-stands
returns-clause-stands c = let said = decoded (length c.args.room.now) c.args.word.now (search rules) (search rules) (search rules) (search rules) in search (rules, said)

pub returns-in_err-map_err-clause-stands : goal.returns-in_err-map_err-clause-stands
returns-in_err-map_err-clause-stands c = let said = decoded (length c.args.room.now) c.args.word.now (search rules) (search rules) (search rules) (search rules) in search (rules, said)
