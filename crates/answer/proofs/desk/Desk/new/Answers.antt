use Rattle.answer.proofs.desk.Desk.new.Goals as goal

pub returns-clause-text : goal.returns-clause-text
returns-clause-text c = c.in_ok-vec.ensures.len

pub returns-clause-room : goal.returns-clause-room
returns-clause-room c = c.in_ok-vec-2.ensures.len

pub returns-clause-table : goal.returns-clause-table
returns-clause-table c = c.in_ok-vec-3.ensures.len

pub returns-clause-other : goal.returns-clause-other
returns-clause-other c = c.in_ok-vec-4.ensures.len
