use Rattle.std.proofs.Common.{◌-◌, length}
use Rattle.eon_spec.specs.RecordKind.{word_of}
use Rattle.eon_parse.specs.Walk.{comment, no_comment}
use Rattle.eon_parse.proofs.Page.{page}
use Rattle.eon_parse.proofs.Pass.{Inv}
use Rattle.eon_parse.proofs.comments.comments.Given as goal

abbrev pub invariant-loop-kind : goal.invariant-loop-kind
invariant-loop-kind l = Inv l.text l.old (no_comment l.text) (comment l.text (word_of l.kind)) (page l.initial.d l.initial.out) (page l.d l.out)

abbrev pub decreases-loop-kind : goal.decreases-loop-kind
decreases-loop-kind l = length l.text - l.d.cursor.end
