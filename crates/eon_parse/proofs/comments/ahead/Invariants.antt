use Rattle.std.proofs.Common.{◌-◌, length}
use Rattle.eon_token.specs.Place.{place_of}
use Rattle.eon_parse.specs.Walk.{Records, comment, no_comment}
use Rattle.eon_parse.specs.Answer.{Ready}
use Rattle.eon_parse.proofs.Left.{Left}
use Rattle.eon_parse.proofs.comments.ahead.Given as goal

abbrev pub invariant-loop-d : goal.invariant-loop-d
invariant-loop-d l = (done : Records) × (Left l.text (no_comment l.text) (comment l.text 7) (place_of l.initial.d) (place_of l.d) done × Ready l.text l.d 0)

abbrev pub decreases-loop-d : goal.decreases-loop-d
decreases-loop-d l = length l.text - l.d.end
