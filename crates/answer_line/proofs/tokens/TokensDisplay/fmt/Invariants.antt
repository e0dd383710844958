-- Each token is asked for at a boundary of the text, and ends at one further on; what is written and the tokens from there on are all.
use Rattle.std.proofs.Common.{◌≡◌, ℕ, ◌-◌, false, List, ◌++◌, length}
use Rattle.std.specs.Fmt.{HasWritten, IsPlainFormatter}
use Rattle.eon_spec.specs.Utf8.{Boundary}
use Rattle.eon_spec.specs.Token.{tokens}
use Rattle.eon_token.specs.Placed.{tokens_at}
use Rattle.answer_line.specs.Printed.{tokens_text}
use Rattle.answer_line.proofs.tokens.TokensDisplay.fmt.Given as goal

abbrev pub invariant-loop-kind : goal.invariant-loop-kind
invariant-loop-kind g l =
    Boundary l.text l.from
    × (IsPlainFormatter l.initial.f → (done : List ℕ) × HasWritten g.W.Write.write_str_gives l.initial.f done l.f
    × (done ++ tokens_text (tokens_at l.text l.from false) ≡ tokens_text (tokens l.text)))

abbrev pub decreases-loop-kind : goal.decreases-loop-kind
decreases-loop-kind g l = length l.text - l.from
