-- What a run over zeros says is what is to be written.
use Rattle.std.proofs.Common.{◌≡◌, ℕ, List, replicate, Result, Ok, Err, refl, ap, ap₂, ◌∙◌}
use Rattle.std.specs.Result.{result_and}
use Rattle.eon_spec.specs.declared.refusal.Refusal.{Refusal}
use Rattle.eon_spec.specs.declared.Run.{Run}
use Rattle.eon_spec.specs.Calls.{Outcome, After, after, outcome_of}
use Rattle.eon_spec.specs.Runs.{IsRun}
use Rattle.eonfmt.specs.Said.{said, said_of, record_words, output_bytes, formatted}

-- reading's refusal, or what layout answered
said_first : (r w : Result ℕ Refusal) (out : List ℕ) → said (outcome_of (result_and r w)) out ≡ said_of (outcome_of r) (after (outcome_of w) out)
said_first (Ok n) w out = refl
said_first (Err r) w out = refl

pub said_by_run : (s : List ℕ) (r : Run) (table' out' : List ℕ) → IsRun s (replicate 16380 0) (replicate 65536 0) r table' out' → said (outcome_of (result_and r.read r.written)) out' ≡ formatted s
unfolding formatted record_words output_bytes
said_by_run s r table' out' i = said_first r.read r.written out' ∙ ap₂ (λ (a : Outcome ℕ) (w : After ℕ). said_of a w) (ap (λ (x : After ℕ). x.answer) i.reads) i.writes
