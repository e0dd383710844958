-- What is written of a text: its layout under the default settings, or a line that says why it is refused, where the table has room for
-- 3,276 records and the output for 65,536 bytes.
use Rattle.std.specs.Prelude.{ℕ, List, [], ◌∷◌, ◌++◌, take, replicate}
use Rattle.std.specs.Fmt.{decimal}
use Rattle.eon_spec.specs.Refused.{Refusal}
use Rattle.eon_spec.specs.Base.{codes}
use Rattle.eon_spec.specs.Calls.{Outcome, done, refused_with, After}
use Rattle.eon_spec.specs.Runs.{run_reads, run_writes}

-- a blank and a number
abbrev pub blank_number : ℕ → List ℕ
blank_number n = 32 ∷ decimal n

-- the number of a refusal, its start and its end
abbrev pub refusal_line : Refusal → List ℕ
refusal_line r = codes "refused" ++ blank_number r.number ++ blank_number r.start ++ blank_number r.end ++ 10 ∷ []

-- what an answer of layout says, with the output behind it
abbrev pub said : Outcome ℕ → List ℕ → List ℕ
said (done n) out = take n out
said (refused_with r) out = refusal_line r

-- reading's refusal, or what layout answered
abbrev pub said_of : Outcome ℕ → After ℕ → List ℕ
said_of (done n) w = said w.answer w.memory
said_of (refused_with r) w = refusal_line r

unfoldable pub record_words : ℕ
record_words = 16380

unfoldable pub output_bytes : ℕ
output_bytes = 65536

unfoldable pub formatted : List ℕ → List ℕ
formatted s = said_of (run_reads s (replicate record_words 0)).answer (run_writes s (replicate record_words 0) (replicate output_bytes 0))
