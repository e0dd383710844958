-- What the functions' answers say.
use Rattle.std.specs.Prelude.{◌≤◌, ◌≡◌, ℕ, Bool, false, List, [], ◌∷◌, ◌++◌, length, take, drop, replicate, Option, Some, None, Result, Ok, Err, ◌⊎◌}
use Rattle.std.specs.Borrow.{Bor}
use Rattle.eon_spec.specs.Base.{eq_list, codes}
use Rattle.eon_spec.specs.Refused.{number_of, refusal_of}
use Rattle.eon_spec.specs.Unquote.{fault, starts_with, ends_with, value_bytes}
use Rattle.eon_spec.specs.Unquote as unquoting
use Rattle.eon_spec.specs.declared.refusal.Reason.{Reason}
use Rattle.eon_spec.specs.declared.Which.TheVariants.{Scratch}
use Rattle.eon_spec.specs.declared.Part.{Part}
use Rattle.eon_spec.specs.Calls.{part_of, Outcome, done, refused_with, After, then, fill, handed_back, unescaped_outcome}
use Rattle.eon_unescape.specs.Modes.{reads_by}
use Rattle.eon_unescape.specs.Views.{kept, Formed, BytesOf, TailOf}
use Rattle.eon_unescape.specs.declared.mode.Mode.{Mode}
use Rattle.eon_unescape.specs.declared.mode.Mode.TheVariants.{Literal, Plain, Backslash, Blanks, Unicode, Digits}
use Rattle.eon_strings.specs.declared.marks.Contents.{Contents}

-- the first n characters are quotes
abbrev pub quotes : ℕ → ℕ → List ℕ → Bool
quotes q n u = eq_list (take n u) (replicate n q)

-- s without its last bytes
abbrev pub FrontOf : List ℕ → List ℕ → Type 0
FrontOf s t = t ≡ take (length t) s

-- bytes of s that stand together there
pub record PieceOf (s t : List ℕ) : Type 0 where
  pub from : ℕ
  pub is : t ≡ take (length t) (drop from s)

-- the text behind n quotes
pub record Behind (s : List ℕ) (q n : ℕ) (r : List ℕ) : Type 0 where
  pub is : kept s ≡ replicate n q ++ kept r
  pub behind : TailOf s r
  pub formed : Formed s → Formed r
  pub shorter : length r ≤ length s
  pub bytes : BytesOf s r

abbrev pub BehindIs : List ℕ → ℕ → ℕ → Option (Bor (List ℕ)) → Type 0
BehindIs s q n None = quotes q n (kept s) ≡ false
BehindIs s q n (Some r) = Behind s q n r.now

-- the text before n quotes at its end
pub record Before (s : List ℕ) (q n : ℕ) (r : List ℕ) : Type 0 where
  pub is : kept s ≡ kept r ++ replicate n q
  pub before : FrontOf s r
  pub formed : Formed r
  pub shorter : length r ≤ length s
  pub bytes : BytesOf s r

abbrev pub BeforeIs : List ℕ → ℕ → ℕ → Result (Bor (List ℕ)) Reason → Type 0
BeforeIs s q n (Ok r) = Before s q n r.now
BeforeIs s q n (Err x) = (ends_with (replicate n q) (kept s) ≡ false) × (number_of x ≡ 18)

-- characters that do not end in a quote
abbrev pub EndsOtherwise : ℕ → List ℕ → Type 0
EndsOtherwise q u = (u ≡ []) ⊎ ((x : List ℕ) × (p : ℕ) × (p ≡ q → ⊥) × (u ≡ x ++ (p ∷ [])))

abbrev pub OneBeforeIs : List ℕ → ℕ → Option (Bor (List ℕ)) → Type 0
OneBeforeIs s q None = EndsOtherwise q (kept s)
OneBeforeIs s q (Some r) = Before s q 1 r.now

-- what the characters between the quotes give, read in their mode
abbrev pub given : Result Contents Reason → unquoting.Unescaped
given (Ok c) = reads_by c.mode (kept c.text.now)
given (Err r) = fault (number_of r)

-- a mode to begin in: literal, or plain where no single quote opens the text
abbrev pub ModeIs : List ℕ → Mode → Type 0
ModeIs s Literal = Unit {0}
ModeIs s Plain = starts_with (codes "'") s ≡ false
ModeIs s Backslash = ⊥
ModeIs s Blanks = ⊥
ModeIs s Unicode = ⊥
ModeIs s (Digits d) = ⊥

-- an answer, or a refusal "0, 0"
abbrev pub outcome_at_start : Result Part Reason → Outcome Part
outcome_at_start (Ok p) = done p
outcome_at_start (Err r) = refused_with (refusal_of (record { reason = r; start = 0; end = 0 }))

-- the call behind its checks of the quoted text
abbrev pub handed : List ℕ → List ℕ → Outcome (List ℕ) → After Part
handed q old o = fill old (then o λ b. done (handed_back q b))

abbrev pub placed_call : List ℕ → List ℕ → unquoting.Unescaped → After Part
placed_call q old w = handed q old (unescaped_outcome (value_bytes w))

-- a value that is no part of the quoted text
abbrev pub scratch_call : List ℕ → unquoting.Unescaped → After Part
scratch_call old w = fill old (then (unescaped_outcome (value_bytes w)) λ b. done (part_of Scratch 0 (length b), b))
