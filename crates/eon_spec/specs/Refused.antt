-- Refusals as the papers give them (document 01, "Refusals at the desk"; document 02): a number, a place in bytes, and the token kinds
-- that 11 and 12 name; and what a refusal of src/refusal.rt says of these.
use Rattle.std.specs.Prelude.{ℕ}
use Rattle.eon_spec.specs.Token.{kind_number}
use Rattle.eon_spec.specs.declared.refusal.Reason.{Reason}
use Rattle.eon_spec.specs.declared.refusal.Reason.TheVariants.{Overlong, Garbled, Stray, TooDeep, MissingValue, UnbalancedList, UnbalancedBrace, UnbalancedParen, Nameless, NoValue, Mismatch, CutOff, Surplus, NoSpace, Stale, BadSettings, NoOpeningQuote, NoClosingQuote, LineBreak, EndsInBackslash, UnknownEscape, NoBrace, NinthDigit, ForeignCharacter, NotClosed, NoScalarValue, NoByte, NoPaths}
use Rattle.eon_spec.specs.declared.refusal.Refusal as refusal

-- 0 for the kinds of all others than 11 and 12
pub record Refusal : Type 0 where
  pub number : ℕ
  pub start : ℕ
  pub end : ℕ
  pub expected : ℕ
  pub found : ℕ

abbrev pub number_of : Reason → ℕ
number_of Overlong = 1
number_of Garbled = 2
number_of Stray = 3
number_of TooDeep = 4
number_of MissingValue = 5
number_of UnbalancedList = 6
number_of UnbalancedBrace = 7
number_of UnbalancedParen = 8
number_of Nameless = 9
number_of NoValue = 10
number_of (Mismatch e f) = 11
number_of (CutOff e) = 12
number_of Surplus = 13
number_of NoSpace = 14
number_of Stale = 15
number_of BadSettings = 16
number_of NoOpeningQuote = 17
number_of NoClosingQuote = 18
number_of LineBreak = 19
number_of EndsInBackslash = 20
number_of UnknownEscape = 21
number_of NoBrace = 22
number_of NinthDigit = 23
number_of ForeignCharacter = 24
number_of NotClosed = 25
number_of NoScalarValue = 26
number_of NoByte = 27
number_of NoPaths = 28

abbrev pub expected_of : Reason → ℕ
expected_of (Mismatch e f) = kind_number e
expected_of (CutOff e) = kind_number e
expected_of r = 0

abbrev pub found_of : Reason → ℕ
found_of (Mismatch e f) = kind_number f
found_of r = 0

-- the paper's refusal for one of the program's
abbrev pub refusal_of : refusal.Refusal → Refusal
refusal_of r = record { number = number_of r.reason; start = r.start; end = r.end; expected = expected_of r.reason; found = found_of r.reason }
