-- What the functions' answers say.
use Rattle.std.specs.Prelude.{ℕ, ◌<◌, List, [], Result, Ok, Err}
use Rattle.eon_spec.specs.Refused.{number_of}
use Rattle.eon_spec.specs.Unquote.{value, fault, push, unescape, plain, backslash, blanks, unicode, digits}
use Rattle.eon_spec.specs.Unquote as unquoting
use Rattle.eon_spec.specs.declared.refusal.Reason.{Reason}
use Rattle.eon_unescape.specs.declared.code_point.CodeStep.{CodeStep}
use Rattle.eon_unescape.specs.declared.code_point.CodeStep.TheVariants as codes
use Rattle.eon_unescape.specs.declared.digits.Digits.{Digits}
use Rattle.eon_unescape.specs.declared.mode.Mode.{Mode}
use Rattle.eon_unescape.specs.declared.mode.Mode.TheVariants as modes
use Rattle.eon_unescape.specs.declared.mode.Step.{Step}
use Rattle.eon_unescape.specs.declared.mode.Step.TheVariants.{Go, Put}

-- the characters that a mode gives
abbrev pub reads_digits : Digits → List ℕ → unquoting.Unescaped
reads_digits d s = unescape (digits d.count d.value) s

abbrev pub reads_by : Mode → List ℕ → unquoting.Unescaped
reads_by modes.Literal s = value s
reads_by modes.Plain s = unescape plain s
reads_by modes.Backslash s = unescape backslash s
reads_by modes.Blanks s = unescape blanks s
reads_by modes.Unicode s = unescape unicode s
reads_by (modes.Digits d) s = reads_digits d s

-- what a step leaves of the rest
abbrev pub onward : Result Step Reason → List ℕ → unquoting.Unescaped
onward (Ok (Go m)) s = reads_by m s
onward (Ok (Put c m)) s = push c (reads_by m s)
onward (Err r) s = fault (number_of r)

-- the same of a step that gives a number
abbrev pub onward_code : Result CodeStep Reason → List ℕ → unquoting.Unescaped
onward_code (Ok (codes.Go m)) s = reads_by m s
onward_code (Ok (codes.Put c m)) s = push c (reads_by m s)
onward_code (Err r) s = fault (number_of r)

-- the number that is given, if any, is below b
abbrev pub PutsBelow : ℕ → Result CodeStep Reason → Type 0
PutsBelow b (Ok (codes.Go m)) = Unit {0}
PutsBelow b (Ok (codes.Put c m)) = c < b
PutsBelow b (Err r) = Unit {0}

-- what the end of the text gives
abbrev pub ended : Result (Unit {0}) Reason → unquoting.Unescaped
ended (Ok u) = value []
ended (Err r) = fault (number_of r)
