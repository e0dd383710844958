-- What the functions ensure.
use Rattle.std.specs.Prelude.{◌≡◌, ◌≤◌, ◌<◌, List, ℕ, length, take, Option, Some, None}
use Rattle.eon_spec.specs.Utf8.{char_len, code_point}
use Rattle.eon_utf8.specs.declared.Char.{Char}

-- the character c begins the text
pub record StartsWith (s : List ℕ) (c : Char) : Type 0 where
  pub is : c.len ≡ char_len s
  pub some : 0 < c.len
  pub inside : c.len ≤ length s
  pub point : c.code ≡ code_point (take c.len s)

-- the character that begins the text, if there is one
abbrev pub FirstChar : List ℕ → Option Char → Type 0
FirstChar s None = char_len s ≡ 0
FirstChar s (Some c) = StartsWith s c
