-- What the functions' answers say.
use Rattle.std.specs.Prelude.{ℕ, ◌+◌, ◌-◌, ◌≤◌, ◌<◌, ◌≡◌, ◌==◌, Bool, false, ◌||◌, not, List, [], ◌∷◌, length, drop, take, Option, Some, None, Result, Ok, Err}
use Rattle.std.proofs.lemmas.List.Edits.{sets}
use Rattle.eon_spec.specs.Base.{elem}
use Rattle.eon_spec.specs.Utf8.{decode, encode, well_formed_len}
use Rattle.eon_spec.specs.Refused.{number_of}
use Rattle.eon_spec.specs.Unquote.{value, fault, without}
use Rattle.eon_spec.specs.Unquote as unquoting
use Rattle.eon_spec.specs.declared.refusal.Reason.{Reason}
use Rattle.eon_unescape.specs.Modes.{reads_by}
use Rattle.eon_unescape.specs.declared.mode.Mode.{Mode}
use Rattle.eon_unescape.specs.declared.Next.{Next}

-- the characters of a text, without carriage returns
unfoldable pub kept : List ℕ → List ℕ
kept s = without 13 (decode s)

-- well-formed UTF-8
abbrev pub Formed : List ℕ → Type 0
Formed s = well_formed_len s ≡ length s

-- no bytes but those of s
abbrev pub BytesOf : List ℕ → List ℕ → Type 0
BytesOf s t = (x : ℕ) → elem x s ≡ false → elem x t ≡ false

-- s without its first bytes
abbrev pub TailOf : List ℕ → List ℕ → Type 0
TailOf s t = t ≡ drop (length s - length t) s

-- the first of those characters, and the text behind it
pub record Begins (s : List ℕ) (n : Next) : Type 0 where
  pub behind : TailOf s n.rest.now
  pub is : kept s ≡ n.code ∷ kept n.rest.now
  pub shorter : length n.rest.now < length s
  pub formed : Formed s → Formed n.rest.now
  pub bytes : BytesOf s n.rest.now

abbrev pub NextIs : List ℕ → Option Next → Type 0
NextIs s None = kept s ≡ []
NextIs s (Some n) = Begins s n

-- a value is written at a place, as far as there is room, and its length counted on; a refusal says nothing of what is written
abbrev pub Reads : ℕ → List ℕ → unquoting.Unescaped → List ℕ → Result ℕ Reason → Type 0
Reads at entry (value v) exit (Ok len) = (len ≡ at + length (encode v)) × (exit ≡ sets entry at (encode v))
Reads at entry (value v) exit (Err r) = ⊥
Reads at entry (fault n) exit (Ok len) = ⊥
Reads at entry (fault n) exit (Err r) = number_of r ≡ n

-- a byte that is no backslash and no carriage return
abbrev pub is_bare : ℕ → Bool
is_bare b = not (b == 92 || b == 13)

-- so many bytes stand for themselves: what the rest then gives, all of it gives
pub record RunIs (s : List ℕ) (m : Mode) (n : ℕ) : Type 0 where
  pub within : n ≤ length s
  pub formed : Formed (drop n s)
  pub reads : (at : ℕ) (out exit : List ℕ) (r : Result ℕ Reason) → Reads (at + n) (sets out at (take n s)) (reads_by m (kept (drop n s))) exit r → Reads at out (reads_by m (kept s)) exit r
