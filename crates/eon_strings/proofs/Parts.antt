-- A part of the quoted text has nothing to unescape: its bytes are its characters.
use Rattle.std.proofs.Common.{◌≡◌, ℕ, ◌<◌, true, false, not, ◌||◌, List, length, sym, ap, ◌∙◌, arith}
use borrow.Author.Tests.{not-true}
use Rattle.eon_spec.specs.Base.{elem, codes}
use Rattle.eon_spec.specs.Utf8.{decode}
use Rattle.eon_spec.specs.Unquote.{value, unescape, plain, without, starts_with}
use Rattle.eon_spec.specs.Calls.{after, done, part_of, is_part, opening}
use Rattle.eon_spec.specs.declared.Which.TheVariants.{Quoted}
use Rattle.eon_laws.proofs.Facts.{and_left, and_right}
use Rattle.eon_laws.proofs.Shown.{without_none}
use Rattle.eon_unescape.specs.Modes.{reads_by}
use Rattle.eon_unescape.specs.declared.mode.Mode.{Mode}
use Rattle.eon_unescape.specs.declared.mode.Mode.TheVariants.{Literal, Plain, Backslash, Blanks, Unicode, Digits}
use Rattle.eon_unescape.specs.Views.{kept, Formed, BytesOf}
use Rattle.eon_unescape.proofs.Runs.{elem_decode, plain_text, encoded}
use Rattle.eon_strings.specs.Views.{ModeIs, placed_call}
use Rattle.eon_strings.proofs.Whole.{part_is}

module _ (s t : List ℕ) (f : Formed t) (b : BytesOf s t) where
  -- an ASCII byte that the text lacks is no character of the part
  lacks : (x : ℕ) → x < 128 → elem x s ≡ false → elem x (decode t) ≡ false
  lacks x k e = sym (elem_decode x t k f) ∙ b x e

  part_value : (m : Mode) → ModeIs s m → is_part s ≡ true → reads_by m (kept t) ≡ value (decode t)
  unfolding kept
  part_value m g p = go m g
    where
      kept_all : without 13 (decode t) ≡ decode t
      kept_all = without_none 13 (decode t) (lacks 13 (omega arith) (not-true (elem 13 s) (and_left (not (elem 13 s)) (starts_with (codes "'") s || not (elem 92 s)) p)))

      no_backslash : starts_with (codes "'") s ≡ false → elem 92 s ≡ false
      no_backslash f = not-true (elem 92 s) (rw f at (and_right (not (elem 13 s)) (starts_with (codes "'") s || not (elem 92 s)) p))

      go : (m : Mode) → ModeIs s m → reads_by m (kept t) ≡ value (decode t)
      go Literal g = ap value kept_all
      go Plain g = ap (unescape plain) kept_all ∙ plain_text (decode t) (lacks 92 (omega arith) (no_backslash g))
      go Backslash g = absurd g
      go Blanks g = absurd g
      go Unicode g = absurd g
      go (Digits d) g = absurd g

  pub part_placed : (old : List ℕ) (m : Mode) (start : ℕ) → ModeIs s m → is_part s ≡ true → start ≡ opening s → after (done (part_of Quoted start (length t))) old ≡ placed_call s old (reads_by m (kept t))
  part_placed old m start g p o = part_is s old (decode t) start (length t) p o (ap length (encoded t f)) ∙ ap (placed_call s old) (sym (part_value m g p))
