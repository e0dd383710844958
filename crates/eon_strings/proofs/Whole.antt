-- The outcome of the whole call, case by case.
use Rattle.std.proofs.Common.{◌≡◌, ℕ, ◌<◌, ◌≤◌, true, false, List, [], length, IsErrAnd, Ok, Err, Result, sym, refl, ap, ◌∙◌, zero-add, arith, le-leb}
use Rattle.std.proofs.lemmas.Bool.{lt-leb}
use lib.Seq.{sets-eq}
use Rattle.eon_spec.specs.Utf8.{encode, is_utf8, well_formed_len}
use Rattle.eon_spec.specs.Unquote.{value, fault, unquote, unquote_chars}
use Rattle.eon_spec.specs.Unquote as unquoting
use Rattle.eon_spec.specs.declared.refusal.Refusal as refusals
use Rattle.eon_spec.specs.Refused.{number_of, refusal_of}
use Rattle.eon_spec.specs.declared.refusal.Reason.{Reason}
use Rattle.eon_spec.specs.declared.Part.{Part}
use Rattle.eon_spec.specs.Calls.{Outcome, done, refused_with, after, part_of, nowhere, checked, then, fill, written, is_part, opening, handed_back, unescaped_outcome, unquote_call}
use Rattle.eon_spec.specs.declared.Which.TheVariants.{Quoted, Scratch}
use Rattle.eon_laws.proofs.Facts.{eq_of}
use Rattle.eon_laws.proofs.Checked.{checked_good, checked_then}
use Rattle.eon_unescape.specs.Views.{kept, Formed, Reads}
use Rattle.eon_unescape.specs.Modes.{reads_by}
use Rattle.eon_unescape.specs.declared.mode.Mode.{Mode}
use Rattle.eon_strings.proofs.Late.{Late, late_by, late_quoted, late_refusal}
use Rattle.eon_strings.specs.Views.{outcome_at_start, handed, placed_call, scratch_call}

module _ (old : List ℕ) where
  fits : (p : Part) (new : List ℕ) → length new ≤ length old → fill old (done (p, new)) ≡ after (done p) (written new old)
  unfolding fill
  fits p new h = rw (le-leb (length new) (length old) h, fill)

  fits_not : (p : Part) (new : List ℕ) → length old < length new → fill old (done (p, new)) ≡ after (refused_with (nowhere 14)) old
  unfolding fill
  fits_not p new h = rw (lt-leb (length new) (length old) h, fill)

  -- the three answers to a text that was measured
  pub measured_fault : (m : Mode) (t l exit : List ℕ) (x : Reason) → Reads 0 l (reads_by m t) exit (Err x) → after (refused_with (refusal_of (record { reason = x; start = 0; end = 0 }))) old ≡ scratch_call old (reads_by m t)
  unfolding fill
  measured_fault m t l exit x h = go (reads_by m t) (late_by m t) h
    where
      go : (w : unquoting.Unescaped) → Late w → Reads 0 l w exit (Err x) → after (refused_with (refusal_of (record { reason = x; start = 0; end = 0 }))) old ≡ scratch_call old w
      go (value v) k h = absurd h
      go (fault n) k h = rw (late_refusal x (omega arith), h)

  pub measured_room : (w : unquoting.Unescaped) (l exit : List ℕ) (len : ℕ) → Reads 0 l w exit (Ok len) → length old < len → after (refused_with (nowhere 14)) old ≡ scratch_call old w
  measured_room (value v) l exit len h k = sym (fits_not (part_of Scratch 0 (length (encode v))) (encode v) (omega (arith, h.0)))
  measured_room (fault m) l exit len h k = absurd h

  pub is_written : (w : unquoting.Unescaped) (l exit : List ℕ) (len : ℕ) (new : List ℕ) (len2 : ℕ) → Reads 0 l w exit (Ok len) → Reads 0 old w new (Ok len2) → len ≤ length old → after (done (part_of Scratch 0 len2)) new ≡ scratch_call old w
  is_written (value v) l exit len new len2 h g k =
      let z : length (encode v) ≡ len2 = omega (arith, g.0) in
      let y : new ≡ written (encode v) old = g.1 ∙ sets-eq (encode v) old 0 (omega (arith, h.0)) ∙ rw (zero-add (length (encode v))) in
      sym (fits (part_of Scratch 0 (length (encode v))) (encode v) (omega (arith, h.0)) ∙ rw (y, z))
  is_written (fault m) l exit len new len2 h g k = absurd h

pub formed_text : (s : List ℕ) → is_utf8 s ≡ true → Formed s
unfolding is_utf8
formed_text s u = eq_of (well_formed_len s) (length s) u

module _ (q old : List ℕ) where
  -- a quoted text that can not be read
  pub call_refused : (r : refusals.Refusal) → checked q done ≡ refused_with (refusal_of r) → after (refused_with (refusal_of r)) old ≡ unquote_call q old
  unfolding unquote_call fill
  call_refused r e = sym (ap (handed q old) (checked_then q (λ t. unescaped_outcome (unquote t)) ∙ ap (λ (o : Outcome (List ℕ)). then o (λ t. unescaped_outcome (unquote t))) e))

  pub call_good : length q ≤ 65535 → is_utf8 q ≡ true → unquote_call q old ≡ placed_call q old (unquote_chars (kept q))
  unfolding unquote_call unquote kept
  call_good h u = ap (handed q old) (checked_good q (λ t. unescaped_outcome (unquote t)) h u)

  -- a part of the quoted text, or the scratch
  pub part_is : (v : List ℕ) (start len : ℕ) → is_part q ≡ true → start ≡ opening q → length (encode v) ≡ len → after (done (part_of Quoted start len)) old ≡ placed_call q old (value v)
  part_is v start len e o z = sym (ap (λ (x : Part × List ℕ). fill old (done x)) back ∙ fits old (part_of Quoted start len) [] (omega arith))
    where
      back : handed_back q (encode v) ≡ (part_of Quoted start len, [])
      back = rw (e, handed_back) (rw (o, z))

  pub scratch_is : (w : unquoting.Unescaped) → is_part q ≡ false → placed_call q old w ≡ scratch_call old w
  scratch_is (value v) e = ap (λ (x : Part × List ℕ). fill old (done x)) (rw (e, handed_back))
  scratch_is (fault n) e = refl

  pub err_placed : (r : Result Part Reason) (x : Reason) → IsErrAnd r (λ y. y ≡ x) → unquote_chars (kept q) ≡ fault (number_of x) → after (outcome_at_start r) old ≡ placed_call q old (unquote_chars (kept q))
  unfolding fill
  err_placed (Ok p) x h e = absurd h
  err_placed (Err y) x h e =
      let k : Late (fault (number_of x)) = rw e at (late_quoted (kept q)) in
      rw (h, e, late_refusal x k)
