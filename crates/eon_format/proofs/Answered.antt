-- The answer of a layout: what was measured decides it.
use Rattle.std.proofs.Common.{◌≡◌, ℕ, ◌-◌, ◌≤◌, Bool, true, false, cond, leb, List, ◌++◌, length, drop, Some, None, refl, ap, ◌∙◌, zero-add, arith}
use Rattle.std.proofs.lemmas.List.Edits.{sets, sets-eq}
use Rattle.eon_laws.proofs.Facts.{le_of}
use Rattle.eon_put.specs.Put.{left_after}
use Rattle.eon_spec.specs.Tree.{TokenTree}
use Rattle.eon_spec.specs.declared.FormatOptions.{FormatOptions}
use Rattle.eon_spec.specs.Layout.{settings_of, format}
use Rattle.eon_spec.specs.Calls.{done, refused_with, nowhere, after, fill, read_finished, good_settings, checked_settings, format_call}

module _ (l b : List ℕ) where
  -- all of b fits, and so much room is left
  pub fits : (left : ℕ) → left_after (Some (length l)) (length b) ≡ Some left → (length b ≤ length l) × (length l - left ≡ length b)
  fits left = go (leb (length b) (length l)) refl
    where
      go : (t : Bool) → leb (length b) (length l) ≡ t → cond t (Some (length l - length b)) None ≡ Some left → (length b ≤ length l) × (length l - left ≡ length b)
      go true e f = let h : length b ≤ length l = le_of (length b) (length l) e in
          let k : length l - length b ≡ left = cc in
          (h, omega arith)
      go false e f = cc

  pub filled : (left : ℕ) → left_after (Some (length l)) (length b) ≡ Some left → (l' : List ℕ) → l' ≡ sets l 0 b → after (done (length l - left)) l' ≡ fill {A = ℕ} l (done (length b, b))
  unfolding fill
  filled left = go (leb (length b) (length l)) refl
    where
      go : (t : Bool) → leb (length b) (length l) ≡ t → cond t (Some (length l - length b)) None ≡ Some left → (l' : List ℕ) → l' ≡ sets l 0 b → after (done (length l - left)) l' ≡ fill {A = ℕ} l (done (length b, b))
      go true e f l' q = let h : length b ≤ length l = le_of (length b) (length l) e in
          let k : length l - length b ≡ left = cc in
          let n : length l - left ≡ length b = omega arith in
          let z : sets l 0 b ≡ b ++ drop (length b) l = sets-eq b l 0 (omega arith) ∙ ap (λ (k : ℕ). b ++ drop k l) (zero-add (length b)) in
          ap (λ (k : ℕ). after (done k) l') n ∙ ap (after (done (length b))) (q ∙ z) ∙ rw (e, fill)
      go false e f l' q = cc

  pub full : left_after (Some (length l)) (length b) ≡ None → after (refused_with (nowhere 14)) l ≡ fill {A = ℕ} l (done (length b, b))
  unfolding fill
  full = go (leb (length b) (length l)) refl
    where
      go : (t : Bool) → leb (length b) (length l) ≡ t → cond t (Some (length l - length b)) None ≡ None → after (refused_with (nowhere 14)) l ≡ fill {A = ℕ} l (done (length b, b))
      go true e f = cc
      go false e f = rw (e, fill)

-- what the layout call's definition asks of a walk over a finished table
pub formatted : (s tb : List ℕ) (o : FormatOptions) (out : List ℕ) (t : TokenTree) → good_settings o ≡ true → read_finished s tb ≡ done t →
    fill out (done (length (format (settings_of o) t), format (settings_of o) t)) ≡ format_call s tb o out
unfolding format_call checked_settings
formatted s tb o out t g e = rw (g, checked_settings, e)
