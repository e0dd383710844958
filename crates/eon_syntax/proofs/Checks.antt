-- The layout call behind its checks: 16 first, then what the check of the text and its table says.
use Rattle.std.proofs.Common.{◌≡◌, ℕ, true, false, List, Err, Result, sym, ap, ◌∙◌}
use Rattle.eon_spec.specs.Refused.{Refusal, refusal_of}
use Rattle.eon_spec.specs.declared.refusal.Refusal as refusal
use Rattle.eon_spec.specs.declared.FormatOptions.{FormatOptions}
use Rattle.eon_spec.specs.Calls.{refused_with, then, after, nowhere, fill, outcome_of, read_finished, good_settings, checked_settings, format_call}
use Rattle.eon_parse.specs.Call.{count_of}
use Rattle.eon_parse.proofs.Calls.{lost}

module _ (s table : List ℕ) (a : Result ℕ refusal.Refusal) (e : outcome_of a ≡ then (read_finished s table) count_of) where
  text_lost : (r : refusal.Refusal) → a ≡ Err r → read_finished s table ≡ refused_with (refusal_of r)
  text_lost r f = lost (read_finished s table) (refusal_of r) (ap outcome_of (sym f) ∙ e)

  pub text_refused : (o : FormatOptions) (out : List ℕ) (r : refusal.Refusal) → a ≡ Err r → good_settings o ≡ true → after (refused_with (refusal_of r)) out ≡ format_call s table o out
  unfolding format_call checked_settings fill
  text_refused o out r f g = rw (g, checked_settings, text_lost r f)

pub settings_refused : (s table : List ℕ) (o : FormatOptions) (out : List ℕ) (r : Refusal) → r ≡ nowhere 16 → good_settings o ≡ false → after (refused_with r) out ≡ format_call s table o out
unfolding format_call checked_settings fill
settings_refused s table o out r e g = rw (g, checked_settings, e)
