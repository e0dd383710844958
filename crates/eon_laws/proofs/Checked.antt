-- A text before it is read: "1 overlong", then "2 garbled", then what the text itself gives; one law for each call that begins so.
use Rattle.std.proofs.Common.{◌≡◌, ℕ, ◌<◌, ◌≤◌, Bool, true, false, ltb, List, length, refl, sym, ap, ◌∙◌, le-ltb, lt-ltb, eq-eqb, ne_eqb}
use Rattle.eon_spec.specs.Utf8.{is_utf8, well_formed_len}
use Rattle.eon_spec.specs.Parse.{refusal}
use Rattle.eon_spec.specs.Calls.{Outcome, done, refused_with, place, checked, then}

module _ {A : Type 0} (s : List ℕ) (f : List ℕ → Outcome A) where
  pub checked_long : 65535 < length s → checked s f ≡ refused_with (refusal 1 (place 65535))
  unfolding checked
  checked_long h = rw (lt-ltb 65535 (length s) h, checked)

  pub checked_bad : length s ≤ 65535 → (n : ℕ) → n ≡ well_formed_len s → (n ≡ length s → ⊥) → checked s f ≡ refused_with (refusal 2 (place n))
  unfolding checked is_utf8
  checked_bad h n e k = rw (le-ltb 65535 (length s) h, checked, ne_eqb (well_formed_len s) (length s) (λ z. k (e ∙ z))) (ap (λ (m : ℕ). refused_with (refusal 2 (place m))) (sym e))

  pub checked_good : length s ≤ 65535 → is_utf8 s ≡ true → checked s f ≡ f s
  unfolding checked
  checked_good h u = rw (le-ltb 65535 (length s) h, checked, u)

  -- the text itself, and then what it gives
  pub checked_then : checked s f ≡ then (checked s done) f
  unfolding checked
  checked_then = go (ltb 65535 (length s)) (is_utf8 s)
    where
      go : (b u : Bool) → elim b [ true ↦ refused_with (refusal 1 (place 65535)) | false ↦ elim u [ true ↦ f s | false ↦ refused_with (refusal 2 (place (well_formed_len s))) ] ]
          ≡ then (elim b [ true ↦ refused_with (refusal 1 (place 65535)) | false ↦ elim u [ true ↦ done s | false ↦ refused_with (refusal 2 (place (well_formed_len s))) ] ]) f
      go true u = refl
      go false true = refl
      go false false = refl

-- a text that is well-formed to its end
pub good_text : (s : List ℕ) (n : ℕ) → n ≡ well_formed_len s → n ≡ length s → is_utf8 s ≡ true
unfolding is_utf8
good_text s n e f = eq-eqb (well_formed_len s) (length s) (sym e ∙ f)
