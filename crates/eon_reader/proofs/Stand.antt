use Rattle.std.proofs.Common.{◌≡◌, ℕ, ◌+◌, ◌<◌, ◌≤◌, Bool, true, false, List, [], ◌∷◌, length, is_some, Some, None, Option, sym, refl, ap, ◌∙◌, subst, ap₂, zero-add, arith, drop_of_length-le, eq-eqb, ne_eqb}
-- A reader's places: it may stand where it starts and behind each token; and counting the tokens. Assumes nothing.
use Rattle.eon_spec.specs.Utf8.{is_utf8, Boundary, chars, chars_from}
use Rattle.eon_spec.specs.declared.token_kind.TokenKind.{TokenKind}
use Rattle.eon_spec.specs.declared.token_kind.TokenKind.TheVariants.{Invalid}
use Rattle.eon_spec.specs.Token.{Token, kind_number, tokens, tokens_from, token_from}
use Rattle.eon_spec.specs.Parse.{refusal, span_of}
use Rattle.eon_spec.specs.Calls.{Outcome, done, refused_with, checked, then}
use Rattle.eon_spec.specs.Refused.{refusal_of}
use Rattle.eon_spec.specs.declared.refusal.Refusal.{Refusal}
use Rattle.eon_laws.proofs.Checked.{checked_good, checked_then}
use Rattle.eon_token.specs.Placed.{placed_at, tokens_at, token_of, kind_in}
use Rattle.eon_token.specs.declared.token_kind.PlacedToken.{PlacedToken}
use Rattle.eon_token.proofs.Text.{boundary_start}
use Rattle.eon_token.proofs.KindCodes.{kind_same}
use Rattle.eon_token.proofs.Laws.{end_boundary, tokens_start, tokens_none, tokens_some}
use Rattle.eon_reader.specs.Read.{Stands, ended, begins, start_of, end_token, first_token, first_invalid, stray_or, counted, count_call}

module _ (s : List ℕ) where
  -- at the end there is no token, whatever the bytes are
  pub none_left : (at : ℕ) → length s ≤ at → placed_at s at ≡ end_token s
  unfolding placed_at token_from chars chars_from tokens_from
  none_left at h = rw (drop_of_length-le s h)

  -- where it starts
  pub start_formed : is_utf8 s ≡ true → 0 ≡ start_of s
  unfolding start_of
  start_formed u = rw u

  pub start_other : is_utf8 s ≡ false → length s ≡ start_of s
  unfolding start_of
  start_other u = rw u

  pub start_stands : Stands s (start_of s)
  start_stands = go (is_utf8 s) refl
    where
      go : (b : Bool) → is_utf8 s ≡ b → Stands s (start_of s)
      go true u = begins u (subst (Boundary s) (start_formed u) (boundary_start s))
      go false u = ended (sym (start_other u))

  pub first_is : placed_at s (start_of s) ≡ first_token s
  unfolding first_token
  first_is = go (is_utf8 s) refl
    where
      go : (b : Bool) → is_utf8 s ≡ b → placed_at s (start_of s) ≡ first_token s
      go true u = ap (placed_at s) (sym (start_formed u)) ∙ rw u
      go false u = none_left (start_of s) (omega (arith, start_other u)) ∙ rw u

  module _ (at : ℕ) where
    pub stands_within : Stands s at → at < length s → (is_utf8 s ≡ true) × Boundary s at
    stands_within (ended e) h = absurd (omega (arith, e))
    stands_within (begins u b) h = (u, b)

    -- r is the token there
    module _ (r : PlacedToken) (e : r ≡ placed_at s at) where
      pub behind_stands : Stands s at → Stands s r.end
      behind_stands (ended z) = ended (ap (λ (x : PlacedToken). x.end) (e ∙ none_left at (omega (arith, z))))
      behind_stands (begins u b) = begins u (end_boundary s u at b r e)

-- ---- counting

-- n tokens are counted, and these are left
abbrev pub counted_from : ℕ → List Token → Outcome ℕ
counted_from n ts = stray_or (first_invalid ts) (n + length ts)

from_start : (ts : List Token) → counted_from 0 ts ≡ counted ts
unfolding counted
from_start ts = ap (stray_or (first_invalid ts)) (zero-add (length ts))

from_end : (n : ℕ) → done n ≡ counted_from n []
unfolding first_invalid
from_end n = ap done (omega arith)

module _ (n : ℕ) (t : Token) (ts : List Token) where
  from_stray : t.kind ≡ Invalid → refused_with (refusal 3 (span_of t)) ≡ counted_from n (t ∷ ts)
  unfolding first_invalid
  from_stray k = let f : first_invalid (t ∷ ts) ≡ Some t = rw (eq-eqb (kind_number t.kind) 0 (ap kind_number k), first_invalid) in ap (λ (o : Option Token). stray_or o (n + length (t ∷ ts))) (sym f)

  from_more : (t.kind ≡ Invalid → ⊥) → counted_from (n + 1) ts ≡ counted_from n (t ∷ ts)
  unfolding first_invalid
  from_more k =
      let f : first_invalid (t ∷ ts) ≡ first_invalid ts = rw (ne_eqb (kind_number t.kind) 0 (λ z. k (kind_same t.kind Invalid z)), first_invalid) in
      let l : n + 1 + length ts ≡ n + length (t ∷ ts) = omega arith in
      ap₂ stray_or (sym f) l

module _ (s : List ℕ) where
  -- refused as each text is, or what the text gives
  pub count_refused : (r : Refusal) → checked s done ≡ refused_with (refusal_of r) → refused_with (refusal_of r) ≡ count_call s
  unfolding count_call
  count_refused r e = sym (checked_then s (λ t. counted (tokens t)) ∙ ap (λ (o : Outcome (List ℕ)). then o (λ t. counted (tokens t))) e)

  pub count_good : length s ≤ 65535 → is_utf8 s ≡ true → counted (tokens s) ≡ count_call s
  unfolding count_call
  count_good h u = sym (checked_good s (λ t. counted (tokens t)) h u)

  -- n tokens are counted, and those from a byte on make the whole
  abbrev pub Makes : ℕ → ℕ → Type 0
  Makes at n = counted_from n (tokens_at s at false) ≡ counted (tokens s)

  pub makes_start : Makes 0 0
  makes_start = from_start (tokens_at s 0 false) ∙ ap counted (sym (tokens_start s))

  module _ (u : is_utf8 s ≡ true) (at : ℕ) (b : Boundary s at) (n : ℕ) (w : Makes at n) (r : PlacedToken) (e : r ≡ placed_at s at) where
    pub counts_all : r.kind ≡ None → done n ≡ counted (tokens s)
    counts_all k = from_end n ∙ ap (counted_from n) (sym (tokens_none s u at b r e false k)) ∙ w

    -- a token that is not the end
    module _ (k : TokenKind) (z : r.kind ≡ Some k) where
      kind_is : (token_of s at false r).kind ≡ k
      kind_is = ap kind_in z

      goes : tokens_at s at false ≡ token_of s at false r ∷ tokens_at s r.end false
      goes = tokens_some s u at b r e false (ap (λ (o : Option TokenKind). is_some o) z)

      pub counts_stray : k ≡ Invalid → refused_with (refusal 3 (record { start = r.start; end = r.end })) ≡ counted (tokens s)
      counts_stray i = from_stray n (token_of s at false r) (tokens_at s r.end false) (kind_is ∙ i) ∙ ap (counted_from n) (sym goes) ∙ w

      pub counts_more : (k ≡ Invalid → ⊥) → Makes r.end (n + 1)
      counts_more i = from_more n (token_of s at false r) (tokens_at s r.end false) (λ y. i (sym kind_is ∙ y)) ∙ ap (counted_from n) (sym goes) ∙ w
