-- Which numbers refuse a text, alone and with its table: 1 and 2 before it is read, 3 to 13 in reading, 15 behind them. What a text gives,
-- by cases: a refusal by one of these, or what is known of an accepted text.
use Rattle.std.proofs.Common.{◌≡◌, ℕ, ◌≤◌, Bool, true, false, ltb, ◌⊎◌, List, length, sym, refl, ap, ◌∙◌, subst, inl, inr, arith}
use Rattle.eon_spec.specs.Refused.{Refusal}
use Rattle.eon_spec.specs.Utf8.{is_utf8}
use Rattle.eon_spec.specs.Token.{tokens}
use Rattle.eon_spec.specs.Tree.{TokenTree}
use Rattle.eon_spec.specs.Parse.{Parsed, parsed, refused_by, parse}
use Rattle.eon_spec.specs.Calls.{Outcome, done, refused_with, then, nowhere, checked, parsed_outcome, read_text, is_finished, read_finished}
use Rattle.eon_laws.proofs.Facts.{either, le_of_not}
use Rattle.eon_laws.proofs.Kept.{answers_not}
use Rattle.eon_laws.proofs.Parse.{Numbered, parse_numbered}

-- "Order: 16, 1, 2, reading (3 to 13), 15, 14": before reading, up to its end, and with a table
abbrev pub BeforeReading : Refusal → Type 0
BeforeReading r = (1 ≤ r.number) × (r.number ≤ 2)

abbrev pub OfText : Refusal → Type 0
OfText r = (1 ≤ r.number) × (r.number ≤ 13)

abbrev pub OfTable : Refusal → Type 0
OfTable r = OfText r ⊎ (r ≡ nowhere 15)

-- ---- by cases

pub checked_cases : {A : Type 0} (s : List ℕ) (f : List ℕ → Outcome A) (P : Outcome A → Type 0) → ((r : Refusal) → BeforeReading r → P (refused_with r)) → (is_utf8 s ≡ true → P (f s)) → P (checked s f)
unfolding checked
checked_cases s f P refuses accepts =
    either (ltb 65535 (length s)) P _ _ (λ e. refuses _ (omega arith, omega arith)) (λ e. either (is_utf8 s) P _ _ accepts (λ e. refuses _ (omega arith, omega arith)))

module _ (s : List ℕ) (P : Outcome TokenTree → Type 0) (accepts : is_utf8 s ≡ true → (t : TokenTree) → parse s ≡ parsed t → P (done t)) where
  pub read_cases : ((r : Refusal) → OfText r → P (refused_with r)) → P (read_text s)
  unfolding read_text parse
  read_cases refuses =
      checked_cases s (λ t. parsed_outcome (parse t)) P (λ r b. refuses r (b.0, omega (arith, b.1))) λ formed.
      go formed (parse s) refl (parse_numbered (length s) (tokens s))
    where
      go : is_utf8 s ≡ true → (p : Parsed) → parse s ≡ p → Numbered p → P (parsed_outcome p)
      go formed (parsed t) e h = accepts formed t e
      go formed (refused_by r) e h = refuses r (omega (arith, h.0), h.1)

  pub finished_cases : (table : List ℕ) → ((r : Refusal) → OfTable r → P (refused_with r)) → P (read_finished s table)
  unfolding read_finished
  finished_cases table refuses = go (read_text s) (read_cases λ r o. refuses r (inl o))
    where
      go : (x : Outcome TokenTree) → P x → P (then x λ t. elim (is_finished table t) [ true ↦ done t | false ↦ refused_with (nowhere 15) ])
      go (done t) h = either (is_finished table t) P _ _ (λ e. h) (λ e. refuses (nowhere 15) (inr refl))
      go (refused_with r) h = h

-- a text that is read is well-formed, and parses
pub read_done : (s : List ℕ) (t : TokenTree) → read_text s ≡ done t → (is_utf8 s ≡ true) × (parse s ≡ parsed t)
read_done s t = read_cases s (λ x. x ≡ done t → (is_utf8 s ≡ true) × (parse s ≡ parsed t)) (λ formed u p e. (formed, p ∙ ap parsed (cc))) λ r o e. cc

-- a text that is read has no more bytes than are allowed
pub short_text : (s : List ℕ) (t : TokenTree) → read_text s ≡ done t → length s ≤ 65535
unfolding read_text checked
short_text s t e = go (ltb 65535 (length s)) refl
  where
    go : (b : Bool) → ltb 65535 (length s) ≡ b → length s ≤ 65535
    go true p = answers_not t _ (sym (rw (p, checked) at e))
    go false p = le_of_not 65535 (length s) p

-- ---- the numbers

module _ (r : Refusal) where
  same_refusal : (q : Refusal) → ◌≡◌ {A = Outcome TokenTree} (refused_with q) (refused_with r) → q ≡ r
  same_refusal q e = cc

  -- reading a text
  pub text_numbered : (s : List ℕ) → read_text s ≡ refused_with r → OfText r
  text_numbered s = read_cases s (λ x. x ≡ refused_with r → OfText r) (λ formed t p e. answers_not t r e) λ q o e. subst OfText (same_refusal q e) o

  -- checking its table
  pub finished_numbered : (s table : List ℕ) → read_finished s table ≡ refused_with r → OfTable r
  finished_numbered s table = finished_cases s (λ x. x ≡ refused_with r → OfTable r) (λ formed t p e. answers_not t r e) table λ q o e. subst OfTable (same_refusal q e) o

  -- a call over a finished table: the table's number, or what the call makes of the tree
  pub call_numbered : {A : Type 0} (s table : List ℕ) (f : TokenTree → Outcome A) → then (read_finished s table) f ≡ refused_with r → OfTable r ⊎ ((t : TokenTree) × (read_finished s table ≡ done t) × (f t ≡ refused_with r))
  call_numbered {A} s table f e = go (read_finished s table) refl e
    where
      go : (x : Outcome TokenTree) → read_finished s table ≡ x → then x f ≡ refused_with r → OfTable r ⊎ ((t : TokenTree) × (read_finished s table ≡ done t) × (f t ≡ refused_with r))
      go (done t) p e = inr (t, p, e)
      go (refused_with q) p e = inl (finished_numbered s table (subst (λ (k : Refusal). read_finished s table ≡ refused_with k) (let z : q ≡ r = cc in z) p))
