-- Which numbers refuse a lookup: those of the event and its table, then those of the path text and its table, then 28. A refusal hands back
-- 128 times 'none'.
use Rattle.std.proofs.Common.{Option, None, Some, Result, Ok, Err, ◌≡◌, refl, sym, ap, ap₂, ◌∙◌, ◌⊎◌, inl, inr, List, [], ◌∷◌, ℕ, zero, suc, replicate}
use Rattle.eon_spec.specs.Refused.{Refusal, refusal_of}
use Rattle.eon_spec.specs.declared.refusal.Refusal as refusal
use Rattle.eon_spec.specs.declared.Found.{Found}
use Rattle.eon_spec.specs.Tree.{TokenTree}
use Rattle.eon_spec.specs.Calls.{Outcome, done, refused_with, nowhere, then, or_refused, outcome_of, read_finished}
use Rattle.eon_spec.specs.Lookup.{paths_max, none_word, Path, Looked, path_list, looked, lookup_call, SomeOfEach, IsLookup}
use Rattle.eon_laws.proofs.Kept.{answers_not}
use Rattle.eon_laws.proofs.Numbers.{OfTable, call_numbered}

module _ (s sTable q qTable : List ℕ) (r : Refusal) where
  -- 1 to 13 and 15, of either text, and 28
  pub lookup_numbers : lookup_call s sTable q qTable ≡ refused_with r → OfTable r ⊎ (r ≡ nowhere 28)
  unfolding lookup_call
  lookup_numbers e = event (call_numbered r s sTable (λ t. then (read_finished q qTable) (behind t)) e)
    where
      behind : TokenTree → TokenTree → Outcome Looked
      behind t u = then (or_refused 28 (path_list u)) λ ps. done (looked t ps)

      by_form : (t : TokenTree) (o : Option (List Path)) → then (or_refused 28 o) (λ ps. done (looked t ps)) ≡ refused_with r → r ≡ nowhere 28
      by_form t None f = let z : nowhere 28 ≡ r = cc in sym z
      by_form t (Some ps) f = answers_not (looked t ps) r f

      paths : (t : TokenTree) → OfTable r ⊎ ((u : TokenTree) × (read_finished q qTable ≡ done u) × (behind t u ≡ refused_with r)) → OfTable r ⊎ (r ≡ nowhere 28)
      paths t (inl n) = inl n
      paths t (inr f) = inr (by_form t (path_list f.0) f.2)

      event : OfTable r ⊎ ((t : TokenTree) × (read_finished s sTable ≡ done t) × (then (read_finished q qTable) (behind t) ≡ refused_with r)) → OfTable r ⊎ (r ≡ nowhere 28)
      event (inl n) = inl n
      event (inr f) = paths f.0 (call_numbered r q qTable (behind f.0) f.2)

-- all 'none'
none_each : (k : ℕ) (ws : List ℕ) → SomeOfEach (replicate k []) ws → ws ≡ replicate k none_word
none_each zero [] h = refl
none_each zero (w ∷ ws) h = absurd h
none_each (suc k) [] h = absurd h
none_each (suc k) (w ∷ ws) h = ap₂ ◌∷◌ h.0 (none_each k ws h.1)

-- the program's refusal says the paper's
pub record LeavesNone (r : Refusal) (f : Found) : Type 0 where
  pub refusal : refusal.Refusal
  pub says : refusal_of refusal ≡ r
  pub is : f ≡ record { answer = Err refusal; answers = replicate paths_max none_word }

pub refusal_leaves : (r : Refusal) (f : Found) → IsLookup (refused_with r) f → LeavesNone r f
refusal_leaves r f h = go f.answer refl
  where
    go : (a : Result ℕ refusal.Refusal) → f.answer ≡ a → LeavesNone r f
    go (Ok n) e = answers_not n r (sym (ap outcome_of e) ∙ h.counts)
    go (Err q) e =
        let z : refused_with (refusal_of q) ≡ refused_with r = sym (ap outcome_of e) ∙ h.counts in
        let w : refusal_of q ≡ r = cc in
        record {
          refusal = q;
          says = w;
          is = ap₂ (λ (a : Result ℕ refusal.Refusal) (ws : List ℕ). record { answer = a; answers = ws }) e (none_each paths_max f.answers h.finds);
        }
