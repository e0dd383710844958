-- A run of puts: what is done and what is left make the whole.
use Rattle.std.proofs.Common.{◌≡◌, ℕ, sym, ap, ◌∙◌, subst, List, [], ◌++◌, append_assoc, append-nil}

module _ {A : Type 0} (puts : A → List ℕ → A → Type 0) where
  -- `rest` is left of `total`
  pub record Going (s : A) (total : List ℕ) (t : A) (rest : List ℕ) : Type 0 where
    pub done : List ℕ
    pub put : puts s done t
    pub whole : done ++ rest ≡ total

  -- the same bytes, said otherwise
  pub put_as : {s t : A} {b c : List ℕ} → b ≡ c → puts s b t → puts s c t
  put_as {s} {t} e p = subst (λ (x : List ℕ). puts s x t) e p

  pub going_end : {s t : A} {total rest : List ℕ} → Going s total t rest → rest ≡ [] → puts s total t
  going_end g e = put_as (sym (append-nil g.done) ∙ ap (λ (l : List ℕ). g.done ++ l) (sym e) ∙ g.whole) g.put

  abbrev pub Appends : Type 0
  Appends = (s t u : A) (b c : List ℕ) → puts s b t → puts t c u → puts s (b ++ c) u

  pub going_step : Appends → {s t u : A} {total x left rest : List ℕ} → Going s total t left → left ≡ x ++ rest → puts t x u → Going s total u rest
  going_step append {s} {t} {u} {x = x} {rest = rest} g e p = record {
    done = g.done ++ x;
    put = append s t u g.done x g.put p;
    whole = append_assoc g.done x rest ∙ ap (λ (l : List ℕ). g.done ++ l) (sym e) ∙ g.whole;
  }
