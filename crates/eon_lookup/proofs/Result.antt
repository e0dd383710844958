-- What the walk's answers are as the call hands them back, and the order of the refusals.
use Rattle.std.proofs.Common.{Option, None, Some, Result, Ok, Err, ◌≡◌, refl, sym, ap, ap₂, ◌∙◌, subst, Bool, true, false, cond, List, [], ◌∷◌, ◌++◌, ℕ, zero, suc, ◌+◌, ◌-◌, ◌≤◌, ◌<◌, arith, length, get_or, replicate, length-append, get_or-append-add, eqb}
use Rattle.std.proofs.lemmas.List.{length-map, length-replicate}
use Rattle.std.proofs.Math.ListN.{get_or-append}
use Rattle.std.proofs.Math.Decide.{dec_lt}
use Rattle.eon_spec.specs.Base.{elem}
use Rattle.eon_spec.specs.Tree.{TokenTree}
use Rattle.eon_spec.specs.Refused.{Refusal, refusal_of}
use Rattle.eon_spec.specs.declared.refusal.Refusal as refusal
use Rattle.eon_spec.specs.Calls.{Outcome, done, refused_with, then, or_refused, nowhere, read_finished, outcome_of}
use Rattle.eon_spec.specs.Lookup.{paths_max, none_word, Path, Looked, path_list, reached, reached_by_each, looked, lookup_call, steps_of, entries_of, SomeOf, SomeOfEach, IsLookup}
use Rattle.eon_laws.proofs.Facts.{clash, eqb_same, eq_of}
use Rattle.eon_table.proofs.Finished.{finished_refused}
use Rattle.eon_parse.specs.Call.{count_of}
use Rattle.eon_lookup.specs.declared.paths.Keys.{Keys}
use Rattle.eon_lookup.specs.Keys.{below, rest_at, rests}
use Rattle.std.specs.Option.{option_or}
use Rattle.eon_lookup.specs.Live.{first_some, answer_of, among, Looks}
use Rattle.eon_lookup.proofs.Lists.{below_length, in_below, all_below}

-- ---- a word that is the first of the values reached is some of them

word_some : (ns : List ℕ) (w : ℕ) → answer_of w ≡ first_some ns → SomeOf ns w
word_some ns w e = go ns (eqb w none_word) refl e
  where
    go : (ns : List ℕ) (b : Bool) → eqb w none_word ≡ b → cond b None (Some w) ≡ first_some ns → SomeOf ns w
    go [] true p e = eq_of w none_word p
    go [] false p e = cc
    go (n ∷ ns) true p e = cc
    go (n ∷ ns) false p e = let z : w ≡ n = cc in rw z (rw (eqb_same n))

each_some : (es : List (List ℕ)) (ws : List ℕ) → length es ≡ length ws → ((p : ℕ) → p < length es → SomeOf (get_or es p []) (get_or ws p 0)) → SomeOfEach es ws
each_some [] [] l h = tt
each_some [] (w ∷ ws) l h = absurd (omega arith)
each_some (e ∷ es) [] l h = absurd (omega arith)
each_some (e ∷ es) (w ∷ ws) l h = (h 0 (omega arith), each_some es ws (omega arith) (λ p q. h (suc p) (omega arith)))

-- ---- the table of 128

each_length : (t : TokenTree) (ps : List Path) → length (reached_by_each t ps) ≡ length ps
each_length t [] = refl
each_length t (p ∷ ps) = ap suc (each_length t ps)

pub entries_length : (t : TokenTree) (ps : List Path) → length ps ≤ paths_max → length (looked t ps).reached ≡ paths_max
unfolding looked
entries_length t ps h =
    let k : ℕ = paths_max - length ps in
    let a : length (reached_by_each t ps ++ replicate k []) ≡ length (reached_by_each t ps) + length (replicate {A = List ℕ} k []) = length-append (reached_by_each t ps) (replicate k []) in
    let b : length (replicate {A = List ℕ} k []) ≡ k = length-replicate {A = List ℕ} k [] in
    omega (arith, each_length t ps)

nothing_at : (n p : ℕ) → get_or (replicate {A = List ℕ} n []) p [] ≡ []
nothing_at zero p = refl
nothing_at (suc n) zero = refl
nothing_at (suc n) (suc p) = nothing_at n p

none_at : (n p : ℕ) → p < n → answer_of (get_or (replicate {A = ℕ} n none_word) p 0) ≡ None
none_at zero p h = absurd (omega arith)
none_at (suc n) zero h = refl
none_at (suc n) (suc p) h = none_at n p (omega arith)

module _ (q : List ℕ) (paths : List Keys) (t : TokenTree) where
  each_at : (l : List ℕ) (p : ℕ) → p < length l → get_or (reached_by_each t (rests q paths 0 l)) p [] ≡ reached 0 t (rest_at q paths 0 (get_or l p 0))
  each_at [] p h = absurd (omega arith)
  each_at (x ∷ l) zero h = refl
  each_at (x ∷ l) (suc p) h = each_at l p (omega arith)

below_at : (n p : ℕ) → p < n → get_or (below n) p 0 ≡ p
below_at zero p h = absurd (omega arith)
below_at (suc n) p h = go (dec_lt p n) (below_at n p)
  where
    go : Dec (p < n) → (p < n → get_or (below n) p 0 ≡ p) → get_or (below n ++ (n ∷ [])) p 0 ≡ p
    go (yes d) f = get_or-append (below n) (n ∷ []) 0 p (omega (arith, below_length n)) ∙ f d
    go (no d) f =
        let e : p ≡ length (below n) + 0 = omega (arith, below_length n) in
        ap (λ (m : ℕ). get_or (below n ++ (n ∷ [])) m 0) e ∙ get_or-append-add (below n) (n ∷ []) 0 0 ∙ omega arith

module _ (q : List ℕ) (paths : List Keys) (t : TokenTree) (n : ℕ) (few : n ≤ paths_max) where
  abbrev ps : List Path
  ps = rests q paths 0 (below n)

  pub ps_length : length ps ≡ n
  ps_length = length-map (below n) (rest_at q paths 0) ∙ below_length n

  abbrev all : List (List ℕ)
  all = reached_by_each t ps ++ replicate (paths_max - length ps) []

  each_many : length (reached_by_each t ps) ≡ n
  each_many = each_length t ps ∙ ps_length

  abbrev first : ℕ → Option ℕ
  first p = first_some (reached 0 t (rest_at q paths 0 p))

  -- an entry's first value is what the walk gives its path
  all_at : (p : ℕ) → first_some (get_or all p []) ≡ among (below n) first p
  all_at p = go (elem p (below n)) refl
    where
      go : (b : Bool) → elem p (below n) ≡ b → first_some (get_or all p []) ≡ cond b (first p) None
      go true e =
          let h : p < n = in_below n p e in
          ap first_some
          (get_or-append (reached_by_each t ps) (replicate (paths_max - length ps) []) [] p (omega (arith, each_many))
          ∙ each_at q paths t (below n) p (omega (arith, below_length n)))
          ∙ ap first (below_at n p h)
      go false e =
          let m = p - length (reached_by_each t ps) in
          let h : n ≤ p = behind (dec_lt p n) in
          let x : p ≡ length (reached_by_each t ps) + m = omega (arith, each_many) in
          ap first_some
          (ap (λ (x : ℕ). get_or all x []) x ∙ get_or-append-add (reached_by_each t ps) (replicate (paths_max - length ps) []) m [] ∙ nothing_at (paths_max - length ps) m)
        where
          behind : Dec (p < n) → n ≤ p
          behind (yes d) = clash (all_below n p d) e
          behind (no d) = omega arith

  -- the walk's answers are some of the values reached
  pub found_is : (answers : List ℕ) (r : ℕ) → Looks q paths 0 (below n) t (replicate paths_max none_word) answers r → IsLookup (done (looked t ps)) (record { answer = Ok r; answers = answers })
  unfolding looked
  found_is answers r h = record { counts = ap done h.steps; finds = each_some all answers (many ∙ sym h.size) each }
    where
      many : length all ≡ paths_max
      many = unfold looked in entries_length t ps (omega (arith, ps_length, few))

      each : (p : ℕ) → p < length all → SomeOf (get_or all p []) (get_or answers p 0)
      each p l =
          let z : p < paths_max = omega (arith, many) in
          word_some (get_or all p []) (get_or answers p 0)
          (h.gains.has p ∙ ap (λ (o : Option ℕ). option_or o (among (below n) first p)) (none_at paths_max p z) ∙ sym (all_at p))

-- ---- a refusal

none_each : (k : ℕ) → SomeOfEach (replicate k []) (replicate k none_word)
none_each zero = tt
none_each (suc k) = (refl, none_each k)

pub refusal_is : {o : Outcome Looked} {a : Result ℕ refusal.Refusal} {ws : List ℕ} (r : refusal.Refusal) → o ≡ refused_with (refusal_of r) → a ≡ Err r → ws ≡ replicate paths_max none_word → IsLookup o (record { answer = a; answers = ws })
refusal_is {o} {a} {ws} r e f g =
    record {
      counts = ap outcome_of f ∙ ap steps_of (sym e);
      finds = subst (λ (x : Outcome Looked). SomeOfEach (entries_of x) ws) (sym e) (subst (SomeOfEach (replicate paths_max [])) (sym g) (none_each paths_max));
    }

-- ---- the call

abbrev outcome : Outcome TokenTree → Outcome TokenTree → Outcome Looked
outcome x y = then x λ t. then y λ u. then (or_refused 28 (path_list u)) λ ps. done (looked t ps)

module _ (s st q tq : List ℕ) where
  pub event_refused : (r : Refusal) → refused_with r ≡ then (read_finished s st) count_of → lookup_call s st q tq ≡ refused_with r
  unfolding lookup_call
  event_refused r e = ap (λ (x : Outcome TokenTree). outcome x (read_finished q tq)) (finished_refused s st r e)

  module _ (t : TokenTree) (h : read_finished s st ≡ done t) where
    pub paths_refused : (r : Refusal) → refused_with r ≡ then (read_finished q tq) count_of → lookup_call s st q tq ≡ refused_with r
    unfolding lookup_call
    paths_refused r e = ap₂ outcome h (finished_refused q tq r e)

    module _ (u : TokenTree) (k : read_finished q tq ≡ done u) where
      behind_both : (o : Option (List Path)) → path_list u ≡ o → lookup_call s st q tq ≡ then (or_refused 28 o) (λ ps. done (looked t ps))
      unfolding lookup_call
      behind_both o e = ap₂ outcome h k ∙ ap (λ (o : Option (List Path)). then (or_refused 28 o) (λ ps. done (looked t ps))) e

      pub form_refused : path_list u ≡ None → lookup_call s st q tq ≡ refused_with (nowhere 28)
      form_refused e = behind_both None e

      pub looked_up : (ps : List Path) → path_list u ≡ Some ps → lookup_call s st q tq ≡ done (looked t ps)
      looked_up ps e = behind_both (Some ps) e
