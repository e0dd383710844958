-- What a regular expression matches, and that derivatives say the same.
use Rattle.std.proofs.Common.{◌≡◌, ℕ, zero, suc, ◌<◌, ◌≤◌, Bool, true, false, ◌&&◌, ◌⊎◌, ◌↔◌, List, [], ◌∷◌, ◌++◌, length, take, sym, refl, ap, ◌∙◌, subst, inl, inr, ⊎_elim, append_assoc, arith}
use Rattle.std.proofs.lemmas.Bool.{or_cases}
use Rattle.eon_laws.proofs.Facts.{clash, cons_head, cons_tail, and_left, and_right, or_left, or_right}
use Rattle.eon_spec.specs.Utf8.{Character}
use Rattle.eon_spec.specs.Regex.{Regex, never, empty, one_of, none_of, ◌then◌, ◌or◌, many, in_class, nullable, is_never, and_then, or_else, deriv, longest}

abbrev pub joined : List (List Character) → List Character
joined [] = []
joined (p ∷ ps) = p ++ joined ps

abbrev pub Each : (List Character → Type 0) → List (List Character) → Type 0
Each P [] = Unit {0}
Each P (p ∷ ps) = P p × Each P ps

-- r matches the text s
abbrev pub Matches : Regex → List Character → Type 0
Matches never s = ⊥
Matches empty s = s ≡ []
Matches (one_of k) s = (c : Character) × (s ≡ c ∷ []) × (in_class k c ≡ true)
Matches (none_of k) s = (c : Character) × (s ≡ c ∷ []) × (in_class k c ≡ false)
Matches (a then b) s = (u : List Character) × (v : List Character) × (s ≡ u ++ v) × Matches a u × Matches b v
Matches (a or b) s = Matches a s ⊎ Matches b s
Matches (many a) s = (ps : List (List Character)) × (s ≡ joined ps) × Each (Matches a) ps

nullable_sound : (r : Regex) → nullable r ≡ true → Matches r []
nullable_sound never e = cc
nullable_sound empty e = refl
nullable_sound (one_of k) e = cc
nullable_sound (none_of k) e = cc
nullable_sound (a then b) e = ([], [], refl, nullable_sound a (and_left (nullable a) (nullable b) e), nullable_sound b (and_right (nullable a) (nullable b) e))
nullable_sound (a or b) e = ⊎_elim (λ p. inl (nullable_sound a p)) (λ p. inr (nullable_sound b p)) (or_cases (nullable a) (nullable b) e)
nullable_sound (many a) e = ([], refl, tt)

pub nullable_complete : (r : Regex) → Matches r [] → nullable r ≡ true
nullable_complete never m = absurd m
nullable_complete empty m = refl
nullable_complete (one_of k) m = cc
nullable_complete (none_of k) m = cc
nullable_complete (a then b) m = go m.0 m.1 m.2 m.3 m.4 (nullable_complete a) (nullable_complete b)
  where
    go : (u v : List Character) → [] ≡ u ++ v → Matches a u → Matches b v → (Matches a [] → nullable a ≡ true) → (Matches b [] → nullable b ≡ true) → nullable a && nullable b ≡ true
    go [] [] e ma mb f g = rw (f ma, g mb)
    go [] (x ∷ v) e ma mb f g = cc
    go (x ∷ u) v e ma mb f g = cc
nullable_complete (a or b) m = ⊎_elim (λ x. or_left (nullable a) (nullable b) (nullable_complete a x)) (λ y. or_right (nullable a) (nullable b) (nullable_complete b y)) m
nullable_complete (many a) m = refl

and_then_sound : (a b : Regex) (s : List Character) → Matches (and_then a b) s → Matches (a then b) s
and_then_sound never b s m = absurd m
and_then_sound empty b s m = ([], s, refl, refl, m)
and_then_sound (one_of k) b s m = m
and_then_sound (none_of k) b s m = m
and_then_sound (x then y) b s m =
    let n = and_then_sound y b m.1 m.4 in
    (m.0 ++ n.0, n.1, m.2 ∙ ap (λ t. m.0 ++ t) n.2 ∙ sym (append_assoc m.0 n.0 n.1), (m.0, n.0, refl, m.3, n.3), n.4)
and_then_sound (x or y) b s m = m
and_then_sound (many x) b s m = m

and_then_complete : (a b : Regex) (s : List Character) → Matches (a then b) s → Matches (and_then a b) s
and_then_complete never b s m = absurd m.3
and_then_complete empty b s m = subst (λ t. Matches b t) (sym (m.2 ∙ ap (λ t. t ++ m.1) m.3)) m.4
and_then_complete (one_of k) b s m = m
and_then_complete (none_of k) b s m = m
and_then_complete (x then y) b s m =
    let n = m.3 in
    (n.0, n.1 ++ m.1, m.2 ∙ ap (λ t. t ++ m.1) n.2 ∙ append_assoc n.0 n.1 m.1, n.3, and_then_complete y b (n.1 ++ m.1) (n.1, m.1, refl, n.4, m.4))
and_then_complete (x or y) b s m = m
and_then_complete (many x) b s m = m

never_absurd : (a : Regex) (s : List Character) → is_never a ≡ true → Matches a s → ⊥
never_absurd never s e m = m
never_absurd empty s e m = cc
never_absurd (one_of k) s e m = cc
never_absurd (none_of k) s e m = cc
never_absurd (a then b) s e m = cc
never_absurd (a or b) s e m = cc
never_absurd (many a) s e m = cc

or_else_sound : (a b : Regex) (s : List Character) → Matches (or_else a b) s → Matches a s ⊎ Matches b s
or_else_sound a b s = go (is_never a) (is_never b) refl refl
  where
    go : (x y : Bool) → is_never a ≡ x → is_never b ≡ y → Matches (or_else a b) s → Matches a s ⊎ Matches b s
    go true y e f m = inr (rw (e, or_else) at m)
    go false true e f m = inl (rw (e, or_else, f) at m)
    go false false e f m = rw (e, or_else, f) at m

or_else_complete : (a b : Regex) (s : List Character) → Matches a s ⊎ Matches b s → Matches (or_else a b) s
or_else_complete a b s = go (is_never a) (is_never b) refl refl
  where
    go : (x y : Bool) → is_never a ≡ x → is_never b ≡ y → Matches a s ⊎ Matches b s → Matches (or_else a b) s
    go true y e f (inl m) = absurd (never_absurd a s e m)
    go true y e f (inr m) = rw (e, or_else) m
    go false true e f (inl m) = rw (e, or_else, f) m
    go false true e f (inr m) = absurd (never_absurd b s f m)
    go false false e f (inl m) = rw (e, or_else, f) (inl m)
    go false false e f (inr m) = rw (e, or_else, f) (inr m)

-- what the derivative matches is what r matches behind c
deriv_sound : (r : Regex) (c : Character) (s : List Character) → Matches (deriv r c) s → Matches r (c ∷ s)
unfolding deriv
deriv_sound never c s m = absurd m
deriv_sound empty c s m = absurd m
deriv_sound (one_of k) c s m = go (in_class k c) refl m
  where
    go : (x : Bool) → in_class k c ≡ x → Matches (deriv (one_of k) c) s → Matches (one_of k) (c ∷ s)
    go true e m = (c, ap (λ t. c ∷ t) (rw (e, deriv) at m), e)
    go false e m = absurd (rw (e, deriv) at m)
deriv_sound (none_of k) c s m = go (in_class k c) refl m
  where
    go : (x : Bool) → in_class k c ≡ x → Matches (deriv (none_of k) c) s → Matches (none_of k) (c ∷ s)
    go true e m = absurd (rw (e, deriv) at m)
    go false e m = (c, ap (λ t. c ∷ t) (rw (e, deriv) at m), e)
deriv_sound (a then b) c s m = go (nullable a) refl m (deriv_sound a c) (deriv_sound b c)
  where
    first : Matches (and_then (deriv a c) b) s → ((u : List Character) → Matches (deriv a c) u → Matches a (c ∷ u)) → Matches (a then b) (c ∷ s)
    first m f = let n = and_then_sound (deriv a c) b s m in (c ∷ n.0, n.1, ap (λ t. c ∷ t) n.2, f n.0 n.3, n.4)

    go : (x : Bool) → nullable a ≡ x → Matches (deriv (a then b) c) s → ((u : List Character) → Matches (deriv a c) u → Matches a (c ∷ u)) → ((u : List Character) → Matches (deriv b c) u → Matches b (c ∷ u)) → Matches (a then b) (c ∷ s)
    go true e m f g = both (or_else_sound (and_then (deriv a c) b) (deriv b c) s (rw (e, deriv) at m))
      where
        both : Matches (and_then (deriv a c) b) s ⊎ Matches (deriv b c) s → Matches (a then b) (c ∷ s)
        both (inl m) = first m f
        both (inr m) = ([], c ∷ s, refl, nullable_sound a e, g s m)
    go false e m f g = first (rw (e, deriv) at m) f
deriv_sound (a or b) c s m = go (or_else_sound (deriv a c) (deriv b c) s m) (deriv_sound a c s) (deriv_sound b c s)
  where
    go : Matches (deriv a c) s ⊎ Matches (deriv b c) s → (Matches (deriv a c) s → Matches a (c ∷ s)) → (Matches (deriv b c) s → Matches b (c ∷ s)) → Matches a (c ∷ s) ⊎ Matches b (c ∷ s)
    go (inl m) f g = inl (f m)
    go (inr m) f g = inr (g m)
deriv_sound (many a) c s m =
    let n = and_then_sound (deriv a c) (many a) s m in
    ((c ∷ n.0) ∷ n.4.0, ap (λ t. c ∷ t) (n.2 ∙ ap (λ t. n.0 ++ t) n.4.1), (deriv_sound a c n.0 n.3, n.4.2))

pub deriv_complete : (r : Regex) (c : Character) (s : List Character) → Matches r (c ∷ s) → Matches (deriv r c) s
unfolding deriv
deriv_complete never c s m = m
deriv_complete empty c s m = cc
deriv_complete (one_of k) c s m =
    let e : in_class k c ≡ true = subst (λ (x : Character). in_class k x ≡ true) (sym (cons_head m.1)) m.2 in
    rw (e, deriv) (cons_tail m.1)
deriv_complete (none_of k) c s m =
    let e : in_class k c ≡ false = subst (λ (x : Character). in_class k x ≡ false) (sym (cons_head m.1)) m.2 in
    rw (e, deriv) (cons_tail m.1)
deriv_complete (a then b) c s m = go m.0 m.1 m.2 m.3 m.4 (nullable a) refl (deriv_complete a c) (deriv_complete b c)
  where
    first : (u v : List Character) (d : Character) → c ∷ s ≡ d ∷ (u ++ v) → Matches a (d ∷ u) → Matches b v → ((u : List Character) → Matches a (c ∷ u) → Matches (deriv a c) u) → Matches (and_then (deriv a c) b) s
    first u v d e ma mb f = and_then_complete (deriv a c) b s (u, v, cons_tail e, f u (subst (λ (x : Character). Matches a (x ∷ u)) (sym (cons_head e)) ma), mb)

    go : (u v : List Character) → c ∷ s ≡ u ++ v → Matches a u → Matches b v → (x : Bool) → nullable a ≡ x → ((u : List Character) → Matches a (c ∷ u) → Matches (deriv a c) u) → ((u : List Character) → Matches b (c ∷ u) → Matches (deriv b c) u) → Matches (deriv (a then b) c) s
    go [] v e ma mb true p f g = rw (p, deriv) (or_else_complete (and_then (deriv a c) b) (deriv b c) s (inr (g s (subst (λ t. Matches b t) (sym e) mb))))
    go [] v e ma mb false p f g = clash (nullable_complete a ma) p
    go (d ∷ u) v e ma mb true p f g = rw (p, deriv) (or_else_complete (and_then (deriv a c) b) (deriv b c) s (inl (first u v d e ma mb f)))
    go (d ∷ u) v e ma mb false p f g = rw (p, deriv) (first u v d e ma mb f)
deriv_complete (a or b) c s m = or_else_complete (deriv a c) (deriv b c) s (go m (deriv_complete a c s) (deriv_complete b c s))
  where
    go : Matches a (c ∷ s) ⊎ Matches b (c ∷ s) → (Matches a (c ∷ s) → Matches (deriv a c) s) → (Matches b (c ∷ s) → Matches (deriv b c) s) → Matches (deriv a c) s ⊎ Matches (deriv b c) s
    go (inl m) f g = inl (f m)
    go (inr m) f g = inr (g m)
deriv_complete (many a) c s m = and_then_complete (deriv a c) (many a) s (go m.0 m.1 m.2 (deriv_complete a c))
  where
    go : (ps : List (List Character)) → c ∷ s ≡ joined ps → Each (Matches a) ps → ((u : List Character) → Matches a (c ∷ u) → Matches (deriv a c) u) → Matches (deriv a c then many a) s
    go [] e all f = cc
    go ([] ∷ ps) e all f = go ps e all.1 f
    go ((d ∷ u) ∷ ps) e all f = (u, joined ps, cons_tail e, f u (subst (λ (x : Character). Matches a (x ∷ u)) (sym (cons_head e)) all.0), (ps, refl, all.1))

-- what `longest` counts is matched
pub longest_matches : (r : Regex) (cs : List Character) (n : ℕ) → longest r cs ≡ suc n → Matches r (take (suc n) cs)
unfolding longest
longest_matches r [] n e = absurd (omega arith)
longest_matches r (c ∷ cs) n e = go (is_never (deriv r c)) (longest (deriv r c) cs) (nullable (deriv r c)) refl refl refl e (longest_matches (deriv r c) cs)
  where
    go : (x : Bool) (l : ℕ) (y : Bool) → is_never (deriv r c) ≡ x → longest (deriv r c) cs ≡ l → nullable (deriv r c) ≡ y → longest r (c ∷ cs) ≡ suc n → ((k : ℕ) → longest (deriv r c) cs ≡ suc k → Matches (deriv r c) (take (suc k) cs)) → Matches r (c ∷ take n cs)
    go true l y p q t e rec = let z = rw (p, longest) at e in absurd (omega arith)
    go false (suc k) y p q t e rec =
        let z = rw (p, longest, q) at e in
        let eq : suc k ≡ n = omega arith in
        subst (λ (x : ℕ). Matches r (c ∷ take x cs)) eq (deriv_sound r c (take (suc k) cs) (rec k q))
    go false zero true p q t e rec =
        let z = rw (p, longest, q, t) at e in
        let eq : 0 ≡ n = omega arith in
        subst (λ (x : ℕ). Matches r (c ∷ take x cs)) eq (deriv_sound r c [] (nullable_sound (deriv r c) t))
    go false zero false p q t e rec = let z = rw (p, longest, q, t) at e in absurd (omega arith)

-- and nothing longer is
pub longest_most : (r : Regex) (cs : List Character) (m : ℕ) → longest r cs < m → m ≤ length cs → Matches r (take m cs) → ⊥
unfolding longest
longest_most r [] m h l mt = omega arith
longest_most r (c ∷ cs) zero h l mt = omega arith
longest_most r (c ∷ cs) (suc m) h l mt =
    go (is_never (deriv r c)) (longest (deriv r c) cs) (nullable (deriv r c)) refl refl refl m h (deriv_complete r c (take m cs) mt) (omega arith) (longest_most (deriv r c) cs m)
  where
    go : (x : Bool) (k : ℕ) (y : Bool) → is_never (deriv r c) ≡ x → longest (deriv r c) cs ≡ k → nullable (deriv r c) ≡ y → (j : ℕ) → longest r (c ∷ cs) < suc j → Matches (deriv r c) (take j cs) → j ≤ length cs → (longest (deriv r c) cs < j → j ≤ length cs → Matches (deriv r c) (take j cs) → ⊥) → ⊥
    go true k y p q t j h d l rec = never_absurd (deriv r c) (take j cs) p d
    go false (suc k) y p q t j h d l rec = let z = rw (p, longest, q) at h in rec (rw q (omega arith)) l d
    go false zero true p q t j h d l rec = let z = rw (p, longest, q, t) at h in rec (rw q (omega arith)) l d
    go false zero false p q t zero h d l rec = clash (nullable_complete (deriv r c) d) t
    go false zero false p q t (suc j) h d l rec = rec (rw q (omega arith)) l d

-- what is left of r behind a text
abbrev pub derivs : Regex → List Character → Regex
derivs r [] = r
derivs r (c ∷ s) = derivs (deriv r c) s

-- derivatives decide whether a text is matched
pub decides : (r : Regex) (s : List Character) → Matches r s ↔ (nullable (derivs r s) ≡ true)
decides r [] = (nullable_complete r, nullable_sound r)
decides r (c ∷ s) = (λ m. (decides (deriv r c) s).0 (deriv_complete r c s m), λ e. deriv_sound r c s ((decides (deriv r c) s).1 e))

-- the next character, if there is one, ends every match
abbrev pub Ends : Regex → List Character → Type 0
Ends d [] = Unit {0}
Ends d (c ∷ t) = is_never (deriv d c) ≡ true

-- what stands behind such a place does not change the longest match
pub longest_ends : (r : Regex) (s t : List Character) → Ends (derivs r s) t → longest r (s ++ t) ≡ longest r s
unfolding longest
longest_ends r [] [] e = refl
longest_ends r [] (c ∷ t) e = rw (e, longest)
longest_ends r (x ∷ s) t e = go (is_never (deriv r x)) refl (longest_ends (deriv r x) s t e)
  where
    go : (b : Bool) → is_never (deriv r x) ≡ b → longest (deriv r x) (s ++ t) ≡ longest (deriv r x) s → longest r (x ∷ (s ++ t)) ≡ longest r (x ∷ s)
    go true p h = rw (p, longest)
    go false p h = rw (p, longest, h)
