-- Lists of path numbers, and what answers gain.
use Rattle.std.proofs.Common.{Option, None, Some, ◌≡◌, refl, sym, ap, ap₂, ◌∙◌, subst, Bool, true, false, ◌&&◌, ◌||◌, cond, List, [], ◌∷◌, ◌++◌, ℕ, zero, suc, ◌≤◌, ◌<◌, arith, length, get_or, set, take, length-append, get_or-set_same, get_or-set_other, take-suc, eqb, eq-eqb, ne_eqb, filter}
use Rattle.std.proofs.Math.Dec.{eqb-suc-zero}
use Rattle.std.proofs.Math.Decide.{dec_lt}
use Rattle.eon_spec.specs.Base.{elem}
use Rattle.eon_laws.proofs.Facts.{clash, eq_of, eqb_same, elem_append, or_left, or_right}
use Rattle.eon_lookup.specs.Keys.{below}
use Rattle.std.specs.Option.{option_or}
use Rattle.eon_lookup.specs.Live.{answer_of, answered, Gains, among}

-- ---- members

pub elem_at : (l : List ℕ) (i : ℕ) → i < length l → elem (get_or l i 0) l ≡ true
elem_at [] i h = absurd (omega arith)
elem_at (x ∷ l) zero h = or_left (eqb x x) (elem x l) (eqb_same x)
elem_at (x ∷ l) (suc i) h = or_right (eqb (get_or l i 0) x) (elem (get_or l i 0) l) (elem_at l i (omega arith))

pub elem_keep : (f : ℕ → Bool) (l : List ℕ) (p : ℕ) → elem p (filter f l) ≡ elem p l && f p
elem_keep f [] p = refl
elem_keep f (x ∷ l) p = go (f x) refl (eqb p x) refl (elem_keep f l p)
  where
    off : (b : Bool) → false ≡ b && false
    off true = refl
    off false = refl

    go : (a : Bool) → f x ≡ a → (b : Bool) → eqb p x ≡ b → elem p (filter f l) ≡ elem p l && f p → elem p (cond (f x) (x ∷ filter f l) (filter f l)) ≡ (eqb p x || elem p l) && f p
    go true e true g h = rw (e, g) (sym (ap f (eq_of p x g) ∙ e))
    go true e false g h = rw (e, g) h
    go false e true g h = rw (e, g) (h ∙ ap (λ (b : Bool). elem p l && b) (ap f (eq_of p x g) ∙ e) ∙ sym (off (elem p l)) ∙ sym (ap f (eq_of p x g) ∙ e))
    go false e false g h = rw (e, g) h

pub below_length : (n : ℕ) → length (below n) ≡ n
below_length zero = refl
below_length (suc n) = length-append (below n) (n ∷ []) ∙ omega (arith, below_length n)

-- p is one of the numbers below n
pub in_below : (n p : ℕ) → elem p (below n) ≡ true → p < n
in_below zero p e = clash e refl
in_below (suc n) p e = go (elem p (below n)) refl (eqb p n) refl (in_below n p)
  where
    go : (a : Bool) → elem p (below n) ≡ a → (b : Bool) → eqb p n ≡ b → (elem p (below n) ≡ true → p < n) → p < suc n
    go true g b h f = let l : p < n = f g in omega arith
    go false g true h f = omega (arith, eq_of p n h)
    go false g false h f = clash e (elem_append p (below n) (n ∷ []) ∙ rw (g, h))

pub all_below : (n p : ℕ) → p < n → elem p (below n) ≡ true
all_below zero p h = absurd (omega arith)
all_below (suc n) p h = elem_append p (below n) (n ∷ []) ∙ go (dec_lt p n) (all_below n p)
  where
    go : Dec (p < n) → (p < n → elem p (below n) ≡ true) → elem p (below n) || (eqb p n || false) ≡ true
    go (yes d) f = or_left (elem p (below n)) (eqb p n || false) (f d)
    go (no d) f = or_right (elem p (below n)) (eqb p n || false) (or_left (eqb p n) false (eq-eqb p n (omega arith)))

-- numbers in their places
pub numbers_below : (l : List ℕ) (n : ℕ) → n ≤ length l → ((i : ℕ) → i < length l → get_or l i 0 ≡ i) → take n l ≡ below n
numbers_below l zero h f = refl
numbers_below l (suc n) h f = take-suc l n 0 (omega arith) ∙ ap₂ (λ (a : List ℕ) (x : ℕ). a ++ (x ∷ [])) (numbers_below l n (omega arith) f) (f n (omega arith))

pub neither : (b : Bool) → ◌≡◌ {A = Option ℕ} (cond b None None) None
neither true = refl
neither false = refl

-- ---- is a list empty?

pub empty : (l k : List ℕ) → l ≡ k → true ≡ eqb (length l) 0 → k ≡ []
empty [] k e f = sym e
empty (x ∷ l) k e f = clash (sym f) (eqb-suc-zero (length l))

pub not_empty : (l k : List ℕ) → l ≡ k → false ≡ eqb (length l) 0 → 0 < length k
not_empty [] k e f = clash refl (sym f)
not_empty (x ∷ l) k e f = subst (λ (m : List ℕ). 0 < length m) e (omega arith)

-- ---- answers

pub option_or_assoc : (a b c : Option ℕ) → option_or (option_or a b) c ≡ option_or a (option_or b c)
option_or_assoc None b c = refl
option_or_assoc (Some a) b c = refl

pub option_or_none : (a : Option ℕ) → option_or a None ≡ a
option_or_none None = refl
option_or_none (Some a) = refl

option_or_twice : (a : Option ℕ) → option_or a a ≡ a
option_or_twice None = refl
option_or_twice (Some a) = refl

pub gains_nothing : {f : ℕ → Option ℕ} {a : List ℕ} → ((p : ℕ) → f p ≡ None) → Gains f a a
gains_nothing {f} {a} h = record { has = λ p. sym (ap (option_or (answer_of (get_or a p 0))) (h p) ∙ option_or_none (answer_of (get_or a p 0))) }

pub gains_then : {f g h : ℕ → Option ℕ} {a b c : List ℕ} → Gains f a b → Gains g b c → ((p : ℕ) → option_or (f p) (g p) ≡ h p) → Gains h a c
gains_then {f} {g} {h} {a} {b} {c} x y e =
    record { has = λ p. y.has p ∙ ap (λ (z : Option ℕ). option_or z (g p)) (x.has p) ∙ option_or_assoc (answer_of (get_or a p 0)) (f p) (g p) ∙ ap (option_or (answer_of (get_or a p 0))) (e p) }

pub gains_as : {f g : ℕ → Option ℕ} {a b : List ℕ} → Gains f a b → ((p : ℕ) → f p ≡ g p) → Gains g a b
gains_as {f} {g} {a} x e = record { has = λ p. x.has p ∙ ap (option_or (answer_of (get_or a p 0))) (e p) }

-- one path is answered
pub gave : (a : List ℕ) (p w : ℕ) → p < length a → w < 4294967295 → Gains (λ x. cond (eqb x p) (Some w) None) a (answered a p w)
gave a p w h l = record { has = λ x. gave_at x (eqb (get_or a p 0) 4294967295) refl (eqb x p) refl }
  where
    is : answer_of w ≡ Some w
    is = rw (ne_eqb w 4294967295 (λ e. omega arith))

    other : (x : ℕ) → eqb x p ≡ false → x ≡ p → ⊥
    other x e f = clash (eq-eqb x p f) e

    gave_at : (x : ℕ) (b : Bool) → eqb (get_or a p 0) 4294967295 ≡ b → (c : Bool) → eqb x p ≡ c
        → answer_of (get_or (cond (eqb (get_or a p 0) 4294967295) (set a p w) a) x 0) ≡ option_or (answer_of (get_or a x 0)) (cond (eqb x p) (Some w) None)
    gave_at x true e true f =
        let z : x ≡ p = eq_of x p f in
        rw (e, f, z) (ap answer_of (get_or-set_same a p w 0 h) ∙ is ∙ sym (ap (λ (b : Bool). option_or (cond b None (Some (get_or a p 0))) (Some w)) e))
    gave_at x true e false f = rw (e, f) (ap answer_of (get_or-set_other a p x w 0 (other x f)) ∙ sym (option_or_none (answer_of (get_or a x 0))))
    gave_at x false e true f =
        let z : x ≡ p = eq_of x p f in
        rw (e, f, z) (rw e)
    gave_at x false e false f = rw (e, f) (sym (option_or_none (answer_of (get_or a x 0))))

-- one more path is looked at
pub among_more : (l : List ℕ) (p : ℕ) (f : ℕ → Option ℕ) (x : ℕ) → option_or (among l f x) (cond (eqb x p) (f p) None) ≡ among (l ++ (p ∷ [])) f x
among_more l p f x = go (elem x l) refl (eqb x p) refl ∙ sym (ap (λ (b : Bool). cond b (f x) None) (elem_append x l (p ∷ [])))
  where
    go : (a : Bool) → elem x l ≡ a → (b : Bool) → eqb x p ≡ b → option_or (cond (elem x l) (f x) None) (cond (eqb x p) (f p) None) ≡ cond (elem x l || (eqb x p || false)) (f x) None
    go true e true g = rw (e, g) (ap (option_or (f x)) (ap f (sym (eq_of x p g))) ∙ option_or_twice (f x))
    go true e false g = rw (e, g) (option_or_none (f x))
    go false e true g = rw (e, g) (ap f (sym (eq_of x p g)))
    go false e false g = rw (e, g)
