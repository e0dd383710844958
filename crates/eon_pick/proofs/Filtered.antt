-- The list of hits is the filter of the table: each hit is a record that shares a byte with the range, each such record is a hit, and their
-- numbers rise.
use Rattle.std.proofs.Common.{Some, ◌≡◌, refl, ap, subst, ◌∙◌, ◌⊎◌, inl, inr, Bool, true, false, List, [], ◌∷◌, ℕ, zero, suc, ◌+◌, ◌≤◌, ◌<◌, min, max, arith, length, ltb, lt→ltb}
use Rattle.eon_spec.specs.declared.Hit.{Hit}
use Rattle.eon_spec.specs.Records.{Record}
use Rattle.eon_spec.specs.Pick.{holds_byte, shares_byte, hit_of, hit_then, hits}
use Rattle.eon_laws.proofs.Facts.{true_of, lt_of, ltb-false}
use Rattle.eon_pick.proofs.Nearest.{held, holds_of, nth}

-- a record "that shares a byte with the range" holds one of its bytes, and one that holds a byte of the range shares it
pub shares_byte_lem : (from to : ℕ) (r : Record) → shares_byte from to r ≡ true → (b : ℕ) × (from ≤ b) × (b < to) × (holds_byte b r ≡ true)
shares_byte_lem from to r e =
    let l = lt_of (max r.start from) (min r.end to) e in
    (max r.start from, omega arith, omega arith, holds_of (max r.start from) r (omega arith) (omega arith))

pub byte_shares : (from to b : ℕ) (r : Record) → from ≤ b → b < to → holds_byte b r ≡ true → shares_byte from to r ≡ true
byte_shares from to b r g h e =
    let k = held b r e in
    true_of (ltb (max r.start from) (min r.end to)) (lt→ltb (max r.start from) (min r.end to) (omega (arith, k.0, k.1)))

-- an empty or reversed range has no hits
pub no_hits : (from to n : ℕ) (rs : List Record) → to ≤ from → hits from to n rs ≡ []
no_hits from to n [] h = refl
no_hits from to n (r ∷ rs) h = ap (λ (b : Bool). hit_then b (hit_of n r) (hits from to (suc n) rs)) (ltb-false (max r.start from) (min r.end to) (omega arith)) ∙ no_hits from to (suc n) rs h

-- no more hits than records
pub few_hits : (from to n : ℕ) (rs : List Record) → length (hits from to n rs) ≤ length rs
few_hits from to n [] = omega arith
few_hits from to n (r ∷ rs) = go (shares_byte from to r) (few_hits from to (suc n) rs)
  where
    go : (b : Bool) → length (hits from to (suc n) rs) ≤ length rs → length (hit_then b (hit_of n r) (hits from to (suc n) rs)) ≤ suc (length rs)
    go true h = omega arith
    go false h = omega arith

abbrev pub OneOf : Hit → List Hit → Type 0
OneOf h [] = ⊥
OneOf h (g ∷ gs) = (h ≡ g) ⊎ OneOf h gs

module _ (from to : ℕ) where
  -- the hit of record k, where the first is number n
  abbrev pub OfRecord : ℕ → List Record → Hit → Type 0
  OfRecord n rs h = (k : ℕ) × (q : Record) × (nth rs k ≡ Some q) × (shares_byte from to q ≡ true) × (h ≡ hit_of (n + k) q)

  shifted : (n : ℕ) (r : Record) (rs : List Record) (h : Hit) → OfRecord (suc n) rs h → OfRecord n (r ∷ rs) h
  shifted n r rs h o =
      let z : suc n + o.0 ≡ n + suc o.0 = omega arith in
      (suc o.0, o.1, o.2, o.3, o.4 ∙ ap (λ (m : ℕ). hit_of m o.1) z)

  pub hit_is_record : (n : ℕ) (rs : List Record) (h : Hit) → OneOf h (hits from to n rs) → OfRecord n rs h
  hit_is_record n [] h o = absurd o
  hit_is_record n (r ∷ rs) h o = go (shares_byte from to r) refl (λ p. shifted n r rs h (hit_is_record (suc n) rs h p)) o
    where
      go : (b : Bool) → shares_byte from to r ≡ b → (OneOf h (hits from to (suc n) rs) → OfRecord n (r ∷ rs) h) → OneOf h (hit_then b (hit_of n r) (hits from to (suc n) rs)) → OfRecord n (r ∷ rs) h
      go true e rec (inl f) = let z : n ≡ n + 0 = omega arith in (0, r, refl, e, f ∙ ap (λ (m : ℕ). hit_of m r) z)
      go true e rec (inr f) = rec f
      go false e rec f = rec f

  later_one : (b : Bool) (g h : Hit) (hs : List Hit) → OneOf h hs → OneOf h (hit_then b g hs)
  later_one true g h hs o = inr o
  later_one false g h hs o = o

  this_one : (b : Bool) (h : Hit) (hs : List Hit) → b ≡ true → OneOf h (hit_then b h hs)
  this_one true h hs e = inl refl
  this_one false h hs e = cc

  pub record_is_hit : (n : ℕ) (rs : List Record) (k : ℕ) (q : Record) → nth rs k ≡ Some q → shares_byte from to q ≡ true → OneOf (hit_of (n + k) q) (hits from to n rs)
  record_is_hit n [] k q e s = cc
  record_is_hit n (r ∷ rs) zero q e s = first (let z : r ≡ q = cc in z) (let z : n ≡ n + 0 = omega arith in z)
    where
      first : {m : ℕ} → r ≡ q → n ≡ m → OneOf (hit_of m q) (hits from to n (r ∷ rs))
      first f g = subst (λ (m : ℕ). OneOf (hit_of m q) (hits from to n (r ∷ rs))) g (subst (λ (x : Record). OneOf (hit_of n x) (hits from to n (r ∷ rs))) f (this_one (shares_byte from to r) (hit_of n r) (hits from to (suc n) rs) (ap (shares_byte from to) f ∙ s)))
  record_is_hit n (r ∷ rs) (suc k) q e s =
      let z : suc n + k ≡ n + suc k = omega arith in
      later_one (shares_byte from to r) (hit_of n r) (hit_of (n + suc k) q) (hits from to (suc n) rs) (subst (λ (m : ℕ). OneOf (hit_of m q) (hits from to (suc n) rs)) z (record_is_hit (suc n) rs k q e s))

  -- in table order, each once
  abbrev pub Rising : ℕ → List Hit → Type 0
  Rising n [] = Unit {0}
  Rising n (h ∷ hs) = (n ≤ h.«record») × Rising (suc h.«record») hs

  from_before : (n : ℕ) (hs : List Hit) → Rising (suc n) hs → Rising n hs
  from_before n [] r = tt
  from_before n (h ∷ hs) r = (let z = r.0 in omega arith, r.1)

  pub hits_rise : (n : ℕ) (rs : List Record) → Rising n (hits from to n rs)
  hits_rise n [] = tt
  hits_rise n (r ∷ rs) = go (shares_byte from to r) (hits_rise (suc n) rs)
    where
      go : (b : Bool) → Rising (suc n) (hits from to (suc n) rs) → Rising n (hit_then b (hit_of n r) (hits from to (suc n) rs))
      go true h = (omega arith, h)
      go false h = from_before n (hits from to (suc n) rs) h
