-- "A refusal writes nothing": whatever a call was to write, a refusal leaves the lent memory as it was.
use Rattle.std.proofs.Common.{◌≡◌, ℕ, Bool, true, false, ◌&&◌, leb, ◌⊎◌, List, length, sym, refl, ap, inl, inr}
use Rattle.eon_spec.specs.Refused.{Refusal}
use Rattle.eon_spec.specs.Calls.{Outcome, done, refused_with, nowhere, fill, fill_both}

-- an answer is no refusal
pub answers_not : {A B : Type 0} (a : A) (r : Refusal) → done a ≡ refused_with r → B
answers_not a r e = cc

pub fill_keeps : {A E : Type 0} (old : List E) (x : Outcome (A × List E)) (r : Refusal) → (fill old x).answer ≡ refused_with r → (fill old x).memory ≡ old
unfolding fill
fill_keeps old (refused_with q) r e = refl
fill_keeps {A} old (done (a, new)) r e = go (leb (length new) (length old)) refl e
  where
    go : (b : Bool) → leb (length new) (length old) ≡ b → (fill old (done (a, new))).answer ≡ refused_with r → (fill old (done (a, new))).memory ≡ old
    go true p e = answers_not a r (rw (p, fill) at e)
    go false p e = rw (p, fill) refl

-- it is the refusal of what was to be written, or 14
pub fill_refuses : {A E : Type 0} (old : List E) (x : Outcome (A × List E)) (r : Refusal) → (fill old x).answer ≡ refused_with r → (x ≡ refused_with r) ⊎ (r ≡ nowhere 14)
unfolding fill
fill_refuses old (refused_with q) r e = let z : q ≡ r = cc in inl (ap refused_with z)
fill_refuses {A} {E} old (done (a, new)) r e = go (leb (length new) (length old)) refl e
  where
    go : (b : Bool) → leb (length new) (length old) ≡ b → (fill old (done (a, new))).answer ≡ refused_with r → (◌≡◌ {A = Outcome (A × List E)} (done (a, new)) (refused_with r)) ⊎ (r ≡ nowhere 14)
    go true p e = answers_not a r (rw (p, fill) at e)
    go false p e = inr (let z : refused_with (nowhere 14) ≡ refused_with r = rw (p, fill) at e in let w : nowhere 14 ≡ r = cc in sym w)

pub fill_both_keeps : (table out : List ℕ) (x : Outcome (List ℕ × List ℕ)) (r : Refusal) → (fill_both table out x).answer ≡ refused_with r
    → ((fill_both table out x).table ≡ table) × ((fill_both table out x).out ≡ out)
unfolding fill_both
fill_both_keeps table out (refused_with q) r e = (refl, refl)
fill_both_keeps table out (done (w, b)) r e = go (leb (length w) (length table) && leb (length b) (length out)) refl e
  where
    go : (z : Bool) → leb (length w) (length table) && leb (length b) (length out) ≡ z → (fill_both table out (done (w, b))).answer ≡ refused_with r
        → ((fill_both table out (done (w, b))).table ≡ table) × ((fill_both table out (done (w, b))).out ≡ out)
    go true p e = answers_not (length b) r (rw (p, fill_both) at e)
    go false p e = rw (p, fill_both) (refl, refl)
