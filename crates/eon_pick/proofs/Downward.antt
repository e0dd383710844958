-- The walk over the first n records from the last one down: the first that holds the byte is the highest.
use Rattle.std.proofs.Common.{Option, None, Some, ◌≡◌, refl, sym, ap, subst, ◌∙◌, Bool, true, false, cond, List, [], ◌∷◌, ◌++◌, length, ℕ, zero, suc, ◌+◌, ◌-◌, add-zero, suc-add, add-suc, add-one, arith, find}
use Rattle.std.specs.declared.iter.Rev.{Rev}
use Rattle.std.specs.declared.ops.Range.{Range}
use Rattle.std.specs.Iterator.Adapters.{rev_steps}
use Rattle.std.proofs.lemmas.Iterator.{YieldsList}
use Rattle.std.proofs.lemmas.Iterator.Consumers.{YieldsList-from_shown}
use Rattle.std.proofs.iter.runs.Sources.{nat_range_steps_back}
use Rattle.eon_spec.specs.Records.{Record}
use Rattle.eon_spec.specs.Pick.{holds_byte, or_this, highest}
use Rattle.eon_table.specs.Words.{record_of, records_of}
use Rattle.eon_table.proofs.Table.{records_length, records_more}

-- the n numbers from a on, the last first
abbrev pub falling : ℕ → ℕ → List ℕ
falling a zero = []
falling a (suc n) = (a + n) ∷ falling a n

abbrev shown : Range ℕ → List ℕ
shown r = falling r.start (r.end - r.start)

none_shown : (a k : ℕ) → k ≡ 0 → length (falling a k) ≡ 0
none_shown a k e = ap (λ (n : ℕ). length (falling a n)) e

some_shown : (r t : Range ℕ) (x : ℕ) → nat_range_steps_back r (Some x) t → shown r ≡ x ∷ shown t
some_shown r t x p =
    let n : r.end - r.start ≡ suc (t.end - r.start) = omega (arith, p.1.0, p.1.2) in
    let a : r.start + (t.end - r.start) ≡ x = omega (arith, p.1.0, p.1.1, p.1.2) in
    ap (falling r.start) n ∙ ap (λ (y : ℕ). y ∷ falling r.start (t.end - r.start)) a ∙ ap (λ (k : ℕ). x ∷ falling k (t.end - k)) (sym p.0)

pub yields_falling : {s : Rev (Range ℕ)} (n : ℕ) → s.iter ≡ record { start = 0; end = n } → YieldsList (rev_steps nat_range_steps_back) (λ x. x) s (falling 0 n)
yields_falling {s} n e =
    let z : n - 0 ≡ n = omega arith in
    subst (YieldsList (rev_steps nat_range_steps_back) (λ x. x) s) (ap shown e ∙ ap (falling 0) z)
    (YieldsList-from_shown (rev_steps nat_range_steps_back) (λ x. x) (λ u. shown u.iter) (λ u t p. none_shown u.iter.start (u.iter.end - u.iter.start) p.1.0) (λ u x t p. some_shown u.iter t.iter x p) s)

-- one record more
highest_last : (b n : ℕ) (rs : List Record) (r : Record) → highest b n (rs ++ (r ∷ [])) ≡ cond (holds_byte b r) (Some (n + length rs)) (highest b n rs)
highest_last b n [] r = ap (λ (k : ℕ). cond (holds_byte b r) (Some k) None) (sym (add-zero n))
highest_last b n (q ∷ rs) r =
    ap (λ (o : Option ℕ). or_this o (holds_byte b q) n) (highest_last b (suc n) rs r)
    ∙ ap (λ (k : ℕ). or_this (cond (holds_byte b r) (Some k) (highest b (suc n) rs)) (holds_byte b q) n) (suc-add n (length rs) ∙ sym (add-suc n (length rs)))
    ∙ pass (holds_byte b r)
  where
    pass : (x : Bool) → or_this (cond x (Some (n + suc (length rs))) (highest b (suc n) rs)) (holds_byte b q) n ≡ cond x (Some (n + suc (length rs))) (highest b n (q ∷ rs))
    pass true = refl
    pass false = refl

pub find_highest : (b : ℕ) (tb : List ℕ) (n : ℕ) → find (λ i. holds_byte b (record_of tb i)) (falling 0 n) ≡ highest b 0 (records_of tb 0 n)
unfolding records_of
find_highest b tb zero = refl
find_highest b tb (suc n) =
    ap (cond (holds_byte b (record_of tb (0 + n))) (Some (0 + n))) (find_highest b tb n)
    ∙ ap (λ (k : ℕ). cond (holds_byte b (record_of tb (0 + n))) (Some (0 + k)) (highest b 0 (records_of tb 0 n))) (sym (records_length tb 0 n))
    ∙ sym (highest_last b 0 (records_of tb 0 n) (record_of tb (0 + n)))
    ∙ ap (highest b 0) (sym (records_more tb 0 n) ∙ ap (records_of tb 0) (add-one n))
