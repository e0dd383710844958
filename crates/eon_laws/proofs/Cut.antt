-- A token is the longest one of its own bytes, too.
use Rattle.std.proofs.Common.{◌≡◌, ℕ, zero, suc, ◌<◌, ◌≤◌, Bool, true, false, ltb, List, [], ◌∷◌, length, take, refl, ap, ◌∙◌, arith}
use Rattle.eon_laws.proofs.Facts.{lt_of, le_of_not}
use Rattle.eon_spec.specs.Utf8.{Character}
use Rattle.eon_spec.specs.Regex.{Regex, is_never, nullable, deriv, longest}
use Rattle.eon_spec.specs.declared.token_kind.TokenKind.{TokenKind}
use Rattle.eon_spec.specs.declared.token_kind.TokenKind.TheVariants.{Invalid}
use Rattle.eon_spec.specs.Token.{better, is_kind, Rule, ◌is◌, longest_rule}

longest_le : (r : Regex) (cs : List Character) → longest r cs ≤ length cs
unfolding longest
longest_le r [] = omega arith
longest_le r (c ∷ cs) = go (is_never (deriv r c)) (longest (deriv r c) cs) (nullable (deriv r c)) refl refl refl (longest_le (deriv r c) cs)
  where
    go : (x : Bool) (l : ℕ) (y : Bool) → is_never (deriv r c) ≡ x → longest (deriv r c) cs ≡ l → nullable (deriv r c) ≡ y → longest (deriv r c) cs ≤ length cs → longest r (c ∷ cs) ≤ suc (length cs)
    go true l y p q t h = rw (p, longest) (omega arith)
    go false zero true p q t h = rw (p, longest, q, t) (omega arith)
    go false zero false p q t h = rw (p, longest, q, t) (omega arith)
    go false (suc k) y p q t h = rw (p, longest, q) (omega arith)

longest_cut : (r : Regex) (cs : List Character) (n : ℕ) → longest r cs ≤ n → longest r (take n cs) ≡ longest r cs
unfolding longest
longest_cut r [] zero h = refl
longest_cut r [] (suc n) h = refl
longest_cut r (c ∷ cs) zero h = omega arith
longest_cut r (c ∷ cs) (suc n) h = go (is_never (deriv r c)) (longest (deriv r c) cs) refl refl h (longest_cut (deriv r c) cs n)
  where
    go : (x : Bool) (l : ℕ) → is_never (deriv r c) ≡ x → longest (deriv r c) cs ≡ l → longest r (c ∷ cs) ≤ suc n → (longest (deriv r c) cs ≤ n → longest (deriv r c) (take n cs) ≡ longest (deriv r c) cs) → longest r (c ∷ take n cs) ≡ longest r (c ∷ cs)
    go true l p q h f = rw (p, longest)
    go false zero p q h f = rw (p, longest, f (rw q (omega arith)))
    go false (suc k) p q h f = let z = rw (p, longest, q) at h in rw (p, longest, f (rw q (omega arith)))

-- no rule matches more than n characters
abbrev AllLe : List Rule → List Character → ℕ → Type 0
AllLe [] cs n = Unit {0}
AllLe ((k is r) ∷ rs) cs n = (longest r cs ≤ n) × AllLe rs cs n

all_le : (rs : List Rule) (cs : List Character) (m n : ℕ) → m ≤ n → AllLe rs cs m → AllLe rs cs n
all_le [] cs m n h a = tt
all_le ((k is r) ∷ rs) cs m n h a = (omega (arith, a.0), all_le rs cs m n h a.1)

best : (rs : List Rule) (cs : List Character) → AllLe rs cs (longest_rule rs cs).1
unfolding longest_rule
best [] cs = tt
best ((k is r) ∷ rs) cs = go (ltb (longest_rule rs cs).1 (longest r cs)) refl (best rs cs)
  where
    go : (b : Bool) → ltb (longest_rule rs cs).1 (longest r cs) ≡ b → AllLe rs cs (longest_rule rs cs).1 → (longest r cs ≤ (better k (longest_rule rs cs) (longest r cs)).1) × AllLe rs cs (better k (longest_rule rs cs) (longest r cs)).1
    go true e h = let l = lt_of (longest_rule rs cs).1 (longest r cs) e in rw (e, better) (omega arith, all_le rs cs (longest_rule rs cs).1 (longest r cs) (omega arith) h)
    go false e h = rw (e, better) (le_of_not (longest_rule rs cs).1 (longest r cs) e, h)

cut_all : (rs : List Rule) (cs : List Character) (n : ℕ) → AllLe rs cs n → longest_rule rs (take n cs) ≡ longest_rule rs cs
unfolding longest_rule
cut_all [] cs n a = refl
cut_all ((k is r) ∷ rs) cs n a =
    ap (λ (x : TokenKind × ℕ). better k x (longest r (take n cs))) (cut_all rs cs n a.1) ∙ ap (λ (m : ℕ). better k (longest_rule rs cs) m) (longest_cut r cs n a.0)

pub cut : (rs : List Rule) (cs : List Character) → longest_rule rs (take (longest_rule rs cs).1 cs) ≡ longest_rule rs cs
cut rs cs = cut_all rs cs (longest_rule rs cs).1 (best rs cs)

pub found_le : (rs : List Rule) (cs : List Character) → (longest_rule rs cs).1 ≤ length cs
unfolding longest_rule
found_le [] cs = omega arith
found_le ((k is r) ∷ rs) cs = go (ltb (longest_rule rs cs).1 (longest r cs)) refl (found_le rs cs)
  where
    go : (b : Bool) → ltb (longest_rule rs cs).1 (longest r cs) ≡ b → (longest_rule rs cs).1 ≤ length cs → (better k (longest_rule rs cs) (longest r cs)).1 ≤ length cs
    go true e h = rw (e, better) (longest_le r cs)
    go false e h = rw (e, better) h

-- a valid token has a character
pub found_some : (rs : List Rule) (cs : List Character) → is_kind (longest_rule rs cs).0 Invalid ≡ false → 0 < (longest_rule rs cs).1
unfolding longest_rule
found_some [] cs e = cc
found_some ((k is r) ∷ rs) cs e = go (ltb (longest_rule rs cs).1 (longest r cs)) refl e (found_some rs cs)
  where
    go : (b : Bool) → ltb (longest_rule rs cs).1 (longest r cs) ≡ b → is_kind (better k (longest_rule rs cs) (longest r cs)).0 Invalid ≡ false → (is_kind (longest_rule rs cs).0 Invalid ≡ false → 0 < (longest_rule rs cs).1) → 0 < (better k (longest_rule rs cs) (longest r cs)).1
    go true p e f = let l = lt_of (longest_rule rs cs).1 (longest r cs) p in rw (p, better) (omega arith)
    go false p e f = rw (p, better) (f (rw (p, better) at e))
