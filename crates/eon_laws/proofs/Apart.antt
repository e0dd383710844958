-- Rules that a character cannot begin, and the longest token where nothing further matches.
use Rattle.std.proofs.Common.{◌≡◌, ℕ, suc, ◌≤◌, Bool, true, false, not, ◌&&◌, ◌||◌, eqb, ltb, List, [], ◌∷◌, ◌++◌, length, sym, refl, ap, ◌∙◌, subst, arith, take_all}
use Prim.Native.Char.{code}
use Rattle.eon_laws.proofs.Facts.{within_bounds, clash, and_left, and_right, false_of, lt_of, eq_of}
use Rattle.eon_spec.specs.Base.{within}
use Rattle.eon_spec.specs.Utf8.{Character, code_point}
use Rattle.eon_spec.specs.Regex.{Item, ◌to◌, only, in_item, in_class, Regex, never, empty, one_of, none_of, ◌then◌, ◌or◌, many, nullable, deriv, longest}
use Rattle.eon_laws.proofs.Regex.{Matches, longest_matches, longest_ends, deriv_complete, nullable_complete, derivs, Ends}
use Rattle.eon_spec.specs.declared.token_kind.TokenKind.{TokenKind}
use Rattle.eon_spec.specs.Token.{better, Rule, ◌is◌, longest_rule}

-- no item of the class lies in lo .. hi
abbrev apart_item : ℕ → ℕ → Item → Bool
apart_item lo hi (a to z) = ltb hi (code a) || ltb (code z) lo
apart_item lo hi (only a) = ltb hi (code a) || ltb (code a) lo

abbrev apart_class : ℕ → ℕ → List Item → Bool
apart_class lo hi [] = true
apart_class lo hi (i ∷ js) = apart_item lo hi i && apart_class lo hi js

-- no match begins with a character of lo .. hi
abbrev pub apart : ℕ → ℕ → Regex → Bool
apart lo hi never = true
apart lo hi empty = true
apart lo hi (one_of k) = apart_class lo hi k
apart lo hi (none_of k) = false
apart lo hi (a then b) = apart lo hi a && not (nullable a)
apart lo hi (a or b) = apart lo hi a && apart lo hi b
apart lo hi (many a) = apart lo hi a

module _ (lo hi : ℕ) (c : Character) (h : within lo hi (code_point c) ≡ true) where
  bounds : (lo ≤ code_point c) × (code_point c ≤ hi)
  bounds = within_bounds lo hi (code_point c) h

  out : (a z : ℕ) → ltb hi a || ltb z lo ≡ true → (a ≤ code_point c → code_point c ≤ z → ⊥)
  out a z e f g = go (ltb hi a) refl e
    where
      go : (b : Bool) → ltb hi a ≡ b → ltb hi a || ltb z lo ≡ true → ⊥
      go true p e = omega (arith, lt_of hi a p, bounds)
      go false p e = omega (arith, lt_of z lo (rw p at e), bounds)

  item_apart : (i : Item) → apart_item lo hi i ≡ true → in_item i c ≡ false
  item_apart (a to z) e =
      false_of (within (code a) (code z) (code_point c)) λ p.
      let q = within_bounds (code a) (code z) (code_point c) p in out (code a) (code z) e q.0 q.1
  item_apart (only a) e = false_of (eqb (code a) (code_point c)) λ p. let q = eq_of (code a) (code_point c) p in out (code a) (code a) e (omega arith) (omega arith)

  class_apart : (k : List Item) → apart_class lo hi k ≡ true → in_class k c ≡ false
  class_apart [] e = refl
  class_apart (i ∷ js) e = rw (item_apart i (and_left (apart_item lo hi i) (apart_class lo hi js) e)) (class_apart js (and_right (apart_item lo hi i) (apart_class lo hi js) e))

  apart_never : (r : Regex) → apart lo hi r ≡ true → deriv r c ≡ never
  unfolding deriv
  apart_never never e = refl
  apart_never empty e = refl
  apart_never (one_of k) e = rw (class_apart k e, deriv)
  apart_never (none_of k) e = cc
  apart_never (a then b) e = go (nullable a) refl (and_right (apart lo hi a) (not (nullable a)) e) (apart_never a (and_left (apart lo hi a) (not (nullable a)) e))
    where
      go : (n : Bool) → nullable a ≡ n → not (nullable a) ≡ true → deriv a c ≡ never → deriv (a then b) c ≡ never
      go true p e f = clash (rw p at e) refl
      go false p e f = rw (p, deriv, f)
  apart_never (a or b) e = rw (apart_never a (and_left (apart lo hi a) (apart lo hi b) e), apart_never b (and_right (apart lo hi a) (apart lo hi b) e))
  apart_never (many a) e = rw (apart_never a e)

-- what a rule matches leaves a nullable rest
pub matched : (r : Regex) (s : List Character) → Matches r s → nullable (derivs r s) ≡ true
matched r [] m = nullable_complete r m
matched r (c ∷ s) m = matched (deriv r c) s (deriv_complete r c s m)

pub whole_nullable : (r : Regex) (c : Character) (cs : List Character) → longest r (c ∷ cs) ≡ suc (length cs) → nullable (derivs r (c ∷ cs)) ≡ true
whole_nullable r c cs e = matched r (c ∷ cs) (subst (λ (x : List Character). Matches r (c ∷ x)) (take_all _ cs (omega arith)) (longest_matches r (c ∷ cs) (length cs) e))

pub never_stays : (s : List Character) → derivs never s ≡ never
unfolding deriv
never_stays [] = refl
never_stays (c ∷ s) = never_stays s

pub never_ends : (t : List Character) → Ends never t
unfolding deriv
never_ends [] = tt
never_ends (c ∷ t) = refl

pub empty_ends : (t : List Character) → Ends empty t
unfolding deriv
empty_ends [] = tt
empty_ends (c ∷ t) = refl

pub dead : (r : Regex) (c : Character) (s t : List Character) → deriv r c ≡ never → Ends (derivs r (c ∷ s)) t
dead r c s t e = rw (e, never_stays s) (never_ends t)

pub dead_nullable : (r : Regex) (c : Character) (s : List Character) → deriv r c ≡ never → nullable (derivs r (c ∷ s)) ≡ false
dead_nullable r c s e = rw (e, never_stays s)

-- no rule goes on behind s
abbrev pub EndsAll : List Rule → List Character → List Character → Type 0
EndsAll [] s t = Unit {0}
EndsAll ((k is r) ∷ rs) s t = Ends (derivs r s) t × EndsAll rs s t

pub same_longest : (rs : List Rule) (s t : List Character) → EndsAll rs s t → longest_rule rs (s ++ t) ≡ longest_rule rs s
unfolding longest_rule
same_longest [] s t e = refl
same_longest ((k is r) ∷ rs) s t e =
    ap (λ (x : TokenKind × ℕ). better k x (longest r (s ++ t))) (same_longest rs s t e.1) ∙ ap (λ (n : ℕ). better k (longest_rule rs s) n) (longest_ends r s t e.0)

pub ends_append : (rs qs : List Rule) (s t : List Character) → EndsAll rs s t → EndsAll qs s t → EndsAll (rs ++ qs) s t
ends_append [] qs s t e f = f
ends_append ((k is r) ∷ rs) qs s t e f = (e.0, ends_append rs qs s t e.1 f)

abbrev pub all_apart : ℕ → ℕ → List Rule → Bool
all_apart lo hi [] = true
all_apart lo hi ((k is r) ∷ rs) = apart lo hi r && all_apart lo hi rs

pub apart_ends : (lo hi : ℕ) (rs : List Rule) (c : Character) (s t : List Character) → all_apart lo hi rs ≡ true → within lo hi (code_point c) ≡ true → EndsAll rs (c ∷ s) t
apart_ends lo hi [] c s t e h = tt
apart_ends lo hi ((k is r) ∷ rs) c s t e h =
    (dead r c s t (apart_never lo hi c h r (and_left (apart lo hi r) (all_apart lo hi rs) e)), apart_ends lo hi rs c s t (and_right (apart lo hi r) (all_apart lo hi rs) e) h)

-- the rule of a kind
module _ (rule_of : TokenKind → Regex) where
  abbrev pub Own : List Rule → Type 0
  Own [] = Unit {0}
  Own ((k is r) ∷ rs) = (rule_of k ≡ r) × Own rs

  -- the rule of the kind found has the length found
  pub found_rule : (rs : List Rule) (s : List Character) (q : TokenKind) (n : ℕ) → Own rs → longest_rule rs s ≡ (q, suc n) → longest (rule_of q) s ≡ suc n
  unfolding longest_rule
  found_rule [] s q n o e = absurd (let z : 0 ≡ suc n = ap (λ (x : TokenKind × ℕ). x.1) e in omega arith)
  found_rule ((k is r) ∷ rs) s q n o e = go (ltb (longest_rule rs s).1 (longest r s)) refl e (found_rule rs s q n o.1)
    where
      go : (b : Bool) → ltb (longest_rule rs s).1 (longest r s) ≡ b → better k (longest_rule rs s) (longest r s) ≡ (q, suc n) → (longest_rule rs s ≡ (q, suc n) → longest (rule_of q) s ≡ suc n) → longest (rule_of q) s ≡ suc n
      go true p e f =
          let g : ◌≡◌ {A = TokenKind × ℕ} (k, longest r s) (q, suc n) = rw (p, better) at e in
          ap (λ (x : TokenKind × ℕ). longest (rule_of x.0) s) (sym g) ∙ rw o.0 (ap (λ (x : TokenKind × ℕ). x.1) g)
      go false p e f = f (rw (p, better) at e)
