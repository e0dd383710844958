-- No text is matched by two rules: no two rules tie for the longest match, and the order of the rules does not matter.
use Rattle.std.proofs.Common.{◌≡◌, ℕ, zero, suc, ◌<◌, ◌≤◌, Bool, true, false, not, ◌&&◌, ◌||◌, T, eqb, ltb, ◌⊎◌, ◌↔◌, List, [], ◌∷◌, take, sym, refl, ap, ◌∙◌, subst, inl, inr, arith, eqb→eq}
use Rattle.eon_laws.proofs.Facts.{lt_of, le_of_not}
use Rattle.eon_spec.specs.Utf8.{Character, code_point}
use Rattle.eon_spec.specs.Regex.{Regex, nullable, deriv, longest}
use Rattle.eon_laws.proofs.Regex.{Matches, deriv_complete, nullable_complete, longest_matches}
use Rattle.eon_spec.specs.declared.token_kind.TokenKind.{TokenKind}
use Rattle.eon_spec.specs.declared.token_kind.TokenKind.TheVariants.{Invalid}
use Rattle.eon_spec.specs.Token.{kind_number, Rule, ◌is◌, rules, better, longest_rule}
use Rattle.eon_token.specs.Placed.{kind_of}
use Rattle.eon_token.specs.Machine.{class, goes, states, accepts}
use Rattle.eon_token.proofs.Tests.{below, below_at, and_left, and_right, class_small, goes_small}
use Rattle.eon_token.proofs.Auto.{words, deriv_rules, state_of, steps}
use Rattle.eon_token.proofs.KindCodes.{kind_of_lem}

-- the rule stands in the list
abbrev pub In : Rule → List Rule → Type 0
In x [] = ⊥
In x (y ∷ rs) = (x ≡ y) ⊎ In x rs

-- what is left of the rules behind a text, and the state there
abbrev behind : List Rule → List Character → List Rule
behind rs [] = rs
behind rs (c ∷ s) = behind (deriv_rules rs c) s

abbrev walk : ℕ → List Character → ℕ
walk n [] = n
walk n (c ∷ s) = walk (goes n (class (code_point c))) s

walks : (n : ℕ) (s : List Character) → n < 31 → behind (state_of n) s ≡ state_of (walk n s)
walks n [] h = refl
walks n (c ∷ s) h = ap (λ (rs : List Rule). behind rs s) (steps n c h) ∙ walks (goes n (class (code_point c))) s (goes_small n (class (code_point c)) h (class_small (code_point c)))

walk_small : (n : ℕ) (s : List Character) → n < 31 → walk n s < 31
walk_small n [] h = h
walk_small n (c ∷ s) h = walk_small (goes n (class (code_point c))) s (goes_small n (class (code_point c)) h (class_small (code_point c)))

-- a state's rules that match the empty text have one number
only : ℕ → List Rule → Bool
only a [] = true
only a ((k is r) ∷ rs) = (not (nullable r) || eqb (kind_number k) a) && only a rs

all_only : T (below 31 (λ n. only (accepts n) (state_of n)))
unfolding only accepts states words rules deriv
all_only = tt

or_of : (x y : Bool) → T (not x || y) → x ≡ true → T y
or_of true y t p = t
or_of false y t p = absurd (subst T (sym p) tt)

kind_in : Rule → TokenKind
kind_in (k is r) = k

regex_in : Rule → Regex
regex_in (k is r) = r

one_number : (a : ℕ) (rs : List Rule) → T (only a rs) → (k : TokenKind) (r : Regex) → In (k is r) rs → nullable r ≡ true → kind_number k ≡ a
unfolding only kind_in regex_in
one_number a [] t k r i e = absurd i
one_number a ((j is q) ∷ rs) t k r (inl p) e =
    ap (λ (x : Rule). kind_number (kind_in x)) p
    ∙ eqb→eq (kind_number j) a (or_of (nullable q) (eqb (kind_number j) a) (and_left (not (nullable q) || eqb (kind_number j) a) (only a rs) t) (ap (λ (x : Rule). nullable (regex_in x)) (sym p) ∙ e))
one_number a ((j is q) ∷ rs) t k r (inr i) e = one_number a rs (and_right (not (nullable q) || eqb (kind_number j) a) (only a rs) t) k r i e

in_deriv : (k : TokenKind) (r : Regex) (rs : List Rule) (c : Character) → In (k is r) rs → In (k is deriv r c) (deriv_rules rs c)
unfolding kind_in regex_in
in_deriv k r [] c i = i
in_deriv k r ((j is q) ∷ rs) c (inl p) = inl (ap (λ (x : Rule). kind_in x is deriv (regex_in x) c) p)
in_deriv k r ((j is q) ∷ rs) c (inr i) = inr (in_deriv k r rs c i)

-- a rule that matches the text leaves one that matches nothing
abbrev Null : TokenKind → List Rule → Type 0
Null k rs = (r : Regex) × In (k is r) rs × (nullable r ≡ true)

leaves : (k : TokenKind) (r : Regex) (rs : List Rule) (s : List Character) → In (k is r) rs → Matches r s → Null k (behind rs s)
leaves k r rs [] i m = (r, i, nullable_complete r m)
leaves k r rs (c ∷ s) i m = leaves k (deriv r c) (deriv_rules rs c) s (in_deriv k r rs c i) (deriv_complete r c s m)

number_of : (k : TokenKind) (r : Regex) (s : List Character) → In (k is r) rules → Matches r s → kind_number k ≡ accepts (walk 0 s)
unfolding words
number_of k r s i m =
    let x : Null k (state_of (walk 0 s)) = subst (Null k) (walks 0 s (omega arith)) (leaves k r rules s i m) in
    one_number (accepts (walk 0 s)) (state_of (walk 0 s)) (below_at 31 (λ n. only (accepts n) (state_of n)) all_only (walk 0 s) (walk_small 0 s (omega arith))) k x.0 x.1 x.2

-- two rules that match one text are of one kind
pub unique : (j k : TokenKind) (q r : Regex) (s : List Character) → In (j is q) rules → In (k is r) rules → Matches q s → Matches r s → j ≡ k
unique j k q r s i i' m m' = sym (kind_of_lem j) ∙ ap kind_of (number_of j q s i m ∙ sym (number_of k r s i' m')) ∙ kind_of_lem k

-- so they do not tie for a match of one character or more
pub no_tie : (j k : TokenKind) (q r : Regex) (cs : List Character) (n : ℕ) → In (j is q) rules → In (k is r) rules → longest q cs ≡ suc n → longest r cs ≡ suc n → j ≡ k
no_tie j k q r cs n i i' e e' = unique j k q r (take (suc n) cs) i i' (longest_matches q cs n e) (longest_matches r cs n e')

-- the longest match of a list: no rule matches more, and one matches so much
abbrev Which : List Rule → List Character → TokenKind × ℕ → Type 0
Which rs cs x = (x ≡ (Invalid, 0)) ⊎ ((r : Regex) × In (x.0 is r) rs × (longest r cs ≡ x.1) × (0 < x.1))

record Best (rs : List Rule) (cs : List Character) (x : TokenKind × ℕ) : Type 0 where
  most : (k : TokenKind) (r : Regex) → In (k is r) rs → longest r cs ≤ x.1
  which : Which rs cs x

best : (rs : List Rule) (cs : List Character) → Best rs cs (longest_rule rs cs)
unfolding longest_rule kind_in regex_in
best [] cs = record { most = λ k r i. absurd i; which = inl refl }
best ((j is q) ∷ rs) cs = go (ltb (longest_rule rs cs).1 (longest q cs)) refl (best rs cs)
  where
    go : (t : Bool) → ltb (longest_rule rs cs).1 (longest q cs) ≡ t → Best rs cs (longest_rule rs cs) → Best ((j is q) ∷ rs) cs (better j (longest_rule rs cs) (longest q cs))
    go true e h = rw (e, better) (record { most = up; which = inr (q, inl refl, refl, omega (arith, lt_of (longest_rule rs cs).1 (longest q cs) e)) })
      where
        up : (k : TokenKind) (r : Regex) → In (k is r) ((j is q) ∷ rs) → longest r cs ≤ longest q cs
        up k r (inl p) = omega (arith, ap (λ (x : Rule). longest (regex_in x) cs) p)
        up k r (inr i) = omega (arith, h.most k r i, lt_of (longest_rule rs cs).1 (longest q cs) e)
    go false e h = rw (e, better) (record { most = up; which = old h.which })
      where
        up : (k : TokenKind) (r : Regex) → In (k is r) ((j is q) ∷ rs) → longest r cs ≤ (longest_rule rs cs).1
        up k r (inl p) = omega (arith, ap (λ (x : Rule). longest (regex_in x) cs) p, le_of_not (longest_rule rs cs).1 (longest q cs) e)
        up k r (inr i) = h.most k r i

        old : Which rs cs (longest_rule rs cs) → Which ((j is q) ∷ rs) cs (longest_rule rs cs)
        old (inl z) = inl z
        old (inr (r, i, l, p)) = inr (r, inr i, l, p)

-- a list of the same rules, in whatever order, has the same longest match
pub order_free : (qs : List Rule) → ((x : Rule) → In x qs ↔ In x rules) → (cs : List Character) → longest_rule qs cs ≡ longest_rule rules cs
order_free qs f cs = go (longest_rule qs cs) (longest_rule rules cs) (best qs cs) (best rules cs) (best qs cs).which (best rules cs).which
  where
    go : (x y : TokenKind × ℕ) → Best qs cs x → Best rules cs y → Which qs cs x → Which rules cs y → x ≡ y
    go x y a b (inl p) (inl q) = p ∙ sym q
    go x y a b (inl p) (inr (r, i, l, h)) = absurd (omega (arith, ap (λ (z : TokenKind × ℕ). z.1) p, l, h, a.most y.0 r ((f (y.0 is r)).1 i)))
    go x y a b (inr (r, i, l, h)) (inl q) = absurd (omega (arith, ap (λ (z : TokenKind × ℕ). z.1) q, l, h, b.most x.0 r ((f (x.0 is r)).0 i)))
    go (j, zero) y a b (inr (q, i, l, h)) (inr (r, i', l', h')) = absurd (omega arith)
    go (j, suc n) (k, m) a b (inr (q, i, l, h)) (inr (r, i', l', h')) =
        let e : suc n ≡ m = omega (arith, l, l', a.most k r ((f (k is r)).1 i'), b.most j q ((f (j is q)).0 i)) in
        λ t. (no_tie j k q r cs n ((f (j is q)).0 i) i' l (l' ∙ sym e) t, e t)
