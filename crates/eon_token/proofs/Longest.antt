-- The longest match by derivatives: what a character leaves of the rules, and that the automaton finds the same.
use Rattle.std.proofs.Common.{◌≡◌, inr, inl, ◌⊎◌, ℕ, zero, suc, ◌<◌, ◌≤◌, Bool, true, false, List, [], ◌∷◌, map, Some, None, Option, sym, refl, ap, ◌∙◌, ap₂, arith, le-ltb, lt-ltb}
use Rattle.std.proofs.lemmas.Bool.{cases_lt}
use Rattle.eon_spec.specs.Utf8.{Character, code_point}
use Rattle.eon_spec.specs.Regex.{Regex, never, empty, one_of, none_of, ◌then◌, ◌or◌, many, is_never, nullable, deriv, longest}
use Rattle.eon_spec.specs.declared.token_kind.TokenKind.{TokenKind}
use Rattle.eon_spec.specs.declared.token_kind.TokenKind.TheVariants.{Invalid}
use Rattle.eon_spec.specs.Token.{kind_number, Rule, ◌is◌, rules, better, longest_rule}
use Rattle.eon_token.specs.Machine.{Found, miss, hit, class, goes, states, accepts}
use Rattle.eon_token.proofs.Tests.{class_small, goes_small}
use Rattle.eon_token.proofs.Auto.{deriv_rules, words, state_of, or_mine, accept, known_number, accepted, steps}
use Rattle.eon_token.proofs.Steps.{first_some}

-- a rule with the longest match, as what the automaton finds
abbrev pub found_of : TokenKind → ℕ → Found
found_of k zero = miss
found_of k (suc n) = hit (kind_number k) (suc n)

abbrev pub found : TokenKind × ℕ → Found
found x = found_of x.0 x.1

-- a match of no character, and one more character
abbrev pub none_yet : Option ℕ → Found
none_yet None = miss
none_yet (Some k) = hit k zero

abbrev pub up : Found → Found
up miss = miss
up (hit k n) = hit k (suc n)

-- the length of a match, one character on
abbrev longer : ℕ → Bool → ℕ
longer (suc n) b = suc (suc n)
longer zero true = 1
longer zero false = 0

never_longest : (r : Regex) (cs : List Character) → is_never r ≡ true → longest r cs ≡ 0
unfolding longest deriv
never_longest never [] e = refl
never_longest never (c ∷ cs) e = refl
never_longest empty cs e = cc
never_longest (one_of k) cs e = cc
never_longest (none_of k) cs e = cc
never_longest (a then b) cs e = cc
never_longest (a or b) cs e = cc
never_longest (many a) cs e = cc

never_null : (r : Regex) → is_never r ≡ true → nullable r ≡ false
never_null never e = refl
never_null empty e = cc
never_null (one_of k) e = refl
never_null (none_of k) e = refl
never_null (a then b) e = cc
never_null (a or b) e = cc
never_null (many a) e = cc

longest_step : (r : Regex) (c : Character) (cs : List Character) → longest r (c ∷ cs) ≡ longer (longest (deriv r c) cs) (nullable (deriv r c))
unfolding longest
longest_step r c cs = go (is_never (deriv r c)) (longest (deriv r c) cs) (nullable (deriv r c)) refl refl refl
  where
    go : (x : Bool) (l : ℕ) (y : Bool) → is_never (deriv r c) ≡ x → longest (deriv r c) cs ≡ l → nullable (deriv r c) ≡ y → longest r (c ∷ cs) ≡ longer (longest (deriv r c) cs) (nullable (deriv r c))
    go true l y p q t = rw (p, longest, never_longest (deriv r c) cs p, never_null (deriv r c) p)
    go false zero true p q t = rw (p, longest, q, t)
    go false zero false p q t = rw (p, longest, q, t)
    go false (suc n) y p q t = rw (p, longest, q)

pub is_some : (k : TokenKind) (m j n : ℕ) → found_of k m ≡ hit j (suc n) → (m ≡ suc n) × (kind_number k ≡ j)
is_some k zero j n e = cc
is_some k (suc m) j n e = ((cc), (cc))

pub is_none : (k : TokenKind) (m : ℕ) → found_of k m ≡ miss → m ≡ 0
is_none k zero e = refl
is_none k (suc m) e = cc

better_yes : (k : TokenKind) (x : TokenKind × ℕ) (n : ℕ) → x.1 < n → better k x n ≡ (k, n)
better_yes k x n h = rw (lt-ltb x.1 n h, better)

better_no : (k : TokenKind) (x : TokenKind × ℕ) (n : ℕ) → n ≤ x.1 → better k x n ≡ x
better_no k x n h = rw (le-ltb x.1 n h, better)

short : (b : Bool) → longer zero b ≤ 1
short true = omega arith
short false = omega arith

-- one rule more, of which k is the kind and x the length that it matches behind the character
module _ (k l d : TokenKind) (L : ℕ) where
  abbrev rest : ℕ → ℕ → Bool → Option ℕ → Found
  rest D x b A = up (first_some (found (better k (d, D) x)) (none_yet (or_mine A b (kind_number k))))

  both_new : (D n : ℕ) (b : Bool) (A : Option ℕ) → L < suc (suc n) → D < suc n → found (better k (l, L) (suc (suc n))) ≡ rest D (suc n) b A
  both_new D n b A h i =
      ap found (better_yes k (l, L) (suc (suc n)) h)
      ∙ sym (ap (λ (y : TokenKind × ℕ). up (first_some (found y) (none_yet (or_mine A b (kind_number k))))) (better_yes k (d, D) (suc n) i))

  both_old : (D x : ℕ) (b : Bool) (A : Option ℕ) → longer x b ≤ L → x ≤ D → found_of l L ≡ up (first_some (found_of d D) (none_yet (or_mine A b (kind_number k)))) → found (better k (l, L) (longer x b)) ≡ rest D x b A
  both_old D x b A h i e =
      ap found (better_no k (l, L) (longer x b) h) ∙ e
      ∙ sym (ap (λ (y : TokenKind × ℕ). up (first_some (found y) (none_yet (or_mine A b (kind_number k))))) (better_no k (d, D) x i))

  one_rule : (D x : ℕ) (b : Bool) (A : Option ℕ) → found_of l L ≡ up (first_some (found_of d D) (none_yet A)) → found (better k (l, L) (longer x b)) ≡ rest D x b A
  one_rule (suc m) zero b A e = both_old (suc m) zero b A (omega (arith, short b, (is_some l L (kind_number d) (suc m) e).0)) (omega arith) e
  one_rule (suc m) (suc n) b A e = go (cases_lt (suc m) (suc n))
    where
      p : L ≡ suc (suc m)
      p = (is_some l L (kind_number d) (suc m) e).0

      go : (suc m < suc n) ⊎ (suc n ≤ suc m) → found (better k (l, L) (suc (suc n))) ≡ rest (suc m) (suc n) b A
      go (inl h) = both_new (suc m) n b A (omega (arith, p)) h
      go (inr h) = both_old (suc m) (suc n) b A (omega (arith, p)) h e
  one_rule zero zero b (Some a) e = both_old zero zero b (Some a) (omega (arith, short b, (is_some l L a zero e).0)) (omega arith) e
  one_rule zero (suc n) b (Some a) e = both_new zero n b (Some a) (omega (arith, (is_some l L a zero e).0)) (omega arith)
  one_rule zero (suc n) b None e = both_new zero n b None (omega (arith, is_none l L e)) (omega arith)
  one_rule zero zero true None e =
      ap found (better_yes k (l, L) 1 (omega (arith, is_none l L e)))
      ∙ sym (ap (λ (y : TokenKind × ℕ). up (first_some (found y) (none_yet (Some (kind_number k))))) (better_no k (d, zero) zero (omega arith)))
  one_rule zero zero false None e = both_old zero zero false None (omega arith) (omega arith) e

-- the longest match of one character or more, or of none
abbrev pub matched : List Rule → List Character → Found
matched rs cs = first_some (found (longest_rule rs cs)) (none_yet (accept rs))

pub rules_step : (rs : List Rule) (c : Character) (cs : List Character) → found (longest_rule rs (c ∷ cs)) ≡ up (matched (deriv_rules rs c) cs)
unfolding longest_rule
rules_step [] c cs = refl
rules_step ((k is r) ∷ rs) c cs =
    let L = longest_rule rs (c ∷ cs) in
    let D = longest_rule (deriv_rules rs c) cs in
    ap (λ (n : ℕ). found (better k L n)) (longest_step r c cs)
    ∙ one_rule k L.0 D.0 L.1 D.1 (longest (deriv r c) cs) (nullable (deriv r c)) (accept (deriv_rules rs c)) (rules_step rs c cs)

pub no_text : (rs : List Rule) → longest_rule rs [] ≡ (Invalid, 0)
unfolding longest_rule longest
no_text [] = refl
no_text ((k is r) ∷ rs) = ap (λ (x : TokenKind × ℕ). better k x 0) (no_text rs)

-- by the table
abbrev pub acc_f : ℕ → Found
acc_f zero = miss
acc_f (suc k) = hit (suc k) 0

abbrev pub later : Found → Found → Found
later miss b = b
later (hit k n) b = hit k (suc n)

abbrev pub by_table : ℕ → List ℕ → Found
by_table n [] = acc_f (accepts n)
by_table n (x ∷ xs) = later (by_table (goes n (class x)) xs) (acc_f (accepts n))

up_later : (f a : Found) → first_some (up f) a ≡ later f a
up_later miss a = refl
up_later (hit k n) a = refl

number_known : (a : ℕ) → none_yet (known_number a) ≡ acc_f a
number_known zero = refl
number_known (suc k) = refl

accepts_right : (n : ℕ) → n < 31 → none_yet (accept (state_of n)) ≡ acc_f (accepts n)
accepts_right n h = ap none_yet (accepted n h) ∙ number_known (accepts n)

table_right : (n : ℕ) (cs : List Character) → n < 31 → matched (state_of n) cs ≡ by_table n (map code_point cs)
table_right n [] h = ap (λ (x : TokenKind × ℕ). first_some (found x) (none_yet (accept (state_of n)))) (no_text (state_of n)) ∙ accepts_right n h
table_right n (c ∷ cs) h =
    let m = goes n (class (code_point c)) in
    ap₂ first_some (rules_step (state_of n) c cs ∙ ap (λ (rs : List Rule). up (matched rs cs)) (steps n c h)) (accepts_right n h)
    ∙ up_later (matched (state_of m) cs) (acc_f (accepts n))
    ∙ ap (λ (f : Found). later f (acc_f (accepts n))) (table_right m cs (goes_small n (class (code_point c)) h (class_small (code_point c))))

first_miss : (f : Found) → first_some f miss ≡ f
first_miss miss = refl
first_miss (hit k n) = refl

-- the definition's longest match is the automaton's
pub rules_right : (cs : List Character) → found (longest_rule rules cs) ≡ by_table 0 (map code_point cs)
unfolding words rules accepts states
rules_right cs = sym (first_miss (found (longest_rule rules cs))) ∙ table_right 0 cs (omega arith)
