-- The automaton is the rules': each state is named by a text that leads there, and one computed test says that the derivatives of the states
-- are the states where the table goes.
use Rattle.std.proofs.Common.{◌≡◌, ℕ, zero, suc, ◌<◌, ◌≤◌, Bool, true, false, cond, ◌&&◌, T, eqb, ltb, ◌⊎◌, List, [], ◌∷◌, get_or, Some, None, Option, sym, refl, ap, ◌∙◌, ap₂, inl, inr, arith, ltb→lt, ne_eqb}
use Rattle.std.proofs.lemmas.Bool.{lt-leb, cases_lt}
use mathlib.Core.Bool.{and-false}
use Prim.Native.Char.{code}
use Prim.Native.String.{String, [] as []ˢ, ◌∷◌ as ◌∷ˢ◌}
use Rattle.eon_spec.specs.Base.{within}
use Rattle.eon_spec.specs.Utf8.{Character, code_point}
use Rattle.eon_spec.specs.Regex.{Item, ◌to◌, only, in_item, in_class, Regex, never, empty, one_of, none_of, ◌then◌, ◌or◌, many, nullable, and_then, or_else, deriv}
use Rattle.eon_spec.specs.Token.{kind_number, Rule, ◌is◌, rules}
use Rattle.eon_token.specs.Machine.{classes, class, states, goes, accepts}
use Rattle.eon_token.proofs.Tests.{below, below_at, tabled, tabled_at, and_left, and_right, class_small, middle, past, eq?, eq?-eq}

-- a character of each class
unfoldable pub reps : List ℕ
reps = 10 ∷ 32 ∷ 97 ∷ 48 ∷ 43 ∷ 128 ∷ 0 ∷ 47 ∷ 34 ∷ 92 ∷ 91 ∷ 93 ∷ 123 ∷ 125 ∷ 40 ∷ 41 ∷ 58 ∷ 44 ∷ 39 ∷ []

unfoldable pub rep : ℕ → ℕ
rep k = get_or reps k 0

-- a text that leads to each state
unfoldable pub words : List String
words =
    []ˢ ∷ ("!" ∷ˢ []ˢ) ∷ ("a" ∷ˢ []ˢ) ∷ ("0" ∷ˢ []ˢ) ∷ ("/" ∷ˢ []ˢ) ∷ ("\"" ∷ˢ []ˢ) ∷ ("[" ∷ˢ []ˢ) ∷ ("]" ∷ˢ []ˢ) ∷ ("{" ∷ˢ []ˢ) ∷ ("}" ∷ˢ []ˢ) ∷ ("(" ∷ˢ []ˢ) ∷ (")" ∷ˢ []ˢ) ∷ (":" ∷ˢ []ˢ) ∷ ("," ∷ˢ []ˢ) ∷ ("'" ∷ˢ []ˢ) ∷ "//" ∷ "\"!" ∷ "\"\"" ∷ "\"\\" ∷ "'!" ∷ "''" ∷ "\"!\"" ∷ "\"\"\"" ∷ "'!'" ∷ "'''" ∷ "\"\"\"\"" ∷ "''''" ∷ "\"\"\"\"\"" ∷ "'''''" ∷ "\"\"\"\"\"\"" ∷ "''''''" ∷ []

abbrev pub deriv_rules : List Rule → Character → List Rule
deriv_rules [] c = []
deriv_rules ((k is r) ∷ rs) c = (k is deriv r c) ∷ deriv_rules rs c

abbrev pub after : List Rule → String → List Rule
after rs []ˢ = rs
after rs (c ∷ˢ s) = after (deriv_rules rs (code c ∷ [])) s

abbrev pub state_of : ℕ → List Rule
state_of n = after rules (get_or words n []ˢ)

-- the table is closed
all_closed : tabled 31 (λ n. tabled 19 (λ k. deriv_rules (state_of n) (rep k ∷ []))) ≡ tabled 31 (λ n. tabled 19 (λ k. state_of (goes n k)))
unfolding words states reps rep goes rules deriv
all_closed = refl

closed : (n k : ℕ) → n < 31 → k < 19 → deriv_rules (state_of n) (rep k ∷ []) ≡ state_of (goes n k)
closed n k hn hk =
    tabled_at 19 (λ j. deriv_rules (state_of n) (rep j ∷ [])) (λ j. state_of (goes n j))
    (tabled_at 31 (λ m. tabled 19 (λ j. deriv_rules (state_of m) (rep j ∷ []))) (λ m. tabled 19 (λ j. state_of (goes m j))) all_closed n hn) k hk

-- the number of the last rule that matches the empty text
abbrev pub or_mine : Option ℕ → Bool → ℕ → Option ℕ
or_mine (Some j) b k = Some j
or_mine None true k = Some k
or_mine None false k = None

abbrev pub accept : List Rule → Option ℕ
accept [] = None
accept ((k is r) ∷ rs) = or_mine (accept rs) (nullable r) (kind_number k)

abbrev pub known_number : ℕ → Option ℕ
known_number zero = None
known_number (suc k) = Some (suc k)

all_accept : tabled 31 (λ n. accept (state_of n)) ≡ tabled 31 (λ n. known_number (accepts n))
unfolding words states accepts rules deriv
all_accept = refl

pub accepted : (n : ℕ) → n < 31 → accept (state_of n) ≡ known_number (accepts n)
accepted n h = tabled_at 31 (λ m. accept (state_of m)) (λ m. known_number (accepts m)) all_accept n h

-- a class of a rule does not tell a character from the one of its class: its items lie within 1 to 127
unfoldable low_item : Item → Bool
low_item (a to z) = ltb 0 (code a) && ltb (code z) 128
low_item (only a) = ltb 0 (code a) && ltb (code a) 128

unfoldable low : List Item → Bool
low [] = true
low (i ∷ k) = low_item i && low k

-- a character that no item holds
abbrev Outside : ℕ → Type 0
Outside x = (x ≡ 0) ⊎ (128 ≤ x)

out_range : (a z x : ℕ) → 0 < a → z < 128 → Outside x → within a z x ≡ false
out_range a z x p q (inl h) = simp (lt-leb a x (omega arith))
out_range a z x p q (inr h) = simp (lt-leb x z (omega arith), and-false)

out_one : (a x : ℕ) → 0 < a → a < 128 → Outside x → eqb a x ≡ false
out_one a x p q (inl h) = ne_eqb a x (omega arith)
out_one a x p q (inr h) = ne_eqb a x (omega arith)

out_item : (i : Item) (x : ℕ) → T (low_item i) → Outside x → in_item i (x ∷ []) ≡ false
unfolding low_item
out_item (a to z) x t h = out_range (code a) (code z) x (ltb→lt 0 (code a) (and_left (ltb 0 (code a)) (ltb (code z) 128) t)) (ltb→lt (code z) 128 (and_right (ltb 0 (code a)) (ltb (code z) 128) t)) h
out_item (only a) x t h = out_one (code a) x (ltb→lt 0 (code a) (and_left (ltb 0 (code a)) (ltb (code a) 128) t)) (ltb→lt (code a) 128 (and_right (ltb 0 (code a)) (ltb (code a) 128) t)) h

out : (k : List Item) (x : ℕ) → T (low k) → Outside x → in_class k (x ∷ []) ≡ false
unfolding low
out [] x t h = refl
out (i ∷ k) x t h = rw (out_item i x (and_left (low_item i) (low k) t) h, out k x (and_right (low_item i) (low k) t) h)

by_code : (k : List Item) (c : Character) → in_class k c ≡ in_class k (code_point c ∷ [])
by_code [] c = refl
by_code ((a to z) ∷ k) c = rw (by_code k c)
by_code (only a ∷ k) c = rw (by_code k c)

high_reps : (x : ℕ) → 128 ≤ x → Outside (rep (class x))
unfolding rep reps
high_reps x h = go (cases_lt x 192)
  where
    go : (x < 192) ⊎ (192 ≤ x) → Outside (rep (class x))
    go (inl l) = rw (middle x h l) (inr (omega arith))
    go (inr n) = rw (past x n) (inl refl)

unfoldable known : List Item → Bool
known k = low k && below 128 (λ x. eq? (in_class k (x ∷ [])) (in_class k (rep (class x) ∷ [])))

known_class : (k : List Item) (c : Character) → T (known k) → in_class k c ≡ in_class k (rep (class (code_point c)) ∷ [])
unfolding known
known_class k c t = by_code k c ∙ at (cases_lt (code_point c) 128)
  where
    at : (code_point c < 128) ⊎ (128 ≤ code_point c) → in_class k (code_point c ∷ []) ≡ in_class k (rep (class (code_point c)) ∷ [])
    at (inl h) = eq?-eq (in_class k (code_point c ∷ [])) (in_class k (rep (class (code_point c)) ∷ [])) (below_at 128 (λ i. eq? (in_class k (i ∷ [])) (in_class k (rep (class i) ∷ []))) (and_right (low k) _ t) (code_point c) h)
    at (inr n) =
        let l : T (low k) = and_left (low k) _ t in
        let h : 128 ≤ code_point c = n in
        out k (code_point c) l (inr h) ∙ sym (out k (rep (class (code_point c))) l (high_reps (code_point c) h))

known_r : Regex → Bool
known_r never = true
known_r empty = true
known_r (one_of k) = known k
known_r (none_of k) = known k
known_r (a then b) = known_r a && known_r b
known_r (a or b) = known_r a && known_r b
known_r (many a) = known_r a

known_deriv : (r : Regex) (c : Character) → T (known_r r) → deriv r c ≡ deriv r (rep (class (code_point c)) ∷ [])
unfolding known_r deriv
known_deriv never c t = refl
known_deriv empty c t = refl
known_deriv (one_of k) c t = ap (λ (x : Bool). cond x empty never) (known_class k c t)
known_deriv (none_of k) c t = ap (λ (x : Bool). cond x never empty) (known_class k c t)
known_deriv (a then b) c t =
    ap₂ (λ (x y : Regex). elim (nullable a) [ true ↦ or_else (and_then x b) y | false ↦ and_then x b ])
    (known_deriv a c (and_left (known_r a) (known_r b) t)) (known_deriv b c (and_right (known_r a) (known_r b) t))
known_deriv (a or b) c t = ap₂ or_else (known_deriv a c (and_left (known_r a) (known_r b) t)) (known_deriv b c (and_right (known_r a) (known_r b) t))
known_deriv (many a) c t = ap (λ (x : Regex). and_then x (many a)) (known_deriv a c t)

known_s : List Rule → Bool
known_s [] = true
known_s ((k is r) ∷ rs) = known_r r && known_s rs

known_derivs : (rs : List Rule) (c : Character) → T (known_s rs) → deriv_rules rs c ≡ deriv_rules rs (rep (class (code_point c)) ∷ [])
unfolding known_s
known_derivs [] c t = refl
known_derivs ((k is r) ∷ rs) c t = rw (known_deriv r c (and_left (known_r r) (known_s rs) t), known_derivs rs c (and_right (known_r r) (known_s rs) t))

all_known : T (below 31 (λ n. known_s (state_of n)))
unfolding known_s known_r known low low_item eq? class classes rep reps words rules deriv
all_known = tt

-- a character takes a state where the table says
pub steps : (n : ℕ) (c : Character) → n < 31 → deriv_rules (state_of n) c ≡ state_of (goes n (class (code_point c)))
steps n c h = known_derivs (state_of n) c (below_at 31 (λ m. known_s (state_of m)) all_known n h) ∙ closed n (class (code_point c)) h (class_small (code_point c))
