-- A token stays the longest one before any byte that layout writes behind it.
use Rattle.std.proofs.Common.{◌≡◌, ℕ, suc, Bool, true, false, ◌||◌, eqb, List, [], ◌∷◌, ◌++◌, length, take, drop, sym, refl, ◌∙◌}
use Rattle.std.proofs.lemmas.Bool.{true_from_ne_false}
use Rattle.eon_laws.proofs.Facts.{nor_left, nor_right, clash, or-false, eq_of}
use Rattle.eon_spec.specs.Base.{within}
use Rattle.eon_spec.specs.Utf8.{Character, code_point}
use Rattle.eon_spec.specs.Regex.{Item, ◌to◌, only, in_class, Regex, never, one_of, none_of, ◌then◌, many, char, text, nullable, deriv}
use Rattle.eon_laws.proofs.Regex.{derivs, Ends}
use Rattle.eon_spec.specs.declared.token_kind.TokenKind.{TokenKind}
use Rattle.eon_spec.specs.declared.token_kind.TokenKind.TheVariants.{Invalid, Comment, OpenList, CloseList, OpenBrace, CloseBrace, OpenParen, CloseParen, Colon, Comma, Identifier, Number, DoubleQuotedString, SingleQuotedString, MultilineBasicString, MultilineLiteralString}
use Rattle.eon_spec.specs.Token.{rules, longest_rule}
use Rattle.eon_laws.proofs.Apart.{never_stays, never_ends, dead_nullable, whole_nullable, EndsAll, same_longest, ends_append, all_apart, apart_ends, Own, found_rule}
use Rattle.eon_round_trip.proofs.Quotes.{one_true, one_false, is_q, long, NoQuote, Quoted, short_ends, long_ends, plain, plain_closes, plain_ended, escaping, escaping_closes, escaping_ended}
use Rattle.eon_laws.proofs.Word.{IsString, double, single, basic, literal}

abbrev letters : List Item
letters = "a" to "z" ∷ "A" to "Z" ∷ only "_" ∷ []

abbrev letters_digits : List Item
letters_digits = "a" to "z" ∷ "A" to "Z" ∷ "0" to "9" ∷ only "_" ∷ []

abbrev signs_digits : List Item
signs_digits = only "+" ∷ only "-" ∷ "0" to "9" ∷ only "." ∷ []

abbrev numeric : List Item
numeric = "0" to "9" ∷ "a" to "z" ∷ "A" to "Z" ∷ only "." ∷ only "+" ∷ only "-" ∷ only "_" ∷ []

-- the rule of each kind
abbrev rule_of : TokenKind → Regex
rule_of Invalid = never
rule_of Comment = text "//" then many (none_of (only "\n" ∷ []))
rule_of OpenList = char "["
rule_of CloseList = char "]"
rule_of OpenBrace = char "{"
rule_of CloseBrace = char "}"
rule_of OpenParen = char "("
rule_of CloseParen = char ")"
rule_of Colon = char ":"
rule_of Comma = char ","
rule_of Identifier = one_of letters then many (one_of letters_digits)
rule_of Number = one_of signs_digits then many (one_of numeric)
rule_of DoubleQuotedString = char "\"" then escaping
rule_of SingleQuotedString = char "'" then plain "'"
rule_of MultilineBasicString = long "\""
rule_of MultilineLiteralString = long "'"

own_rules : Own rule_of rules
unfolding rules
own_rules = (refl, (refl, (refl, (refl, (refl, (refl, (refl, (refl, (refl, (refl, (refl, (refl, (refl, (refl, (refl, tt)))))))))))))))

-- the text behind is empty or begins with a character of no such class
abbrev NotIn : List Item → List Character → Type 0
NotIn k [] = Unit {0}
NotIn k (c ∷ t) = in_class k c ≡ false

many_ends : (k : List Item) (s t : List Character) → NotIn k t → Ends (derivs (many (one_of k)) s) t
unfolding deriv
many_ends k [] [] n = tt
many_ends k [] (c ∷ t) n = rw (one_false k c n)
many_ends k (c ∷ s) t n = go (in_class k c) refl (many_ends k s t n)
  where
    go : (b : Bool) → in_class k c ≡ b → Ends (derivs (many (one_of k)) s) t → Ends (derivs (many (one_of k)) (c ∷ s)) t
    go true e h = rw (one_true k c e) h
    go false e h = rw (one_false k c e, never_stays s) (never_ends t)

run_ends : (f k : List Item) (c : Character) (s t : List Character) → in_class f c ≡ true → NotIn k t → Ends (derivs (one_of f then many (one_of k)) (c ∷ s)) t
unfolding deriv
run_ends f k c s t e n = rw (one_true f c e) (many_ends k s t n)

run_first : (f : List Item) (r : Regex) (c : Character) (s : List Character) → nullable (derivs (one_of f then r) (c ∷ s)) ≡ true → in_class f c ≡ true
unfolding deriv
run_first f r c s e = true_from_ne_false (in_class f c) λ p. clash e (dead_nullable (one_of f then r) c s (rw (one_false f c p)))

exactly : (n : ℕ) (c : Character) → eqb n (code_point c) ≡ true → code_point c ≡ n
exactly n c e = sym (eq_of n (code_point c) e)

-- the rules around that of identifiers, and around that of numbers, for first characters lo .. hi
module _ (lo hi : ℕ) (c : Character) (s t : List Character) (h : within lo hi (code_point c) ≡ true) where
  at_9 : all_apart lo hi (take 9 rules) ≡ true → all_apart lo hi (drop 10 rules) ≡ true → Ends (derivs (rule_of Identifier) (c ∷ s)) t → EndsAll rules (c ∷ s) t
  unfolding rules
  at_9 p q e = ends_append (take 9 rules) (drop 9 rules) (c ∷ s) t (apart_ends lo hi (take 9 rules) c s t p h) (e, apart_ends lo hi (drop 10 rules) c s t q h)

  at_10 : all_apart lo hi (take 10 rules) ≡ true → all_apart lo hi (drop 11 rules) ≡ true → Ends (derivs (rule_of Number) (c ∷ s)) t → EndsAll rules (c ∷ s) t
  unfolding rules
  at_10 p q e = ends_append (take 10 rules) (drop 10 rules) (c ∷ s) t (apart_ends lo hi (take 10 rules) c s t p h) (e, apart_ends lo hi (drop 11 rules) c s t q h)

identifier_ends : (c : Character) (s t : List Character) → in_class letters c ≡ true → Ends (derivs (rule_of Identifier) (c ∷ s)) t → EndsAll rules (c ∷ s) t
unfolding rules
identifier_ends c s t i e = go (within 97 122 (code_point c)) (within 65 90 (code_point c)) refl refl
  where
    go : (x y : Bool) → within 97 122 (code_point c) ≡ x → within 65 90 (code_point c) ≡ y → EndsAll rules (c ∷ s) t
    go true y p q = at_9 97 122 c s t p refl refl e
    go false true p q = at_9 65 90 c s t q refl refl e
    go false false p q = at_9 95 95 c s t (rw (exactly 95 c (or-false (eqb 95 (code_point c)) (rw (p, q) at i)))) refl refl e

number_ends : (c : Character) (s t : List Character) → in_class signs_digits c ≡ true → Ends (derivs (rule_of Number) (c ∷ s)) t → EndsAll rules (c ∷ s) t
unfolding rules
number_ends c s t i e = go (eqb 43 (code_point c)) (eqb 45 (code_point c)) (within 48 57 (code_point c)) refl refl refl
  where
    go : (x y z : Bool) → eqb 43 (code_point c) ≡ x → eqb 45 (code_point c) ≡ y → within 48 57 (code_point c) ≡ z → EndsAll rules (c ∷ s) t
    go true y z p q r = at_10 43 43 c s t (rw (exactly 43 c p)) refl refl e
    go false true z p q r = at_10 45 45 c s t (rw (exactly 45 c q)) refl refl e
    go false false true p q r = at_10 48 57 c s t r refl refl e
    go false false false p q r = at_10 46 46 c s t (rw (exactly 46 c (or-false (eqb 46 (code_point c)) (rw (p, q, r) at i)))) refl refl e

-- the two rules of each quote, among those that cannot begin with it
double_ends : (s t : List Character) → Quoted "\"" s × Ends (derivs (rule_of DoubleQuotedString) s) t × Ends (derivs (rule_of MultilineBasicString) s) t → EndsAll rules s t
unfolding rules
double_ends [] t h = absurd h.0
double_ends (c ∷ s) t h =
    let w : within 34 34 (code_point c) ≡ true = rw (exactly 34 c (or-false (eqb 34 (code_point c)) h.0)) in
    ends_append (take 11 rules) (drop 11 rules) (c ∷ s) t (apart_ends 34 34 (take 11 rules) c s t refl w)
    (h.1, ((apart_ends 34 34 (take 1 (drop 12 rules)) c s t refl w).0, (h.2, apart_ends 34 34 (drop 14 rules) c s t refl w)))

single_ends : (s t : List Character) → Quoted "'" s × Ends (derivs (rule_of SingleQuotedString) s) t × Ends (derivs (rule_of MultilineLiteralString) s) t → EndsAll rules s t
unfolding rules
single_ends [] t h = absurd h.0
single_ends (c ∷ s) t h =
    let w : within 39 39 (code_point c) ≡ true = rw (exactly 39 c (or-false (eqb 39 (code_point c)) h.0)) in
    ends_append (take 12 rules) (drop 12 rules) (c ∷ s) t (apart_ends 39 39 (take 12 rules) c s t refl w)
    (h.1, ((apart_ends 39 39 (take 1 (drop 13 rules)) c s t refl w).0, (h.2, tt)))

-- what layout may write behind a word: no character that could go on with it
abbrev goes_on : Character → Bool
goes_on c = in_class letters_digits c || (in_class numeric c || (in_class (is_q "\"") c || in_class (is_q "'") c))

abbrev pub Stops : List Character → Type 0
Stops [] = Unit {0}
Stops (c ∷ t) = goes_on c ≡ false

no_letter : (t : List Character) → Stops t → NotIn letters_digits t
no_letter [] h = tt
no_letter (c ∷ t) h = nor_left (in_class letters_digits c) (in_class numeric c || (in_class (is_q "\"") c || in_class (is_q "'") c)) h

no_others : (c : Character) → goes_on c ≡ false → in_class numeric c || (in_class (is_q "\"") c || in_class (is_q "'") c) ≡ false
no_others c h = nor_right (in_class letters_digits c) (in_class numeric c || (in_class (is_q "\"") c || in_class (is_q "'") c)) h

no_digit : (t : List Character) → Stops t → NotIn numeric t
no_digit [] h = tt
no_digit (c ∷ t) h = nor_left (in_class numeric c) (in_class (is_q "\"") c || in_class (is_q "'") c) (no_others c h)

no_quotes : (c : Character) → goes_on c ≡ false → in_class (is_q "\"") c || in_class (is_q "'") c ≡ false
no_quotes c h = nor_right (in_class numeric c) (in_class (is_q "\"") c || in_class (is_q "'") c) (no_others c h)

no_double : (t : List Character) → Stops t → NoQuote "\"" t
no_double [] h = tt
no_double (c ∷ t) h = nor_left (in_class (is_q "\"") c) (in_class (is_q "'") c) (no_quotes c h)

no_single : (t : List Character) → Stops t → NoQuote "'" t
no_single [] h = tt
no_single (c ∷ t) h = nor_right (in_class (is_q "\"") c) (in_class (is_q "'") c) (no_quotes c h)

-- the kinds of words that layout copies
pub data IsLeaf : TokenKind → Type 0 where
  identifier_leaf : IsLeaf Identifier
  number_leaf : IsLeaf Number
  string_leaf : {k : TokenKind} → IsString k → IsLeaf k

all_end : (k : TokenKind) → IsLeaf k → (c : Character) (s t : List Character) → nullable (derivs (rule_of k) (c ∷ s)) ≡ true → Stops t → EndsAll rules (c ∷ s) t
all_end k identifier_leaf c s t e h =
    let f = run_first letters (many (one_of letters_digits)) c s e in
    identifier_ends c s t f (run_ends letters letters_digits c s t f (no_letter t h))
all_end k number_leaf c s t e h =
    let f = run_first signs_digits (many (one_of numeric)) c s e in
    number_ends c s t f (run_ends signs_digits numeric c s t f (no_digit t h))
all_end k (string_leaf double) c s t e h = double_ends (c ∷ s) t (short_ends "\"" escaping refl escaping_closes escaping_ended (c ∷ s) t e (no_double t h))
all_end k (string_leaf single) c s t e h = single_ends (c ∷ s) t (short_ends "'" (plain "'") refl (plain_closes "'") (plain_ended "'") (c ∷ s) t e (no_single t h))
all_end k (string_leaf basic) c s t e h = double_ends (c ∷ s) t (long_ends "\"" escaping refl escaping_closes escaping_ended (c ∷ s) t e)
all_end k (string_leaf literal) c s t e h = single_ends (c ∷ s) t (long_ends "'" (plain "'") refl (plain_closes "'") (plain_ended "'") (c ∷ s) t e)

pub stays : (k : TokenKind) → IsLeaf k → (c : Character) (s t : List Character) → longest_rule rules (c ∷ s) ≡ (k, suc (length s)) → Stops t → longest_rule rules ((c ∷ s) ++ t) ≡ (k, suc (length s))
stays k l c s t e h =
    same_longest rules (c ∷ s) t (all_end k l c s t (whole_nullable (rule_of k) c s (found_rule rule_of rules (c ∷ s) k (length s) own_rules e)) h) ∙ e
