-- The tests of bytes that the scanner makes are those of the classes: each by one computed test of all bytes. And where a walk over the
-- bytes that pass a test ends.
use Rattle.std.proofs.Common.{◌≡◌, ℕ, zero, suc, ◌+◌, ◌-◌, ◌<◌, ◌≤◌, Bool, true, false, cond, not, ◌&&◌, ◌||◌, T, ltb, leb, ◌⊎◌, List, length, get_or, drop, nat_eq, sym, refl, ap, ◌∙◌, inl, inr, arith, lit<, lit≤}
use Rattle.std.proofs.lemmas.Bool.{cases_lt}
use Rattle.std.specs.Char.{is_ascii_lowercase, is_ascii_uppercase, is_ascii_digit, is_ascii_whitespace}
use Rattle.eon_laws.proofs.Facts.{within_bounds}
use Rattle.eon_token.specs.declared.token_kind.Quote.{Quote}
use Rattle.eon_token.specs.declared.token_kind.Quote.TheVariants.{Double, Single}
use Rattle.eon_token.specs.Machine.{class, classes, in_classes, span_of, byte_of, class_of, KeepsWhile}
use Rattle.eon_token.proofs.Tests.{below, below_at, eq?, eq?-eq, only_double, only_single, only, only?, outside?, alone_outside}
use Rattle.eon_token.proofs.Steps.{span_yes, span_no, span_end}

-- two tests that answer alike at each byte
unfoldable alike : (ℕ → Bool) → (ℕ → Bool) → ℕ → Bool
alike f g b = eq? (f b) (g b)

same : (f g : ℕ → Bool) → T (below 256 (alike f g)) → (b : ℕ) → b < 256 → f b ≡ g b
unfolding alike
same f g t b h = eq?-eq (f b) (g b) (below_at 256 (alike f g) t b h)

pub blank_is : (b : ℕ) → b < 256 → in_classes 0 1 b ≡ is_ascii_whitespace b
unfolding alike eq? class classes
blank_is = same (in_classes 0 1) is_ascii_whitespace tt

pub letter_is : (b : ℕ) → b < 256 → in_classes 2 2 b ≡ (is_ascii_lowercase b || (is_ascii_uppercase b || nat_eq b 95))
unfolding alike eq? class classes
letter_is = same (in_classes 2 2) (λ b. is_ascii_lowercase b || (is_ascii_uppercase b || nat_eq b 95)) tt

pub word_is : (b : ℕ) → b < 256 → in_classes 2 3 b ≡ (cond (leb 97 b) (leb b 122) (in_classes 2 2 b || is_ascii_digit b))
unfolding alike eq? class classes
word_is = same (in_classes 2 3) (λ b. cond (leb 97 b) (leb b 122) (in_classes 2 2 b || is_ascii_digit b)) tt

pub number_is : (b : ℕ) → b < 256 → in_classes 2 4 b ≡ cond (is_ascii_digit b) true (in_classes 2 3 b || (nat_eq b 46 || (nat_eq b 45 || nat_eq b 43)))
unfolding alike eq? class classes
number_is = same (in_classes 2 4) (λ b. cond (is_ascii_digit b) true (in_classes 2 3 b || (nat_eq b 46 || (nat_eq b 45 || nat_eq b 43)))) tt

pub further_is : (b : ℕ) → b < 256 → in_classes 5 5 b ≡ (leb 128 b && ltb b 192)
unfolding alike eq? class classes
further_is = same (in_classes 5 5) (λ b. leb 128 b && ltb b 192) tt

-- the classes but one are those of all bytes but one
not_not : (a b : Bool) → a ≡ not b → b ≡ not a
not_not true true e = cc
not_not true false e = refl
not_not false true e = refl
not_not false false e = cc

pub feed_is : (b : ℕ) → in_classes 1 18 b ≡ not (nat_eq b 10)
unfolding outside? eq? class classes
feed_is b = not_not (nat_eq b 10) (in_classes 1 18 b) (alone_outside 10 1 18 tt (lit< tt) (lit≤ tt) (lit≤ tt) b)

pub single_is : (b : ℕ) → in_classes 0 17 b ≡ not (nat_eq b 39)
unfolding outside? eq? class classes
single_is b = not_not (nat_eq b 39) (in_classes 0 17 b) (alone_outside 39 0 17 tt (lit< tt) (lit≤ tt) (lit≤ tt) b)

-- what begins an identifier, and else a number
pub letter_class : (b : ℕ) → in_classes 2 2 b ≡ true → class b ≡ 2
letter_class b e = omega (arith, within_bounds 2 2 (class b) e)

pub number_class : (b : ℕ) → in_classes 2 2 b ≡ false → in_classes 2 4 b ≡ true → (class b ≡ 3) ⊎ (class b ≡ 4)
number_class b n e = at (cases_lt (class b) 4)
  where
    bounds : (2 ≤ class b) × (class b ≤ 4)
    bounds = within_bounds 2 4 (class b) e

    not_two : class b ≡ 2 → ⊥
    not_two z = let x : true ≡ false = sym (ap (λ k. leb 2 k && leb k 2) z) ∙ n in cc

    at : (class b < 4) ⊎ (4 ≤ class b) → (class b ≡ 3) ⊎ (class b ≡ 4)
    at (inl l) = inl (omega (arith, bounds, not_two))
    at (inr l) = inr (omega (arith, bounds, l))

-- a slash and its class
pub slash_class : (b : ℕ) → b ≡ 47 → class b ≡ 7
unfolding class classes
slash_class b e = ap class e

pub only_slash : (b : ℕ) → class b ≡ 7 → b ≡ 47
unfolding only? class classes
only_slash = only 7 47 tt (λ e. omega arith) (λ e. omega arith)

-- a quote and its class
pub quote_class : (q : Quote) → class (byte_of q) ≡ class_of q
unfolding class classes
quote_class Double = refl
quote_class Single = refl

pub only_quote : (q : Quote) (b : ℕ) → class b ≡ class_of q → b ≡ byte_of q
only_quote Double b e = only_double b e
only_quote Single b e = only_single b e

module _ (passes : ℕ → Bool → Type 0) (s : List ℕ) where
  -- the bytes that pass are those of the classes lo to hi
  pub span_keeps : (lo hi : ℕ) → ((b : ℕ) (x : Bool) → passes b x → in_classes lo hi b ≡ x) → (from end : ℕ) → KeepsWhile passes s from end → end ≡ from + span_of lo hi (drop from s)
  span_keeps lo hi as_classes from end k = go (end - from) from (omega (arith, k.behind)) (λ i h l. k.inside i h l)
    where
      none : (i : ℕ) → i ≡ end → span_of lo hi (drop i s) ≡ 0
      none i e = at (cases_lt end (length s))
        where
          at : (end < length s) ⊎ (length s ≤ end) → span_of lo hi (drop i s) ≡ 0
          at (inl l) = span_no s i lo hi (omega arith) (ap (λ j. in_classes lo hi (get_or s j 0)) e ∙ as_classes (get_or s end 0) false (k.stops l))
          at (inr l) = span_end s i lo hi (omega (arith, l))

      go : (n i : ℕ) → i + n ≡ end → ((j : ℕ) → i ≤ j → j < end → passes (get_or s j 0) true) → end ≡ i + span_of lo hi (drop i s)
      go zero i e f = omega (arith, none i (omega arith))
      go (suc n) i e f =
          let on : span_of lo hi (drop i s) ≡ suc (span_of lo hi (drop (i + 1) s)) = span_yes s i lo hi (omega (arith, k.within)) (as_classes (get_or s i 0) true (f i (omega arith) (omega arith))) in
          omega (arith, go n (i + 1) (omega arith) (λ j h l. f j (omega arith) l))
