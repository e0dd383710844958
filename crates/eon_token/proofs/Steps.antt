-- What the loops need: one more byte of a span or of the automaton's run, and where single states go.
use Rattle.std.proofs.Common.{◌≡◌, ℕ, zero, suc, ◌+◌, ◌-◌, ◌<◌, ◌≤◌, Bool, true, false, cond, ◌&&◌, ◌||◌, T, eqb, ltb, leb, ◌⊎◌, List, [], ◌∷◌, length, get_or, drop, is_some, Some, None, Option, sym, refl, ap, ◌∙◌, subst, ap₂, inl, inr, le_of_suc-le-suc, not-suc-le-zero, add-zero, add-one, arith, eqb→eq, ltb→lt, drop_of_length-le, drop-cons, ne_eqb}
use Rattle.std.proofs.lemmas.Bool.{cases_lt}
use Rattle.eon_token.specs.Machine.{Found, miss, hit, class, classes, states, goes, accepts, upd, run, in_classes, one_byte_kind, span_of, class_of, one_s, inside_s, two_s, multi_s, plain_k, multi_k, finish, from_b}
use Rattle.eon_spec.specs.declared.token_kind.TokenKind.{TokenKind}
use Rattle.eon_spec.specs.Token.{kind_number}
use Rattle.eon_token.specs.Placed.{kind_of}
use Rattle.eon_token.specs.declared.token_kind.Quote.{Quote}
use Rattle.eon_token.specs.declared.token_kind.Quote.TheVariants.{Double, Single}
use Rattle.eon_token.specs.declared.token_kind.PlacedToken.{PlacedToken}
use Rattle.eon_token.proofs.Tests.{below, below_at, class_small, only_feed, only_double, only_backslash, and_left, and_right, or-false}

module _ (text : List ℕ) (i : ℕ) where
  cons : i < length text → drop i text ≡ get_or text i 0 ∷ drop (i + 1) text
  cons h = rw (add-one, drop-cons text i 0)

  pub span_yes : (lo hi : ℕ) → i < length text → in_classes lo hi (get_or text i 0) ≡ true → span_of lo hi (drop i text) ≡ suc (span_of lo hi (drop (i + 1) text))
  span_yes lo hi h e = rw (cons h) (rw e)

  pub span_no : (lo hi : ℕ) → i < length text → in_classes lo hi (get_or text i 0) ≡ false → span_of lo hi (drop i text) ≡ 0
  span_no lo hi h e = rw (cons h) (rw e)

  pub span_end : (lo hi : ℕ) → length text ≤ i → span_of lo hi (drop i text) ≡ 0
  span_end lo hi h = rw (drop_of_length-le text h)

  pub run_in : (n : ℕ) (best : Found) → i < length text → run n best i (drop i text) ≡ run (goes n (class (get_or text i 0))) (upd (accepts n) best i) (i + 1) (drop (i + 1) text)
  run_in n best h = ap (run n best i) (cons h)

  pub run_end : (n : ℕ) (best : Found) → length text ≤ i → run n best i (drop i text) ≡ upd (accepts n) best i
  run_end n best h = ap (run n best i) (drop_of_length-le text h)

-- at each class but two
unfoldable pub other? : ℕ → ℕ → ℕ → ℕ → ℕ → Bool
other? n m a b k = eqb k a || (eqb k b || eqb (goes n k) m)

other_than : (n m a b : ℕ) → T (below 19 (other? n m a b)) → (k : ℕ) → k < 19 → (k ≡ a → ⊥) → (k ≡ b → ⊥) → goes n k ≡ m
unfolding other?
other_than n m a b t k h p q =
    eqb→eq (goes n k) m
    (or-false (eqb k b) (eqb (goes n k) m) (ne_eqb k b q) (or-false (eqb k a) (eqb k b || eqb (goes n k) m) (ne_eqb k a p) (below_at 19 (other? n m a b) t k h)))

-- the state that accepts nothing any more
dead_at : T (below 19 (λ j. eqb (goes 1 j) 1))
unfolding goes states
dead_at = tt

pub dead : (best : Found) (i : ℕ) (l : List ℕ) → run 1 best i l ≡ best
unfolding accepts states
dead best i [] = refl
dead best i (b ∷ l) =
    ap (λ (n : ℕ). run n best (i + 1) l) (eqb→eq (goes 1 (class b)) 1 (below_at 19 (λ j. eqb (goes 1 j) 1) dead_at (class b) (class_small b)))
    ∙ dead best (i + 1) l

-- a state from which every class leads there
unfoldable pub final? : ℕ → ℕ → Bool
final? n k = eqb (goes n k) 1

pub final : (n : ℕ) → T (below 19 (final? n)) → (best : Found) (i : ℕ) (l : List ℕ) → run n best i l ≡ upd (accepts n) best i
unfolding final?
final n t best i [] = refl
final n t best i (b ∷ l) =
    ap (λ (m : ℕ). run m (upd (accepts n) best i) (i + 1) l) (eqb→eq (goes n (class b)) 1 (below_at 19 (final? n) t (class b) (class_small b)))
    ∙ dead (upd (accepts n) best i) (i + 1) l

-- what was found before counts only where nothing is found later
abbrev pub first_some : Found → Found → Found
first_some miss b = b
first_some (hit k e) b = hit k e

first_of_miss : (f b : Found) → first_some (first_some f miss) b ≡ first_some f b
first_of_miss miss b = refl
first_of_miss (hit k e) b = refl

first_of_hit : (f b : Found) (k i : ℕ) → first_some (first_some f (hit k i)) b ≡ first_some f (hit k i)
first_of_hit miss b k i = refl
first_of_hit (hit k' e) b k i = refl

pub run_best : (n : ℕ) (best : Found) (i : ℕ) (l : List ℕ) → run n best i l ≡ first_some (run n miss i l) best
run_best n best i [] = at (accepts n)
  where
    at : (a : ℕ) → upd a best i ≡ first_some (upd a miss i) best
    at zero = refl
    at (suc k) = refl
run_best n best i (b ∷ l) =
    run_best (goes n (class b)) (upd (accepts n) best i) (i + 1) l
    ∙ at (accepts n)
    ∙ ap (λ (f : Found). first_some f best) (sym (run_best (goes n (class b)) (upd (accepts n) miss i) (i + 1) l))
  where
    at : (a : ℕ) → first_some (run (goes n (class b)) miss (i + 1) l) (upd a best i) ≡ first_some (first_some (run (goes n (class b)) miss (i + 1) l) (upd a miss i)) best
    at zero = sym (first_of_miss (run (goes n (class b)) miss (i + 1) l) best)
    at (suc k) = sym (first_of_hit (run (goes n (class b)) miss (i + 1) l) best (suc k) i)

module _ (text : List ℕ) (i : ℕ) (h : i < length text) where
  -- from a state that accepts nothing, by the class of the byte at i
  pub move : (n m k : ℕ) (best : Found) → class (get_or text i 0) ≡ k → goes n k ≡ m → accepts n ≡ 0 → run n best i (drop i text) ≡ run m best (i + 1) (drop (i + 1) text)
  move n m k best e g z = run_in text i n best h ∙ ap₂ (λ (s a : ℕ). run s (upd a best i) (i + 1) (drop (i + 1) text)) (ap (goes n) e ∙ g) z

-- inside double quotes, of a text of n bytes of which r are left, and b of these is the next
module _ (n : ℕ) {r : List ℕ} {b : ℕ} {l : List ℕ} (w : length r ≤ n) (p : r ≡ b ∷ l) where
  turn : (s m k : ℕ) → class b ≡ k → goes s k ≡ m → accepts s ≡ 0 → run s miss (n - length r) r ≡ run m miss (n - length l) l
  turn s m k e g z =
      let i : n - length r + 1 ≡ n - length l = omega (arith, ap length p) in
      ap (run s miss (n - length r)) p ∙ ap₂ (λ (t a : ℕ). run t (upd a miss (n - length r)) (n - length r + 1) l) (ap (goes s) e ∙ g) z ∙ ap (λ (j : ℕ). run m miss j l) i

  pub dq_close : b ≡ 34 → run 16 miss (n - length r) r ≡ hit 12 (n - length l)
  unfolding class classes goes states accepts final?
  dq_close e = turn 16 21 8 (ap class e) refl refl ∙ final 21 tt miss (n - length l) l

  pub dq_escape : b ≡ 92 → run 16 miss (n - length r) r ≡ run 18 miss (n - length l) l
  unfolding class classes goes states accepts
  dq_escape e = turn 16 18 9 (ap class e) refl refl

  pub dq_on : (b ≡ 34 → ⊥) → (b ≡ 92 → ⊥) → run 16 miss (n - length r) r ≡ run 16 miss (n - length l) l
  unfolding goes states accepts other?
  dq_on q t = turn 16 16 (class b) refl (other_than 16 16 8 9 tt (class b) (class_small b) (λ e. q (only_double b e)) (λ e. t (only_backslash b e))) refl

  pub esc_stop : b ≡ 10 → run 18 miss (n - length r) r ≡ miss
  unfolding class classes goes states accepts
  esc_stop e = turn 18 1 0 (ap class e) refl refl ∙ dead miss (n - length l) l

  pub esc_on : (b ≡ 10 → ⊥) → run 18 miss (n - length r) r ≡ run 16 miss (n - length l) l
  unfolding goes states accepts other?
  esc_on q = let f : class b ≡ 0 → ⊥ = λ e. q (only_feed b e) in turn 18 16 (class b) refl (other_than 18 16 0 0 tt (class b) (class_small b) f f) refl

pub dq_end : (i : ℕ) (r : List ℕ) → length r ≡ 0 → run 16 miss i r ≡ miss
unfolding accepts states
dq_end i [] e = refl
dq_end i (b ∷ l) e = absurd (omega arith)

pub esc_end : (i : ℕ) (r : List ℕ) → length r ≡ 0 → run 18 miss i r ≡ miss
unfolding accepts states
esc_end i [] e = refl
esc_end i (b ∷ l) e = absurd (omega arith)

-- the class of a quote
pub data IsQuote : ℕ → Type 0 where
  dq : IsQuote 8
  sq : IsQuote 18

pub is_quote : (q : Quote) → IsQuote (class_of q)
is_quote Double = dq
is_quote Single = sq

-- inside three quotes of class q, of which n were read last
multi? : ℕ → ℕ → ℕ → Bool
multi? q n k = eqb k q || eqb (goes (multi_s q n) k) (multi_s q 0)

quote? : ℕ → ℕ → Bool
quote? q n = eqb (goes (multi_s q n) q) (multi_s q (suc n)) && eqb (accepts (multi_s q n)) 0

all_multi : {q : ℕ} → IsQuote q → T (below 3 (λ n. below 19 (multi? q n)))
unfolding multi? multi_s goes states
all_multi dq = tt
all_multi sq = tt

all_quote : {q : ℕ} → IsQuote q → T (below 3 (quote? q))
unfolding quote? multi_s goes states accepts
all_quote dq = tt
all_quote sq = tt

pub multi_final : {q : ℕ} → IsQuote q → (best : Found) (i : ℕ) (l : List ℕ) → run (multi_s q 3) best i l ≡ hit (multi_k q) i
unfolding multi_s goes states accepts final?
multi_final dq best i l = final 29 tt best i l
multi_final sq best i l = final 30 tt best i l

module _ {q : ℕ} (quote : IsQuote q) (n : ℕ) (small : n < 3) where
  quote_next : goes (multi_s q n) q ≡ multi_s q (suc n)
  unfolding quote?
  quote_next = eqb→eq (goes (multi_s q n) q) (multi_s q (suc n)) (and_left (eqb (goes (multi_s q n) q) (multi_s q (suc n))) (eqb (accepts (multi_s q n)) 0) (below_at 3 (quote? q) (all_quote quote) n small))

  quiet : accepts (multi_s q n) ≡ 0
  unfolding quote?
  quiet = eqb→eq (accepts (multi_s q n)) 0 (and_right (eqb (goes (multi_s q n) q) (multi_s q (suc n))) (eqb (accepts (multi_s q n)) 0) (below_at 3 (quote? q) (all_quote quote) n small))

  quote_other : (k : ℕ) → k < 19 → (k ≡ q → ⊥) → goes (multi_s q n) k ≡ multi_s q 0
  unfolding multi?
  quote_other k h p = eqb→eq (goes (multi_s q n) k) (multi_s q 0) (or-false (eqb k q) (eqb (goes (multi_s q n) k) (multi_s q 0)) (ne_eqb k q p) (below_at 19 (multi? q n) (below_at 3 (λ m. below 19 (multi? q m)) (all_multi quote) n small) k h))

  module _ (text : List ℕ) (i : ℕ) where
    -- m quotes were read last behind the byte here
    pub multi_on : i < length text → (m : ℕ) → ((class (get_or text i 0) ≡ q) × (m ≡ suc n)) ⊎ ((class (get_or text i 0) ≡ q → ⊥) × (m ≡ 0))
        → run (multi_s q n) miss i (drop i text) ≡ run (multi_s q m) miss (i + 1) (drop (i + 1) text)
    multi_on h m (inl (e, z)) = move text i h (multi_s q n) (multi_s q m) q miss e (quote_next ∙ ap (multi_s q) (sym z)) quiet
    multi_on h m (inr (p, z)) = move text i h (multi_s q n) (multi_s q m) (class (get_or text i 0)) miss refl (quote_other (class (get_or text i 0)) (class_small (get_or text i 0)) p ∙ ap (multi_s q) (sym z)) quiet

    pub multi_end : length text ≤ i → run (multi_s q n) miss i (drop i text) ≡ miss
    multi_end h = run_end text i (multi_s q n) miss h ∙ ap (λ (a : ℕ). upd a miss i) quiet

-- a state that stays on the classes lo to hi, and leaves for good on the others
unfoldable pub stays? : ℕ → ℕ → ℕ → ℕ → Bool
stays? n lo hi k = eqb (goes n k) (cond (leb lo k && leb k hi) n 1)

pub spans : (n lo hi a : ℕ) → T (below 19 (stays? n lo hi)) → accepts n ≡ suc a → (best : Found) (i : ℕ) (l : List ℕ) → run n best i l ≡ hit (suc a) (i + span_of lo hi l)
unfolding stays?
spans n lo hi a t e best i [] = rw (e, add-zero)
spans n lo hi a t e best i (b ∷ l) =
    ap₂ (λ (m x : ℕ). run m (upd x best i) (i + 1) l) (eqb→eq (goes n (class b)) (cond (leb lo (class b) && leb (class b) hi) n 1) (below_at 19 (stays? n lo hi) t (class b) (class_small b))) e
    ∙ at (leb lo (class b) && leb (class b) hi) (spans n lo hi a t e (hit (suc a) i) (i + 1) l)
  where
    at : (t : Bool) → run n (hit (suc a) i) (i + 1) l ≡ hit (suc a) (i + 1 + span_of lo hi l) → run (cond t n 1) (hit (suc a) i) (i + 1) l ≡ hit (suc a) (i + cond t (suc (span_of lo hi l)) 0)
    at true ih = ih ∙ ap (hit (suc a)) (omega arith)
    at false ih = dead (hit (suc a) i) (i + 1) l ∙ ap (hit (suc a)) (omega arith)

-- inside single quotes: the classes 0 to 17 stay, and 18 closes
sq_stays : T (below 19 (λ k. eqb (goes 19 k) (cond (leb 0 k && leb k 17) 19 23)))
unfolding goes states
sq_stays = tt

abbrev Closes : ℕ → List ℕ → Type 0
Closes i l = ((span_of 0 17 l < length l → run 19 miss i l ≡ hit 13 (i + span_of 0 17 l + 1)) × (length l ≤ span_of 0 17 l → run 19 miss i l ≡ miss))

pub sq_run : (i : ℕ) (l : List ℕ) → Closes i l
unfolding accepts states goes final?
sq_run i [] = (λ h. absurd (not-suc-le-zero h), λ h. refl)
sq_run i (b ∷ l) = at (leb 0 (class b) && leb (class b) 17) (goes 19 (class b)) (eqb→eq (goes 19 (class b)) (cond (leb 0 (class b) && leb (class b) 17) 19 23) (below_at 19 (λ k. eqb (goes 19 k) (cond (leb 0 k && leb k 17) 19 23)) sq_stays (class b) (class_small b))) (sq_run (i + 1) l)
  where
    at : (t : Bool) (m : ℕ) → m ≡ cond t 19 23 → Closes (i + 1) l → (cond t (suc (span_of 0 17 l)) 0 < suc (length l) → run m miss (i + 1) l ≡ hit 13 (i + cond t (suc (span_of 0 17 l)) 0 + 1)) × (suc (length l) ≤ cond t (suc (span_of 0 17 l)) 0 → run m miss (i + 1) l ≡ miss)
    at true m e ih = (
      λ h. ap (λ (s : ℕ). run s miss (i + 1) l) e ∙ ih.0 (le_of_suc-le-suc h) ∙ ap (hit 13) (omega arith),
      λ h. ap (λ (s : ℕ). run s miss (i + 1) l) e ∙ ih.1 (le_of_suc-le-suc h),
    )
    at false m e ih = (
      λ h. ap (λ (s : ℕ). run s miss (i + 1) l) e ∙ final 23 tt miss (i + 1) l ∙ ap (hit 13) (omega arith),
      λ h. absurd (not-suc-le-zero h),
    )

pub made : (k : Option TokenKind) (s : ℕ) {a b : ℕ} → a ≡ b → ◌≡◌ {A = PlacedToken} (record { kind = k; start = s; end = a }) (record { kind = k; start = s; end = b })
made k s p = λ i. record { kind = k; start = s; end = p i }

one_same : {q : ℕ} → IsQuote q → T (below 19 (λ k. eqb k q || eqb (goes (one_s q) k) (goes (inside_s q) k)))
unfolding goes states
one_same dq = tt
one_same sq = tt

two_leaves : {q : ℕ} → IsQuote q → T (below 19 (λ k. eqb k q || eqb (goes (two_s q) k) 1))
unfolding goes states
two_leaves dq = tt
two_leaves sq = tt

pub record Quoted (q : ℕ) : Type 0 where
  pub start_one : goes 0 q ≡ one_s q
  pub one_two : goes (one_s q) q ≡ two_s q
  pub two_three : goes (two_s q) q ≡ multi_s q 0
  pub one_quiet : accepts (one_s q) ≡ 0
  pub in_quiet : accepts (inside_s q) ≡ 0
  pub two_takes : (best : Found) (i : ℕ) → upd (accepts (two_s q)) best i ≡ hit (plain_k q) i

pub quoted : {q : ℕ} → IsQuote q → Quoted q
unfolding goes states accepts multi_s
quoted dq = record { start_one = refl; one_two = refl; two_three = refl; one_quiet = refl; in_quiet = refl; two_takes = λ best i. refl }
quoted sq = record { start_one = refl; one_two = refl; two_three = refl; one_quiet = refl; in_quiet = refl; two_takes = λ best i. refl }

start_quiet : accepts 0 ≡ 0
unfolding accepts states
start_quiet = refl

module _ {q : ℕ} (quote : IsQuote q) (text : List ℕ) (i : ℕ) where
  pub start_quote : i < length text → class (get_or text i 0) ≡ q → run 0 miss i (drop i text) ≡ run (one_s q) miss (i + 1) (drop (i + 1) text)
  start_quote h e = move text i h 0 (one_s q) q miss e (quoted quote).start_one start_quiet

  pub one_end : length text ≤ i → run (one_s q) miss i (drop i text) ≡ miss
  one_end h = run_end text i (one_s q) miss h ∙ ap (λ (a : ℕ). upd a miss i) (quoted quote).one_quiet

  pub one_on : i < length text → (class (get_or text i 0) ≡ q → ⊥) → run (one_s q) miss i (drop i text) ≡ run (inside_s q) miss i (drop i text)
  one_on h p =
      let k = class (get_or text i 0) in
      move text i h (one_s q) (goes (inside_s q) k) k miss refl
      (eqb→eq (goes (one_s q) k) (goes (inside_s q) k) (or-false (eqb k q) (eqb (goes (one_s q) k) (goes (inside_s q) k)) (ne_eqb k q p) (below_at 19 (λ j. eqb j q || eqb (goes (one_s q) j) (goes (inside_s q) j)) (one_same quote) k (class_small (get_or text i 0)))))
      (quoted quote).one_quiet
      ∙ sym (move text i h (inside_s q) (goes (inside_s q) k) k miss refl refl (quoted quote).in_quiet)

  pub one_quote : i < length text → class (get_or text i 0) ≡ q → run (one_s q) miss i (drop i text) ≡ run (two_s q) miss (i + 1) (drop (i + 1) text)
  one_quote h e = move text i h (one_s q) (two_s q) q miss e (quoted quote).one_two (quoted quote).one_quiet

  pub two_end : length text ≤ i → run (two_s q) miss i (drop i text) ≡ hit (plain_k q) i
  two_end h = run_end text i (two_s q) miss h ∙ (quoted quote).two_takes miss i

  pub two_on : i < length text → (class (get_or text i 0) ≡ q → ⊥) → run (two_s q) miss i (drop i text) ≡ hit (plain_k q) i
  two_on h p =
      let k = class (get_or text i 0) in
      run_in text i (two_s q) miss h
      ∙ ap (λ (n : ℕ). run n (upd (accepts (two_s q)) miss i) (i + 1) (drop (i + 1) text))
      (eqb→eq (goes (two_s q) k) 1 (or-false (eqb k q) (eqb (goes (two_s q) k) 1) (ne_eqb k q p) (below_at 19 (λ j. eqb j q || eqb (goes (two_s q) j) 1) (two_leaves quote) k (class_small (get_or text i 0)))))
      ∙ dead (upd (accepts (two_s q)) miss i) (i + 1) (drop (i + 1) text)
      ∙ (quoted quote).two_takes miss i

  pub two_quote : i < length text → class (get_or text i 0) ≡ q → run (two_s q) miss i (drop i text) ≡ first_some (run (multi_s q 0) miss (i + 1) (drop (i + 1) text)) (hit (plain_k q) i)
  two_quote h e =
      run_in text i (two_s q) miss h
      ∙ ap (λ (n : ℕ). run n (upd (accepts (two_s q)) miss i) (i + 1) (drop (i + 1) text)) (ap (goes (two_s q)) e ∙ (quoted quote).two_three)
      ∙ ap (λ (f : Found). run (multi_s q 0) f (i + 1) (drop (i + 1) text)) ((quoted quote).two_takes miss i)
      ∙ run_best (multi_s q 0) (hit (plain_k q) i) (i + 1) (drop (i + 1) text)

-- a token that was found, as the functions return it
module _ (text : List ℕ) (start : ℕ) where
  pub found : (k : TokenKind) (j e : ℕ) → k ≡ kind_of j → run 0 miss start (drop start text) ≡ hit j e → ◌≡◌ {A = PlacedToken} (record { kind = Some k; start = start; end = e }) (from_b start (drop start text))
  found k j e i p = (λ x. record { kind = Some (i x); start = start; end = e }) ∙ sym (ap (finish start (drop start text)) p)

  -- what was found by the automaton's run
  pub ran : (r : PlacedToken) (f : Found) → r ≡ finish start (drop start text) f → run 0 miss start (drop start text) ≡ f → r ≡ from_b start (drop start text)
  ran r f p q = p ∙ sym (ap (finish start (drop start text)) q)

-- a quote at s, by what comes after it
module _ {q : ℕ} (quote : IsQuote q) (text : List ℕ) (s : ℕ) (h : s < length text) (e : class (get_or text s 0) ≡ q) where
  pub q_in : (s + 1 < length text → class (get_or text (s + 1) 0) ≡ q → ⊥) → run 0 miss s (drop s text) ≡ run (inside_s q) miss (s + 1) (drop (s + 1) text)
  q_in p = start_quote quote text s h e ∙ at (cases_lt (s + 1) (length text))
    where
      at : (s + 1 < length text) ⊎ (length text ≤ s + 1) → run (one_s q) miss (s + 1) (drop (s + 1) text) ≡ run (inside_s q) miss (s + 1) (drop (s + 1) text)
      at (inl l) = one_on quote text (s + 1) l (p l)
      at (inr l) = one_end quote text (s + 1) l ∙ sym (run_end text (s + 1) (inside_s q) miss l ∙ ap (λ (a : ℕ). upd a miss (s + 1)) (quoted quote).in_quiet)

  -- and t is the place behind two quotes
  module _ (l : s + 1 < length text) (e' : class (get_or text (s + 1) 0) ≡ q) (t : ℕ) (z : t ≡ s + 1 + 1) where
    two : run 0 miss s (drop s text) ≡ run (two_s q) miss t (drop t text)
    two = start_quote quote text s h e ∙ one_quote quote text (s + 1) l e' ∙ ap (λ (n : ℕ). run (two_s q) miss n (drop n text)) (sym z)

    pub q_two : (t < length text → class (get_or text t 0) ≡ q → ⊥) → run 0 miss s (drop s text) ≡ hit (plain_k q) t
    q_two p = two ∙ at (cases_lt t (length text))
      where
        at : (t < length text) ⊎ (length text ≤ t) → run (two_s q) miss t (drop t text) ≡ hit (plain_k q) t
        at (inl m) = two_on quote text t m (p m)
        at (inr m) = two_end quote text t m

    pub q_three : t < length text → class (get_or text t 0) ≡ q → (f : Found) → run (multi_s q 0) miss (t + 1) (drop (t + 1) text) ≡ f → run 0 miss s (drop s text) ≡ first_some f (hit (plain_k q) t)
    q_three m e'' f p = two ∙ two_quote quote text t m e'' ∙ ap (λ (x : Found). first_some x (hit (plain_k q) t)) p

-- a token of one byte
on_mark : ℕ → Option TokenKind → Bool
on_mark c None = true
on_mark c (Some k) = (below 19 (final? (goes 0 c)) && eqb (accepts (goes 0 c)) (kind_number k)) && ltb 0 (kind_number k)

all_marks : T (below 256 (λ b. on_mark (class b) (one_byte_kind b)))
unfolding on_mark final? goes states accepts class classes
all_marks = tt

module _ (c : ℕ) (k : TokenKind) (t : T (on_mark c (Some k))) where
  on_final : T (below 19 (final? (goes 0 c)))
  unfolding on_mark
  on_final = and_left (below 19 (final? (goes 0 c))) _ (and_left (below 19 (final? (goes 0 c)) && eqb (accepts (goes 0 c)) (kind_number k)) _ t)

  on_kind : accepts (goes 0 c) ≡ kind_number k
  unfolding on_mark
  on_kind = eqb→eq _ _ (and_right (below 19 (final? (goes 0 c))) _ (and_left (below 19 (final? (goes 0 c)) && eqb (accepts (goes 0 c)) (kind_number k)) _ t))

  on_some : 0 < kind_number k
  unfolding on_mark
  on_some = ltb→lt 0 (kind_number k) (and_right (below 19 (final? (goes 0 c)) && eqb (accepts (goes 0 c)) (kind_number k)) _ t)

-- a byte that begins no token
none? : ℕ → Bool
none? b = in_classes 2 4 b || (is_some (one_byte_kind b) || (eqb b 47 || (eqb b 34 || (eqb b 39 || eqb (goes 0 (class b)) 1))))

all_none : T (below 256 none?)
unfolding none? goes states class classes
all_none = tt

upd_some : (a : ℕ) (best : Found) (i : ℕ) → 0 < a → upd a best i ≡ hit a i
upd_some zero best i h = absurd (not-suc-le-zero h)
upd_some (suc a) best i h = refl

module _ (text : List ℕ) (s : ℕ) (h : s < length text) where
  starts : (m k : ℕ) → class (get_or text s 0) ≡ k → goes 0 k ≡ m → run 0 miss s (drop s text) ≡ run m miss (s + 1) (drop (s + 1) text)
  starts m k e g = move text s h 0 m k miss e g start_quiet

  pub ident : class (get_or text s 0) ≡ 2 → run 0 miss s (drop s text) ≡ hit 10 (s + 1 + span_of 2 3 (drop (s + 1) text))
  unfolding goes states accepts stays?
  ident e = starts 2 2 e refl ∙ spans 2 2 3 9 tt refl miss (s + 1) (drop (s + 1) text)

  pub numbers : (class (get_or text s 0) ≡ 3) ⊎ (class (get_or text s 0) ≡ 4) → run 0 miss s (drop s text) ≡ hit 11 (s + 1 + span_of 2 4 (drop (s + 1) text))
  unfolding goes states accepts stays?
  numbers (inl e) = starts 3 3 e refl ∙ spans 3 2 4 10 tt refl miss (s + 1) (drop (s + 1) text)
  numbers (inr e) = starts 3 4 e refl ∙ spans 3 2 4 10 tt refl miss (s + 1) (drop (s + 1) text)

  module _ (e : class (get_or text s 0) ≡ 7) where
    slash : run 0 miss s (drop s text) ≡ run 4 miss (s + 1) (drop (s + 1) text)
    unfolding goes states
    slash = starts 4 7 e refl

    pub slash_one : (s + 1 < length text → class (get_or text (s + 1) 0) ≡ 7 → ⊥) → run 0 miss s (drop s text) ≡ miss
    unfolding goes states accepts other?
    slash_one p = slash ∙ at (cases_lt (s + 1) (length text))
      where
        at : (s + 1 < length text) ⊎ (length text ≤ s + 1) → run 4 miss (s + 1) (drop (s + 1) text) ≡ miss
        at (inl l) =
            move text (s + 1) l 4 1 (class (get_or text (s + 1) 0)) miss refl (other_than 4 1 7 7 tt (class (get_or text (s + 1) 0)) (class_small (get_or text (s + 1) 0)) (p l) (p l)) refl
            ∙ dead miss (s + 1 + 1) (drop (s + 1 + 1) text)
        at (inr l) = run_end text (s + 1) 4 miss l

    pub comments : s + 1 < length text → class (get_or text (s + 1) 0) ≡ 7 → run 0 miss s (drop s text) ≡ hit 1 (s + 1 + 1 + span_of 1 18 (drop (s + 1 + 1) text))
    unfolding goes states accepts stays?
    comments l e' = slash ∙ move text (s + 1) l 4 15 7 miss e' refl refl ∙ spans 15 1 18 0 tt refl miss (s + 1 + 1) (drop (s + 1 + 1) text)

  pub marked : get_or text s 0 < 256 → (k : TokenKind) → one_byte_kind (get_or text s 0) ≡ Some k → run 0 miss s (drop s text) ≡ hit (kind_number k) (s + 1)
  marked l k e =
      let m = goes 0 (class (get_or text s 0)) in
      let t : T (on_mark (class (get_or text s 0)) (Some k)) = subst (λ (o : Option TokenKind). T (on_mark (class (get_or text s 0)) o)) e (below_at 256 (λ b. on_mark (class b) (one_byte_kind b)) all_marks (get_or text s 0) l) in
      starts m (class (get_or text s 0)) refl refl
      ∙ final m (on_final (class (get_or text s 0)) k t) miss (s + 1) (drop (s + 1) text)
      ∙ ap (λ (a : ℕ). upd a miss (s + 1)) (on_kind (class (get_or text s 0)) k t)
      ∙ upd_some (kind_number k) miss (s + 1) (on_some (class (get_or text s 0)) k t)

  pub nothing_starts : (b : ℕ) → get_or text s 0 ≡ b → b < 256 → in_classes 2 4 b ≡ false → one_byte_kind b ≡ None → (b ≡ 47 → ⊥) → (b ≡ 34 → ⊥) → (b ≡ 39 → ⊥) → run 0 miss s (drop s text) ≡ miss
  unfolding none?
  nothing_starts b z l e m p q r =
      starts 1 (class b) (ap class z)
      (eqb→eq (goes 0 (class b)) 1
      (or-false (eqb b 39) _ (ne_eqb b 39 r)
      (or-false (eqb b 34) _ (ne_eqb b 34 q)
      (or-false (eqb b 47) _ (ne_eqb b 47 p)
      (or-false (is_some (one_byte_kind b)) _ (ap (λ (o : Option TokenKind). is_some o) m)
      (or-false (in_classes 2 4 b) _ e (below_at 256 none? all_none b l)))))))
      ∙ dead miss (s + 1) (drop (s + 1) text)
