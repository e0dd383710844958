-- The automaton reads the bytes of characters as it reads the characters: what a character past ASCII does, its first byte does, and the bytes
-- after that change nothing more.
use Rattle.std.proofs.Common.{◌≡◌, ℕ, zero, suc, ◌+◌, ◌<◌, ◌≤◌, Bool, true, false, ◌&&◌, T, eqb, ltb, leb, ◌⊎◌, List, [], ◌∷◌, ◌++◌, map, length, take, Some, None, Option, sym, refl, ap, ◌∙◌, subst, inl, inr, suc-add, zero-add, arith, eqb→eq, ltb→lt, leb→le, length-append}
use Rattle.std.proofs.lemmas.Bool.{cases_lt}
use Rattle.eon_laws.proofs.Facts.{within_bounds}
use Rattle.eon_laws.proofs.Facts as facts
use Rattle.eon_spec.specs.Utf8.{Range, ◌to◌, Row, ◌then◌, in_range, row_of, table37, fits, len_if, char_len, Character, code_point, joined}
use Rattle.eon_laws.proofs.Chars.{IsChar, AllChars}
use Rattle.eon_laws.proofs.Spaces.{char_wide}
use Rattle.eon_token.specs.Machine.{Found, miss, hit, class, states, goes, accepts}
use Rattle.eon_token.proofs.Tests.{below, below_at, and_left, and_right, class_small, middle, past, goes_small}
use Rattle.eon_token.proofs.Longest.{acc_f, later, by_table}

-- bytes 128 to 191
abbrev pub Conts : List ℕ → Type 0
Conts [] = Unit {0}
Conts (b ∷ w) = (128 ≤ b) × (b < 192) × Conts w

-- a character is an ASCII byte, or a byte of 192 or more with such bytes behind it
pub data Shape : Character → Type 0 where
  single : (b : ℕ) → b < 128 → Shape (b ∷ [])
  wide : (b : ℕ) (w : List ℕ) → 192 ≤ b → Conts w → 128 ≤ code_point (b ∷ w) → Shape (b ∷ w)

tails : List Range → Bool
tails [] = true
tails ((lo to hi) ∷ rs) = leb 128 lo && (ltb hi 192 && tails rs)

-- each row of the table says so
good : List Row → Bool
good [] = true
good (((lo to hi) then []) ∷ rows) = ltb hi 128 && good rows
good (((lo to hi) then (r ∷ rs)) ∷ rows) = (leb 192 lo && tails (r ∷ rs)) && good rows

table_good : T (good table37)
unfolding good tails
table_good = tt

abbrev Fit : ℕ → List Range → Type 0
Fit b m = ((m ≡ []) × (b < 128)) ⊎ ((0 < length m) × (192 ≤ b) × T (tails m))

fit_row : (lo hi : ℕ) (g : List Range) (rows : List Row) (b : ℕ) → T (good (((lo to hi) then g) ∷ rows)) → in_range (lo to hi) b ≡ true → Fit b g
unfolding good
fit_row lo hi [] rows b t p =
    let h = ltb→lt hi 128 (and_left (ltb hi 128) (good rows) t) in
    let l = within_bounds lo hi b p in
    inl (refl, omega arith)
fit_row lo hi (r ∷ rs) rows b t p =
    let u = and_left (leb 192 lo && tails (r ∷ rs)) (good rows) t in
    let h = leb→le 192 lo (and_left (leb 192 lo) (tails (r ∷ rs)) u) in
    let l = within_bounds lo hi b p in
    inr (omega arith, omega arith, and_right (leb 192 lo) (tails (r ∷ rs)) u)

good_rest : (lo hi : ℕ) (g : List Range) (rows : List Row) → T (good (((lo to hi) then g) ∷ rows)) → T (good rows)
unfolding good
good_rest lo hi [] rows t = and_right (ltb hi 128) (good rows) t
good_rest lo hi (r ∷ rs) rows t = and_right (leb 192 lo && tails (r ∷ rs)) (good rows) t

fit : (rows : List Row) (b : ℕ) (m : List Range) → T (good rows) → row_of rows b ≡ Some m → Fit b m
fit [] b m t e = cc
fit (((lo to hi) then g) ∷ rows) b m t e = go (in_range (lo to hi) b) refl e (fit rows b m (good_rest lo hi g rows t))
  where
    go : (x : Bool) → in_range (lo to hi) b ≡ x → row_of (((lo to hi) then g) ∷ rows) b ≡ Some m → (row_of rows b ≡ Some m → Fit b m) → Fit b m
    go true p e h =
        let z : Some g ≡ Some m = rw (p, row_of) at e in
        let y : g ≡ m = cc in
        subst (Fit b) y (fit_row lo hi g rows b t p)
    go false p e h = h (rw (p, row_of) at e)

conts : (m : List Range) (s : List ℕ) → T (tails m) → fits m s ≡ true → length m ≡ length s → Conts s
unfolding tails
conts [] [] t f l = tt
conts [] (x ∷ s) t f l = absurd (omega arith)
conts (r ∷ m) [] t f l = absurd (omega arith)
conts ((lo to hi) ∷ m) (x ∷ s) t f l =
    let p = facts.and_left (in_range (lo to hi) x) (fits m s) f in
    let u = and_right (leb 128 lo) (ltb hi 192 && tails m) t in
    let a = leb→le 128 lo (and_left (leb 128 lo) (ltb hi 192 && tails m) t) in
    let z = ltb→lt hi 192 (and_left (ltb hi 192) (tails m) u) in
    let b = within_bounds lo hi x p in
    (omega arith, omega arith, conts m s (and_right (ltb hi 192) (tails m) u) (facts.and_right (in_range (lo to hi) x) (fits m s) f) (omega arith))

pub shape : (c : Character) → IsChar c → Shape c
unfolding char_len
shape [] h = absurd h
shape (b ∷ s) h = go (row_of table37 b) refl h
  where
    made : (m : List Range) → Fit b m → fits m s ≡ true → length m ≡ length s → Shape (b ∷ s)
    made m (inl (e, l)) f k = small s (sym k ∙ ap length e)
      where
        small : (s : List ℕ) → length s ≡ 0 → Shape (b ∷ s)
        small [] k = single b l
        small (x ∷ s) k = absurd (omega arith)
    made m (inr (p, l, t)) f k = wide b s l (conts m s t f k) (char_wide b s h (omega arith))

    some_row : (m : List Range) (x : Bool) → row_of table37 b ≡ Some m → fits m s ≡ x → len_if (Some m) s ≡ suc (length s) → Shape (b ∷ s)
    some_row m true p q e = let y : suc (length m) ≡ suc (length s) = rw (q, len_if) at e in made m (fit table37 b m table_good p) q (omega arith)
    some_row m false p q e = absurd (let y : 0 ≡ suc (length s) = rw (q, len_if) at e in omega arith)

    go : (o : Option (List Range)) → row_of table37 b ≡ o → len_if o s ≡ suc (length s) → Shape (b ∷ s)
    go None p e = absurd (omega arith)
    go (Some m) p e = some_row m (fits m s) p refl e

-- from 128 on the classes are 5 and 6, which every state takes alike, and a second time to no other state
all_wide : T (below 31 (λ n. eqb (goes n 5) (goes n 6) && eqb (goes (goes n 6) 6) (goes n 6)))
unfolding goes states
all_wide = tt

goes_five : (n : ℕ) → n < 31 → goes n 5 ≡ goes n 6
goes_five n h = eqb→eq (goes n 5) (goes n 6) (and_left (eqb (goes n 5) (goes n 6)) (eqb (goes (goes n 6) 6) (goes n 6)) (below_at 31 (λ m. eqb (goes m 5) (goes m 6) && eqb (goes (goes m 6) 6) (goes m 6)) all_wide n h))

goes_stays : (n : ℕ) → n < 31 → goes (goes n 6) 6 ≡ goes n 6
goes_stays n h = eqb→eq (goes (goes n 6) 6) (goes n 6) (and_right (eqb (goes n 5) (goes n 6)) (eqb (goes (goes n 6) 6) (goes n 6)) (below_at 31 (λ m. eqb (goes m 5) (goes m 6) && eqb (goes (goes m 6) 6) (goes m 6)) all_wide n h))

goes_wide : (n b : ℕ) → n < 31 → 128 ≤ b → goes n (class b) ≡ goes n 6
goes_wide n b h l = at (cases_lt b 192)
  where
    at : (b < 192) ⊎ (192 ≤ b) → goes n (class b) ≡ goes n 6
    at (inl p) = ap (goes n) (middle b l p) ∙ goes_five n h
    at (inr p) = ap (goes n) (past b p)

-- so many bytes further on
abbrev pub shift : ℕ → Found → Found
shift j miss = miss
shift j (hit k m) = hit k (j + m)

not_later : (f : Found) (a : ℕ) → later f (acc_f a) ≡ miss → acc_f a ≡ miss
not_later miss a e = e
not_later (hit k m) zero e = refl
not_later (hit k m) (suc a) e = cc

no_accept : (n : ℕ) (l : List ℕ) → by_table n l ≡ miss → acc_f (accepts n) ≡ miss
no_accept n [] e = e
no_accept n (c ∷ cs) e = not_later (by_table (goes n (class c)) cs) (accepts n) e

one_more : (j : ℕ) (f a : Found) → (f ≡ miss → a ≡ miss) → later (shift j f) a ≡ shift (suc j) f
one_more j miss a h = h refl
one_more j (hit k m) a h = rw suc-add

stuck : (n : ℕ) (w l : List ℕ) → n < 31 → goes n 6 ≡ n → Conts w → by_table n (w ++ l) ≡ shift (length w) (by_table n l)
stuck n [] l h e c = at (by_table n l)
  where
    at : (f : Found) → f ≡ shift zero f
    at miss = refl
    at (hit k m) = rw zero-add
stuck n (b ∷ w) l h e c =
    ap (λ (m : ℕ). later (by_table m (w ++ l)) (acc_f (accepts n))) (goes_wide n b h c.0 ∙ e)
    ∙ ap (λ (f : Found). later f (acc_f (accepts n))) (stuck n w l h e c.2)
    ∙ one_more (length w) (by_table n l) (acc_f (accepts n)) (no_accept n l)

-- a count of characters as a count of bytes
abbrev pub widen : List Character → Found → Found
widen cs miss = miss
widen cs (hit k m) = hit k (length (joined (take m cs)))

longer_match : (b : ℕ) (w : List ℕ) (cs : List Character) (f : Found) (a : ℕ) → later (shift (length w) (widen cs f)) (acc_f a) ≡ widen ((b ∷ w) ∷ cs) (later f (acc_f a))
longer_match b w cs miss zero = refl
longer_match b w cs miss (suc k) = refl
longer_match b w cs (hit k m) a = ap (λ (n : ℕ). hit k (suc n)) (sym (length-append w (joined (take m cs))))

shift_none : (f : Found) → shift 0 f ≡ f
shift_none miss = refl
shift_none (hit k m) = rw zero-add

pub bridge : (n : ℕ) (cs : List Character) → n < 31 → AllChars cs → by_table n (joined cs) ≡ widen cs (by_table n (map code_point cs))
bridge n [] h a = at (accepts n)
  where
    at : (a : ℕ) → acc_f a ≡ widen [] (acc_f a)
    at zero = refl
    at (suc k) = refl
bridge n (c ∷ cs) h (i, a) = at c (shape c i) (bridge (goes n (class (code_point c))) cs (goes_small n (class (code_point c)) h (class_small (code_point c))) a)
  where
    at : (c : Character) → Shape c → by_table (goes n (class (code_point c))) (joined cs) ≡ widen cs (by_table (goes n (class (code_point c))) (map code_point cs)) → by_table n (c ++ joined cs) ≡ widen (c ∷ cs) (by_table n (map code_point (c ∷ cs)))
    at c (single b l) ih =
        ap (λ (f : Found). later f (acc_f (accepts n))) (ih ∙ sym (shift_none (widen cs (by_table (goes n (class b)) (map code_point cs)))))
        ∙ longer_match b [] cs (by_table (goes n (class b)) (map code_point cs)) (accepts n)
    at c (wide b w l p x) ih =
        ap (λ (m : ℕ). later (by_table m (w ++ joined cs)) (acc_f (accepts n))) (goes_wide n b h (omega arith) ∙ sym there)
        ∙ ap (λ (f : Found). later f (acc_f (accepts n))) (stuck (goes n (class (code_point (b ∷ w)))) w (joined cs) (goes_small n (class (code_point (b ∷ w))) h (class_small (code_point (b ∷ w)))) stays p ∙ ap (shift (length w)) ih)
        ∙ longer_match b w cs (by_table (goes n (class (code_point (b ∷ w)))) (map code_point cs)) (accepts n)
      where
        there : goes n (class (code_point (b ∷ w))) ≡ goes n 6
        there = goes_wide n (code_point (b ∷ w)) h x

        stays : goes (goes n (class (code_point (b ∷ w)))) 6 ≡ goes n (class (code_point (b ∷ w)))
        stays = ap (λ (m : ℕ). goes m 6) there ∙ goes_stays n h ∙ sym there
