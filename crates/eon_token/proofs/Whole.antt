-- The token of the bytes is the definition's first token of the characters.
use Rattle.std.proofs.Common.{◌≡◌, inr, inl, ◌⊎◌, ℕ, zero, suc, pred, ◌+◌, ◌<◌, ◌≤◌, Bool, true, false, cond, not, ◌&&◌, ◌||◌, T, eqb, leb, List, [], ◌∷◌, ◌++◌, length, take, drop, Some, None, Option, sym, refl, ap, ◌∙◌, subst, ap₂, add-zero, arith, length-append, drop-drop, ne_eqb}
use mathlib.Core.Bool.{or_assoc, or-false}
use Rattle.std.proofs.lemmas.Bool.{cases_lt}
use Rattle.eon_spec.specs.Base.{elem}
use Rattle.eon_spec.specs.Utf8.{Character, code_point, chars, joined, is_utf8, Boundary}
use Rattle.eon_spec.specs.declared.token_kind.TokenKind.{TokenKind}
use Rattle.eon_spec.specs.declared.token_kind.TokenKind.TheVariants.{Invalid}
use Rattle.eon_spec.specs.Token.{kind_number, is_kind, Token, rules, longest_rule, is_space, placed, tokens_from, token_from}
use Rattle.eon_laws.proofs.Token.{tokens_step}
use Rattle.eon_laws.proofs.Chars.{AllChars}
use Rattle.eon_laws.proofs.Cut.{found_some}
use Rattle.eon_laws.proofs.Facts.{eq_of, eqb_sym}
use Rattle.eon_token.specs.Machine.{Found, miss, hit, classes, class, goes, accepts, upd, run, span_of, finish, from_b}
use Rattle.eon_token.specs.Placed.{placed_token, placed_at, tokens_at}
use Rattle.eon_token.specs.declared.token_kind.PlacedToken.{PlacedToken}
use Rattle.eon_token.proofs.Tests.{below, below_at, middle, past, eq?, eq?-eq}
use Rattle.eon_token.proofs.KindCodes.{kind_of_lem, kind_same}
use Rattle.eon_token.proofs.Steps.{first_some, run_best}
use Rattle.eon_token.proofs.Longest.{found_of, later, acc_f, by_table, rules_right}
use Rattle.eon_token.proofs.Bridge.{Conts, Shape, single, wide, shape, shift, widen, bridge}
use Rattle.eon_token.proofs.Text.{bytes, suffix, bytes_le, all_drop, all_from, text_from, chars_from_lem, text_le}

-- the run from a place is the table's longest match, that far on
upd_is : (a i : ℕ) → upd a miss i ≡ shift i (acc_f a)
upd_is zero i = refl
upd_is (suc k) i = ap (hit (suc k)) (sym (add-zero i))

run_is : (n i : ℕ) (l : List ℕ) → run n miss i l ≡ shift i (by_table n l)
run_is n i [] = upd_is (accepts n) i
run_is n i (b ∷ l) =
    run_best (goes n (class b)) (upd (accepts n) miss i) (i + 1) l
    ∙ ap (λ (f : Found). first_some f (upd (accepts n) miss i)) (run_is (goes n (class b)) (i + 1) l)
    ∙ at (by_table (goes n (class b)) l)
  where
    at : (f : Found) → first_some (shift (i + 1) f) (upd (accepts n) miss i) ≡ shift i (later f (acc_f (accepts n)))
    at miss = upd_is (accepts n) i
    at (hit k m) = ap (hit k) (omega arith)

-- white space is the classes 0 and 1
blank : ℕ → Bool
blank x = leb 0 (class x) && leb (class x) 1

low_spaces : T (below 128 (λ x. eq? (is_space (x ∷ [])) (blank x)))
unfolding blank eq? class classes
low_spaces = tt

high_space : (x : ℕ) → 128 ≤ x → elem x (32 ∷ 9 ∷ 10 ∷ 12 ∷ 13 ∷ []) ≡ false
high_space x h = rw (ne_eqb x 32 (omega arith), ne_eqb x 9 (omega arith), ne_eqb x 10 (omega arith), ne_eqb x 12 (omega arith), ne_eqb x 13 (omega arith))

high_blank : (x : ℕ) → 128 ≤ x → blank x ≡ false
unfolding blank
high_blank x h = at (cases_lt x 192)
  where
    at : (x < 192) ⊎ (192 ≤ x) → blank x ≡ false
    at (inl l) = rw (middle x h l)
    at (inr n) = rw (past x n)

low_space : (x : ℕ) → x < 128 → is_space (x ∷ []) ≡ blank x
low_space x h = eq?-eq (is_space (x ∷ [])) (blank x) (below_at 128 (λ i. eq? (is_space (i ∷ [])) (blank i)) low_spaces x h)

-- the white space at the beginning
abbrev pub leading : List Character → ℕ
leading [] = 0
leading (c ∷ cs) = cond (is_space c) (suc (leading cs)) 0

white_span : (cs : List Character) → AllChars cs → span_of 0 1 (joined cs) ≡ bytes (leading cs) cs
unfolding blank
white_span [] a = refl
white_span (c ∷ cs) (i, a) = at c (shape c i) (white_span cs a)
  where
    same : (b : ℕ) → span_of 0 1 (joined cs) ≡ bytes (leading cs) cs → (t : Bool) → cond t (suc (span_of 0 1 (joined cs))) 0 ≡ bytes (cond t (suc (leading cs)) 0) ((b ∷ []) ∷ cs)
    same b ih true = ap suc ih
    same b ih false = refl

    at : (c : Character) → Shape c → span_of 0 1 (joined cs) ≡ bytes (leading cs) cs → span_of 0 1 (c ++ joined cs) ≡ bytes (leading (c ∷ cs)) (c ∷ cs)
    at c (single b l) ih = same b ih (blank b) ∙ ap (λ (t : Bool). bytes (cond t (suc (leading cs)) 0) ((b ∷ []) ∷ cs)) (sym (low_space b l))
    at c (wide b w l p x) ih =
        ap (λ (t : Bool). cond t (suc (span_of 0 1 (w ++ joined cs))) 0) (high_blank b (omega arith))
        ∙ ap (λ (t : Bool). bytes (cond t (suc (leading cs)) 0) ((b ∷ w) ∷ cs)) (sym (high_space (code_point (b ∷ w)) x))

-- what is left behind it does not begin with white space
pub data Left : List Character → Type 0 where
  none_left : Left []
  some_left_lem : (c : Character) (cs : List Character) → is_space c ≡ false → Left (c ∷ cs)

pub left : (cs : List Character) → Left (drop (leading cs) cs)
left [] = none_left
left (c ∷ cs) = at (is_space c) refl (left cs)
  where
    at : (t : Bool) → is_space c ≡ t → Left (drop (leading cs) cs) → Left (drop (cond t (suc (leading cs)) 0) (c ∷ cs))
    at true e l = l
    at false e l = some_left_lem c cs e

-- the tokens are those behind it, and a line feed in it shows
pub skip_space : (at : ℕ) (nl : Bool) (cs : List Character) → AllChars cs
    → tokens_from 0 at nl cs ≡ tokens_from 0 (at + bytes (leading cs) cs) (nl || elem 10 (joined (take (leading cs) cs))) (drop (leading cs) cs)
unfolding tokens_from
skip_space at nl [] a = refl
skip_space at nl (c ∷ cs) (i, a) = go c (shape c i) (is_space c) refl (λ at nl. skip_space at nl cs a)
  where
    go : (c : Character) → Shape c → (t : Bool) → is_space c ≡ t → ((at : ℕ) (nl : Bool) → tokens_from 0 at nl cs ≡ tokens_from 0 (at + bytes (leading cs) cs) (nl || elem 10 (joined (take (leading cs) cs))) (drop (leading cs) cs))
        → tokens_from 0 at nl (c ∷ cs) ≡ tokens_from 0 (at + bytes (leading (c ∷ cs)) (c ∷ cs)) (nl || elem 10 (joined (take (leading (c ∷ cs)) (c ∷ cs)))) (drop (leading (c ∷ cs)) (c ∷ cs))
    go c h false e ih = rw (e, add-zero at, or-false nl)
    go c (single b l) true e ih = rw (e, tokens_from)
        (ih (at + 1) (nl || eqb b 10)
        ∙ ap₂ (λ (n : ℕ) (t : Bool). tokens_from 0 n t (drop (leading cs) cs)) (omega arith)
        (or_assoc nl (eqb b 10) (elem 10 (joined (take (leading cs) cs))) ∙ ap (λ (t : Bool). nl || (t || elem 10 (joined (take (leading cs) cs)))) (eqb_sym b 10)))
    go c (wide b w l p x) true e ih = let z = high_space (code_point (b ∷ w)) x in cc

-- an invalid token: the bytes 128 to 191 behind the first
ascii_first : T (below 128 (λ b. not (leb 5 (class b) && leb (class b) 5)))
unfolding class classes
ascii_first = tt

is_false : (t : Bool) → T (not t) → t ≡ false
is_false true n = absurd n
is_false false n = refl

no_conts : (cs : List Character) → AllChars cs → span_of 5 5 (joined cs) ≡ 0
no_conts [] a = refl
no_conts (c ∷ cs) (i, a) = at c (shape c i)
  where
    at : (c : Character) → Shape c → span_of 5 5 (c ++ joined cs) ≡ 0
    at c (single b l) = ap (λ (t : Bool). cond t (suc (span_of 5 5 (joined cs))) 0) (is_false (leb 5 (class b) && leb (class b) 5) (below_at 128 (λ i. not (leb 5 (class i) && leb (class i) 5)) ascii_first b l))
    at c (wide b w l p x) = ap (λ (k : ℕ). cond (leb 5 k && leb k 5) (suc (span_of 5 5 (w ++ joined cs))) 0) (past b l)

conts_span : (w l : List ℕ) → Conts w → span_of 5 5 (w ++ l) ≡ length w + span_of 5 5 l
conts_span [] l c = omega arith
conts_span (b ∷ w) l c =
    ap (λ (k : ℕ). cond (leb 5 k && leb k 5) (suc (span_of 5 5 (w ++ l))) 0) (middle b c.0 c.1)
    ∙ ap suc (conts_span w l c.2)
    ∙ omega arith

stray_width : (c : Character) (cs : List Character) → AllChars (c ∷ cs) → 1 + span_of 5 5 (drop 1 (joined (c ∷ cs))) ≡ bytes 1 (c ∷ cs)
stray_width c cs (i, a) = at c (shape c i)
  where
    at : (c : Character) → Shape c → 1 + span_of 5 5 (drop 1 (c ++ joined cs)) ≡ length (c ++ [])
    at c (single b l) = ap (λ (n : ℕ). 1 + n) (no_conts cs a)
    at c (wide b w l p x) = omega (arith, conts_span w (joined cs) p, no_conts cs a, length-append w [])

invalid : (cs : List Character) → (longest_rule rules cs).1 ≡ 0 → (longest_rule rules cs).0 ≡ Invalid
invalid cs z = go (is_kind (longest_rule rules cs).0 Invalid) refl
  where
    go : (t : Bool) → is_kind (longest_rule rules cs).0 Invalid ≡ t → (longest_rule rules cs).0 ≡ Invalid
    go true e = kind_same (longest_rule rules cs).0 Invalid (eq_of (kind_number (longest_rule rules cs).0) 0 e)
    go false e = absurd (omega (arith, found_some rules cs e))

-- the number of characters of the token at the beginning
abbrev pub size : List Character → ℕ
size cs = suc (pred (longest_rule rules cs).1)

made_all : {k k' : Option TokenKind} (s : ℕ) {a b : ℕ} → k ≡ k' → a ≡ b → ◌≡◌ {A = PlacedToken} (record { kind = k; start = s; end = a }) (record { kind = k'; start = s; end = b })
made_all s p q = λ i. record { kind = p i; start = s; end = q i }

pub bytes_token : (start : ℕ) (c : Character) (cs : List Character) → AllChars (c ∷ cs)
    → from_b start (joined (c ∷ cs)) ≡ record { kind = Some (longest_rule rules (c ∷ cs)).0; start = start; end = start + bytes (size (c ∷ cs)) (c ∷ cs) }
bytes_token start c cs a =
    ap (finish start (joined (c ∷ cs))) (run_is 0 start (joined (c ∷ cs)) ∙ ap (shift start) (bridge 0 (c ∷ cs) (omega arith) a ∙ ap (widen (c ∷ cs)) (sym (rules_right (c ∷ cs)))))
    ∙ at (longest_rule rules (c ∷ cs)).0 (longest_rule rules (c ∷ cs)).1 (invalid (c ∷ cs))
  where
    at : (k : TokenKind) (n : ℕ) → (n ≡ 0 → k ≡ Invalid) → finish start (joined (c ∷ cs)) (shift start (widen (c ∷ cs) (found_of k n))) ≡ record { kind = Some k; start = start; end = start + bytes (suc (pred n)) (c ∷ cs) }
    at k zero f = made_all start (ap Some (sym (f refl))) (omega (arith, stray_width c cs a))
    at k (suc n) f = made_all start (ap Some (kind_of_lem k)) refl

-- the first of a list of tokens, as the call answers it
abbrev head : List Token → Option Token
head [] = None
head (t ∷ ts) = Some t

first_token_lem : (s : List ℕ) (at : ℕ) (ts : List Token) → tokens_at s at false ≡ ts → placed_at s at ≡ placed_token s (head ts)
unfolding placed_at token_from
first_token_lem s at [] e = rw e
first_token_lem s at (t ∷ ts) e = rw e

-- what comes at a boundary: nothing, or a token
pub data Next (s : List ℕ) (at : ℕ) (cs : List Character) : Type 0 where
  ended : at + bytes (leading cs) cs ≡ length s → placed_at s at ≡ record { kind = None; start = length s; end = length s } → ((nl : Bool) → tokens_at s at nl ≡ []) → Next s at cs
  token : (c : Character) (l : List Character) → drop (leading cs) cs ≡ c ∷ l
      → placed_at s at ≡ record { kind = Some (longest_rule rules (c ∷ l)).0; start = at + bytes (leading cs) cs; end = at + bytes (leading cs) cs + bytes (size (c ∷ l)) (c ∷ l) }
      → ((nl : Bool) → tokens_at s at nl ≡ placed (longest_rule rules (c ∷ l)).0 (size (c ∷ l)) (at + bytes (leading cs) cs) (nl || elem 10 (joined (take (leading cs) cs))) (c ∷ l) ∷ tokens_from 0 (at + bytes (leading cs) cs + bytes (size (c ∷ l)) (c ∷ l)) false (drop (size (c ∷ l)) (c ∷ l)))
      → Next s at cs

no_tokens : (at : ℕ) (nl : Bool) → tokens_from 0 at nl [] ≡ []
unfolding tokens_from
no_tokens at nl = refl

module _ (s : List ℕ) (u : is_utf8 s ≡ true) (at : ℕ) (b : Boundary s at) where
  abbrev pub here : List Character
  here = drop b.count (chars s)

  pub here_chars : chars (drop at s) ≡ here
  here_chars = ap (λ (n : ℕ). chars (drop n s)) b.place ∙ chars_from_lem s u b.count

  pub here_text : drop at s ≡ joined here
  here_text = ap (λ (n : ℕ). drop n s) b.place ∙ text_from s u b.count

  pub here_all : AllChars here
  here_all = all_from s u b.count

  pub here_length : at + length (joined here) ≡ length s
  here_length = ap (λ (n : ℕ). n + length (joined here)) b.place ∙ text_le s u b.count

  -- where the white space ends
  pub start_is : at + span_of 0 1 (drop at s) ≡ at + bytes (leading here) here
  start_is = ap (λ (l : List ℕ). at + span_of 0 1 l) here_text ∙ ap (λ (n : ℕ). at + n) (white_span here here_all)

  pub start_text : drop (at + bytes (leading here) here) s ≡ joined (drop (leading here) here)
  start_text = sym (drop-drop (bytes (leading here) here) at s) ∙ ap (drop (bytes (leading here) here)) here_text ∙ suffix (leading here) here

  tokens_are : (nl : Bool) → tokens_at s at nl ≡ tokens_from 0 (at + bytes (leading here) here) (nl || elem 10 (joined (take (leading here) here))) (drop (leading here) here)
  tokens_are nl = ap (tokens_from 0 at nl) here_chars ∙ skip_space at nl here here_all

  pub next : Next s at here
  next = go (drop (leading here) here) refl (left here)
    where
      go : (l : List Character) → drop (leading here) here ≡ l → Left l → Next s at here
      go l e none_left =
          let ts : (nl : Bool) → tokens_at s at nl ≡ [] = λ nl. tokens_are nl ∙ ap (tokens_from 0 (at + bytes (leading here) here) (nl || elem 10 (joined (take (leading here) here)))) e ∙ no_tokens _ _ in
          ended (omega (arith, here_length, bytes_le (leading here) here, ap (λ (cs : List Character). length (joined cs)) e)) (first_token_lem s at [] (ts false)) ts
      go l e (some_left_lem c cs h) =
          let n = at + bytes (leading here) here in
          let ts : (nl : Bool) → tokens_at s at nl ≡ placed (longest_rule rules (c ∷ cs)).0 (size (c ∷ cs)) n (nl || elem 10 (joined (take (leading here) here))) (c ∷ cs) ∷ tokens_from 0 (n + bytes (size (c ∷ cs)) (c ∷ cs)) false (drop (size (c ∷ cs)) (c ∷ cs)) =
          λ nl. tokens_are nl ∙ ap (tokens_from 0 n (nl || elem 10 (joined (take (leading here) here)))) e ∙ tokens_step n (nl || elem 10 (joined (take (leading here) here))) c cs (pred (longest_rule rules (c ∷ cs)).1) h refl in
          token c cs e (first_token_lem s at _ (ts false)) ts

  -- the call's answers
  module _ (start : ℕ) (e : start ≡ at + span_of 0 1 (drop at s)) where
    pub some_token : (r : PlacedToken) → start < length s → r ≡ from_b start (drop start s) → r ≡ placed_at s at
    some_token r h p = go next
      where
        go : Next s at here → r ≡ placed_at s at
        go (ended z q ts) = absurd (omega (arith, e, start_is, z))
        go (token c l f q ts) =
            p
            ∙ ap (λ (n : ℕ). from_b n (drop n s)) (e ∙ start_is)
            ∙ ap (from_b (at + bytes (leading here) here)) (start_text ∙ ap joined f)
            ∙ bytes_token (at + bytes (leading here) here) c l (subst AllChars f (all_drop (leading here) here here_all))
            ∙ sym q

    pub no_token : length s ≤ start → ◌≡◌ {A = PlacedToken} (record { kind = None; start = start; end = start }) (placed_at s at)
    no_token h = go next
      where
        go : Next s at here → ◌≡◌ {A = PlacedToken} (record { kind = None; start = start; end = start }) (placed_at s at)
        go (ended z q ts) = ap (λ (n : ℕ). record { kind = None; start = n; end = n }) (e ∙ start_is ∙ z) ∙ sym q
        go (token c l f q ts) = absurd (nothing c l (all_drop (leading here) here here_all) f (omega (arith, here_length, bytes_le (leading here) here, e, start_is)))
          where
            nothing : (c : Character) (l : List Character) → AllChars (drop (leading here) here) → drop (leading here) here ≡ c ∷ l → length (joined (drop (leading here) here)) ≤ 0 → ⊥
            nothing c l a f h = some_bytes c l (subst AllChars f a) (subst (λ (cs : List Character). length (joined cs) ≤ 0) f h)
              where
                some_bytes : (c : Character) (l : List Character) → AllChars (c ∷ l) → length (c ++ joined l) ≤ 0 → ⊥
                some_bytes [] l a h = a.0
                some_bytes (x ∷ c) l a h = omega arith
