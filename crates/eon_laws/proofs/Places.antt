-- Where tokens stand: one behind the other, each on character boundaries within the text, of at least one byte.
use Rattle.std.proofs.Common.{◌≡◌, ℕ, zero, suc, pred, ◌+◌, ◌-◌, ◌<◌, ◌≤◌, Bool, true, false, ◌||◌, eqb, List, [], ◌∷◌, ◌++◌, length, take, drop, sym, refl, ap, ◌∙◌, append_assoc, arith, length-append, take-add, drop-drop, add-one}
use Rattle.eon_spec.specs.Utf8.{Character, Boundary, chars, joined, code_point, is_utf8}
use Rattle.eon_spec.specs.declared.token_kind.TokenKind.{TokenKind}
use Rattle.eon_spec.specs.Token.{is_space, longest_rule, rules, Token, placed, tokens, tokens_from}
use Rattle.eon_spec.specs.Tree.{Span}
use Rattle.eon_spec.specs.Parse.{span_of}
use Rattle.eon_laws.proofs.Utf8.{joined_is}
use Rattle.eon_laws.proofs.Chars.{IsChar, AllChars, chars_are}
use Rattle.eon_laws.proofs.Spaces.{space_length}
use Rattle.eon_laws.proofs.Words.{joined_split, slice_at}

module _ (s : List ℕ) where
  -- a span within the text, and the bytes there
  abbrev pub Fits : Span → Type 0
  Fits p = (p.start ≤ p.end) × (p.end ≤ length s)

  abbrev pub Holds : Span → List ℕ → Type 0
  Holds p b = Fits p × (take (p.end - p.start) (drop p.start s) ≡ b)

  -- a token behind the byte `at`: on boundaries, of at least one byte, and with its bytes
  pub record Stands (at : ℕ) (t : Token) : Type 0 where
    pub behind : at ≤ t.start
    pub byte : t.start < t.end
    pub starts : Boundary s t.start
    pub ends : Boundary s t.end
    pub holds : Holds (span_of t) t.slice

  -- tokens one behind the other from the byte `at` on
  abbrev pub Row : ℕ → List Token → Type 0
  Row at [] = at ≤ length s
  Row at (t ∷ ts) = Stands at t × Row t.end ts

  stands_down : (low at : ℕ) (t : Token) → low ≤ at → Stands at t → Stands low t
  stands_down low at t h r = record { behind = omega (arith, r.behind); byte = r.byte; starts = r.starts; ends = r.ends; holds = r.holds }

  row_down : (low at : ℕ) (ts : List Token) → low ≤ at → Row at ts → Row low ts
  row_down low at [] h r = omega arith
  row_down low at (t ∷ ts) h r = (stands_down low at t h r.0, r.1)

  pub row_within : (at : ℕ) (ts : List Token) → Row at ts → at ≤ length s
  row_within at [] r = r
  row_within at (t ∷ ts) r = omega (arith, r.0.behind, r.0.holds.0.0, r.0.holds.0.1)

joined_append : (a b : List Character) → joined (a ++ b) ≡ joined a ++ joined b
joined_append [] b = refl
joined_append (c ∷ a) b = ap (λ (x : List ℕ). c ++ x) (joined_append a b) ∙ sym (append_assoc c (joined a) (joined b))

char_byte : (c : Character) → IsChar c → 0 < length c
char_byte [] h = absurd h
char_byte (b ∷ s) h = omega arith

-- the characters behind the first n: the next of them, and those behind it
drop_next : (n : ℕ) (all : List Character) (c : Character) (cs : List Character) → c ∷ cs ≡ drop n all → cs ≡ drop (suc n) all
drop_next n all c cs e = ap (drop 1) e ∙ drop-drop 1 n all ∙ ap (λ k. drop k all) (add-one n)

module _ (s : List ℕ) (formed : joined (chars s) ≡ s) where
  front : ℕ → List ℕ
  front n = joined (take n (chars s))

  front_add : (n m : ℕ) (cs : List Character) → cs ≡ drop n (chars s) → front (n + m) ≡ front n ++ joined (take m cs)
  unfolding front
  front_add n m cs e = ap joined (take-add n m (chars s)) ∙ joined_append (take n (chars s)) (take m (drop n (chars s))) ∙ rw e

  front_split : (n : ℕ) (cs : List Character) → cs ≡ drop n (chars s) → s ≡ front n ++ joined cs
  unfolding front
  front_split n cs e = sym formed ∙ joined_split n (chars s) ∙ rw e

  next_front : (n at : ℕ) (c : Character) (cs : List Character) → c ∷ cs ≡ drop n (chars s) → at ≡ length (front n) → at + length c ≡ length (front (suc n))
  next_front n at c cs e l =
      let z : n + 1 ≡ suc n = omega arith in
      rw (← z, front_add n 1 (c ∷ cs) e, length-append (front n) (c ++ []), length-append c [], l) (omega arith)

  -- the token of m characters behind the first n
  stands : (n m at : ℕ) (k : TokenKind) (nl : Bool) (c : Character) (cs : List Character) → IsChar c → c ∷ cs ≡ drop n (chars s) → at ≡ length (front n)
      → Stands s at (record { kind = k; start = at; end = at + length (joined (take (suc m) (c ∷ cs))); slice = joined (take (suc m) (c ∷ cs)); new_line = nl })
  unfolding front
  stands n m at k nl c cs h e l =
      let w : List ℕ = joined (take (suc m) (c ∷ cs)) in
      let b : List ℕ = joined (drop (suc m) (c ∷ cs)) in
      let whole : s ≡ front n ++ (w ++ b) = front_split n (c ∷ cs) e ∙ ap (λ (x : List ℕ). front n ++ x) (joined_split (suc m) (c ∷ cs)) in
      let size : length s ≡ length (front n) + (length w + length b) = ap length whole ∙ length-append (front n) (w ++ b) ∙ rw (length-append w b) in
      let some : 0 < length w = rw (length-append c (joined (take m cs))) (omega (arith, char_byte c h)) in
      record {
        behind = omega arith;
        byte = omega arith;
        starts = record { count = n; place = l };
        ends = record { count = n + suc m; place = rw (front_add n (suc m) (c ∷ cs) e, length-append (front n) w, l) refl };
        holds = ((omega arith, omega arith), rw (whole, l) (slice_at (front n) w b));
      }

  -- tokens from the place behind the first n characters, `skip` of them still to be passed over; they stand from `to` on
  row_from : (skip n at : ℕ) (nl : Bool) (cs : List Character) (to : ℕ) → AllChars cs → cs ≡ drop n (chars s) → at ≡ length (front n) → to ≡ at + length (joined (take skip cs))
      → Row s to (tokens_from skip at nl cs)
  unfolding tokens_from
  row_from zero n at nl [] to a e l t = omega (arith, ap length (front_split n [] e), length-append (front n) [])
  row_from (suc k) n at nl [] to a e l t = omega (arith, ap length (front_split n [] e), length-append (front n) [])
  row_from (suc k) n at nl (c ∷ cs) to a e l t =
      row_from k (suc n) (at + length c) false cs to a.1 (drop_next n (chars s) c cs e) (next_front n at c cs e l) (t ∙ rw (length-append c (joined (take k cs))) (omega arith))
  row_from zero n at nl (c ∷ cs) to a e l t =
      go (is_space c) refl (λ skip at nl to. row_from skip (suc n) at nl cs to a.1 (drop_next n (chars s) c cs e))
    where
      kind : TokenKind
      kind = (longest_rule rules (c ∷ cs)).0

      more : ℕ
      more = pred (longest_rule rules (c ∷ cs)).1

      go : (b : Bool) → is_space c ≡ b → ((skip at : ℕ) (nl : Bool) (to : ℕ) → at ≡ length (front (suc n)) → to ≡ at + length (joined (take skip cs)) → Row s to (tokens_from skip at nl cs)) → Row s to (tokens_from zero at nl (c ∷ cs))
      go true p rec =
          let z : at + 1 ≡ length (front (suc n)) = ap (λ (m : ℕ). at + m) (sym (space_length c a.0 p)) ∙ next_front n at c cs e l in
          rw (p, tokens_from) (row_down s to (at + 1) (tokens_from zero (at + 1) (nl || eqb (code_point c) 10) cs) (omega arith) (rec zero (at + 1) (nl || eqb (code_point c) 10) (at + 1) z (omega arith)))
      go false p rec =
          rw (p, tokens_from) (
            stands_down s to at (placed kind (suc more) at nl (c ∷ cs)) (omega arith) (stands n more at kind nl c cs a.0 e l),
            rec more (at + length c) false (at + length (joined (take (suc more) (c ∷ cs)))) (next_front n at c cs e l) (rw (length-append c (joined (take more cs))) (omega arith)),
          )

module _ (s : List ℕ) (formed : is_utf8 s ≡ true) where
  -- "every token starts and ends on a character boundary within the text and takes at least one byte"
  pub tokens_stand : Row s 0 (tokens s)
  unfolding tokens chars front
  tokens_stand = row_from s (joined_is s formed) 0 0 0 false (chars s) 0 (chars_are 0 s) refl refl refl
