-- Bytes that stand for themselves: runs up to a backslash or a carriage return.
use Rattle.std.proofs.Common.{◌≡◌, ℕ, suc, ◌+◌, ◌-◌, ◌/◌, ◌%◌, ◌<◌, ◌≤◌, Bool, true, false, eqb, ◌⊎◌, List, [], ◌∷◌, ◌++◌, map, length, get_or, take, drop, Ok, Result, sym, refl, ap, ◌∙◌, inl, inr, append-nil, arith, length-append, take-append-drop, drop_of_length-le, length-take-le, drop-cons, eq-eqb, ne_eqb}
use Rattle.std.proofs.lemmas.Bool.{eqb-false}
use mathlib.Core.Bool.{or-false}
use native.Mathlib.Decide.{dec_lt}
use lib.Seq.{sets}
use Rattle.std.specs.List.{take_while}
use Rattle.std.proofs.lemmas.Bool.Decides.{nat_tests}
use Rattle.std.proofs.lemmas.List.Sums.{take_while-cons}
use Rattle.eon_spec.specs.Base.{elem}
use Rattle.eon_spec.specs.Utf8.{Character, chars, well_formed_len, code_point, decode, encode_char, encode, is_utf8}
use Rattle.eon_spec.specs.Unquote.{value, push, unescape, plain, without}
use Rattle.eon_spec.specs.Unquote as unquoting
use Rattle.eon_spec.specs.declared.refusal.Reason.{Reason}
use Rattle.eon_laws.proofs.Facts.{nor_left, nor_right, elem_append}
use Rattle.eon_laws.proofs.Utf8.{chars_append}
use Rattle.eon_laws.proofs.Encode.{encode_decode, encode_one, encode_two, encode_three, encode_four}
use Rattle.eon_laws.proofs.Shown.{without_none}
use Rattle.eon_unescape.specs.Modes.{reads_by}
use Rattle.eon_unescape.specs.Views.{kept, Formed, Reads, is_bare, RunIs}
use Rattle.eon_unescape.specs.declared.mode.Mode.{Mode}
use Rattle.eon_unescape.specs.declared.mode.Mode.TheVariants.{Literal, Plain}
use Rattle.eon_unescape.specs.declared.Next.{Next}
use Rattle.std.proofs.lemmas.List.{take_rest}
use Rattle.eon_laws.proofs.Stores.{sets_append}
use Rattle.eon_unescape.proofs.Writes.{reads_push, same_as}
use Rattle.eon_unescape.proofs.Places.{ascii_cuts, no_bytes}
use Rattle.eon_unescape.proofs.Lists.{without_append}

elem_char : (x c : ℕ) → x < 128 → elem x (encode_char c) ≡ eqb x c
elem_char x c h = one (dec_lt c 0x80)
  where
    high : (y : ℕ) → 128 ≤ y → eqb x y ≡ false
    high y k = ne_eqb x y (λ e. omega arith)

    three : Dec (c < 0x10000) → 0x800 ≤ c → elem x (encode_char c) ≡ eqb x c
    three (yes l) k = rw (encode_three c k l, high (0xE0 + c / 4096) (omega arith), high (0x80 + (c / 64) % 64) (omega arith), high (0x80 + c % 64) (omega arith), high c (omega arith))
    three (no l) k =
        rw (encode_four c (omega arith), high (0xF0 + c / 262144) (omega arith), high (0x80 + (c / 4096) % 64) (omega arith), high (0x80 + (c / 64) % 64) (omega arith), high (0x80 + c % 64) (omega arith), high c (omega arith))

    two : Dec (c < 0x800) → 0x80 ≤ c → elem x (encode_char c) ≡ eqb x c
    two (yes l) k = rw (encode_two c k l, high (0xC0 + c / 64) (omega arith), high (0x80 + c % 64) (omega arith), high c (omega arith))
    two (no l) k = three (dec_lt c 0x10000) (omega arith)

    one : Dec (c < 0x80) → elem x (encode_char c) ≡ eqb x c
    one (yes l) = rw (encode_one c l) (or-false (eqb x c))
    one (no l) = two (dec_lt c 0x800) (omega arith)

elem_encode : (x : ℕ) (d : List ℕ) → x < 128 → elem x (encode d) ≡ elem x d
unfolding encode
elem_encode x [] h = refl
elem_encode x (c ∷ d) h = elem_append x (encode_char c) (encode d) ∙ rw (elem_char x c h, elem_encode x d h)

pub encoded : (t : List ℕ) → Formed t → encode (decode t) ≡ t
unfolding is_utf8
encoded t f = encode_decode t (eq-eqb (well_formed_len t) (length t) f)

pub elem_decode : (x : ℕ) (t : List ℕ) → x < 128 → Formed t → elem x t ≡ elem x (decode t)
elem_decode x t h f = ap (elem x) (sym (encoded t f)) ∙ elem_encode x (decode t) h

-- characters before others
abbrev pushes : List ℕ → unquoting.Unescaped → unquoting.Unescaped
pushes [] w = w
pushes (c ∷ d) w = push c (pushes d w)

plain_on : (c : ℕ) (s : List ℕ) → (c ≡ 92 → ⊥) → unescape plain (c ∷ s) ≡ push c (unescape plain s)
unfolding unescape
plain_on c s e = rw (ne_eqb c 92 e, unescape)

pushes_value : (d u : List ℕ) → value (d ++ u) ≡ pushes d (value u)
pushes_value [] u = refl
pushes_value (c ∷ d) u = ap (push c) (pushes_value d u)

pushes_plain : (d u : List ℕ) → elem 92 d ≡ false → unescape plain (d ++ u) ≡ pushes d (unescape plain u)
pushes_plain [] u e = refl
pushes_plain (c ∷ d) u e =
    plain_on c (d ++ u) (λ f. eqb-false 92 c (nor_left (eqb 92 c) (elem 92 d) e) (sym f)) ∙ ap (push c) (pushes_plain d u (nor_right (eqb 92 c) (elem 92 d) e))

plain_empty : unescape plain [] ≡ value []
unfolding unescape
plain_empty = refl

pub plain_text : (d : List ℕ) → elem 92 d ≡ false → unescape plain d ≡ value d
plain_text d e = ap (unescape plain) (sym (append-nil d)) ∙ pushes_plain d [] e ∙ ap (pushes d) plain_empty ∙ sym (pushes_value d []) ∙ ap value (append-nil d)

-- ---- a run of bytes up to a backslash or a carriage return

points_append : (a b : List Character) → map code_point (a ++ b) ≡ map code_point a ++ map code_point b
points_append [] b = refl
points_append (c ∷ a) b = ap (λ (l : List ℕ). code_point c ∷ l) (points_append a b)

decode_append : (a b : List ℕ) → Formed a → decode (a ++ b) ≡ decode a ++ decode b
unfolding decode chars well_formed_len
decode_append a b f = ap (map code_point) (chars_append 0 a b (omega arith) f) ∙ points_append (chars a) (chars b)

-- bytes before a backslash, a carriage return or the end
record Bare (s : List ℕ) (n : ℕ) : Type 0 where
  within : n ≤ length s
  ends : n < length s → get_or s n 0 < 0x80
  no_return : elem 13 (take n s) ≡ false
  no_backslash : elem 92 (take n s) ≡ false

abbrev bare_len : List ℕ → ℕ
bare_len s = length (take_while is_bare s)

neither : (b : ℕ) → is_bare b ≡ true → (eqb 13 b ≡ false) × (eqb 92 b ≡ false)
neither b e = (grind (arith, nat_tests), grind (arith, nat_tests))

either : (b : ℕ) → is_bare b ≡ false → b < 128
either b e = grind (arith, nat_tests)

bare : (s : List ℕ) → Bare s (bare_len s)
bare [] = record { within = omega arith; ends = λ h. absurd (omega arith); no_return = refl; no_backslash = refl }
bare (b ∷ s) = go (is_bare b) refl (bare s)
  where
    go : (p : Bool) → is_bare b ≡ p → Bare s (bare_len s) → Bare (b ∷ s) (bare_len (b ∷ s))
    go true e r = rw (take_while-cons is_bare b s, e) (record {
      within = omega (arith, r.within);
      ends = λ h. r.ends (omega arith);
      no_return = rw (neither b e).0 r.no_return;
      no_backslash = rw (neither b e).1 r.no_backslash;
    })
    go false e r = rw (take_while-cons is_bare b s, e) (record { within = omega arith; ends = λ h. either b e; no_return = refl; no_backslash = refl })

module _ (s : List ℕ) (n : ℕ) (x : Bare s n) (f : Formed s) where
  run_formed : Formed (take n s) × Formed (drop n s)
  run_formed = go (dec_lt n (length s))
    where
      whole : Formed (take n s ++ drop n s)
      whole = rw (take-append-drop n s) f

      go : Dec (n < length s) → Formed (take n s) × Formed (drop n s)
      go (yes h) =
          let c = drop-cons s n 0 h in
          let r = ascii_cuts (get_or s n 0) (drop (suc n) s) (x.ends h) (take n s) (rw c at whole) in
          (r.0, rw c r.1)
      go (no h) =
          let c : drop n s ≡ [] = drop_of_length-le s {i = n} (omega arith) in
          (rw (c, append-nil (take n s)) at whole, rw c no_bytes)

  run_kept : kept s ≡ decode (take n s) ++ kept (drop n s)
  unfolding kept
  run_kept =
      ap (λ (l : List ℕ). without 13 (decode l)) (sym (take-append-drop n s))
      ∙ ap (without 13) (decode_append (take n s) (drop n s) run_formed.0)
      ∙ without_append 13 (decode (take n s)) (decode (drop n s))
      ∙ ap (λ (l : List ℕ). l ++ without 13 (decode (drop n s))) (without_none 13 (decode (take n s)) (sym (elem_decode 13 (take n s) (omega arith) run_formed.0) ∙ x.no_return))

  run_reads : (m : Mode) → (m ≡ Literal) ⊎ (m ≡ Plain) → reads_by m (kept s) ≡ pushes (decode (take n s)) (reads_by m (kept (drop n s)))
  run_reads m (inl p) = rw p (ap value run_kept ∙ pushes_value (decode (take n s)) (kept (drop n s)))
  run_reads m (inr p) = rw p (ap (unescape plain) run_kept ∙ pushes_plain (decode (take n s)) (kept (drop n s)) (sym (elem_decode 92 (take n s) (omega arith) run_formed.0) ∙ x.no_backslash))

reads_pushes : (d : List ℕ) (at : ℕ) (entry : List ℕ) (w : unquoting.Unescaped) (exit : List ℕ) (r : Result ℕ Reason) → Reads (at + length (encode d)) (sets entry at (encode d)) w exit r → Reads at entry (pushes d w) exit r
unfolding encode
reads_pushes [] at entry w exit r h = let z : at + 0 ≡ at = omega arith in rw z at h
reads_pushes (c ∷ d) at entry w exit r h =
    let z : at + length (encode_char c ++ encode d) ≡ at + length (encode_char c) + length (encode d) = rw (length-append (encode_char c) (encode d)) (omega arith) in
    reads_push c at entry (pushes d w) exit r (at + length (encode_char c)) (sets entry at (encode_char c)) refl refl
    (reads_pushes d (at + length (encode_char c)) (sets entry at (encode_char c)) w exit r (rw (z, ← sets_append (encode_char c) (encode d) entry at) at h))

pub bare_run : (s : List ℕ) (n : ℕ) (m : Mode) → n ≡ bare_len s → Formed s → (m ≡ Literal) ⊎ (m ≡ Plain) → RunIs s m n
bare_run s n m e f p =
    let x : Bare s n = rw e (bare s) in
    let b = encoded (take n s) (run_formed s n x f).0 in
    let l : length (encode (decode (take n s))) ≡ n = ap length b ∙ length-take-le n s x.within in
    record {
      within = x.within;
      formed = (run_formed s n x f).1;
      reads = λ at out exit r h.
          same_as (pushes (decode (take n s)) (reads_by m (kept (drop n s)))) (reads_by m (kept s)) at out exit r (run_reads s n x f m p)
          (reads_pushes (decode (take n s)) at out (reads_by m (kept (drop n s))) exit r (rw (l, b) h));
    }

-- one turn: a run, and then the end of the text or a character
module _ (s : List ℕ) (m : Mode) (n at : ℕ) (out : List ℕ) (x : RunIs s m n) where
  pub turn_end : (exit : List ℕ) (at2 : ℕ) → at2 ≡ at + length (take n s) → exit ≡ sets out at (take n s) → kept (take (length s - n) (drop n s)) ≡ [] → reads_by m [] ≡ value [] → Reads at out (reads_by m (kept s)) exit (Ok at2)
  unfolding encode
  turn_end exit at2 p q e f =
      let k : kept (drop n s) ≡ [] = rw (take_rest s n) at e in
      x.reads at out exit (Ok at2) (rw (k, f) (omega (arith, length-take-le n s x.within), q))

  pub turn_put : (next : Next) (c : ℕ) (to : Mode) (at2 at3 : ℕ) (out2 out3 exit : List ℕ) (r : Result ℕ Reason) → at2 ≡ at + length (take n s) → out2 ≡ sets out at (take n s)
      → kept (take (length s - n) (drop n s)) ≡ next.code ∷ kept next.rest.now → ((u : List ℕ) → reads_by m (next.code ∷ u) ≡ push c (reads_by to u))
      → at3 ≡ at2 + length (encode_char c) → out3 ≡ sets out2 at2 (encode_char c)
      → Reads at3 out3 (reads_by to (kept next.rest.now)) exit r → Reads at out (reads_by m (kept s)) exit r
  turn_put next c to at2 at3 out2 out3 exit r p q e f g o h =
      let k : kept (drop n s) ≡ next.code ∷ kept next.rest.now = rw (take_rest s n) at e in
      let z : at2 ≡ at + n = omega (arith, length-take-le n s x.within) in
      let w = reads_by to (kept next.rest.now) in
      x.reads at out exit r
      (same_as (push c w) (reads_by m (kept (drop n s))) (at + n) (sets out at (take n s)) exit r (ap (reads_by m) k ∙ f (kept next.rest.now))
      (reads_push c (at + n) (sets out at (take n s)) w exit r at3 out3 (g ∙ rw z) (o ∙ rw (q, z)) h))

  pub turn_formed : Formed (take (length s - n) (drop n s))
  turn_formed = rw (take_rest s n) x.formed
