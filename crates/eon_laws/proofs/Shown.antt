-- Showing what unquoting answered gives the value, wherever it is held; and what is shown stands where it was said to stand.
use Rattle.std.proofs.Common.{◌≡◌, ℕ, suc, ◌+◌, ◌-◌, ◌<◌, ◌≤◌, Bool, true, false, cond, not, ◌&&◌, ◌||◌, eqb, ltb, leb, ◌⊎◌, List, [], ◌∷◌, ◌++◌, length, take, drop, sym, refl, ap, ◌∙◌, inl, inr, arith, length-append, length-drop, take-append-drop, length-take-le, drop-drop, le-ltb, ne_eqb, le-leb, take_at, drop_at}
use Rattle.eon_spec.specs.Base.{elem, eq_list}
use Rattle.eon_spec.specs.Utf8.{encode_char, encode, decode, is_utf8}
use Rattle.eon_spec.specs.Unquote.{Unescaped, value, fault, push, unescape, plain, without, starts_with, ends_with, in_marks, one_line_only, drop_line_feed, unquote_chars, value_bytes, unquote}
use Rattle.eon_spec.specs.Refused.{Refusal}
use Rattle.eon_spec.specs.declared.Which.TheVariants.{Quoted, Scratch}
use Rattle.eon_spec.specs.declared.Part.{Part}
use Rattle.eon_spec.specs.Calls.{done, refused_with, After, after, nowhere, checked, written, fill, part_of, opening, is_part, handed_back, unescaped_outcome, unquote_call, pick, show_call}
use Rattle.std.proofs.lemmas.Bool.{not-true}
use Rattle.eon_laws.proofs.Facts.{clash, lt_of, and_left, and_right, nor_left, nor_right, eq_of, eqb_same, le_of, list_eq, le_of_not, eqb_sym, elem_append}
use Rattle.eon_laws.proofs.Encode.{encode_one, encode_append, encode_decode}

-- ---- ASCII in a text and in its code points

-- the first byte of a code point that is not ASCII
abbrev StartsHigh : List ℕ → Type 0
StartsHigh [] = ⊥
StartsHigh (b ∷ s) = 192 ≤ b

high : (c : ℕ) → 128 ≤ c → StartsHigh (encode_char c)
unfolding encode_char
high c h = go (leb (suc c) 0x800) (leb (suc c) 0x10000) refl refl
  where
    go : (x y : Bool) → leb (suc c) 0x800 ≡ x → leb (suc c) 0x10000 ≡ y → StartsHigh (encode_char c)
    go true y e f = rw (le-ltb c 0x80 h, encode_char, e) (omega arith)
    go false true e f = rw (le-ltb c 0x80 h, encode_char, e, f) (omega arith)
    go false false e f = rw (le-ltb c 0x80 h, encode_char, e, f) (omega arith)

abbrev AllAscii : List ℕ → Type 0
AllAscii [] = Unit {0}
AllAscii (c ∷ s) = (c < 128) × AllAscii s

encode_ascii : (m : List ℕ) → AllAscii m → encode m ≡ m
unfolding encode
encode_ascii [] h = refl
encode_ascii (c ∷ m) h = rw (encode_one c h.0, encode_ascii m h.1)

-- a text begins with ASCII bytes exactly if its code points begin with them
starts_encoded : (m d : List ℕ) → AllAscii m → starts_with m (encode d) ≡ starts_with m d
unfolding encode
starts_encoded [] d h = refl
starts_encoded (x ∷ m) [] h = refl
starts_encoded (x ∷ m) (c ∷ d) h = go (leb (suc c) 128) refl (starts_encoded m d h.1)
  where
    wide : (s : List ℕ) → StartsHigh s → starts_with (x ∷ m) (s ++ encode d) ≡ false
    wide [] k = absurd k
    wide (b ∷ s) k = rw (ne_eqb b x (λ e. omega (arith, h.0)))

    go : (b : Bool) → leb (suc c) 128 ≡ b → starts_with m (encode d) ≡ starts_with m d → starts_with (x ∷ m) (encode (c ∷ d)) ≡ starts_with (x ∷ m) (c ∷ d)
    go true e rec = rw (encode_one c (lt_of c 128 e)) (ap (λ (y : Bool). eqb c x && y) rec)
    go false e rec =
        let k = le_of_not c 128 e in
        wide (encode_char c) (high c k) ∙ sym (ap (λ (y : Bool). y && eq_list (take (length m) d) m) (ne_eqb c x (λ f. omega (arith, h.0))))

-- an ASCII byte that the text lacks is no code point of it
elem_encoded : (x : ℕ) (d : List ℕ) → x < 128 → elem x (encode d) ≡ false → elem x d ≡ false
unfolding encode
elem_encoded x [] h e = refl
elem_encoded x (c ∷ d) h e = go (eqb x c) refl (elem_encoded x d h)
  where
    split : elem x (encode_char c) || elem x (encode d) ≡ false
    split = sym (elem_append x (encode_char c) (encode d)) ∙ e

    there : eqb x c ≡ true → elem x (encode_char c) ≡ true
    there f = rw (← eq_of x c f, encode_one x h, eqb_same x)

    go : (p : Bool) → eqb x c ≡ p → (elem x (encode d) ≡ false → elem x d ≡ false) → eqb x c || elem x d ≡ false
    go true f rec = clash (there f) (nor_left (elem x (encode_char c)) (elem x (encode d)) split)
    go false f rec = rw f (rec (nor_right (elem x (encode_char c)) (elem x (encode d)) split))

pub without_none : (x : ℕ) (s : List ℕ) → elem x s ≡ false → without x s ≡ s
without_none x [] e = refl
without_none x (c ∷ s) e =
    let n = nor_left (eqb x c) (elem x s) e in
    rw (eqb_sym c x ∙ n, without) (ap (λ (r : List ℕ). c ∷ r) (without_none x s (nor_right (eqb x c) (elem x s) e)))

pub plain_text : (s : List ℕ) → elem 92 s ≡ false → unescape plain s ≡ value s
unfolding unescape
plain_text [] e = refl
plain_text (c ∷ s) e =
    let n = nor_left (eqb 92 c) (elem 92 s) e in
    rw (eqb_sym c 92 ∙ n, unescape) (ap (push c) (plain_text s (nor_right (eqb 92 c) (elem 92 s) e)))

-- ---- between the marks

framed : (m d : List ℕ) (f : List ℕ → Unescaped) (v : List ℕ) → starts_with m d ≡ true → in_marks m d f ≡ value v → (t : List ℕ) × (d ≡ m ++ (t ++ m)) × (f t ≡ value v)
framed m d f v e i = go (ends_with m rest) refl i
  where
    rest : List ℕ
    rest = drop (length m) d

    inner : ℕ
    inner = length rest - length m

    opened : d ≡ m ++ rest
    opened = sym (take-append-drop (length m) d) ∙ rw (list_eq (take (length m) d) m e)

    go : (b : Bool) → ends_with m rest ≡ b → in_marks m d f ≡ value v → (t : List ℕ) × (d ≡ m ++ (t ++ m)) × (f t ≡ value v)
    go true p i =
        let close = list_eq (drop inner rest) m (and_right (leb (length m) (length rest)) (eq_list (drop inner rest) m) p) in
        let whole : rest ≡ take inner rest ++ m = sym (take-append-drop inner rest) ∙ rw close in
        (take inner rest, opened ∙ ap (λ (x : List ℕ). m ++ x) whole, rw (p, in_marks) at i)
    go false p i = cc (rw (p, in_marks) at i)

one_line_lem : (f : List ℕ → Unescaped) (t v : List ℕ) → one_line_only f t ≡ value v → f t ≡ value v
one_line_lem f t v i = go (elem 10 t) refl i
  where
    go : (b : Bool) → elem 10 t ≡ b → one_line_only f t ≡ value v → f t ≡ value v
    go true p i = cc (rw (p, one_line_only) at i)
    go false p i = rw (p, one_line_only) at i

-- the code points d are a mark, skipped code points, the value and the mark again
record Held (d v : List ℕ) : Type 0 where
  mark : List ℕ
  skipped : List ℕ
  whole : d ≡ mark ++ (skipped ++ (v ++ mark))
  opened : opening d ≡ length mark + length skipped
  marks : AllAscii mark
  skips : AllAscii skipped

value_is : (t v : List ℕ) → value t ≡ value v → t ≡ v
value_is t v e = cc

-- `\'\'\'`, with a line feed that is dropped or without
literal_held : (d t v : List ℕ) → d ≡ 39 ∷ 39 ∷ 39 ∷ (t ++ (39 ∷ 39 ∷ 39 ∷ [])) → drop_line_feed t ≡ v → Held d v
literal_held d [] v e f =
    record { mark = 39 ∷ 39 ∷ 39 ∷ []; skipped = []; whole = e ∙ rw (← f) refl; opened = rw e refl; marks = (omega arith, (omega arith, (omega arith, tt))); skips = tt }
literal_held d (c ∷ t) v e f = go (eqb c 10) refl f
  where
    go : (b : Bool) → eqb c 10 ≡ b → drop_line_feed (c ∷ t) ≡ v → Held d v
    go true p f =
        let z : t ≡ v = rw (p, drop_line_feed) at f in
        record {
          mark = 39 ∷ 39 ∷ 39 ∷ [];
          skipped = 10 ∷ [];
          whole = e ∙ rw (eq_of c 10 p, z) refl;
          opened = rw (e, p) refl;
          marks = (omega arith, (omega arith, (omega arith, tt)));
          skips = (omega arith, tt);
        }
    go false p f =
        let z : c ∷ t ≡ v = rw (p, drop_line_feed) at f in
        record { mark = 39 ∷ 39 ∷ 39 ∷ []; skipped = []; whole = e ∙ rw (← z) refl; opened = rw (e, p) refl; marks = (omega arith, (omega arith, (omega arith, tt))); skips = tt }

-- one mark: the code points begin with no three of it
one_opened : (q : ℕ) (r : List ℕ) → (q ≡ 39) ⊎ (q ≡ 34) → starts_with (q ∷ q ∷ q ∷ []) (q ∷ r) ≡ false → opening (q ∷ r) ≡ 1
one_opened q [] (inl e) f = rw e refl
one_opened q (x ∷ []) (inl e) f = go (eqb x 39) refl
  where
    go : (b : Bool) → eqb x 39 ≡ b → opening (q ∷ x ∷ []) ≡ 1
    go true p = rw (e, p) refl
    go false p = rw (e, p) refl
one_opened q (x ∷ y ∷ r) (inl e) f = go (eqb x 39) (eqb y 39) refl refl
  where
    go : (a b : Bool) → eqb x 39 ≡ a → eqb y 39 ≡ b → opening (q ∷ x ∷ y ∷ r) ≡ 1
    go true true p s = clash (rw (e, p, s) refl) f
    go true false p s = rw (e, p, s) refl
    go false b p s = rw (e, p) refl
one_opened q [] (inr e) f = rw e refl
one_opened q (x ∷ []) (inr e) f = go (eqb x 34) refl
  where
    go : (b : Bool) → eqb x 34 ≡ b → opening (q ∷ x ∷ []) ≡ 1
    go true p = rw (e, p) refl
    go false p = rw (e, p) refl
one_opened q (x ∷ y ∷ r) (inr e) f = go (eqb x 34) (eqb y 34) refl refl
  where
    go : (a b : Bool) → eqb x 34 ≡ a → eqb y 34 ≡ b → opening (q ∷ x ∷ y ∷ r) ≡ 1
    go true true p s = clash (rw (e, p, s) refl) f
    go true false p s = rw (e, p, s) refl
    go false b p s = rw (e, p) refl

one_held : (q : ℕ) (d v : List ℕ) → (q ≡ 39) ⊎ (q ≡ 34) → q < 128 → starts_with (q ∷ q ∷ q ∷ []) d ≡ false → d ≡ q ∷ (v ++ (q ∷ [])) → Held d v
one_held q d v c h f e =
    record {
      mark = q ∷ [];
      skipped = [];
      whole = e;
      opened = rw e (one_opened q (v ++ (q ∷ [])) c (rw e at f));
      marks = (h, tt);
      skips = tt;
    }

three_held : (d v : List ℕ) → d ≡ 34 ∷ 34 ∷ 34 ∷ (v ++ (34 ∷ 34 ∷ 34 ∷ [])) → Held d v
three_held d v e =
    record { mark = 34 ∷ 34 ∷ 34 ∷ []; skipped = []; whole = e; opened = rw e refl; marks = (omega arith, (omega arith, (omega arith, tt))); skips = tt }

-- the part of a code point list without backslashes has none
elem_middle : (x : ℕ) (d a t b : List ℕ) → d ≡ a ++ (t ++ b) → elem x d ≡ false → elem x t ≡ false
elem_middle x d a t b w e =
    let f = nor_right (elem x a) (elem x (t ++ b)) (sym (elem_append x a (t ++ b)) ∙ ap (elem x) (sym w) ∙ e) in
    nor_left (elem x t) (elem x b) (sym (elem_append x t b) ∙ f)

-- a value that is a part: literal, or without a backslash
held : (d v : List ℕ) → starts_with (39 ∷ []) d || not (elem 92 d) ≡ true → unquote_chars d ≡ value v → Held d v
unfolding unquote_chars
held d v part u = go (starts_with (39 ∷ 39 ∷ 39 ∷ []) d) (starts_with (39 ∷ []) d) (starts_with (34 ∷ 34 ∷ 34 ∷ []) d) (starts_with (34 ∷ []) d) refl refl refl refl u
  where
    bare : starts_with (39 ∷ []) d ≡ false → elem 92 d ≡ false
    bare f = not-true (elem 92 d) (rw f at part)

    go : (a b c e : Bool) → starts_with (39 ∷ 39 ∷ 39 ∷ []) d ≡ a → starts_with (39 ∷ []) d ≡ b → starts_with (34 ∷ 34 ∷ 34 ∷ []) d ≡ c → starts_with (34 ∷ []) d ≡ e → unquote_chars d ≡ value v → Held d v
    go true b c e p q r s u =
        let x = framed (39 ∷ 39 ∷ 39 ∷ []) d (λ t. value (drop_line_feed t)) v p (rw (p, unquote_chars) at u) in
        literal_held d x.0 v x.1 (value_is (drop_line_feed x.0) v x.2)
    go false true c e p q r s u =
        let x = framed (39 ∷ []) d (one_line_only value) v q (rw (p, unquote_chars, q) at u) in
        let z = value_is x.0 v (one_line_lem value x.0 v x.2) in
        one_held 39 d v (inl refl) (omega arith) p (x.1 ∙ rw z refl)
    go false false true e p q r s u =
        let x = framed (34 ∷ 34 ∷ 34 ∷ []) d (unescape plain) v r (rw (p, unquote_chars, q, r) at u) in
        let n = elem_middle 92 d (34 ∷ 34 ∷ 34 ∷ []) x.0 (34 ∷ 34 ∷ 34 ∷ []) x.1 (bare q) in
        let z = value_is x.0 v (sym (plain_text x.0 n) ∙ x.2) in
        three_held d v (x.1 ∙ rw z refl)
    go false false false true p q r s u =
        let x = framed (34 ∷ []) d (one_line_only (unescape plain)) v s (rw (p, unquote_chars, q, r, s) at u) in
        let n = elem_middle 92 d (34 ∷ []) x.0 (34 ∷ []) x.1 (bare q) in
        let z = value_is x.0 v (sym (plain_text x.0 n) ∙ one_line_lem (unescape plain) x.0 v x.2) in
        one_held 34 d v (inr refl) (omega arith) r (x.1 ∙ rw z refl)
    go false false false false p q r s u = cc (rw (p, unquote_chars, q, r, s) at u)

-- ---- the law

module _ (s : List ℕ) (formed : is_utf8 s ≡ true) (v : List ℕ) where
  d : List ℕ
  d = decode s

  encoded : encode d ≡ s
  unfolding d
  encoded = encode_decode s formed

  starts : (m : List ℕ) → AllAscii m → starts_with m s ≡ starts_with m d
  starts m h = ap (starts_with m) (sym encoded) ∙ starts_encoded m d h

  lacks : (x : ℕ) → x < 128 → elem x s ≡ false → elem x d ≡ false
  lacks x h e = elem_encoded x d h (ap (elem x) encoded ∙ e)

  opens : opening s ≡ opening d
  opens =
      ap (λ (b : Bool). cond b 4 (cond (starts_with (39 ∷ 39 ∷ 39 ∷ []) s || starts_with (34 ∷ 34 ∷ 34 ∷ []) s) 3 1)) (starts (39 ∷ 39 ∷ 39 ∷ 10 ∷ []) (omega arith, (omega arith, (omega arith, (omega arith, tt)))))
      ∙ ap (λ (b : Bool). cond (starts_with (39 ∷ 39 ∷ 39 ∷ 10 ∷ []) d) 4 (cond (b || starts_with (34 ∷ 34 ∷ 34 ∷ []) s) 3 1)) (starts (39 ∷ 39 ∷ 39 ∷ []) (omega arith, (omega arith, (omega arith, tt))))
      ∙ ap (λ (b : Bool). cond (starts_with (39 ∷ 39 ∷ 39 ∷ 10 ∷ []) d) 4 (cond (starts_with (39 ∷ 39 ∷ 39 ∷ []) d || b) 3 1)) (starts (34 ∷ 34 ∷ 34 ∷ []) (omega arith, (omega arith, (omega arith, tt))))

  -- "literal or has no backslash", of the code points
  part_decoded : starts_with (39 ∷ []) s || not (elem 92 s) ≡ true → starts_with (39 ∷ []) d || not (elem 92 d) ≡ true
  part_decoded e = go (starts_with (39 ∷ []) s) (elem 92 s) refl refl e
    where
      go : (a b : Bool) → starts_with (39 ∷ []) s ≡ a → elem 92 s ≡ b → starts_with (39 ∷ []) s || not (elem 92 s) ≡ true → starts_with (39 ∷ []) d || not (elem 92 d) ≡ true
      go true b p q e = rw (sym (starts (39 ∷ []) (omega arith, tt)) ∙ p)
      go false true p q e = clash (rw (p, q) at e) refl
      go false false p q e = rw (sym (starts (39 ∷ []) (omega arith, tt)) ∙ p, lacks 92 (omega arith) q)

  -- the bytes of the value stand behind the opening
  part_holds : is_part s ≡ true → unquote_chars (without 13 d) ≡ value v → (opening s + length (encode v) ≤ length s) × (take (length (encode v)) (drop (opening s) s) ≡ encode v)
  part_holds p u =
      let c = not-true (elem 13 s) (and_left (not (elem 13 s)) (starts_with (39 ∷ []) s || not (elem 92 s)) p) in
      let w = without_none 13 d (lacks 13 (omega arith) c) in
      let h = held d v (part_decoded (and_right (not (elem 13 s)) (starts_with (39 ∷ []) s || not (elem 92 s)) p)) (ap unquote_chars (sym w) ∙ u) in
      placed_at h.mark h.skipped h.whole (opens ∙ h.opened) h.marks h.skips
    where
      placed_at : (m k : List ℕ) → d ≡ m ++ (k ++ (v ++ m)) → opening s ≡ length m + length k → AllAscii m → AllAscii k
          → (opening s + length (encode v) ≤ length s) × (take (length (encode v)) (drop (opening s) s) ≡ encode v)
      placed_at m k whole o am ak =
          let b : s ≡ m ++ (k ++ (encode v ++ m)) =
          sym encoded ∙ ap encode whole ∙ encode_append m (k ++ (v ++ m))
          ∙ rw (encode_ascii m am, encode_append k (v ++ m), encode_ascii k ak, encode_append v m, encode_ascii m am) refl
          in
          let size : length s ≡ length m + (length k + (length (encode v) + length m)) = ap length b ∙ rw (length-append m (k ++ (encode v ++ m)), length-append k (encode v ++ m), length-append (encode v) m) refl in
          let behind : drop (length m + length k) s ≡ encode v ++ m =
          rw b (sym (drop-drop (length k) (length m) (m ++ (k ++ (encode v ++ m)))) ∙ ap (drop (length k)) (drop_at m (k ++ (encode v ++ m)) _ refl) ∙ drop_at k (encode v ++ m) _ refl)
          in
          (omega arith, rw (o, behind) (take_at (encode v) m _ refl))

module _ (s scratch : List ℕ) where
  -- what a call that answers gave: a well-formed text, its value v, and where it is handed back
  record Answered (p : Part) (m : List ℕ) : Type 0 where
    formed : is_utf8 s ≡ true
    v : List ℕ
    chars_give : unquote_chars (without 13 (decode s)) ≡ value v
    gives : fill scratch (done (handed_back s (encode v))) ≡ after (done p) m

  answered : (p : Part) (m : List ℕ) → unquote_call s scratch ≡ after (done p) m → Answered p m
  unfolding unquote_call checked fill unquote
  answered p m e = go (ltb 65535 (length s)) (is_utf8 s) (unquote_chars (without 13 (decode s))) refl refl refl e
    where
      refused_not : {A : Type 0} (r : Refusal) (l : List ℕ) → after {A = Part} (refused_with r) l ≡ after (done p) m → A
      refused_not r l f = let k = ap (λ (x : After Part). x.answer) f in cc

      go : (x y : Bool) (u : Unescaped) → ltb 65535 (length s) ≡ x → is_utf8 s ≡ y → unquote_chars (without 13 (decode s)) ≡ u → unquote_call s scratch ≡ after (done p) m → Answered p m
      go true y u f g h e = refused_not _ scratch (rw (f, checked) at e)
      go false false u f g h e = refused_not _ scratch (rw (f, checked, g) at e)
      go false true (fault n) f g h e = refused_not (nowhere n) scratch (rw (f, checked, g, h) at e)
      go false true (value v) f g h e = record { formed = g; v = v; chars_give = h; gives = rw (f, checked, g, h) at e }

  -- what is shown is the value
  pub shown : (p : Part) (m : List ℕ) → unquote_call s scratch ≡ after (done p) m → unescaped_outcome (unquote s) ≡ done (show_call p s m)
  unfolding unquote fill show_call d decode
  shown p m e =
      let a = answered p m e in
      let u : unescaped_outcome (unquote s) ≡ done (encode a.v) = ap (λ (x : Unescaped). unescaped_outcome (value_bytes x)) a.chars_give in
      u ∙ ap done (go (is_part s) refl a.v a.formed a.chars_give a.gives)
    where
      same : {q r : Part} {k l : List ℕ} → after (done q) k ≡ after (done r) l → (q ≡ r) × (k ≡ l)
      same f = let x = ap (λ (z : After Part). z.answer) f in let y = ap (λ (z : After Part). z.memory) f in (cc, y)

      go : (b : Bool) → is_part s ≡ b → (v : List ℕ) → is_utf8 s ≡ true → unquote_chars (without 13 (decode s)) ≡ value v → fill scratch (done (handed_back s (encode v))) ≡ after (done p) m → encode v ≡ show_call p s m
      go true i v f c g =
          let x : after (done (part_of Quoted (opening s) (length (encode v)))) (written [] scratch) ≡ after (done p) m = rw (le-leb 0 (length scratch) (omega arith), fill) at (rw i at g) in
          let h = part_holds s f v i c in
          rw (← (same x).0, le-leb (opening s + length (encode v)) (length s) h.0) (sym h.1)
      go false i v f c g = in_scratch (leb (length (encode v)) (length scratch)) refl
        where
          in_scratch : (b : Bool) → leb (length (encode v)) (length scratch) ≡ b → encode v ≡ show_call p s m
          in_scratch false l = let k = ap (λ (x : After Part). x.answer) (rw (l, fill) at (rw i at g)) in cc
          in_scratch true l =
              let x : after (done (part_of Scratch 0 (length (encode v)))) (written (encode v) scratch) ≡ after (done p) m = rw (l, fill) at (rw i at g) in
              let n : 0 + length (encode v) ≤ length (written (encode v) scratch) = rw (length-append (encode v) (drop (length (encode v)) scratch)) (omega arith) in
              rw (← (same x).0, ← (same x).1, le-leb (0 + length (encode v)) (length (written (encode v) scratch)) n) (sym (take_at (encode v) (drop (length (encode v)) scratch) _ refl))

-- bytes that are shown stand within the slice named, from the place named on
pub shown_stands : (p : Part) (q s : List ℕ) → 0 < length (show_call p q s)
    → (p.start + length (show_call p q s) ≤ length (pick p.which q s)) × (show_call p q s ≡ take (length (show_call p q s)) (drop p.start (pick p.which q s)))
unfolding show_call
shown_stands p q s h = go (leb (p.start + p.len) (length (pick p.which q s))) refl h
  where
    go : (t : Bool) → leb (p.start + p.len) (length (pick p.which q s)) ≡ t → 0 < length (cond t (take p.len (drop p.start (pick p.which q s))) [])
        → (p.start + length (show_call p q s) ≤ length (pick p.which q s)) × (show_call p q s ≡ take (length (show_call p q s)) (drop p.start (pick p.which q s)))
    go false e k = absurd (omega (arith, k))
    go true e k =
        let w = le_of (p.start + p.len) (length (pick p.which q s)) e in
        let n : length (take p.len (drop p.start (pick p.which q s))) ≡ p.len = length-take-le p.len (drop p.start (pick p.which q s)) (omega (arith, w, length-drop p.start (pick p.which q s))) in
        rw (e, show_call) (omega (arith, n, w), rw n refl)
