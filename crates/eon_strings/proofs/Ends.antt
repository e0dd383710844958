-- A text's last byte, and the quotes at its end; what stands before them.
use Rattle.std.proofs.Common.{◌≡◌, ℕ, suc, ◌+◌, ◌-◌, ◌<◌, ◌≤◌, Bool, true, false, leb, ◌⊎◌, List, [], ◌∷◌, ◌++◌, map, length, get_or, take, drop, replicate, sym, refl, ap, ◌∙◌, inl, inr, append_assoc, append-nil, add-one, arith, length-append, get_or-drop, take-suc, take_at, get_or-append-add, drop_at, ne_eqb, le-leb}
use Rattle.std.proofs.lemmas.Bool.{lt-leb}
use lib.ListN.{length-replicate, get_or-replicate}
use lib.Seq.{take-length, get_or-append_seam}
use Rattle.eon_spec.specs.Base.{eq_list, elem}
use Rattle.eon_spec.specs.Utf8.{Character, chars, chars_from, well_formed_len, joined, code_point, decode}
use Rattle.eon_spec.specs.Unquote.{without, ends_with}
use Rattle.eon_laws.proofs.Facts.{and_right, list_eq, list_same, nor_left, elem_append}
use Rattle.eon_laws.proofs.Utf8.{chars_concat}
use Rattle.eon_laws.proofs.Chars.{IsChar, AllChars, chars_are, all_formed, all_chars}
use Rattle.eon_unescape.specs.Views.{kept, Formed, BytesOf}
use Rattle.std.proofs.lemmas.List.{length-take-le, take-take}
use Rattle.eon_strings.specs.Views.{Before, EndsOtherwise, FrontOf}
use Rattle.eon_unescape.proofs.Places.{char_is, high_at, CharIs}
use Rattle.eon_unescape.proofs.Lists.{without_append}

-- ---- the last of a row of characters

abbrev Last : List Character → Type 0
Last cs = (cs ≡ []) ⊎ ((ds : List Character) × (c : Character) × (cs ≡ ds ++ (c ∷ [])) × AllChars ds × IsChar c)

last : (cs : List Character) → AllChars cs → Last cs
last [] h = inl refl
last (c ∷ cs) h = go (last cs h.1)
  where
    go : Last cs → Last (c ∷ cs)
    go (inl e) = inr ([], c, ap (λ (l : List Character). c ∷ l) e, tt, h.0)
    go (inr x) = inr (c ∷ x.0, x.1, ap (λ (l : List Character). c ∷ l) x.2, (h.0, x.3), x.4)

joined_snoc : (ds : List Character) (c : Character) → joined (ds ++ (c ∷ [])) ≡ joined ds ++ c
joined_snoc [] c = append-nil c
joined_snoc (d ∷ ds) c = ap (λ (l : List ℕ). d ++ l) (joined_snoc ds c) ∙ sym (append_assoc d (joined ds) c)

points_snoc : (ds : List Character) (c : Character) → map code_point (ds ++ (c ∷ [])) ≡ map code_point ds ++ (code_point c ∷ [])
points_snoc [] c = refl
points_snoc (d ∷ ds) c = ap (λ (l : List ℕ). code_point d ∷ l) (points_snoc ds c)

snoc_same : (a b : List ℕ) (x y : ℕ) → a ++ (x ∷ []) ≡ b ++ (y ∷ []) → (a ≡ b) × (x ≡ y)
snoc_same [] [] x y e = (refl, (cc))
snoc_same [] (b ∷ bs) x y e = absurd (omega (arith, ap length e, length-append bs (y ∷ [])))
snoc_same (a ∷ as2) [] x y e = absurd (omega (arith, ap length e, length-append as2 (x ∷ [])))
snoc_same (a ∷ as2) (b ∷ bs) x y e =
    let f : a ≡ b = cc in
    let g : as2 ++ (x ∷ []) ≡ bs ++ (y ∷ []) = cc in
    let r = snoc_same as2 bs x y g in
    (rw (f, r.0) refl, r.1)

-- ---- a well-formed text's last byte is a character, or the end of one that is no ASCII

abbrev ByteEnds : List ℕ → ℕ → Type 0
ByteEnds a b =
    ((b < 128) × Formed a × (decode (a ++ (b ∷ [])) ≡ decode a ++ (b ∷ [])))
    ⊎ ((128 ≤ b) × (x : List ℕ) × (p : ℕ) × (128 ≤ p) × (decode (a ++ (b ∷ [])) ≡ x ++ (p ∷ [])))

some_byte : (c : Character) → 128 ≤ code_point c → 0 < length c
some_byte [] h = absurd (omega arith)
some_byte (b ∷ s) h = omega arith

byte_ends : (a : List ℕ) (b : ℕ) → Formed (a ++ (b ∷ [])) → ByteEnds a b
unfolding decode chars well_formed_len
byte_ends a b f = go (last (chars (a ++ (b ∷ []))) (chars_are 0 (a ++ (b ∷ []))))
  where
    cs : List Character
    cs = chars (a ++ (b ∷ []))

    row : joined cs ≡ a ++ (b ∷ [])
    row = chars_concat 0 (a ++ (b ∷ [])) (omega arith) f

    ends : (ds : List Character) (c : Character) → cs ≡ ds ++ (c ∷ []) → AllChars ds → CharIs c → ByteEnds a b
    ends ds c e h (inl x) =
        let r = snoc_same (joined ds) a (code_point c) b (ap (λ (l : List ℕ). joined ds ++ l) (sym x.0) ∙ sym (joined_snoc ds c) ∙ ap joined (sym e) ∙ row) in
        let y : chars a ≡ ds = ap chars (sym r.0) ∙ all_chars ds h in
        inl (omega arith, rw (← r.0) (all_formed ds h), ap (map code_point) e ∙ points_snoc ds c ∙ rw (r.1, y) refl)
    ends ds c e h (inr x) =
        let w : joined ds ++ c ≡ a ++ (b ∷ []) = sym (joined_snoc ds c) ∙ ap joined (sym e) ∙ row in
        let n : length (joined ds) + length c ≡ length a + 1 = sym (length-append (joined ds) c) ∙ ap length w ∙ length-append a (b ∷ []) in
        let m = some_byte c x.1 in
        let k : length (joined ds) + (length c - 1) ≡ length a = omega arith in
        let y : get_or c (length c - 1) 0 ≡ b =
        sym (get_or-append-add (joined ds) c (length c - 1) 0) ∙ ap (λ (i : ℕ). get_or (joined ds ++ c) i 0) k ∙ ap (λ (l : List ℕ). get_or l (length a) 0) w ∙ get_or-append_seam a b [] 0
        in
        inr (omega (arith, high_at c (length c - 1) x.0 (omega arith)), map code_point ds, code_point c, x.1, ap (map code_point) e ∙ points_snoc ds c)

    go : Last cs → ByteEnds a b
    go (inl e) = absurd (omega (arith, ap length (sym (ap joined e) ∙ row), length-append a (b ∷ [])))
    go (inr x) = ends x.0 x.1 x.2 x.3 (char_is x.1 x.4)

-- ---- without carriage returns

module _ (a : List ℕ) (b : ℕ) (f : Formed (a ++ (b ∷ []))) where
  ascii_ends : b < 128 → Formed a × (decode (a ++ (b ∷ [])) ≡ decode a ++ (b ∷ []))
  ascii_ends h = go (byte_ends a b f)
    where
      go : ByteEnds a b → Formed a × (decode (a ++ (b ∷ [])) ≡ decode a ++ (b ∷ []))
      go (inl x) = (x.1, x.2)
      go (inr x) = absurd (omega (arith, x.0))

  return_ends : b ≡ 13 → Formed a × (kept (a ++ (b ∷ [])) ≡ kept a)
  unfolding kept
  return_ends e =
      let x = ascii_ends (omega arith) in
      (x.0, ap (without 13) x.1 ∙ without_append 13 (decode a) (b ∷ []) ∙ rw e (append-nil (without 13 (decode a))))

  other_ends : b < 128 → (b ≡ 13 → ⊥) → Formed a × (kept (a ++ (b ∷ [])) ≡ kept a ++ (b ∷ []))
  unfolding kept
  other_ends h n =
      let x = ascii_ends h in
      (x.0, ap (without 13) x.1 ∙ without_append 13 (decode a) (b ∷ []) ∙ ap (λ (l : List ℕ). without 13 (decode a) ++ l) (rw (ne_eqb b 13 n, without)))

  -- a last byte that is no quote ends a character that is none
  no_quote_ends : (q : ℕ) → q < 128 → (b ≡ 13 → ⊥) → (b ≡ q → ⊥) → (x : List ℕ) × (p : ℕ) × (p ≡ q → ⊥) × (kept (a ++ (b ∷ [])) ≡ x ++ (p ∷ []))
  unfolding kept
  no_quote_ends q h n m = go (byte_ends a b f)
    where
      go : ByteEnds a b → (x : List ℕ) × (p : ℕ) × (p ≡ q → ⊥) × (kept (a ++ (b ∷ [])) ≡ x ++ (p ∷ []))
      go (inl x) = (kept a, b, m, (other_ends x.0 n).1)
      go (inr x) =
          (without 13 x.1, x.2, λ e. omega (arith, x.3), ap (without 13) x.4 ∙ without_append 13 x.1 (x.2 ∷ []) ∙ ap (λ (l : List ℕ). without 13 x.1 ++ l) (rw (ne_eqb x.2 13 (λ e. omega (arith, x.3)), without)))

-- ---- quotes at the end

module _ (q n : ℕ) where
  -- fewer quotes than asked for, behind another character or none
  other_before : (u x : List ℕ) (p j : ℕ) → j < n → (p ≡ q → ⊥) → u ≡ x ++ (p ∷ replicate j q) → ends_with (replicate n q) u ≡ false
  other_before u x p j h d e = go (ends_with (replicate n q) u) refl
    where
      size : length u ≡ length x + suc j
      size = ap length e ∙ length-append x (p ∷ replicate j q) ∙ rw (length-replicate j q)

      k : ℕ
      k = length u - length (replicate n q)

      go : (b : Bool) → ends_with (replicate n q) u ≡ b → ends_with (replicate n q) u ≡ false
      go false f = f
      go true f =
          let w : length u ≡ length x + suc j = size in
          let l : length (replicate n q) ≡ n = length-replicate n q in
          let tail : drop k u ≡ replicate n q = list_eq (drop k u) (replicate n q) (and_right (leb (length (replicate n q)) (length u)) (eq_list (drop k u) (replicate n q)) f) in
          let there : k + (length x - k) ≡ length x = omega arith in
          let here : p ≡ get_or u (length x) 0 = sym (ap (λ (l : List ℕ). get_or l (length x) 0) e ∙ get_or-append_seam x p (replicate j q) 0) in
          let same : get_or u (length x) 0 ≡ get_or (replicate n q) (length x - k) 0 = ap (λ (i : ℕ). get_or u i 0) (sym there) ∙ sym (get_or-drop k u (length x - k) 0) ∙ ap (λ (l : List ℕ). get_or l (length x - k) 0) tail in
          absurd (d (here ∙ same ∙ get_or-replicate n (length x - k) q 0 (omega arith)))

  none_before : (u : List ℕ) (j : ℕ) → j < n → u ≡ replicate j q → ends_with (replicate n q) u ≡ false
  none_before u j h e =
      let l : length (replicate n q) ≡ n = length-replicate n q in
      let size : length u ≡ j = ap length e ∙ length-replicate j q in
      rw (lt-leb (length (replicate n q)) (length u) (omega arith))

  module _ (u v : List ℕ) (e : u ≡ v ++ replicate n q) where
    size_all : length u ≡ length v + n
    size_all = ap length e ∙ length-append v (replicate n q) ∙ rw (length-replicate n q)

    pub all_behind : ends_with (replicate n q) u ≡ true
    all_behind =
        let l : length (replicate n q) ≡ n = length-replicate n q in
        let s : length u ≡ length v + n = size_all in
        let k : length v ≡ length u - length (replicate n q) = omega arith in
        let r : drop (length u - length (replicate n q)) u ≡ replicate n q = ap (drop (length u - length (replicate n q))) e ∙ drop_at v (replicate n q) (length u - length (replicate n q)) k in
        rw (le-leb (length (replicate n q)) (length u) (omega arith), r) (list_same (replicate n q))

    pub all_before : take (length u - n) u ≡ v
    all_before =
        let s : length u ≡ length v + n = size_all in
        ap (take (length u - n)) e ∙ take_at v (replicate n q) (length u - n) (omega arith)

-- ---- fronts

-- a front of a front
pub front_of_front : (s t u : List ℕ) → FrontOf s t → FrontOf t u → length u ≤ length t → FrontOf s u
front_of_front s t u e h l = h ∙ ap (take (length u)) e ∙ take-take (length u) (length t) s l

-- ---- the last byte of a text

module _ (s : List ℕ) (h : 1 ≤ length s) where
  cut_last : s ≡ take (length s - 1) s ++ (get_or s (length s - 1) 0 ∷ [])
  cut_last =
      let z : suc (length s - 1) ≡ length s = omega arith in
      sym (take-length s) ∙ ap (λ (n : ℕ). take n s) (sym z) ∙ take-suc s (length s - 1) 0 (omega arith)

  module _ (f : Formed s) where
    cut_formed : Formed (take (length s - 1) s ++ (get_or s (length s - 1) 0 ∷ []))
    cut_formed = rw (← cut_last) f

    pub last_return : get_or s (length s - 1) 0 ≡ 13 → Formed (take (length s - 1) s) × (kept s ≡ kept (take (length s - 1) s))
    last_return e = let r = return_ends (take (length s - 1) s) (get_or s (length s - 1) 0) cut_formed e in (r.0, ap kept cut_last ∙ r.1)

    pub last_quote : (q : ℕ) → q < 128 → 13 < q → get_or s (length s - 1) 0 ≡ q → Formed (take (length s - 1) s) × (kept s ≡ kept (take (length s - 1) s) ++ (q ∷ []))
    last_quote q k l e =
        let r = other_ends (take (length s - 1) s) (get_or s (length s - 1) 0) cut_formed (omega arith) (λ w. omega arith) in
        (r.0, ap kept cut_last ∙ r.1 ∙ ap (λ (b : ℕ). kept (take (length s - 1) s) ++ (b ∷ [])) e)

    pub last_other : (q : ℕ) → q < 128 → (get_or s (length s - 1) 0 ≡ 13 → ⊥) → (get_or s (length s - 1) 0 ≡ q → ⊥) → EndsOtherwise q (kept s)
    last_other q k n m =
        let r = no_quote_ends (take (length s - 1) s) (get_or s (length s - 1) 0) cut_formed q k n m in
        inr (r.0, r.1, r.2, ap kept cut_last ∙ r.3)

  pub cut_front : (u : List ℕ) → FrontOf u s → FrontOf u (take (length s - 1) s)
  cut_front u e =
      let n : length (take (length s - 1) s) ≡ length s - 1 = length-take-le (length s - 1) s (omega arith) in
      front_of_front u s (take (length s - 1) s) e (ap (λ (k : ℕ). take k s) (sym n)) (omega arith)

  pub front_bytes : BytesOf s (take (length s - 1) s)
  front_bytes x e = nor_left (elem x (take (length s - 1) s)) (elem x (get_or s (length s - 1) 0 ∷ [])) (sym (elem_append x (take (length s - 1) s) (get_or s (length s - 1) 0 ∷ [])) ∙ ap (elem x) (sym cut_last) ∙ e)

pub none_kept : (s : List ℕ) → length s < 1 → kept s ≡ []
unfolding kept decode chars chars_from
none_kept [] h = refl
none_kept (b ∷ s) h = absurd (omega arith)

-- a quote more, or an end that is none
module _ (s : List ℕ) (q i n : ℕ) (t : List ℕ) (x : Before s q i t) where
  pub before_more : (r : List ℕ) → Before t q 1 r → Before s q (i + 1) r
  before_more r y = record {
    is = x.is ∙ ap (λ (l : List ℕ). l ++ replicate i q) y.is ∙ append_assoc (kept r) (q ∷ []) (replicate i q) ∙ rw (add-one i);
    before = front_of_front s t r x.before y.before y.shorter;
    formed = y.formed;
    shorter = omega (arith, x.shorter, y.shorter);
    bytes = λ b e. y.bytes b (x.bytes b e);
  }

  pub before_none : i < n → EndsOtherwise q (kept t) → ends_with (replicate n q) (kept s) ≡ false
  before_none h (inl e) = none_before q n (kept s) i h (x.is ∙ rw e)
  before_none h (inr (u, p, d, e)) = other_before q n (kept s) u p i h d (x.is ∙ rw e (append_assoc u (p ∷ []) (replicate i q)))
