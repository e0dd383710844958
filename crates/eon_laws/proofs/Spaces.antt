-- White space is one byte: the code point of a character of more bytes is 128 or more.
use Rattle.std.proofs.Common.{◌≡◌, ℕ, suc, ◌<◌, ◌≤◌, Bool, true, false, eqb, ◌⊎◌, List, [], ◌∷◌, length, Some, None, Option, refl, ap, ◌∙◌, inl, inr, arith}
use Rattle.eon_laws.proofs.Facts.{within_bounds, clash, and_left, eq_of}
use Rattle.eon_spec.specs.Base.{elem}
use Rattle.eon_spec.specs.Utf8.{Range, ◌to◌, Row, ◌then◌, in_range, trailing, row_of, table37, fits, len_if, char_len, Character, code_point}
use Rattle.eon_spec.specs.Token.{is_space}
use Rattle.eon_laws.proofs.Chars.{IsChar}

-- the row that is found
abbrev pub InRows : List Row → ℕ → List Range → Type 0
InRows [] b m = ⊥
InRows ((f then g) ∷ rows) b m = ((in_range f b ≡ true) × (length g ≡ length m) × ((s : List ℕ) → fits m s ≡ true → fits g s ≡ true)) ⊎ InRows rows b m

pub row_in : (rows : List Row) (b : ℕ) (m : List Range) → row_of rows b ≡ Some m → InRows rows b m
row_in [] b m e = cc
row_in ((f then g) ∷ rows) b m e = go (in_range f b) refl e (row_in rows b m)
  where
    go : (x : Bool) → in_range f b ≡ x → row_of ((f then g) ∷ rows) b ≡ Some m → (row_of rows b ≡ Some m → InRows rows b m) → InRows ((f then g) ∷ rows) b m
    go true p e h =
        let z : Some g ≡ Some m = rw (p, row_of) at e in
        let y : g ≡ m = cc in
        inl (p, ap length y, λ s q. rw y q)
    go false p e h = inr (h (rw (p, row_of) at e))

abbrev first : List ℕ → ℕ
first [] = 0
first (x ∷ s) = x

first_low : (lo hi : ℕ) (rs : List Range) (s : List ℕ) → fits (lo to hi ∷ rs) s ≡ true → lo ≤ first s
first_low lo hi rs [] e = cc
first_low lo hi rs (x ∷ s) e = (within_bounds lo hi x (and_left (in_range (lo to hi) x) (fits rs s) e)).0

two : (b : ℕ) (s : List ℕ) → 1 ≡ length s → 194 ≤ b → 128 ≤ code_point (b ∷ s)
two b [] l h = absurd (omega arith)
two b (x ∷ []) l h = omega arith
two b (x ∷ y ∷ s) l h = absurd (omega arith)

three : (b : ℕ) (s : List ℕ) → 2 ≡ length s → (225 ≤ b) ⊎ (160 ≤ first s) → 128 ≤ code_point (b ∷ s)
three b [] l h = absurd (omega arith)
three b (x ∷ []) l h = absurd (omega arith)
three b (x ∷ y ∷ []) l (inl h) = omega arith
three b (x ∷ y ∷ []) l (inr h) = omega arith
three b (x ∷ y ∷ z ∷ s) l h = absurd (omega arith)

four : (b : ℕ) (s : List ℕ) → 3 ≡ length s → (241 ≤ b) ⊎ (144 ≤ first s) → 128 ≤ code_point (b ∷ s)
four b [] l h = absurd (omega arith)
four b (x ∷ []) l h = absurd (omega arith)
four b (x ∷ y ∷ []) l h = absurd (omega arith)
four b (x ∷ y ∷ z ∷ s) l (inl h) = omega arith
four b (x ∷ y ∷ z ∷ s) l (inr h) = omega arith

wide : (b : ℕ) (s : List ℕ) (m : List Range) → InRows table37 b m → fits m s ≡ true → length m ≡ length s → 0 < length s → 128 ≤ code_point (b ∷ s)
wide b s m (inl p) f l z = absurd (omega (arith, p.1))
wide b s m (inr (inl p)) f l z = two b s (p.1 ∙ l) (within_bounds 0xC2 0xDF b p.0).0
wide b s m (inr (inr (inl p))) f l z = three b s (p.1 ∙ l) (inr (first_low 0xA0 0xBF (trailing ∷ []) s (p.2 s f)))
wide b s m (inr (inr (inr (inl p)))) f l z = three b s (p.1 ∙ l) (inl (within_bounds 0xE1 0xEC b p.0).0)
wide b s m (inr (inr (inr (inr (inl p))))) f l z = three b s (p.1 ∙ l) (inl (omega (arith, (within_bounds 0xED 0xED b p.0).0)))
wide b s m (inr (inr (inr (inr (inr (inl p)))))) f l z = three b s (p.1 ∙ l) (inl (omega (arith, (within_bounds 0xEE 0xEF b p.0).0)))
wide b s m (inr (inr (inr (inr (inr (inr (inl p))))))) f l z = four b s (p.1 ∙ l) (inr (first_low 0x90 0xBF (trailing ∷ trailing ∷ []) s (p.2 s f)))
wide b s m (inr (inr (inr (inr (inr (inr (inr (inl p)))))))) f l z = four b s (p.1 ∙ l) (inl (within_bounds 0xF1 0xF3 b p.0).0)
wide b s m (inr (inr (inr (inr (inr (inr (inr (inr (inl p))))))))) f l z = four b s (p.1 ∙ l) (inl (omega (arith, (within_bounds 0xF4 0xF4 b p.0).0)))
wide b s m (inr (inr (inr (inr (inr (inr (inr (inr (inr p))))))))) f l z = absurd p

pub char_wide : (b : ℕ) (s : List ℕ) → char_len (b ∷ s) ≡ suc (length s) → 0 < length s → 128 ≤ code_point (b ∷ s)
unfolding char_len
char_wide b s e z = go (row_of table37 b) refl e
  where
    go2 : (m : List Range) (x : Bool) → row_of table37 b ≡ Some m → fits m s ≡ x → len_if (Some m) s ≡ suc (length s) → 128 ≤ code_point (b ∷ s)
    go2 m true p q e = let y : suc (length m) ≡ suc (length s) = rw (q, len_if) at e in wide b s m (row_in table37 b m p) q (omega arith) z
    go2 m false p q e = absurd (let y : 0 ≡ suc (length s) = rw (q, len_if) at e in omega arith)

    go : (o : Option (List Range)) → row_of table37 b ≡ o → len_if o s ≡ suc (length s) → 128 ≤ code_point (b ∷ s)
    go None p e = absurd (omega arith)
    go (Some m) p e = go2 m (fits m s) p refl e

space_low : (x : ℕ) → elem x (32 ∷ 9 ∷ 10 ∷ 12 ∷ 13 ∷ []) ≡ true → x ≤ 32
space_low x e = go (eqb x 32) (eqb x 9) (eqb x 10) (eqb x 12) (eqb x 13) refl refl refl refl refl
  where
    go : (p q r s t : Bool) → eqb x 32 ≡ p → eqb x 9 ≡ q → eqb x 10 ≡ r → eqb x 12 ≡ s → eqb x 13 ≡ t → x ≤ 32
    go true q r s t f g h i j = omega (arith, eq_of x 32 f)
    go false true r s t f g h i j = omega (arith, eq_of x 9 g)
    go false false true s t f g h i j = omega (arith, eq_of x 10 h)
    go false false false true t f g h i j = omega (arith, eq_of x 12 i)
    go false false false false true f g h i j = omega (arith, eq_of x 13 j)
    go false false false false false f g h i j = clash (rw (f, g, h, i, j) at e) refl

pub space_length : (c : Character) → IsChar c → is_space c ≡ true → length c ≡ 1
space_length [] h e = absurd h
space_length (b ∷ []) h e = refl
space_length (b ∷ x ∷ s) h e = absurd (omega (arith, char_wide b (x ∷ s) h (omega arith), space_low (code_point (b ∷ x ∷ s)) e))
