-- Marks, and what stands between them.
use Rattle.std.proofs.Common.{◌≡◌, ℕ, zero, suc, ◌-◌, ◌<◌, Bool, true, false, cond, ◌&&◌, eqb, List, [], ◌∷◌, ◌++◌, length, take, drop, replicate, IsErrAnd, Ok, Err, Result, sym, refl, ap, ◌∙◌, arith, eq-eqb, ne_eqb, eqb-true}
use Rattle.eon_spec.specs.Base.{codes}
use Rattle.eon_spec.specs.Unquote.{value, fault, unescape, plain, starts_with, ends_with, one_line_only, drop_line_feed, unquote_chars}
use Rattle.eon_spec.specs.Unquote as unquoting
use Rattle.eon_laws.proofs.Facts.{clash}
use Rattle.eon_unescape.specs.Views.{kept}
use Rattle.eon_spec.specs.Refused.{number_of}
use Rattle.eon_spec.specs.declared.refusal.Reason.{Reason}
use Rattle.eon_strings.specs.declared.marks.Contents.{Contents}
use Rattle.eon_utf8.specs.Post.{StartsWith}
use Rattle.eon_laws.proofs.Utf8.{ascii_char}
use Rattle.eon_unescape.proofs.Kept.{kept_more}
use Rattle.eon_unescape.specs.declared.mode.Mode.{Mode}
use Rattle.eon_unescape.specs.declared.mode.Mode.TheVariants.{Plain}
use Rattle.eon_strings.specs.Views.{quotes, given, ModeIs}
use Rattle.eon_strings.proofs.Ends.{all_behind, all_before}

and_false : (x : Bool) → x && false ≡ false
and_false true = refl
and_false false = refl

-- fewer quotes than asked for, before another character or none
behind_end : (q i n : ℕ) → i < n → quotes q n (replicate i q ++ []) ≡ false
behind_end q i zero h = absurd (omega arith)
behind_end q zero (suc n) h = refl
behind_end q (suc i) (suc n) h = rw (behind_end q i n (omega arith)) (and_false (eqb q q))

behind_more : (q i n c : ℕ) (w : List ℕ) → i < n → (c ≡ q → ⊥) → quotes q n (replicate i q ++ (c ∷ w)) ≡ false
behind_more q i zero c w h d = absurd (omega arith)
behind_more q zero (suc n) c w h d = rw (ne_eqb c q d)
behind_more q (suc i) (suc n) c w h d = rw (behind_more q i n c w (omega arith) d) (and_false (eqb q q))

pub behind_none : (q i n : ℕ) (u v : List ℕ) → u ≡ replicate i q ++ v → i < n → v ≡ [] → quotes q n u ≡ false
behind_none q i n u v e h f = rw (e, f) (behind_end q i n h)

pub behind_other : (q i n : ℕ) (u v : List ℕ) (c : ℕ) (w : List ℕ) → u ≡ replicate i q ++ v → i < n → v ≡ c ∷ w → (c ≡ q → ⊥) → quotes q n u ≡ false
behind_other q i n u v c w e h f d = rw (e, f) (behind_more q i n c w h d)

quotes_all : (q n : ℕ) (v : List ℕ) → quotes q n (replicate n q ++ v) ≡ true
quotes_all q zero v = refl
quotes_all q (suc n) v = rw (eq-eqb q q refl) (quotes_all q n v)

drop_all : (q n : ℕ) (v : List ℕ) → drop n (replicate n q ++ v) ≡ v
drop_all q zero v = refl
drop_all q (suc n) v = drop_all q n v

-- what stands between two marks of n quotes, handed to f
abbrev pub marked : ℕ → ℕ → (List ℕ → unquoting.Unescaped) → List ℕ → unquoting.Unescaped
marked q n f v = elim (ends_with (replicate n q) v) [ true ↦ f (take (length v - n) v) | false ↦ fault 18 ]

pub unclosed : (q n : ℕ) (f : List ℕ → unquoting.Unescaped) (v : List ℕ) (x : ℕ) → (ends_with (replicate n q) v ≡ false) × (x ≡ 18) → marked q n f v ≡ fault x
unclosed q n f v x e = rw (e.0, e.1, marked)

pub closed : (q n : ℕ) (f : List ℕ → unquoting.Unescaped) (v t : List ℕ) → v ≡ t ++ replicate n q → marked q n f v ≡ f t
closed q n f v t e = rw (all_behind q n v t e, marked) (ap f (all_before q n v t e))

-- the openings, in their order
module _ (u : List ℕ) where
  tried : unquote_chars u ≡ cond (quotes 39 3 u) (marked 39 3 (λ t. value (drop_line_feed t)) (drop 3 u))
      (cond (quotes 39 1 u) (marked 39 1 (one_line_only value) (drop 1 u))
      (cond (quotes 34 3 u) (marked 34 3 (unescape plain) (drop 3 u))
      (cond (quotes 34 1 u) (marked 34 1 (one_line_only (unescape plain)) (drop 1 u))
      (fault 17))))
  unfolding unquote_chars
  tried = refl

  pub no_mark : quotes 39 3 u ≡ false → quotes 39 1 u ≡ false → quotes 34 3 u ≡ false → quotes 34 1 u ≡ false → unquote_chars u ≡ fault 17
  no_mark a b d e = tried ∙ rw a (rw b (rw d (rw e)))

  module _ (v : List ℕ) where
    opened : (q n : ℕ) → u ≡ replicate n q ++ v → (quotes q n u ≡ true) × (drop n u ≡ v)
    opened q n e = (rw e (quotes_all q n v), rw e (drop_all q n v))

    pub first_mark : u ≡ replicate 3 39 ++ v → unquote_chars u ≡ marked 39 3 (λ t. value (drop_line_feed t)) v
    first_mark e = let o = opened 39 3 e in tried ∙ rw o.0 (rw o.1)

    pub second_mark : quotes 39 3 u ≡ false → u ≡ replicate 1 39 ++ v → unquote_chars u ≡ marked 39 1 (one_line_only value) v
    second_mark a e = let o = opened 39 1 e in tried ∙ rw a (rw o.0 (rw o.1))

    pub third_mark : quotes 39 3 u ≡ false → quotes 39 1 u ≡ false → u ≡ replicate 3 34 ++ v → unquote_chars u ≡ marked 34 3 (unescape plain) v
    third_mark a b e = let o = opened 34 3 e in tried ∙ rw a (rw b (rw o.0 (rw o.1)))

    pub fourth_mark : quotes 39 3 u ≡ false → quotes 39 1 u ≡ false → quotes 34 3 u ≡ false → u ≡ replicate 1 34 ++ v → unquote_chars u ≡ marked 34 1 (one_line_only (unescape plain)) v
    fourth_mark a b d e = let o = opened 34 1 e in tried ∙ rw a (rw b (rw d (rw o.0 (rw o.1))))

-- a refusal handed on
pub given_err : (r : Result Contents Reason) (x : Reason) → IsErrAnd r (λ y. y ≡ x) → fault (number_of x) ≡ given r
given_err (Ok c) x h = absurd h
given_err (Err y) x h = ap (λ (z : Reason). fault (number_of z)) (sym h)

-- no single quote is read first, so none stands first
pub no_single : (s : List ℕ) → quotes 39 1 (kept s) ≡ false → starts_with (codes "'") s ≡ false
no_single [] e = refl
no_single (b ∷ t) e = go (eqb b 39) refl
  where
    first : b ≡ 39 → quotes 39 1 (kept (b ∷ t)) ≡ true
    first g =
        let h : StartsWith (b ∷ t) (record { code = b; len = 1 }) = record { is = ascii_char b t (rw g); some = omega arith; inside = omega arith; point = refl } in
        rw (kept_more (b ∷ t) (record { code = b; len = 1 }) h (λ z. omega arith), g)

    go : (p : Bool) → eqb b 39 ≡ p → starts_with (codes "'") (b ∷ t) ≡ false
    go true f = clash (first (eqb-true b 39 f)) e
    go false f = rw f

pub plain_mode : (s : List ℕ) (m : Mode) → starts_with (codes "'") s ≡ false → m ≡ Plain → ModeIs s m
plain_mode s m h e = rw e h
