-- The walk of a whole tree.
use Rattle.std.proofs.Common.{Option, None, ◌≡◌, refl, sym, ap, ◌∙◌, Bool, true, false, cond, List, [], ℕ, suc, ◌+◌, ◌<◌, arith, length}
use Rattle.eon_spec.specs.Base.{elem}
use Rattle.eon_spec.specs.Tree.{Slice, TokenTree, TokenValue, KeyValues, map_of}
use Rattle.eon_spec.specs.Layout.{prefix_of}
use Rattle.eon_spec.specs.Lookup.{Path, reached, reached_at, some_left, steps, steps_at, steps_in}
use Rattle.eon_table.specs.TreeAt.{kind_of, value_of}
use Rattle.eon_lookup.specs.declared.paths.Keys.{Keys}
use Rattle.eon_lookup.specs.Keys.{key_at, rest_at, rests, Going}
use Rattle.eon_lookup.specs.Live.{first_some, among, first_in, Walked, Looks}
use Rattle.eon_lookup.proofs.Lists.{neither, gains_nothing, gains_as}
use Rattle.eon_lookup.proofs.Pairs.{steps_tree, steps_dead, steps_other, steps_map, inside_first, first_on, first_other, reached_tree, rest_step, some_rests}

among_same : (live : List ℕ) (f g : ℕ → Option ℕ) → ((p : ℕ) → elem p live ≡ true → f p ≡ g p) → (p : ℕ) → among live f p ≡ among live g p
among_same live f g h p = go (elem p live) refl
  where
    go : (b : Bool) → elem p live ≡ b → cond b (f p) None ≡ cond b (g p) None
    go true e = h p e
    go false e = refl

module _ (q : List ℕ) (paths : List Keys) (d : ℕ) (live : List ℕ) (g : Going paths d live) (t : TokenTree) where
  abbrev rest : ℕ → Path
  rest = rest_at q paths d

  abbrev ps : List Path
  ps = rests q paths d live

  root_first : (w : ℕ) → w ≡ 0 + length (prefix_of t) → (p : ℕ) → elem p live ≡ true → inside_first w (value_of t) (rest p) ≡ first_some (reached 0 t (rest p))
  root_first w e p h =
      let s = rest_step q paths d p (g p h).more in
      ap (inside_first w (value_of t)) s
      ∙ sym (first_on w (value_of t) (key_at q paths p d) (rest_at q paths (d + 1) p))
      ∙ ap (λ (r : Path). first_some (reached_at w (value_of t) r)) (sym s)
      ∙ ap first_some (ap (λ (n : ℕ). reached_at n (value_of t) (rest p)) e ∙ sym (reached_tree 0 t (rest p)))

  -- no path
  pub root_none : (old : List ℕ) → length old ≡ 128 → live ≡ [] → Looks q paths d live t old old 1
  root_none old z e =
      record {
        steps = sym (steps_tree ps t ∙ ap suc (steps_dead ps (value_of t) (ap (λ (l : List ℕ). some_left (rests q paths d l)) e)));
        size = z;
        gains = gains_nothing (λ p. ap (λ (l : List ℕ). among l (λ p. first_some (reached 0 t (rest p))) p) e);
      }

  -- no map
  pub root_other : (old : List ℕ) → length old ≡ 128 → (kind_of (value_of t) ≡ 5 → ⊥) → Looks q paths d live t old old 1
  root_other old z e =
      record {
        steps = sym (steps_tree ps t ∙ ap suc (steps_other ps (value_of t) e));
        size = z;
        gains = gains_nothing (λ p. among_same live (λ p. first_some (reached 0 t (rest p))) (λ p. None) (λ p h. sym (root_first (0 + length (prefix_of t)) refl p h) ∙ first_other (0 + length (prefix_of t)) (value_of t) (rest p) e) p ∙ neither (elem p live));
      }

  pub root_map : (w : ℕ) (kvs : KeyValues) (cl : List Slice) (old answers : List ℕ) (r : ℕ) → value_of t ≡ map_of kvs cl → w ≡ 0 + length (prefix_of t) → 0 < length live
      → Walked q paths d live (suc w) kvs old answers r → Looks q paths d live t old answers (1 + r)
  root_map w kvs cl old answers r e f h a =
      let x : r ≡ steps_in ps kvs = a.steps in
      let y : steps_at ps (value_of t) ≡ steps_in ps kvs = ap (steps_at ps) e ∙ steps_map ps kvs cl (some_rests q paths d live g h) in
      let z : steps ps t ≡ suc (steps_at ps (value_of t)) = steps_tree ps t in
      record {
        steps = omega arith;
        size = a.size;
        gains = gains_as a.gains (among_same live (λ p. first_in (suc w) kvs (rest p)) (λ p. first_some (reached 0 t (rest p))) (λ p i. ap (λ (v : TokenValue). inside_first w v (rest p)) (sym e) ∙ root_first w f p i));
      }
