-- The walk through a map's pairs: what each pair gives the paths, and the steps it takes.
use Rattle.std.proofs.Common.{Option, None, Some, ◌≡◌, refl, sym, ap, ap₂, ◌∙◌, Bool, true, false, ◌&&◌, not, cond, List, [], ◌∷◌, ◌++◌, ℕ, suc, ◌+◌, ◌-◌, ◌≤◌, ◌<◌, arith, length, get_or, ltb, eqb, filter}
use Rattle.eon_spec.specs.Base.{elem}
use Rattle.eon_spec.specs.Tree.{Slice, TokenTree, TokenValue, KeyValues, tree, identifier, number, quoted_string, list_of, map_of, variant_of, no_pairs, pair}
use Rattle.eon_spec.specs.Layout.{prefix_of}
use Rattle.eon_spec.specs.Calls.{record_text}
use Rattle.eon_spec.specs.Lookup.{Key, Path, key_in, key_of, is_key, count, reached, reached_at, reached_in, onward, some_left, steps, steps_at, steps_in}
use Rattle.eon_laws.proofs.Facts.{and_left, and_right, or_left, or_right, eqb_same, lt_of, le_of_not}
use Rattle.eon_table.specs.Words.{record_of, AfterPrefix}
use Rattle.eon_table.specs.TreeAt.{kind_of, value_of, TreeAt, ValueAt}
use Rattle.eon_table.proofs.Walk.{value_kind, tree_value}
use Rattle.eon_table.proofs.Here.{leaf_text}
use Rattle.eon_lookup.specs.declared.paths.Keys.{Keys}
use Rattle.eon_lookup.specs.Keys.{no_keys, many, key_kind, key_here, key_at, keys_from, rest_at, rests, GoesOn, Going}
use Rattle.std.specs.Option.{option_or}
use Rattle.eon_lookup.specs.Live.{first_some, Gains, among, first_in, matches, ends_at, goes_on, Walked}
use Rattle.eon_lookup.proofs.Lists.{neither, elem_keep, gains_nothing}

-- ---- the key of a tree, by its record

module _ (s tb : List ℕ) where
  abbrev here_as : ℕ → ℕ → Option Key
  here_as i n = cond (key_kind n) (Some (record_text s (record_of tb i))) None

  value_key : (i : ℕ) (v : TokenValue) → ValueAt s tb i v → key_in v ≡ key_here s tb i
  value_key i (identifier b) h = sym (ap (here_as i) (value_kind s tb i (identifier b) h) ∙ ap Some (leaf_text s tb i 1 b (unfold ValueAt in h) (λ z. omega arith) (λ z. omega arith)))
  value_key i (number b) h = sym (ap (here_as i) (value_kind s tb i (number b) h))
  value_key i (quoted_string b) h = sym (ap (here_as i) (value_kind s tb i (quoted_string b) h) ∙ ap Some (leaf_text s tb i 3 b (unfold ValueAt in h) (λ z. omega arith) (λ z. omega arith)))
  value_key i (list_of vs cl) h = sym (ap (here_as i) (value_kind s tb i (list_of vs cl) h))
  value_key i (map_of kvs cl) h = sym (ap (here_as i) (value_kind s tb i (map_of kvs cl) h))
  value_key i (variant_of n vs cl) h = sym (ap (here_as i) (value_kind s tb i (variant_of n vs cl) h))

  key_of_lem : (t : TokenTree) → key_of t ≡ key_in (value_of t)
  key_of_lem (tree sp p v x) = refl

  pub key_here_lem : (end i k : ℕ) (t : TokenTree) → TreeAt s tb end i t → AfterPrefix tb i k → key_of t ≡ key_here s tb k
  key_here_lem end i k t h a = key_of_lem t ∙ value_key k (value_of t) (tree_value s tb end i k t h a)

-- ---- the steps of paths that go on

-- the paths that have a key left
abbrev alive : List Path → List Path
alive [] = []
alive ([] ∷ ps) = alive ps
alive ((k ∷ ks) ∷ ps) = (k ∷ ks) ∷ alive ps

onward_alive : (key : Option Key) (ps : List Path) → onward key (alive ps) ≡ onward key ps
onward_alive key [] = refl
onward_alive key ([] ∷ ps) = onward_alive key ps
onward_alive key ((k ∷ ks) ∷ ps) = ap (λ (r : List Path). cond (is_key k key) (ks ∷ r) r) (onward_alive key ps)

some_alive : (ps : List Path) → some_left (alive ps) ≡ some_left ps
some_alive [] = refl
some_alive ([] ∷ ps) = some_alive ps
some_alive ((k ∷ ks) ∷ ps) = refl

steps_alive : (kvs : KeyValues) (ps : List Path) → steps_in (alive ps) kvs ≡ steps_in ps kvs
unfolding steps
steps_alive no_pairs ps = refl
steps_alive (pair k v kvs) ps = ap₂ (λ (a : List Path) (b : ℕ). suc (steps a v + b)) (onward_alive (key_of k) ps) (steps_alive kvs ps)

pub steps_tree : (ps : List Path) (t : TokenTree) → steps ps t ≡ suc (steps_at ps (value_of t))
unfolding steps
steps_tree ps (tree sp p v x) = refl

pub steps_other : (ps : List Path) (v : TokenValue) → (kind_of v ≡ 5 → ⊥) → steps_at ps v ≡ 0
unfolding steps
steps_other ps (identifier b) h = refl
steps_other ps (number b) h = refl
steps_other ps (quoted_string b) h = refl
steps_other ps (list_of vs cl) h = refl
steps_other ps (map_of kvs cl) h = absurd (h refl)
steps_other ps (variant_of n vs cl) h = refl

pub steps_dead : (ps : List Path) (v : TokenValue) → some_left ps ≡ false → steps_at ps v ≡ 0
unfolding steps
steps_dead ps (identifier b) e = refl
steps_dead ps (number b) e = refl
steps_dead ps (quoted_string b) e = refl
steps_dead ps (list_of vs cl) e = refl
steps_dead ps (map_of kvs cl) e = ap (λ (b : Bool). elim b [ true ↦ steps_in ps kvs | false ↦ 0 ]) e
steps_dead ps (variant_of n vs cl) e = refl

pub steps_map : (ps : List Path) (kvs : KeyValues) (cl : List Slice) → some_left ps ≡ true → steps_at ps (map_of kvs cl) ≡ steps_in ps kvs
unfolding steps
steps_map ps kvs cl e = ap (λ (b : Bool). elim b [ true ↦ steps_in ps kvs | false ↦ 0 ]) e

-- ---- the first value, from a value's record on

-- behind a value that is a map
abbrev pub inside_first : ℕ → TokenValue → Path → Option ℕ
inside_first w (identifier b) ks = None
inside_first w (number b) ks = None
inside_first w (quoted_string b) ks = None
inside_first w (list_of vs cl) ks = None
inside_first w (map_of kvs cl) ks = first_in (suc w) kvs ks
inside_first w (variant_of n vs cl) ks = None

first_end : (w : ℕ) (v : TokenValue) → first_some (reached_at w v []) ≡ Some w
unfolding reached
first_end w (identifier b) = refl
first_end w (number b) = refl
first_end w (quoted_string b) = refl
first_end w (list_of vs cl) = refl
first_end w (map_of kvs cl) = refl
first_end w (variant_of n vs cl) = refl

pub first_on : (w : ℕ) (v : TokenValue) (k : Key) (ks : Path) → first_some (reached_at w v (k ∷ ks)) ≡ inside_first w v (k ∷ ks)
unfolding reached
first_on w (identifier b) k ks = refl
first_on w (number b) k ks = refl
first_on w (quoted_string b) k ks = refl
first_on w (list_of vs cl) k ks = refl
first_on w (map_of kvs cl) k ks = refl
first_on w (variant_of n vs cl) k ks = refl

pub first_other : (w : ℕ) (v : TokenValue) (ks : Path) → (kind_of v ≡ 5 → ⊥) → inside_first w v ks ≡ None
first_other w (identifier b) ks h = refl
first_other w (number b) ks h = refl
first_other w (quoted_string b) ks h = refl
first_other w (list_of vs cl) ks h = refl
first_other w (map_of kvs cl) ks h = absurd (h refl)
first_other w (variant_of n vs cl) ks h = refl

pub reached_tree : (n : ℕ) (t : TokenTree) (ks : Path) → reached n t ks ≡ reached_at (n + length (prefix_of t)) (value_of t) ks
unfolding reached
reached_tree n (tree sp p v x) ks = refl

first_append : (a b : List ℕ) → first_some (a ++ b) ≡ option_or (first_some a) (first_some b)
first_append [] b = refl
first_append (x ∷ a) b = refl

pub no_first : (n : ℕ) (ks : Path) → first_in n no_pairs ks ≡ None
unfolding reached
no_first n [] = refl
no_first n (k ∷ ks) = refl

-- a pair that a path's first key names, or not, and those behind it
first_pair : (n w : ℕ) (key val : TokenTree) (kvs : KeyValues) (k : Key) (ks : Path) → w ≡ n + count key + length (prefix_of val)
    → first_in n (pair key val kvs) (k ∷ ks) ≡ option_or (cond (is_key k (key_of key)) (first_some (reached_at w (value_of val) ks)) None) (first_in (n + count key + count val) kvs (k ∷ ks))
unfolding reached
first_pair n w key val kvs k ks e = go (is_key k (key_of key))
  where
    rest : List ℕ
    rest = reached_in (n + count key + count val) kvs k ks

    go : (b : Bool) → first_some (elim b [ true ↦ reached (n + count key) val ks | false ↦ [] ] ++ rest) ≡ option_or (cond b (first_some (reached_at w (value_of val) ks)) None) (first_some rest)
    go true =
        first_append (reached (n + count key) val ks) rest
        ∙ ap (λ (l : List ℕ). option_or (first_some l) (first_some rest)) (reached_tree (n + count key) val ks ∙ ap (λ (m : ℕ). reached_at m (value_of val) ks) (sym e))
    go false = refl

-- ---- the paths behind d keys

module _ (q : List ℕ) (paths : List Keys) where
  abbrev rest : ℕ → ℕ → Path
  rest = rest_at q paths

  abbrev all : ℕ → List ℕ → List Path
  all = rests q paths

  pub rest_step : (d p : ℕ) → d < many paths p → rest d p ≡ key_at q paths p d ∷ rest (d + 1) p
  unfolding keys_from
  rest_step d p h =
      let e : many paths p - d ≡ suc (many paths p - (d + 1)) = omega arith in
      ap (keys_from q (get_or paths p no_keys).places d) e

  rest_end : (d p : ℕ) → many paths p ≤ d → rest d p ≡ []
  unfolding keys_from
  rest_end d p h =
      let e : many paths p - d ≡ 0 = omega arith in
      ap (keys_from q (get_or paths p no_keys).places d) e

  going_tail : (d p : ℕ) (live : List ℕ) → Going paths d (p ∷ live) → Going paths d live
  going_tail d p live g x e = g x (or_right (eqb x p) (elem x live) e)

  going_head : (d p : ℕ) (live : List ℕ) → Going paths d (p ∷ live) → GoesOn paths d p
  going_head d p live g = g p (or_left (eqb p p) (elem p live) (eqb_same p))

  pub some_rests : (d : ℕ) (live : List ℕ) → Going paths d live → 0 < length live → some_left (all d live) ≡ true
  some_rests d [] g h = absurd (omega arith)
  some_rests d (p ∷ live) g h = ap (λ (r : Path). some_left (r ∷ all d live)) (rest_step d p (going_head d p live g).more)

  module _ (d : ℕ) (key : Option Key) where
    abbrev on : ℕ → Bool
    on = goes_on q paths d key

    going_keep : (live : List ℕ) → Going paths d live → Going paths (d + 1) (filter on live)
    going_keep live g p e =
        let a : elem p live && on p ≡ true = sym (elem_keep on live p) ∙ e in
        let h : GoesOn paths d p = g p (and_left (elem p live) (on p) a) in
        record { small = h.small; there = h.there; more = lt_of (d + 1) (many paths p) (and_right (matches q paths d key p) (ltb (d + 1) (many paths p)) (and_right (elem p live) (on p) a)); few = h.few }

    alive_onward : (live : List ℕ) → Going paths d live → alive (onward key (all d live)) ≡ all (d + 1) (filter on live)
    alive_onward [] g = refl
    alive_onward (p ∷ live) g =
        ap (λ (r : Path). alive (onward key (r ∷ all d live))) (rest_step d p (going_head d p live g).more)
        ∙ go (matches q paths d key p) (ltb (d + 1) (many paths p)) refl (alive_onward live (going_tail d p live g))
      where
        others : List Path
        others = onward key (all d live)

        go : (a b : Bool) → ltb (d + 1) (many paths p) ≡ b → alive (onward key (all d live)) ≡ all (d + 1) (filter on live)
            → alive (cond a (rest (d + 1) p ∷ onward key (all d live)) (onward key (all d live))) ≡ all (d + 1) (cond (a && b) (p ∷ filter on live) (filter on live))
        go true true f h =
            let e = rest_step (d + 1) p (lt_of (d + 1) (many paths p) f) in
            ap (λ (r : Path). alive (r ∷ onward key (all d live))) e ∙ ap₂ (λ (r : Path) (l : List Path). r ∷ l) (sym e) h
        go true false f h = ap (λ (r : Path). alive (r ∷ onward key (all d live))) (rest_end (d + 1) p (le_of_not (d + 1) (many paths p) f)) ∙ h
        go false b f h = h

    module _ (live : List ℕ) (g : Going paths d live) where
      pub on_going : Going paths (d + 1) (filter on live)
      on_going = going_keep live g

      -- what the value behind the key gives and costs: record w, from its answers on to others
      pub record Inner (w : ℕ) (v : TokenValue) (old answers : List ℕ) (r : ℕ) : Type 0 where
        pub steps : r ≡ steps_at (onward key (all d live)) v
        pub size : length answers ≡ 128
        pub gains : Gains (among (filter on live) (λ p. inside_first w v (rest (d + 1) p))) old answers

      pub inner_none : (w : ℕ) (v : TokenValue) (a : List ℕ) → length a ≡ 128 → filter on live ≡ [] → Inner w v a a 0
      inner_none w v a z e =
          record {
            steps = sym (steps_dead (onward key (all d live)) v (sym (some_alive (onward key (all d live))) ∙ ap some_left (alive_onward live g ∙ ap (all (d + 1)) e)));
            size = z;
            gains = gains_nothing (λ p. ap (λ (l : List ℕ). among l (λ p. inside_first w v (rest (d + 1) p)) p) e);
          }

      pub inner_other : (w : ℕ) (v : TokenValue) (a : List ℕ) → length a ≡ 128 → (kind_of v ≡ 5 → ⊥) → Inner w v a a 0
      inner_other w v a z e =
          record {
            steps = sym (steps_other (onward key (all d live)) v e);
            size = z;
            gains = gains_nothing (λ p. ap (λ (o : Option ℕ). cond (elem p (filter on live)) o None) (first_other w v (rest (d + 1) p) e) ∙ neither (elem p (filter on live)));
          }

      pub inner_map : (w : ℕ) (kvs : KeyValues) (cl : List Slice) (old answers : List ℕ) (r : ℕ) → 0 < length (filter on live)
          → Walked q paths (d + 1) (filter on live) (suc w) kvs old answers r → Inner w (map_of kvs cl) old answers r
      inner_map w kvs cl old answers r h t =
          let ps = onward key (all d live) in
          record {
            steps = t.steps ∙ ap (λ (l : List Path). steps_in l kvs) (sym (alive_onward live g)) ∙ steps_alive kvs ps ∙ sym (steps_map ps kvs cl (sym (some_alive ps) ∙ ap some_left (alive_onward live g) ∙ some_rests (d + 1) (filter on live) (going_keep live g) h));
            size = t.size;
            gains = t.gains;
          }

      -- a pair gives what its value gives, and then what is behind it
      pub pair_gives : (n w : ℕ) (kt val : TokenTree) (kvs : KeyValues) → key_of kt ≡ key → w ≡ n + count kt + length (prefix_of val) → (p : ℕ)
          → option_or (option_or (among live (ends_at q paths d key w) p) (among (filter on live) (λ x. inside_first w (value_of val) (rest (d + 1) x)) p)) (among live (λ x. first_in (n + count kt + count val) kvs (rest d x)) p)
          ≡ among live (λ x. first_in n (pair kt val kvs) (rest d x)) p
      pair_gives n w kt val kvs ke we p =
          ap (λ (b : Bool). option_or (option_or (among live (ends_at q paths d key w) p) (cond b (inside_first w (value_of val) (rest (d + 1) p)) None)) (among live (λ x. first_in (n + count kt + count val) kvs (rest d x)) p)) (elem_keep on live p)
          ∙ go (elem p live) refl
        where
          k : Key
          k = key_at q paths p d

          later : Option ℕ
          later = first_in (n + count kt + count val) kvs (rest d p)

          here : Option ℕ
          here = inside_first w (value_of val) (rest (d + 1) p)

          by : (a b : Bool) → ltb (d + 1) (many paths p) ≡ b
              → option_or (option_or (cond (a && not b) (Some w) None) (cond (a && b) (inside_first w (value_of val) (rest (d + 1) p)) None)) (first_in (n + count kt + count val) kvs (rest d p))
              ≡ option_or (cond a (first_some (reached_at w (value_of val) (rest (d + 1) p))) None) (first_in (n + count kt + count val) kvs (rest d p))
          by true true f =
              let e = rest_step (d + 1) p (lt_of (d + 1) (many paths p) f) in
              ap (λ (o : Option ℕ). option_or o (first_in (n + count kt + count val) kvs (rest d p)))
              (ap (inside_first w (value_of val)) e ∙ sym (ap (λ (r : Path). first_some (reached_at w (value_of val) r)) e ∙ first_on w (value_of val) (key_at q paths p (d + 1)) (rest (d + 1 + 1) p)))
          by true false f =
              let e = rest_end (d + 1) p (le_of_not (d + 1) (many paths p) f) in
              ap (λ (o : Option ℕ). option_or o (first_in (n + count kt + count val) kvs (rest d p))) (sym (ap (λ (r : Path). first_some (reached_at w (value_of val) r)) e ∙ first_end w (value_of val)))
          by false b f = refl

          go : (c : Bool) → elem p live ≡ c
              → option_or (option_or (cond (elem p live) (ends_at q paths d key w p) None) (cond (elem p live && on p) (inside_first w (value_of val) (rest (d + 1) p)) None)) (cond (elem p live) (first_in (n + count kt + count val) kvs (rest d p)) None)
              ≡ cond (elem p live) (first_in n (pair kt val kvs) (rest d p)) None
          go true e =
              let s = rest_step d p (g p e).more in
              rw e (by (matches q paths d key p) (ltb (d + 1) (many paths p)) refl
              ∙ sym (ap (first_in n (pair kt val kvs)) s ∙ first_pair n w kt val kvs (key_at q paths p d) (rest (d + 1) p) we
              ∙ ap₂ (λ (b : Option Key) (r : Path). option_or (cond (is_key (key_at q paths p d) b) (first_some (reached_at w (value_of val) (rest (d + 1) p))) None) (first_in (n + count kt + count val) kvs r)) ke (sym s)))
          go false e = rw e
