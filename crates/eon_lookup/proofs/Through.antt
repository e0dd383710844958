-- On the way through a map's pairs: what is left, what was counted, and what the paths have.
use Rattle.std.proofs.Common.{Option, None, ◌≡◌, refl, sym, ap, ◌∙◌, subst, true, false, cond, List, ℕ, suc, ◌+◌, ◌≤◌, ◌<◌, arith, length, get_or, filter}
use Rattle.eon_spec.specs.Base.{elem}
use Rattle.eon_spec.specs.Tree.{Slice, TokenTree, TokenValue, KeyValues, tree, no_pairs, pair}
use Rattle.eon_spec.specs.Layout.{prefix_of}
use Rattle.eon_spec.specs.Lookup.{Path, key_of, count, onward, steps, steps_at, steps_in}
use Rattle.eon_laws.proofs.Records.{tree_size, value_size, pairs_size, tree_size_lem}
use Rattle.eon_lookup.proofs.Steps.{pairs_steps}
use Rattle.eon_table.specs.Words.{more_at, AfterPrefix}
use Rattle.eon_table.specs.TreeAt.{value_of, ValueAt, PairedAt, NextAt, SomeTree}
use Rattle.eon_table.proofs.Walk.{tree_pos, tree_value, tree_head}
use Rattle.eon_table.proofs.Here.{Entry, entry, no_entry}
use Rattle.eon_lookup.specs.declared.paths.Keys.{Keys}
use Rattle.eon_lookup.specs.Keys.{key_here, rest_at, rests, Going}
use Rattle.std.specs.Option.{option_or}
use Rattle.eon_lookup.specs.Live.{answer_of, Gains, among, first_in, ends_at, goes_on, KeyMatched, Walked}
use Rattle.eon_lookup.proofs.Lists.{neither, option_or_assoc, option_or_none, gains_then}
use Rattle.eon_lookup.proofs.Pairs.{key_here_lem, steps_tree, no_first, inside_first, Inner, pair_gives}

pub tree_parts : (t : TokenTree) → length (prefix_of t) + value_size (value_of t) ≤ tree_size t
unfolding tree_size
tree_parts (tree sp p v x) = omega arith

steps_pair : (ps : List Path) (k v : TokenTree) (kvs : KeyValues) → steps_in ps (pair k v kvs) ≡ suc (suc (steps_at (onward (key_of k) ps) (value_of v)) + steps_in ps kvs)
unfolding steps
steps_pair ps k v kvs = ap (λ (n : ℕ). suc (n + steps_in ps kvs)) (steps_tree (onward (key_of k) ps) v)

steps_none : (ps : List Path) → steps_in ps no_pairs ≡ 0
unfolding steps
steps_none ps = refl

pairs_two : (k v : TokenTree) (kvs : KeyValues) → pairs_size (pair k v kvs) ≡ tree_size k + (tree_size v + pairs_size kvs)
unfolding pairs_size
pairs_two k v kvs = refl

module _ (s tb : List ℕ) (end : ℕ) (q : List ℕ) (paths : List Keys) (d : ℕ) (live : List ℕ) where
  abbrev ps : List Path
  ps = rests q paths d live

  abbrev pub gives : ℕ → KeyValues → ℕ → Option ℕ
  gives n kvs = among live (λ x. first_in n kvs (rest_at q paths d x))

  pub record Through (kvs : KeyValues) (cl : List Slice) (base : ℕ) (old answers : List ℕ) (j n : ℕ) : Type 0 where
    pub left : KeyValues
    pub inside : PairedAt s tb end j left cl
    pub steps : n + steps_in ps left ≡ steps_in ps kvs
    pub gains : (p : ℕ) → option_or (answer_of (get_or answers p 0)) (gives j left p) ≡ option_or (answer_of (get_or old p 0)) (gives base kvs p)

  pub through_start : (kvs : KeyValues) (cl : List Slice) (base : ℕ) (old : List ℕ) → PairedAt s tb end base kvs cl → Through kvs cl base old old base 0
  through_start kvs cl base old h = record { left = kvs; inside = h; steps = omega arith; gains = λ p. refl }

  pub through_end : (kvs : KeyValues) (cl : List Slice) (base : ℕ) (old answers : List ℕ) (j n : ℕ) → Through kvs cl base old answers j n → more_at tb end j ≡ false → length answers ≡ 128
      → Walked q paths d live base kvs old answers n
  through_end kvs cl base old answers j n t m z =
      let e : t.left ≡ no_pairs = no_entry t.inside m in
      let a : steps_in ps t.left ≡ 0 = ap (steps_in ps) e ∙ steps_none ps in
      let b : n + steps_in ps t.left ≡ steps_in ps kvs = t.steps in
      record {
        steps = omega arith;
        size = z;
        gains = record {
          has = λ p.
              sym (option_or_none (answer_of (get_or answers p 0)))
              ∙ ap (option_or (answer_of (get_or answers p 0))) (sym (ap (λ (l : KeyValues). gives j l p) e ∙ ap (λ (o : Option ℕ). cond (elem p live) o None) (no_first j (rest_at q paths d p)) ∙ neither (elem p live)))
              ∙ t.gains p;
        };
      }

-- a turn of the loop
module _ {s tb : List ℕ} {end : ℕ} {q : List ℕ} {paths : List Keys} {d : ℕ} {live : List ℕ} {kvs : KeyValues} {cl : List Slice} {base : ℕ} {old answers : List ℕ} {j n : ℕ} (t : Through s tb end q paths d live kvs cl base old answers j n) (m : true ≡ more_at tb end j) where
  abbrev qs : List Path
  qs = rests q paths d live

  abbrev given : ℕ → KeyValues → ℕ → Option ℕ
  given = gives s tb end q paths d live

  abbrev e : Entry s tb end j t.left cl
  e = entry t.inside (sym m)

  pub key_there : SomeTree s tb end j
  key_there = (e.key, e.here.at)

  pub value_there : (v : ℕ) → NextAt tb end j v → SomeTree s tb end v
  value_there v nv = (e.val, (e.there v nv).at)

  -- the value of the pair
  abbrev pub the_value : TokenValue
  the_value = value_of e.val

  module _ {k v w : ℕ} (ak : AfterPrefix tb j k) (nv : NextAt tb end j v) (aw : AfterPrefix tb v w) where
    pub value_is : ValueAt s tb w the_value
    value_is = tree_value s tb end v w e.val (e.there v nv).at aw

    pub value_before : w + value_size the_value ≤ end
    value_before =
        let a : w ≡ v + length (prefix_of e.val) = tree_head s tb end v w e.val (e.there v nv).at aw in
        let b : v ≡ j + tree_size e.key = nv s e.key e.here.at in
        let c : end ≡ j + pairs_size t.left + length cl = t.inside.all in
        let f : pairs_size t.left ≡ tree_size e.key + (tree_size e.val + pairs_size e.rest) = ap pairs_size e.is ∙ pairs_two e.key e.val e.rest in
        let z : length (prefix_of e.val) + value_size the_value ≤ tree_size e.val = tree_parts e.val in
        omega arith

    key_is : key_of e.key ≡ key_here s tb k
    key_is = key_here_lem s tb end j k e.key e.here.at ak

    steps_so : n + suc (suc (steps_at (onward (key_here s tb k) qs) the_value) + steps_in qs e.rest) ≡ steps_in qs kvs
    steps_so =
        ap (λ (x : ℕ). n + x) (sym (ap (steps_in qs) e.is ∙ steps_pair qs e.key e.val e.rest ∙ ap (λ (o : Option (List ℕ)). suc (suc (steps_at (onward o qs) the_value) + steps_in qs e.rest)) key_is))
        ∙ t.steps

    pub steps_fit : n + 2 + steps_at (onward (key_here s tb k) qs) the_value ≤ pairs_size kvs
    steps_fit = omega (arith, steps_so, pairs_steps kvs qs)

    module _ (j' : ℕ) (nj : NextAt tb end v j') where
      pub goes_past : j < j'
      goes_past =
          let b : v ≡ j + tree_size e.key = nv s e.key e.here.at in
          let c : j' ≡ v + tree_size e.val = nj s e.val (e.there v nv).at in
          let f : 1 ≤ tree_size e.key = tree_pos e.key in
          omega arith

      pub turn : (g : Going paths d live) (answers₁ on : List ℕ) → KeyMatched q paths d (key_here s tb k) live w answers answers₁ on
          → (answers₂ : List ℕ) (x : ℕ) → Inner q paths d (key_here s tb k) live g w the_value answers₁ answers₂ x
          → (n' : ℕ) → n' ≡ n + 2 + x → Through s tb end q paths d live kvs cl base old answers₂ j' n'
      turn g answers₁ on b answers₂ x i n' ne =
          let a : w ≡ v + length (prefix_of e.val) = tree_head s tb end v w e.val (e.there v nv).at aw in
          let b₁ : v ≡ j + tree_size e.key = nv s e.key e.here.at in
          let b₂ : j' ≡ v + tree_size e.val = nj s e.val (e.there v nv).at in
          let c₁ : count e.key ≡ tree_size e.key = tree_size_lem e.key in
          let c₂ : count e.val ≡ tree_size e.val = tree_size_lem e.val in
          let so : n + suc (suc (steps_at (onward (key_here s tb k) qs) the_value) + steps_in qs e.rest) ≡ steps_in qs kvs = steps_so in
          let xe : x ≡ steps_at (onward (key_here s tb k) qs) the_value = i.steps in
          record {
            left = e.rest;
            inside = e.onward v j' nv nj;
            steps = omega arith;
            gains = λ p.
                ap (λ (y : ℕ). option_or (answer_of (get_or answers₂ p 0)) (given y e.rest p)) (omega arith)
                ∙ ap (λ (o : Option ℕ). option_or o (given (j + count e.key + count e.val) e.rest p)) (both.has p)
                ∙ option_or_assoc (answer_of (get_or answers p 0)) (gained p) (given (j + count e.key + count e.val) e.rest p)
                ∙ ap (option_or (answer_of (get_or answers p 0))) (pair_gives q paths d (key_here s tb k) live g j w e.key e.val e.rest key_is (omega arith) p)
                ∙ ap (λ (l : KeyValues). option_or (answer_of (get_or answers p 0)) (given j l p)) (sym e.is)
                ∙ t.gains p;
          }
        where
          gained : ℕ → Option ℕ
          gained p = option_or (among live (ends_at q paths d (key_here s tb k) w) p) (among (filter (goes_on q paths d (key_here s tb k)) live) (λ y. inside_first w the_value (rest_at q paths (d + 1) y)) p)

          both : Gains gained answers answers₂
          both = gains_then b.gains i.gains (λ p. refl)

-- a walk with the paths that go on, which are those of the same text
pub walked_same : {q q' : List ℕ} {paths paths' : List Keys} {d d' : ℕ} {live live' : List ℕ} {n : ℕ} {kvs : KeyValues} {old answers : List ℕ} {r : ℕ} → q' ≡ q → paths' ≡ paths → d' ≡ d → live' ≡ live
    → Walked q' paths' d' live' n kvs old answers r → Walked q paths d live n kvs old answers r
walked_same {q} {q'} {paths} {paths'} {d} {d'} {live} {live'} {n} {kvs} {old} {answers} {r} qe f g h w =
    subst (λ l. Walked q paths d l n kvs old answers r) h (subst (λ m. Walked q paths m live' n kvs old answers r) g (subst (λ ps. Walked q ps d' live' n kvs old answers r) f (subst (λ x. Walked x paths' d' live' n kvs old answers r) qe w)))
