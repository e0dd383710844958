-- The steps are no more than the records, and they are those of the sentence: the root and, in each map that a proper front of some path
-- reaches, every key and value, each once.
use Rattle.std.proofs.Common.{◌≡◌, refl, sym, ◌∙◌, ap, ap₂, Bool, true, false, ◌&&◌, ◌||◌, List, [], ◌∷◌, ◌++◌, ℕ, suc, ◌+◌, ◌≤◌, ◌<◌, arith, length, length-append, eqb}
use Rattle.std.proofs.Math.Bool.{or_assoc}
use Rattle.eon_spec.specs.Base.{elem}
use Rattle.eon_spec.specs.Tree.{Slice, TokenTree, TokenValue, KeyValues, tree, identifier, number, quoted_string, list_of, map_of, variant_of, no_pairs, pair}
use Rattle.eon_spec.specs.Records.{tree_records}
use Rattle.eon_laws.proofs.Facts.{clash, elem_append}
use Rattle.eon_laws.proofs.Records.{tree_size, value_size, pairs_size, tree_size_lem}
use Rattle.eon_spec.specs.Lookup.{Key, Path, key_of, is_key, count, onward, some_left, steps, steps_at, steps_in}
use Rattle.eon_table.proofs.Walk.{value_pos, tree_pos}
use Rattle.eon_lookup.proofs.Reached.{Rising, rising_down, rising_wider, rising_append, rising_if}

-- ---- no more than the records

either_less : (b : Bool) (m n : ℕ) → m ≤ n → elim b [ true ↦ m | false ↦ 0 ] ≤ n
either_less true m n h = h
either_less false m n h = omega arith

mutual
  unfolding steps tree_size

  tree_steps : (t : TokenTree) (ps : List Path) → steps ps t ≤ tree_size t
  tree_steps (tree s p v x) ps = omega (arith, value_steps v ps)

  value_steps : (v : TokenValue) (ps : List Path) → suc (steps_at ps v) ≤ value_size v
  value_steps (identifier b) ps = omega arith
  value_steps (number b) ps = omega arith
  value_steps (quoted_string b) ps = omega arith
  value_steps (list_of vs cl) ps = omega arith
  value_steps (map_of kvs cl) ps =
      let h : elim (some_left ps) [ true ↦ steps_in ps kvs | false ↦ 0 ] ≤ pairs_size kvs = either_less (some_left ps) (steps_in ps kvs) (pairs_size kvs) (pairs_steps kvs ps) in
      omega arith
  value_steps (variant_of n vs cl) ps = omega arith

  pub pairs_steps : (kvs : KeyValues) (ps : List Path) → steps_in ps kvs ≤ pairs_size kvs
  pairs_steps no_pairs ps = omega arith
  pairs_steps (pair k v kvs) ps = omega (arith, tree_pos k, tree_steps v (onward (key_of k) ps), pairs_steps kvs ps)

-- "They never exceed the event table's record count"
pub few_steps : (t : TokenTree) (ps : List Path) → steps ps t ≤ length (tree_records t)
few_steps t ps = rw (tree_size_lem t) (tree_steps t ps)

-- ---- the sentence

-- the number of a tree's value, of which the first record is number n
abbrev pub own : ℕ → TokenTree → ℕ
own n (tree s p v x) = n + length p

-- j is a key or a value of these pairs, of which the first record is number n
abbrev pub is_member : ℕ → ℕ → KeyValues → Bool
is_member j n no_pairs = false
is_member j n (pair k v kvs) = eqb j (own n k) || (eqb j (own (n + count k) v) || is_member j (n + count k + count v) kvs)

-- j is a key or a value of a map that a front reaches
unfoldable mutual
  pub inside : ℕ → ℕ → TokenTree → Path → Bool
  inside j n (tree s p v x) f = inside_at j (n + length p) v f

  pub inside_at : ℕ → ℕ → TokenValue → Path → Bool
  inside_at j n (identifier b) f = false
  inside_at j n (number b) f = false
  inside_at j n (quoted_string b) f = false
  inside_at j n (list_of vs cl) f = false
  inside_at j n (map_of kvs cl) [] = is_member j (suc n) kvs
  inside_at j n (map_of kvs cl) (k ∷ ks) = inside_in j (suc n) kvs k ks
  inside_at j n (variant_of name vs cl) f = false

  pub inside_in : ℕ → ℕ → KeyValues → Key → Path → Bool
  inside_in j n no_pairs k ks = false
  inside_in j n (pair key v kvs) k ks = (is_key k (key_of key) && inside j (n + count key) v ks) || inside_in j (n + count key + count v) kvs k ks

-- a proper front of a path passes; one of some path does
abbrev pub some_front : (Path → Bool) → Path → Bool
some_front test [] = false
some_front test (k ∷ ks) = test [] || some_front (λ f. test (k ∷ f)) ks

abbrev pub some_path : (Path → Bool) → List Path → Bool
some_path test [] = false
some_path test (p ∷ ps) = test p || some_path test ps

-- "the root and, in each map that a proper front of some path reaches, every key and value"
abbrev pub stepped : ℕ → ℕ → TokenTree → List Path → Bool
stepped j n t ps = eqb j (own n t) || some_path (some_front (inside j n t)) ps

-- ---- the walk

abbrev list_if : Bool → List ℕ → List ℕ
list_if b ns = elim b [ true ↦ ns | false ↦ [] ]

-- the numbers that the walk meets
unfoldable mutual
  pub walked : ℕ → TokenTree → List Path → List ℕ
  walked n (tree s p v x) ps = (n + length p) ∷ walked_at (n + length p) v ps

  pub walked_at : ℕ → TokenValue → List Path → List ℕ
  walked_at n (identifier b) ps = []
  walked_at n (number b) ps = []
  walked_at n (quoted_string b) ps = []
  walked_at n (list_of vs cl) ps = []
  walked_at n (map_of kvs cl) ps = elim (some_left ps) [ true ↦ walked_in (suc n) kvs ps | false ↦ [] ]
  walked_at n (variant_of name vs cl) ps = []

  pub walked_in : ℕ → KeyValues → List Path → List ℕ
  walked_in n no_pairs ps = []
  walked_in n (pair k v kvs) ps = own n k ∷ (walked (n + count k) v (onward (key_of k) ps) ++ walked_in (n + count k + count v) kvs ps)

length_if : (b : Bool) (ns : List ℕ) → length (list_if b ns) ≡ elim b [ true ↦ length ns | false ↦ 0 ]
length_if true ns = refl
length_if false ns = refl

mutual
  unfolding walked steps

  -- one number for each step
  tree_walk : (t : TokenTree) (n : ℕ) (ps : List Path) → length (walked n t ps) ≡ steps ps t
  tree_walk (tree s p v x) n ps = ap suc (value_walk v (n + length p) ps)

  value_walk : (v : TokenValue) (n : ℕ) (ps : List Path) → length (walked_at n v ps) ≡ steps_at ps v
  value_walk (identifier b) n ps = refl
  value_walk (number b) n ps = refl
  value_walk (quoted_string b) n ps = refl
  value_walk (list_of vs cl) n ps = refl
  value_walk (map_of kvs cl) n ps = length_if (some_left ps) (walked_in (suc n) kvs ps) ∙ ap (λ (m : ℕ). elim (some_left ps) [ true ↦ m | false ↦ 0 ]) (pairs_walk kvs (suc n) ps)
  value_walk (variant_of name vs cl) n ps = refl

  pairs_walk : (kvs : KeyValues) (n : ℕ) (ps : List Path) → length (walked_in n kvs ps) ≡ steps_in ps kvs
  pairs_walk no_pairs n ps = refl
  pairs_walk (pair k v kvs) n ps =
      ap suc (length-append (walked (n + count k) v (onward (key_of k) ps)) (walked_in (n + count k + count v) kvs ps)
      ∙ ap₂ ◌+◌ (tree_walk v (n + count k) (onward (key_of k) ps)) (pairs_walk kvs (n + count k + count v) ps))

own_within : (n : ℕ) (t : TokenTree) → (n ≤ own n t) × (own n t < n + tree_size t)
unfolding tree_size
own_within n (tree s p v x) = (omega arith, omega (arith, value_pos v))

mutual
  unfolding walked tree_size

  -- each once, in table order
  tree_once : (t : TokenTree) (n : ℕ) (ps : List Path) → Rising n (n + tree_size t) (walked n t ps)
  tree_once (tree s p v x) n ps =
      let w = own_within n (tree s p v x) in
      (w.0, w.1, rising_wider (suc (n + length p)) (n + length p + value_size v) (n + tree_size (tree s p v x)) (walked_at (n + length p) v ps) (omega arith) (value_once v (n + length p) ps))

  value_once : (v : TokenValue) (n : ℕ) (ps : List Path) → Rising (suc n) (n + value_size v) (walked_at n v ps)
  value_once (identifier b) n ps = omega arith
  value_once (number b) n ps = omega arith
  value_once (quoted_string b) n ps = omega arith
  value_once (list_of vs cl) n ps = omega arith
  value_once (map_of kvs cl) n ps =
      rising_if (some_left ps) (suc n) (n + value_size (map_of kvs cl)) (walked_in (suc n) kvs ps)
      (rising_wider (suc n) (suc n + pairs_size kvs) (n + value_size (map_of kvs cl)) (walked_in (suc n) kvs ps) (omega arith) (pairs_once kvs (suc n) ps))
  value_once (variant_of name vs cl) n ps = omega arith

  pairs_once : (kvs : KeyValues) (n : ℕ) (ps : List Path) → Rising n (n + pairs_size kvs) (walked_in n kvs ps)
  pairs_once no_pairs n ps = omega arith
  pairs_once (pair k v kvs) n ps =
      let a : count k ≡ tree_size k = tree_size_lem k in
      let b : count v ≡ tree_size v = tree_size_lem v in
      let w = own_within n k in
      let qs = onward (key_of k) ps in
      let m : ℕ = n + count k + count v in
      let h : Rising (suc (own n k)) m (walked (n + count k) v qs) =
      rising_down (suc (own n k)) (n + count k) m (walked (n + count k) v qs) (omega (arith, w.1))
      (rising_wider (n + count k) (n + count k + tree_size v) m (walked (n + count k) v qs) (omega arith) (tree_once v (n + count k) qs)) in
      let g : Rising m (n + pairs_size (pair k v kvs)) (walked_in m kvs ps) =
      rising_wider m (m + pairs_size kvs) (n + pairs_size (pair k v kvs)) (walked_in m kvs ps) (omega arith) (pairs_once kvs m ps) in
      (w.0, omega (arith, w.1), rising_append (suc (own n k)) m (n + pairs_size (pair k v kvs)) (walked (n + count k) v qs) (walked_in m kvs ps) h g)

-- ---- what the walk meets is what the sentence says

elem_if : (j : ℕ) (b : Bool) (ns : List ℕ) → elem j (list_if b ns) ≡ b && elem j ns
elem_if j true ns = refl
elem_if j false ns = refl

or_swap : (p q r s : Bool) → (p || q) || (r || s) ≡ (p || r) || (q || s)
or_swap true q r s = refl
or_swap false true true s = refl
or_swap false true false s = refl
or_swap false false r s = refl

front_none : (p : Path) → some_front (λ f. false) p ≡ false
front_none [] = refl
front_none (k ∷ ks) = front_none ks

front_or : (a b : Path → Bool) (p : Path) → some_front (λ f. a f || b f) p ≡ some_front a p || some_front b p
front_or a b [] = refl
front_or a b (k ∷ ks) =
    ap (λ (x : Bool). (a [] || b []) || x) (front_or (λ f. a (k ∷ f)) (λ f. b (k ∷ f)) ks)
    ∙ or_swap (a []) (b []) (some_front (λ f. a (k ∷ f)) ks) (some_front (λ f. b (k ∷ f)) ks)

front_and : (c : Bool) (a : Path → Bool) (p : Path) → some_front (λ f. c && a f) p ≡ c && some_front a p
front_and true a p = refl
front_and false a p = front_none p

-- the paths behind their first keys: a front that goes on through these pairs
abbrev goes_on : ℕ → ℕ → KeyValues → Path → Bool
goes_on j n kvs [] = false
goes_on j n kvs (k ∷ ks) = some_front (inside_in j n kvs k) ks

no_pairs_lem : (j n : ℕ) (ps : List Path) → some_path (goes_on j n no_pairs) ps ≡ false
unfolding inside
no_pairs_lem j n [] = refl
no_pairs_lem j n ([] ∷ ps) = no_pairs_lem j n ps
no_pairs_lem j n ((k ∷ ks) ∷ ps) = ap (λ (x : Bool). x || some_path (goes_on j n no_pairs) ps) (front_none ks) ∙ no_pairs_lem j n ps

-- through one pair, or through the others
one_pair : (j n : ℕ) (key v : TokenTree) (kvs : KeyValues) (ps : List Path)
    → some_path (goes_on j n (pair key v kvs)) ps ≡ some_path (some_front (inside j (n + count key) v)) (onward (key_of key) ps) || some_path (goes_on j (n + count key + count v) kvs) ps
unfolding inside
one_pair j n key v kvs [] = refl
one_pair j n key v kvs ([] ∷ ps) = one_pair j n key v kvs ps
one_pair j n key v kvs ((k ∷ ks) ∷ ps) =
    ap (λ (x : Bool). x || some_path (goes_on j n (pair key v kvs)) ps)
    (front_or (λ f. is_key k (key_of key) && inside j (n + count key) v f) (inside_in j (n + count key + count v) kvs k) ks
    ∙ ap (λ (x : Bool). x || some_front (inside_in j (n + count key + count v) kvs k) ks) (front_and (is_key k (key_of key)) (inside j (n + count key) v) ks))
    ∙ go (is_key k (key_of key)) refl (one_pair j n key v kvs ps)
  where
    here : Bool
    here = some_front (inside j (n + count key) v) ks

    there : Bool
    there = some_front (inside_in j (n + count key + count v) kvs k) ks

    rest : Bool
    rest = some_path (goes_on j n (pair key v kvs)) ps

    down : Bool
    down = some_path (some_front (inside j (n + count key) v)) (onward (key_of key) ps)

    on : Bool
    on = some_path (goes_on j (n + count key + count v) kvs) ps

    go : (b : Bool) → is_key k (key_of key) ≡ b → rest ≡ down || on
        → ((is_key k (key_of key) && here) || there) || rest ≡ some_path (some_front (inside j (n + count key) v)) (onward (key_of key) ((k ∷ ks) ∷ ps)) || (there || on)
    go true e h = rw e (ap (λ (x : Bool). (here || there) || x) h ∙ or_swap here there down on)
    go false e h = rw e (ap (λ (x : Bool). there || x) h ∙ or_swap false there down on)

none_goes : (j n : ℕ) (kvs : KeyValues) (ps : List Path) → some_left ps ≡ false → some_path (goes_on j n kvs) ps ≡ false
none_goes j n kvs [] e = refl
none_goes j n kvs ([] ∷ ps) e = none_goes j n kvs ps e
none_goes j n kvs ((k ∷ ks) ∷ ps) e = clash refl e

-- the members of a map that some path leads into, and what lies behind them
into_map : (j n : ℕ) (kvs : KeyValues) (ps : List Path) (m : Bool)
    → some_left ps && (m || some_path (goes_on j n kvs) ps) ≡ some_path (λ p. elim p [ [] ↦ false | k ∷ ks ↦ m || some_front (inside_in j n kvs k) ks ]) ps
into_map j n kvs [] m = refl
into_map j n kvs ([] ∷ ps) m = into_map j n kvs ps m
into_map j n kvs ((k ∷ ks) ∷ ps) m = join m (some_front (inside_in j n kvs k) ks) (some_left ps) (some_path (goes_on j n kvs) ps) (none_goes j n kvs ps) ∙ ap (λ (x : Bool). (m || some_front (inside_in j n kvs k) ks) || x) (into_map j n kvs ps m)
  where
    join : (m a l o : Bool) → (l ≡ false → o ≡ false) → m || (a || o) ≡ (m || a) || (l && (m || o))
    join true a l o h = refl
    join false true l o h = refl
    join false false true o h = refl
    join false false false o h = h refl

-- which is what the fronts of the paths reach
fronts : (j n : ℕ) (kvs : KeyValues) (cl : List Slice) (ps : List Path)
    → some_path (λ p. elim p [ [] ↦ false | k ∷ ks ↦ is_member j (suc n) kvs || some_front (inside_in j (suc n) kvs k) ks ]) ps ≡ some_path (some_front (inside_at j n (map_of kvs cl))) ps
unfolding inside
fronts j n kvs cl [] = refl
fronts j n kvs cl ([] ∷ ps) = fronts j n kvs cl ps
fronts j n kvs cl ((k ∷ ks) ∷ ps) = ap (λ (x : Bool). (is_member j (suc n) kvs || some_front (inside_in j (suc n) kvs k) ks) || x) (fronts j n kvs cl ps)

-- a value that is no map holds nothing
nothing : (ps : List Path) → some_path (some_front (λ f. false)) ps ≡ false
nothing [] = refl
nothing (p ∷ ps) = ap (λ (x : Bool). x || some_path (some_front (λ f. false)) ps) (front_none p) ∙ nothing ps

mutual
  unfolding walked inside

  tree_met : (t : TokenTree) (j n : ℕ) (ps : List Path) → elem j (walked n t ps) ≡ stepped j n t ps
  tree_met (tree s p v x) j n ps = ap (λ (b : Bool). eqb j (n + length p) || b) (value_met v j (n + length p) ps)

  value_met : (v : TokenValue) (j n : ℕ) (ps : List Path) → elem j (walked_at n v ps) ≡ some_path (some_front (inside_at j n v)) ps
  value_met (identifier b) j n ps = sym (nothing ps)
  value_met (number b) j n ps = sym (nothing ps)
  value_met (quoted_string b) j n ps = sym (nothing ps)
  value_met (list_of vs cl) j n ps = sym (nothing ps)
  value_met (map_of kvs cl) j n ps =
      elem_if j (some_left ps) (walked_in (suc n) kvs ps) ∙ ap (λ (b : Bool). some_left ps && b) (pairs_met kvs j (suc n) ps) ∙ into_map j (suc n) kvs ps (is_member j (suc n) kvs) ∙ fronts j n kvs cl ps
  value_met (variant_of name vs cl) j n ps = sym (nothing ps)

  pairs_met : (kvs : KeyValues) (j n : ℕ) (ps : List Path) → elem j (walked_in n kvs ps) ≡ is_member j n kvs || some_path (goes_on j n kvs) ps
  pairs_met no_pairs j n ps = sym (no_pairs_lem j n ps)
  pairs_met (pair k v kvs) j n ps =
      let m : ℕ = n + count k + count v in
      ap (λ (b : Bool). eqb j (own n k) || b)
      (elem_append j (walked (n + count k) v (onward (key_of k) ps)) (walked_in m kvs ps) ∙ ap₂ ◌||◌ (tree_met v j (n + count k) (onward (key_of k) ps)) (pairs_met kvs j m ps))
      ∙ ap (λ (b : Bool). eqb j (own n k) || b) (or_swap (eqb j (own (n + count k) v)) (some_path (some_front (inside j (n + count k) v)) (onward (key_of k) ps)) (is_member j m kvs) (some_path (goes_on j m kvs) ps))
      ∙ sym (or_assoc (eqb j (own n k)) (eqb j (own (n + count k) v) || is_member j m kvs) (some_path (some_front (inside j (n + count k) v)) (onward (key_of k) ps) || some_path (goes_on j m kvs) ps))
      ∙ ap (λ (b : Bool). is_member j n (pair k v kvs) || b) (sym (one_pair j n k v kvs ps))

-- the numbers of the steps: in table order, so each once; as many as the steps; and those of the sentence
pub record Steps (t : TokenTree) (ps : List Path) : Type 0 where
  pub numbers : List ℕ
  pub each_once : Rising 0 (length (tree_records t)) numbers
  pub as_many : length numbers ≡ steps ps t
  pub the_sentence : (j : ℕ) → elem j numbers ≡ stepped j 0 t ps

pub steps_are : (t : TokenTree) (ps : List Path) → Steps t ps
steps_are t ps =
    record {
      numbers = walked 0 t ps;
      each_once = rw (tree_size_lem t) (rising_wider 0 (0 + tree_size t) (tree_size t) (walked 0 t ps) (omega arith) (tree_once t 0 ps));
      as_many = tree_walk t 0 ps;
      the_sentence = λ j. tree_met t j 0 ps;
    }
