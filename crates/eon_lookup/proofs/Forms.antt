-- The form of a path list: items read off one after the other.
use Rattle.std.proofs.Common.{append-nil, Option, None, Some, ◌≡◌, refl, sym, ap, ap₂, ◌∙◌, subst, Bool, true, false, ◌&&◌, cond, List, [], ◌∷◌, ◌++◌, append_assoc, ℕ, zero, suc, ◌+◌, ◌-◌, ◌≤◌, ◌<◌, arith, add-zero, zero-add, add-one, length, get_or, set, take, length-append, get_or-set_same, get_or-set_other, get_or-append-add, take-suc, take-suc-set, take_all, length-take-le, leb, le-leb}
use Rattle.std.proofs.lemmas.List.{map-append}
use Rattle.std.proofs.Math.ListN.{get_or-append}
use Rattle.std.proofs.lemmas.Bool.{lt-leb}
use Rattle.std.proofs.Math.Decide.{dec_lt}
use Rattle.eon_spec.specs.Base.{within}
use Rattle.eon_spec.specs.Tree.{Slice, TokenTree, TokenValue, TokenTrees, tree, identifier, number, quoted_string, list_of, map_of, variant_of, no_trees, ◌∷ᵗ◌}
use Rattle.eon_spec.specs.Calls.{record_text}
use Rattle.eon_spec.specs.Lookup.{Key, Path, both, keys_of, keep_if, path_in, path_of, paths_of, path_list_in, path_list}
use Rattle.eon_table.specs.Words.{word, record_of, part, more_at}
use Rattle.eon_table.proofs.Parts.{text_some}
use Rattle.eon_laws.proofs.Facts.{clash}
use Rattle.eon_table.specs.TreeAt.{kind_of, value_of, TreeAt, InsideAt, NextAt, SomeTree}
use Rattle.eon_table.proofs.Here.{Item, item, no_item}
use Rattle.eon_lookup.specs.declared.paths.Place.{Place}
use Rattle.eon_lookup.specs.declared.paths.Keys.{Keys}
use Rattle.eon_lookup.specs.Keys.{key_kind, below, no_place, no_keys, many, key_text, keys_from, whole, wholes, rest_at, rests, GoesOn, Going}
use Rattle.eon_lookup.proofs.Lists.{in_below, all_below}

-- ---- items of a list, one after the other

abbrev pub prepend : {A : Type 0} → List A → Option (List A) → Option (List A)
prepend front None = None
prepend front (Some l) = Some (front ++ l)

module _ {A : Type 0} (fs : TokenTrees → Option (List A)) (s tb : List ℕ) (end : ℕ) (vs : TokenTrees) (cl : List Slice) where
  -- `front` was read before record j
  pub record Listed (j : ℕ) (front : List A) : Type 0 where
    pub left : TokenTrees
    pub inside : InsideAt s tb end j left cl
    pub so : fs vs ≡ prepend front (fs left)

  pub listed_start : (j : ℕ) → InsideAt s tb end j vs cl → Listed j []
  listed_start j h = record { left = vs; inside = h; so = same (fs vs) }
    where
      same : (o : Option (List A)) → o ≡ prepend [] o
      same None = refl
      same (Some l) = refl

module _ {A : Type 0} {fs : TokenTrees → Option (List A)} {s tb : List ℕ} {end : ℕ} {vs : TokenTrees} {cl : List Slice} {j : ℕ} {front : List A} (t : Listed fs s tb end vs cl j front) where
  pub listed_all : false ≡ more_at tb end j → fs no_trees ≡ Some [] → fs vs ≡ Some front
  listed_all m empty = t.so ∙ ap (prepend front) (ap fs (no_item t.inside (sym m)) ∙ empty) ∙ ap Some (append-nil front)

  module _ (m : true ≡ more_at tb end j) where
    abbrev e : Item s tb end j t.left cl
    e = item t.inside (sym m)

    pub listed_tree : SomeTree s tb end j
    listed_tree = (e.first, e.here.at)

    module _ (f : TokenTree → Option A) (first : (t : TokenTree) (ts : TokenTrees) → fs (t ∷ᵗ ts) ≡ both (λ x l. x ∷ l) (f t) (fs ts)) where
      so_far : fs vs ≡ prepend front (both (λ x l. x ∷ l) (f e.first) (fs e.rest))
      so_far = t.so ∙ ap (prepend front) (ap fs e.is ∙ first e.first e.rest)

      pub listed_next : (r : ℕ) → NextAt tb end j r → (a : A) → ((u : TokenTree) → TreeAt s tb end j u → f u ≡ Some a) → Listed fs s tb end vs cl r (front ++ (a ∷ []))
      listed_next r n a h =
          record {
            left = e.rest;
            inside = e.onward r n;
            so = so_far ∙ ap (λ (o : Option A). prepend front (both (λ x l. x ∷ l) o (fs e.rest))) (h e.first e.here.at) ∙ move (fs e.rest);
          }
        where
          move : (o : Option (List A)) → prepend front (both (λ x l. x ∷ l) (Some a) o) ≡ prepend (front ++ (a ∷ [])) o
          move None = refl
          move (Some l) = ap Some (sym (append_assoc front (a ∷ []) l))

      pub listed_bad : ((u : TokenTree) → TreeAt s tb end j u → f u ≡ None) → fs vs ≡ None
      listed_bad h = so_far ∙ ap (λ (o : Option A). prepend front (both (λ x l. x ∷ l) o (fs e.rest))) (h e.first e.here.at)

      pub listed_long : (test : List A → Bool) → ((l : List A) → length front < length l → test l ≡ false) → keep_if test (fs vs) ≡ None
      listed_long test h = ap (keep_if test) so_far ∙ go (f e.first) (fs e.rest)
        where
          go : (x : Option A) (y : Option (List A)) → keep_if test (prepend front (both (λ x l. x ∷ l) x y)) ≡ None
          go None y = refl
          go (Some a) None = refl
          go (Some a) (Some l) =
              let z : length (front ++ (a ∷ l)) ≡ length front + length (a ∷ l) = length-append front (a ∷ l) in
              ap (λ (b : Bool). cond b (Some (front ++ (a ∷ l))) None) (h (front ++ (a ∷ l)) (omega arith))

-- ---- stored keys

-- the text of a key
pub key_part : (q tq : List ℕ) (k : ℕ) → key_kind (word tq k 0) ≡ true → record_text q (record_of tq k) ≡ part q (word tq k 1) (word tq k 2)
key_part q tq k e = sym (text_some q (record_of tq k) (λ z. clash e (ap key_kind z)) (λ z. clash e (ap key_kind z)))

module _ (q : List ℕ) where
  pub keys_length : (l : List Place) (n d : ℕ) → length (keys_from q l d n) ≡ n
  unfolding keys_from
  keys_length l zero d = refl
  keys_length l (suc n) d = ap suc (keys_length l n (d + 1))

  -- the same places give the same keys
  keys_same : (l l' : List Place) (n d : ℕ) → ((x : ℕ) → d ≤ x → x < d + n → get_or l' x no_place ≡ get_or l x no_place) → keys_from q l' d n ≡ keys_from q l d n
  unfolding keys_from
  keys_same l l' zero d h = refl
  keys_same l l' (suc n) d h =
      ap₂ (λ (k : Key) (r : Path). k ∷ r) (ap (λ (w : Place). part q w.start w.end) (h d (omega arith) (omega arith)))
      (keys_same l l' n (d + 1) (λ x a b. h x (omega arith) (omega arith)))

  keys_more : (l : List Place) (n d : ℕ) → keys_from q l d (suc n) ≡ keys_from q l d n ++ (key_text q l (d + n) ∷ [])
  unfolding keys_from
  keys_more l zero d = ap (λ (x : ℕ). key_text q l x ∷ []) (sym (add-zero d))
  keys_more l (suc n) d =
      let e : d + 1 + n ≡ d + suc n = omega arith in
      ap (λ (r : Path). key_text q l d ∷ r) (keys_more l n (d + 1) ∙ ap (λ (x : ℕ). keys_from q l (d + 1) n ++ (key_text q l x ∷ [])) e)

  -- one key more is stored
  pub key_put : (l : List Place) (n : ℕ) (w : Place) → n < length l → keys_from q (set l n w) 0 (n + 1) ≡ keys_from q l 0 n ++ (part q w.start w.end ∷ [])
  key_put l n w h =
      ap (keys_from q (set l n w) 0) (add-one n)
      ∙ keys_more (set l n w) n 0
      ∙ ap₂ (λ (r : Path) (v : Place). r ++ (part q v.start v.end ∷ [])) (keys_same l (set l n w) n 0 (λ x a b. get_or-set_other l n x w no_place (λ e. omega arith)))
      (ap (λ (x : ℕ). get_or (set l n w) x no_place) (zero-add n) ∙ get_or-set_same l n w no_place h)

  pub whole_none : (k : Keys) → k.len ≡ 0 → whole q k ≡ []
  unfolding keys_from
  whole_none k e = ap (keys_from q k.places 0) e

  pub whole_length : (k : Keys) → length (whole q k) ≡ k.len
  whole_length k = keys_length k.places k.len 0

pub path_other : (v : TokenValue) → (kind_of v ≡ 4 → ⊥) → path_in v ≡ None
path_other (identifier b) h = refl
path_other (number b) h = refl
path_other (quoted_string b) h = refl
path_other (list_of vs cl) h = absurd (h refl)
path_other (map_of kvs cl) h = refl
path_other (variant_of n vs cl) h = refl

pub path_done : (vs : TokenTrees) (cl : List Slice) (n : ℕ) (ks : Path) → keys_of vs ≡ Some ks → length ks ≡ n → 0 < n → n ≤ 8 → path_in (list_of vs cl) ≡ Some ks
path_done vs cl n ks e l g h =
    ap (keep_if (λ ks. within 1 8 (length ks))) e ∙ ap (λ (m : ℕ). cond (within 1 8 m) (Some ks) None) l
    ∙ ap₂ (λ (a b : Bool). cond (a && b) (Some ks) None) (le-leb 1 n (omega arith)) (le-leb n 8 h)

pub path_empty : (vs : TokenTrees) (cl : List Slice) (n : ℕ) (ks : Path) → keys_of vs ≡ Some ks → length ks ≡ n → n ≡ 0 → path_in (list_of vs cl) ≡ None
path_empty vs cl n ks e l h = ap (keep_if (λ ks. within 1 8 (length ks))) e ∙ ap (λ (m : ℕ). cond (within 1 8 m) (Some ks) None) (l ∙ h)

pub path_bad : (vs : TokenTrees) (cl : List Slice) → keys_of vs ≡ None → path_in (list_of vs cl) ≡ None
path_bad vs cl e = ap (keep_if (λ ks. within 1 8 (length ks))) e

pub nine_keys : (l : Path) → 8 < length l → within 1 8 (length l) ≡ false
nine_keys l h = ap (λ (b : Bool). leb 1 (length l) && b) (lt-leb (length l) 8 h) ∙ off (leb 1 (length l))
  where
    off : (b : Bool) → b && false ≡ false
    off true = refl
    off false = refl

-- ---- stored paths

pub path_of_lem : (t : TokenTree) → path_of t ≡ path_in (value_of t)
path_of_lem (tree sp p v x) = refl

pub list_of_lem : (t : TokenTree) → path_list t ≡ path_list_in (value_of t)
unfolding path_list
list_of_lem (tree sp p v x) = refl

pub list_other : (v : TokenValue) → (kind_of v ≡ 4 → ⊥) → path_list_in v ≡ None
list_other (identifier b) h = refl
list_other (number b) h = refl
list_other (quoted_string b) h = refl
list_other (list_of vs cl) h = absurd (h refl)
list_other (map_of kvs cl) h = refl
list_other (variant_of n vs cl) h = refl

pub list_done : (vs : TokenTrees) (cl : List Slice) (ps : List Path) → paths_of vs ≡ Some ps → length ps ≤ 128 → path_list_in (list_of vs cl) ≡ Some ps
list_done vs cl ps e h = ap (keep_if (λ ps. leb (length ps) 128)) e ∙ ap (λ (b : Bool). cond b (Some ps) None) (le-leb (length ps) 128 h)

pub list_bad : (vs : TokenTrees) (cl : List Slice) → paths_of vs ≡ None → path_list_in (list_of vs cl) ≡ None
list_bad vs cl e = ap (keep_if (λ ps. leb (length ps) 128)) e

-- ---- the paths, each behind no key

module _ (q : List ℕ) (paths : List Keys) where
  rests_below : (n : ℕ) → n ≤ length paths → rests q paths 0 (below n) ≡ wholes q (take n paths)
  rests_below zero h = refl
  rests_below (suc n) h =
      let z : many paths n - 0 ≡ many paths n = omega arith in
      map-append (rest_at q paths 0) (below n) (n ∷ [])
      ∙ ap₂ (λ (l : List Path) (r : Path). l ++ (r ∷ [])) (rests_below n (omega arith)) (ap (keys_from q (get_or paths n no_keys).places 0) z)
      ∙ sym (ap (wholes q) (take-suc paths n no_keys (omega arith)) ∙ map-append (whole q) (take n paths) (get_or paths n no_keys ∷ []))

  pub rests_all : rests q paths 0 (below (length paths)) ≡ wholes q paths
  rests_all = rests_below (length paths) (omega arith) ∙ ap (wholes q) (take_all (length paths) paths (omega arith))

-- a path more has keys
module _ (room : List Keys) (n : ℕ) (k : Keys) (h : n < length room) where
  pub put_last : take (n + 1) (set room n k) ≡ take n room ++ (k ∷ [])
  put_last = ap (λ (m : ℕ). take m (set room n k)) (add-one n) ∙ take-suc-set room n k h

  pub going_put : (few : length room ≡ 128) → Going (take n room) 0 (below n) → 0 < k.len → k.len ≤ 8 → Going (take (n + 1) (set room n k)) 0 (below (n + 1))
  going_put few g l z p m = subst (λ (ks : List Keys). GoesOn ks 0 p) (sym put_last) (go (dec_lt p n))
    where
      b : p < n + 1
      b = in_below (n + 1) p m

      long : length (take n room) ≡ n
      long = length-take-le n room (omega arith)

      all : length (take n room ++ (k ∷ [])) ≡ length (take n room) + length (k ∷ [])
      all = length-append (take n room) (k ∷ [])

      go : Dec (p < n) → GoesOn (take n room ++ (k ∷ [])) 0 p
      go (yes d) =
          let o : many (take n room ++ (k ∷ [])) p ≡ many (take n room) p = ap (λ (x : Keys). x.len) (get_or-append (take n room) (k ∷ []) no_keys p (omega (arith, long))) in
          let x = g p (all_below n p d) in
          record { small = x.small; there = omega (arith, long, all); more = omega (arith, o, x.more); few = omega (arith, o, x.few) }
      go (no d) =
          let x : p ≡ length (take n room) + 0 = omega (arith, b, long) in
          let o : many (take n room ++ (k ∷ [])) p ≡ k.len = ap (many (take n room ++ (k ∷ []))) x ∙ ap (λ (x : Keys). x.len) (get_or-append-add (take n room) (k ∷ []) 0 no_keys) in
          record { small = omega (arith, b); there = omega (arith, b, long, all); more = omega (arith, o); few = omega (arith, o) }
