-- The paths as the walk has them: where each key's text stands in the path text.
use Rattle.std.specs.Prelude.{ℕ, zero, suc, ◌+◌, ◌-◌, ◌≤◌, ◌<◌, ◌≡◌, Bool, true, ◌||◌, cond, List, [], ◌∷◌, ◌++◌, map, length, get_or, eqb, Option, None, Some}
use Rattle.std.specs.Borrow.{Bor}
use Rattle.eon_spec.specs.Base.{elem}
use Rattle.eon_spec.specs.Tree.{TokenTree, TokenValue}
use Rattle.eon_spec.specs.Calls.{record_text}
use Rattle.eon_spec.specs.RecordKind.{IDENTIFIER, STRING}
use Rattle.eon_spec.specs.Lookup.{keys_max, paths_max, Key, Path, path_in, path_list}
use Rattle.eon_table.specs.Words.{word, record_of, part}
use Rattle.eon_table.specs.TreeAt.{TreeAt, ValueAt}
use Rattle.eon_lookup.specs.declared.paths.Place.{Place}
use Rattle.eon_lookup.specs.declared.paths.Keys.{Keys}

-- the kinds of keys: identifiers and strings
abbrev pub key_kind : ℕ → Bool
key_kind k = eqb k IDENTIFIER || eqb k STRING

-- the key that record i is, if it is one
abbrev pub key_here : List ℕ → List ℕ → ℕ → Option Key
key_here s tb i = cond (key_kind (word tb i 0)) (Some (record_text s (record_of tb i))) None

-- the numbers below n
abbrev pub below : ℕ → List ℕ
below zero = []
below (suc n) = below n ++ (n ∷ [])

abbrev pub no_place : Place
no_place = record { start = 0; end = 0 }

abbrev pub no_keys : Keys
no_keys = record { places = []; len = 0 }

-- how many keys path p has
abbrev pub many : List Keys → ℕ → ℕ
many paths p = (get_or paths p no_keys).len

module _ (q : List ℕ) where
  -- the key that stands at place d
  abbrev pub key_text : List Place → ℕ → Key
  key_text l d = part q (get_or l d no_place).start (get_or l d no_place).end

  -- n keys, from place d on
  unfoldable pub keys_from : List Place → ℕ → ℕ → Path
  keys_from l d zero = []
  keys_from l d (suc n) = key_text l d ∷ keys_from l (d + 1) n

  -- all keys of a path
  abbrev pub whole : Keys → Path
  whole k = keys_from k.places 0 k.len

  abbrev pub wholes : List Keys → List Path
  wholes = map whole

  module _ (paths : List Keys) where
    -- key d of path p
    abbrev pub key_at : ℕ → ℕ → Key
    key_at p d = key_text (get_or paths p no_keys).places d

    -- what is left of path p behind d keys
    abbrev pub rest_at : ℕ → ℕ → Path
    rest_at d p = keys_from (get_or paths p no_keys).places d (many paths p - d)

    abbrev pub rests : ℕ → List ℕ → List Path
    rests d = map (rest_at d)

-- path p has a key behind d of them
pub record GoesOn (paths : List Keys) (d p : ℕ) : Type 0 where
  pub small : p < paths_max
  pub there : p < length paths
  pub more : d < many paths p
  pub few : many paths p ≤ keys_max

abbrev pub Going : List Keys → ℕ → List ℕ → Type 0
Going paths d ps = (p : ℕ) → elem p ps ≡ true → GoesOn paths d p

-- ---- the form of a path list

-- the path that was read
abbrev pub path_by : List ℕ → Option Keys → Option Path
path_by q None = None
path_by q (Some k) = Some (whole q k)

abbrev pub Sized : Option Keys → Type 0
Sized None = Unit {0}
Sized (Some k) = (0 < k.len) × (k.len ≤ keys_max)

-- the path that a value is
pub record IsPath (q tq : List ℕ) (i : ℕ) (r : Option Keys) : Type 0 where
  pub is : (v : TokenValue) → ValueAt q tq i v → path_in v ≡ path_by q r
  pub sized : Sized r

-- the paths that were read
abbrev pub paths_by : List ℕ → Option (Bor (List Keys)) → Option (List Path)
paths_by q None = None
paths_by q (Some ks) = Some (wholes q ks.now)

abbrev pub AllGo : Option (Bor (List Keys)) → Type 0
AllGo None = Unit {0}
AllGo (Some ks) = (length ks.now ≤ paths_max) × Going ks.now 0 (below (length ks.now))

-- the path list that a tree is
pub record IsPaths (q tq : List ℕ) (r : Option (Bor (List Keys))) : Type 0 where
  pub is : (end : ℕ) (u : TokenTree) → TreeAt q tq end 0 u → path_list u ≡ paths_by q r
  pub go : AllGo r
