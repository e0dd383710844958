-- The walk's answers: of each path the first value that it reaches.
use Rattle.std.specs.Prelude.{ℕ, ◌+◌, ◌≡◌, Bool, ◌&&◌, not, cond, List, [], ◌∷◌, length, get_or, set, ltb, eqb, Option, None, Some}
use Rattle.std.specs.List.{filter}
use Rattle.std.specs.Option.{option_or}
use Rattle.eon_spec.specs.Base.{elem}
use Rattle.eon_spec.specs.Tree.{TokenTree, KeyValues}
use Rattle.eon_spec.specs.Lookup.{paths_max, none_word, Key, Path, is_key, reached_in, steps_in, steps, reached}
use Rattle.eon_lookup.specs.declared.paths.Keys.{Keys}
use Rattle.eon_lookup.specs.Keys.{many, key_at, rest_at, rests}

-- the first of the values reached, in table order
abbrev pub first_some : List ℕ → Option ℕ
first_some [] = None
first_some (n ∷ ns) = Some n

-- the answer that a word is
abbrev pub answer_of : ℕ → Option ℕ
answer_of w = cond (eqb w none_word) None (Some w)

-- path p is answered by record w, unless it has an answer
abbrev pub answered : List ℕ → ℕ → ℕ → List ℕ
answered answers p w = cond (eqb (get_or answers p 0) none_word) (set answers p w) answers

-- each path keeps what it had, or else has what `new` gives it
pub record Gains (new : ℕ → Option ℕ) (old answers : List ℕ) : Type 0 where
  pub has : (p : ℕ) → answer_of (get_or answers p 0) ≡ option_or (answer_of (get_or old p 0)) (new p)

-- only the paths of a list
abbrev pub among : List ℕ → (ℕ → Option ℕ) → ℕ → Option ℕ
among ps f p = cond (elem p ps) (f p) None

-- the first value that a path, which has a key, reaches in a map's pairs
abbrev pub first_in : ℕ → KeyValues → Path → Option ℕ
first_in n kvs [] = None
first_in n kvs (k ∷ ks) = first_some (reached_in n kvs k ks)

module _ (q : List ℕ) (paths : List Keys) (d : ℕ) (key : Option Key) where
  -- path p has this key behind d others
  abbrev pub matches : ℕ → Bool
  matches p = is_key (key_at q paths p d) key

  -- and ends with it, or goes on
  abbrev pub ends_at : ℕ → ℕ → Option ℕ
  ends_at w p = cond (matches p && not (ltb (d + 1) (many paths p))) (Some w) None

  abbrev pub goes_on : ℕ → Bool
  goes_on p = matches p && ltb (d + 1) (many paths p)

  -- behind a key: the paths that end have record w for their answer, and `on` are the others in their order
  pub record KeyMatched (live : List ℕ) (w : ℕ) (old answers on : List ℕ) : Type 0 where
    pub size : length answers ≡ paths_max
    pub list : on ≡ filter goes_on live
    pub gains : Gains (among live (ends_at w)) old answers

-- what a walk through a map's pairs, the first at record n, gives the paths of a list behind d keys
pub record Walked (q : List ℕ) (paths : List Keys) (d : ℕ) (live : List ℕ) (n : ℕ) (kvs : KeyValues) (old answers : List ℕ) (r : ℕ) : Type 0 where
  pub steps : r ≡ steps_in (rests q paths d live) kvs
  pub size : length answers ≡ paths_max
  pub gains : Gains (among live (λ p. first_in n kvs (rest_at q paths d p))) old answers

-- what the walk of a whole tree gives the paths of a list behind d keys
pub record Looks (q : List ℕ) (paths : List Keys) (d : ℕ) (live : List ℕ) (t : TokenTree) (old answers : List ℕ) (r : ℕ) : Type 0 where
  pub steps : r ≡ steps (rests q paths d live) t
  pub size : length answers ≡ paths_max
  pub gains : Gains (among live (λ p. first_some (reached 0 t (rest_at q paths d p)))) old answers
