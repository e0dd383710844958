-- Many names in one walk (document 02, L2): a list of paths, the values that they reach in an event, and the steps.
use Rattle.std.specs.Prelude.{ℕ, suc, ◌+◌, ◌-◌, ◌≡◌, Bool, true, false, cond, List, [], ◌∷◌, ◌++◌, length, replicate, leb, Option, None, Some}
use Rattle.eon_spec.specs.declared.Found.{Found}
use Rattle.eon_spec.specs.Base.{within, elem, eq_list}
use Rattle.eon_spec.specs.Tree.{TokenTree, TokenValue, TokenTrees, KeyValues, tree, identifier, number, quoted_string, list_of, map_of, variant_of, no_trees, ◌∷ᵗ◌, no_pairs, pair}
use Rattle.eon_spec.specs.Records.{tree_records}
use Rattle.eon_spec.specs.Calls.{Outcome, done, refused_with, then, or_refused, outcome_of, read_finished}

-- ---- paths

-- the most keys of a path, and the most paths of a list: "a list of 1 to 8 keys", "more than 128 paths"
abbrev pub keys_max : ℕ
keys_max = 8

abbrev pub paths_max : ℕ
paths_max = 128

-- a key, by its bytes, and the keys that lead from the root to a value
abbrev pub Key : Type 0
Key = List ℕ

abbrev pub Path : Type 0
Path = List Key

-- two that there are, joined
abbrev pub both : {A B C : Type 0} → (A → B → C) → Option A → Option B → Option C
both f None y = None
both f (Some a) None = None
both f (Some a) (Some b) = Some (f a b)

-- "identifiers or strings compared byte by byte": the bytes of the text, a string's with its quotes; "other kinds match none"
abbrev pub key_in : TokenValue → Option Key
key_in (identifier b) = Some b
key_in (number b) = None
key_in (quoted_string b) = Some b
key_in (list_of vs cl) = None
key_in (map_of kvs cl) = None
key_in (variant_of n vs cl) = None

-- "comments in it are ignored": a tree is the key that its value is, and so of paths
abbrev pub key_of : TokenTree → Option Key
key_of (tree s p v x) = key_in v

abbrev pub keys_of : TokenTrees → Option Path
keys_of no_trees = Some []
keys_of (t ∷ᵗ ts) = both ◌∷◌ (key_of t) (keys_of ts)

-- what there is, if it passes
abbrev pub keep_if : {A : Type 0} → (A → Bool) → Option A → Option A
keep_if test None = None
keep_if test (Some a) = cond (test a) (Some a) None

-- "a list of 1 to 8 keys, identifiers or strings"
abbrev pub path_in : TokenValue → Option Path
path_in (identifier b) = None
path_in (number b) = None
path_in (quoted_string b) = None
path_in (list_of vs cl) = keep_if (λ ks. within 1 keys_max (length ks)) (keys_of vs)
path_in (map_of kvs cl) = None
path_in (variant_of n vs cl) = None

abbrev pub path_of : TokenTree → Option Path
path_of (tree s p v x) = path_in v

abbrev pub paths_of : TokenTrees → Option (List Path)
paths_of no_trees = Some []
paths_of (t ∷ᵗ ts) = both ◌∷◌ (path_of t) (paths_of ts)

-- "a list of paths"; "more than 128 paths" are none
abbrev pub path_list_in : TokenValue → Option (List Path)
path_list_in (identifier b) = None
path_list_in (number b) = None
path_list_in (quoted_string b) = None
path_list_in (list_of vs cl) = keep_if (λ ps. leb (length ps) paths_max) (paths_of vs)
path_list_in (map_of kvs cl) = None
path_list_in (variant_of n vs cl) = None

unfoldable pub path_list : TokenTree → Option (List Path)
path_list (tree s p v x) = path_list_in v

-- ---- the values that a path reaches

-- a key of a path is that of a pair
abbrev pub is_key : Key → Option Key → Bool
is_key k None = false
is_key k (Some b) = eq_list k b

-- how many records a tree has
abbrev pub count : TokenTree → ℕ
count t = length (tree_records t)

-- the value itself, which a path without keys reaches; n is the number of its record
abbrev pub only : ℕ → Path → List ℕ
only n [] = n ∷ []
only n (k ∷ ks) = []

-- the numbers of the values that a path reaches from a tree whose first record is number n, in table order: "A path goes through maps
-- from the root"
unfoldable mutual
  pub reached : ℕ → TokenTree → Path → List ℕ
  reached n (tree s p v x) ks = reached_at (n + length p) v ks

  -- n is the number of the value's own record
  pub reached_at : ℕ → TokenValue → Path → List ℕ
  reached_at n (identifier b) ks = only n ks
  reached_at n (number b) ks = only n ks
  reached_at n (quoted_string b) ks = only n ks
  reached_at n (list_of vs cl) ks = only n ks
  reached_at n (map_of kvs cl) [] = n ∷ []
  reached_at n (map_of kvs cl) (k ∷ ks) = reached_in (suc n) kvs k ks
  reached_at n (variant_of name vs cl) ks = only n ks

  -- through every pair whose key is this one; n is the number of the first pair's first record
  pub reached_in : ℕ → KeyValues → Key → Path → List ℕ
  reached_in n no_pairs k ks = []
  reached_in n (pair key v kvs) k ks =
      elim (is_key k (key_of key)) [ true ↦ reached (n + count key) v ks | false ↦ [] ] ++ reached_in (n + count key + count v) kvs k ks

-- ---- the steps

-- the paths that go on behind a key, without it
abbrev pub onward : Option Key → List Path → List Path
onward key [] = []
onward key ([] ∷ ps) = onward key ps
onward key ((k ∷ ks) ∷ ps) = cond (is_key k key) (ks ∷ onward key ps) (onward key ps)

-- a proper front of some path leads here: one has a key left
abbrev pub some_left : List Path → Bool
some_left [] = false
some_left ([] ∷ ps) = some_left ps
some_left ((k ∷ ks) ∷ ps) = true

-- "the root and, in each map that a proper front of some path reaches, every key and value, each once"; `ps` are the paths that lead
-- here, each without the keys that did
unfoldable mutual
  pub steps : List Path → TokenTree → ℕ
  steps ps (tree s p v x) = suc (steps_at ps v)

  -- inside a value
  pub steps_at : List Path → TokenValue → ℕ
  steps_at ps (identifier b) = 0
  steps_at ps (number b) = 0
  steps_at ps (quoted_string b) = 0
  steps_at ps (list_of vs cl) = 0
  steps_at ps (map_of kvs cl) = elim (some_left ps) [ true ↦ steps_in ps kvs | false ↦ 0 ]
  steps_at ps (variant_of n vs cl) = 0

  -- the key, the value with what is inside it, and the pairs behind
  pub steps_in : List Path → KeyValues → ℕ
  steps_in ps no_pairs = 0
  steps_in ps (pair k v kvs) = suc (steps (onward (key_of k) ps) v + steps_in ps kvs)

-- ---- the call

-- what a lookup finds: the steps, and for each of the 128 answers every value that its path reaches
pub record Looked : Type 0 where
  pub steps : ℕ
  pub reached : List (List ℕ)

abbrev pub reached_by_each : TokenTree → List Path → List (List ℕ)
reached_by_each t [] = []
reached_by_each t (p ∷ ps) = reached 0 t p ∷ reached_by_each t ps

-- "One table of 128 answers": behind the last path none is reached
unfoldable pub looked : TokenTree → List Path → Looked
looked t ps = record { steps = steps ps t; reached = reached_by_each t ps ++ replicate (paths_max - length ps) [] }

-- "The event text's refusals up to 15 come first, then the path text's up to 15, then 28 for a path list of another form or of more than 128
-- paths"
unfoldable pub lookup_call : List ℕ → List ℕ → List ℕ → List ℕ → Outcome Looked
lookup_call s sTable q qTable =
    then (read_finished s sTable) λ t.
    then (read_finished q qTable) λ u.
    then (or_refused 28 (path_list u)) λ ps.
    done (looked t ps)

-- ---- what the call hands back

-- "The answer counts the steps"
abbrev pub steps_of : Outcome Looked → Outcome ℕ
steps_of o = then o λ l. done l.steps

-- the 128 entries; "all 'none' at the start", and so beside a refusal
abbrev pub entries_of : Outcome Looked → List (List ℕ)
entries_of (done l) = l.reached
entries_of (refused_with r) = replicate paths_max []

-- the word of 'none', which is no record's number
abbrev pub none_word : ℕ
none_word = 4294967295

-- "the number of some value reached by it. The answer holds 'none' exactly if no such value exists": which one is left free
abbrev pub SomeOf : List ℕ → ℕ → Type 0
SomeOf [] w = w ≡ none_word
SomeOf (n ∷ ns) w = elem w (n ∷ ns) ≡ true

-- so for each entry
abbrev pub SomeOfEach : List (List ℕ) → List ℕ → Type 0
SomeOfEach [] [] = Unit {0}
SomeOfEach [] (w ∷ ws) = ⊥
SomeOfEach (e ∷ es) [] = ⊥
SomeOfEach (e ∷ es) (w ∷ ws) = SomeOf e w × SomeOfEach es ws

-- what the call promises: its answer is an equation, its 128 words are free where a path reaches several values
pub record IsLookup (o : Outcome Looked) (f : Found) : Type 0 where
  pub counts : outcome_of f.answer ≡ steps_of o
  pub finds : SomeOfEach (entries_of o) f.answers
