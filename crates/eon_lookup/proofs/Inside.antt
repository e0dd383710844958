-- "each map that a proper front of some path reaches": what Steps calls inside a front is a key or a value of a map among the values that the
-- front reaches, which are those of `reached`.
use Rattle.std.proofs.Common.{◌≡◌, refl, ◌∙◌, ap, ap₂, Bool, true, false, ◌&&◌, ◌||◌, List, [], ◌∷◌, ◌++◌, map, ℕ, suc, ◌+◌, length}
use Rattle.std.proofs.Math.Bool.{or-false}
use Rattle.std.specs.List.{list_any}
use Rattle.std.proofs.lemmas.List.{map-append}
use Rattle.std.proofs.lemmas.List.Folds.{list_any-append}
use Rattle.eon_spec.specs.Tree.{TokenTree, TokenValue, KeyValues, tree, identifier, number, quoted_string, list_of, map_of, variant_of, no_pairs, pair}
use Rattle.eon_spec.specs.Lookup.{Key, Path, key_of, is_key, count, only, reached, reached_at, reached_in}
use Rattle.eon_lookup.proofs.Steps.{is_member, inside, inside_at, inside_in}

-- a value, with the number of its record
abbrev pub Numbered : Type 0
Numbered = ℕ × TokenValue

abbrev alone : ℕ → TokenValue → Path → List Numbered
alone n v [] = (n, v) ∷ []
alone n v (k ∷ ks) = []

-- the values that a path reaches, with their numbers
unfoldable mutual
  pub values : ℕ → TokenTree → Path → List Numbered
  values n (tree s p v x) ks = values_at (n + length p) v ks

  pub values_at : ℕ → TokenValue → Path → List Numbered
  values_at n (identifier b) ks = alone n (identifier b) ks
  values_at n (number b) ks = alone n (number b) ks
  values_at n (quoted_string b) ks = alone n (quoted_string b) ks
  values_at n (list_of vs cl) ks = alone n (list_of vs cl) ks
  values_at n (map_of kvs cl) [] = (n, map_of kvs cl) ∷ []
  values_at n (map_of kvs cl) (k ∷ ks) = values_in (suc n) kvs k ks
  values_at n (variant_of name vs cl) ks = alone n (variant_of name vs cl) ks

  pub values_in : ℕ → KeyValues → Key → Path → List Numbered
  values_in n no_pairs k ks = []
  values_in n (pair key v kvs) k ks = elim (is_key k (key_of key)) [ true ↦ values (n + count key) v ks | false ↦ [] ] ++ values_in (n + count key + count v) kvs k ks

-- ---- their numbers are those reached

abbrev pub numbers_of : List Numbered → List ℕ
numbers_of = map (λ v. v.0)

numbers_if : (b : Bool) (vs : List Numbered) → numbers_of (elim b [ true ↦ vs | false ↦ [] ]) ≡ elim b [ true ↦ numbers_of vs | false ↦ [] ]
numbers_if true vs = refl
numbers_if false vs = refl

numbers_alone : (n : ℕ) (v : TokenValue) (ks : Path) → numbers_of (alone n v ks) ≡ only n ks
numbers_alone n v [] = refl
numbers_alone n v (k ∷ ks) = refl

mutual
  unfolding values reached

  pub values_reached : (t : TokenTree) (n : ℕ) (ks : Path) → numbers_of (values n t ks) ≡ reached n t ks
  values_reached (tree s p v x) n ks = values_at_lem v (n + length p) ks

  values_at_lem : (v : TokenValue) (n : ℕ) (ks : Path) → numbers_of (values_at n v ks) ≡ reached_at n v ks
  values_at_lem (identifier b) n ks = numbers_alone n (identifier b) ks
  values_at_lem (number b) n ks = numbers_alone n (number b) ks
  values_at_lem (quoted_string b) n ks = numbers_alone n (quoted_string b) ks
  values_at_lem (list_of vs cl) n ks = numbers_alone n (list_of vs cl) ks
  values_at_lem (map_of kvs cl) n [] = refl
  values_at_lem (map_of kvs cl) n (k ∷ ks) = values_in_lem kvs (suc n) k ks
  values_at_lem (variant_of name vs cl) n ks = numbers_alone n (variant_of name vs cl) ks

  values_in_lem : (kvs : KeyValues) (n : ℕ) (k : Key) (ks : Path) → numbers_of (values_in n kvs k ks) ≡ reached_in n kvs k ks
  values_in_lem no_pairs n k ks = refl
  values_in_lem (pair key v kvs) n k ks =
      map-append (λ v. v.0) (elim (is_key k (key_of key)) [ true ↦ values (n + count key) v ks | false ↦ [] ]) (values_in (n + count key + count v) kvs k ks)
      ∙ ap₂ ◌++◌
      (numbers_if (is_key k (key_of key)) (values (n + count key) v ks) ∙ ap (λ (l : List ℕ). elim (is_key k (key_of key)) [ true ↦ l | false ↦ [] ]) (values_reached v (n + count key) ks))
      (values_in_lem kvs (n + count key + count v) k ks)

-- ---- what is inside is a member of one that is a map

abbrev pub member_of : ℕ → ℕ → TokenValue → Bool
member_of j n (identifier b) = false
member_of j n (number b) = false
member_of j n (quoted_string b) = false
member_of j n (list_of vs cl) = false
member_of j n (map_of kvs cl) = is_member j (suc n) kvs
member_of j n (variant_of name vs cl) = false

abbrev pub member_of_some : ℕ → List Numbered → Bool
member_of_some j = list_any (λ v. member_of j v.0 v.1)

some_if : (j : ℕ) (b : Bool) (vs : List Numbered) → member_of_some j (elim b [ true ↦ vs | false ↦ [] ]) ≡ b && member_of_some j vs
some_if j true vs = refl
some_if j false vs = refl

some_alone : (j n : ℕ) (v : TokenValue) (f : Path) → member_of j n v ≡ false → member_of_some j (alone n v f) ≡ false
some_alone j n v [] e = ap (λ (x : Bool). x || false) e
some_alone j n v (k ∷ f) e = refl

mutual
  unfolding values inside

  pub inside_reached : (t : TokenTree) (j n : ℕ) (f : Path) → member_of_some j (values n t f) ≡ inside j n t f
  inside_reached (tree s p v x) j n f = inside_at_lem v j (n + length p) f

  inside_at_lem : (v : TokenValue) (j n : ℕ) (f : Path) → member_of_some j (values_at n v f) ≡ inside_at j n v f
  inside_at_lem (identifier b) j n f = some_alone j n (identifier b) f refl
  inside_at_lem (number b) j n f = some_alone j n (number b) f refl
  inside_at_lem (quoted_string b) j n f = some_alone j n (quoted_string b) f refl
  inside_at_lem (list_of vs cl) j n f = some_alone j n (list_of vs cl) f refl
  inside_at_lem (map_of kvs cl) j n [] = or-false (is_member j (suc n) kvs)
  inside_at_lem (map_of kvs cl) j n (k ∷ f) = inside_in_lem kvs j (suc n) k f
  inside_at_lem (variant_of name vs cl) j n f = some_alone j n (variant_of name vs cl) f refl

  inside_in_lem : (kvs : KeyValues) (j n : ℕ) (k : Key) (f : Path) → member_of_some j (values_in n kvs k f) ≡ inside_in j n kvs k f
  inside_in_lem no_pairs j n k f = refl
  inside_in_lem (pair key v kvs) j n k f =
      list_any-append (λ v. member_of j v.0 v.1) (elim (is_key k (key_of key)) [ true ↦ values (n + count key) v f | false ↦ [] ]) (values_in (n + count key + count v) kvs k f)
      ∙ ap₂ ◌||◌
      (some_if j (is_key k (key_of key)) (values (n + count key) v f) ∙ ap (λ (x : Bool). is_key k (key_of key) && x) (inside_reached v j (n + count key) f))
      (inside_in_lem kvs j (n + count key + count v) k f)
