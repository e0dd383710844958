-- The values that a path reaches: records of the table in its order, each a value's and no comment's.
use Rattle.std.proofs.Common.{◌≡◌, refl, sym, ◌∙◌, ap, Bool, true, false, ◌&&◌, ◌||◌, List, [], ◌∷◌, ◌++◌, ℕ, suc, ◌+◌, ◌≤◌, ◌<◌, arith, length, length-append, eqb, leb, ⊎_elim}
use Rattle.std.proofs.lemmas.Bool.{or_cases}
use Rattle.eon_spec.specs.Base.{elem}
use Rattle.eon_spec.specs.Tree.{Span, TokenTree, TokenValue, KeyValues, tree, identifier, number, quoted_string, list_of, map_of, variant_of, no_pairs, pair}
use Rattle.eon_spec.specs.Records.{Record, comments, suffix, tree_records, value_records, pairs_records}
use Rattle.eon_spec.specs.Lookup.{Key, Path, key_of, is_key, count, only, reached, reached_at, reached_in}
use Rattle.eon_laws.proofs.Facts.{clash, or_right, eq_of, eqb_same, elem_append}
use Rattle.eon_laws.proofs.Records.{comments_length, tree_size, value_size, pairs_size, tree_size_lem}

-- ---- in table order

-- numbers from `lo` up to `hi`, each greater than the one before
abbrev pub Rising : ℕ → ℕ → List ℕ → Type 0
Rising lo hi [] = lo ≤ hi
Rising lo hi (n ∷ ns) = (lo ≤ n) × (n < hi) × Rising (suc n) hi ns

rising_le : (lo hi : ℕ) (ns : List ℕ) → Rising lo hi ns → lo ≤ hi
rising_le lo hi [] h = h
rising_le lo hi (n ∷ ns) h = omega (arith, h.0, h.1)

pub rising_wider : (lo hi to : ℕ) (ns : List ℕ) → hi ≤ to → Rising lo hi ns → Rising lo to ns
rising_wider lo hi to [] b h = omega arith
rising_wider lo hi to (n ∷ ns) b h = (h.0, omega (arith, h.1), rising_wider (suc n) hi to ns b h.2)

pub rising_down : (from lo hi : ℕ) (ns : List ℕ) → from ≤ lo → Rising lo hi ns → Rising from hi ns
rising_down from lo hi [] b h = omega arith
rising_down from lo hi (n ∷ ns) b h = (omega (arith, h.0), h.1, h.2)

pub rising_append : (lo mid hi : ℕ) (ns ms : List ℕ) → Rising lo mid ns → Rising mid hi ms → Rising lo hi (ns ++ ms)
rising_append lo mid hi [] ms h g = rising_down lo mid hi ms h g
rising_append lo mid hi (n ∷ ns) ms h g = (h.0, omega (arith, h.1, rising_le mid hi ms g), rising_append (suc n) mid hi ns ms h.2 g)

rising_only : (n hi : ℕ) (ks : Path) → n < hi → Rising n hi (only n ks)
rising_only n hi [] h = (omega arith, h, h)
rising_only n hi (k ∷ ks) h = omega arith

pub rising_if : (b : Bool) (lo hi : ℕ) (ns : List ℕ) → Rising lo hi ns → Rising lo hi (elim b [ true ↦ ns | false ↦ [] ])
rising_if true lo hi ns h = h
rising_if false lo hi ns h = rising_le lo hi ns h

mutual
  unfolding reached tree_size

  tree_rising : (t : TokenTree) (n : ℕ) (ks : Path) → Rising n (n + tree_size t) (reached n t ks)
  tree_rising (tree s p v x) n ks =
      rising_down n (n + length p) (n + tree_size (tree s p v x)) (reached_at (n + length p) v ks) (omega arith)
      (rising_wider (n + length p) (n + length p + value_size v) (n + tree_size (tree s p v x)) (reached_at (n + length p) v ks) (omega arith) (value_rising v (n + length p) ks))

  value_rising : (v : TokenValue) (n : ℕ) (ks : Path) → Rising n (n + value_size v) (reached_at n v ks)
  value_rising (identifier b) n ks = rising_only n (n + 1) ks (omega arith)
  value_rising (number b) n ks = rising_only n (n + 1) ks (omega arith)
  value_rising (quoted_string b) n ks = rising_only n (n + 1) ks (omega arith)
  value_rising (list_of vs cl) n ks = rising_only n (n + value_size (list_of vs cl)) ks (omega arith)
  value_rising (map_of kvs cl) n [] = (omega arith, omega arith, omega arith)
  value_rising (map_of kvs cl) n (k ∷ ks) =
      rising_down n (suc n) (n + value_size (map_of kvs cl)) (reached_in (suc n) kvs k ks) (omega arith)
      (rising_wider (suc n) (suc n + pairs_size kvs) (n + value_size (map_of kvs cl)) (reached_in (suc n) kvs k ks) (omega arith) (pairs_rising kvs (suc n) k ks))
  value_rising (variant_of name vs cl) n ks = rising_only n (n + value_size (variant_of name vs cl)) ks (omega arith)

  pairs_rising : (kvs : KeyValues) (n : ℕ) (k : Key) (ks : Path) → Rising n (n + pairs_size kvs) (reached_in n kvs k ks)
  pairs_rising no_pairs n k ks = omega arith
  pairs_rising (pair key v kvs) n k ks =
      let a : count key ≡ tree_size key = tree_size_lem key in
      let b : count v ≡ tree_size v = tree_size_lem v in
      let found : List ℕ = reached (n + count key) v ks in
      let h : Rising (n + count key) (n + count key + count v) found = rising_wider (n + count key) (n + count key + tree_size v) (n + count key + count v) found (omega arith) (tree_rising v (n + count key) ks) in
      rising_append n (n + count key + count v) (n + pairs_size (pair key v kvs)) (elim (is_key k (key_of key)) [ true ↦ found | false ↦ [] ]) (reached_in (n + count key + count v) kvs k ks)
      (rising_if (is_key k (key_of key)) n (n + count key + count v) found (rising_down n (n + count key) (n + count key + count v) found (omega arith) h))
      (rising_wider (n + count key + count v) (n + count key + count v + pairs_size kvs) (n + pairs_size (pair key v kvs)) (reached_in (n + count key + count v) kvs k ks) (omega arith) (pairs_rising kvs (n + count key + count v) k ks))

-- the values that a path reaches are records of the table, in its order
pub reached_rising : (t : TokenTree) (ks : Path) → Rising 0 (length (tree_records t)) (reached 0 t ks)
reached_rising t ks = rw (tree_size_lem t) (rising_wider 0 (0 + tree_size t) (tree_size t) (reached 0 t ks) (omega arith) (tree_rising t 0 ks))

-- ---- a value's record

-- number m is a value's record among these, of which the first is number n
abbrev pub is_value : ℕ → List Record → ℕ → Bool
is_value n [] m = false
is_value n (r ∷ rs) m = (eqb m n && leb r.kind 6) || is_value (suc n) rs m

-- each of these numbers passes
abbrev Each : (ℕ → Bool) → List ℕ → Type 0
Each f ns = (m : ℕ) → elem m ns ≡ true → f m ≡ true

each_append : (f : ℕ → Bool) (a b : List ℕ) → Each f a → Each f b → Each f (a ++ b)
each_append f a b h g m e = ⊎_elim (h m) (g m) (or_cases (elem m a) (elem m b) (sym (elem_append m a b) ∙ e))

each_if : (f : ℕ → Bool) (b : Bool) (ns : List ℕ) → Each f ns → Each f (elim b [ true ↦ ns | false ↦ [] ])
each_if f true ns h m e = h m e
each_if f false ns h m e = clash e refl

-- records behind, and records before
value_left : (n : ℕ) (a b : List Record) (m : ℕ) → is_value n a m ≡ true → is_value n (a ++ b) m ≡ true
value_left n [] b m e = clash e refl
value_left n (r ∷ a) b m e = go (eqb m n && leb r.kind 6) e (value_left (suc n) a b m)
  where
    go : (x : Bool) → x || is_value (suc n) a m ≡ true → (is_value (suc n) a m ≡ true → is_value (suc n) (a ++ b) m ≡ true) → x || is_value (suc n) (a ++ b) m ≡ true
    go true e rec = refl
    go false e rec = rec e

value_right : (n : ℕ) (a b : List Record) (m : ℕ) → is_value (n + length a) b m ≡ true → is_value n (a ++ b) m ≡ true
value_right n [] b m e = let z : n + 0 ≡ n = omega arith in rw z at e
value_right n (r ∷ a) b m e =
    let z : n + suc (length a) ≡ suc n + length a = omega arith in
    or_right (eqb m n && leb r.kind 6) (is_value (suc n) (a ++ b) m) (value_right (suc n) a b m (rw z at e))

-- a value's own record
own_value : (s : Span) (v : TokenValue) (n : ℕ) → is_value n (value_records s v) n ≡ true
unfolding tree_records
own_value s (identifier b) n = rw (eqb_same n)
own_value s (number b) n = rw (eqb_same n)
own_value s (quoted_string b) n = rw (eqb_same n)
own_value s (list_of vs cl) n = rw (eqb_same n)
own_value s (map_of kvs cl) n = rw (eqb_same n)
own_value s (variant_of name vs cl) n = rw (eqb_same n)

only_value : (s : Span) (v : TokenValue) (n : ℕ) (ks : Path) → Each (is_value n (value_records s v)) (only n ks)
only_value s v n [] m e = ⊎_elim (λ p. ap (is_value n (value_records s v)) (eq_of m n p) ∙ own_value s v n) (λ z. clash z refl) (or_cases (eqb m n) false e)
only_value s v n (k ∷ ks) m e = clash e refl

-- two trees in a row
two : (n : ℕ) (a b : TokenTree) → n + length (tree_records a ++ tree_records b) ≡ n + count a + count b
two n a b = let l = length-append (tree_records a) (tree_records b) in omega arith

mutual
  unfolding reached tree_records

  tree_values : (t : TokenTree) (n : ℕ) (ks : Path) → Each (is_value n (tree_records t)) (reached n t ks)
  tree_values (tree s p v x) n ks m e =
      value_left n (comments 7 p ++ value_records s v) (suffix x) m
      (value_right n (comments 7 p) (value_records s v) m (rw (sym (comments_length 7 p)) at (value_values v s (n + length p) ks m e)))

  value_values : (v : TokenValue) (s : Span) (n : ℕ) (ks : Path) → Each (is_value n (value_records s v)) (reached_at n v ks)
  value_values (identifier b) s n ks m e = only_value s (identifier b) n ks m e
  value_values (number b) s n ks m e = only_value s (number b) n ks m e
  value_values (quoted_string b) s n ks m e = only_value s (quoted_string b) n ks m e
  value_values (list_of vs cl) s n ks m e = only_value s (list_of vs cl) n ks m e
  value_values (map_of kvs cl) s n [] m e = only_value s (map_of kvs cl) n [] m e
  value_values (map_of kvs cl) s n (k ∷ ks) m e =
      or_right (eqb m n && true) (is_value (suc n) (pairs_records kvs ++ comments 9 cl) m) (value_left (suc n) (pairs_records kvs) (comments 9 cl) m (pairs_values kvs (suc n) k ks m e))
  value_values (variant_of name vs cl) s n ks m e = only_value s (variant_of name vs cl) n ks m e

  pairs_values : (kvs : KeyValues) (n : ℕ) (k : Key) (ks : Path) → Each (is_value n (pairs_records kvs)) (reached_in n kvs k ks)
  pairs_values no_pairs n k ks m e = clash e refl
  pairs_values (pair key v kvs) n k ks m e =
      each_append (is_value n (tree_records key ++ tree_records v ++ pairs_records kvs)) (elim (is_key k (key_of key)) [ true ↦ reached (n + count key) v ks | false ↦ [] ]) (reached_in (n + count key + count v) kvs k ks)
      (each_if _ (is_key k (key_of key)) (reached (n + count key) v ks)
      (λ i h. value_left n (tree_records key ++ tree_records v) (pairs_records kvs) i (value_right n (tree_records key) (tree_records v) i (tree_values v (n + count key) ks i h))))
      (λ i h. value_right n (tree_records key ++ tree_records v) (pairs_records kvs) i (rw (sym (two n key v)) at (pairs_values kvs (n + count key + count v) k ks i h)))
      m e

pub reached_value : (t : TokenTree) (ks : Path) (m : ℕ) → elem m (reached 0 t ks) ≡ true → is_value 0 (tree_records t) m ≡ true
reached_value t ks = tree_values t 0 ks
