-- The place picked: the byte is covered and no covered byte wins over it, so none is nearer and of those as near none is earlier; the record
-- holds it, and none behind it does.
use Rattle.std.proofs.Common.{Option, None, Some, ◌≡◌, refl, sym, ◌∙◌, ap, subst, Bool, true, false, ◌&&◌, cond, List, [], ◌∷◌, ◌++◌, ℕ, zero, suc, pred, ◌+◌, ◌-◌, min, max, ◌≤◌, ◌<◌, arith, ltb, leb, eqb, ⊎_elim, le_trans, lt_trans, le_of_lt, lt_of_lt_of_le, not-le_of_lt, le-leb, lt-ltb, eq-eqb}
use Rattle.std.specs.List.{list_any}
use Rattle.std.proofs.lemmas.Bool.{and_from, or_cases, or_from, true_from_ne_false}
use Rattle.eon_spec.specs.Records.{Record}
use Rattle.eon_laws.proofs.Facts.{clash, and_left, and_right, or_left, or_right, nor_left, nor_right, false_of, le_of, lt_of, eq_of, le_of_not}
use Rattle.eon_spec.specs.Pick.{holds_byte, distance, nearest_in, prefers, wins, nearer, nearest, or_this, highest, picked_by, picked}

-- some record holds the byte
abbrev pub covered : ℕ → List Record → Bool
covered b = list_any (holds_byte b)

-- ---- the order in which bytes win

-- the side that loses: how far behind the offset
abbrev side : ℕ → ℕ → ℕ
side o b = b - o

-- twice the distance, and one more on that side
abbrev rank : ℕ → ℕ → ℕ
rank o b = distance o b + distance o b + min 1 (side o b)

-- of two bytes at equal distance
preferred : (o b a : ℕ) → distance o b ≡ distance o a → prefers b a ≡ true → rank o b < rank o a
preferred o b a e f = omega (arith, lt_of b a f)

not_preferred : (o b a : ℕ) → distance o b ≡ distance o a → prefers b a ≡ false → rank o a ≤ rank o b
not_preferred o b a e f = omega (arith, le_of_not b a f)

wins_less : (o b a : ℕ) → wins o b a ≡ true → rank o b < rank o a
wins_less o b a e =
    let d : Bool = eqb (distance o b) (distance o a) in
    ⊎_elim (λ f. omega (arith, lt_of (distance o b) (distance o a) f))
    (λ f. preferred o b a (eq_of (distance o b) (distance o a) (and_left d (prefers b a) f)) (and_right d (prefers b a) f))
    (or_cases (ltb (distance o b) (distance o a)) (d && prefers b a) e)

apart : (m n : ℕ) → m ≤ n → (m ≡ n → ⊥) → m < n
apart m n h f = omega arith

farther : (m n x y : ℕ) → m < n → m + m + min 1 x ≤ n + n + min 1 y
farther m n x y h = omega arith

loses_more : (o b a : ℕ) → wins o b a ≡ false → rank o a ≤ rank o b
loses_more o b a e = go d refl (nor_right (ltb (distance o b) (distance o a)) (d && prefers b a) e) (le_of_not (distance o b) (distance o a) (nor_left (ltb (distance o b) (distance o a)) (d && prefers b a) e))
  where
    d : Bool
    d = eqb (distance o b) (distance o a)

    go : (x : Bool) → eqb (distance o b) (distance o a) ≡ x → x && prefers b a ≡ false → distance o a ≤ distance o b → rank o a ≤ rank o b
    go true q f p = not_preferred o b a (eq_of (distance o b) (distance o a) q) f
    go false q f p = farther (distance o a) (distance o b) (side o a) (side o b) (apart (distance o a) (distance o b) p λ z. clash (eq-eqb (distance o b) (distance o a) (sym z)) q)

more_loses : (o b a : ℕ) → rank o a ≤ rank o b → wins o b a ≡ false
more_loses o b a h = false_of (wins o b a) λ e. omega (arith, wins_less o b a e)

-- ---- the nearest byte

pub held : (b : ℕ) (r : Record) → holds_byte b r ≡ true → (r.start ≤ b) × (b < r.end)
held b r e = (le_of r.start b (and_left (leb r.start b) (ltb b r.end) e), lt_of b r.end (and_right (leb r.start b) (ltb b r.end) e))

pub holds_of : (b : ℕ) (r : Record) → r.start ≤ b → b < r.end → holds_byte b r ≡ true
holds_of b r g h = and_from (leb r.start b) (ltb b r.end) (le-leb r.start b g) (lt-ltb b r.end h)

rank_before : (o b : ℕ) → b < o → rank o b ≡ (o - b) + (o - b)
rank_before o b h = omega arith

rank_behind : (o b : ℕ) → o < b → rank o b ≡ suc ((b - o) + (b - o))
rank_behind o b h = omega arith

rank_here : (o n : ℕ) → rank o o ≤ n
rank_here o n = omega arith

-- of the bytes of a span none wins over the one taken
clamp_least : (o c a e : ℕ) → a ≤ c → c < e → rank o (max a (min o (pred e))) ≤ rank o c
clamp_least o c a e g h = go (ltb o a) (ltb o e) refl refl
  where
    go : (x y : Bool) → ltb o a ≡ x → ltb o e ≡ y → rank o (max a (min o (pred e))) ≤ rank o c
    go true y p q =
        let l = lt_of o a p in
        let k : max a (min o (pred e)) ≡ a = omega arith in
        rw (k, rank_behind o a l, rank_behind o c (omega arith)) (omega arith)
    go false true p q =
        let l = le_of_not o a p in
        let m = lt_of o e q in
        let k : max a (min o (pred e)) ≡ o = omega arith in
        rw k (rank_here o (rank o c))
    go false false p q =
        let l = le_of_not o e q in
        let k : max a (min o (pred e)) ≡ pred e = omega arith in
        rw (k, rank_before o (pred e) (omega arith), rank_before o c (omega arith)) (omega arith)

clamp_within : (o a e : ℕ) → a < e → (a ≤ max a (min o (pred e))) × (max a (min o (pred e)) < e)
clamp_within o a e h = (omega arith, omega arith)

nearest_in_lem : (o : ℕ) (r : Record) (b c : ℕ) → nearest_in o r ≡ Some b → holds_byte c r ≡ true → rank o b ≤ rank o c
nearest_in_lem o r b c e h = go (ltb r.start r.end) refl e (held c r h)
  where
    go : (x : Bool) → ltb r.start r.end ≡ x → nearest_in o r ≡ Some b → (r.start ≤ c) × (c < r.end) → rank o b ≤ rank o c
    go true p e h =
        let k : max r.start (min o (pred r.end)) ≡ b = let z : Some (max r.start (min o (pred r.end))) ≡ Some b = rw p at e in cc in
        rw (sym k) (clamp_least o c r.start r.end h.0 h.1)
    go false p e h = let z : ◌≡◌ {A = Option ℕ} None (Some b) = rw p at e in cc

nearest_held : (o : ℕ) (r : Record) (b : ℕ) → nearest_in o r ≡ Some b → holds_byte b r ≡ true
nearest_held o r b e = go (ltb r.start r.end) refl e
  where
    go : (x : Bool) → ltb r.start r.end ≡ x → nearest_in o r ≡ Some b → holds_byte b r ≡ true
    go true p e =
        let k : max r.start (min o (pred r.end)) ≡ b = let z : Some (max r.start (min o (pred r.end))) ≡ Some b = rw p at e in cc in
        let w = clamp_within o r.start r.end (lt_of r.start r.end p) in
        subst (λ (x : ℕ). holds_byte x r ≡ true) k (holds_of (max r.start (min o (pred r.end))) r w.0 w.1)
    go false p e = let z : ◌≡◌ {A = Option ℕ} None (Some b) = rw p at e in cc

nearest_empty : (o : ℕ) (r : Record) (c : ℕ) → nearest_in o r ≡ None → holds_byte c r ≡ false
nearest_empty o r c e = false_of (holds_byte c r) λ h. go (ltb r.start r.end) refl e (held c r h)
  where
    go : (x : Bool) → ltb r.start r.end ≡ x → nearest_in o r ≡ None → (r.start ≤ c) × (c < r.end) → ⊥
    go true p e h = let z : ◌≡◌ {A = Option ℕ} (Some (max r.start (min o (pred r.end)))) None = rw p at e in cc
    go false p e h = omega (arith, le_of_not r.start r.end p, h.0, h.1)

-- the byte b is covered, and no covered byte wins over it
pub record Nearest (o b : ℕ) (rs : List Record) : Type 0 where
  pub is_covered : covered b rs ≡ true
  pub none_wins : (c : ℕ) → covered c rs ≡ true → wins o c b ≡ false

-- what the definition finds: the nearest byte, or nothing where no byte is covered
abbrev pub Found : ℕ → List Record → Option ℕ → Type 0
Found o rs None = (c : ℕ) → covered c rs ≡ false
Found o rs (Some b) = Nearest o b rs

nearer_found : (o : ℕ) (r : Record) (rs : List Record) (x y : Option ℕ) → nearest_in o r ≡ x → Found o rs y → Found o (r ∷ rs) (nearer o x y)
nearer_found o r rs None None e f = λ c. or_from (holds_byte c r) (covered c rs) (nearest_empty o r c e) (f c)
nearer_found o r rs None (Some b) e f =
    record {
      is_covered = or_right (holds_byte b r) (covered b rs) f.is_covered;
      none_wins = λ c h. ⊎_elim (λ k. clash k (nearest_empty o r c e)) (f.none_wins c) (or_cases (holds_byte c r) (covered c rs) h);
    }
nearer_found o r rs (Some a) None e f =
    record {
      is_covered = or_left (holds_byte a r) (covered a rs) (nearest_held o r a e);
      none_wins = λ c h. ⊎_elim (λ k. more_loses o c a (nearest_in_lem o r a c e k)) (λ k. clash k (f c)) (or_cases (holds_byte c r) (covered c rs) h);
    }
nearer_found o r rs (Some a) (Some b) e f = go (wins o b a) refl
  where
    go : (x : Bool) → wins o b a ≡ x → Found o (r ∷ rs) (cond x (Some b) (Some a))
    go true p =
        record {
          is_covered = or_right (holds_byte b r) (covered b rs) f.is_covered;
          none_wins = λ c h. ⊎_elim (λ k. more_loses o c b (le_of_lt (lt_of_lt_of_le (wins_less o b a p) (nearest_in_lem o r a c e k)))) (f.none_wins c) (or_cases (holds_byte c r) (covered c rs) h);
        }
    go false p =
        record {
          is_covered = or_left (holds_byte a r) (covered a rs) (nearest_held o r a e);
          none_wins = λ c h. ⊎_elim (λ k. more_loses o c a (nearest_in_lem o r a c e k)) (λ k. more_loses o c a (le_trans (loses_more o b a p) (loses_more o c b (f.none_wins c k)))) (or_cases (holds_byte c r) (covered c rs) h);
        }

-- "the nearest byte that a record covers"
pub nearest_found : (o : ℕ) (rs : List Record) → Found o rs (nearest o rs)
nearest_found o [] = λ c. refl
nearest_found o (r ∷ rs) = nearer_found o r rs (nearest_in o r) (nearest o rs) refl (nearest_found o rs)

-- in numbers: no covered byte is nearer, and of the covered bytes that are as near none is earlier
pub none_nearer : (o b c : ℕ) (rs : List Record) → Nearest o b rs → covered c rs ≡ true → distance o b ≤ distance o c
none_nearer o b c rs n h = le_of_not (distance o c) (distance o b) (nor_left (ltb (distance o c) (distance o b)) (eqb (distance o c) (distance o b) && prefers c b) (n.none_wins c h))

pub tie_earlier : (o b c : ℕ) (rs : List Record) → Nearest o b rs → covered c rs ≡ true → distance o c ≡ distance o b → b ≤ c
tie_earlier o b c rs n h e =
    le_of_not c b (go (eqb (distance o c) (distance o b)) (eq-eqb (distance o c) (distance o b) e) (nor_right (ltb (distance o c) (distance o b)) (eqb (distance o c) (distance o b) && prefers c b) (n.none_wins c h)))
  where
    go : (x : Bool) → x ≡ true → x && prefers c b ≡ false → prefers c b ≡ false
    go true p f = f
    go false p f = clash p refl

-- a record that holds the offset is preferred to any neighbour
pub offset_held : (o b : ℕ) (rs : List Record) → covered o rs ≡ true → Nearest o b rs → b ≡ o
offset_held o b rs h n = let l = loses_more o o b (n.none_wins o h) in sole o b (le_trans l (rank_here o 0))
  where
    sole : (o b : ℕ) → rank o b ≤ 0 → b ≡ o
    sole o b h = omega arith

-- ---- the highest record

abbrev pub nth : List Record → ℕ → Option Record
nth [] k = None
nth (r ∷ rs) zero = Some r
nth (r ∷ rs) (suc k) = nth rs k

-- the record at k holds the byte, and none behind it does
pub record Highest (b k : ℕ) (rs : List Record) : Type 0 where
  pub it : Record
  pub stands : nth rs k ≡ Some it
  pub holds : holds_byte b it ≡ true
  pub last : (j : ℕ) (q : Record) → k < j → nth rs j ≡ Some q → holds_byte b q ≡ false

-- what the definition answers; the first record is number n
abbrev pub Top : ℕ → ℕ → List Record → Option ℕ → Type 0
Top b n rs None = covered b rs ≡ false
Top b n rs (Some m) = (k : ℕ) × (m ≡ n + k) × Highest b k rs

uncovered : (b : ℕ) (rs : List Record) → covered b rs ≡ false → (j : ℕ) (q : Record) → nth rs j ≡ Some q → holds_byte b q ≡ false
uncovered b [] h j q e = cc
uncovered b (r ∷ rs) h zero q e = let z : r ≡ q = cc in ap (holds_byte b) (sym z) ∙ nor_left (holds_byte b r) (covered b rs) h
uncovered b (r ∷ rs) h (suc j) q e = uncovered b rs (nor_right (holds_byte b r) (covered b rs) h) j q e

behind : (b : ℕ) (r : Record) (rs : List Record) → covered b rs ≡ false → (j : ℕ) (q : Record) → 0 < j → nth (r ∷ rs) j ≡ Some q → holds_byte b q ≡ false
behind b r rs h zero q l e = absurd (omega arith)
behind b r rs h (suc j) q l e = uncovered b rs h j q e

further : (b k : ℕ) (r : Record) (rs : List Record) → Highest b k rs → (j : ℕ) (q : Record) → suc k < j → nth (r ∷ rs) j ≡ Some q → holds_byte b q ≡ false
further b k r rs h zero q l e = absurd (omega arith)
further b k r rs h (suc j) q l e = h.last j q (omega arith) e

top_step : (b n : ℕ) (r : Record) (rs : List Record) (o : Option ℕ) → Top b (suc n) rs o → Top b n (r ∷ rs) (or_this o (holds_byte b r) n)
top_step b n r rs (Some m) t =
    (suc t.0, omega (arith, t.1), record { it = t.2.it; stands = t.2.stands; holds = t.2.holds; last = further b t.0 r rs t.2 })
top_step b n r rs None t = go (holds_byte b r) refl
  where
    go : (x : Bool) → holds_byte b r ≡ x → Top b n (r ∷ rs) (cond x (Some n) None)
    go true p = (0, omega arith, record { it = r; stands = refl; holds = p; last = behind b r rs t })
    go false p = or_from (holds_byte b r) (covered b rs) p t

pub highest_top : (b n : ℕ) (rs : List Record) → Top b n rs (highest b n rs)
highest_top b n [] = refl
highest_top b n (r ∷ rs) = top_step b n r rs (highest b (suc n) rs) (highest_top b (suc n) rs)

-- ---- the record picked

-- the nearest byte, and the highest-numbered record that holds it
pub record Picked (o n : ℕ) (rs : List Record) : Type 0 where
  pub byte : ℕ
  pub near : Nearest o byte rs
  pub high : Highest byte n rs

-- an answer, or no byte is covered
abbrev pub Answered : ℕ → List Record → Option ℕ → Type 0
Answered o rs None = (c : ℕ) → covered c rs ≡ false
Answered o rs (Some n) = Picked o n rs

pub picked_is : (o : ℕ) (rs : List Record) → Answered o rs (picked o rs)
unfolding picked
picked_is o rs = go (nearest o rs) (nearest_found o rs)
  where
    top : (b : ℕ) → Nearest o b rs → (x : Option ℕ) → Top b 0 rs x → Answered o rs x
    top b f None t = λ c. clash f.is_covered t
    top b f (Some n) t = record { byte = b; near = f; high = subst (λ (k : ℕ). Highest b k rs) (let e = t.1 in omega arith) t.2 }

    go : (x : Option ℕ) → Found o rs x → Answered o rs (picked_by x rs)
    go None f = f
    go (Some b) f = top b f (highest b 0 rs) (highest_top b 0 rs)

-- ---- record by record, as a loop goes

less_wins : (o b a : ℕ) → rank o b < rank o a → wins o b a ≡ true
less_wins o b a h = true_from_ne_false (wins o b a) λ e. not-le_of_lt h (loses_more o b a e)

nearer_none : (o : ℕ) (x : Option ℕ) → nearer o x None ≡ x
nearer_none o None = refl
nearer_none o (Some a) = refl

nearer_assoc : (o : ℕ) (x y z : Option ℕ) → nearer o (nearer o x y) z ≡ nearer o x (nearer o y z)
nearer_assoc o None y z = refl
nearer_assoc o (Some a) None z = refl
nearer_assoc o (Some a) (Some b) None = nearer_none o (nearer o (Some a) (Some b))
nearer_assoc o (Some a) (Some b) (Some c) = go (wins o b a) (wins o c b) refl refl
  where
    go : (x y : Bool) → wins o b a ≡ x → wins o c b ≡ y → nearer o (cond x (Some b) (Some a)) (Some c) ≡ nearer o (Some a) (cond y (Some c) (Some b))
    go true true p q = ap (λ (w : Bool). cond w (Some c) (Some b)) q ∙ sym (ap (λ (w : Bool). cond w (Some c) (Some a)) (less_wins o c a (lt_trans (wins_less o c b q) (wins_less o b a p))))
    go true false p q = ap (λ (w : Bool). cond w (Some c) (Some b)) q ∙ sym (ap (λ (w : Bool). cond w (Some b) (Some a)) p)
    go false true p q = refl
    go false false p q = ap (λ (w : Bool). cond w (Some c) (Some a)) (more_loses o c a (le_trans (loses_more o b a p) (loses_more o c b q))) ∙ sym (ap (λ (w : Bool). cond w (Some b) (Some a)) p)

pub nearest_next : (o : ℕ) (rs : List Record) (r : Record) → nearest o (rs ++ (r ∷ [])) ≡ nearer o (nearest o rs) (nearest_in o r)
nearest_next o [] r = nearer_none o (nearest_in o r)
nearest_next o (q ∷ rs) r = ap (nearer o (nearest_in o q)) (nearest_next o rs r) ∙ sym (nearer_assoc o (nearest_in o q) (nearest o rs) (nearest_in o r))
