-- A place picked on the screen (document 02, L1): the record at a byte offset, and the records in a byte range.
use Rattle.std.specs.Prelude.{ℕ, suc, pred, ◌+◌, ◌-◌, min, max, Bool, true, false, ◌&&◌, ◌||◌, cond, List, [], ◌∷◌, length, ltb, leb, eqb, Option, None, Some}
use Rattle.eon_spec.specs.Records.{Record, tree_records}
use Rattle.eon_spec.specs.declared.Hit.{Hit}
use Rattle.eon_spec.specs.Calls.{Outcome, done, then, or_refused, AfterIn, fill, read_finished}

-- ---- the offset call

-- "whose span holds it": from its start on, its end not counted
abbrev pub holds_byte : ℕ → Record → Bool
holds_byte b r = leb r.start b && ltb b r.end

-- how far two bytes are apart
abbrev pub distance : ℕ → ℕ → ℕ
distance o b = (o - b) + (b - o)

-- the byte of a record that is nearest to the offset: the offset itself, the record's first byte or its last; none of an empty span
abbrev pub nearest_in : ℕ → Record → Option ℕ
nearest_in o r = cond (ltb r.start r.end) (Some (max r.start (min o (pred r.end)))) None

-- "of one before and one after at equal distance, the earlier": b is preferred to a
abbrev pub prefers : ℕ → ℕ → Bool
prefers b a = ltb b a

-- the byte b wins over a: it is nearer, or as near and preferred
abbrev pub wins : ℕ → ℕ → ℕ → Bool
wins o b a = ltb (distance o b) (distance o a) || (eqb (distance o b) (distance o a) && prefers b a)

-- the winner of what one record has and what the later ones have
abbrev pub nearer : ℕ → Option ℕ → Option ℕ → Option ℕ
nearer o None y = y
nearer o (Some a) None = Some a
nearer o (Some a) (Some b) = cond (wins o b a) (Some b) (Some a)

-- "the nearest byte that a record covers", which is the offset where a record holds it
abbrev pub nearest : ℕ → List Record → Option ℕ
nearest o [] = None
nearest o (r ∷ rs) = nearer o (nearest_in o r) (nearest o rs)

-- a later record, if there is one; or this one, number n, if it passes
abbrev pub or_this : Option ℕ → Bool → ℕ → Option ℕ
or_this None b n = cond b (Some n) None
or_this (Some m) b n = Some m

-- "the highest-numbered record that holds that byte"; the first is number n
abbrev pub highest : ℕ → ℕ → List Record → Option ℕ
highest b n [] = None
highest b n (r ∷ rs) = or_this (highest b (suc n) rs) (holds_byte b r) n

-- "Given a byte offset, answer the highest-numbered record whose span holds it. If none does, take the nearest byte that a record covers";
-- "The answer is the highest-numbered record that holds that byte": the byte first, then the record. "An offset beyond the text is allowed"
abbrev pub picked_by : Option ℕ → List Record → Option ℕ
picked_by None rs = None
picked_by (Some b) rs = highest b 0 rs

unfoldable pub picked : ℕ → List Record → Option ℕ
picked o rs = picked_by (nearest o rs) rs

-- "Number 27 is for a table whose records cover no byte, in the offset call only, directly after 15"
unfoldable pub record_at_call : List ℕ → List ℕ → ℕ → Outcome ℕ
record_at_call s table o = then (read_finished s table) λ t. or_refused 27 (picked o (tree_records t))

-- ---- the range call

-- "every record that shares a byte with the range", "its end not counted"
abbrev pub shares_byte : ℕ → ℕ → Record → Bool
shares_byte from to r = ltb (max r.start from) (min r.end to)

-- "each a record number with its span"
abbrev pub hit_of : ℕ → Record → Hit
hit_of n r = record { «record» = n; start = r.start; end = r.end }

-- a hit, if it is one, before others
abbrev pub hit_then : Bool → Hit → List Hit → List Hit
hit_then true h hs = h ∷ hs
hit_then false h hs = hs

-- "in table order"; the first record is number n
abbrev pub hits : ℕ → ℕ → ℕ → List Record → List Hit
hits from to n [] = []
hits from to n (r ∷ rs) = hit_then (shares_byte from to r) (hit_of n r) (hits from to (suc n) rs)

-- "It answers how many; entries past the hits stay. Too short a list is 14 and stays untouched"
unfoldable pub records_in_call : List ℕ → List ℕ → ℕ → ℕ → List Hit → AfterIn Hit ℕ
records_in_call s table from to list =
    fill list (then (read_finished s table) λ t. let hs = hits from to 0 (tree_records t) in done (length hs, hs))
