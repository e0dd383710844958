-- The records of a table by their numbers: five words a record, 0 past the table's end.
use Rattle.std.specs.Prelude.{ℕ, zero, suc, ◌+◌, ◌-◌, ◌*◌, ◌≤◌, ◌<◌, ◌≡◌, Bool, ◌&&◌, not, List, [], ◌∷◌, length, get_or, take, drop, ltb, eqb}
use Rattle.eon_spec.specs.RecordKind.{PREFIX_COMMENT, SUFFIX_COMMENT, CLOSING_COMMENT}
use Rattle.eon_spec.specs.Records.{Record}

-- word k of record i
abbrev pub word : List ℕ → ℕ → ℕ → ℕ
word tb i k = get_or tb (5 * i + k) 0

-- record i
abbrev pub record_of : List ℕ → ℕ → Record
record_of tb i = record {
  kind = word tb i 0;
  start = word tb i 1;
  text_end = word tb i 2;
  end = word tb i 3;
  size = word tb i 4;
}

-- the n records from number i on
unfoldable pub records_of : List ℕ → ℕ → ℕ → List Record
records_of tb i zero = []
records_of tb i (suc n) = record_of tb i ∷ records_of tb (suc i) n

-- a part of a text
abbrev pub part : List ℕ → ℕ → ℕ → List ℕ
part s from to = take (to - from) (drop from s)

-- the record i is a suffix comment before the record `end`
unfoldable pub has_suffix : List ℕ → ℕ → ℕ → Bool
has_suffix tb end i = ltb i end && eqb (word tb i 0) SUFFIX_COMMENT

-- an item starts at record i, before the record `end`
unfoldable pub more_at : List ℕ → ℕ → ℕ → Bool
more_at tb end i = ltb i end && not (eqb (word tb i 0) CLOSING_COMMENT)

-- the first record from i on that is no prefix comment
pub record AfterPrefix (tb : List ℕ) (i r : ℕ) : Type 0 where
  pub from : i ≤ r
  pub prefix : (j : ℕ) → i ≤ j → j < r → word tb j 0 ≡ PREFIX_COMMENT
  pub ends : word tb r 0 ≡ PREFIX_COMMENT → ⊥

module _ (s tb : List ℕ) where
  -- the bytes from a record's start to its text's end
  abbrev pub text_at : ℕ → List ℕ
  text_at i = part s (word tb i 1) (word tb i 2)

  -- they lie in the text
  pub record Within (i : ℕ) : Type 0 where
    pub order : word tb i 1 ≤ word tb i 2
    pub within : word tb i 2 ≤ length s

  -- so do those of every record from i on and before `end`
  abbrev pub Texts : ℕ → ℕ → Type 0
  Texts i end = (j : ℕ) → i ≤ j → j < end → Within j
