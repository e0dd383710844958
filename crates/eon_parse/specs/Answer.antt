-- What the readers answer, by what the definition gives: the walk, compared with an old table, and what is stored in another.
use Rattle.std.specs.Prelude.{◌≡◌, ℕ, suc, ◌+◌, ◌-◌, ◌*◌, ◌≤◌, List, [], ◌∷◌, Bool, true, false, cond, length, get_or, ltb, eqb, Result, Ok, Err}
use Rattle.std.proofs.lemmas.List.Edits.{sets}
use Rattle.eon_spec.specs.Tree.{Span}
use Rattle.eon_spec.specs.RecordKind.{word_of}
use Rattle.eon_spec.specs.declared.record_kind.RecordKind.{RecordKind}
use Rattle.eon_spec.specs.declared.refusal.Refusal.{Refusal}
use Rattle.eon_spec.specs.Records.{words}
use Rattle.eon_token.specs.Place.{Spot, place_of, cursor_at, kind_at, next_span}
use Rattle.eon_parse.specs.Walk.{Out, refuse, got, Records, Item, tail_r, suffix_end, text_end}
use Rattle.eon_token.specs.declared.cursor.Cursor.{Cursor}
use Rattle.eon_parse.specs.declared.words.Record.{Record}
use Rattle.eon_parse.specs.declared.walk.Walk.{Walk}
use Rattle.eon_parse.specs.declared.walk.Begun.{Begun}
use Rattle.eon_parse.specs.declared.walk.Stop.{Stop}
use Rattle.eon_parse.specs.declared.walk.Past.{Past}

-- ---- words of a table

unfoldable pub holds : List ℕ → ℕ → ℕ → Bool
holds t i w = cond (ltb i (length t)) (eqb (get_or t i 0) w) false

unfoldable pub agrees : List ℕ → ℕ → List ℕ → Bool
agrees t i [] = true
agrees t i (w ∷ ws) = cond (holds t i w) (agrees t (suc i) ws) false

abbrev pub words_of : Record → List ℕ
words_of r = word_of r.kind ∷ r.start ∷ r.text_end ∷ r.end ∷ r.size ∷ []

-- ---- a walk

abbrev pub stop_of : Refusal → ℕ → Stop
stop_of r e = record { refusal = r; consumed = e }

abbrev pub past : Walk → ℕ → Result Past Stop
past w f = Ok (record { walk = w; from = f })

abbrev pub place : Walk → Span
place w = place_of w.cursor

-- a cursor that stands in a short well-formed text, behind at least as many bytes as there are records
pub record Ready (s : List ℕ) (c : Cursor) (n : ℕ) : Type 0 where
  pub short : length s ≤ 65535
  pub bound : Spot s (place_of c)
  pub few : n ≤ c.end + 1
  pub fresh : c ≡ cursor_at s (place_of c)

abbrev pub set_cursor : Walk → Cursor → Walk
set_cursor w c = record { cursor = c; count = w.count; same = w.same }

-- at another place; behind a token that starts a record
abbrev pub moved : List ℕ → Walk → Span → Walk
moved s w l = record { cursor = cursor_at s l; count = w.count; same = w.same }

abbrev pub entered : List ℕ → Walk → Span → Walk
entered s w l = record { cursor = cursor_at s l; count = w.count + 1; same = w.same }

-- the walk after records: its place, its records counted, their words compared with the old table's
unfoldable pub emit : List ℕ → List ℕ → Walk → Records → Span → Walk
emit s old w f l = record { cursor = cursor_at s l; count = w.count + length f; same = cond w.same (agrees old (5 * w.count) (words f)) false }

-- records that end where the walk stands
abbrev pub tailed : List ℕ → Walk → Records → Walk
tailed old w f = record { cursor = w.cursor; count = w.count + length f; same = cond w.same (agrees old (5 * w.count) (words f)) false }

-- the table with their words
abbrev pub stored : List ℕ → Walk → Records → List ℕ
stored tb w f = sets tb (5 * w.count) (words f)

-- ---- the end of a record

abbrev pub begun : RecordKind → ℕ → ℕ → ℕ → Begun
begun kind base start name = record { kind = kind; base = base; start = start; name = name }

-- the five words of the record that ends where the walk stands
abbrev pub record_words : Walk → Begun → List ℕ
record_words w b = word_of b.kind ∷ b.start ∷ text_end (word_of b.kind) b.name w.cursor.end ∷ w.cursor.end ∷ (w.count - b.base) ∷ []

abbrev pub put_at : Walk → List ℕ → ℕ → List ℕ → Walk
put_at w old i ws = record { cursor = w.cursor; count = w.count; same = cond w.same (agrees old i ws) false }

abbrev pub ended_at : Walk → List ℕ → Begun → Walk
ended_at w old b = put_at w old (5 * b.base) (record_words w b)

-- a record that the walk can end: it began before, and its places are small
pub record Open (w : Walk) (b : Begun) : Type 0 where
  pub base : b.base ≤ w.count
  pub start : b.start ≤ w.cursor.end
  pub name : b.name ≤ w.cursor.end
  pub few : w.count ≤ 70000
  pub short : w.cursor.end ≤ 65535

-- ---- what a reader answers: the walk behind what is read, or why it is refused

unfoldable pub ran : List ℕ → List ℕ → Walk → Out Records → Walk
ran s old w (refuse r e) = w
ran s old w (got f l) = emit s old w f l

unfoldable pub bared : List ℕ → List ℕ → Walk → Out Records → Result Walk Stop
bared s old w (refuse r e) = Err (stop_of r e)
bared s old w (got f l) = Ok (emit s old w f l)

unfoldable pub counted : List ℕ → List ℕ → Walk → Out Item → Result Past Stop
counted s old w (refuse r e) = Err (stop_of r e)
counted s old w (got i l) = past (emit s old w i.body l) i.from

-- a token that must come, and then perhaps the end of a record
unfoldable pub expected : List ℕ → Walk → Out (Unit {0}) → Result Walk Stop
expected s w (refuse r e) = Err (stop_of r e)
expected s w (got u l) = Ok (moved s w l)

unfoldable pub closed_at : List ℕ → List ℕ → Walk → Out (Unit {0}) → Begun → Result Walk Stop
closed_at s old w (refuse r e) b = Err (stop_of r e)
closed_at s old w (got u l) b = Ok (ended_at (moved s w l) old b)

-- ---- what it stores: the words of what is read. A refusal leaves anything there

abbrev pub Stored : List ℕ → Walk → Out Records → List ℕ → Type 0
Stored tb w (refuse r e) tb' = Unit {0}
Stored tb w (got f l) tb' = tb' ≡ stored tb w f

abbrev pub StoredItem : List ℕ → Walk → Out Item → List ℕ → Type 0
StoredItem tb w (refuse r e) tb' = Unit {0}
StoredItem tb w (got i l) tb' = tb' ≡ stored tb w i.body

abbrev pub StoredEnd : List ℕ → List ℕ → Walk → Out (Unit {0}) → Begun → List ℕ → Type 0
StoredEnd s tb w (refuse r e) b tb' = Unit {0}
StoredEnd s tb w (got u l) b tb' = tb' ≡ sets tb (5 * b.base) (record_words (moved s w l) b)

-- a value is settled: a comma looks for the suffix comment anew
abbrev pub settled_r : List ℕ → Span → ℕ → Out Records
settled_r s l from =
    cond (eqb (kind_at s l) 9)
    (got (tail_r (next_span s l).end (suffix_end s (next_span s l))) (suffix_end s (next_span s l)))
    (got (tail_r from l) l)
