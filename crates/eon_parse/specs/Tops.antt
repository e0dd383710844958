-- What is answered of a whole text.
use Rattle.std.specs.Prelude.{◌≡◌, ℕ, ◌+◌, ◌≤◌, List, ◌∷◌, Bool, true, false, cond, length, take, ltb, eqb, Result, Ok, Err}
use Rattle.eon_spec.specs.Utf8.{is_utf8}
use Rattle.eon_spec.specs.declared.record_kind.RecordKind.{RecordKind}
use Rattle.eon_spec.specs.declared.refusal.Refusal.{Refusal}
use Rattle.eon_spec.specs.declared.refusal.Reason.TheVariants.{MissingValue, Surplus}
use Rattle.eon_spec.specs.Records.{words}
use Rattle.eon_token.specs.Placed.{code_of}
use Rattle.eon_token.specs.Place.{span, cursor_at}
use Rattle.eon_token.specs.declared.token_kind.PlacedToken.{PlacedToken}
use Rattle.eon_token.specs.declared.cursor.Cursor.{Cursor}
use Rattle.eon_parse.specs.Walk.{refused_at, reason_of, Out, refuse, got, Records, header}
use Rattle.eon_parse.specs.Top.{Shape, denied, asMap, asSingle, asSeveral, Whole, denies, gives}
use Rattle.eon_parse.specs.Answer.{agrees, stop_of}
use Rattle.eon_parse.specs.declared.words.Record.{Record}
use Rattle.eon_parse.specs.declared.walk.Walk.{Walk}
use Rattle.eon_parse.specs.declared.walk.Stop.{Stop}
use Rattle.eon_parse.specs.declared.top.Top.{Top}
use Rattle.eon_parse.specs.declared.top.Form.{Form}
use Rattle.eon_parse.specs.declared.top.Form.TheVariants.{Map, Single, Several}

-- a token that begins no value; n is the text's length
abbrev pub no_value : ℕ → Cursor → Stop
no_value n c =
    cond (eqb (code_of c.peeked.kind) 16) (stop_of (refused_at MissingValue (span n n)) c.end)
    (stop_of (refused_at (reason_of (code_of c.peeked.kind)) (span c.peeked.start c.peeked.end)) c.peeked.end)

-- a walk at the start of a checked text
abbrev pub start_of : List ℕ → Bool → Walk
start_of s b = record { cursor = cursor_at s (span 0 0); count = 0; same = b }

pub record Starts (s : List ℕ) (w : Walk) : Type 0 where
  pub formed : is_utf8 s ≡ true
  pub short : length s ≤ 65535
  pub is : w ≡ start_of s w.same

-- behind the start of a container that spans the text; its record
abbrev pub within : Walk → Walk
within w = record { cursor = w.cursor; count = w.count + 1; same = w.same }

abbrev pub spanning : RecordKind → ℕ → ℕ → Record
spanning kind len count = record { kind = kind; start = 0; text_end = len; end = len; size = count }

abbrev pub topped : ℕ → ℕ → Out Records → Out Records
topped len kind (refuse r e) = refuse r e
topped len kind (got ts l) = got (header kind 0 0 len ts ∷ ts) l

abbrev pub further_by : Stop → Stop → Refusal
further_by a b = cond (ltb a.consumed b.consumed) b.refusal a.refusal

-- a text that is read, if nothing follows
abbrev pub top_of : Form → ℕ → Bool → Top
top_of f n b = record { form = f; count = n; same = b }

abbrev pub ended_at : PlacedToken → Top → Result Top Refusal
ended_at t y = cond (eqb (code_of t.kind) 16) (Ok y) (Err (refused_at Surplus (span t.start t.end)))

abbrev pub ended_by : Walk → Form → Result Top Refusal
ended_by x f = ended_at x.cursor.peeked (top_of f x.count x.same)

-- a text's shape: its refusal, or how many records, and whether the table begins with them
abbrev pub viewed : List ℕ → Bool → Form → Records → Result Top Refusal
viewed tb b f ts = Ok (top_of f (length ts) (cond b (agrees tb 0 (words ts)) false))

abbrev pub top_view : List ℕ → Bool → Shape → Result Top Refusal
top_view tb b (denied r) = Err r
top_view tb b (asMap ts) = viewed tb b Map ts
top_view tb b (asSingle ts) = viewed tb b Single ts
top_view tb b (asSeveral ts) = viewed tb b Several ts

-- a table that has room for the records begins with them
abbrev pub Held : Whole → List ℕ → List ℕ → Type 0
Held (denies r) tb tb' = Unit {0}
Held (gives ts) tb tb' = length (words ts) ≤ length tb → take (length (words ts)) tb' ≡ words ts
