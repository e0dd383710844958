-- Places in a text, and the cursor that stands behind a span.
use Rattle.std.specs.Prelude.{◌≡◌, Bool, true, false, List, ℕ, ◌-◌, ◌≤◌, length, take, drop}
use Rattle.eon_spec.specs.Base.{elem}
use Rattle.eon_spec.specs.Utf8.{is_utf8, Boundary}
use Rattle.eon_spec.specs.Tree.{Span}
use Rattle.eon_spec.specs.Parse as parse
use Rattle.eon_token.specs.declared.cursor.Cursor.{Cursor}
use Rattle.eon_token.specs.Placed.{placed_at, tokens_at, code_of}

-- a span of a well-formed text, behind which a token may begin
pub record Spot (s : List ℕ) (l : Span) : Type 0 where
  pub formed : is_utf8 s ≡ true
  pub within : l.end ≤ length s
  pub order : l.start ≤ l.end
  pub boundary : Boundary s l.end

abbrev pub span : ℕ → ℕ → Span
span a b = record { start = a; end = b }

abbrev pub place_of : Cursor → Span
place_of c = record { start = c.start; end = c.end }

-- the cursor behind a span
abbrev pub cursor_at : List ℕ → Span → Cursor
cursor_at s l = record { start = l.start; end = l.end; peeked = placed_at s l.end }

-- the number of the next token's kind, 16 at the end
abbrev pub kind_at : List ℕ → Span → ℕ
kind_at s l = code_of (placed_at s l.end).kind

-- the span of the next token
abbrev pub next_span : List ℕ → Span → Span
next_span s l = record { start = (placed_at s l.end).start; end = (placed_at s l.end).end }

-- a line feed stands between two places
unfoldable pub line_feed : List ℕ → ℕ → ℕ → Bool
line_feed s a b = elem 10 (take (b - a) (drop a s))

-- the definition's cursor behind a span: this was the last span, and these tokens are still to come
abbrev pub cursor_behind : List ℕ → Span → parse.Cursor
cursor_behind s l = parse.behind l (tokens_at s l.end false)

-- what a cursor stands for
abbrev pub stands_for : List ℕ → Cursor → parse.Cursor
stands_for s c = cursor_behind s (place_of c)

-- a cursor in a well-formed text that holds the token behind its span
pub record Standing (s : List ℕ) (c : Cursor) : Type 0 where
  pub bound : Spot s (place_of c)
  pub fresh : c ≡ cursor_at s (place_of c)
