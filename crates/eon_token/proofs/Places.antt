-- For who walks a text by its cursor: the next token of a place, and the definition's tokens from there on. Assumes nothing.
use Rattle.std.proofs.Common.{◌≡◌, ℕ, ◌<◌, ◌≤◌, Bool, true, false, eqb, List, [], ◌∷◌, IsSome, sym, refl, ap, ◌∙◌, arith, eqb-true}
use Rattle.std.proofs.lemmas.Bool.{eqb-false}
use Rattle.eon_spec.specs.Utf8.{is_utf8}
use Rattle.eon_spec.specs.Token.{Token, kind_number}
use Rattle.eon_spec.specs.Tree.{Span}
use Rattle.eon_spec.specs.Parse.{behind, skip, span_of}
use Rattle.eon_token.specs.declared.cursor.Cursor.{Cursor}
use Rattle.eon_token.specs.Placed.{placed_at, tokens_at, token_of, code_of}
use Rattle.eon_token.specs.Place.{Spot, span, place_of, kind_at, next_span, line_feed, cursor_behind, Standing}
use Rattle.eon_token.proofs.Text.{boundary_start}
use Rattle.eon_token.proofs.Laws.{bounds, end_boundary, tokens_none, tokens_some}
use Rattle.eon_token.proofs.KindCodes.{code_in, code_le, code_small, there, is_end}

-- the text's start
pub start_spot : (s : List ℕ) → is_utf8 s ≡ true → Spot s (span 0 0)
start_spot s u = record { formed = u; within = omega arith; order = omega arith; boundary = boundary_start s }

-- a token that is there gets on
pub record Gets (s : List ℕ) (l : Span) : Type 0 where
  pub behind : l.end ≤ (next_span s l).start
  pub long : (next_span s l).start < (next_span s l).end
  pub bound : Spot s (next_span s l)

module _ (s : List ℕ) (l : Span) where
  pub gets : Spot s l → kind_at s l < 16 → Gets s l
  gets b h =
      let w = bounds s b.formed l.end b.boundary (placed_at s l.end) refl (there (placed_at s l.end).kind h) in
      record {
        behind = w.0;
        long = w.1;
        bound = record {
          formed = b.formed;
          within = w.2;
          order = omega (arith, w.1);
          boundary = end_boundary s b.formed l.end b.boundary (placed_at s l.end) refl;
        };
      }

  pub kind_lt : (kind_at s l ≡ 16 → ⊥) → kind_at s l < 16
  kind_lt n = omega (arith, n, code_le (placed_at s l.end).kind)

  -- the next token, as the cursor and as the definition have it
  pub data Seen : Type 0 where
    over : kind_at s l ≡ 16 → tokens_at s l.end false ≡ [] → Seen
    comes : (t : Token) → tokens_at s l.end false ≡ t ∷ tokens_at s (next_span s l).end false → span_of t ≡ next_span s l → kind_number t.kind ≡ kind_at s l
        → t.new_line ≡ line_feed s l.end (next_span s l).start → Gets s l → Seen

  pub see : Spot s l → Seen
  unfolding line_feed
  see b = go (eqb (kind_at s l) 16) refl
    where
      go : (x : Bool) → eqb (kind_at s l) 16 ≡ x → Seen
      go true e =
          let k = eqb-true (kind_at s l) 16 e in
          over k (tokens_none s b.formed l.end b.boundary (placed_at s l.end) refl false (is_end (placed_at s l.end).kind k))
      go false e =
          let k = eqb-false (kind_at s l) 16 e in
          comes (token_of s l.end false (placed_at s l.end))
          (tokens_some s b.formed l.end b.boundary (placed_at s l.end) refl false (there (placed_at s l.end).kind (kind_lt k)))
          refl
          (code_in (placed_at s l.end).kind (there (placed_at s l.end).kind (kind_lt k)))
          refl
          (gets b (kind_lt k))

  -- behind that token the definition's cursor stands where `skip` leaves it
  pub skips : Spot s l → kind_at s l < 16 → cursor_behind s (next_span s l) ≡ skip (cursor_behind s l)
  unfolding skip
  skips b h = go (see b)
    where
      go : Seen → cursor_behind s (next_span s l) ≡ skip (cursor_behind s l)
      go (over k e) = absurd (omega arith)
      go (comes t e p k f g) = ap (λ (x : Span). behind x (tokens_at s (next_span s l).end false)) (sym p) ∙ sym (ap (λ (ts : List Token). skip (behind l ts)) e)

-- ---- a cursor

module _ (s : List ℕ) (c : Cursor) (h : Standing s c) where
  pub peeks : c.peeked ≡ placed_at s c.end
  peeks = ap (λ (y : Cursor). y.peeked) h.fresh

  pub peeks_kind : code_of c.peeked.kind ≡ kind_at s (place_of c)
  peeks_kind = ap (λ (y : Cursor). code_of y.peeked.kind) h.fresh

  pub peeks_gets : IsSome c.peeked.kind → Gets s (place_of c)
  peeks_gets k = gets s (place_of c) h.bound (omega (arith, peeks_kind, code_small c.peeked.kind k))
