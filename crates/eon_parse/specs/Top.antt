-- A whole text: the map attempt, the list attempt, a trailing token, whose refusal wins, one value or several.
use Rattle.std.specs.Prelude.{cond, ℕ, List, ◌∷◌, length, ltb, eqb}
use Rattle.eon_spec.specs.Tree.{Span}
use Rattle.eon_spec.specs.declared.refusal.Refusal.{Refusal}
use Rattle.eon_spec.specs.Refused as paper
use Rattle.eon_spec.specs.declared.refusal.Reason.TheVariants.{Surplus}
use Rattle.eon_spec.specs.Parse.{Parsed, parsed, refused_by}
use Rattle.eon_spec.specs.Records.{tree_records}
use Rattle.eon_token.specs.Place.{kind_at, next_span, span}
use Rattle.eon_parse.specs.Walk.{refused_at, Out, refuse, got, Records, header, run, end_of, stops, one, two, inside, below}

-- the records of a text by its shape, or its refusal
pub data Shape : Type 0 where
  denied : Refusal → Shape
  asMap asSingle asSeveral : Records → Shape

-- what the definition's tree is, as records
pub data Whole : Type 0 where
  denies : paper.Refusal → Whole
  gives : Records → Whole

abbrev pub whole_of : Parsed → Whole
whole_of (parsed t) = gives (tree_records t)
whole_of (refused_by r) = denies r

abbrev pub shape_whole : Shape → Whole
shape_whole (denied r) = denies (paper.refusal_of r)
shape_whole (asMap ts) = gives ts
shape_whole (asSingle ts) = gives ts
shape_whole (asSeveral ts) = gives ts

-- both attempts fail: the second's refusal wins only if its last consumed token ends strictly later
abbrev pub further : Refusal → ℕ → Refusal → ℕ → Refusal
further ra la rb lb = cond (ltb la lb) rb ra

abbrev pub top_depth : ℕ
top_depth = 128

-- nothing may follow
unfoldable pub ended : List ℕ → Span → Shape → Shape
ended s l x = cond (eqb (kind_at s l) 16) x (denied (refused_at Surplus (next_span s l)))

unfoldable pub several_by : List ℕ → Refusal → ℕ → Out Records → Shape
several_by s ra la (refuse rb lb) = denied (further ra la rb lb)
several_by s ra la (got ts q) = ended s q (asSeveral (header 4 0 0 (length s) ts ∷ ts))

unfoldable pub list_by : List ℕ → Refusal → ℕ → Out Records → Shape
list_by s ra la (refuse rb lb) = denied (further ra la rb lb)
list_by s ra la (got ts p) =
    cond (stops s p) (ended s (end_of (run s 7 p)) (asSingle ts)) (several_by s ra la (inside s (one s (below top_depth s)) (span 0 0)))

unfoldable pub map_by : List ℕ → Out Records → Shape
map_by s (got ts l) = ended s l (asMap (header 5 0 0 (length s) ts ∷ ts))
map_by s (refuse ra la) = list_by s ra la (one s (below top_depth s) (span 0 0))

unfoldable pub top_at : List ℕ → Shape
top_at s = map_by s (inside s (two s (below top_depth s)) (span 0 0))
