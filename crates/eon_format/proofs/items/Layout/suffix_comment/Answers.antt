use Rattle.std.proofs.Common.{ℕ, List, [], ◌∷◌, ◌++◌, sym, ap, ◌∙◌}
use Rattle.eon_put.proofs.Going.{put_as}
use Rattle.eon_format.proofs.Records.{suffix_some}
use Rattle.eon_format.proofs.items.Layout.suffix_comment.Goals as goal

pub returns-then-has_suffix : goal.returns-then-has_suffix
returns-then-has_suffix g c o x h =
    put_as g.S.Sink.puts
    (ap (λ (b : List ℕ). (32 ∷ []) ++ b) c.text_at.ensures ∙ suffix_some _ _ o _ _ x h (sym c.has_suffix.ensures ∙ c.if-has_suffix.true))
    (g.met.S.Sink.append _ _ _ _ _ c.put.ensures c.put_all.ensures)
