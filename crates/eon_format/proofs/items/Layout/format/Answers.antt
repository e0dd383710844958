-- The root: with braces or no map as any tree, otherwise a map's content alone.
use Rattle.std.proofs.Common.{rules}
use Rattle.eon_spec.specs.Layout.{settings_of}
use Rattle.eon_put.proofs.Going.{put_as}
use Rattle.eon_format.proofs.Walk.{tree_lines, suffix_there, map_to}
use Rattle.eon_format.proofs.Steps.{value_map}
use Rattle.eon_format.proofs.Root.{format_braces, format_other, format_map}
use Rattle.eon_table.proofs.Walk.{tree_value}
use Rattle.eon_format.proofs.items.Layout.format.Goals.{then-self-via-then-self, then-self-via-else-self+then-not-is}
use Rattle.eon_format.proofs.items.Layout.format.Goals as goal

pub returns-then-self : goal.returns-then-self
returns-then-self g c t h =
    elim c.then-self.branch [
      | then-self-via-then-self w ↦ put_as g.S.Sink.puts (format_braces _ t w.if-self.true) (c.indented_value.ensures t h)
      | then-self-via-else-self+then-not-is w ↦ put_as g.S.Sink.puts (format_other _ _ _ _ _ t h c.after_prefix-root.ensures (search rules) w.if-self.false) (c.indented_value.ensures t h)
    ]

pub map_content-requires : goal.map_content-requires
map_content-requires g c = let u = c.requires in
    let q = value_map _ _ _ _ (tree_value _ _ _ _ _ u.0 u.1 c.after_prefix-root.ensures) (search rules) in
    (q.0, q.1, map_to _ _ _ _ c.behind-behind.ensures q.0 q.1 q.2)

pub returns : goal.returns
returns g c t h =
    let o = settings_of c.args.self.options.now in
    let d = c.after_prefix-root.ensures in
    format_map _ _ _ _ o g.S.Sink.puts g.met.S.Sink.append t h d (search rules) c.if-self.false
    (put_as g.S.Sink.puts (tree_lines _ _ _ _ _ _ _ t h d) c.indented_comments.ensures)
    (λ kvs cl v. c.map_content.ensures kvs cl (map_to _ _ _ _ c.behind-behind.ensures kvs cl v))
    (c.suffix_comment.ensures o _ (suffix_there _ _ t h d c.behind-behind.ensures))
