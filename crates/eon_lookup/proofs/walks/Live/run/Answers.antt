use Rattle.std.proofs.Common.{refl, ◌∙◌, ℕ, ◌+◌, arith}
use Rattle.std.proofs.lemmas.Bool.{false≢true}
use Rattle.eon_spec.specs.Tree.{TokenTree}
use Rattle.eon_laws.proofs.Records.{tree_size_lem}
use Rattle.eon_table.specs.Words.{word}
use Rattle.eon_table.specs.TreeAt.{TreeAt, value_of}
use Rattle.eon_table.proofs.Walk.{tree_head, tree_value, value_kind, value_size_lem}
use Rattle.eon_lookup.specs.Keys.{rests}
use Rattle.eon_lookup.specs.Live.{Looks}
use Rattle.eon_lookup.proofs.Containers.{TheMap, the_map}
use Rattle.eon_lookup.proofs.Steps.{few_steps}
use Rattle.eon_lookup.proofs.Lists.{empty, not_empty}
use Rattle.eon_lookup.proofs.Through.{tree_parts}
use Rattle.eon_lookup.proofs.Root.{root_none, root_other, root_map}
use Rattle.eon_lookup.proofs.walks.Live.run.Goals as goal
use Rattle.eon_lookup.proofs.walks.Live.run.Goals.{Else-not-is, After-inside_map, then-is_empty-via-then-is_empty, then-is_empty-via-else-is_empty+then-not-is}

pub returns-then-is_empty : goal.returns-then-is_empty
returns-then-is_empty c end t h =
    let s = c.args.self in
    let e = c.args.event in
    elim c.then-is_empty.branch [
      | then-is_empty-via-then-is_empty x ↦ root_none s.text.now s.paths.now s.matched s.numbers.now s.going t _ c.told-answers (empty s.numbers.now _ refl x.if-is_empty.ensures)
      | then-is_empty-via-else-is_empty+then-not-is x ↦
          root_other s.text.now s.paths.now s.matched s.numbers.now s.going t _ c.told-answers
          (λ k. false≢true (x.if-not-is.ensures.1 (value_kind e.text.now e.table.now c.after_prefix-i.result (value_of t) (tree_value e.text.now e.table.now end 0 c.after_prefix-i.result t h c.after_prefix-i.ensures) ∙ k)))
    ]

-- the root's map
map_here : (x : Else-not-is) (end : ℕ) (t : TokenTree) (h : TreeAt x.args.event.text.now x.args.event.table.now end 0 t)
    → TheMap x.args.event.text.now x.args.event.table.now x.after_prefix-i.result (x.after_prefix-i.result + word x.args.event.table.now x.after_prefix-i.result 4) refl (value_of t) (tree_value x.args.event.text.now x.args.event.table.now end 0 x.after_prefix-i.result t h x.after_prefix-i.ensures)
map_here x end t h = the_map _ _ _ _ refl (value_of t) (tree_value x.args.event.text.now x.args.event.table.now end 0 x.after_prefix-i.result t h x.after_prefix-i.ensures) (x.if-not-is.ensures.0 refl)

pub inside_map-requires : goal.inside_map-requires
inside_map-requires c =
    let e = c.args.event in
    let i = c.after_prefix-i.result in
    let r = c.requires in
    let z = map_here (goal.at.inside_map-requires c).Else-not-is r.1 r.0 r.2 in
    record {
      inside = omega (arith, tree_head e.text.now e.table.now r.1 0 i r.0 r.2 c.after_prefix-i.ensures, value_size_lem e.text.now e.table.now i (value_of r.0) (tree_value e.text.now e.table.now r.1 0 i r.0 r.2 c.after_prefix-i.ensures), tree_parts r.0, r.3);
      map = (z.items, z.closing, z.at);
    }

-- what the walk gives
whole : (x : After-inside_map) (end : ℕ) (t : TokenTree) (h : TreeAt x.args.event.text.now x.args.event.table.now end 0 t)
    → Looks x.args.self.text.now x.args.self.paths.now x.args.self.matched x.args.self.numbers.now t x.args.answers.now x.inside_map.new.answers (1 + x.inside_map.result)
whole x end t h =
    let s = x.args.self in
    let e = x.args.event in
    let i = x.after_prefix-i.result in
    let z = the_map e.text.now e.table.now i _ refl (value_of t) (tree_value e.text.now e.table.now end 0 i t h x.after_prefix-i.ensures) (x.if-not-is.ensures.0 refl) in
    root_map s.text.now s.paths.now s.matched s.numbers.now s.going t i z.items z.closing _ _ _ z.is (tree_head e.text.now e.table.now end 0 i t h x.after_prefix-i.ensures) (not_empty s.numbers.now _ refl x.if-is_empty.ensures) (x.inside_map.ensures z.items z.closing z.at)

pub overflow_add-result : goal.overflow_add-result
overflow_add-result c =
    let s = c.args.self in
    let r = c.requires in
    omega (arith, (whole (goal.at.overflow_add-result c).After-inside_map r.1 r.0 r.2).steps, few_steps r.0 (rests s.text.now s.paths.now s.matched s.numbers.now), tree_size_lem r.0, r.3)

pub returns : goal.returns
returns c = whole (goal.at.returns c).After-inside_map
