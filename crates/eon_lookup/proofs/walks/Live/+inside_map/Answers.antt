use Rattle.std.proofs.Common.{refl, sym, ap, ◌∙◌, subst, List, [], length, ◌<◌, ℕ, ◌+◌, ◌-◌, add-one, arith}
use Rattle.std.proofs.lemmas.Bool.{false≢true}
use Rattle.eon_spec.specs.Tree.{Slice, TokenValue, KeyValues, map_of}
use Rattle.eon_table.specs.TreeAt.{ValueAt}
use Rattle.eon_table.proofs.Walk.{more_in, value_in, value_kind, value_size_lem, value_pos}
use Rattle.eon_lookup.specs.Keys.{key_here}
use Rattle.eon_lookup.specs.Live.{Walked}
use Rattle.eon_lookup.proofs.Containers.{the_map, in_map}
use Rattle.eon_lookup.proofs.Pairs.{Inner, inner_none, inner_other, inner_map}
use Rattle.eon_lookup.proofs.Through.{Through, through_start, through_end, key_there, value_there, the_value, value_is, value_before, steps_fit, goes_past, turn, walked_same}
use Rattle.eon_lookup.proofs.walks.Live.+inside_map.Goals as goal
use Rattle.eon_lookup.proofs.walks.Live.+inside_map.Goals.{In-loop-next, After-next_tree-j, After-inside_map-steps}

pub behind-end-requires : goal.behind-end-requires
behind-end-requires t c = let e = c.args.event in
    value_in e.text.now e.table.now c.args.i (map_of c.requires.map.0 c.requires.map.1) c.requires.map.2

pub loop-next-init : goal.loop-next-init
loop-next-init t c = let a = c.args in
    let s = a.self in
    let e = a.event in
    (c.told-answers, λ kvs cl h. through_start e.text.now e.table.now c.behind-end.result s.text.now s.paths.now s.matched s.numbers.now kvs cl (a.i + 1) a.answers.now (in_map a.i c.behind-end.ensures h))

-- what the walk through the map of which the call was asked has done
so_far : (t : ℕ) (x : In-loop-next t)
    → Through x.args.event.text.now x.args.event.table.now x.behind-end.result x.args.self.text.now x.args.self.paths.now x.args.self.matched x.args.self.numbers.now x.requires.map.0 x.requires.map.1 (x.args.i + 1) x.args.answers.now x.loop-next.answers x.loop-next.j x.loop-next.steps
so_far t x = let kv = x.requires.map in x.loop-next.invariant.1 kv.0 kv.1 kv.2

pub next_tree-v-requires : goal.next_tree-v-requires
next_tree-v-requires t c = (c.args.event.text.now, key_there (so_far t (goal.at.next_tree-v-requires t c).In-loop-next) c.loop-next-test.ensures)

pub match_key-on-requires : goal.match_key-on-requires
match_key-on-requires t c = let r = so_far t (goal.at.match_key-on-requires t c).In-loop-next in
    let m = c.loop-next-test.ensures in
    omega (arith, c.requires.inside, c.behind-end.ensures, value_before r m c.after_prefix-k.ensures c.next_tree-v.ensures c.after_prefix-w.ensures, value_pos (the_value r m))

pub next_tree-j-requires : goal.next_tree-j-requires
next_tree-j-requires t c = (c.args.event.text.now, value_there (so_far t (goal.at.next_tree-j-requires t c).In-loop-next) c.loop-next-test.ensures c.next_tree-v.result c.next_tree-v.ensures)

pub overflow_add-steps : goal.overflow_add-steps
overflow_add-steps t c = let kv = c.requires.map in
    let r = so_far t (goal.at.overflow_add-steps t c).In-loop-next in
    omega (arith, steps_fit r c.loop-next-test.ensures c.after_prefix-k.ensures c.next_tree-v.ensures c.after_prefix-w.ensures, (in_map c.args.i c.behind-end.ensures kv.2).all, c.behind-end.ensures, c.requires.inside)

-- a turn goes on
smaller : (t : ℕ) (x : After-next_tree-j t) → x.behind-end.result - x.next_tree-j.result < x.behind-end.result - x.loop-next.j
smaller t x = let kv = x.requires.map in
    let m = x.loop-next-test.ensures in
    omega (arith, more_in _ _ _ (sym m), goes_past (x.loop-next.invariant.1 kv.0 kv.1 kv.2) m x.after_prefix-k.ensures x.next_tree-v.ensures x.after_prefix-w.ensures _ x.next_tree-j.ensures)

pub loop-next-smaller-in_default : goal.loop-next-smaller-in_default
loop-next-smaller-in_default t c = smaller t (goal.at.loop-next-smaller-in_default t c).After-next_tree-j

pub loop-next-smaller-then-not-is : goal.loop-next-smaller-then-not-is
loop-next-smaller-then-not-is t c = smaller t (goal.at.loop-next-smaller-then-not-is t c).After-next_tree-j

pub loop-next-smaller : goal.loop-next-smaller
loop-next-smaller t c = smaller t (goal.at.loop-next-smaller t c).After-next_tree-j

pub loop-next-preserved-in_default : goal.loop-next-preserved-in_default
loop-next-preserved-in_default t c =
    let s = c.args.self in
    let b = c.in_default.ensures in
    let m = c.loop-next-test.ensures in (
      b.size,
      λ kvs cl h.
          let r = c.loop-next.invariant.1 kvs cl h in
          turn r m c.after_prefix-k.ensures c.next_tree-v.ensures c.after_prefix-w.ensures c.next_tree-j.result c.next_tree-j.ensures s.going c.match_key-on.new.answers [] b c.match_key-on.new.answers 0
          (inner_none s.text.now s.paths.now s.matched _ s.numbers.now s.going _ (the_value r m) _ b.size (sym b.list)) (c.loop-next.steps + 2) (omega arith),
    )

pub loop-next-preserved-then-not-is : goal.loop-next-preserved-then-not-is
loop-next-preserved-then-not-is t c =
    let s = c.args.self in
    let e = c.args.event in
    let b = c.in-Some.ensures.4 in
    let m = c.loop-next-test.ensures in
    let w = c.after_prefix-w.result in (
      b.size,
      λ kvs cl h.
          let r = c.loop-next.invariant.1 kvs cl h in
          let v = the_value r m in
          turn r m c.after_prefix-k.ensures c.next_tree-v.ensures c.after_prefix-w.ensures c.next_tree-j.result c.next_tree-j.ensures s.going c.match_key-on.new.answers c.in-Some.on.numbers.now b c.match_key-on.new.answers 0
          (inner_other s.text.now s.paths.now s.matched _ s.numbers.now s.going w v _ b.size
          (λ k. false≢true (c.if-not-is.ensures.1 (value_kind e.text.now e.table.now w v (value_is r m c.after_prefix-k.ensures c.next_tree-v.ensures c.after_prefix-w.ensures) ∙ k))))
          (c.loop-next.steps + 2) (omega arith),
    )

pub inside_map-steps-requires : goal.inside_map-steps-requires
inside_map-steps-requires t c =
    let e = c.args.event in
    let r = so_far t (goal.at.inside_map-steps-requires t c).In-loop-next in
    let m = c.loop-next-test.ensures in
    let w = c.after_prefix-w.result in
    let there = value_is r m c.after_prefix-k.ensures c.next_tree-v.ensures c.after_prefix-w.ensures in
    let z = the_map e.text.now e.table.now w _ refl (the_value r m) there (c.if-not-is.ensures.0 refl) in (
      omega (arith, c.decreases, c.in-Some.ensures.3, c.args.self.left),
      (
        omega (arith, value_before r m c.after_prefix-k.ensures c.next_tree-v.ensures c.after_prefix-w.ensures, value_size_lem e.text.now e.table.now w (the_value r m) there, c.requires.inside, c.behind-end.ensures),
        (z.items, z.closing, z.at),
      ),
    )

-- what the value gives and costs
inner_here : (t : ℕ) (x : After-inside_map-steps t) (kvs : KeyValues) (cl : List Slice) (h : ValueAt x.args.event.text.now x.args.event.table.now x.args.i (map_of kvs cl))
    → Inner x.args.self.text.now x.args.self.paths.now x.args.self.matched (key_here x.args.event.text.now x.args.event.table.now x.after_prefix-k.result) x.args.self.numbers.now x.args.self.going x.after_prefix-w.result (the_value (x.loop-next.invariant.1 kvs cl h) x.loop-next-test.ensures) x.match_key-on.new.answers x.inside_map-steps.new.answers x.inside_map-steps.result
inner_here t x kvs cl h =
    let s = x.args.self in
    let e = x.args.event in
    let r = x.loop-next.invariant.1 kvs cl h in
    let m = x.loop-next-test.ensures in
    let w = x.after_prefix-w.result in
    let there = value_is r m x.after_prefix-k.ensures x.next_tree-v.ensures x.after_prefix-w.ensures in
    let z = the_map e.text.now e.table.now w _ refl (the_value r m) there (x.if-not-is.ensures.0 refl) in
    let o = x.in-Some.ensures in
    let key = key_here e.text.now e.table.now x.after_prefix-k.result in
    subst (λ (v : TokenValue). Inner s.text.now s.paths.now s.matched key s.numbers.now s.going w v x.match_key-on.new.answers x.inside_map-steps.new.answers x.inside_map-steps.result) (sym z.is)
    (inner_map s.text.now s.paths.now s.matched key s.numbers.now s.going w z.items z.closing _ _ _ (omega (arith, o.0, ap length o.4.list))
    (walked_same o.1 o.2 o.3 o.4.list (x.inside_map-steps.ensures z.items z.closing z.at)))

pub overflow_add-steps-in-loop-next : goal.overflow_add-steps-in-loop-next
overflow_add-steps-in-loop-next t c = let kv = c.requires.map in
    let x = (goal.at.overflow_add-steps-in-loop-next t c).After-inside_map-steps in
    omega (arith, (inner_here t x kv.0 kv.1 kv.2).steps, steps_fit (c.loop-next.invariant.1 kv.0 kv.1 kv.2) c.loop-next-test.ensures c.after_prefix-k.ensures c.next_tree-v.ensures c.after_prefix-w.ensures, (in_map c.args.i c.behind-end.ensures kv.2).all, c.behind-end.ensures, c.requires.inside)

pub loop-next-preserved : goal.loop-next-preserved
loop-next-preserved t c =
    let x = (goal.at.loop-next-preserved t c).After-inside_map-steps in
    let kv = c.requires.map in (
      (inner_here t x kv.0 kv.1 kv.2).size,
      λ kvs cl h. turn (c.loop-next.invariant.1 kvs cl h) c.loop-next-test.ensures c.after_prefix-k.ensures c.next_tree-v.ensures c.after_prefix-w.ensures c.next_tree-j.result c.next_tree-j.ensures c.args.self.going c.match_key-on.new.answers c.in-Some.on.numbers.now c.in-Some.ensures.4 c.inside_map-steps.new.answers c.inside_map-steps.result
          (inner_here t x kvs cl h) (c.loop-next.steps + 2 + c.inside_map-steps.result) refl,
    )

pub returns : goal.returns
returns t c kvs cl h =
    let s = c.args.self in
    let e = c.args.event in
    subst (λ (n : ℕ). Walked s.text.now s.paths.now s.matched s.numbers.now n kvs c.args.answers.now c.loop-next.answers c.loop-next.steps) (add-one c.args.i)
    (through_end e.text.now e.table.now c.behind-end.result s.text.now s.paths.now s.matched s.numbers.now kvs cl (c.args.i + 1) c.args.answers.now c.loop-next.answers c.loop-next.j c.loop-next.steps (c.loop-next.invariant.1 kvs cl h) (sym c.loop-next-test.ensures) c.loop-next.invariant.0)
