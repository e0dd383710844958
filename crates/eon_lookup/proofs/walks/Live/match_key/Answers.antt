use Rattle.std.proofs.Common.{ap, Bool, true, false, not, ◌≡◌, refl, sym, ap₂, ◌∙◌, subst, get_or, take, length-take-le, ◌+◌, arith}
use Rattle.std.proofs.Math.Bool.{not-not}
use Rattle.eon_spec.specs.Base.{eq_list}
use Rattle.eon_lookup.specs.Keys.{key_here, GoesOn, Going}
use Rattle.eon_lookup.specs.Live.{matches, KeyMatched}
use Rattle.eon_lookup.proofs.Turns.{no_key, a_key, going_at, text_says, turns_end, none_matched, turn_other, turn_on, turn_ends}
use Rattle.eon_lookup.proofs.Lists.{not_empty}
use Rattle.eon_lookup.proofs.Pairs.{on_going}
use Rattle.eon_lookup.proofs.walks.Live.match_key.Goals as goal
use Rattle.eon_lookup.proofs.walks.Live.match_key.Goals.{After-ne, In-loop-p, After-loop-p}

pub returns-then-not-is_key : goal.returns-then-not-is_key
returns-then-not-is_key c = let e = c.args.event in none_matched _ _ _ _ _ _ _ c.told-answers (no_key e.text.now e.table.now c.args.k (sym c.if-not-is_key.ensures))

-- the path that is looked at has a key left
here : (t : In-loop-p) → GoesOn t.args.self.paths.now t.args.self.matched (get_or t.args.self.numbers.now t.loop-p.p-index 0)
here t = going_at t.args.self.paths.now t.args.self.matched t.args.self.numbers.now t.args.self.going t.loop-p.p-index t.loop-p-test.true

pub offset_bounds-self-p : goal.offset_bounds-self-p
offset_bounds-self-p c = let h = here (goal.at.offset_bounds-self-p c).In-loop-p in omega (arith, h.small)

pub bounds-self-p : goal.bounds-self-p
bounds-self-p c = (here (goal.at.bounds-self-p c).In-loop-p).there

pub give-requires-clause-path : goal.give-requires-clause-path
give-requires-clause-path c = (here (goal.at.give-requires-clause-path c).In-loop-p).small

-- what the test of the two texts says of the path
says : (t : After-ne) (z : Bool) → t.ne.result ≡ not z → matches t.args.self.text.now t.args.self.paths.now t.args.self.matched (key_here t.args.event.text.now t.args.event.table.now t.args.k) (get_or t.args.self.numbers.now t.loop-p.p-index 0) ≡ z
says t z e =
    let a = t.args in
    text_says a.self.text.now a.self.paths.now a.self.matched (key_here a.event.text.now a.event.table.now a.k) a.self.numbers.now a.w a.answers.now _ (a_key a.event.text.now a.event.table.now a.k (sym t.if-not-is_key.ensures)) (get_or a.self.numbers.now t.loop-p.p-index 0) z
    (sym (not-not z) ∙ ap not (sym e ∙ t.ne.ensures) ∙ not-not _ ∙ ap₂ eq_list t.text.ensures t.record_text-key.ensures)

pub loop-p-preserved-then-ne : goal.loop-p-preserved-then-ne
loop-p-preserved-then-ne c =
    turn_other _ _ _ _ _ _ _ _ _ _ _ c.loop-p.invariant c.loop-p-test.true (says (goal.at.loop-p-preserved-then-ne c).After-ne false c.if-ne.true)

pub loop-p-preserved-then-behind-keys : goal.loop-p-preserved-then-behind-keys
loop-p-preserved-then-behind-keys c =
    turn_on _ _ _ _ _ _ _ _ _ _ _ c.loop-p.invariant c.loop-p-test.true (says (goal.at.loop-p-preserved-then-behind-keys c).After-ne true c.if-ne.false) c.if-behind-keys.true (omega (arith, c.loop-p-test.true, c.args.self.few))

pub loop-p-preserved : goal.loop-p-preserved
loop-p-preserved c =
    let h = here (goal.at.loop-p-preserved c).In-loop-p in
    turn_ends _ _ _ _ _ _ _ _ _ _ _ c.loop-p.invariant c.loop-p-test.true (says (goal.at.loop-p-preserved c).After-ne true c.if-ne.false) c.if-behind-keys.false h.small c.requires c.give.new.answers c.give.ensures

-- behind the last path
matched : (t : After-loop-p)
    → KeyMatched t.args.self.text.now t.args.self.paths.now t.args.self.matched (key_here t.args.event.text.now t.args.event.table.now t.args.k) t.args.self.numbers.now t.args.w t.args.answers.now t.loop-p.answers (take t.loop-p.n t.loop-p.next)
matched t = turns_end _ _ _ _ _ _ _ _ _ _ _ t.loop-p.invariant t.loop-p-test.false

pub invariant_of-result : goal.invariant_of-result
invariant_of-result c =
    let t = (goal.at.invariant_of-result c).After-loop-p in
    let l = c.loop-p in
    let on = take l.n l.next in
    let g = subst (Going c.args.self.paths.now (c.args.self.matched + 1)) (sym (matched t).list) (on_going c.args.self.text.now _ _ (key_here c.args.event.text.now c.args.event.table.now c.args.k) _ c.args.self.going) in
    let f = going_at _ _ on g 0 (not_empty on on refl c.if-is_empty.ensures) in
    record {
      left = omega (arith, f.more, f.few);
      few = omega (arith, l.invariant.few, l.invariant.inside, l.invariant.room, c.args.self.few, length-take-le l.n l.next (omega (arith, l.invariant.few, l.invariant.inside, l.invariant.room, c.args.self.few)));
      going = g;
    }
