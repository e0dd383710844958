use Rattle.std.proofs.Common.{Some, Ok, Err, ◌≡◌, sym, ap, ◌∙◌, subst, length, take, rules, arith}
use Rattle.eon_spec.specs.Refused.{refusal_of}
use Rattle.eon_spec.specs.Calls.{refused_with}
use Rattle.eon_spec.specs.Lookup.{IsLookup}
use Rattle.eon_table.specs.Finished.{SomeFinished}
use Rattle.eon_table.proofs.Finished.{finished_done}
use Rattle.eon_lookup.specs.Keys.{below, rests, Going, IsPaths}
use Rattle.eon_lookup.specs.Live.{Looks}
use Rattle.eon_lookup.proofs.Lists.{below_length, numbers_below}
use Rattle.eon_lookup.proofs.Forms.{rests_all}
use Rattle.eon_lookup.proofs.Result.{refusal_is, event_refused, paths_refused, form_refused, looked_up, found_is}
use Rattle.eon_lookup.proofs.Numbers.{small_tree}
use Rattle.eon_lookup.proofs.look_up.Goals as goal
use Rattle.eon_lookup.proofs.look_up.Goals.{After-from_fn-numbers, In_ok-finished, In_ok-finished-2}

-- the event's tree, and the path text's
event : (x : In_ok-finished) → SomeFinished x.args.event.text.now x.args.event.table.now x.in_ok-finished.field-0
event x = finished_done _ _ _ x.in_ok-finished.ensures

list : (x : In_ok-finished-2) → SomeFinished x.args.list.text.now x.args.list.table.now x.in_ok-finished-2.field-0
list x = finished_done _ _ _ x.in_ok-finished-2.ensures

pub returns-in_err-finished : goal.returns-in_err-finished
returns-in_err-finished c =
    let e : c.from_residual.result ≡ Err c.in_err-finished.field-0.0 = search rules in
    refusal_is c.in_err-finished.field-0.0 (event_refused _ _ _ _ _ c.in_err-finished.ensures) e c.requires

pub returns-in_err-finished-2 : goal.returns-in_err-finished-2
returns-in_err-finished-2 c =
    let e : c.from_residual-in_err-finished-2.result ≡ Err c.in_err-finished-2.field-0.0 = search rules in
    let x = event (goal.at.returns-in_err-finished-2 c).In_ok-finished in
    refusal_is c.in_err-finished-2.field-0.0 (paths_refused _ _ _ _ x.0 x.1.read _ c.in_err-finished-2.ensures) e c.requires

pub read_paths-requires : goal.read_paths-requires
read_paths-requires c = let y = list (goal.at.read_paths-requires c).In_ok-finished-2 in (_, (y.0, y.1.holds))

pub returns-in_err-paths : goal.returns-in_err-paths
returns-in_err-paths c =
    let q = c.args.list.text.now in
    let x = event (goal.at.returns-in_err-paths c).In_ok-finished in
    let y = list (goal.at.returns-in_err-paths c).In_ok-finished-2 in
    let none = subst (IsPaths q c.args.list.table.now) c.in_err-paths.ensures.ok_part c.read_paths.ensures in
    let e : c.from_residual-in_err-paths.result ≡ Err c.new.result = search rules in
    refusal_is c.new.result (form_refused _ _ _ _ x.0 x.1.read y.0 y.1.read (none.is _ y.0 y.1.holds) ∙ ap refused_with (sym (ap refusal_of c.new.ensures))) e c.requires

-- the paths that were read
some : (t : After-from_fn-numbers) → IsPaths t.args.list.text.now t.args.list.table.now (Some t.in_ok-paths.paths)
some t = subst (IsPaths t.args.list.text.now t.args.list.table.now) t.in_ok-paths.ensures.ok_part t.read_paths.ensures

-- and their numbers
all : (t : After-from_fn-numbers) → take (length t.in_ok-paths.paths.now) t.from_fn-numbers.result ≡ below (length t.in_ok-paths.paths.now)
all t =
    let items = t.from_fn-numbers.ensures.items in
    numbers_below t.from_fn-numbers.result (length t.in_ok-paths.paths.now) (omega (arith, items.long, (some t).go.0)) (λ i h. let k = (items.at i 0 (omega (arith, h, items.long))).2 in search rules)

pub invariant_of-all : goal.invariant_of-all
invariant_of-all c =
    let t = (goal.at.invariant_of-all c).After-from_fn-numbers in
    let n = length c.in_ok-paths.paths.now in
    record {
      left = omega arith;
      few = omega (arith, ap length (all t), below_length n, (some t).go.0);
      going = subst (Going c.in_ok-paths.paths.now 0) (sym (all t)) (some t).go.1;
    }

pub run-requires : goal.run-requires
run-requires c = let x = event (goal.at.run-requires c).In_ok-finished in (x.0, _, x.1.holds, small_tree _ _ x.0 x.1.read)

pub returns : goal.returns
returns c =
    let t = (goal.at.returns c).After-from_fn-numbers in
    let q = c.args.list.text.now in
    let x = event (goal.at.returns c).In_ok-finished in
    let y = list (goal.at.returns c).In_ok-finished-2 in
    let paths = c.in_ok-paths.paths.now in
    subst (λ o. IsLookup o (record { answer = Ok c.run.result; answers = c.run.new.answers })) (sym (looked_up _ _ _ _ x.0 x.1.read y.0 y.1.read (rests q paths 0 (below (length paths))) ((some t).is _ y.0 y.1.holds ∙ ap Some (sym (rests_all q paths)))))
    (found_is q paths x.0 (length paths) (some t).go.0 c.run.new.answers c.run.result
    (subst (λ old. Looks q paths 0 (below (length paths)) x.0 old c.run.new.answers c.run.result) c.requires (subst (λ live. Looks q paths 0 live x.0 c.args.answers.now c.run.new.answers c.run.result) (all t) (c.run.ensures _ x.0 x.1.holds))))
