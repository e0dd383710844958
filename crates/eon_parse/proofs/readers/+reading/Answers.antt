use Rattle.std.proofs.Common.{◌≡◌, ℕ, Some, Err, sym, ap, ◌∙◌, arith, rules, ⊎_elim}
use Rattle.eon_spec.specs.declared.token_kind.TokenKind.TheVariants as token
use Rattle.eon_spec.specs.declared.record_kind.RecordKind.TheVariants as kind
use Rattle.eon_parse.specs.declared.walk.Begun.{Begun}
use Rattle.eon_parse.specs.Walk.{strings, list_at, map_at}
use Rattle.eon_token.specs.Place.{kind_at}
use Rattle.eon_parse.specs.Answer.{Ready, place, begun}
use Rattle.eon_parse.proofs.Left.{below_far, one_far, two_far, list_reach, map_reach}
use Rattle.eon_parse.proofs.Readings.{turns_start, stands, inside_no, turned, inside_yes, item_ready, one_no, two_no, got_ready, one_yes, colon_next, colon_no, value_next, second_no, settle_next, two_yes, value_deep, core_ready, value_no, bare_ready, value_yes, inner_ready, container_no, close_ready, close_opens, container_yes, core_by, leaf_reads, starts, token_code, some_token, over_token, token_long, string_ready, string_plain, variant_ready, variant_no, variant_close, variant_opens, variant_yes, end_reads, none_reads}
use Rattle.eon_parse.proofs.Steps.{opens, kind_yes, kind_no}
use Rattle.eon_parse.proofs.readers.+reading.Goals as goal
use Rattle.eon_parse.proofs.readers.+reading.Goals.{two-In_ok-k, string-After-enter-d, string-Else-not-next_is, nested-In-OpenList, nested-In-OpenBrace}

pub list-loop-out-init : goal.list-loop-out-init
list-loop-out-init t c = turns_start c.requires

pub list-ends-requires : goal.list-ends-requires
list-ends-requires t c = stands c.requires c.loop-out.invariant

pub list-one-requires : goal.list-one-requires
list-one-requires t c = (omega (arith, c.decreases), stands c.requires c.loop-out.invariant)

pub list-returns-in_err-d-clause-walk : goal.list-returns-in_err-d-clause-walk
list-returns-in_err-d-clause-walk t c =
    let e : c.from_residual.result ≡ Err c.in_err-d.field-0.0 = search rules in
    e ∙ (inside_no c.requires c.loop-out.invariant (sym c.ends.ensures ∙ c.loop-out-test.true) c.one.ensures.walk c.in_err-d.was c.one.new.out).walk

pub list-returns-in_err-d-clause-stored : goal.list-returns-in_err-d-clause-stored
list-returns-in_err-d-clause-stored t c =
    (inside_no c.requires c.loop-out.invariant (sym c.ends.ensures ∙ c.loop-out-test.true) c.one.ensures.walk c.in_err-d.was c.one.new.out).stored

pub list-loop-out-smaller : goal.list-loop-out-smaller
list-loop-out-smaller t c =
    (turned c.requires c.loop-out.invariant (one_far _ _ (below_far _ _)) (sym c.ends.ensures ∙ c.loop-out-test.true) c.one.ensures.walk c.one.ensures.stored c.in_ok-d.was).1

pub list-loop-out-preserved : goal.list-loop-out-preserved
list-loop-out-preserved t c =
    (turned c.requires c.loop-out.invariant (one_far _ _ (below_far _ _)) (sym c.ends.ensures ∙ c.loop-out-test.true) c.one.ensures.walk c.one.ensures.stored c.in_ok-d.was).0

pub list-comments-requires-clause-ready : goal.list-comments-requires-clause-ready
list-comments-requires-clause-ready t c = stands c.requires c.loop-out.invariant

pub list-returns-clause-walk : goal.list-returns-clause-walk
list-returns-clause-walk t c =
    (inside_yes c.requires c.loop-out.invariant (sym c.ends.ensures ∙ c.loop-out-test.false) c.comments.ensures.walk c.comments.ensures.stored).walk

pub list-returns-clause-stored : goal.list-returns-clause-stored
list-returns-clause-stored t c =
    (inside_yes c.requires c.loop-out.invariant (sym c.ends.ensures ∙ c.loop-out-test.false) c.comments.ensures.walk c.comments.ensures.stored).stored

pub map-loop-out-init : goal.map-loop-out-init
map-loop-out-init t c = turns_start c.requires

pub map-ends-requires : goal.map-ends-requires
map-ends-requires t c = stands c.requires c.loop-out.invariant

pub map-two-requires : goal.map-two-requires
map-two-requires t c = (omega (arith, c.decreases), stands c.requires c.loop-out.invariant)

pub map-returns-in_err-d-clause-walk : goal.map-returns-in_err-d-clause-walk
map-returns-in_err-d-clause-walk t c =
    let e : c.from_residual.result ≡ Err c.in_err-d.field-0.0 = search rules in
    e ∙ (inside_no c.requires c.loop-out.invariant (sym c.ends.ensures ∙ c.loop-out-test.true) c.two.ensures.walk c.in_err-d.was c.two.new.out).walk

pub map-returns-in_err-d-clause-stored : goal.map-returns-in_err-d-clause-stored
map-returns-in_err-d-clause-stored t c =
    (inside_no c.requires c.loop-out.invariant (sym c.ends.ensures ∙ c.loop-out-test.true) c.two.ensures.walk c.in_err-d.was c.two.new.out).stored

pub map-loop-out-smaller : goal.map-loop-out-smaller
map-loop-out-smaller t c =
    (turned c.requires c.loop-out.invariant (two_far _ _ (below_far _ _)) (sym c.ends.ensures ∙ c.loop-out-test.true) c.two.ensures.walk c.two.ensures.stored c.in_ok-d.was).1

pub map-loop-out-preserved : goal.map-loop-out-preserved
map-loop-out-preserved t c =
    (turned c.requires c.loop-out.invariant (two_far _ _ (below_far _ _)) (sym c.ends.ensures ∙ c.loop-out-test.true) c.two.ensures.walk c.two.ensures.stored c.in_ok-d.was).0

pub map-comments-requires-clause-ready : goal.map-comments-requires-clause-ready
map-comments-requires-clause-ready t c = stands c.requires c.loop-out.invariant

pub map-returns-clause-walk : goal.map-returns-clause-walk
map-returns-clause-walk t c =
    (inside_yes c.requires c.loop-out.invariant (sym c.ends.ensures ∙ c.loop-out-test.false) c.comments.ensures.walk c.comments.ensures.stored).walk

pub map-returns-clause-stored : goal.map-returns-clause-stored
map-returns-clause-stored t c =
    (inside_yes c.requires c.loop-out.invariant (sym c.ends.ensures ∙ c.loop-out-test.false) c.comments.ensures.walk c.comments.ensures.stored).stored

pub one-value-requires : goal.one-value-requires
one-value-requires t c =
    (omega (arith, c.less.ensures, c.decreases), item_ready _ _ c.args.depth _ _ c.requires _ c.comments-d.ensures.walk c.comments-d.ensures.stored)

pub one-returns-in_err-v-clause-walk : goal.one-returns-in_err-v-clause-walk
one-returns-in_err-v-clause-walk t c =
    let e : c.from_residual.result ≡ Err c.in_err-v.field-0.0 = search rules in
    e ∙ (one_no _ _ _ _ _ c.requires _ c.comments-d.ensures.walk c.comments-d.ensures.stored c.less.ensures c.value.ensures.walk c.in_err-v.was c.value.new.out).walk

pub one-returns-in_err-v-clause-stored : goal.one-returns-in_err-v-clause-stored
one-returns-in_err-v-clause-stored t c =
    (one_no _ _ _ _ _ c.requires _ c.comments-d.ensures.walk c.comments-d.ensures.stored c.less.ensures c.value.ensures.walk c.in_err-v.was c.value.new.out).stored

pub one-settle-requires : goal.one-settle-requires
one-settle-requires t c =
    got_ready _ _ _ _ _ c.requires _ c.comments-d.ensures.walk c.comments-d.ensures.stored c.less.ensures c.value.ensures.walk c.in_ok-v.was _ c.value.ensures.stored

pub one-returns-clause-walk : goal.one-returns-clause-walk
one-returns-clause-walk t c =
    (one_yes _ _ _ _ _ c.requires _ c.comments-d.ensures.walk c.comments-d.ensures.stored c.less.ensures c.value.ensures.walk c.in_ok-v.was _ c.value.ensures.stored c.settle.ensures.walk c.settle.ensures.stored).walk

pub one-returns-clause-stored : goal.one-returns-clause-stored
one-returns-clause-stored t c =
    (one_yes _ _ _ _ _ c.requires _ c.comments-d.ensures.walk c.comments-d.ensures.stored c.less.ensures c.value.ensures.walk c.in_ok-v.was _ c.value.ensures.stored c.settle.ensures.walk c.settle.ensures.stored).stored

pub two-value-requires : goal.two-value-requires
two-value-requires t c =
    (omega (arith, c.less.ensures, c.decreases), item_ready _ _ c.args.depth _ _ c.requires _ c.comments-d.ensures.walk c.comments-d.ensures.stored)

pub two-returns-in_err-k-clause-walk : goal.two-returns-in_err-k-clause-walk
two-returns-in_err-k-clause-walk t c =
    let e : c.from_residual.result ≡ Err c.in_err-k.field-0.0 = search rules in
    e ∙ (two_no _ _ _ _ _ c.requires _ c.comments-d.ensures.walk c.comments-d.ensures.stored c.less.ensures c.value.ensures.walk c.in_err-k.was c.value.new.out).walk

pub two-returns-in_err-k-clause-stored : goal.two-returns-in_err-k-clause-stored
two-returns-in_err-k-clause-stored t c =
    (two_no _ _ _ _ _ c.requires _ c.comments-d.ensures.walk c.comments-d.ensures.stored c.less.ensures c.value.ensures.walk c.in_err-k.was c.value.new.out).stored

-- the key is read
key_ready : (t : ℕ) (c : two-In_ok-k t) → Ready c.args.text.now c.in_ok-k.k.walk.cursor c.in_ok-k.k.walk.count
key_ready t c = got_ready _ _ _ _ _ c.requires _ c.comments-d.ensures.walk c.comments-d.ensures.stored c.less.ensures c.value.ensures.walk c.in_ok-k.was _ c.value.ensures.stored

pub two-tail-requires-clause-few : goal.two-tail-requires-clause-few
two-tail-requires-clause-few t c =
    let r = key_ready t (goal.at.two-tail-requires-clause-few t c).In_ok-k in
    omega (arith, r.few, r.bound.within, r.short)

pub two-tail-requires-clause-order : goal.two-tail-requires-clause-order
two-tail-requires-clause-order t c =
    let r = key_ready t (goal.at.two-tail-requires-clause-order t c).In_ok-k in
    r.bound.order

pub two-tail-requires-clause-short : goal.two-tail-requires-clause-short
two-tail-requires-clause-short t c =
    let r = key_ready t (goal.at.two-tail-requires-clause-short t c).In_ok-k in
    omega (arith, r.bound.within, r.short)

pub two-must-requires : goal.two-must-requires
two-must-requires t c =
    colon_next _ _ _ _ _ c.requires _ c.comments-d.ensures.walk c.comments-d.ensures.stored c.less.ensures c.value.ensures.walk c.in_ok-k.was _ c.value.ensures.stored c.tail.ensures.walk c.tail.ensures.stored

pub two-returns-in_err-x-clause-walk : goal.two-returns-in_err-x-clause-walk
two-returns-in_err-x-clause-walk t c =
    let e : c.from_residual-in_err-x.result ≡ Err c.in_err-x.field-0.0 = search rules in
    e ∙ (colon_no _ _ _ _ _ c.requires _ c.comments-d.ensures.walk c.comments-d.ensures.stored c.less.ensures c.value.ensures.walk c.in_ok-k.was _ c.value.ensures.stored c.tail.ensures.walk c.tail.ensures.stored c.must.ensures c.in_err-x.was c.tail.new.out).walk

pub two-returns-in_err-x-clause-stored : goal.two-returns-in_err-x-clause-stored
two-returns-in_err-x-clause-stored t c =
    (colon_no _ _ _ _ _ c.requires _ c.comments-d.ensures.walk c.comments-d.ensures.stored c.less.ensures c.value.ensures.walk c.in_ok-k.was _ c.value.ensures.stored c.tail.ensures.walk c.tail.ensures.stored c.must.ensures c.in_err-x.was c.tail.new.out).stored

pub two-value-requires-2 : goal.two-value-requires-2
two-value-requires-2 t c =
    (omega (arith, c.less-2.ensures, c.decreases), value_next _ _ _ _ _ c.requires _ c.comments-d.ensures.walk c.comments-d.ensures.stored c.less.ensures c.value.ensures.walk c.in_ok-k.was _ c.value.ensures.stored c.tail.ensures.walk c.tail.ensures.stored c.must.ensures c.in_ok-x.was)

pub two-returns-in_err-v-clause-walk : goal.two-returns-in_err-v-clause-walk
two-returns-in_err-v-clause-walk t c =
    let e : c.from_residual-in_err-v.result ≡ Err c.in_err-v.field-0.0 = search rules in
    e ∙ (second_no _ _ _ _ _ c.requires _ c.comments-d.ensures.walk c.comments-d.ensures.stored c.less.ensures c.value.ensures.walk c.in_ok-k.was _ c.value.ensures.stored c.tail.ensures.walk c.tail.ensures.stored c.must.ensures c.in_ok-x.was c.less-2.ensures c.value-2.ensures.walk c.in_err-v.was c.value-2.new.out).walk

pub two-returns-in_err-v-clause-stored : goal.two-returns-in_err-v-clause-stored
two-returns-in_err-v-clause-stored t c =
    (second_no _ _ _ _ _ c.requires _ c.comments-d.ensures.walk c.comments-d.ensures.stored c.less.ensures c.value.ensures.walk c.in_ok-k.was _ c.value.ensures.stored c.tail.ensures.walk c.tail.ensures.stored c.must.ensures c.in_ok-x.was c.less-2.ensures c.value-2.ensures.walk c.in_err-v.was c.value-2.new.out).stored

pub two-settle-requires : goal.two-settle-requires
two-settle-requires t c =
    settle_next _ _ _ _ _ c.requires _ c.comments-d.ensures.walk c.comments-d.ensures.stored c.less.ensures c.value.ensures.walk c.in_ok-k.was _ c.value.ensures.stored c.tail.ensures.walk c.tail.ensures.stored c.must.ensures c.in_ok-x.was c.less-2.ensures c.value-2.ensures.walk c.in_ok-v.was _ c.value-2.ensures.stored

pub two-returns-clause-walk : goal.two-returns-clause-walk
two-returns-clause-walk t c =
    (two_yes _ _ _ _ _ c.requires _ c.comments-d.ensures.walk c.comments-d.ensures.stored c.less.ensures c.value.ensures.walk c.in_ok-k.was _ c.value.ensures.stored c.tail.ensures.walk c.tail.ensures.stored c.must.ensures c.in_ok-x.was c.less-2.ensures c.value-2.ensures.walk c.in_ok-v.was _ c.value-2.ensures.stored c.settle.ensures.walk c.settle.ensures.stored).walk

pub two-returns-clause-stored : goal.two-returns-clause-stored
two-returns-clause-stored t c =
    (two_yes _ _ _ _ _ c.requires _ c.comments-d.ensures.walk c.comments-d.ensures.stored c.less.ensures c.value.ensures.walk c.in_ok-k.was _ c.value.ensures.stored c.tail.ensures.walk c.tail.ensures.stored c.must.ensures c.in_ok-x.was c.less-2.ensures c.value-2.ensures.walk c.in_ok-v.was _ c.value-2.ensures.stored c.settle.ensures.walk c.settle.ensures.stored).stored

pub value-returns-then-depth-eq0-clause-walk : goal.value-returns-then-depth-eq0-clause-walk
value-returns-then-depth-eq0-clause-walk t c = (value_deep _ _ _ _ c.args.out.now c.requires c.if-depth-eq0.true c.behind.ensures).walk

pub value-returns-then-depth-eq0-clause-stored : goal.value-returns-then-depth-eq0-clause-stored
value-returns-then-depth-eq0-clause-stored t c =
    (value_deep _ c.args.old.now _ c.args.w _ c.requires c.if-depth-eq0.true c.behind.ensures).stored

pub value-core-requires : goal.value-core-requires
value-core-requires t c =
    (omega (arith, c.decreases, c.if-depth-eq0.false), core_ready _ _ _ _ _ c.requires c.if-depth-eq0.false _ c.comments-d.ensures.walk c.comments-d.ensures.stored)

pub value-returns-in_err-x-clause-walk : goal.value-returns-in_err-x-clause-walk
value-returns-in_err-x-clause-walk t c =
    let e : c.from_residual.result ≡ Err c.in_err-x.field-0.0 = search rules in
    e ∙ (value_no _ _ _ _ _ c.requires c.if-depth-eq0.false _ c.comments-d.ensures.walk c.comments-d.ensures.stored c.core.ensures.walk c.in_err-x.was c.core.new.out).walk

pub value-returns-in_err-x-clause-stored : goal.value-returns-in_err-x-clause-stored
value-returns-in_err-x-clause-stored t c =
    (value_no _ _ _ _ _ c.requires c.if-depth-eq0.false _ c.comments-d.ensures.walk c.comments-d.ensures.stored c.core.ensures.walk c.in_err-x.was c.core.new.out).stored

pub value-suffix_end-requires : goal.value-suffix_end-requires
value-suffix_end-requires t c =
    bare_ready _ _ _ _ _ c.requires c.if-depth-eq0.false _ c.comments-d.ensures.walk c.comments-d.ensures.stored c.core.ensures.walk c.in_ok-x.was _ c.core.ensures.stored

pub value-returns-clause-walk : goal.value-returns-clause-walk
value-returns-clause-walk t c =
    (value_yes _ _ _ _ _ c.requires c.if-depth-eq0.false _ c.comments-d.ensures.walk c.comments-d.ensures.stored c.core.ensures.walk c.in_ok-x.was _ c.core.ensures.stored c.suffix_end.ensures c.at-walk.ensures).walk

pub value-returns-clause-stored : goal.value-returns-clause-stored
value-returns-clause-stored t c =
    (value_yes _ _ _ _ _ c.requires c.if-depth-eq0.false _ c.comments-d.ensures.walk c.comments-d.ensures.stored c.core.ensures.walk c.in_ok-x.was _ c.core.ensures.stored c.suffix_end.ensures c.at-walk.ensures).stored

-- the cursor behind the name
name_ready : (t : ℕ) (c : string-After-enter-d t) → Ready c.args.text.now c.enter-d.result.cursor c.enter-d.result.count
name_ready t c = string_ready _ c.args.old.now c.args.out.now _ c.requires.ready c.requires.token _ (below_far c.args.depth _) c.enter-d.ensures

-- a parenthesis follows it
paren : (t : ℕ) (c : string-Else-not-next_is t) → kind_at c.args.text.now (place c.enter-d.result) ≡ 6
paren t c = kind_yes _ c.enter-d.result.cursor c.enter-d.result.count (string_ready _ c.args.old.now c.args.out.now _ c.requires.ready c.requires.token _ (below_far c.args.depth _) c.enter-d.ensures) 6 _ c.next_is.ensures c.if-not-next_is.false

pub string-end-requires : goal.string-end-requires
string-end-requires t c = opens _ _ c.requires.ready c.requires.token kind.String _ c.enter-d.ensures _ c.begin.ensures

pub string-returns-then-not-next_is-clause-walk : goal.string-returns-then-not-next_is-clause-walk
string-returns-then-not-next_is-clause-walk t c =
    (string_plain _ _ _ _ c.requires.ready c.requires.token _ (below_far _ _) c.enter-d.ensures (kind_no _ c.enter-d.result.cursor c.enter-d.result.count (name_ready t (goal.at.string-returns-then-not-next_is-clause-walk t c).After-enter-d) 6 _ c.next_is.ensures c.if-not-next_is.true) _ c.begin.ensures _ c.end.ensures.walk _ c.end.ensures.stored).walk

pub string-returns-then-not-next_is-clause-stored : goal.string-returns-then-not-next_is-clause-stored
string-returns-then-not-next_is-clause-stored t c =
    (string_plain _ _ _ _ c.requires.ready c.requires.token _ (below_far _ _) c.enter-d.ensures (kind_no _ c.enter-d.result.cursor c.enter-d.result.count (name_ready t (goal.at.string-returns-then-not-next_is-clause-stored t c).After-enter-d) 6 _ c.next_is.ensures c.if-not-next_is.true) _ c.begin.ensures _ c.end.ensures.walk _ c.end.ensures.stored).stored

pub string-skip-requires-clause-ready : goal.string-skip-requires-clause-ready
string-skip-requires-clause-ready t c = name_ready t (goal.at.string-skip-requires-clause-ready t c).After-enter-d

pub string-list-requires : goal.string-list-requires
string-list-requires t c =
    (omega (arith, c.decreases), variant_ready _ c.args.old.now c.args.out.now _ c.requires.ready c.requires.token _ (below_far c.args.depth _) c.enter-d.ensures (paren t (goal.at.string-list-requires t c).Else-not-next_is) c.skip.ensures)

pub string-returns-in_err-i-clause-walk : goal.string-returns-in_err-i-clause-walk
string-returns-in_err-i-clause-walk t c =
    let e : c.from_residual.result ≡ Err c.in_err-i.field-0.0 = search rules in
    e ∙ (variant_no _ _ c.args.out.now _ c.requires.ready c.requires.token _ (below_far _ _) c.enter-d.ensures (paren t (goal.at.string-returns-in_err-i-clause-walk t c).Else-not-next_is) c.skip.ensures c.list.ensures.walk c.in_err-i.was c.list.new.out).walk

pub string-returns-in_err-i-clause-stored : goal.string-returns-in_err-i-clause-stored
string-returns-in_err-i-clause-stored t c =
    (variant_no _ _ _ _ c.requires.ready c.requires.token _ (below_far _ _) c.enter-d.ensures (paren t (goal.at.string-returns-in_err-i-clause-stored t c).Else-not-next_is) c.skip.ensures c.list.ensures.walk c.in_err-i.was c.list.new.out).stored

pub string-close-requires-clause-ready : goal.string-close-requires-clause-ready
string-close-requires-clause-ready t c =
    variant_close _ _ _ _ c.requires.ready c.requires.token _ (below_far _ _) c.enter-d.ensures (paren t (goal.at.string-close-requires-clause-ready t c).Else-not-next_is) c.skip.ensures c.list.ensures.walk c.in_ok-i.was _ c.list.ensures.stored

pub string-close-requires-clause-begun : goal.string-close-requires-clause-begun
string-close-requires-clause-begun t c =
    variant_opens _ _ _ _ c.requires.ready c.requires.token _ (below_far _ _) c.enter-d.ensures (paren t (goal.at.string-close-requires-clause-begun t c).Else-not-next_is) c.skip.ensures c.list.ensures.walk c.in_ok-i.was _ c.list.ensures.stored (ap (λ (b : Begun). begun b.kind b.base b.start c.enter-d.result.cursor.end) c.begin-2.ensures)

pub string-returns-clause-walk : goal.string-returns-clause-walk
string-returns-clause-walk t c =
    (variant_yes _ _ _ _ c.requires.ready c.requires.token _ (below_far _ _) c.enter-d.ensures (paren t (goal.at.string-returns-clause-walk t c).Else-not-next_is) c.skip.ensures c.list.ensures.walk c.in_ok-i.was _ c.list.ensures.stored (ap (λ (b : Begun). begun b.kind b.base b.start c.enter-d.result.cursor.end) c.begin-2.ensures) _ c.close.ensures.walk _ c.close.ensures.stored).walk

pub string-returns-clause-stored : goal.string-returns-clause-stored
string-returns-clause-stored t c =
    (variant_yes _ _ _ _ c.requires.ready c.requires.token _ (below_far _ _) c.enter-d.ensures (paren t (goal.at.string-returns-clause-stored t c).Else-not-next_is) c.skip.ensures c.list.ensures.walk c.in_ok-i.was _ c.list.ensures.stored (ap (λ (b : Begun). begun b.kind b.base b.start c.enter-d.result.cursor.end) c.begin-2.ensures) _ c.close.ensures.walk _ c.close.ensures.stored).stored

pub core-returns-in-Some-Identifier-clause-walk : goal.core-returns-in-Some-Identifier-clause-walk
core-returns-in-Some-Identifier-clause-walk t c =
    let k : c.args.w.cursor.peeked.kind ≡ Some token.Identifier = search rules in
    (core_by _ _ _ _ _ _ _ 10 (token_code _ c.args.w c.requires token.Identifier k) (leaf_reads _ _ _ _ 1 _ c.leaf.ensures.walk _ c.leaf.ensures.stored)).walk

pub core-returns-in-Some-Identifier-clause-stored : goal.core-returns-in-Some-Identifier-clause-stored
core-returns-in-Some-Identifier-clause-stored t c =
    let k : c.args.w.cursor.peeked.kind ≡ Some token.Identifier = search rules in
    (core_by _ _ _ _ _ _ _ 10 (token_code _ c.args.w c.requires token.Identifier k) (leaf_reads _ _ _ _ 1 _ c.leaf.ensures.walk _ c.leaf.ensures.stored)).stored

pub core-returns-in-Some-Number-clause-walk : goal.core-returns-in-Some-Number-clause-walk
core-returns-in-Some-Number-clause-walk t c =
    let k : c.args.w.cursor.peeked.kind ≡ Some token.Number = search rules in
    (core_by _ _ _ _ _ _ _ 11 (token_code _ c.args.w c.requires token.Number k) (leaf_reads _ _ _ _ 2 _ c.leaf-in-Some-Number.ensures.walk _ c.leaf-in-Some-Number.ensures.stored)).walk

pub core-returns-in-Some-Number-clause-stored : goal.core-returns-in-Some-Number-clause-stored
core-returns-in-Some-Number-clause-stored t c =
    let k : c.args.w.cursor.peeked.kind ≡ Some token.Number = search rules in
    (core_by _ _ _ _ _ _ _ 11 (token_code _ c.args.w c.requires token.Number k) (leaf_reads _ _ _ _ 2 _ c.leaf-in-Some-Number.ensures.walk _ c.leaf-in-Some-Number.ensures.stored)).stored

-- the token of the arm
is_list : (t : ℕ) (c : nested-In-OpenList t) → c.args.w.cursor.peeked.kind ≡ Some token.OpenList
is_list t c = sym c.kind.ensures ∙ c.in-Some.is ∙ ap Some c.in-OpenList.is

is_map : (t : ℕ) (c : nested-In-OpenBrace t) → c.args.w.cursor.peeked.kind ≡ Some token.OpenBrace
is_map t c = sym c.kind.ensures ∙ c.in-Some.is ∙ ap Some c.in-OpenBrace.is

pub nested-list-requires : goal.nested-list-requires
nested-list-requires t c =
    let k = is_list t (goal.at.nested-list-requires t c).In-OpenList in
    (omega (arith, c.decreases), inner_ready _ c.args.old.now c.args.out.now _ c.requires.ready _ (list_reach _ _ (below_far c.args.depth _)) (over_token _ _ c.requires.ready (some_token k)) c.enter.ensures)

pub nested-returns-in_err-i-in-OpenList-clause-walk : goal.nested-returns-in_err-i-in-OpenList-clause-walk
unfolding list_at
nested-returns-in_err-i-in-OpenList-clause-walk t c =
    let k = is_list t (goal.at.nested-returns-in_err-i-in-OpenList-clause-walk t c).In-OpenList in
    let e : c.from_residual.result ≡ Err c.in_err-i-in-OpenList.field-0.0 = search rules in
    e ∙ (core_by _ _ c.args.out.now _ _ _ _ 2 (token_code _ c.args.w c.requires.ready token.OpenList k) (container_no _ _ _ _ c.requires.ready _ (list_reach _ _ (below_far _ _)) (over_token _ _ c.requires.ready (some_token k)) c.enter.ensures c.list.ensures.walk 4 token.CloseList _ 0 c.in_err-i-in-OpenList.was c.list.new.out)).walk

pub nested-returns-in_err-i-in-OpenList-clause-stored : goal.nested-returns-in_err-i-in-OpenList-clause-stored
unfolding list_at
nested-returns-in_err-i-in-OpenList-clause-stored t c =
    let k = is_list t (goal.at.nested-returns-in_err-i-in-OpenList-clause-stored t c).In-OpenList in
    (core_by _ _ _ _ _ _ _ 2 (token_code _ c.args.w c.requires.ready token.OpenList k) (container_no _ _ _ _ c.requires.ready _ (list_reach _ _ (below_far _ _)) (over_token _ _ c.requires.ready (some_token k)) c.enter.ensures c.list.ensures.walk 4 token.CloseList _ 0 c.in_err-i-in-OpenList.was c.list.new.out)).stored

pub nested-close-requires-clause-ready : goal.nested-close-requires-clause-ready
nested-close-requires-clause-ready t c =
    let k = is_list t (goal.at.nested-close-requires-clause-ready t c).In-OpenList in
    close_ready _ _ _ _ c.requires.ready _ (list_reach _ _ (below_far _ _)) (over_token _ _ c.requires.ready (some_token k)) c.enter.ensures c.list.ensures.walk c.in_ok-i-in-OpenList.was _ c.list.ensures.stored

pub nested-close-requires-clause-begun : goal.nested-close-requires-clause-begun
nested-close-requires-clause-begun t c =
    let k = is_list t (goal.at.nested-close-requires-clause-begun t c).In-OpenList in
    close_opens _ _ _ _ c.requires.ready _ (list_reach _ _ (below_far _ _)) (over_token _ _ c.requires.ready (some_token k)) c.enter.ensures c.list.ensures.walk c.in_ok-i-in-OpenList.was _ c.list.ensures.stored kind.List _ _ 0 (starts _ c.args.w c.requires.ready _ _ c.begin.ensures) (token_long _ c.args.w c.requires.ready (some_token k)) (omega arith)

pub nested-returns-in_ok-i-in-OpenList-clause-walk : goal.nested-returns-in_ok-i-in-OpenList-clause-walk
unfolding list_at
nested-returns-in_ok-i-in-OpenList-clause-walk t c =
    let k = is_list t (goal.at.nested-returns-in_ok-i-in-OpenList-clause-walk t c).In-OpenList in
    (core_by _ _ _ _ _ _ _ 2 (token_code _ c.args.w c.requires.ready token.OpenList k) (container_yes _ _ _ _ c.requires.ready _ (list_reach _ _ (below_far _ _)) (over_token _ _ c.requires.ready (some_token k)) c.enter.ensures c.list.ensures.walk c.in_ok-i-in-OpenList.was _ c.list.ensures.stored kind.List token.CloseList _ 0 _ (starts _ c.args.w c.requires.ready _ kind.List c.begin.ensures) _ _ c.close.ensures.walk c.close.ensures.stored)).walk

pub nested-returns-in_ok-i-in-OpenList-clause-stored : goal.nested-returns-in_ok-i-in-OpenList-clause-stored
unfolding list_at
nested-returns-in_ok-i-in-OpenList-clause-stored t c =
    let k = is_list t (goal.at.nested-returns-in_ok-i-in-OpenList-clause-stored t c).In-OpenList in
    (core_by _ _ _ _ _ _ _ 2 (token_code _ c.args.w c.requires.ready token.OpenList k) (container_yes _ _ _ _ c.requires.ready _ (list_reach _ _ (below_far _ _)) (over_token _ _ c.requires.ready (some_token k)) c.enter.ensures c.list.ensures.walk c.in_ok-i-in-OpenList.was _ c.list.ensures.stored kind.List token.CloseList _ 0 _ (starts _ c.args.w c.requires.ready _ kind.List c.begin.ensures) _ _ c.close.ensures.walk c.close.ensures.stored)).stored

pub nested-map-requires : goal.nested-map-requires
nested-map-requires t c =
    let k = is_map t (goal.at.nested-map-requires t c).In-OpenBrace in
    (omega (arith, c.decreases), inner_ready _ c.args.old.now c.args.out.now _ c.requires.ready _ (map_reach _ _ (below_far c.args.depth _)) (over_token _ _ c.requires.ready (some_token k)) c.enter-in-OpenBrace.ensures)

pub nested-returns-in_err-i-in-OpenBrace-clause-walk : goal.nested-returns-in_err-i-in-OpenBrace-clause-walk
unfolding map_at
nested-returns-in_err-i-in-OpenBrace-clause-walk t c =
    let k = is_map t (goal.at.nested-returns-in_err-i-in-OpenBrace-clause-walk t c).In-OpenBrace in
    let e : c.from_residual-in_err-i-in-OpenBrace.result ≡ Err c.in_err-i-in-OpenBrace.field-0.0 = search rules in
    e ∙ (core_by _ _ c.args.out.now _ _ _ _ 4 (token_code _ c.args.w c.requires.ready token.OpenBrace k) (container_no _ _ _ _ c.requires.ready _ (map_reach _ _ (below_far _ _)) (over_token _ _ c.requires.ready (some_token k)) c.enter-in-OpenBrace.ensures c.map.ensures.walk 5 token.CloseBrace _ 0 c.in_err-i-in-OpenBrace.was c.map.new.out)).walk

pub nested-returns-in_err-i-in-OpenBrace-clause-stored : goal.nested-returns-in_err-i-in-OpenBrace-clause-stored
unfolding map_at
nested-returns-in_err-i-in-OpenBrace-clause-stored t c =
    let k = is_map t (goal.at.nested-returns-in_err-i-in-OpenBrace-clause-stored t c).In-OpenBrace in
    (core_by _ _ _ _ _ _ _ 4 (token_code _ c.args.w c.requires.ready token.OpenBrace k) (container_no _ _ _ _ c.requires.ready _ (map_reach _ _ (below_far _ _)) (over_token _ _ c.requires.ready (some_token k)) c.enter-in-OpenBrace.ensures c.map.ensures.walk 5 token.CloseBrace _ 0 c.in_err-i-in-OpenBrace.was c.map.new.out)).stored

pub nested-close-requires-in-OpenBrace-clause-ready : goal.nested-close-requires-in-OpenBrace-clause-ready
nested-close-requires-in-OpenBrace-clause-ready t c =
    let k = is_map t (goal.at.nested-close-requires-in-OpenBrace-clause-ready t c).In-OpenBrace in
    close_ready _ _ _ _ c.requires.ready _ (map_reach _ _ (below_far _ _)) (over_token _ _ c.requires.ready (some_token k)) c.enter-in-OpenBrace.ensures c.map.ensures.walk c.in_ok-i-in-OpenBrace.was _ c.map.ensures.stored

pub nested-close-requires-in-OpenBrace-clause-begun : goal.nested-close-requires-in-OpenBrace-clause-begun
nested-close-requires-in-OpenBrace-clause-begun t c =
    let k = is_map t (goal.at.nested-close-requires-in-OpenBrace-clause-begun t c).In-OpenBrace in
    close_opens _ _ _ _ c.requires.ready _ (map_reach _ _ (below_far _ _)) (over_token _ _ c.requires.ready (some_token k)) c.enter-in-OpenBrace.ensures c.map.ensures.walk c.in_ok-i-in-OpenBrace.was _ c.map.ensures.stored kind.Map _ _ 0 (starts _ c.args.w c.requires.ready _ _ c.begin-in-OpenBrace.ensures) (token_long _ c.args.w c.requires.ready (some_token k)) (omega arith)

pub nested-returns-in_ok-i-in-OpenBrace-clause-walk : goal.nested-returns-in_ok-i-in-OpenBrace-clause-walk
unfolding map_at
nested-returns-in_ok-i-in-OpenBrace-clause-walk t c =
    let k = is_map t (goal.at.nested-returns-in_ok-i-in-OpenBrace-clause-walk t c).In-OpenBrace in
    (core_by _ _ _ _ _ _ _ 4 (token_code _ c.args.w c.requires.ready token.OpenBrace k) (container_yes _ _ _ _ c.requires.ready _ (map_reach _ _ (below_far _ _)) (over_token _ _ c.requires.ready (some_token k)) c.enter-in-OpenBrace.ensures c.map.ensures.walk c.in_ok-i-in-OpenBrace.was _ c.map.ensures.stored kind.Map token.CloseBrace _ 0 _ (starts _ c.args.w c.requires.ready _ kind.Map c.begin-in-OpenBrace.ensures) _ _ c.close-in-OpenBrace.ensures.walk c.close-in-OpenBrace.ensures.stored)).walk

pub nested-returns-in_ok-i-in-OpenBrace-clause-stored : goal.nested-returns-in_ok-i-in-OpenBrace-clause-stored
unfolding map_at
nested-returns-in_ok-i-in-OpenBrace-clause-stored t c =
    let k = is_map t (goal.at.nested-returns-in_ok-i-in-OpenBrace-clause-stored t c).In-OpenBrace in
    (core_by _ _ _ _ _ _ _ 4 (token_code _ c.args.w c.requires.ready token.OpenBrace k) (container_yes _ _ _ _ c.requires.ready _ (map_reach _ _ (below_far _ _)) (over_token _ _ c.requires.ready (some_token k)) c.enter-in-OpenBrace.ensures c.map.ensures.walk c.in_ok-i-in-OpenBrace.was _ c.map.ensures.stored kind.Map token.CloseBrace _ 0 _ (starts _ c.args.w c.requires.ready _ kind.Map c.begin-in-OpenBrace.ensures) _ _ c.close-in-OpenBrace.ensures.walk c.close-in-OpenBrace.ensures.stored)).stored

pub nested-returns-in-DoubleQuotedString-clause-walk : goal.nested-returns-in-DoubleQuotedString-clause-walk
unfolding strings
nested-returns-in-DoubleQuotedString-clause-walk t c =
    let there : c.args.w.cursor.peeked.kind ≡ Some c.in-Some.kind = sym c.kind.ensures ∙ c.in-Some.is in
    ⊎_elim (λ e. (core_by _ _ _ _ _ _ _ 12 (token_code _ c.args.w c.requires.ready token.DoubleQuotedString (there ∙ ap Some e)) (record { walk = c.string.ensures.walk; stored = c.string.ensures.stored })).walk)
    (⊎_elim (λ e. (core_by _ _ _ _ _ _ _ 13 (token_code _ c.args.w c.requires.ready token.SingleQuotedString (there ∙ ap Some e)) (record { walk = c.string.ensures.walk; stored = c.string.ensures.stored })).walk)
    (⊎_elim (λ e. (core_by _ _ _ _ _ _ _ 14 (token_code _ c.args.w c.requires.ready token.MultilineBasicString (there ∙ ap Some e)) (record { walk = c.string.ensures.walk; stored = c.string.ensures.stored })).walk)
    (λ e. (core_by _ _ _ _ _ _ _ 15 (token_code _ c.args.w c.requires.ready token.MultilineLiteralString (there ∙ ap Some e)) (record { walk = c.string.ensures.walk; stored = c.string.ensures.stored })).walk))) c.in-DoubleQuotedString.is

pub nested-returns-in-DoubleQuotedString-clause-stored : goal.nested-returns-in-DoubleQuotedString-clause-stored
unfolding strings
nested-returns-in-DoubleQuotedString-clause-stored t c =
    let there : c.args.w.cursor.peeked.kind ≡ Some c.in-Some.kind = sym c.kind.ensures ∙ c.in-Some.is in
    ⊎_elim (λ e. (core_by _ _ _ _ _ _ _ 12 (token_code _ c.args.w c.requires.ready token.DoubleQuotedString (there ∙ ap Some e)) (record { walk = c.string.ensures.walk; stored = c.string.ensures.stored })).stored)
    (⊎_elim (λ e. (core_by _ _ _ _ _ _ _ 13 (token_code _ c.args.w c.requires.ready token.SingleQuotedString (there ∙ ap Some e)) (record { walk = c.string.ensures.walk; stored = c.string.ensures.stored })).stored)
    (⊎_elim (λ e. (core_by _ _ _ _ _ _ _ 14 (token_code _ c.args.w c.requires.ready token.MultilineBasicString (there ∙ ap Some e)) (record { walk = c.string.ensures.walk; stored = c.string.ensures.stored })).stored)
    (λ e. (core_by _ _ _ _ _ _ _ 15 (token_code _ c.args.w c.requires.ready token.MultilineLiteralString (there ∙ ap Some e)) (record { walk = c.string.ensures.walk; stored = c.string.ensures.stored })).stored))) c.in-DoubleQuotedString.is

pub nested-returns-in_default-clause-walk : goal.nested-returns-in_default-clause-walk
nested-returns-in_default-clause-walk t c =
    (end_reads _ _ c.args.out.now _ c.requires.ready _ _ c.no_value.ensures (sym c.kind.ensures ∙ c.in_default.is)).walk

pub nested-returns-in_default-kind-clause-walk : goal.nested-returns-in_default-kind-clause-walk
nested-returns-in_default-kind-clause-walk t c =
    let n = c.in_default-kind in
    (none_reads _ _ c.args.out.now _ c.requires.ready _ _ c.no_value-in_default-kind.ensures c.in-Some.kind (sym c.kind.ensures ∙ c.in-Some.is) (λ e. c.requires.no_name (sym c.kind.ensures ∙ c.in-Some.is ∙ ap Some e)) (λ e. c.requires.no_number (sym c.kind.ensures ∙ c.in-Some.is ∙ ap Some e)) n.not-OpenList n.not-OpenBrace n.not-DoubleQuotedString n.not-SingleQuotedString n.not-MultilineBasicString n.not-MultilineLiteralString).walk

pub nested-returns-in_default-clause-stored : goal.nested-returns-in_default-clause-stored
nested-returns-in_default-clause-stored t c =
    (end_reads _ c.args.old.now _ c.args.w c.requires.ready _ _ c.no_value.ensures (sym c.kind.ensures ∙ c.in_default.is)).stored

pub nested-returns-in_default-kind-clause-stored : goal.nested-returns-in_default-kind-clause-stored
nested-returns-in_default-kind-clause-stored t c =
    let n = c.in_default-kind in
    (none_reads _ c.args.old.now _ c.args.w c.requires.ready _ _ c.no_value-in_default-kind.ensures c.in-Some.kind (sym c.kind.ensures ∙ c.in-Some.is) (λ e. c.requires.no_name (sym c.kind.ensures ∙ c.in-Some.is ∙ ap Some e)) (λ e. c.requires.no_number (sym c.kind.ensures ∙ c.in-Some.is ∙ ap Some e)) n.not-OpenList n.not-OpenBrace n.not-DoubleQuotedString n.not-SingleQuotedString n.not-MultilineBasicString n.not-MultilineLiteralString).stored
