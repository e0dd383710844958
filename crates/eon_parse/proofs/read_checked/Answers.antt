use Rattle.std.proofs.Common.{◌≡◌, ℕ, true, List, Err, Result, sym, ap, ◌∙◌, subst, arith, rules}
use Rattle.eon_spec.specs.Calls.{outcome_of, after, done, refused_with, read_call}
use Rattle.eon_spec.specs.Refused.{refusal_of}
use Rattle.eon_spec.specs.declared.refusal.Refusal.{Refusal}
use Rattle.eon_parse.proofs.Calls.{read_no, few_told, read_full, read_map, read_single, read_several}
use Rattle.eon_parse.specs.Tops.{Starts, start_of}
use Rattle.eon_parse.proofs.Tops.{starts_at}
use Rattle.eon_parse.proofs.read_checked.Goals as goal
use Rattle.eon_parse.proofs.read_checked.Goals.{After-bytes-text}

-- the walk at the text's start
started : (c : After-bytes-text) → Starts c.bytes-text.result.now c.start-w.result
started c = let b = c.bytes-text.ensures in starts_at _ b.utf8 b.short _ true (c.start-w.ensures ∙ ap (λ (t : List ℕ). start_of t true) (sym b.same))

pub returns-in_err-top : goal.returns-in_err-top
returns-in_err-top c = let b = c.bytes-text.ensures in
    let e : c.from_residual.result ≡ Err c.in_err-top.field-0.0 = search rules in
    subst (λ (s : List ℕ). after (outcome_of c.from_residual.result) c.args.table.now ≡ read_call s c.args.table.now) b.same
    (ap (λ (r : Result ℕ Refusal). after (outcome_of r) c.args.table.now) e ∙ read_no _ _ b.utf8 b.short _ _ _ (sym c.whole.ensures.answer ∙ c.in_err-top.was))

pub overflow_mul-count : goal.overflow_mul-count
overflow_mul-count c = let b = c.bytes-text.ensures in
    omega (arith, few_told _ c.args.table.now b.utf8 b.short _ _ _ (sym c.whole.ensures.answer ∙ c.in_ok-top.was))

pub returns-then-table-count : goal.returns-then-table-count
returns-then-table-count c = let b = c.bytes-text.ensures in
    subst (λ (s : List ℕ). after (refused_with (refusal_of c.new.result)) c.args.table.now ≡ read_call s c.args.table.now) b.same
    (ap (λ (r : Refusal). after (refused_with (refusal_of r)) c.args.table.now) c.new.ensures ∙ read_full _ _ b.utf8 b.short _ _ _ (sym c.whole.ensures.answer ∙ c.in_ok-top.was) c.if-table-count.true)

pub returns-in-Map : goal.returns-in-Map
returns-in-Map c = let b = c.bytes-text.ensures in
    subst (λ (t : List ℕ). after (done c.in_ok-top.top.count) c.as_map.new.out ≡ read_call t c.args.table.now) b.same
    (read_map _ _ b.utf8 b.short _ (started (goal.at.returns-in-Map c).After-bytes-text) _ _ _ (sym c.whole.ensures.answer ∙ c.in_ok-top.was) c.if-table-count.false _ c.in-Map.is c.as_map.ensures.stored)

pub returns-in-Single : goal.returns-in-Single
returns-in-Single c = let b = c.bytes-text.ensures in
    subst (λ (t : List ℕ). after (done c.in_ok-top.top.count) c.one.new.out ≡ read_call t c.args.table.now) b.same
    (read_single _ _ b.utf8 b.short _ (started (goal.at.returns-in-Single c).After-bytes-text) _ _ _ (sym c.whole.ensures.answer ∙ c.in_ok-top.was) c.if-table-count.false _ c.in-Single.is c.one.ensures.stored)

pub returns-in-Several : goal.returns-in-Several
returns-in-Several c = let b = c.bytes-text.ensures in
    subst (λ (t : List ℕ). after (done c.in_ok-top.top.count) c.as_list.new.out ≡ read_call t c.args.table.now) b.same
    (read_several _ _ b.utf8 b.short _ (started (goal.at.returns-in-Several c).After-bytes-text) _ _ _ (sym c.whole.ensures.answer ∙ c.in_ok-top.was) c.if-table-count.false _ c.in-Several.is c.as_list.ensures.stored)
