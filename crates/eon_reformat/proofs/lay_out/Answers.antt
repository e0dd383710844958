-- The table's room, then the output's, and then both are written.
use Rattle.std.proofs.Common.{◌≡◌, ℕ, ◌*◌, ◌≤◌, length, Err, Result, sym, ap, ◌∙◌, arith, length-take-le, rules}
use Rattle.eon_spec.specs.declared.refusal.Refusal.{Refusal}
use Rattle.eon_spec.specs.Calls.{after_both, outcome_of}
use Rattle.eon_reformat.proofs.OneCall.{words_within, table_short, out_short, both_written}
use Rattle.eon_reformat.proofs.lay_out.Goals.{Else-table-n}
use Rattle.eon_reformat.proofs.lay_out.Goals as goal

pub returns-then-table-n : goal.returns-then-table-n
returns-then-table-n c = let a = c.args in
    table_short a.text.now a.work.now a.table.now a.options.now a.out.now a.n c.requires.settings c.requires.finished _ (search (rules, c.new.ensures)) (omega (arith, c.if-table-n.true))

-- the words' room
room : (c : Else-table-n) → 5 * c.args.n ≤ length c.args.table.now
room c = omega (arith, c.if-table-n.false)

within : (c : Else-table-n) → 5 * c.args.n ≤ length c.args.work.now
within c = let a = c.args in
    words_within a.text.now a.work.now a.table.now a.options.now a.out.now a.n c.requires.settings c.requires.finished

pub returns-in_err-bytes : goal.returns-in_err-bytes
returns-in_err-bytes c = let a = c.args in
    let f = c.format_finished in
    let e : c.from_residual.result ≡ Err c.in_err-bytes.field-0.0 = search rules in
    ap (λ (r : Result ℕ Refusal). after_both (outcome_of r) a.table.now f.new.out) e
    ∙ out_short a.text.now a.work.now a.table.now a.options.now a.out.now a.n c.requires.settings c.requires.finished f.result c.in_err-bytes.field-0.0 f.new.out (room (goal.at.returns-in_err-bytes c).Else-table-n) c.in_err-bytes.was f.ensures

pub slice_bounds-copy_from_slice-end-3 : goal.slice_bounds-copy_from_slice-end-3
slice_bounds-copy_from_slice-end-3 c = sym (length-take-le (5 * c.args.n) c.args.work.now (within (goal.at.slice_bounds-copy_from_slice-end-3 c).Else-table-n))

pub copy_from_slice-requires : goal.copy_from_slice-requires
copy_from_slice-requires c = let e = (goal.at.copy_from_slice-requires c).Else-table-n in
    length-take-le (5 * c.args.n) c.args.table.now (room e) ∙ sym (length-take-le (5 * c.args.n) c.args.work.now (within e))

pub returns : goal.returns
returns c = let a = c.args in
    let f = c.format_finished in
    both_written a.text.now a.work.now a.table.now a.options.now a.out.now a.n c.requires.settings c.requires.finished f.result c.in_ok-bytes.bytes f.new.out _ (room (goal.at.returns c).Else-table-n) c.in_ok-bytes.was f.ensures (search (rules, c.copy_from_slice.ensures.after))
