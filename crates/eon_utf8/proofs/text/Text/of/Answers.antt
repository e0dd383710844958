use Rattle.std.proofs.Common.{ℕ, ◌≤◌, List, length, IsUtf8, sym, ap, subst, ◌∙◌, arith}
use Rattle.eon_spec.specs.Refused.{refusal_of}
use Rattle.eon_spec.specs.Calls.{done, refused_with}
use Rattle.eon_spec.specs.declared.refusal.Refusal.{Refusal}
use Rattle.eon_laws.proofs.Checked.{checked_long, checked_bad}
use Rattle.eon_laws.proofs.Str.{str_formed, valid_len}
use Rattle.eon_utf8.proofs.text.Text.of.Goals as goal

pub returns-then-bytes-gt-TEXT_MAX-clause-refused : goal.returns-then-bytes-gt-TEXT_MAX-clause-refused
returns-then-bytes-gt-TEXT_MAX-clause-refused c =
    checked_long c.args.bytes.now done c.if-bytes-gt-TEXT_MAX.true ∙ sym (ap (λ (r : Refusal). refused_with (refusal_of r)) c.new.ensures)

pub returns-in-Err-clause-refused : goal.returns-in-Err-clause-refused
returns-in-Err-clause-refused c = let v = c.in-Err.ensures.cases.1 in let short = v.short in let e = c.valid_up_to.ensures in
    checked_bad c.args.bytes.now done c.if-bytes-gt-TEXT_MAX.false c.valid_up_to.result (e ∙ valid_len c.args.bytes.now _ v) (λ z. omega (arith, short, e))
    ∙ sym (ap (λ (r : Refusal). refused_with (refusal_of r)) c.new-in-Err.ensures)

pub invariant_of-result : goal.invariant_of-result
invariant_of-result c = let e = c.in-Ok.ensures.cases in record {
  utf8 = str_formed c.in-Ok.str.now (subst IsUtf8 (sym e.0) e.1);
  short = subst (λ (s : List ℕ). length s ≤ 65535) (sym e.0) c.if-bytes-gt-TEXT_MAX.false;
}
