use Rattle.std.proofs.Common.{◌+◌, ◌<◌, get_or, sym, refl, ap, ◌∙◌, arith, rules}
use Rattle.eon_spec.specs.declared.token_kind.TokenKind.TheVariants.{Identifier, Number}
use Rattle.eon_spec.specs.Token.{kind_number}
use Rattle.eon_token.specs.Machine.{hit}
use Rattle.eon_token.proofs.KindCodes.{kind_of_lem}
use Rattle.eon_token.proofs.Bytes.{letter_class, number_class, span_keeps}
use Rattle.eon_token.proofs.Steps.{ident, numbers, marked, nothing_starts, found, ran}
use Rattle.eon_token.proofs.token_kind.lexeme.Goals as goal

pub returns-then-is_letter : goal.returns-then-is_letter
returns-then-is_letter c =
    let s = c.args.text.now in
    let start = c.args.start in
    let e = span_keeps _ s 2 3 (λ b x e. sym e) (start + 1) _ c.end_while-end.ensures.ends in
    c.new.ensures ∙ found s start Identifier 10 c.end_while-end.result refl (ident s start c.requires (letter_class _ (sym c.if-is_letter.ensures)) ∙ ap (hit 10) (sym e))

pub returns-then-is_number : goal.returns-then-is_number
returns-then-is_number c =
    let s = c.args.text.now in
    let start = c.args.start in
    let e = span_keeps _ s 2 4 (λ b x e. sym e) (start + 1) _ c.end_while-end-then-is_number.ensures.ends in
    c.new-then-is_number.ensures
    ∙ found s start Number 11 c.end_while-end-then-is_number.result refl (numbers s start c.requires (number_class _ (sym c.if-is_letter.ensures) (sym c.if-is_number.ensures)) ∙ ap (hit 11) (sym e))

pub returns-in-Some : goal.returns-in-Some
returns-in-Some c =
    let s = c.args.text.now in
    let start = c.args.start in
    let k = c.in-Some.kind in
    let small : get_or s start 0 < 256 = search (rules, c.type_inv.text) in
    c.new-in-Some.ensures ∙ found s start k (kind_number k) (start + 1) (sym (kind_of_lem k)) (marked s start c.requires small k (sym c.in-Some.ensures))

pub returns-in_default-b : goal.returns-in_default-b
returns-in_default-b c =
    let s = c.args.text.now in
    let start = c.args.start in
    let b = get_or s start 0 in
    let small : b < 256 = search (rules, c.type_inv.text) in
    ran s start c.stray.result _ c.stray.ensures
    (nothing_starts s start c.requires b refl small (sym c.if-is_number.ensures) (sym c.in_default.ensures) (λ e. omega arith) (λ e. omega arith) (λ e. omega arith))
