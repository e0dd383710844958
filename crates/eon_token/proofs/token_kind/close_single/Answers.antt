use Rattle.std.proofs.Common.{◌≡◌, ◌+◌, not, drop, nat_eq, sym, ap, ◌∙◌, arith, length-drop, rules}
use Rattle.eon_token.specs.Machine.{span_of, hit}
use Rattle.eon_token.proofs.Bytes.{single_is, span_keeps}
use Rattle.eon_token.proofs.Steps.{sq_run}
use Rattle.eon_token.proofs.token_kind.close_single.Goals as goal

pub returns-then-end-text : goal.returns-then-end-text
returns-then-end-text c =
    let s = c.args.text.now in
    let from = c.args.from in
    let l = length-drop from s in
    let e : c.end_while-end.result ≡ from + span_of 0 17 (drop from s) = span_keeps _ s 0 17 (λ b x e. let z : x ≡ not (nat_eq b 39) = search rules in single_is b ∙ sym z) from _ c.end_while-end.ensures.ends in
    (sq_run from (drop from s)).0 (omega (arith, l, c.if-end-text.true)) ∙ ap (λ n. hit 13 (n + 1)) (sym e)

pub returns-else-end-text : goal.returns-else-end-text
returns-else-end-text c =
    let s = c.args.text.now in
    let from = c.args.from in
    let l = length-drop from s in
    let e : c.end_while-end.result ≡ from + span_of 0 17 (drop from s) = span_keeps _ s 0 17 (λ b x e. let z : x ≡ not (nat_eq b 39) = search rules in single_is b ∙ sym z) from _ c.end_while-end.ensures.ends in
    (sq_run from (drop from s)).1 (omega (arith, l, c.if-end-text.false))
