use Rattle.std.proofs.Common.{◌≡◌, ◌+◌, not, nat_eq, sym, refl, ap, ◌∙◌, rules}
use Rattle.eon_spec.specs.declared.token_kind.TokenKind.TheVariants.{Comment}
use Rattle.eon_token.specs.Machine.{hit}
use Rattle.eon_token.proofs.Bytes.{feed_is, slash_class, only_slash, span_keeps}
use Rattle.eon_token.proofs.Steps.{slash_one, comments, found, ran}
use Rattle.eon_token.proofs.token_kind.slash.Goals as goal

pub returns-then-not-stands : goal.returns-then-not-stands
returns-then-not-stands c =
    let s = c.args.text.now in
    let start = c.args.start in
    ran s start c.stray.result _ c.stray.ensures (slash_one s start c.requires.within (slash_class _ c.requires.slash) (λ l e. c.if-not-stands.ensures l (only_slash _ e)))

pub returns : goal.returns
returns c =
    let s = c.args.text.now in
    let start = c.args.start in
    let e = span_keeps _ s 1 18 (λ b x e. let z : x ≡ not (nat_eq b 10) = search rules in feed_is b ∙ sym z) (start + 1 + 1) _ c.end_while-end.ensures.ends in
    let next = c.if-not-stands.ensures in
    c.new.ensures ∙ found s start Comment 1 c.end_while-end.result refl (comments s start c.requires.within (slash_class _ c.requires.slash) next.0 (slash_class _ next.1) ∙ ap (hit 1) (sym e))
