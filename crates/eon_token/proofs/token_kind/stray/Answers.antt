use Rattle.std.proofs.Common.{ℕ, ◌+◌, List, Some, sym, ap, ◌∙◌, drop-drop}
use Rattle.eon_spec.specs.declared.token_kind.TokenKind.TheVariants.{Invalid}
use Rattle.eon_token.specs.Machine.{span_of}
use Rattle.eon_token.proofs.Bytes.{span_keeps}
use Rattle.eon_token.proofs.Steps.{made}
use Rattle.eon_token.proofs.token_kind.stray.Goals as goal

pub returns : goal.returns
returns c =
    let s = c.args.text.now in
    let start = c.args.start in
    c.new.ensures ∙ made (Some Invalid) start (span_keeps _ s 5 5 (λ b x e. sym e) (start + 1) _ c.end_while-end.ensures.ends ∙ ap (λ (l : List ℕ). start + 1 + span_of 5 5 l) (sym (drop-drop 1 start s)))
