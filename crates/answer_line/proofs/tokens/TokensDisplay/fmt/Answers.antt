use Rattle.std.proofs.Common.{ℕ, false, List, [], ◌++◌, is_some, sym, refl, ap, ◌∙◌, append_assoc, append-nil, arith, rules}
use Rattle.std.proofs.Output.{has_written_append, has_written_of_eq}
use Rattle.eon_token.proofs.Text.{boundary_start}
use Rattle.eon_token.proofs.Laws.{end_boundary, bounds, tokens_start, tokens_none, tokens_some}
use Rattle.eon_token.specs.Placed.{token_of}
use Rattle.answer_line.specs.Printed.{token_text, tokens_text}
use Rattle.answer_line.proofs.tokens.TokensDisplay.fmt.Goals as goal

pub loop-kind-smaller : goal.loop-kind-smaller
loop-kind-smaller g c = let text = c.bytes-text.ensures in
    omega (arith, bounds c.bytes-text.result.now text.utf8 c.loop-kind.from c.loop-kind.invariant.0 c.next_token-token.result c.next_token-token.ensures (ap is_some c.in-Some.is))

pub loop-kind-init : goal.loop-kind-init
loop-kind-init g c = (boundary_start _, λ plain. ([], search rules, ap tokens_text (sym (tokens_start _))))

pub loop-kind-preserved : goal.loop-kind-preserved
loop-kind-preserved g c =
    let s = c.bytes-text.result.now in
    let utf8 = c.bytes-text.ensures.utf8 in
    let at = c.loop-kind.from in
    let boundary = c.loop-kind.invariant.0 in
    let r = c.next_token-token.result in
    let found = c.next_token-token.ensures in
    let more = tokens_some s utf8 at boundary r found false (ap is_some c.in-Some.is) in (
      end_boundary s utf8 at boundary r found,
      λ plain.
          let so_far = c.loop-kind.invariant.1 plain in
          let one = token_text (token_of s at false r) in (
            so_far.0 ++ one,
            has_written_append _ _ _ _ _ _ so_far.1 (has_written_of_eq _ _ _ _ _ (rw (c.from.ensures, c.in-Some.is, append-nil) refl) (c.in_ok-write.ensures.writes so_far.1.plain refl)),
            append_assoc so_far.0 one _ ∙ ap (λ (t : List ℕ). so_far.0 ++ t) (sym (ap tokens_text more)) ∙ so_far.2,
          ),
    )

pub returns-in_default-clause-writes : goal.returns-in_default-clause-writes
returns-in_default-clause-writes g c = λ plain _.
    let so_far = c.loop-kind.invariant.1 plain in
    let none = tokens_none c.bytes-text.result.now c.bytes-text.ensures.utf8 c.loop-kind.from c.loop-kind.invariant.0 c.next_token-token.result c.next_token-token.ensures false c.in_default.is in
    has_written_of_eq _ _ _ _ _ (rw (none, append-nil, c.bytes-text.ensures.same) at so_far.2) so_far.1
