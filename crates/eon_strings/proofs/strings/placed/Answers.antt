use Rattle.std.proofs.Common.{◌≡◌, ℕ, List, sym, ap, ◌∙◌, subst}
use Rattle.eon_spec.specs.Unquote.{unquote_chars}
use Rattle.eon_spec.specs.Calls.{after}
use Rattle.eon_unescape.specs.Views.{kept}
use Rattle.eon_strings.specs.Views.{outcome_at_start, placed_call}
use Rattle.eon_strings.proofs.Parts.{part_placed}
use Rattle.eon_strings.proofs.Whole.{err_placed, formed_text}
use Rattle.eon_strings.proofs.strings.placed.Goals as goal

pub in_quotes-requires : goal.in_quotes-requires
in_quotes-requires c = formed_text c.bytes-quoted.result.now c.bytes-quoted.ensures.utf8

pub returns-in_err-contents : goal.returns-in_err-contents
returns-in_err-contents c = let e = c.in_err-contents in
    subst (λ (s : List ℕ). after (outcome_at_start c.from_residual.result) c.args.scratch.now ≡ placed_call s c.args.scratch.now (unquote_chars (kept s))) c.bytes-quoted.ensures.same
    (err_placed c.bytes-quoted.result.now c.args.scratch.now c.from_residual.result e.field-0.0 c.from_residual.ensures.1 e.ensures.given)

pub returns-then-is_part : goal.returns-then-is_part
returns-then-is_part c =
    let q = c.bytes-quoted.result.now in let old = c.args.scratch.now in let x = c.in_ok-contents in
    part_placed q x.contents.text.now x.ensures.formed x.ensures.bytes old x.contents.mode c.opening_len.result x.ensures.mode (sym c.is_part.ensures ∙ c.if-is_part.true) c.opening_len.ensures
    ∙ ap (placed_call q old) (sym x.ensures.given)
    ∙ ap (λ (s : List ℕ). placed_call s old (unquote_chars (kept s))) c.bytes-quoted.ensures.same
