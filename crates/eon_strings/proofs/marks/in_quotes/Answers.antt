use Rattle.std.proofs.Common.{sym, ap, ◌∙◌, subst}
use Rattle.eon_spec.specs.Refused.{number_of}
use Rattle.eon_spec.specs.Unquote.{value, unescape, plain, one_line_only, drop_line_feed}
use Rattle.eon_unescape.specs.Views.{kept}
use Rattle.std.proofs.lemmas.Result.{IfOk-weaker}
use Rattle.eon_strings.specs.declared.marks.Contents.{Contents}
use Rattle.eon_strings.proofs.Openings.{first_mark, second_mark, third_mark, fourth_mark, no_mark, closed, unclosed, given_err, no_single, plain_mode}
use Rattle.eon_strings.specs.Views.{PieceOf}
use Rattle.eon_strings.proofs.Pieces.{between_marks, rest_of_piece}
use Rattle.eon_strings.proofs.marks.in_quotes.Goals as goal

pub returns-in-Some-clause-given : goal.returns-in-Some-clause-given
returns-in-Some-clause-given c =
    let r = c.in-Some in let i = c.in_ok-inner in
    first_mark (kept c.args.text.now) (kept r.rest.now) r.ensures.is ∙ closed 39 3 (λ t. value (drop_line_feed t)) (kept r.rest.now) (kept i.inner.now) i.ensures.is ∙ ap value c.without_line_feed.ensures.dropped

pub returns-in_err-inner-clause-given : goal.returns-in_err-inner-clause-given
returns-in_err-inner-clause-given c =
    let r = c.in-Some in let x = c.in_err-inner.field-0.0 in
    first_mark (kept c.args.text.now) (kept r.rest.now) r.ensures.is ∙ unclosed 39 3 (λ t. value (drop_line_feed t)) (kept r.rest.now) (number_of x) c.in_err-inner.ensures ∙ given_err c.from_residual.result x c.from_residual.ensures.1

pub returns-in-Some-behind-clause-given : goal.returns-in-Some-behind-clause-given
returns-in-Some-behind-clause-given c =
    let r = c.in-Some-behind in let i = c.in_ok-inner-2 in
    second_mark (kept c.args.text.now) (kept r.rest.now) c.in_default.ensures r.ensures.is ∙ closed 39 1 (one_line_only value) (kept r.rest.now) (kept i.inner.now) i.ensures.is ∙ c.one_line.ensures.given

pub returns-in_err-inner-2-clause-given : goal.returns-in_err-inner-2-clause-given
returns-in_err-inner-2-clause-given c =
    let r = c.in-Some-behind in let x = c.in_err-inner-2.field-0.0 in
    second_mark (kept c.args.text.now) (kept r.rest.now) c.in_default.ensures r.ensures.is ∙ unclosed 39 1 (one_line_only value) (kept r.rest.now) (number_of x) c.in_err-inner-2.ensures ∙ given_err c.from_residual-in_err-inner-2.result x c.from_residual-in_err-inner-2.ensures.1

pub returns-in-Some-behind-2-clause-given : goal.returns-in-Some-behind-2-clause-given
returns-in-Some-behind-2-clause-given c =
    let r = c.in-Some-behind-2 in let i = c.in_ok-inner-3 in
    third_mark (kept c.args.text.now) (kept r.rest.now) c.in_default.ensures c.in_default-behind.ensures r.ensures.is ∙ closed 34 3 (unescape plain) (kept r.rest.now) (kept i.inner.now) i.ensures.is

pub returns-in_err-inner-3-clause-given : goal.returns-in_err-inner-3-clause-given
returns-in_err-inner-3-clause-given c =
    let r = c.in-Some-behind-2 in let x = c.in_err-inner-3.field-0.0 in
    third_mark (kept c.args.text.now) (kept r.rest.now) c.in_default.ensures c.in_default-behind.ensures r.ensures.is ∙ unclosed 34 3 (unescape plain) (kept r.rest.now) (number_of x) c.in_err-inner-3.ensures ∙ given_err c.from_residual-in_err-inner-3.result x c.from_residual-in_err-inner-3.ensures.1

pub returns-in-Some-behind-3-clause-given : goal.returns-in-Some-behind-3-clause-given
returns-in-Some-behind-3-clause-given c =
    let r = c.in-Some-behind-3 in let i = c.in_ok-inner-4 in
    fourth_mark (kept c.args.text.now) (kept r.rest.now) c.in_default.ensures c.in_default-behind.ensures c.in_default-behind-2.ensures r.ensures.is ∙ closed 34 1 (one_line_only (unescape plain)) (kept r.rest.now) (kept i.inner.now) i.ensures.is ∙ c.one_line-in-Some-behind-3.ensures.given

pub returns-in_err-inner-4-clause-given : goal.returns-in_err-inner-4-clause-given
returns-in_err-inner-4-clause-given c =
    let r = c.in-Some-behind-3 in let x = c.in_err-inner-4.field-0.0 in
    fourth_mark (kept c.args.text.now) (kept r.rest.now) c.in_default.ensures c.in_default-behind.ensures c.in_default-behind-2.ensures r.ensures.is ∙ unclosed 34 1 (one_line_only (unescape plain)) (kept r.rest.now) (number_of x) c.in_err-inner-4.ensures ∙ given_err c.from_residual-in_err-inner-4.result x c.from_residual-in_err-inner-4.ensures.1

pub returns-in-Some-behind-2-clause-mode : goal.returns-in-Some-behind-2-clause-mode
returns-in-Some-behind-2-clause-mode c = no_single c.args.text.now c.in_default-behind.ensures

pub returns-in-Some-behind-3-clause-mode : goal.returns-in-Some-behind-3-clause-mode
returns-in-Some-behind-3-clause-mode c =
    let s = c.args.text.now in
    IfOk-weaker _ _ _ (λ (x : Contents) h. plain_mode s x.mode (no_single s c.in_default-behind.ensures) h) c.one_line-in-Some-behind-3.ensures.mode

pub returns-clause-given : goal.returns-clause-given
returns-clause-given c = no_mark (kept c.args.text.now) c.in_default.ensures c.in_default-behind.ensures c.in_default-behind-2.ensures c.in_default-behind-3.ensures

pub returns-in-Some-clause-piece : goal.returns-in-Some-clause-piece
returns-in-Some-clause-piece c =
    let rest = c.without_line_feed.ensures in
    rest_of_piece _ _ _ (between_marks _ _ _ c.in-Some.ensures.behind c.in_ok-inner.ensures.before) rest.behind rest.shorter

pub returns-in-Some-behind-clause-piece : goal.returns-in-Some-behind-clause-piece
returns-in-Some-behind-clause-piece c =
    let s = c.args.text.now in
    let piece = between_marks s _ _ c.in-Some-behind.ensures.behind c.in_ok-inner-2.ensures.before in
    IfOk-weaker _ _ _ (λ (x : Contents) h. subst (PieceOf s) (sym h) piece) c.one_line.ensures.text

pub returns-in-Some-behind-2-clause-piece : goal.returns-in-Some-behind-2-clause-piece
returns-in-Some-behind-2-clause-piece c = between_marks _ _ _ c.in-Some-behind-2.ensures.behind c.in_ok-inner-3.ensures.before

pub returns-in-Some-behind-3-clause-piece : goal.returns-in-Some-behind-3-clause-piece
returns-in-Some-behind-3-clause-piece c =
    let s = c.args.text.now in
    let piece = between_marks s _ _ c.in-Some-behind-3.ensures.behind c.in_ok-inner-4.ensures.before in
    IfOk-weaker _ _ _ (λ (x : Contents) h. subst (PieceOf s) (sym h) piece) c.one_line-in-Some-behind-3.ensures.text
