use Rattle.std.proofs.Common.{sym, ap, ◌∙◌}
use Rattle.eon_token.specs.Machine.{class, plain_k, class_of}
use Rattle.eon_token.proofs.Bytes.{quote_class, only_quote}
use Rattle.eon_token.proofs.Steps.{is_quote, q_in, found, ran}
use Rattle.eon_token.proofs.token_kind.quoted.Goals as goal

pub returns-in-Some : goal.returns-in-Some
returns-in-Some c =
    let a = c.args in
    let q = a.quote in
    c.new.ensures ∙ found a.text.now a.start c.plain.result (plain_k (class_of q)) c.in-Some.end c.plain.ensures
    (q_in (is_quote q) a.text.now a.start c.requires.within (ap class c.requires.quote ∙ quote_class q) (λ l e. c.if-stands.ensures l (only_quote q _ e ∙ sym c.byte.ensures)) ∙ c.in-Some.ensures)

pub returns-in-None : goal.returns-in-None
returns-in-None c =
    let a = c.args in
    let q = a.quote in
    ran a.text.now a.start c.stray.result _ c.stray.ensures
    (q_in (is_quote q) a.text.now a.start c.requires.within (ap class c.requires.quote ∙ quote_class q) (λ l e. c.if-stands.ensures l (only_quote q _ e ∙ sym c.byte.ensures)) ∙ c.in-None.ensures)
