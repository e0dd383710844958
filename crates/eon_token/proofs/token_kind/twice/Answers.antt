use Rattle.std.proofs.Common.{◌+◌, sym, ap, ◌∙◌, arith}
use Rattle.eon_token.specs.Machine.{class, plain_k, multi_k, class_of}
use Rattle.eon_token.proofs.Bytes.{quote_class, only_quote}
use Rattle.eon_token.proofs.Steps.{is_quote, q_two, q_three, found}
use Rattle.eon_token.proofs.token_kind.twice.Goals as goal

pub returns-then-not-stands : goal.returns-then-not-stands
returns-then-not-stands c =
    let a = c.args in
    let r = c.requires in
    let q = a.quote in
    c.new-empty.ensures ∙ found a.text.now a.start c.plain.result (plain_k (class_of q)) (a.start + 2) c.plain.ensures
    (q_two (is_quote q) a.text.now a.start (omega (arith, r.within)) (ap class r.first ∙ quote_class q) r.within (ap class r.second ∙ quote_class q) _ (omega arith) (λ l e. c.if-not-stands.ensures l (only_quote q _ e ∙ sym c.byte.ensures)))

pub returns-in-Some : goal.returns-in-Some
returns-in-Some c =
    let a = c.args in
    let r = c.requires in
    let q = a.quote in
    let third = c.if-not-stands.ensures in
    c.new.ensures ∙ found a.text.now a.start c.multiline.result (multi_k (class_of q)) c.in-Some.close c.multiline.ensures
    (q_three (is_quote q) a.text.now a.start (omega (arith, r.within)) (ap class r.first ∙ quote_class q) r.within (ap class r.second ∙ quote_class q) _ (omega arith) third.0 (ap class (third.1 ∙ c.byte.ensures) ∙ quote_class q) _ c.in-Some.ensures)

pub returns-in-None : goal.returns-in-None
returns-in-None c =
    let a = c.args in
    let r = c.requires in
    let q = a.quote in
    let third = c.if-not-stands.ensures in
    c.new-empty.ensures ∙ found a.text.now a.start c.plain.result (plain_k (class_of q)) (a.start + 2) c.plain.ensures
    (q_three (is_quote q) a.text.now a.start (omega (arith, r.within)) (ap class r.first ∙ quote_class q) r.within (ap class r.second ∙ quote_class q) _ (omega arith) third.0 (ap class (third.1 ∙ c.byte.ensures) ∙ quote_class q) _ c.in-None.ensures)
