use Rattle.std.proofs.Common.{vec_len, sym, ap, ◌∙◌, ap₂, rules}
use Rattle.answer.specs.Verbs.{trees_said}
use Rattle.answer.proofs.Said.{two_words, stood, first_refuses, second_refuses, compare_answers, compare_refuses_not, refusal_said}
use Rattle.answer.proofs.desk.Desk.compare.Goals as goal

pub returns-in_err-read : goal.returns-in_err-read
returns-in_err-read c =
    let s = c.in_ok-text1.text1.now in
    let t = c.in_ok-text2.text2.now in
    refusal_said _ c.in_err-read.field-0.0 c.from_residual-in_err-read.ensures
    ∙ sym (first_refuses s t c.as_mut_slice-table.result.now c.read.new.table (vec_len c.args.self.now.other) _ c.in_err-read.ensures)
    ∙ ap (λ n. trees_said n (vec_len c.args.self.now.other) s t) (search rules)
    ∙ two_words _ _ _ c.in_ok-text1.text1.now _ _ _ c.in_ok-text2.text2.now (trees_said (vec_len c.args.self.now.table) (vec_len c.args.self.now.other))
    c.in_ok-text1.ensures.stands (search rules) c.in_ok-text2.ensures.stands (search rules)

pub returns-in_err-read-2 : goal.returns-in_err-read-2
returns-in_err-read-2 c =
    let s = c.in_ok-text1.text1.now in
    let t = c.in_ok-text2.text2.now in
    let a = stood s c.as_mut_slice-table.result.now c.read.new.table _ c.in_ok-read.ensures in
    refusal_said _ c.in_err-read-2.field-0.0 c.from_residual-in_err-read-2.ensures
    ∙ sym (second_refuses s t _ _ c.as_mut_slice-other.result.now c.read-2.new.table a _ c.in_err-read-2.ensures)
    ∙ ap₂ (λ n k. trees_said n k s t) (search rules) (search rules)
    ∙ two_words _ _ _ c.in_ok-text1.text1.now _ _ _ c.in_ok-text2.text2.now (trees_said (vec_len c.args.self.now.table) (vec_len c.args.self.now.other))
    c.in_ok-text1.ensures.stands (search rules) c.in_ok-text2.ensures.stands (search rules)

pub returns-in_err-equal : goal.returns-in_err-equal
returns-in_err-equal c =
    let s = c.in_ok-text1.text1.now in
    let t = c.in_ok-text2.text2.now in
    let a = stood s c.as_mut_slice-table.result.now c.read.new.table _ c.in_ok-read.ensures in
    let b = stood t c.as_mut_slice-other.result.now c.read-2.new.table _ c.in_ok-read-2.ensures in
    absurd (compare_refuses_not s t _ _ _ _ a b _ c.in_err-equal.ensures)

pub returns : goal.returns
returns c =
    let s = c.in_ok-text1.text1.now in
    let t = c.in_ok-text2.text2.now in
    let a = stood s c.as_mut_slice-table.result.now c.read.new.table _ c.in_ok-read.ensures in
    let b = stood t c.as_mut_slice-other.result.now c.read-2.new.table _ c.in_ok-read-2.ensures in
    sym (compare_answers s t _ _ _ _ a b _ c.in_ok-equal.ensures)
    ∙ ap₂ (λ n k. trees_said n k s t) (search rules) (search rules)
    ∙ two_words _ _ _ c.in_ok-text1.text1.now _ _ _ c.in_ok-text2.text2.now (trees_said (vec_len c.args.self.now.table) (vec_len c.args.self.now.other))
    c.in_ok-text1.ensures.stands (search rules) c.in_ok-text2.ensures.stands (search rules)
