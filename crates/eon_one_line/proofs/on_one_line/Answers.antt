-- A simple record more on the line.
use Rattle.std.proofs.Common.{◌≡◌, ℕ, ◌+◌, ◌-◌, Bool, true, false, ◌&&◌, eqb, cond, refl, sym, ap, ◌∙◌, arith, rules}
use Rattle.eon_one_line.specs.Flat.{width_at, line_at}
use Rattle.eon_one_line.proofs.Words.{line_go}
use Rattle.eon_table.specs.Words.{word}
use Rattle.eon_table.proofs.OfKind.{is_eqb}
use Rattle.eon_one_line.proofs.on_one_line.Goals as goal

and_cond : (n b : Bool) → cond b n false ≡ (n && b)
and_cond true true = refl
and_cond true false = refl
and_cond false true = refl
and_cond false false = refl

pub loop-j-preserved : goal.loop-j-preserved
loop-j-preserved c = let a = c.args in
    let s = a.sheet.text.now in
    let tb = a.sheet.table.now in
    let j = c.loop-j.j in
    let n : cond (eqb (word tb j 0) 2) c.loop-j.numbers false ≡ (c.loop-j.numbers && c.is-numbers.result) = and_cond c.loop-j.numbers (eqb (word tb j 0) 2) ∙ ap (λ (b : Bool). c.loop-j.numbers && b) (sym (is_eqb c.is-numbers.result (word tb j 0) 2 c.is-numbers.ensures)) in (
      omega (arith, c.loop-j.invariant.0, c.width-wide.ensures.sized),
      c.loop-j.invariant.1
          ∙ line_go s tb a.end c.loop-j.numbers c.loop-j.wide j (omega arith) (search rules) (search rules)
          ∙ ap (λ (x : Bool). line_at s tb a.end x (c.loop-j.wide + width_at s tb j) (j + 1) (a.end - (j + 1))) n
          ∙ ap (λ (x : ℕ). line_at s tb a.end (c.loop-j.numbers && c.is-numbers.result) (c.loop-j.wide + x) (j + 1) (a.end - (j + 1))) (sym c.width-wide.ensures.value),
    )
