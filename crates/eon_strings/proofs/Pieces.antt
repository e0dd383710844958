-- What stands behind an opening mark and before a closing one is a piece of the text, and so is what a leading line feed leaves of it.
use Rattle.std.proofs.Common.{◌≡◌, ℕ, ◌+◌, ◌-◌, ◌≤◌, List, length, take, drop, ap, ◌∙◌, arith, drop-drop}
use Rattle.std.proofs.lemmas.List.{drop-take}
use Rattle.eon_unescape.specs.Views.{TailOf}
use Rattle.eon_strings.specs.Views.{FrontOf, PieceOf}

pub between_marks : (s r i : List ℕ) → TailOf s r → FrontOf r i → PieceOf s i
between_marks s r i behind before = record { from = length s - length r; is = before ∙ ap (take (length i)) behind }

pub rest_of_piece : (s i t : List ℕ) → PieceOf s i → TailOf i t → length t ≤ length i → PieceOf s t
rest_of_piece s i t p behind shorter =
    let m = length i - length t in
    let n : length i ≡ m + length t = omega arith in
    record {
      from = p.from + m;
      is =
          behind ∙ ap (drop m) (p.is ∙ ap (λ (k : ℕ). take k (drop p.from s)) n) ∙ drop-take m (length t) (drop p.from s)
          ∙ ap (take (length t)) (drop-drop m p.from s);
    }
