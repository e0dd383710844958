-- Comments by the table's words, and as the definition writes them.
use Rattle.std.proofs.Common.{Option, None, Some, ◌≡◌, refl, ap, ◌∙◌, Bool, true, false, List, [], ◌∷◌, ◌++◌, ℕ, suc, ◌+◌, ◌-◌, ◌≤◌, ◌<◌, arith, length}
use Rattle.eon_spec.specs.Tree.{Slice}
use Rattle.eon_spec.specs.Layout.{Settings, add_indent, suffix_comment, indented_comments, closing}
use Rattle.eon_laws.proofs.Facts.{clash}
use Rattle.eon_format.specs.Lines.{lines, closing_lines}
use Rattle.eon_table.specs.Words.{has_suffix, text_at, Within}
use Rattle.eon_table.specs.TreeAt.{SuffixAt, CommentsAt}

-- ---- comments

pub lines_comments : (s tb : List ℕ) (o : Settings) (n k i : ℕ) (cs : List Slice) → CommentsAt s tb k i cs →
    lines s tb o n i (length cs) ≡ indented_comments o n cs
unfolding lines
lines_comments s tb o n k i [] h = refl
lines_comments s tb o n k i (c ∷ cs) h =
    ap (λ (b : List ℕ). add_indent o n ++ b ++ o.newline ++ lines s tb o n (i + 1) (length cs)) h.0.bytes
    ∙ ap (λ (b : List ℕ). add_indent o n ++ c.bytes ++ o.newline ++ b) (lines_comments s tb o n k (i + 1) cs h.1)

pub lines_more : (s tb : List ℕ) (o : Settings) (n j end : ℕ) → j < end →
    lines s tb o n j (end - j) ≡ add_indent o n ++ text_at s tb j ++ o.newline ++ lines s tb o n (j + 1) (end - (j + 1))
unfolding lines
lines_more s tb o n j end h = let e : end - j ≡ suc (end - (j + 1)) = omega arith in rw e

pub lines_none : (s tb : List ℕ) (o : Settings) (n j end : ℕ) → end ≤ j → lines s tb o n j (end - j) ≡ []
unfolding lines
lines_none s tb o n j end h = let e : end - j ≡ 0 = omega arith in rw e

pub closing_comments : (s tb : List ℕ) (o : Settings) (n i : ℕ) (empty : Bool) (cl : List Slice) → CommentsAt s tb 9 i cl →
    closing_lines s tb o n empty i (length cl) ≡ closing o n empty cl
unfolding closing_lines
closing_comments s tb o n i true [] h = refl
closing_comments s tb o n i false [] h = refl
closing_comments s tb o n i true (c ∷ cs) h = lines_comments s tb o n 9 i (c ∷ cs) h
closing_comments s tb o n i false (c ∷ cs) h = ap (λ (b : List ℕ). o.newline ++ b) (lines_comments s tb o n 9 i (c ∷ cs) h)

-- ---- closing comments by the table

pub closing_empty : (s tb : List ℕ) (o : Settings) (n i end : ℕ) (empty : Bool) → i < end → empty ≡ true →
    lines s tb o n i (end - i) ≡ closing_lines s tb o n empty i (end - i)
unfolding closing_lines
closing_empty s tb o n i end empty h e = let d : end - i ≡ suc (end - (i + 1)) = omega arith in rw (d, e)

pub closing_items : (s tb : List ℕ) (o : Settings) (n i end : ℕ) (empty : Bool) → i < end → empty ≡ false →
    o.newline ++ lines s tb o n i (end - i) ≡ closing_lines s tb o n empty i (end - i)
unfolding closing_lines
closing_items s tb o n i end empty h e = let d : end - i ≡ suc (end - (i + 1)) = omega arith in rw (d, e)

pub closing_none : (s tb : List ℕ) (o : Settings) (n i end : ℕ) (empty : Bool) → end ≤ i → [] ≡ closing_lines s tb o n empty i (end - i)
unfolding closing_lines
closing_none s tb o n i end empty h = let d : end - i ≡ 0 = omega arith in rw d

-- ---- suffix comments

pub suffix_within : (s tb : List ℕ) (end i : ℕ) (x : Option Slice) → SuffixAt s tb end i x → has_suffix tb end i ≡ true → Within s tb i
suffix_within s tb end i None h e = clash e h
suffix_within s tb end i (Some c) h e = h.1.in_text

pub suffix_some : (s tb : List ℕ) (o : Settings) (end i : ℕ) (x : Option Slice) → SuffixAt s tb end i x → has_suffix tb end i ≡ true → (32 ∷ []) ++ text_at s tb i ≡ suffix_comment o x
suffix_some s tb o end i None h e = clash e h
suffix_some s tb o end i (Some c) h e = ap (λ (b : List ℕ). 32 ∷ b) h.1.bytes

pub suffix_none : (s tb : List ℕ) (o : Settings) (end i : ℕ) (x : Option Slice) → SuffixAt s tb end i x → has_suffix tb end i ≡ false → [] ≡ suffix_comment o x
suffix_none s tb o end i None h e = refl
suffix_none s tb o end i (Some c) h e = clash h.0 e
