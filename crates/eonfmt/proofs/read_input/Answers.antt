-- The part that a read fills joins what was read before.
use Rattle.std.proofs.Common.{◌≡◌, ℕ, ◌+◌, ◌≤◌, List, ◌++◌, rules, length, take, ap, ap₂, ◌∙◌, sym, subst, le_refl, drop_at, length-take-le, take-add}
use Rattle.std.proofs.lemmas.List.{take-append-le}
use Rattle.std.proofs.lemmas.Slice.{take-put_mid_below}
use Rattle.std.specs.Io.KnownBytes.{Consumes}
use Rattle.std.proofs.KnownBytes.{Consumes-trans}
use borrow.Rule.Slice.PartMut.{put_mid, post_of}
use Rattle.eonfmt.proofs.read_input.Goals as goal

-- what stands before the part that was lent, and the first bytes that were written to it
filled : (a k n : ℕ) (xs ys : List ℕ) → a ≤ length xs → n ≤ length ys → take (a + n) (put_mid a k xs ys) ≡ take a xs ++ take n ys
filled a k n xs ys within fits =
    take-add a n _ ∙ ap₂ (λ l m. l ++ m) (take-put_mid_below a k xs ys a (le_refl a) within) (ap (take n) (drop_at (take a xs) _ a (length-take-le a xs within)) ∙ take-append-le n ys (post_of a k xs) fits)

pub loop-n-preserved-in-Ok : goal.loop-n-preserved-in-Ok
loop-n-preserved-in-Ok g c =
    let part = filled _ _ _ _ _ c.loop-n.invariant.0 c.in-Ok.ensures.bound.0 in
    (search rules, subst (Consumes _ _) (sym part) (Consumes-trans _ _ _ _ _ c.loop-n.invariant.1 c.in-Ok.ensures.bytes.0))
