-- How long layouts get, by computing: the bound on their length has the right order, and its indentation of 65 is met.
use Rattle.std.proofs.Common.{◌≡◌, ℕ, List, ◌++◌, length, replicate, refl}
use Rattle.eon_rows.proofs.Computing.{writes, bytes, repeated}

-- the length of a text and of its layout, with a 0 for an accepted text before it
abbrev lengths : List ℕ → ℕ × ℕ
lengths s = (length s, length (writes s))

-- behind a value without brackets around it, a text inside so many lists
abbrev inside : ℕ → List ℕ → List ℕ
inside n s = bytes "1" ++ replicate n 91 ++ s ++ replicate n 93

-- `1[]` again and again: over 37 bytes for each byte, and 133 for each further 3
values : lengths (inside 63 (repeated 20 (bytes "1[]"))) ≡ (187, 6951)
unfolding writes bytes
values = refl

-- a closing comment stands 65 steps in
comment : lengths (inside 64 (bytes "//\n")) ≡ (132, 4491)
unfolding writes bytes
comment = refl
