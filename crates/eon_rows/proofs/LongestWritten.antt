-- Demand 3's premise on the written text's length, by computing: 65,535 bytes meet it, and of one byte more the evening refuses the text.
-- In a module of its own, since each row takes seconds.
use Rattle.std.proofs.Common.{◌≡◌, ℕ, List, [], ◌∷◌, ◌++◌, take, drop, replicate, refl}
use Rattle.eon_rows.proofs.Computing.{reads, writes, bytes}
use Rattle.eon_rows.proofs.Premises.{met, all_met}

-- a pair whose written text is two bytes longer than it
abbrev pair_of : ℕ → List ℕ
pair_of n = bytes "a:'" ++ replicate n 97 ++ bytes "'"

written_65535 : met (pair_of 65529) ≡ all_met
unfolding met bytes
written_65535 = refl

written_65536_met : met (pair_of 65530) ≡ 0 ∷ 1 ∷ 1 ∷ 1 ∷ 1 ∷ 0 ∷ []
unfolding met bytes
written_65536_met = refl

-- 1
written_65536 : take 1 (reads (drop 1 (writes (pair_of 65530)))) ≡ 1 ∷ []
unfolding writes bytes
written_65536 = refl
