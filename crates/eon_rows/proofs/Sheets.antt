-- Document 01's "Sheets to try", by computing: P1 to P12 are the rows of one table, and the other sheets stand below it.
use Rattle.std.proofs.Common.{◌≡◌, [], ◌∷◌, ◌++◌, take, replicate, refl}
use Rattle.eon_rows.proofs.Computing.{reads, writes, shows, bytes, ◌has_records◌, ◌is_refused◌, ◌is_written◌, ◌is_no_string◌}

sheets :
    ("" has_records 5 ∷ 0 ∷ 0 ∷ 0 ∷ 1 ∷ [])  -- P1
    × ("" is_written "")
    × ("]" is_refused 13 ∷ 0 ∷ 1 ∷ 0 ∷ 0 ∷ [])  -- P2
    × ("a: ]" is_refused 6 ∷ 3 ∷ 4 ∷ 0 ∷ 0 ∷ [])  -- P3
    × ("a:" is_refused 5 ∷ 2 ∷ 2 ∷ 0 ∷ 0 ∷ [])  -- P4
    × ("[1" is_refused 12 ∷ 1 ∷ 2 ∷ 3 ∷ 0 ∷ [])  -- P5
    × ("[1}" is_refused 11 ∷ 2 ∷ 3 ∷ 3 ∷ 5 ∷ [])  -- P6
    × ("1 2" has_records 4 ∷ 0 ∷ 3 ∷ 3 ∷ 3 ∷ 2 ∷ 0 ∷ 1 ∷ 1 ∷ 1 ∷ 2 ∷ 2 ∷ 3 ∷ 3 ∷ 1 ∷ [])  -- P7
    × ("1 2" is_written "[1, 2]")
    × ("\"A\"()" is_written "\"A\"")  -- P8
    × ("42\n// c" is_written "42")  -- P9
    × (shows (bytes "\"\\u{}\"") ≡ 0 ∷ 0 ∷ [])  -- P10
    × ("'''" is_no_string 18)  -- P11
    × ("#" is_refused 3 ∷ 0 ∷ 1 ∷ 0 ∷ 0 ∷ [])  -- P12
unfolding reads writes shows bytes
sheets = (refl, refl, refl, refl, refl, refl, refl, refl, refl, refl, refl, refl, refl, refl)

-- "64 `[` and 64 `]` are read; with `1` in the middle, 4 at 63,64"
sixty_four : take 6 (reads (replicate 64 91 ++ replicate 64 93)) ≡ 0 ∷ 4 ∷ 0 ∷ 128 ∷ 128 ∷ 64 ∷ []
unfolding reads
sixty_four = refl

value_inside_sixty_four : reads (replicate 64 91 ++ bytes "1" ++ replicate 64 93) ≡ 4 ∷ 63 ∷ 64 ∷ 0 ∷ 0 ∷ []
unfolding reads bytes
value_inside_sixty_four = refl

-- "A list of one string of 57 bytes, quotes counted, is one line; 58 is not. Five numbers take lines."
string_57 : writes (bytes "[\"" ++ replicate 55 97 ++ bytes "\"]") ≡ 0 ∷ (bytes "[\"" ++ replicate 55 97 ++ bytes "\"]")
unfolding writes bytes
string_57 = refl

string_58 : writes (bytes "[\"" ++ replicate 56 97 ++ bytes "\"]") ≡ 0 ∷ (bytes "[\n\t\"" ++ replicate 56 97 ++ bytes "\"\n]")
unfolding writes bytes
string_58 = refl

five_numbers : "1 2 3 4 5" is_written "[\n\t1\n\t2\n\t3\n\t4\n\t5\n]"
unfolding writes bytes
five_numbers = refl

-- eonfmt's example
event_file : "round:3 // live\nbyes:[\"Half\"(7),\"Half\"(9)]\n" is_written "round: 3 // live\nbyes: [\n\t\"Half\"(7)\n\t\"Half\"(9)\n]\n"
unfolding writes bytes
event_file = refl
