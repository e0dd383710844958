-- Which bytes are a text, at the edges of the Unicode standard's Table 3-7 and of the length: refusals 1 and 2 (document 01, "Refusals
-- at the desk"). The rows on lone texts agree with the original.
use Rattle.std.proofs.Common.{◌≡◌, ℕ, [], ◌∷◌, replicate, refl}
use Rattle.eon_spec.specs.Utf8.{Boundary}
use Rattle.eon_spec.specs.Parse.{refusal}
use Rattle.eon_spec.specs.Calls.{done, refused_with, place, checked, read_text}
use Rattle.eon_rows.proofs.Computing.{reads}

-- "1 overlong: text over 65,535 bytes; 65535, 65535"
overlong : read_text (replicate 65536 32) ≡ refused_with (refusal 1 (place 65535))
unfolding reads
overlong = refl

-- as many are read on
longest_text : checked {A = ℕ} (replicate 65535 32) (λ t. done 1) ≡ done 1
unfolding reads
longest_text = refl

-- "Order: 16, 1, 2": 1 before 2
overlong_before_garbled : read_text (0xFF ∷ replicate 65535 32) ≡ refused_with (refusal 1 (place 65535))
unfolding reads
overlong_before_garbled = refl

-- ---- 1 and 2

-- "2 garbled: not UTF-8; twice the length of its longest well-formed beginning": no character begins with C1 or below
lead_c1 : reads (0x61 ∷ 0xC1 ∷ 0x80 ∷ []) ≡ 2 ∷ 1 ∷ 1 ∷ 0 ∷ 0 ∷ []
unfolding reads
lead_c1 = refl

-- no character begins with F5
lead_f5 : reads (0x61 ∷ 0xF5 ∷ 0x80 ∷ 0x80 ∷ 0x80 ∷ []) ≡ 2 ∷ 1 ∷ 1 ∷ 0 ∷ 0 ∷ []
unfolding reads
lead_f5 = refl

-- E0 is followed by A0 and above
overlong_e0 : reads (0x61 ∷ 0xE0 ∷ 0x80 ∷ 0x80 ∷ []) ≡ 2 ∷ 1 ∷ 1 ∷ 0 ∷ 0 ∷ []
unfolding reads
overlong_e0 = refl

-- up to 9F it is not
overlong_e0_9f : reads (0xE0 ∷ 0x9F ∷ 0xBF ∷ []) ≡ 2 ∷ 0 ∷ 0 ∷ 0 ∷ 0 ∷ []
unfolding reads
overlong_e0_9f = refl

-- F0 is followed by 90 and above
overlong_f0 : reads (0x61 ∷ 0xF0 ∷ 0x8F ∷ 0x80 ∷ 0x80 ∷ []) ≡ 2 ∷ 1 ∷ 1 ∷ 0 ∷ 0 ∷ []
unfolding reads
overlong_f0 = refl

-- ED is followed by 9F and below: no surrogates
surrogate_ed : reads (0x61 ∷ 0xED ∷ 0xA0 ∷ 0x80 ∷ []) ≡ 2 ∷ 1 ∷ 1 ∷ 0 ∷ 0 ∷ []
unfolding reads
surrogate_ed = refl

-- F4 is followed by 8F and below: nothing beyond 10FFFF
beyond_f4 : reads (0x61 ∷ 0xF4 ∷ 0x90 ∷ 0x80 ∷ 0x80 ∷ []) ≡ 2 ∷ 1 ∷ 1 ∷ 0 ∷ 0 ∷ []
unfolding reads
beyond_f4 = refl

-- a further byte alone is no character
trailing_alone : reads (0x61 ∷ 0x80 ∷ []) ≡ 2 ∷ 1 ∷ 1 ∷ 0 ∷ 0 ∷ []
unfolding reads
trailing_alone = refl

-- a further byte is 80 and above
trailing_too_low : reads (0xC3 ∷ 0x7F ∷ []) ≡ 2 ∷ 0 ∷ 0 ∷ 0 ∷ 0 ∷ []
unfolding reads
trailing_too_low = refl

-- a further byte is BF and below
trailing_too_high : reads (0xC3 ∷ 0xC0 ∷ []) ≡ 2 ∷ 0 ∷ 0 ∷ 0 ∷ 0 ∷ []
unfolding reads
trailing_too_high = refl

-- a character that is cut off counts from its first byte
cut_character : reads (0x61 ∷ 0x62 ∷ 0xE2 ∷ 0x82 ∷ []) ≡ 2 ∷ 2 ∷ 2 ∷ 0 ∷ 0 ∷ []
unfolding reads
cut_character = refl

-- the beginning ends at the first fault
first_of_two_faults : reads (0xC3 ∷ 0xA9 ∷ 0xFF ∷ 0xFF ∷ []) ≡ 2 ∷ 2 ∷ 2 ∷ 0 ∷ 0 ∷ []
unfolding reads
first_of_two_faults = refl

-- ---- what is well-formed is read: as strings, since no token holds such characters otherwise

-- the first and the last character of two bytes
edges_of_two : reads (0x27 ∷ 0xC2 ∷ 0x80 ∷ 0xDF ∷ 0xBF ∷ 0x27 ∷ []) ≡ 0 ∷ 3 ∷ 0 ∷ 6 ∷ 6 ∷ 1 ∷ []
unfolding reads
edges_of_two = refl

-- of three bytes, and beside the surrogates
edges_of_three : reads (0x27 ∷ 0xE0 ∷ 0xA0 ∷ 0x80 ∷ 0xEC ∷ 0xBF ∷ 0xBF ∷ 0xED ∷ 0x80 ∷ 0x80 ∷ 0xED ∷ 0x9F ∷ 0xBF ∷ 0xEE ∷ 0x80 ∷ 0x80 ∷ 0xEF ∷ 0xBF ∷ 0xBF ∷ 0x27 ∷ []) ≡ 0 ∷ 3 ∷ 0 ∷ 20 ∷ 20 ∷ 1 ∷ []
unfolding reads
edges_of_three = refl

-- of four bytes
edges_of_four : reads (0x27 ∷ 0xF0 ∷ 0x90 ∷ 0x80 ∷ 0x80 ∷ 0xF1 ∷ 0x80 ∷ 0x80 ∷ 0x80 ∷ 0xF3 ∷ 0xBF ∷ 0xBF ∷ 0xBF ∷ 0xF4 ∷ 0x8F ∷ 0xBF ∷ 0xBF ∷ 0x27 ∷ []) ≡ 0 ∷ 3 ∷ 0 ∷ 18 ∷ 18 ∷ 1 ∷ []
unfolding reads
edges_of_four = refl

-- the first and the last character of one byte
edges_of_one : reads (0x27 ∷ 0x00 ∷ 0x7F ∷ 0x27 ∷ []) ≡ 0 ∷ 3 ∷ 0 ∷ 4 ∷ 4 ∷ 1 ∷ []
unfolding reads
edges_of_one = refl

-- the second bytes that the others narrow, at their other ends: of E0, F0 and F4
second_bytes : reads (0x27 ∷ 0xE0 ∷ 0xBF ∷ 0xBF ∷ 0xF0 ∷ 0xBF ∷ 0xBF ∷ 0xBF ∷ 0xF4 ∷ 0x80 ∷ 0x80 ∷ 0x80 ∷ 0x27 ∷ []) ≡ 0 ∷ 3 ∷ 0 ∷ 13 ∷ 13 ∷ 1 ∷ []
unfolding reads
second_bytes = refl

-- ---- "at character boundaries up to the text's end": in bytes, one behind a character of two and one at the end

boundary_behind_two_bytes : Boundary (0xC3 ∷ 0xA9 ∷ 0x61 ∷ []) 2
unfolding reads
boundary_behind_two_bytes = record { count = 1; place = refl }

boundary_at_the_end : Boundary (0xC3 ∷ 0xA9 ∷ 0x61 ∷ []) 3
unfolding reads
boundary_at_the_end = record { count = 2; place = refl }
