-- A place picked on the screen (document 02, L1), by rows: the record at a byte offset, the records in a byte range. The answers are the
-- paper's, of the original's trees.
use Rattle.std.proofs.Common.{◌≡◌, ℕ, List, [], ◌∷◌, replicate, refl}
use Rattle.eon_spec.specs.declared.Hit.{Hit}
use Rattle.eon_spec.specs.Parse.{refusal}
use Rattle.eon_spec.specs.Calls.{done, refused_with, nowhere, after}
use Rattle.eon_spec.specs.Pick.{record_at_call, records_in_call}
use Rattle.eon_rows.proofs.Computing.{bytes, picked_at, hit, hits_in, ◌offset◌picks◌, ◌offset◌refused_by◌, ◌range◌up_to◌hits◌}

-- the words of `1 2`
abbrev words12 : List ℕ
words12 = 4 ∷ 0 ∷ 3 ∷ 3 ∷ 3 ∷ 2 ∷ 0 ∷ 1 ∷ 1 ∷ 1 ∷ 2 ∷ 2 ∷ 3 ∷ 3 ∷ 1 ∷ []

-- what stands in a list before the call
abbrev old : Hit
old = hit 7 7 7

-- ---- "Given a byte offset, answer the highest-numbered record whose span holds it"

-- three records hold the byte
innermost : "[[1]]" offset 2 picks 2
unfolding picked_at bytes
innermost = refl

-- the first alone
outermost : "[[1]]" offset 0 picks 0
unfolding picked_at bytes
outermost = refl

-- a span holds its start
at_the_start : "[1 2]" offset 3 picks 2
unfolding picked_at bytes
at_the_start = refl

-- and not its end
at_the_end : "[1 2]" offset 2 picks 0
unfolding picked_at bytes
at_the_end = refl

-- a bracket is its list's
closing_bracket : "[[1]]" offset 3 picks 1
unfolding picked_at bytes
closing_bracket = refl

-- a colon, a comma and a blank are the container's
colon : "a:1" offset 1 picks 0
unfolding picked_at bytes
colon = refl

comma : "[1,2]" offset 2 picks 0
unfolding picked_at bytes
comma = refl

-- a variant's name is no record of its own
variant_name : "['A'(1)]" offset 2 picks 1
unfolding picked_at bytes
variant_name = refl

-- a variant holds all of its span, not only its name
variant_end : "'A'(1)" offset 5 picks 0
unfolding picked_at bytes
variant_end = refl

-- comments are records
suffix_comment_lem : "a:1 //c" offset 5 picks 3
unfolding picked_at bytes
suffix_comment_lem = refl

prefix_comment : "//c\n1" offset 1 picks 0
unfolding picked_at bytes
prefix_comment = refl

closing_comment : "[1\n//c\n]" offset 4 picks 2
unfolding picked_at bytes
closing_comment = refl

-- a root without brackets spans the text
without_brackets : " 1 2 " offset 5 picks 0
unfolding picked_at bytes
without_brackets = refl

-- the map of a text of blanks too
blanks_alone : "  " offset 1 picks 0
unfolding picked_at bytes
blanks_alone = refl

-- ---- "If none does, take the nearest byte that a record covers"

-- blanks before the only value
before_it : "   1" offset 0 picks 0
unfolding picked_at bytes
before_it = refl

-- the byte before is nearer: 2 from 4, and the byte behind 3
behind_it : "//c\n   1" offset 4 picks 0
unfolding picked_at bytes
behind_it = refl

-- the byte behind is nearer
nearer_behind : "//c\n   1" offset 5 picks 1
unfolding picked_at bytes
nearer_behind = refl

-- a record's last byte counts, not its end: 2 and 5 from 4; the end 3 and the start 5 would be as near
last_byte : "//c\n 1" offset 4 picks 1
unfolding picked_at bytes
last_byte = refl

-- the nearest byte of a record, not its start
far_edge : "'abc'  //c" offset 6 picks 1
unfolding picked_at bytes
far_edge = refl

-- ---- "of one before and one after at equal distance, the earlier"

-- bytes 0 and 2 from 1
tie : "1 //c" offset 1 picks 0
unfolding picked_at bytes
tie = refl

-- bytes 2 and 6 from 4
wide_tie : "//c\n  1" offset 4 picks 0
unfolding picked_at bytes
wide_tie = refl

-- a byte that a record holds is no tie
holder_first : "1//c" offset 1 picks 1
unfolding picked_at bytes
holder_first = refl

-- ---- "The answer is the highest-numbered record that holds that byte"

-- of the list's last byte, which the number in it does not hold
byte_then_record : "[1]  //c" offset 3 picks 0
unfolding picked_at bytes
byte_then_record = refl

-- of the list's first byte, which no value in it holds
first_byte_behind : "//c\n  [[1]]" offset 5 picks 1
unfolding picked_at bytes
first_byte_behind = refl

-- of the last byte, which the map and its value hold
several_hold : "a: 1" offset 4 picks 2
unfolding picked_at bytes
several_hold = refl

-- of a bracket, which the list alone holds
outer_bracket : "[1 ['abc']]" offset 99 picks 0
unfolding picked_at bytes
outer_bracket = refl

-- ---- "An offset beyond the text is allowed"

just_beyond : "1 //c" offset 5 picks 1
unfolding picked_at bytes
just_beyond = refl

far_beyond : "1 //c" offset 18446744073709551615 picks 1
unfolding picked_at bytes
far_beyond = refl

-- a comment that reading drops covers nothing
lost_comment : "42\n// c" offset 6 picks 0
unfolding picked_at bytes
lost_comment = refl

-- ---- "Number 27 is for a table whose records cover no byte .. directly after 15"

no_byte : "" offset 0 refused_by 27
unfolding picked_at bytes
no_byte = refl

no_byte_beyond : "" offset 9 refused_by 27
unfolding picked_at bytes
no_byte_beyond = refl

-- 15 comes first, and before it the text's own refusals
stale_first : record_at_call [] [] 5 ≡ refused_with (nowhere 15)
unfolding picked_at hits_in bytes
stale_first = refl

reading_first : record_at_call (bytes "]") [] 5 ≡ refused_with (refusal 13 (record { start = 0; end = 1 }))
unfolding picked_at hits_in bytes
reading_first = refl

one_word_off_lem : record_at_call (bytes "1") (2 ∷ 0 ∷ 1 ∷ 2 ∷ 1 ∷ []) 0 ≡ refused_with (nowhere 15)
unfolding picked_at hits_in bytes
one_word_off_lem = refl

-- words behind the records are no records
words_behind : record_at_call (bytes "1") (2 ∷ 0 ∷ 1 ∷ 1 ∷ 1 ∷ 4 ∷ 0 ∷ 9 ∷ 9 ∷ 1 ∷ []) 5 ≡ done 0
unfolding picked_at hits_in bytes
words_behind = refl

-- ---- "A second call takes a byte range, its end not counted": "every record that shares a byte with the range, in table order"

-- a range that ends where a record begins
end_not_counted : "1 2" range 0 up_to 2 hits (0 ∷ 0 ∷ 3 ∷ 1 ∷ 0 ∷ 1 ∷ [])
unfolding hits_in bytes
end_not_counted = refl

-- one that begins where a record ends
begins_at_an_end : "1 2" range 1 up_to 3 hits (0 ∷ 0 ∷ 3 ∷ 2 ∷ 2 ∷ 3 ∷ [])
unfolding hits_in bytes
begins_at_an_end = refl

-- one byte is enough: the last of a record, and the first
last_byte_shared : "[12 3]" range 2 up_to 3 hits (0 ∷ 0 ∷ 6 ∷ 1 ∷ 1 ∷ 3 ∷ [])
unfolding hits_in bytes
last_byte_shared = refl

first_byte_shared : "[12 3]" range 3 up_to 5 hits (0 ∷ 0 ∷ 6 ∷ 2 ∷ 4 ∷ 5 ∷ [])
unfolding hits_in bytes
first_byte_shared = refl

-- a range within a record, and a record within a range
inside_a_record : "[123]" range 2 up_to 3 hits (0 ∷ 0 ∷ 5 ∷ 1 ∷ 1 ∷ 4 ∷ [])
unfolding hits_in bytes
inside_a_record = refl

all_records : "[[1]2]" range 0 up_to 6 hits (0 ∷ 0 ∷ 6 ∷ 1 ∷ 1 ∷ 4 ∷ 2 ∷ 2 ∷ 3 ∷ 3 ∷ 4 ∷ 5 ∷ [])
unfolding hits_in bytes
all_records = refl

-- a variant by its whole span, and that is its hit's
whole_span : "'A'(1)" range 5 up_to 6 hits (0 ∷ 0 ∷ 6 ∷ [])
unfolding hits_in bytes
whole_span = refl

-- comments are records
comments_too : "//p\n1 //s" range 0 up_to 99 hits (0 ∷ 0 ∷ 3 ∷ 1 ∷ 4 ∷ 5 ∷ 2 ∷ 6 ∷ 9 ∷ [])
unfolding hits_in bytes
comments_too = refl

-- a gap that no record covers
gap : "1 //d" range 1 up_to 2 hits []
unfolding hits_in bytes
gap = refl

-- an empty range and a reversed one share no byte
empty_range : "123" range 1 up_to 1 hits []
unfolding hits_in bytes
empty_range = refl

reversed_range : "123" range 2 up_to 1 hits []
unfolding hits_in bytes
reversed_range = refl

beyond_the_text : "123" range 3 up_to 99 hits []
unfolding hits_in bytes
beyond_the_text = refl

far_range : "123" range 2 up_to 18446744073709551615 hits (0 ∷ 0 ∷ 3 ∷ [])
unfolding hits_in bytes
far_range = refl

-- 27 is for the offset call only
empty_text : "" range 0 up_to 9 hits []
unfolding hits_in bytes
empty_text = refl

-- ---- "It answers how many; entries past the hits stay. Too short a list is 14 and stays untouched"

entries_stay : records_in_call (bytes "1 2") words12 2 9 (replicate 3 old) ≡ after (done 2) (hit 0 0 3 ∷ hit 2 2 3 ∷ old ∷ [])
unfolding picked_at hits_in bytes
entries_stay = refl

just_fits : records_in_call (bytes "1 2") words12 2 9 (replicate 2 old) ≡ after (done 2) (hit 0 0 3 ∷ hit 2 2 3 ∷ [])
unfolding picked_at hits_in bytes
just_fits = refl

too_short : records_in_call (bytes "1 2") words12 2 9 (replicate 1 old) ≡ after (refused_with (nowhere 14)) (replicate 1 old)
unfolding picked_at hits_in bytes
too_short = refl

-- no hit needs no list, also of the empty text
no_list : records_in_call (bytes "1 2") words12 3 9 [] ≡ after (done 0) []
unfolding picked_at hits_in bytes
no_list = refl

no_list_no_byte : records_in_call [] (5 ∷ 0 ∷ 0 ∷ 0 ∷ 1 ∷ []) 0 9 [] ≡ after (done 0) []
unfolding picked_at hits_in bytes
no_list_no_byte = refl

-- 15 before 14, and the text's own refusals before 15
stale_before_space : records_in_call (bytes "1 2") [] 2 9 [] ≡ after (refused_with (nowhere 15)) []
unfolding picked_at hits_in bytes
stale_before_space = refl

reading_before_stale : records_in_call (bytes "]") [] 0 9 (replicate 1 old) ≡ after (refused_with (refusal 13 (record { start = 0; end = 1 }))) (replicate 1 old)
unfolding picked_at hits_in bytes
reading_before_stale = refl
