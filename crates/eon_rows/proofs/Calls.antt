-- Whole calls, by computing: 14, 15 and 16 in their order, and what the lent memory holds behind an answer and behind a refusal
-- (document 01, "Refusals at the desk"). The original lends no memory: the answers are the paper's.
use Rattle.std.proofs.Common.{◌≡◌, ℕ, true, false, List, [], ◌∷◌, ◌++◌, map, take, replicate, Ok, Err, refl}
use Rattle.eon_spec.specs.declared.FormatOptions.{FormatOptions}
use Rattle.eon_spec.specs.declared.Setting.{Setting}
use Rattle.eon_spec.specs.declared.Which.TheVariants.{Quoted, Scratch}
use Rattle.eon_spec.specs.declared.refusal.Refusal as program
use Rattle.eon_spec.specs.declared.refusal.Reason.{Reason}
use Rattle.eon_spec.specs.declared.refusal.Reason.TheVariants.{Overlong, Garbled, Stray, TooDeep, MissingValue, UnbalancedList, UnbalancedBrace, UnbalancedParen, Nameless, NoValue, Mismatch, CutOff, Surplus, NoSpace, Stale, BadSettings, NoOpeningQuote, NoClosingQuote, LineBreak, EndsInBackslash, UnknownEscape, NoBrace, NinthDigit, ForeignCharacter, NotClosed, NoScalarValue, NoByte, NoPaths}
use Rattle.eon_spec.specs.declared.token_kind.TokenKind.TheVariants.{CloseList, Number}
use Rattle.eon_spec.specs.Refused.{refusal_of, number_of}
use Rattle.eon_spec.specs.Parse.{refusal}
use Rattle.eon_spec.specs.Layout.{setting, settings_of, defaults, default_options}
use Rattle.eon_spec.specs.declared.Part.{Part}
use Rattle.eon_spec.specs.Calls.{done, refused_with, nowhere, place, after, after_both, part_of, read_call, format_call, reformat_call, fill_both, compare_call, checked_settings, unquote_call, show_call, shown_place, outcome_of}
use Rattle.eon_rows.proofs.Computing.{writes, bytes, compares, shows}

-- the words of `1 2` and of `1`
abbrev words12 : List ℕ
words12 = 4 ∷ 0 ∷ 3 ∷ 3 ∷ 3 ∷ 2 ∷ 0 ∷ 1 ∷ 1 ∷ 1 ∷ 2 ∷ 2 ∷ 3 ∷ 3 ∷ 1 ∷ []

abbrev words1 : List ℕ
words1 = 2 ∷ 0 ∷ 1 ∷ 1 ∷ 1 ∷ []

-- ---- reading

-- "Words past the tree keep their content"
reading : read_call (bytes "1 2") (replicate 17 9) ≡ after (done 3) (words12 ++ (9 ∷ 9 ∷ []))
unfolding compares bytes
reading = refl

-- "14 no space: answer longer than the lent memory": a table that it just fits, and one word fewer
reading_just_fits : read_call (bytes "1") (replicate 5 9) ≡ after (done 1) words1
unfolding compares bytes
reading_just_fits = refl

reading_without_room : read_call (bytes "1 2") (replicate 14 9) ≡ after (refused_with (nowhere 14)) (replicate 14 9)
unfolding compares bytes
reading_without_room = refl

-- "Every refusal leaves lent memory unchanged"; 13 comes before 14
reading_refused : read_call (bytes "1 ]") (9 ∷ []) ≡ after (refused_with (refusal 13 (record { start = 2; end = 3 }))) (9 ∷ [])
unfolding compares bytes
reading_refused = refl

blanks : read_call (replicate 3000 32) (replicate 5 0) ≡ after (done 1) (5 ∷ 0 ∷ 3000 ∷ 3000 ∷ 1 ∷ [])
unfolding compares
blanks = refl

-- ---- layout

-- "Defaults: tab, line feed, `: `, no outer braces"
default_texts : settings_of default_options ≡ defaults
default_texts = refl

-- "as do bytes past any written answer"
layout : format_call (bytes "1 2") words12 default_options (replicate 8 0) ≡ after (done 6) (bytes "[1, 2]" ++ (0 ∷ 0 ∷ []))
unfolding compares writes format_call checked_settings bytes
layout = refl

layout_just_fits : format_call (bytes "1 2") words12 default_options (replicate 6 0) ≡ after (done 6) (bytes "[1, 2]")
unfolding compares writes format_call checked_settings bytes
layout_just_fits = refl

layout_without_room : format_call (bytes "1 2") words12 default_options (replicate 5 0) ≡ after (refused_with (nowhere 14)) (replicate 5 0)
unfolding compares writes format_call checked_settings bytes
layout_without_room = refl

-- the options' own texts and flag are used
abbrev words_a1 : List ℕ
words_a1 = 5 ∷ 0 ∷ 3 ∷ 3 ∷ 3 ∷ 1 ∷ 0 ∷ 1 ∷ 1 ∷ 1 ∷ 2 ∷ 2 ∷ 3 ∷ 3 ∷ 1 ∷ []

abbrev marked : FormatOptions
marked =
    record {
      indentation = setting (bytes "<i>");
      newline = setting (bytes "<n>");
      space_before_suffix_comment = setting [];
      key_value_separator = setting (bytes "=");
      always_include_outer_braces = true;
    }

layout_by_options : format_call (bytes "a:1") words_a1 marked (replicate 14 0) ≡ after (done 14) (bytes "{<n><i>a=1<n>}")
unfolding compares writes format_call checked_settings bytes
layout_by_options = refl

-- ---- 15: "table too short, or its first records differ from what reading this text gives; words after them are ignored"

-- each word of a record is looked at
abbrev one_word_off : List (List ℕ)
one_word_off = (3 ∷ 0 ∷ 1 ∷ 1 ∷ 1 ∷ []) ∷ (2 ∷ 1 ∷ 1 ∷ 1 ∷ 1 ∷ []) ∷ (2 ∷ 0 ∷ 0 ∷ 1 ∷ 1 ∷ []) ∷ (2 ∷ 0 ∷ 1 ∷ 0 ∷ 1 ∷ []) ∷ (2 ∷ 0 ∷ 1 ∷ 1 ∷ 2 ∷ []) ∷ []

one_word_off_lem : map (λ (w : List ℕ). format_call (bytes "1") w default_options (7 ∷ [])) one_word_off ≡ replicate 5 (after (refused_with (nowhere 15)) (7 ∷ []))
unfolding compares writes format_call checked_settings bytes
one_word_off_lem = refl

-- the last word of the last record too
last_word_off : format_call (bytes "1 2") (take 14 words12 ++ (2 ∷ [])) default_options (replicate 8 0) ≡ after (refused_with (nowhere 15)) (replicate 8 0)
unfolding compares writes format_call checked_settings bytes
last_word_off = refl

-- one word too few
table_too_short : format_call (bytes "1") (take 4 words1) default_options (7 ∷ []) ≡ after (refused_with (nowhere 15)) (7 ∷ [])
unfolding compares writes format_call checked_settings bytes
table_too_short = refl

words_behind : format_call (bytes "1") (words1 ++ (9 ∷ [])) default_options (7 ∷ []) ≡ after (done 1) (bytes "1")
unfolding compares writes format_call checked_settings bytes
words_behind = refl

-- the table of another text
stale : format_call (bytes "1 3") words1 default_options (replicate 8 0) ≡ after (refused_with (nowhere 15)) (replicate 8 0)
unfolding compares writes format_call checked_settings bytes
stale = refl

-- 15 before 14, and 13 before 15
stale_before_space : format_call (bytes "1 3") (1 ∷ []) default_options [] ≡ after (refused_with (nowhere 15)) []
unfolding compares writes format_call checked_settings bytes
stale_before_space = refl

reading_before_stale : format_call (bytes "]") [] default_options [] ≡ after (refused_with (refusal 13 (record { start = 0; end = 1 }))) []
unfolding compares writes format_call checked_settings bytes
reading_before_stale = refl

-- ---- 16: "a setting over 16 bytes or not UTF-8"

abbrev options : Setting → Setting → Setting → Setting → FormatOptions
options i n b k = record { indentation = i; newline = n; space_before_suffix_comment = b; key_value_separator = k; always_include_outer_braces = false }

abbrev with_indent : Setting → FormatOptions
with_indent i = options i (setting []) (setting []) (setting [])

abbrev half_a_character : Setting
half_a_character = record { bytes = 0xC3 ∷ replicate 15 0; len = 1 }

-- before the text's own refusals
seventeen : format_call (bytes "]") [] (with_indent (record { bytes = replicate 16 32; len = 17 })) [] ≡ after (refused_with (nowhere 16)) []
unfolding compares writes format_call checked_settings bytes
seventeen = refl

before_the_length : format_call (replicate 65536 32) [] (with_indent half_a_character) [] ≡ after (refused_with (nowhere 16)) []
unfolding compares writes format_call checked_settings
before_the_length = refl

-- 16 bytes are allowed
sixteen : format_call [] (5 ∷ 0 ∷ 0 ∷ 0 ∷ 1 ∷ []) (let s = setting (replicate 16 32) in options s s s s) [] ≡ after (done 0) []
unfolding compares writes format_call checked_settings
sixteen = refl

-- each of the four is looked at, the unused one too
garbled_indentation : format_call (bytes "]") [] (with_indent half_a_character) [] ≡ after (refused_with (nowhere 16)) []
unfolding compares writes format_call checked_settings bytes
garbled_indentation = refl

garbled_newline : format_call (bytes "]") [] (options (setting []) half_a_character (setting []) (setting [])) [] ≡ after (refused_with (nowhere 16)) []
unfolding compares writes format_call checked_settings bytes
garbled_newline = refl

garbled_blank : format_call (bytes "]") [] (options (setting []) (setting []) half_a_character (setting [])) [] ≡ after (refused_with (nowhere 16)) []
unfolding compares writes format_call checked_settings bytes
garbled_blank = refl

garbled_separator : format_call (bytes "]") [] (options (setting []) (setting []) (setting []) half_a_character) [] ≡ after (refused_with (nowhere 16)) []
unfolding compares writes format_call checked_settings bytes
garbled_separator = refl

-- bytes behind a setting's length do not count
garbled_rest : format_call (bytes "]") [] (with_indent (record { bytes = 32 ∷ replicate 15 0xFF; len = 1 })) [] ≡ after (refused_with (refusal 13 (record { start = 0; end = 1 }))) []
unfolding compares writes format_call checked_settings bytes
garbled_rest = refl

-- ---- reading and layout in one call

reformats : reformat_call (bytes "1 2") (replicate 17 9) default_options (replicate 8 7) ≡ after_both (done 6) (words12 ++ (9 ∷ 9 ∷ [])) (bytes "[1, 2]" ++ (7 ∷ 7 ∷ []))
unfolding compares writes reformat_call fill_both checked_settings bytes
reformats = refl

-- where one of the two is too short, both stay
reformat_short_output : reformat_call (bytes "1") (replicate 5 9) default_options [] ≡ after_both (refused_with (nowhere 14)) (replicate 5 9) []
unfolding compares writes reformat_call fill_both checked_settings bytes
reformat_short_output = refl

reformat_short_table : reformat_call (bytes "1") (replicate 4 9) default_options (7 ∷ []) ≡ after_both (refused_with (nowhere 14)) (replicate 4 9) (7 ∷ [])
unfolding compares writes reformat_call fill_both checked_settings bytes
reformat_short_table = refl

-- both just fit; no table is stale, since it is only written
reformat_just_fits : reformat_call (bytes "1") (replicate 5 9) default_options (7 ∷ []) ≡ after_both (done 1) words1 (bytes "1")
unfolding compares writes reformat_call fill_both checked_settings bytes
reformat_just_fits = refl

-- 16, then 13, then 14
reformat_settings_first : reformat_call (bytes "]") [] (with_indent half_a_character) [] ≡ after_both (refused_with (nowhere 16)) [] []
unfolding compares writes reformat_call fill_both checked_settings bytes
reformat_settings_first = refl

reformat_reading_first : reformat_call (bytes "]") [] default_options [] ≡ after_both (refused_with (refusal 13 (record { start = 0; end = 1 }))) [] []
unfolding compares writes reformat_call fill_both checked_settings bytes
reformat_reading_first = refl

-- ---- comparison: "Of two texts, the first's come first"

first_text_first : compare_call (bytes "]") [] (bytes "#") [] ≡ refused_with (refusal 13 (record { start = 0; end = 1 }))
unfolding compares bytes
first_text_first = refl

-- its 15 too
first_table_first : compare_call (bytes "1") [] (bytes "#") [] ≡ refused_with (nowhere 15)
unfolding compares bytes
first_table_first = refl

second_text : compare_call (bytes "1") words1 (bytes "#") [] ≡ refused_with (refusal 3 (record { start = 0; end = 1 }))
unfolding compares bytes
second_text = refl

second_table : compare_call (bytes "1") words1 (bytes "1") [] ≡ refused_with (nowhere 15)
unfolding compares bytes
second_table = refl

each_with_its_table : compare_call (bytes "1") (words1 ++ (9 ∷ [])) (bytes "1") words1 ≡ done true
unfolding compares bytes
each_with_its_table = refl

-- ---- unquoting: "The value is handed back as a part of the quoted slice where it has no carriage return and either is literal or has
-- no backslash; otherwise as the first bytes of the scratch, whose further bytes stay. Filling answers which slice, start and length"

literal_part : unquote_call (bytes "'ab'") [] ≡ after (done (part_of Quoted 1 2)) []
unfolding shows bytes
literal_part = refl

-- a backslash in a literal is a character
literal_with_backslash : unquote_call (bytes "'\\'") [] ≡ after (done (part_of Quoted 1 1)) []
unfolding shows bytes
literal_with_backslash = refl

basic_part : unquote_call (bytes "\"ab\"") [] ≡ after (done (part_of Quoted 1 2)) []
unfolding shows bytes
basic_part = refl

multiline_part : unquote_call (bytes "\"\"\"\na\"\"\"") [] ≡ after (done (part_of Quoted 3 2)) []
unfolding shows bytes
multiline_part = refl

multiline_literal_part : unquote_call (bytes "'''a'''") [] ≡ after (done (part_of Quoted 3 1)) []
unfolding shows bytes
multiline_literal_part = refl

-- behind the line feed that `'''` drops
behind_the_line_feed : unquote_call (bytes "'''\na'''") [] ≡ after (done (part_of Quoted 4 1)) []
unfolding shows bytes
behind_the_line_feed = refl

empty_part : unquote_call (bytes "''") [] ≡ after (done (part_of Quoted 1 0)) []
unfolding shows bytes
empty_part = refl

in_scratch : unquote_call (bytes "\"a\\n\"") (1 ∷ 2 ∷ 3 ∷ []) ≡ after (done (part_of Scratch 0 2)) (97 ∷ 10 ∷ 3 ∷ [])
unfolding shows bytes
in_scratch = refl

-- a carriage return anywhere in the quoted slice, also behind the closing mark
carriage_return_in_scratch : unquote_call (bytes "'a'\r") (1 ∷ 2 ∷ []) ≡ after (done (part_of Scratch 0 1)) (97 ∷ 2 ∷ [])
unfolding shows bytes
carriage_return_in_scratch = refl

-- an empty value that was written with a backslash
empty_in_scratch : unquote_call (bytes "\"\"\"\\\n\"\"\"") [] ≡ after (done (part_of Scratch 0 0)) []
unfolding shows bytes
empty_in_scratch = refl

just_enough_scratch : unquote_call (bytes "\"a\\n\"") (1 ∷ 2 ∷ []) ≡ after (done (part_of Scratch 0 2)) (97 ∷ 10 ∷ [])
unfolding shows bytes
just_enough_scratch = refl

no_scratch : unquote_call (bytes "\"a\\n\"") (1 ∷ []) ≡ after (refused_with (nowhere 14)) (1 ∷ [])
unfolding shows bytes
no_scratch = refl

-- "Unquoting: 1, 2, then 17 to 26 as met, then 14"; 1 and 2 with their places
garbled_quote : unquote_call (39 ∷ 0xC3 ∷ []) (1 ∷ []) ≡ after (refused_with (refusal 2 (place 1))) (1 ∷ [])
unfolding shows
garbled_quote = refl

overlong_quote : unquote_call (replicate 65536 32) [] ≡ after (refused_with (refusal 1 (place 65535))) []
unfolding shows
overlong_quote = refl

fault_before_space : unquote_call (bytes "\"\\n\\q\"") [] ≡ after (refused_with (nowhere 21)) []
unfolding shows bytes
fault_before_space = refl

-- ---- showing: "shows the empty beginning of the quoted slice if they reach beyond the slice named"

shown_quoted : show_call (part_of Quoted 1 2) (bytes "'ab'") (7 ∷ 8 ∷ 9 ∷ []) ≡ bytes "ab"
unfolding show_call bytes
shown_quoted = refl

shown_scratch : show_call (part_of Scratch 1 2) (bytes "'ab'") (7 ∷ 8 ∷ 9 ∷ []) ≡ 8 ∷ 9 ∷ []
unfolding show_call bytes
shown_scratch = refl

beyond_the_scratch : show_call (part_of Scratch 1 3) (bytes "'ab'") (7 ∷ 8 ∷ 9 ∷ []) ≡ []
unfolding show_call
beyond_the_scratch = refl

beyond_the_quoted : show_call (part_of Quoted 1 4) (bytes "'ab'") (replicate 9 7) ≡ []
unfolding show_call bytes
beyond_the_quoted = refl

-- where the bytes stand, with the quoted slice from byte 100 of block 1 on and the scratch from byte 200 of block 2 on
standing : map (λ (p : Part). shown_place p (bytes "'ab'") (7 ∷ 8 ∷ 9 ∷ []) (1, 100) (2, 200)) (part_of Quoted 1 2 ∷ part_of Scratch 1 2 ∷ part_of Quoted 4 0 ∷ []) ≡ (1, 101) ∷ (2, 201) ∷ (1, 104) ∷ []
unfolding shown_place bytes
standing = refl

-- "the empty beginning of the quoted slice", also beyond the scratch
standing_beyond : map (λ (p : Part). shown_place p (bytes "'ab'") (7 ∷ 8 ∷ 9 ∷ []) (1, 100) (2, 200)) (part_of Quoted 1 4 ∷ part_of Scratch 1 3 ∷ []) ≡ (1, 100) ∷ (1, 100) ∷ []
unfolding shown_place bytes
standing_beyond = refl

-- ---- options and refusals in one call; answers that are enums

-- reading and layout in one call are by the options too
reformat_by_options : reformat_call (bytes "a:1") (replicate 15 9) marked (replicate 14 0) ≡ after_both (done 14) words_a1 (bytes "{<n><i>a=1<n>}")
unfolding compares writes reformat_call fill_both checked_settings bytes
reformat_by_options = refl

-- "Every refusal leaves lent memory unchanged": both memories
reformat_refused : reformat_call (bytes "]") (9 ∷ []) default_options (7 ∷ []) ≡ after_both (refused_with (refusal 13 (record { start = 0; end = 1 }))) (9 ∷ []) (7 ∷ [])
unfolding compares writes reformat_call fill_both checked_settings bytes
reformat_refused = refl

-- a refusal of the program's at the text's start
abbrev at_start : Reason → program.Refusal
at_start r = record { reason = r; start = 0; end = 0 }

-- the papers' numbers, in the order of include/eon.h
all_reasons : map number_of (Overlong ∷ Garbled ∷ Stray ∷ TooDeep ∷ MissingValue ∷ UnbalancedList ∷ UnbalancedBrace ∷ UnbalancedParen ∷ Nameless ∷ NoValue ∷ Mismatch CloseList Number ∷ CutOff CloseList ∷ Surplus ∷ NoSpace ∷ Stale ∷ BadSettings ∷ NoOpeningQuote ∷ NoClosingQuote ∷ LineBreak ∷ EndsInBackslash ∷ UnknownEscape ∷ NoBrace ∷ NinthDigit ∷ ForeignCharacter ∷ NotClosed ∷ NoScalarValue ∷ NoByte ∷ NoPaths ∷ [])
    ≡ 1 ∷ 2 ∷ 3 ∷ 4 ∷ 5 ∷ 6 ∷ 7 ∷ 8 ∷ 9 ∷ 10 ∷ 11 ∷ 12 ∷ 13 ∷ 14 ∷ 15 ∷ 16 ∷ 17 ∷ 18 ∷ 19 ∷ 20 ∷ 21 ∷ 22 ∷ 23 ∷ 24 ∷ 25 ∷ 26 ∷ 27 ∷ 28 ∷ []
all_reasons = refl

-- 11 names both kinds, 12 the expected one, all others none
kinds_named : map refusal_of (at_start (Mismatch CloseList Number) ∷ at_start (CutOff CloseList) ∷ at_start Stray ∷ [])
    ≡ record { number = 11; start = 0; end = 0; expected = 3; found = 11 } ∷ record { number = 12; start = 0; end = 0; expected = 3; found = 0 } ∷ nowhere 3 ∷ []
kinds_named = refl

-- "Where an answer is an enum, a definition gives this paper's number and values for each of its cases": comparison's
equal_or_not : map outcome_of (Ok true ∷ Ok false ∷ Err (at_start Stale) ∷ []) ≡ done true ∷ done false ∷ refused_with (nowhere 15) ∷ []
equal_or_not = refl

-- "Filling answers which slice, start and length"
which_start_length : map outcome_of (Ok (part_of Quoted 1 2) ∷ Err (at_start NoSpace) ∷ []) ≡ done (part_of Quoted 1 2) ∷ refused_with (nowhere 14) ∷ []
which_start_length = refl

-- "or is literal": three single quotes are, with a backslash too
multiline_literal_with_backslash : unquote_call (bytes "'''\\'''") [] ≡ after (done (part_of Quoted 3 1)) []
unfolding shows bytes
multiline_literal_with_backslash = refl
