-- Document 01's "Reading the sheet", a row for each sentence that a wrong reading would break: five words a record, or number, start,
-- end, expected and found kind of a refusal. The answers are the original's.
use Rattle.std.proofs.Common.{◌≡◌, [], ◌∷◌, ◌++◌, replicate, refl}
use Rattle.eon_rows.proofs.Computing.{reads, bytes, repeated, ◌has_records◌, ◌is_refused◌}

-- ---- the text as a map's inside, then as a list's

-- "First the text is tried as a map's inside at depth 0"
map_first : "a:1" has_records 5 ∷ 0 ∷ 3 ∷ 3 ∷ 3 ∷ 1 ∷ 0 ∷ 1 ∷ 1 ∷ 1 ∷ 2 ∷ 2 ∷ 3 ∷ 3 ∷ 1 ∷ []
unfolding reads bytes
map_first = refl

-- which the empty text, blanks and comments alone are
blanks_are_a_map : "//c" has_records 5 ∷ 0 ∷ 3 ∷ 3 ∷ 2 ∷ 9 ∷ 0 ∷ 3 ∷ 3 ∷ 1 ∷ []
unfolding reads bytes
blanks_are_a_map = refl

-- "One value: it is the tree"
one_value : " 1 " has_records 2 ∷ 1 ∷ 2 ∷ 2 ∷ 1 ∷ []
unfolding reads bytes
one_value = refl

-- "Several: a list spanning the text"
several_values : " 1 2 " has_records 4 ∷ 0 ∷ 5 ∷ 5 ∷ 3 ∷ 2 ∷ 1 ∷ 2 ∷ 2 ∷ 1 ∷ 2 ∷ 3 ∷ 4 ∷ 4 ∷ 1 ∷ []
unfolding reads bytes
several_values = refl

-- and so does a map
root_spans_the_text : " a:1 " has_records 5 ∷ 0 ∷ 5 ∷ 5 ∷ 3 ∷ 1 ∷ 1 ∷ 2 ∷ 2 ∷ 1 ∷ 2 ∷ 3 ∷ 4 ∷ 4 ∷ 1 ∷ []
unfolding reads bytes
root_spans_the_text = refl

-- a map in braces is one value, with its own span
braces_are_one_value : " {a:1} " has_records 5 ∷ 1 ∷ 6 ∷ 6 ∷ 3 ∷ 1 ∷ 2 ∷ 3 ∷ 3 ∷ 1 ∷ 2 ∷ 4 ∷ 5 ∷ 5 ∷ 1 ∷ []
unfolding reads bytes
braces_are_one_value = refl

-- "and comments after it that are no suffix are lost"
lost_comments : "1\n//c" has_records 2 ∷ 0 ∷ 1 ∷ 1 ∷ 1 ∷ []
unfolding reads bytes
lost_comments = refl

-- its suffix is not
sole_suffix : "1 //c" has_records 2 ∷ 0 ∷ 1 ∷ 1 ∷ 1 ∷ 8 ∷ 2 ∷ 5 ∷ 5 ∷ 1 ∷ []
unfolding reads bytes
sole_suffix = refl

-- of several values the list keeps them
lists_closing_comments : "1 2\n//c" has_records 4 ∷ 0 ∷ 7 ∷ 7 ∷ 4 ∷ 2 ∷ 0 ∷ 1 ∷ 1 ∷ 1 ∷ 2 ∷ 2 ∷ 3 ∷ 3 ∷ 1 ∷ 9 ∷ 4 ∷ 7 ∷ 7 ∷ 1 ∷ []
unfolding reads bytes
lists_closing_comments = refl

-- "On success one further token, always a closing one, gives 13"; the list is not tried then
surplus_in_a_map : "a:1}" is_refused 13 ∷ 3 ∷ 4 ∷ 0 ∷ 0 ∷ []
unfolding reads bytes
surplus_in_a_map = refl

-- "success is followed by the same check"
surplus_in_a_list : "1}" is_refused 13 ∷ 1 ∷ 2 ∷ 0 ∷ 0 ∷ []
unfolding reads bytes
surplus_in_a_list = refl

-- 13 is at the first token behind the end
surplus_and_more : "1 ] #" is_refused 13 ∷ 2 ∷ 3 ∷ 0 ∷ 0 ∷ []
unfolding reads bytes
surplus_and_more = refl

-- ---- "Both fail: the second's refusal wins only if its last consumed token ends strictly later"

-- the refused token counts as consumed, so that both end at 2 and the first's stands
refused_token_consumed : "1[" is_refused 11 ∷ 1 ∷ 2 ∷ 8 ∷ 2 ∷ []
unfolding reads bytes
refused_token_consumed = refl

-- the second's ends later
second_refusal : "1 [2}" is_refused 11 ∷ 4 ∷ 5 ∷ 3 ∷ 5 ∷ []
unfolding reads bytes
second_refusal = refl

-- both are the same
same_refusal_twice : "[1" is_refused 12 ∷ 1 ∷ 2 ∷ 3 ∷ 0 ∷ []
unfolding reads bytes
same_refusal_twice = refl

-- 3 comes before 11: an invalid token where `:` is expected
stray_for_a_colon : "a #" is_refused 3 ∷ 2 ∷ 3 ∷ 0 ∷ 0 ∷ []
unfolding reads bytes
stray_for_a_colon = refl

-- ---- "A container's inside is at the container's depth + 1, each value in it one deeper"

-- a value inside 64 maps
maps_too_deep : reads (repeated 64 (bytes "{a:") ++ bytes "1") ≡ 4 ∷ 189 ∷ 190 ∷ 0 ∷ 0 ∷ []
unfolding reads bytes
maps_too_deep = refl

-- inside 64 variants
variants_too_deep : reads (repeated 64 (bytes "''(") ++ bytes "1") ≡ 4 ∷ 191 ∷ 192 ∷ 0 ∷ 0 ∷ []
unfolding reads bytes
variants_too_deep = refl

-- 4 comes before the token is looked at
depth_before_the_token : reads (replicate 64 91 ++ bytes "#") ≡ 4 ∷ 63 ∷ 64 ∷ 0 ∷ 0 ∷ []
unfolding reads bytes
depth_before_the_token = refl

-- the comments before a value that is too deep are read: "previous token's span"
depth_behind_a_comment : reads (replicate 64 91 ++ bytes "//c\n1") ≡ 4 ∷ 64 ∷ 67 ∷ 0 ∷ 0 ∷ []
unfolding reads bytes
depth_behind_a_comment = refl

-- the inside of 64 containers may end
end_before_depth : reads (replicate 64 91) ≡ 12 ∷ 63 ∷ 64 ∷ 3 ∷ 0 ∷ []
unfolding reads
end_before_depth = refl

-- ---- "One comma may follow a value"

-- and not two
one_comma_only : "1,,2" is_refused 10 ∷ 2 ∷ 3 ∷ 0 ∷ 0 ∷ []
unfolding reads bytes
one_comma_only = refl

-- nor one before the first
no_comma_first : "[,]" is_refused 10 ∷ 1 ∷ 2 ∷ 0 ∷ 0 ∷ []
unfolding reads bytes
no_comma_first = refl

-- behind the last value it may
comma_before_the_end : "[1,]" has_records 4 ∷ 0 ∷ 4 ∷ 4 ∷ 2 ∷ 2 ∷ 1 ∷ 2 ∷ 2 ∷ 1 ∷ []
unfolding reads bytes
comma_before_the_end = refl

-- in a map behind the value
comma_in_a_map : "{a:1,b:2,}" has_records 5 ∷ 0 ∷ 10 ∷ 10 ∷ 5 ∷ 1 ∷ 1 ∷ 2 ∷ 2 ∷ 1 ∷ 2 ∷ 3 ∷ 4 ∷ 4 ∷ 1 ∷ 1 ∷ 5 ∷ 6 ∷ 6 ∷ 1 ∷ 2 ∷ 7 ∷ 8 ∷ 8 ∷ 1 ∷ []
unfolding reads bytes
comma_in_a_map = refl

-- not behind the key
no_comma_behind_a_key : "{a,:1}" is_refused 11 ∷ 2 ∷ 3 ∷ 8 ∷ 9 ∷ []
unfolding reads bytes
no_comma_behind_a_key = refl

-- a line feed before it does not matter
comma_on_the_next_line : "[1\n,2]" has_records 4 ∷ 0 ∷ 6 ∷ 6 ∷ 3 ∷ 2 ∷ 1 ∷ 2 ∷ 2 ∷ 1 ∷ 2 ∷ 4 ∷ 5 ∷ 5 ∷ 1 ∷ []
unfolding reads bytes
comma_on_the_next_line = refl

-- a comment of its own line does: it is no suffix, and the comma is then no value
comment_before_the_comma : "[1\n//c\n,2]" is_refused 10 ∷ 7 ∷ 8 ∷ 0 ∷ 0 ∷ []
unfolding reads bytes
comment_before_the_comma = refl

-- ---- "Any closing token ends an inside and is then compared"

-- 11 mismatch: expected `]`, found `)`
list_closed_by_paren : "[1)" is_refused 11 ∷ 2 ∷ 3 ∷ 3 ∷ 7 ∷ []
unfolding reads bytes
list_closed_by_paren = refl

-- expected `}`, found `]`
map_closed_by_bracket : "{a:1]" is_refused 11 ∷ 4 ∷ 5 ∷ 5 ∷ 3 ∷ []
unfolding reads bytes
map_closed_by_bracket = refl

-- expected `)`, found `}`
variant_closed_by_brace : "'A'(1}" is_refused 11 ∷ 5 ∷ 6 ∷ 7 ∷ 5 ∷ []
unfolding reads bytes
variant_closed_by_brace = refl

-- expected `:`, found a closing token
colon_missing : "{a}" is_refused 11 ∷ 2 ∷ 3 ∷ 8 ∷ 5 ∷ []
unfolding reads bytes
colon_missing = refl

-- "12 cut off: text ends where a token is expected; previous span, with expected kind"
map_cut_off : "{a:1 " is_refused 12 ∷ 3 ∷ 4 ∷ 5 ∷ 0 ∷ []
unfolding reads bytes
map_cut_off = refl

-- a comment is a token too
variant_cut_off : "'A'(//c" is_refused 12 ∷ 4 ∷ 7 ∷ 7 ∷ 0 ∷ []
unfolding reads bytes
variant_cut_off = refl

-- expected `:`
colon_cut_off : "{a" is_refused 12 ∷ 1 ∷ 2 ∷ 8 ∷ 0 ∷ []
unfolding reads bytes
colon_cut_off = refl

-- "5 missing value: text ends where a value must start; its length twice"
value_missing : "{a: //c\n" is_refused 5 ∷ 8 ∷ 8 ∷ 0 ∷ 0 ∷ []
unfolding reads bytes
value_missing = refl

-- ---- "found as a value; token"

-- 7 unbalanced `}`
found_close_brace : "a: }" is_refused 7 ∷ 3 ∷ 4 ∷ 0 ∷ 0 ∷ []
unfolding reads bytes
found_close_brace = refl

-- 8 unbalanced `)`
found_close_paren : "a: )" is_refused 8 ∷ 3 ∷ 4 ∷ 0 ∷ 0 ∷ []
unfolding reads bytes
found_close_paren = refl

-- 9 nameless: `(`
found_open_paren : "a: (" is_refused 9 ∷ 3 ∷ 4 ∷ 0 ∷ 0 ∷ []
unfolding reads bytes
found_open_paren = refl

-- 10 no value: `:`
found_colon : "a: :" is_refused 10 ∷ 3 ∷ 4 ∷ 0 ∷ 0 ∷ []
unfolding reads bytes
found_colon = refl

-- or `,`
found_comma : "a: ," is_refused 10 ∷ 3 ∷ 4 ∷ 0 ∷ 0 ∷ []
unfolding reads bytes
found_comma = refl

-- "`"name"(`" is a string and a parenthesis: an identifier has no inside
paren_behind_a_name : "a(1)" is_refused 11 ∷ 1 ∷ 2 ∷ 8 ∷ 6 ∷ []
unfolding reads bytes
paren_behind_a_name = refl

-- blanks and line feeds may part them
paren_behind_blanks : "'A' \n(1)" has_records 6 ∷ 0 ∷ 3 ∷ 8 ∷ 2 ∷ 2 ∷ 6 ∷ 7 ∷ 7 ∷ 1 ∷ []
unfolding reads bytes
paren_behind_blanks = refl

-- a comment may not
paren_behind_a_comment : "'A'//c\n(1)" is_refused 11 ∷ 7 ∷ 8 ∷ 8 ∷ 6 ∷ []
unfolding reads bytes
paren_behind_a_comment = refl

-- ---- comments

-- "before a closing token or the text's end closing"
list_closing : "[//c\n]" has_records 4 ∷ 0 ∷ 6 ∷ 6 ∷ 2 ∷ 9 ∷ 1 ∷ 4 ∷ 4 ∷ 1 ∷ []
unfolding reads bytes
list_closing = refl

-- in a map
map_closing : "{a:1\n//c\n}" has_records 5 ∷ 0 ∷ 10 ∷ 10 ∷ 4 ∷ 1 ∷ 1 ∷ 2 ∷ 2 ∷ 1 ∷ 2 ∷ 3 ∷ 4 ∷ 4 ∷ 1 ∷ 9 ∷ 5 ∷ 8 ∷ 8 ∷ 1 ∷ []
unfolding reads bytes
map_closing = refl

-- in a variant
variant_closing : "\"A\"(//c\n)" has_records 6 ∷ 0 ∷ 3 ∷ 9 ∷ 2 ∷ 9 ∷ 4 ∷ 7 ∷ 7 ∷ 1 ∷ []
unfolding reads bytes
variant_closing = refl

-- "Comments before a value are prefix"; its span begins behind them
prefix : "//a\n//b\n[1]" has_records 7 ∷ 0 ∷ 3 ∷ 3 ∷ 1 ∷ 7 ∷ 4 ∷ 7 ∷ 7 ∷ 1 ∷ 4 ∷ 8 ∷ 11 ∷ 11 ∷ 2 ∷ 2 ∷ 9 ∷ 10 ∷ 10 ∷ 1 ∷ []
unfolding reads bytes
prefix = refl

-- before a map's value too
prefix_of_a_value : "a: //c\n1" has_records 5 ∷ 0 ∷ 8 ∷ 8 ∷ 4 ∷ 1 ∷ 0 ∷ 1 ∷ 1 ∷ 1 ∷ 7 ∷ 3 ∷ 6 ∷ 6 ∷ 1 ∷ 2 ∷ 7 ∷ 8 ∷ 8 ∷ 1 ∷ []
unfolding reads bytes
prefix_of_a_value = refl

-- "The first comment right after a value, with no line feed between, is its suffix": the line feed that ends it parts the next from it
suffix : "[1 //a\n//b\n]" has_records 4 ∷ 0 ∷ 12 ∷ 12 ∷ 4 ∷ 2 ∷ 1 ∷ 2 ∷ 2 ∷ 1 ∷ 8 ∷ 3 ∷ 6 ∷ 6 ∷ 1 ∷ 9 ∷ 7 ∷ 10 ∷ 10 ∷ 1 ∷ []
unfolding reads bytes
suffix = refl

-- after a container, whose span ends before it
suffix_of_a_container : "[[1] //a\n2]" has_records 4 ∷ 0 ∷ 11 ∷ 11 ∷ 5 ∷ 4 ∷ 1 ∷ 4 ∷ 4 ∷ 2 ∷ 2 ∷ 2 ∷ 3 ∷ 3 ∷ 1 ∷ 8 ∷ 5 ∷ 8 ∷ 8 ∷ 1 ∷ 2 ∷ 9 ∷ 10 ∷ 10 ∷ 1 ∷ []
unfolding reads bytes
suffix_of_a_container = refl

-- after a key
suffix_of_a_key : "a //c\n: 1" has_records 5 ∷ 0 ∷ 9 ∷ 9 ∷ 4 ∷ 1 ∷ 0 ∷ 1 ∷ 1 ∷ 1 ∷ 8 ∷ 2 ∷ 5 ∷ 5 ∷ 1 ∷ 2 ∷ 8 ∷ 9 ∷ 9 ∷ 1 ∷ []
unfolding reads bytes
suffix_of_a_key = refl

-- a line feed between
no_suffix : "[1\n//a\n2]" has_records 4 ∷ 0 ∷ 9 ∷ 9 ∷ 4 ∷ 2 ∷ 1 ∷ 2 ∷ 2 ∷ 1 ∷ 7 ∷ 3 ∷ 6 ∷ 6 ∷ 1 ∷ 2 ∷ 7 ∷ 8 ∷ 8 ∷ 1 ∷ []
unfolding reads bytes
no_suffix = refl

-- "after a comma the suffix is looked for anew
suffix_behind_a_comma : "[1, //x\n2]" has_records 4 ∷ 0 ∷ 10 ∷ 10 ∷ 4 ∷ 2 ∷ 1 ∷ 2 ∷ 2 ∷ 1 ∷ 8 ∷ 4 ∷ 7 ∷ 7 ∷ 1 ∷ 2 ∷ 8 ∷ 9 ∷ 9 ∷ 1 ∷ []
unfolding reads bytes
suffix_behind_a_comma = refl

-- and replaces the earlier one,
suffix_replaced : "[1 //x\n, //y\n2]" has_records 4 ∷ 0 ∷ 15 ∷ 15 ∷ 4 ∷ 2 ∷ 1 ∷ 2 ∷ 2 ∷ 1 ∷ 8 ∷ 9 ∷ 12 ∷ 12 ∷ 1 ∷ 2 ∷ 13 ∷ 14 ∷ 14 ∷ 1 ∷ []
unfolding reads bytes
suffix_replaced = refl

-- even by none"
suffix_replaced_by_none : "[1 //x\n, 2]" has_records 4 ∷ 0 ∷ 11 ∷ 11 ∷ 3 ∷ 2 ∷ 1 ∷ 2 ∷ 2 ∷ 1 ∷ 2 ∷ 9 ∷ 10 ∷ 10 ∷ 1 ∷ []
unfolding reads bytes
suffix_replaced_by_none = refl

-- a comment on the line behind the comma is the next value's
comment_behind_comma_and_line : "[1,\n//x\n2]" has_records 4 ∷ 0 ∷ 10 ∷ 10 ∷ 4 ∷ 2 ∷ 1 ∷ 2 ∷ 2 ∷ 1 ∷ 7 ∷ 4 ∷ 7 ∷ 7 ∷ 1 ∷ 2 ∷ 8 ∷ 9 ∷ 9 ∷ 1 ∷ []
unfolding reads bytes
comment_behind_comma_and_line = refl

-- ---- records

-- "1 identifier, 2 number, 3 string, 4 list, 5 map, 6 variant": keywords are identifiers
record_kinds : "[a 1 '' [] {} ''() true]" has_records 4 ∷ 0 ∷ 24 ∷ 24 ∷ 8 ∷ 1 ∷ 1 ∷ 2 ∷ 2 ∷ 1 ∷ 2 ∷ 3 ∷ 4 ∷ 4 ∷ 1 ∷ 3 ∷ 5 ∷ 7 ∷ 7 ∷ 1 ∷ 4 ∷ 8 ∷ 10 ∷ 10 ∷ 1 ∷ 5 ∷ 11 ∷ 13 ∷ 13 ∷ 1 ∷ 6 ∷ 14 ∷ 16 ∷ 18 ∷ 1 ∷ 1 ∷ 19 ∷ 23 ∷ 23 ∷ 1 ∷ []
unfolding reads bytes
record_kinds = refl

-- "Text end is a variant name's end, otherwise end"
name_end : "'AB' (1)" has_records 6 ∷ 0 ∷ 4 ∷ 8 ∷ 2 ∷ 2 ∷ 6 ∷ 7 ∷ 7 ∷ 1 ∷ []
unfolding reads bytes
name_end = refl

-- "records in it counting itself": comments of values inside among them, its own outside not
sizes : "//p\n[//q\n1 //r\n//s\n] //t" has_records 7 ∷ 0 ∷ 3 ∷ 3 ∷ 1 ∷ 4 ∷ 4 ∷ 20 ∷ 20 ∷ 5 ∷ 7 ∷ 5 ∷ 8 ∷ 8 ∷ 1 ∷ 2 ∷ 9 ∷ 10 ∷ 10 ∷ 1 ∷ 8 ∷ 11 ∷ 14 ∷ 14 ∷ 1 ∷ 9 ∷ 15 ∷ 18 ∷ 18 ∷ 1 ∷ 8 ∷ 21 ∷ 24 ∷ 24 ∷ 1 ∷ []
unfolding reads bytes
sizes = refl

-- "A map alternates key and value"
map_alternates : "a:[1]b:2" has_records 5 ∷ 0 ∷ 8 ∷ 8 ∷ 6 ∷ 1 ∷ 0 ∷ 1 ∷ 1 ∷ 1 ∷ 4 ∷ 2 ∷ 5 ∷ 5 ∷ 2 ∷ 2 ∷ 3 ∷ 4 ∷ 4 ∷ 1 ∷ 1 ∷ 5 ∷ 6 ∷ 6 ∷ 1 ∷ 2 ∷ 7 ∷ 8 ∷ 8 ∷ 1 ∷ []
unfolding reads bytes
map_alternates = refl

-- ---- places, names and line feeds between

-- "12 .. previous span": a suffix is the previous token
suffix_cut_off : "[1 //c" is_refused 12 ∷ 3 ∷ 6 ∷ 3 ∷ 0 ∷ []
unfolding reads bytes
suffix_cut_off = refl

-- and so is a comma
comma_cut_off : "[1," is_refused 12 ∷ 2 ∷ 3 ∷ 3 ∷ 0 ∷ []
unfolding reads bytes
comma_cut_off = refl

-- "`"name"(`": strings of each kind are names, three double quotes
name_in_three_quotes : "\"\"\"A\"\"\"(1)" has_records 6 ∷ 0 ∷ 7 ∷ 10 ∷ 2 ∷ 2 ∷ 8 ∷ 9 ∷ 9 ∷ 1 ∷ []
unfolding reads bytes
name_in_three_quotes = refl

-- and three single ones
name_in_three_single_quotes : "'''A'''(1)" has_records 6 ∷ 0 ∷ 7 ∷ 10 ∷ 2 ∷ 2 ∷ 8 ∷ 9 ∷ 9 ∷ 1 ∷ []
unfolding reads bytes
name_in_three_single_quotes = refl

-- "One comma may follow a value": of a pair too
one_comma_behind_a_pair : "a:1,,b:2" is_refused 10 ∷ 4 ∷ 5 ∷ 0 ∷ 0 ∷ []
unfolding reads bytes
one_comma_behind_a_pair = refl

-- "after a comma the suffix is looked for anew": behind a pair too
suffix_behind_a_pairs_comma : "a:1, //x\nb:2" has_records 5 ∷ 0 ∷ 12 ∷ 12 ∷ 6 ∷ 1 ∷ 0 ∷ 1 ∷ 1 ∷ 1 ∷ 2 ∷ 2 ∷ 3 ∷ 3 ∷ 1 ∷ 8 ∷ 5 ∷ 8 ∷ 8 ∷ 1 ∷ 1 ∷ 9 ∷ 10 ∷ 10 ∷ 1 ∷ 2 ∷ 11 ∷ 12 ∷ 12 ∷ 1 ∷ []
unfolding reads bytes
suffix_behind_a_pairs_comma = refl

-- "with no line feed between": nor one with blanks behind it
line_feed_and_blank : "1\n //c" has_records 2 ∷ 0 ∷ 1 ∷ 1 ∷ 1 ∷ []
unfolding reads bytes
line_feed_and_blank = refl

-- a carriage return is none
carriage_return_between : "1\r//c" has_records 2 ∷ 0 ∷ 1 ∷ 1 ∷ 1 ∷ 8 ∷ 2 ∷ 5 ∷ 5 ∷ 1 ∷ []
unfolding reads bytes
carriage_return_between = refl

-- and one in the value is not between
line_feed_in_the_value : "'\n'//c" has_records 3 ∷ 0 ∷ 3 ∷ 3 ∷ 1 ∷ 8 ∷ 3 ∷ 6 ∷ 6 ∷ 1 ∷ []
unfolding reads bytes
line_feed_in_the_value = refl

-- "Comments before a value are prefix": before a pair they are the key's
prefix_of_a_key : "//k\na:1" has_records 5 ∷ 0 ∷ 7 ∷ 7 ∷ 4 ∷ 7 ∷ 0 ∷ 3 ∷ 3 ∷ 1 ∷ 1 ∷ 4 ∷ 5 ∷ 5 ∷ 1 ∷ 2 ∷ 6 ∷ 7 ∷ 7 ∷ 1 ∷ []
unfolding reads bytes
prefix_of_a_key = refl

-- "11 mismatch: wrong token": a comment on its own line before a colon is one
comment_before_a_colon : "{a\n//c\n:1}" is_refused 11 ∷ 3 ∷ 6 ∷ 8 ∷ 1 ∷ []
unfolding reads bytes
comment_before_a_colon = refl

-- "Several: a list spanning the text": comments before the first value are that value's
prefix_of_the_first_of_several : "//p\n1 2" has_records 4 ∷ 0 ∷ 7 ∷ 7 ∷ 4 ∷ 7 ∷ 0 ∷ 3 ∷ 3 ∷ 1 ∷ 2 ∷ 4 ∷ 5 ∷ 5 ∷ 1 ∷ 2 ∷ 6 ∷ 7 ∷ 7 ∷ 1 ∷ []
unfolding reads bytes
prefix_of_the_first_of_several = refl
