-- Document 01's "Layout", a row for each sentence that a wrong reading would break. The written texts are the original's.
use Rattle.std.proofs.Common.{◌≡◌, true, false, ◌∷◌, ◌++◌, replicate, refl}
use Rattle.eon_rows.proofs.Computing.{writes, writes_by, settings, bytes, repeated, ◌is_written◌}

-- ---- the root

-- "A root map without outer braces is its prefix comments, content, suffix"
root_map : "//p\n{a:1}//s" is_written "//p\na: 1\n //s"
unfolding writes bytes
root_map = refl

-- its closing comments behind a blank line
root_closing : "a:1\n//c" is_written "a: 1\n\n//c\n"
unfolding writes bytes
root_closing = refl

-- and without items without one
root_comments_alone : "//c" is_written "//c\n"
unfolding writes bytes
root_comments_alone = refl

-- "Anything else has no line end after it": its prefix comments stand above it
root_list : "//p\n[1]//s" is_written "//p\n[1] //s"
unfolding writes bytes
root_list = refl

-- with outer braces a root map is a map
outer_braces : writes_by (settings (bytes "\t") (bytes "\n") (bytes " ") (bytes ": ") true) (bytes "a:1") ≡ 0 ∷ (bytes "{\n\ta: 1\n}")
unfolding writes_by bytes
outer_braces = refl

-- also the empty one
outer_braces_empty : writes_by (settings (bytes "\t") (bytes "\n") (bytes " ") (bytes ": ") true) (bytes "") ≡ 0 ∷ (bytes "{}")
unfolding writes_by bytes
outer_braces_empty = refl

-- anything else is as without
outer_braces_elsewhere : writes_by (settings (bytes "\t") (bytes "\n") (bytes " ") (bytes ": ") true) (bytes "1 2") ≡ 0 ∷ (bytes "[1, 2]")
unfolding writes_by bytes
outer_braces_elsewhere = refl

-- ---- settings

-- each setting where it belongs; "`space_before_suffix_comment` is kept but unused: one blank is written"
each_setting : writes_by (settings (bytes "<i>") (bytes "<n>") (bytes "<s>") (bytes "<k>") false) (bytes "//p\na:[b 1//s\n]") ≡ 0 ∷ (bytes "//p<n>a<k>[<n><i>b<n><i>1 //s<n>]<n>")
unfolding writes_by bytes
each_setting = refl

-- all may be empty
no_settings : writes_by (settings (bytes "") (bytes "") (bytes "") (bytes "") true) (bytes "a:[1 2 3 4 5]") ≡ 0 ∷ (bytes "{a[12345]}")
unfolding writes_by bytes
no_settings = refl

-- ---- "An empty container without comments is `[]`, `{}`, or for a variant the bare name"

-- in a list, on one line
empty_containers : "[[] {} 'A'()]" is_written "[[], {}, 'A']"
unfolding writes bytes
empty_containers = refl

-- with a closing comment it is on lines, with no blank line before the comment
empty_with_comment : "[//c\n]" is_written "[\n\t//c\n]"
unfolding writes bytes
empty_with_comment = refl

-- a map likewise
empty_map_with_comment : "a:{//c\n}" is_written "a: {\n\t//c\n}\n"
unfolding writes bytes
empty_map_with_comment = refl

-- and a variant
empty_variant_with_comment : "'A'(//c\n)" is_written "'A'(\n\t//c\n)"
unfolding writes bytes
empty_variant_with_comment = refl

-- ---- "Values go on one line, parted by `, `, if there are at most 4, all simple"

-- four
four_values : "[a b c d]" is_written "[a, b, c, d]"
unfolding writes bytes
four_values = refl

-- five are not
five_values : "[a b c d e]" is_written "[\n\ta\n\tb\n\tc\n\td\n\te\n]"
unfolding writes bytes
five_values = refl

-- a variant's values likewise
four_in_a_variant : "'A'(a b c d)" is_written "'A'(a, b, c, d)"
unfolding writes bytes
four_in_a_variant = refl

-- five are lost: "writes line ends and not its values"
five_in_a_variant : "'A'(a b c d e)" is_written "'A'(\n\n\n\n\n\n)"
unfolding writes bytes
five_in_a_variant = refl

-- "no comments": a prefix
prefix_is_not_simple : "[//c\n1]" is_written "[\n\t//c\n\t1\n]"
unfolding writes bytes
prefix_is_not_simple = refl

-- a suffix
suffix_is_not_simple : "[1 //c\n]" is_written "[\n\t1 //c\n]"
unfolding writes bytes
suffix_is_not_simple = refl

-- "string without line feed"
line_feed_is_not_simple : "['a\nb']" is_written "[\n\t'a\nb'\n]"
unfolding writes bytes
line_feed_is_not_simple = refl

-- a carriage return is no line feed
carriage_return_is_simple : "['a\rb']" is_written "['a\rb']"
unfolding writes bytes
carriage_return_is_simple = refl

-- "empty container": a list with a value is not simple
list_is_not_simple : "[[1]]" is_written "[\n\t[1]\n]"
unfolding writes bytes
list_is_not_simple = refl

-- nor is a map with one
map_is_not_simple : "[{a:1}]" is_written "[\n\t{\n\t\ta: 1\n\t}\n]"
unfolding writes bytes
map_is_not_simple = refl

-- nor a variant with one
variant_is_not_simple : "['A'(1)]" is_written "[\n\t'A'(1)\n]"
unfolding writes bytes
variant_is_not_simple = refl

-- nor an empty list with a comment in it
commented_list_is_not_simple : "[[//c\n]]" is_written "[\n\t[\n\t\t//c\n\t]\n]"
unfolding writes bytes
commented_list_is_not_simple = refl

-- "no closing comments"
closing_is_not_on_one_line : "[1\n//c\n]" is_written "[\n\t1\n\n\t//c\n]"
unfolding writes bytes
closing_is_not_on_one_line = refl

-- ---- "and either all are numbers or the sum is below 60: string bytes + 2, anything else 7"

-- all are numbers
long_numbers : writes (bytes "[" ++ replicate 60 49 ++ bytes " " ++ replicate 60 50 ++ bytes "]") ≡ 0 ∷ (bytes "[" ++ replicate 60 49 ++ bytes ", " ++ replicate 60 50 ++ bytes "]")
unfolding writes bytes
long_numbers = refl

-- a number counts 7, whatever its length
number_7 : writes (bytes "[x " ++ replicate 60 49 ++ bytes "]") ≡ 0 ∷ (bytes "[x, " ++ replicate 60 49 ++ bytes "]")
unfolding writes bytes
number_7 = refl

-- an identifier
identifier_7 : writes (bytes "[" ++ replicate 60 97 ++ bytes "]") ≡ 0 ∷ (bytes "[" ++ replicate 60 97 ++ bytes "]")
unfolding writes bytes
identifier_7 = refl

-- an empty variant, whose name is not counted
empty_variant_7 : writes (bytes "['" ++ replicate 60 97 ++ bytes "'()]") ≡ 0 ∷ (bytes "['" ++ replicate 60 97 ++ bytes "']")
unfolding writes bytes
empty_variant_7 = refl

-- 7 + 52 is below: a string of 50 bytes beside an identifier
below_60 : writes (bytes "[x '" ++ replicate 48 97 ++ bytes "']") ≡ 0 ∷ (bytes "[x, '" ++ replicate 48 97 ++ bytes "']")
unfolding writes bytes
below_60 = refl

-- 7 + 53 is not
not_below_60 : writes (bytes "[x '" ++ replicate 49 97 ++ bytes "']") ≡ 0 ∷ (bytes "[\n\tx\n\t'" ++ replicate 49 97 ++ bytes "'\n]")
unfolding writes bytes
not_below_60 = refl

-- a number beside a string counts
number_beside_60 : writes (bytes "[1 '" ++ replicate 49 97 ++ bytes "']") ≡ 0 ∷ (bytes "[\n\t1\n\t'" ++ replicate 49 97 ++ bytes "'\n]")
unfolding writes bytes
number_beside_60 = refl

-- an empty list counts 7: 59
empty_list_below_60 : writes (bytes "[[] \"" ++ replicate 48 97 ++ bytes "\"]") ≡ 0 ∷ (bytes "[[], \"" ++ replicate 48 97 ++ bytes "\"]")
unfolding writes bytes
empty_list_below_60 = refl

-- and 60
empty_list_not_below_60 : writes (bytes "[[] \"" ++ replicate 49 97 ++ bytes "\"]") ≡ 0 ∷ (bytes "[\n\t[]\n\t\"" ++ replicate 49 97 ++ bytes "\"\n]")
unfolding writes bytes
empty_list_not_below_60 = refl

-- an empty map: 59
empty_map_below_60 : writes (bytes "[{} \"" ++ replicate 48 97 ++ bytes "\"]") ≡ 0 ∷ (bytes "[{}, \"" ++ replicate 48 97 ++ bytes "\"]")
unfolding writes bytes
empty_map_below_60 = refl

-- and 60
empty_map_not_below_60 : writes (bytes "[{} \"" ++ replicate 49 97 ++ bytes "\"]") ≡ 0 ∷ (bytes "[\n\t{}\n\t\"" ++ replicate 49 97 ++ bytes "\"\n]")
unfolding writes bytes
empty_map_not_below_60 = refl

-- bytes are counted, not characters: 29 of two bytes
bytes_not_characters : writes (bytes "['" ++ repeated 28 (bytes "é") ++ bytes "']") ≡ 0 ∷ (bytes "[\n\t'" ++ repeated 28 (bytes "é") ++ bytes "'\n]")
unfolding writes bytes
bytes_not_characters = refl

-- ---- "Otherwise each has its own line, without commas"

-- each step in by one indentation
nested_lines : "[[[a b c d e]]]" is_written "[\n\t[\n\t\t[\n\t\t\ta\n\t\t\tb\n\t\t\tc\n\t\t\td\n\t\t\te\n\t\t]\n\t]\n]"
unfolding writes bytes
nested_lines = refl

-- "A blank line stands before a later item with prefix comments
blank_before_prefix : "[1 2 3 4 5 //s\n//p\n6]" is_written "[\n\t1\n\t2\n\t3\n\t4\n\t5 //s\n\n\t//p\n\t6\n]"
unfolding writes bytes
blank_before_prefix = refl

-- not before the first
no_blank_before_the_first : "[//p\n1 2]" is_written "[\n\t//p\n\t1\n\t2\n]"
unfolding writes bytes
no_blank_before_the_first = refl

-- (for a pair, its key's),
blank_for_the_keys_prefix : "a:1\n//k\nb:2" is_written "a: 1\n\n//k\nb: 2\n"
unfolding writes bytes
blank_for_the_keys_prefix = refl

-- not its value's,
no_blank_for_the_values_prefix : "a:1\nb:\n//c\n2" is_written "a: 1\n//c\nb: 2\n"
unfolding writes bytes
no_blank_for_the_values_prefix = refl

-- and before closing comments after items"
blank_before_closing : "[a b c d e\n//c\n//d\n]" is_written "[\n\ta\n\tb\n\tc\n\td\n\te\n\n\t//c\n\t//d\n]"
unfolding writes bytes
blank_before_closing = refl

-- "A map is always on lines;
map_on_lines : "a:{b:1}" is_written "a: {\n\tb: 1\n}\n"
unfolding writes bytes
map_on_lines = refl

-- value prefixes go above the key," behind the key's,
keys_prefix_first : "//k\na://v\n1" is_written "//k\n//v\na: 1\n"
unfolding writes bytes
keys_prefix_first = refl

-- "key suffixes are dropped"
key_suffix_dropped : "a //c\n: 1" is_written "a: 1\n"
unfolding writes bytes
key_suffix_dropped = refl

-- a key may be any value
key_with_inside : "{a:1}:1 [1 2]:2 'A'(1):3" is_written "{\n\ta: 1\n}: 1\n[1, 2]: 2\n'A'(1): 3\n"
unfolding writes bytes
key_with_inside = refl

-- a value's suffix is written behind it
value_suffix : "a:1 //s\nb:2" is_written "a: 1 //s\nb: 2\n"
unfolding writes bytes
value_suffix = refl

-- ---- variants that are not on one line

-- "`"A"({})` is on one line"
variant_of_empty_map : "'A'({})" is_written "'A'({})"
unfolding writes bytes
variant_of_empty_map = refl

-- as is a list
variant_of_empty_list : "'A'([])" is_written "'A'([])"
unfolding writes bytes
variant_of_empty_list = refl

-- "A variant that is not, of one list or map and without closing comments, shares its brackets, `({` and `})`
shared_map : "'A'({a:1})" is_written "'A'({\n\ta: 1\n})"
unfolding writes bytes
shared_map = refl

-- a list too, and then on lines
shared_list : "'A'([1])" is_written "'A'([\n\t1\n])"
unfolding writes bytes
shared_list = refl

-- dropping that value's own comments;
shared_drops_comments : "'A'(//p\n[1] //s\n)" is_written "'A'([\n\t1\n])"
unfolding writes bytes
shared_drops_comments = refl

-- an empty one becomes `({ })`
shared_empty_map : "'A'(//c\n{})" is_written "'A'({ })"
unfolding writes bytes
shared_empty_map = refl

-- or `([ ])`"
shared_empty_list : "'A'(//c\n[])" is_written "'A'([ ])"
unfolding writes bytes
shared_empty_list = refl

-- its closing comments are written
shared_map_closing : "'A'({a:1\n//c\n})" is_written "'A'({\n\ta: 1\n\n\t//c\n})"
unfolding writes bytes
shared_map_closing = refl

-- of a list too
shared_list_closing : "'A'([1\n//c\n])" is_written "'A'([\n\t1\n\n\t//c\n])"
unfolding writes bytes
shared_list_closing = refl

-- with closing comments of its own it does not share
closing_does_not_share : "'A'({a:1}\n//c\n)" is_written "'A'(\n\n\n\t//c\n)"
unfolding writes bytes
closing_does_not_share = refl

-- nor of two
two_do_not_share : "'A'([1][2])" is_written "'A'(\n\n\n)"
unfolding writes bytes
two_do_not_share = refl

-- nor of a variant
variant_does_not_share : "'A'('B'(1))" is_written "'A'(\n\n)"
unfolding writes bytes
variant_does_not_share = refl

-- "one more for each value (two for a later value with prefix comments)"
later_value_with_prefix : "'A'(1\n//c\n2)" is_written "'A'(\n\n\n\n)"
unfolding writes bytes
later_value_with_prefix = refl

-- one for the first
first_value_with_prefix : "'A'(//c\n1 2)" is_written "'A'(\n\n\n)"
unfolding writes bytes
first_value_with_prefix = refl

-- "closing comments one step in as above, then the indented `)`"
long_variant_closing : "['A'(1 2 3 4 5\n//c\n)]" is_written "[\n\t'A'(\n\n\n\n\n\n\n\t\t//c\n\t)\n]"
unfolding writes bytes
long_variant_closing = refl

-- shared brackets inside a list
indented_shared : "['A'([1])]" is_written "[\n\t'A'([\n\t\t1\n\t])\n]"
unfolding writes bytes
indented_shared = refl

-- ---- comments, settings and steps in each place

-- "empty container": a map with a comment in it is not simple
commented_map_is_not_simple : "[{//c\n}]" is_written "[\n\t{\n\t\t//c\n\t}\n]"
unfolding writes bytes
commented_map_is_not_simple = refl

-- nor a variant
commented_variant_is_not_simple : "['A'(//c\n)]" is_written "[\n\t'A'(\n\t\t//c\n\t)\n]"
unfolding writes bytes
commented_variant_is_not_simple = refl

-- "anything else 7": an empty variant counts 7 and no less
empty_variant_not_below_60 : writes (bytes "['A'() '" ++ replicate 49 97 ++ bytes "']") ≡ 0 ∷ (bytes "[\n\t'A'\n\t'" ++ replicate 49 97 ++ bytes "'\n]")
unfolding writes bytes
empty_variant_not_below_60 = refl

-- and no more
empty_variant_below_60 : writes (bytes "['A'() '" ++ replicate 48 97 ++ bytes "']") ≡ 0 ∷ (bytes "['A', '" ++ replicate 48 97 ++ bytes "']")
unfolding writes bytes
empty_variant_below_60 = refl

-- "A blank line" is a line end by the settings, before an item and before closing comments
blank_lines_by_settings : writes_by (settings (bytes "<i>") (bytes "<n>") (bytes "<s>") (bytes "<k>") false) (bytes "[1\n//p\n2\n//c\n]") ≡ 0 ∷ bytes "[<n><i>1<n><n><i>//p<n><i>2<n><n><i>//c<n>]"
unfolding writes_by bytes
blank_lines_by_settings = refl

-- and so are those that a long variant writes
long_variant_by_settings : writes_by (settings (bytes "<i>") (bytes "<n>") (bytes "<s>") (bytes "<k>") false) (bytes "'A'(1 2 3 4\n//p\n5\n//c\n)") ≡ 0 ∷ bytes "'A'(<n><n><n><n><n><n><n><n><i>//c<n>)"
unfolding writes_by bytes
long_variant_by_settings = refl

-- with outer braces a root map keeps its own comments
outer_braces_comments : writes_by (settings (bytes "\t") (bytes "\n") (bytes " ") (bytes ": ") true) (bytes "//p\n{a:1}//s") ≡ 0 ∷ bytes "//p\n{\n\ta: 1\n} //s"
unfolding writes_by bytes
outer_braces_comments = refl

-- "Anything else has no line end after it", and its own comments stand around it: an identifier
root_identifier : "//p\na//s" is_written "//p\na //s"
unfolding writes bytes
root_identifier = refl

-- a number
root_number : "//p\n1//s" is_written "//p\n1 //s"
unfolding writes bytes
root_number = refl

-- a string
root_string : "//p\n'a'//s" is_written "//p\n'a' //s"
unfolding writes bytes
root_string = refl

-- a variant
root_variant : "//p\n'A'(1)//s" is_written "//p\n'A'(1) //s"
unfolding writes bytes
root_variant = refl

-- "before closing comments after items": in shared brackets without items there is no blank line, in a list
shared_list_of_comments : "'A'([//c\n])" is_written "'A'([\n\t//c\n])"
unfolding writes bytes
shared_list_of_comments = refl

-- and in a map
shared_map_of_comments : "'A'({//c\n})" is_written "'A'({\n\t//c\n})"
unfolding writes bytes
shared_map_of_comments = refl

-- "A map is always on lines": a value's stand one step further in than its pair
map_in_map_in_map : "a:{b:{c:1}}" is_written "a: {\n\tb: {\n\t\tc: 1\n\t}\n}\n"
unfolding writes bytes
map_in_map_in_map = refl

-- and a key's
key_on_lines : "a:{{c:1}:2}" is_written "a: {\n\t{\n\t\tc: 1\n\t}: 2\n}\n"
unfolding writes bytes
key_on_lines = refl

-- "Prefix and closing comments take an indented line each": above the key of an inner map, the key's and the value's
comments_above_an_inner_key : "a:{//k\nb://v\n1}" is_written "a: {\n\t//k\n\t//v\n\tb: 1\n}\n"
unfolding writes bytes
comments_above_an_inner_key = refl

-- "identifier, number, string without line feed, or empty container": a line feed in the name of an empty variant does not matter
line_feed_in_a_name : "['a\nb'()]" is_written "['a\nb']"
unfolding writes bytes
line_feed_in_a_name = refl

-- "anything else 7": a number counts 7 and no more
number_below_60 : writes (bytes "[1 '" ++ replicate 48 97 ++ bytes "']") ≡ 0 ∷ (bytes "[1, '" ++ replicate 48 97 ++ bytes "']")
unfolding writes bytes
number_below_60 = refl

-- "before a later item": in shared brackets not before the first value
shared_list_first_prefix : "'A'([//p\n1])" is_written "'A'([\n\t//p\n\t1\n])"
unfolding writes bytes
shared_list_first_prefix = refl

-- nor before the first pair
shared_map_first_prefix : "'A'({//k\na:1})" is_written "'A'({\n\t//k\n\ta: 1\n})"
unfolding writes bytes
shared_map_first_prefix = refl

-- "shares its brackets, `({` and `})`": a map inside a list
indented_shared_map : "['A'({a:1})]" is_written "[\n\t'A'({\n\t\ta: 1\n\t})\n]"
unfolding writes bytes
indented_shared_map = refl

-- "and before closing comments after items": in an inner map
inner_map_closing : "[{a:1\n//c\n}]" is_written "[\n\t{\n\t\ta: 1\n\n\t\t//c\n\t}\n]"
unfolding writes bytes
inner_map_closing = refl

-- "prefix comments, content, suffix": closing comments are of the content
root_closing_before_suffix : "{a:1\n//c\n}//s" is_written "a: 1\n\n//c\n //s"
unfolding writes bytes
root_closing_before_suffix = refl

-- "A blank line stands before a later item": behind a root map's own comments its first pair is no later one
root_prefix_and_first_key : "//p\n{//k\na:1}" is_written "//p\n//k\na: 1\n"
unfolding writes bytes
root_prefix_and_first_key = refl
