-- Document 01's comparison of two trees, by rows. The answers are those of the original's trees.
use Rattle.std.proofs.Common.{refl}
use Rattle.eon_rows.proofs.Computing.{compares, bytes, ◌equals◌, ◌differs_from◌}

-- ---- "as many records, and in each pair of records equal kinds, sizes and text bytes (name bytes for variants; none for lists and maps), spans aside"

-- places do not matter
spans_aside : "1 2" equals "  1,\n2 "
unfolding compares bytes
spans_aside = refl

-- a list's text is not compared
lists_text : "[ ]" equals "[]"
unfolding compares bytes
lists_text = refl

-- nor a map's
maps_text : "{ }" equals "{}"
unfolding compares bytes
maps_text = refl

-- a list at the root with or without brackets
brackets_aside : "1 2" equals "[1 2]"
unfolding compares bytes
brackets_aside = refl

-- a variant's is its name
variants_text : "'A'( 1)" equals "'A'(1)"
unfolding compares bytes
variants_text = refl

-- names are compared
names : "'A'(1)" differs_from "'B'(1)"
unfolding compares bytes
names = refl

-- texts are compared
texts : "1" differs_from "2"
unfolding compares bytes
texts = refl

-- as bytes: other quotes are another text
text_not_value : "'a'" differs_from "\"a\""
unfolding compares bytes
text_not_value = refl

-- of two texts one of which begins as the other
longer_text : "ab" differs_from "abc"
unfolding compares bytes
longer_text = refl

-- kinds are compared: the same bytes before a parenthesis
kinds : "''" differs_from "''()"
unfolding compares bytes
kinds = refl

-- a list and a map without text
list_or_map : "[]" differs_from "{}"
unfolding compares bytes
list_or_map = refl

-- sizes are compared
sizes : "[[1]2]" differs_from "[[1 2]]"
unfolding compares bytes
sizes = refl

-- as many records
counts : "1 2" differs_from "1 2 3"
unfolding compares bytes
counts = refl

-- comments are records
comments : "[1]" differs_from "[1//c\n]"
unfolding compares bytes
comments = refl

-- with their texts
comment_texts : "[1//c\n]" differs_from "[1//d\n]"
unfolding compares bytes
comment_texts = refl

-- and kinds: a suffix and a closing comment
comment_kinds : "[1 //c\n]" differs_from "[1\n//c\n]"
unfolding compares bytes
comment_kinds = refl

-- "as many records": a suffix stands behind the root, where no size counts it
suffix_behind_the_root : "1" differs_from "1 //c"
unfolding compares bytes
suffix_behind_the_root = refl

-- in either text
suffix_behind_the_first_root : "1 //c" differs_from "1"
unfolding compares bytes
suffix_behind_the_first_root = refl
