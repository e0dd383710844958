-- The kinds of records by name, for what is said of a table: document 01's numbers, as Records and src/record_kind.rt have them.
use Rattle.std.specs.Prelude.{ℕ}
use Rattle.eon_spec.specs.declared.record_kind.RecordKind.{RecordKind}
use Rattle.eon_spec.specs.declared.record_kind.RecordKind.TheVariants as kind

abbrev pub IDENTIFIER : ℕ
IDENTIFIER = 1

abbrev pub NUMBER : ℕ
NUMBER = 2

abbrev pub STRING : ℕ
STRING = 3

abbrev pub LIST : ℕ
LIST = 4

abbrev pub MAP : ℕ
MAP = 5

abbrev pub VARIANT : ℕ
VARIANT = 6

abbrev pub PREFIX_COMMENT : ℕ
PREFIX_COMMENT = 7

abbrev pub SUFFIX_COMMENT : ℕ
SUFFIX_COMMENT = 8

abbrev pub CLOSING_COMMENT : ℕ
CLOSING_COMMENT = 9

-- the first word of a record
abbrev pub word_of : RecordKind → ℕ
word_of kind.Identifier = IDENTIFIER
word_of kind.Number = NUMBER
word_of kind.String = STRING
word_of kind.List = LIST
word_of kind.Map = MAP
word_of kind.Variant = VARIANT
word_of kind.PrefixComment = PREFIX_COMMENT
word_of kind.SuffixComment = SUFFIX_COMMENT
word_of kind.ClosingComment = CLOSING_COMMENT
