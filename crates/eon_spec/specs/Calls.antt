-- The outcome of each public call in full: its answer, and what the lent memory holds afterwards (document 01, "Refusals at the desk").
-- "Order: 16, 1, 2, reading (3 to 13), 15, 14. Of two texts, the first's come first." "Every refusal leaves lent memory unchanged."
use Rattle.std.specs.Prelude.{ℕ, ◌+◌, ◌-◌, Bool, true, false, ◌&&◌, ◌||◌, not, cond, List, [], ◌∷◌, ◌++◌, length, take, drop, ltb, leb, eqb, Option, Some, None, Result, Ok, Err}
use Rattle.eon_spec.specs.declared.refusal.Refusal as refusal
use Rattle.eon_spec.specs.declared.Which.{Which}
use Rattle.eon_spec.specs.declared.Which.TheVariants.{Quoted, Scratch}
use Rattle.eon_spec.specs.declared.Part.{Part}
use Rattle.eon_spec.specs.Refused.{Refusal, refusal_of}
use Rattle.eon_spec.specs.declared.Setting.{Setting}
use Rattle.eon_spec.specs.declared.FormatOptions.{FormatOptions}
use Rattle.eon_spec.specs.Base.{elem, eq_list, codes}
use Rattle.eon_spec.specs.Utf8.{is_utf8, well_formed_len}
use Rattle.eon_spec.specs.Tree.{Span, TokenTree}
use Rattle.eon_spec.specs.Parse.{refusal, Parsed, parsed, refused_by, parse}
use Rattle.eon_spec.specs.Records.{Record, tree_records, words}
use Rattle.eon_spec.specs.Layout.{setting_max, text_of, settings_of, format}
use Rattle.eon_spec.specs.Unquote.{Unescaped, value, fault, unquote, starts_with}

-- an answer, or a refusal
pub data Outcome (A : Type 0) : Type 0 where
  done : A → Outcome A
  refused_with : Refusal → Outcome A

abbrev pub then : {A B : Type 0} → Outcome A → (A → Outcome B) → Outcome B
then (done a) f = f a
then (refused_with r) f = refused_with r

-- the paper's outcome for what a call answers
abbrev pub outcome_of : {A : Type 0} → Result A refusal.Refusal → Outcome A
outcome_of (Ok a) = done a
outcome_of (Err r) = refused_with (refusal_of r)

-- a call's answer, and what the lent memory holds after it: entries E, which are numbers but for the list of hits
pub record AfterIn (E A : Type 0) : Type 0 where
  pub answer : Outcome A
  pub memory : List E

abbrev pub After : Type 0 → Type 0
After A = AfterIn ℕ A

abbrev pub after : {A E : Type 0} → Outcome A → List E → AfterIn E A
after a m = record { answer = a; memory = m }

-- a refusal "0, 0", and one at a place of no length
abbrev pub place : ℕ → Span
place n = record { start = n; end = n }

abbrev pub nowhere : ℕ → Refusal
nowhere n = refusal n (place 0)

-- what there is; where there is nothing, a refusal
abbrev pub or_refused : {A : Type 0} → ℕ → Option A → Outcome A
or_refused n None = refused_with (nowhere n)
or_refused n (Some a) = done a

-- ---- a text

-- 1, then 2, then what the text itself gives
unfoldable pub checked : {A : Type 0} → List ℕ → (List ℕ → Outcome A) → Outcome A
checked s f =
    elim (ltb 65535 (length s)) [
      | true ↦ refused_with (refusal 1 (place 65535))
      | false ↦ elim (is_utf8 s) [ true ↦ f s | false ↦ refused_with (refusal 2 (place (well_formed_len s))) ]
    ]

abbrev pub parsed_outcome : Parsed → Outcome TokenTree
parsed_outcome (parsed t) = done t
parsed_outcome (refused_by r) = refused_with r

-- the tree of a text, or its refusal: 1, 2, 3 to 13
unfoldable pub read_text : List ℕ → Outcome TokenTree
read_text s = checked s λ t. parsed_outcome (parse t)

-- ---- lent memory

-- "Words past the tree keep their content, as do bytes past any written answer"
abbrev pub written : {E : Type 0} → List E → List E → List E
written new old = new ++ drop (length new) old

-- an answer and what is written for it; 14 if that is longer than the memory
unfoldable pub fill : {A E : Type 0} → List E → Outcome (A × List E) → AfterIn E A
fill old (refused_with r) = after (refused_with r) old
fill old (done (a, new)) =
    elim (leb (length new) (length old)) [ true ↦ after (done a) (written new old) | false ↦ after (refused_with (nowhere 14)) old ]

-- ---- reading

-- the number of records, and the table
unfoldable pub read_call : List ℕ → List ℕ → After ℕ
read_call s table = fill table (then (read_text s) λ t. let rs = tree_records t in done (length rs, words rs))

-- ---- a finished table

-- 15: "table too short, or its first records differ from what reading this text gives; words after them are ignored"
unfoldable pub is_finished : List ℕ → TokenTree → Bool
is_finished table t = let w = words (tree_records t) in eq_list (take (length w) table) w

-- the tree of a text with its finished table, or a refusal up to 15
unfoldable pub read_finished : List ℕ → List ℕ → Outcome TokenTree
read_finished s table = then (read_text s) λ t. elim (is_finished table t) [ true ↦ done t | false ↦ refused_with (nowhere 15) ]

-- ---- layout

-- 16: "a setting over 16 bytes or not UTF-8"
abbrev pub good_setting : Setting → Bool
good_setting s = leb s.len setting_max && is_utf8 (text_of s)

abbrev pub good_settings : FormatOptions → Bool
good_settings o =
    good_setting o.indentation && good_setting o.newline && good_setting o.space_before_suffix_comment
    && good_setting o.key_value_separator

unfoldable pub checked_settings : {A : Type 0} → FormatOptions → Outcome A → Outcome A
checked_settings o x = elim (good_settings o) [ true ↦ x | false ↦ refused_with (nowhere 16) ]

-- the number of bytes, and the output
unfoldable pub format_call : List ℕ → List ℕ → FormatOptions → List ℕ → After ℕ
format_call s table o out =
    fill out (checked_settings o (then (read_finished s table) λ t. let b = format (settings_of o) t in done (length b, b)))

-- ---- reading and layout in one call

-- the answer, and what both memories hold after it
pub record AfterBoth : Type 0 where
  pub answer : Outcome ℕ
  pub table : List ℕ
  pub out : List ℕ

abbrev pub after_both : Outcome ℕ → List ℕ → List ℕ → AfterBoth
after_both a table out = record { answer = a; table = table; out = out }

-- the words for the table and the bytes for the output are written where both fit; 14 if one does not
unfoldable pub fill_both : List ℕ → List ℕ → Outcome (List ℕ × List ℕ) → AfterBoth
fill_both table out (refused_with r) = after_both (refused_with r) table out
fill_both table out (done (w, b)) =
    elim (leb (length w) (length table) && leb (length b) (length out)) [
      | true ↦ after_both (done (length b)) (written w table) (written b out)
      | false ↦ after_both (refused_with (nowhere 14)) table out
    ]

-- the number of bytes, the table and the output
unfoldable pub reformat_call : List ℕ → List ℕ → FormatOptions → List ℕ → AfterBoth
reformat_call s table o out =
    fill_both table out (checked_settings o (then (read_text s) λ t. done (words (tree_records t), format (settings_of o) t)))

-- ---- comparison

-- "text bytes (name bytes for variants; none for lists and maps)"
abbrev pub record_text : List ℕ → Record → List ℕ
record_text s r = cond (elem r.kind (4 ∷ 5 ∷ [])) [] (take (r.text_end - r.start) (drop r.start s))

-- "as many records, and in each pair of records equal kinds, sizes and text bytes"
abbrev pub same_records : List ℕ → List Record → List ℕ → List Record → Bool
same_records s [] t [] = true
same_records s [] t (q ∷ qs) = false
same_records s (r ∷ rs) t [] = false
same_records s (r ∷ rs) t (q ∷ qs) =
    eqb r.kind q.kind && eqb r.size q.size && eq_list (record_text s r) (record_text t q) && same_records s rs t qs

unfoldable pub compare_call : List ℕ → List ℕ → List ℕ → List ℕ → Outcome Bool
compare_call s sTable t tTable =
    then (read_finished s sTable) λ a.
    then (read_finished t tTable) λ b.
    done (same_records s (tree_records a) t (tree_records b))

-- ---- unquoting

-- a part of one of the two slices: which, from where, and how many bytes
abbrev pub part_of : Which → ℕ → ℕ → Part
part_of w start len = record { which = w; start = start; len = len }

abbrev pub unescaped_outcome : Unescaped → Outcome (List ℕ)
unescaped_outcome (value b) = done b
unescaped_outcome (fault n) = refused_with (nowhere n)

-- "a part of the quoted slice where it has no carriage return and either is literal or has no backslash"; `it` is the quoted slice
abbrev pub is_part : List ℕ → Bool
is_part s = not (elem 13 s) && (starts_with (codes "'") s || not (elem 92 s))

-- the length of the opening mark, with the line feed that `'''` drops
abbrev pub opening : List ℕ → ℕ
opening s = cond (starts_with (codes "'''\n") s) 4 (cond (starts_with (codes "'''") s || starts_with (codes "\"\"\"") s) 3 1)

-- where the value b of a quoted slice is handed back, and what is written to the scratch for it
abbrev pub handed_back : List ℕ → List ℕ → Part × List ℕ
handed_back s b = cond (is_part s) (part_of Quoted (opening s) (length b), []) (part_of Scratch 0 (length b), b)

-- "Unquoting: 1, 2, then 17 to 26 as met, then 14"
unfoldable pub unquote_call : List ℕ → List ℕ → After Part
unquote_call s scratch =
    fill scratch (then (checked s λ t. unescaped_outcome (unquote t)) λ b. done (handed_back s b))

-- of the two slices the one that is named
abbrev pub pick : {A : Type 0} → Which → A → A → A
pick Quoted q s = q
pick Scratch q s = s

abbrev pub lies_within : Part → List ℕ → List ℕ → Bool
lies_within p q s = leb (p.start + p.len) (length (pick p.which q s))

-- showing: the bytes of the part named; "shows the empty beginning of the quoted slice if they reach beyond the slice named"
unfoldable pub show_call : Part → List ℕ → List ℕ → List ℕ
show_call p q s = cond (lies_within p q s) (take p.len (drop p.start (pick p.which q s))) []

-- where these bytes stand: in the slice named from the start named on, or at the quoted slice's beginning. A place is a block of memory
-- and a byte in it; q' and s' are those of the slices
abbrev pub moved : ℕ → ℕ × ℕ → ℕ × ℕ
moved n a = (a.0, n + a.1)

unfoldable pub shown_place : Part → List ℕ → List ℕ → ℕ × ℕ → ℕ × ℕ → ℕ × ℕ
shown_place p q s q' s' = cond (lies_within p q s) (moved p.start (pick p.which q' s')) q'
