-- The calls under names that unfold all the way, so that a worked example is a row `by computing`, and the words of such rows.
use Rattle.std.proofs.Common.{◌≡◌, ℕ, zero, suc, ◌-◌, ◌*◌, Bool, true, false, List, [], ◌∷◌, ◌++◌, length, take, replicate}
use Prim.Native.String.{String}
use Rattle.eon_spec.specs.Utf8.{utf8, encode, encode_char, decode, chars_from, chars, char_len, is_utf8, well_formed_len, well_formed_from}
use Rattle.eon_spec.specs.Regex.{deriv, longest}
use Rattle.eon_spec.specs.Token.{Token, kind_number, tokens, tokens_from, longest_rule, rules}
use Rattle.eon_spec.specs.Parse.{parse, parse_top, none_is_left, parse_comments, suffix_comment, consume_token, next_is, at_end, skip, after_comma, list_contents, map_contents, list_inside, map_inside, string_or_variant, value_of, tree_behind, tree_with, value_at, inside_at}
use Rattle.eon_spec.specs.Records.{tree_records, words}
use Rattle.eon_spec.specs.Layout.{Settings, defaults, format, value, values_on_one_line, on_one_line}
use Rattle.eon_spec.specs.Unquote.{unquote, unquote_chars, unescape, is_valid_identifier}
use Rattle.eon_spec.specs.declared.Hit.{Hit}
use Rattle.eon_spec.specs.Pick.{picked, record_at_call, records_in_call}
use Rattle.eon_spec.specs.Lookup.{paths_max, Looked, path_list, reached, steps, looked, lookup_call}
use Rattle.eon_spec.specs.Calls.{nowhere, Outcome, done, refused_with, then, checked, read_text, fill, read_call, read_finished, is_finished, compare_call, unquote_call, show_call}

-- an answer as numbers: 0 and the answer, or the five numbers of a refusal
abbrev pub plain : Outcome (List ℕ) → List ℕ
plain (done b) = 0 ∷ b
plain (refused_with r) = r.number ∷ r.start ∷ r.end ∷ r.expected ∷ r.found ∷ []

unfoldable pub reads : List ℕ → List ℕ
unfolding decode chars_from chars encode encode_char char_len is_utf8 well_formed_len well_formed_from deriv longest tokens tokens_from longest_rule rules
    parse parse_top none_is_left parse_comments suffix_comment consume_token next_is at_end skip after_comma list_contents map_contents list_inside map_inside
    string_or_variant value_of tree_behind tree_with value_at inside_at tree_records checked read_text
reads s = plain (then (read_text s) λ t. done (words (tree_records t)))

unfoldable pub writes_by : Settings → List ℕ → List ℕ
unfolding reads format value values_on_one_line on_one_line
writes_by o s = plain (then (read_text s) λ t. done (format o t))

unfoldable pub writes : List ℕ → List ℕ
unfolding writes_by
writes s = writes_by defaults s

-- the value, as it is shown behind unquoting with a scratch of 100 bytes
unfoldable pub shows : List ℕ → List ℕ
unfolding reads unquote unquote_chars unescape unquote_call fill show_call
shows s =
    let a = unquote_call s (replicate 100 0) in
    plain (then a.answer λ p. done (show_call p s a.memory))

abbrev flat : List Token → List ℕ
flat [] = []
flat (t ∷ ts) = kind_number t.kind ∷ t.start ∷ t.end ∷ flat ts

unfoldable pub tokens_of : List ℕ → List ℕ
unfolding reads
tokens_of s = plain (checked s λ t. done (flat (tokens t)))

abbrev pub truth : Bool → List ℕ
truth true = 1 ∷ []
truth false = 0 ∷ []

unfoldable pub ident : List ℕ → List ℕ
unfolding is_valid_identifier
ident s = 0 ∷ truth (is_valid_identifier s)

unfoldable pub compares : List ℕ → List ℕ → List ℕ
unfolding reads read_call fill read_finished is_finished compare_call
compares s t =
    let a = read_call s (replicate 200 0) in
    let b = read_call t (replicate 200 0) in
    plain (then (compare_call s a.memory t b.memory) λ x. done (truth x))

-- the record at an offset, by the table that reading gives
unfoldable pub picked_at : List ℕ → ℕ → List ℕ
unfolding compares picked record_at_call
picked_at s o =
    let a = read_call s (replicate 200 0) in
    plain (then (record_at_call s a.memory o) λ n. done (n ∷ []))

-- the records in a range: three numbers a hit, its record and its span
abbrev pub hit : ℕ → ℕ → ℕ → Hit
hit n a e = record { «record» = n; start = a; end = e }

abbrev flat_hits : List Hit → List ℕ
flat_hits [] = []
flat_hits (h ∷ hs) = h.«record» ∷ h.start ∷ h.end ∷ flat_hits hs

unfoldable pub hits_in : List ℕ → ℕ → ℕ → List ℕ
unfolding compares records_in_call
hits_in s from to =
    let a = read_call s (replicate 200 0) in
    let b = records_in_call s a.memory from to (replicate 40 (hit 0 0 0)) in
    plain (then b.answer λ n. done (flat_hits (take n b.memory)))

-- what a list of paths finds in an event, by the tables that reading gives
unfoldable pub looks_up : List ℕ → List ℕ → Outcome Looked
unfolding compares path_list reached steps looked lookup_call
looks_up s q =
    let a = read_call s (replicate (5 * suc (length s)) 0) in
    let b = read_call q (replicate (5 * suc (length q)) 0) in
    lookup_call s a.memory q b.memory

-- so many steps; for each path the values that it reaches, and behind the last path none
abbrev pub finds : ℕ → List (List ℕ) → Outcome Looked
finds n es = done (record { steps = n; reached = es ++ replicate (paths_max - length es) [] })

abbrev pub settings : List ℕ → List ℕ → List ℕ → List ℕ → Bool → Settings
settings ind nl blank sep braces =
    record { indentation = ind; newline = nl; space_before_suffix_comment = blank; key_value_separator = sep; always_include_outer_braces = braces }

-- the bytes of a quoted text
unfoldable pub bytes : String → List ℕ
unfolding utf8 encode encode_char
bytes s = utf8 s

-- a text so many times
abbrev pub repeated : ℕ → List ℕ → List ℕ
repeated zero s = []
repeated (suc n) s = s ++ repeated n s

-- ---- rows

infix 50 ◌has_tokens◌ ◌has_records◌ ◌is_refused◌ ◌is_written◌ ◌unquotes_to◌ ◌is_no_string◌ ◌equals◌ ◌differs_from◌ ◌offset◌picks◌ ◌offset◌refused_by◌ ◌range◌up_to◌hits◌ ◌along◌takes◌reaching◌ ◌along◌refused_by◌
-- the text has these tokens: kind, start and end of each
abbrev pub ◌has_tokens◌ : String → List ℕ → Type 0
s has_tokens w = tokens_of (bytes s) ≡ 0 ∷ w

-- the text has these records, by their words
abbrev pub ◌has_records◌ : String → List ℕ → Type 0
s has_records w = reads (bytes s) ≡ 0 ∷ w

-- the text is refused: number, start, end, expected kind, found kind
abbrev pub ◌is_refused◌ : String → List ℕ → Type 0
s is_refused r = reads (bytes s) ≡ r

-- the text is written so under the default settings
abbrev pub ◌is_written◌ : String → String → Type 0
s is_written t = writes (bytes s) ≡ 0 ∷ bytes t

-- the quoted string has this value, or is refused by this number
abbrev pub ◌unquotes_to◌ : String → String → Type 0
s unquotes_to t = shows (bytes s) ≡ 0 ∷ bytes t

abbrev pub ◌is_no_string◌ : String → ℕ → Type 0
s is_no_string n = shows (bytes s) ≡ n ∷ 0 ∷ 0 ∷ 0 ∷ 0 ∷ []

-- the trees of two texts are equal, spans aside, or not
abbrev pub ◌equals◌ : String → String → Type 0
s equals t = compares (bytes s) (bytes t) ≡ 0 ∷ 1 ∷ []

abbrev pub ◌differs_from◌ : String → String → Type 0
s differs_from t = compares (bytes s) (bytes t) ≡ 0 ∷ 0 ∷ []

-- the offset picks this record, or is refused by this number
abbrev pub ◌offset◌picks◌ : String → ℕ → ℕ → Type 0
s offset o picks n = picked_at (bytes s) o ≡ 0 ∷ n ∷ []

abbrev pub ◌offset◌refused_by◌ : String → ℕ → ℕ → Type 0
s offset o refused_by n = picked_at (bytes s) o ≡ n ∷ 0 ∷ 0 ∷ 0 ∷ 0 ∷ []

-- the records in the range: number, start and end of each
abbrev pub ◌range◌up_to◌hits◌ : String → ℕ → ℕ → List ℕ → Type 0
s range from up_to to hits w = hits_in (bytes s) from to ≡ 0 ∷ w

-- along the paths of a path text the event is walked in so many steps, and each path reaches these values, by their records
abbrev pub ◌along◌takes◌reaching◌ : String → String → ℕ → List (List ℕ) → Type 0
s along q takes n reaching es = looks_up (bytes s) (bytes q) ≡ finds n es

abbrev pub ◌along◌refused_by◌ : String → String → ℕ → Type 0
s along q refused_by n = looks_up (bytes s) (bytes q) ≡ refused_with (nowhere n)
