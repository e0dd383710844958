-- An answer as eight words: number, start, end, expected kind and found kind of a refusal, then count, slice and start of a value.
-- Refused, the last three are 0; answered, the first five are.
use Rattle.std.specs.Prelude.{ℕ, zero, suc, ◌≡◌, Bool, cond, List, [], ◌∷◌}
use Rattle.eon_spec.specs.Refused.{Refusal}
use Rattle.eon_spec.specs.declared.Which.{Which}
use Rattle.eon_spec.specs.declared.Which.TheVariants.{Quoted, Scratch}
use Rattle.eon_spec.specs.declared.FormatOptions.{FormatOptions}
use Rattle.eon_spec.specs.declared.Found.{Found}
use Rattle.eon_spec.specs.Layout.{setting_of}
use Rattle.eon_spec.specs.declared.Part.{Part}
use Rattle.eon_spec.specs.Calls.{Outcome, done, refused_with, outcome_of}
use Rattle.eon_spec.specs.Lookup.{Looked, SomeOfEach}

abbrev pub refused_words : Refusal → List ℕ
refused_words r = r.number ∷ r.start ∷ r.end ∷ r.expected ∷ r.found ∷ 0 ∷ 0 ∷ 0 ∷ []

abbrev pub done_words : ℕ → ℕ → ℕ → List ℕ
done_words count slice start = 0 ∷ 0 ∷ 0 ∷ 0 ∷ 0 ∷ count ∷ slice ∷ start ∷ []

-- of reading, layout, places and lookups: how many records, bytes, hits or steps, or a record's number
abbrev pub count_words : Outcome ℕ → List ℕ
count_words (done n) = done_words n 0 0
count_words (refused_with r) = refused_words r

-- of comparison: 1 for equal
abbrev pub truth_words : Outcome Bool → List ℕ
truth_words (done b) = done_words (cond b 1 0) 0 0
truth_words (refused_with r) = refused_words r

-- the lent answers of a lookup: some value reached for each entry; refused, what was there
abbrev pub LentAnswers : Outcome Looked → List ℕ → List ℕ → Type 0
LentAnswers (done l) old new = SomeOfEach l.reached new
LentAnswers (refused_with r) old new = new ≡ old

-- the words handed back, or those that were there
abbrev pub unless_refused : Outcome ℕ → List ℕ → List ℕ → List ℕ
unless_refused (done n) new old = new
unless_refused (refused_with r) new old = old

abbrev pub found_or : Found → List ℕ → List ℕ
found_or f old = unless_refused (outcome_of f.answer) f.answers old

-- of unquoting: how many bytes, in which slice, from where
abbrev pub slice_number : Which → ℕ
slice_number Quoted = 0
slice_number Scratch = 1

-- .. and back: 0 names the quoted slice, any other number the scratch
abbrev pub which_of : ℕ → Which
which_of zero = Quoted
which_of (suc n) = Scratch

abbrev pub part_words : Outcome Part → List ℕ
part_words (done p) = done_words p.len (slice_number p.which) p.start
part_words (refused_with r) = refused_words r

-- of showing, so many bytes from a place in a slice: no byte stands at the quoted slice's beginning
abbrev pub shown_words : ℕ → Which → ℕ → List ℕ
shown_words zero w start = done_words 0 0 0
shown_words (suc n) w start = done_words (suc n) (slice_number w) start

-- the settings that four texts name
abbrev pub options_of : List ℕ → List ℕ → List ℕ → List ℕ → Bool → FormatOptions
options_of indentation newline space separator braces =
    record {
      indentation = setting_of indentation;
      newline = setting_of newline;
      space_before_suffix_comment = setting_of space;
      key_value_separator = setting_of separator;
      always_include_outer_braces = braces;
    }
