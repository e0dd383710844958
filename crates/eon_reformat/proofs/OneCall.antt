-- Reading and layout in one call: reading into a table of the function's own, and then both memories at once.
use Rattle.std.proofs.Common.{◌≡◌, ℕ, ◌*◌, ◌<◌, ◌≤◌, Bool, true, false, leb, List, ◌++◌, length, take, drop, Ok, Err, Result, sym, refl, ap, ◌∙◌, arith, le→leb, length-take}
use Rattle.eon_spec.specs.Refused.{Refusal, refusal_of}
use Rattle.eon_spec.specs.declared.refusal.Refusal as refusal
use Rattle.eon_spec.specs.declared.FormatOptions.{FormatOptions}
use Rattle.eon_spec.specs.Tree.{TokenTree}
use Rattle.eon_spec.specs.Records.{tree_records, words}
use Rattle.eon_spec.specs.Layout.{settings_of, format}
use Rattle.eon_spec.specs.Calls.{Outcome, done, refused_with, then, nowhere, After, after, written, fill, outcome_of, read_text, read_finished, good_settings, checked_settings, format_call, after_both, fill_both, reformat_call}
use Rattle.eon_laws.proofs.Facts.{true_of, false_of, le_of}
use Rattle.eon_laws.proofs.Records.{words_length}
use Rattle.eon_parse.specs.Call.{count_of}
use Rattle.eon_parse.proofs.Calls.{found, lost}
use Rattle.eon_table.proofs.Finished.{finished_words}
use Rattle.eon_format.proofs.Answered.{formatted}

same_answer : {A : Type 0} {a b : Outcome A} {m k : List ℕ} → after a m ≡ after b k → a ≡ b
same_answer {A} e = ap (λ (x : After A). x.answer) e

same_memory : {A : Type 0} {a b : Outcome A} {m k : List ℕ} → after a m ≡ after b k → m ≡ k
same_memory {A} e = ap (λ (x : After A). x.memory) e

-- an answer of the code, where its variant is known
abbrev Answer : Type 0
Answer = Result ℕ refusal.Refusal

known : {a b : Answer} {m : List ℕ} {x : After ℕ} → a ≡ b → after (outcome_of a) m ≡ x → after (outcome_of b) m ≡ x
known {m} f e = ap (λ (y : Answer). after (outcome_of y) m) (sym f) ∙ e

-- ---- reading into a table with room for any text

module _ (s work : List ℕ) (a : Answer) (e : outcome_of a ≡ then (read_text s) count_of) where
  -- reading answers: its table is finished
  pub read_done : (n : ℕ) → a ≡ Ok n → read_finished s work ≡ read_text s → (t : TokenTree) × (read_finished s work ≡ done t) × (n ≡ length (tree_records t))
  read_done n k h = found (read_finished s work) n (ap outcome_of (sym k) ∙ e ∙ ap (λ (o : Outcome TokenTree). then o count_of) (sym h))

  pub read_refused : (q : refusal.Refusal) → a ≡ Err q → read_text s ≡ refused_with (refusal_of q)
  read_refused q k = lost (read_text s) (refusal_of q) (ap outcome_of (sym k) ∙ e)

-- ---- refusals before layout

pub settings_first : (s table : List ℕ) (o : FormatOptions) (out : List ℕ) (r : Refusal) → r ≡ nowhere 16 → good_settings o ≡ false → after_both (refused_with r) table out ≡ reformat_call s table o out
unfolding reformat_call checked_settings fill_both
settings_first s table o out r e g = rw (g, checked_settings, e)

pub text_second : (s table : List ℕ) (o : FormatOptions) (out : List ℕ) (r : Refusal) → read_text s ≡ refused_with r → good_settings o ≡ true → after_both (refused_with r) table out ≡ reformat_call s table o out
unfolding reformat_call checked_settings fill_both
text_second s table o out r e g = rw (g, checked_settings, e)

-- ---- layout by a finished table

-- the words and the bytes, where they fit
module _ (table out w b : List ℕ) where
  no_table : length table < length w → fill_both table out (done (w, b)) ≡ after_both (refused_with (nowhere 14)) table out
  unfolding fill_both
  no_table h = rw (false_of (leb (length w) (length table)) (λ e. omega (arith, le_of (length w) (length table) e)), fill_both)

  module _ (h : length w ≤ length table) where
    fits : leb (length w) (length table) ≡ true
    fits = true_of (leb (length w) (length table)) (le→leb (length w) (length table) h)

    -- as the output's own writing goes
    out_refused : (r : Refusal) (out' : List ℕ) → after (refused_with r) out' ≡ fill out (done (length b, b)) → after_both (refused_with r) table out' ≡ fill_both table out (done (w, b))
    unfolding fill fill_both
    out_refused r out' e = go (leb (length b) (length out)) refl
      where
        go : (x : Bool) → leb (length b) (length out) ≡ x → after_both (refused_with r) table out' ≡ fill_both table out (done (w, b))
        go true f = let g = same_answer (rw (f, fill) at e) in cc
        go false f = let g = rw (f, fill) at e in rw (fits, f, fill_both, same_answer g, same_memory g)

    out_done : (n : ℕ) (out' : List ℕ) → after (done n) out' ≡ fill out (done (length b, b)) → after_both (done n) (written w table) out' ≡ fill_both table out (done (w, b))
    unfolding fill fill_both
    out_done n out' e = go (leb (length b) (length out)) refl
      where
        go : (x : Bool) → leb (length b) (length out) ≡ x → after_both (done n) (written w table) out' ≡ fill_both table out (done (w, b))
        go true f = let g = rw (f, fill) at e in rw (fits, f, fill_both, same_answer g, same_memory g)
        go false f = let g = same_answer (rw (f, fill) at e) in cc

module _ (s work table : List ℕ) (o : FormatOptions) (out : List ℕ) (n : ℕ) (g : good_settings o ≡ true) (i : (t : TokenTree) × (read_finished s work ≡ done t) × (n ≡ length (tree_records t))) where
  abbrev its_words : List ℕ
  its_words = words (tree_records i.0)

  abbrev its_bytes : List ℕ
  its_bytes = format (settings_of o) i.0

  both : fill_both table out (done (its_words, its_bytes)) ≡ reformat_call s table o out
  unfolding reformat_call checked_settings
  both = rw (g, checked_settings, (finished_words s work i.0 i.1).0)

  five : length its_words ≡ 5 * n
  five = omega (arith, words_length (tree_records i.0), i.2)

  -- as many words stand in the table
  pub words_within : 5 * n ≤ length work
  words_within = omega (arith, five, length-take (length its_words) work, ap length (finished_words s work i.0 i.1).1)

  pub table_short : (r : Refusal) → r ≡ nowhere 14 → length table < 5 * n → after_both (refused_with r) table out ≡ reformat_call s table o out
  table_short r e h = rw e (sym (no_table table out its_words its_bytes (omega (arith, five))) ∙ both)

  pub out_short : (a : Answer) (q : refusal.Refusal) (out' : List ℕ) → 5 * n ≤ length table → a ≡ Err q → after (outcome_of a) out' ≡ format_call s work o out → after_both (refused_with (refusal_of q)) table out' ≡ reformat_call s table o out
  out_short a q out' h k e = out_refused table out its_words its_bytes (omega (arith, five)) (refusal_of q) out' (known k e ∙ sym (formatted s work o out i.0 g i.1)) ∙ both

  pub both_written : (a : Answer) (m : ℕ) (out' table' : List ℕ) → 5 * n ≤ length table → a ≡ Ok m → after (outcome_of a) out' ≡ format_call s work o out → table' ≡ take (5 * n) work ++ drop (5 * n) table
      → after_both (done m) table' out' ≡ reformat_call s table o out
  both_written a m out' table' h k e f =
      let x : table' ≡ written its_words table = f ∙ rw (← five, (finished_words s work i.0 i.1).1) in
      rw x (out_done table out its_words its_bytes (omega (arith, five)) m out' (known k e ∙ sym (formatted s work o out i.0 g i.1)) ∙ both)
