-- Memory that is never too short: with so much room for its text, a call answers what the text gives, and 14 is no part of that.
use Rattle.std.proofs.Common.{◌≡◌, ℕ, suc, ◌*◌, ◌≤◌, Bool, true, false, cond, List, [], length, refl, ap, inl, inr, arith, le-leb}
use Rattle.eon_spec.specs.Refused.{Refusal}
use Rattle.eon_spec.specs.declared.Which.TheVariants.{Quoted, Scratch}
use Rattle.eon_spec.specs.Utf8.{is_utf8, well_formed_len, well_formed_from, char_len}
use Rattle.eon_spec.specs.Tree.{TokenTree}
use Rattle.eon_spec.specs.Parse.{parsed, parse}
use Rattle.eon_spec.specs.Records.{tree_records, words}
use Rattle.eon_spec.specs.Layout.{defaults, default_options, format}
use Rattle.eon_spec.specs.Unquote.{Unescaped, value, fault, unquote}
use Rattle.eon_spec.specs.declared.Part.{Part}
use Rattle.eon_spec.specs.Calls.{Outcome, done, refused_with, then, after, nowhere, checked, read_text, written, fill, fill_both, read_call, read_finished, good_settings, checked_settings, format_call, reformat_call, part_of, is_part, opening, unescaped_outcome, handed_back, unquote_call}
use Rattle.eon_laws.proofs.Numbers.{OfText, OfTable, checked_cases, read_cases, finished_cases}
use Rattle.eon_laws.proofs.Records.{words_length}
use Rattle.eon_laws.proofs.Spans.{few_records}
use Rattle.eon_laws.proofs.LayoutLength.{layout_length}
use Rattle.eon_laws.proofs.UnquoteLength.{Unquoted, unquote_length}

-- a refusal for another reason than room
abbrev pub Other : Refusal → Type 0
Other r = r.number ≡ 14 → ⊥

-- answered, or refused for another reason than room
abbrev pub Enough : {A : Type 0} → Outcome A → Type 0
Enough (done a) = Unit {0}
Enough (refused_with r) = Other r

pub text_other : (r : Refusal) → OfText r → Other r
text_other r o e = omega (arith, o.1)

pub table_other : (r : Refusal) → OfTable r → Other r
table_other r (inl o) = text_other r o
table_other r (inr z) = λ e. let n : r.number ≡ 15 = ap (λ (q : Refusal). q.number) z in omega arith

-- ---- what fits is written

pub fits_memory : {A E : Type 0} (a : A) (new old : List E) → length new ≤ length old → fill old (done (a, new)) ≡ after (done a) (written new old)
unfolding fill
fits_memory a new old h = rw (le-leb (length new) (length old) h, fill)

-- what w writes for b
abbrev pub Fits : {A B E : Type 0} → List E → (B → A × List E) → B → Type 0
Fits old w b = length (w b).1 ≤ length old

-- what is answered if what w writes for x fits
abbrev pub Answers : {A B E : Type 0} → List E → (B → A × List E) → Outcome B → Type 0
Answers old w x = (fill old (then x λ b. done (w b))).answer ≡ then x λ b. done (w b).0

pub answers : {A B E : Type 0} (old : List E) (w : B → A × List E) (b : B) → Fits old w b → Answers old w (done b)
answers old w b h = ap (λ x. x.answer) (fits_memory (w b).0 (w b).1 old h)

pub answers_refused : {A B E : Type 0} (old : List E) (w : B → A × List E) (r : Refusal) → Answers old w (refused_with r)
unfolding fill
answers_refused old w r = refl

good_defaults : good_settings default_options ≡ true
unfolding is_utf8 well_formed_len well_formed_from char_len
good_defaults = refl

-- the default settings are not refused
pub default_settings : {A : Type 0} (x : Outcome A) → checked_settings default_options x ≡ x
unfolding checked_settings
default_settings x = rw (good_defaults, checked_settings)

-- ---- the laws: the answer is what the text gives, and not 14

-- an answer that is what x gives
pub answers_not_14 : {A B : Type 0} (a : Outcome A) (x : Outcome B) (f : B → A) → a ≡ (then x λ b. done (f b)) → Enough x → a ≡ refused_with (nowhere 14) → ⊥
answers_not_14 a (done b) f e h k = cc
answers_not_14 a (refused_with r) f e h k = h (let z : r ≡ nowhere 14 = cc in ap (λ q. q.number) z)

text_enough : (s : List ℕ) → Enough (read_text s)
text_enough s = read_cases s Enough (λ formed t e. tt) text_other

pub finished_enough : (s table : List ℕ) → Enough (read_finished s table)
finished_enough s table = finished_cases s Enough (λ formed t e. tt) table table_other

module _ (s table : List ℕ) where
  -- the records of the text's tree
  words_fit : 5 * suc (length s) ≤ length table → is_utf8 s ≡ true → (t : TokenTree) → parse s ≡ parsed t → length (words (tree_records t)) ≤ length table
  words_fit h formed t e = rw (words_length (tree_records t)) (omega (arith, few_records s formed t e))

  module _ (h : 5 * suc (length s) ≤ length table) where
    -- a table of five words for each byte of the text, and five more, is never too short
    pub read_room : (read_call s table).answer ≡ then (read_text s) λ t. done (length (tree_records t))
    unfolding read_call
    read_room =
        let w : TokenTree → ℕ × List ℕ = λ t. (length (tree_records t), words (tree_records t)) in
        read_cases s (Answers table w) (λ formed t e. answers table w t (words_fit h formed t e)) λ r o. answers_refused table w r

    pub read_not_14 : (read_call s table).answer ≡ refused_with (nowhere 14) → ⊥
    read_not_14 = answers_not_14 (read_call s table).answer (read_text s) (λ t. length (tree_records t)) read_room (text_enough s)

  module _ (out : List ℕ) (room : 68 * suc (length s) ≤ length out) where
    -- its layout
    bytes_fit : is_utf8 s ≡ true → (t : TokenTree) → parse s ≡ parsed t → length (format defaults t) ≤ length out
    bytes_fit formed t e = omega (arith, layout_length s formed t e)

    -- an output of 68 bytes for each byte of the text, and 68 more, is never too short
    pub format_room : (format_call s table default_options out).answer ≡ then (read_finished s table) λ t. done (length (format defaults t))
    unfolding format_call
    format_room =
        let w : TokenTree → ℕ × List ℕ = λ t. (length (format defaults t), format defaults t) in
        rw default_settings (finished_cases s (Answers out w) (λ formed t e. answers out w t (bytes_fit formed t e)) table λ r o. answers_refused out w r)

    pub format_not_14 : (format_call s table default_options out).answer ≡ refused_with (nowhere 14) → ⊥
    format_not_14 = answers_not_14 (format_call s table default_options out).answer (read_finished s table) (λ t. length (format defaults t)) format_room (finished_enough s table)

    -- both together, for reading and layout in one call
    pub reformat_room : 5 * suc (length s) ≤ length table → (reformat_call s table default_options out).answer ≡ then (read_text s) λ t. done (length (format defaults t))
    unfolding reformat_call fill_both
    reformat_room h =
        rw default_settings
        (read_cases s (λ x. (fill_both table out (then x λ t. done (words (tree_records t), format defaults t))).answer ≡ then x λ t. done (length (format defaults t)))
        (λ formed t e. rw (le-leb (length (words (tree_records t))) (length table) (words_fit h formed t e), le-leb (length (format defaults t)) (length out) (bytes_fit formed t e), fill_both))
        λ r o. refl)

    pub reformat_not_14 : 5 * suc (length s) ≤ length table → (reformat_call s table default_options out).answer ≡ refused_with (nowhere 14) → ⊥
    reformat_not_14 h = answers_not_14 (reformat_call s table default_options out).answer (read_text s) (λ t. length (format defaults t)) (reformat_room h) (text_enough s)

module _ (s scratch : List ℕ) (h : length s ≤ length scratch) where
  -- what is written for a value: nothing, or the value
  part_fits : (b : List ℕ) → length b ≤ length s → Fits scratch (handed_back s) b
  part_fits b k = go (is_part s) (part_of Quoted (opening s) (length b)) (part_of Scratch 0 (length b))
    where
      go : (x : Bool) (p q : Part) → length (cond {A = Part × List ℕ} x (p, []) (q, b)).1 ≤ length scratch
      go true p q = omega arith
      go false p q = omega arith

  -- what the string gives, by cases
  unquote_cases : (P : Outcome (List ℕ) → Type 0) → ((r : Refusal) → Other r → P (refused_with r)) → ((b : List ℕ) → length b ≤ length s → P (done b)) → P (checked s λ t. unescaped_outcome (unquote t))
  unquote_cases P refuses accepts = checked_cases s (λ t. unescaped_outcome (unquote t)) P (λ r b. refuses r λ e. omega (arith, b.1)) λ formed. go (unquote s) (unquote_length s formed)
    where
      go : (u : Unescaped) → Unquoted (length s) u → P (unescaped_outcome u)
      go (value b) k = accepts b k
      go (fault n) k = refuses (nowhere n) λ e. omega (arith, k.0)

  -- a scratch as long as the quoted string is never too short
  pub unquote_room : (unquote_call s scratch).answer ≡ then (checked s λ t. unescaped_outcome (unquote t)) λ b. done (handed_back s b).0
  unfolding unquote_call
  unquote_room = unquote_cases (Answers scratch (handed_back s)) (λ r o. answers_refused scratch (handed_back s) r) λ b k. answers scratch (handed_back s) b (part_fits b k)

  pub unquote_not_14 : (unquote_call s scratch).answer ≡ refused_with (nowhere 14) → ⊥
  unquote_not_14 = answers_not_14 (unquote_call s scratch).answer (checked s λ t. unescaped_outcome (unquote t)) (λ b. (handed_back s b).0) unquote_room (unquote_cases Enough (λ r o. o) λ b k. tt)
