-- The bytes of a word, case by case.
use Rattle.std.proofs.Common.{◌≡◌, ℕ, ◌/◌, ◌%◌, ◌<◌, ◌≤◌, Bool, true, false, not, ◌||◌, eqb, List, [], length, Ok, Err, sym, refl, ◌∙◌, inl, inr, arith}
use Rattle.std.specs.List.{list_all}
use Rattle.std.proofs.lemmas.List.Sums.{AllPass-from_list_all, list_all-from_AllPass}
use Rattle.std.proofs.lemmas.Bool.{cases_eq, lt-ltb, le-ltb, ne_eqb}
use Rattle.hex.specs.Hex.{decode_of, decode_sized}
use Rattle.hex.proofs.HexLemmas.{decode_sized-twice, decode_sized-odd, decode_of-odd}
use Rattle.eon_spec.specs.Base.{eq_list, codes}
use Rattle.eon_laws.proofs.Facts.{list_eq}
use Rattle.answer_line.specs.declared.reply.Fault.TheVariants.{BadLine}
use Rattle.answer_line.specs.Word.{IsLowerCase, is_no_capital, bytes_of, or_bad_line}

-- a word decodes into half as many bytes, or not at all
sized : (word : List ℕ) → decode_sized word (length word / 2) ≡ decode_of word
sized word = elim (cases_eq (length word % 2) 0) [
  | inl even ↦ decode_sized-twice word (length word / 2) (omega arith)
  | inr odd ↦ let one : length word % 2 ≡ 1 = omega arith in decode_sized-odd word (length word / 2) one ∙ sym (decode_of-odd word one)
]

pub dash : (room : ℕ) (word : List ℕ) → word ≡ codes "-" → bytes_of room word ≡ Ok []
unfolding bytes_of
dash room word e = rw e refl

other : (word : List ℕ) → (word ≡ codes "-" → ⊥) → eq_list word (codes "-") ≡ false
other word differs = go (eq_list word (codes "-")) refl
  where
    go : (b : Bool) → eq_list word (codes "-") ≡ b → b ≡ false
    go true h = absurd (differs (list_eq word (codes "-") h))
    go false h = refl

some_capital : (word : List ℕ) → (IsLowerCase word → ⊥) → list_all is_no_capital word ≡ false
some_capital word h = go (list_all is_no_capital word) refl
  where
    go : (b : Bool) → list_all is_no_capital word ≡ b → b ≡ false
    go true e = absurd (h (AllPass-from_list_all is_no_capital word e))
    go false e = refl

or_true : (b : Bool) → b || true ≡ true
or_true true = refl
or_true false = refl

-- the tests of a word that is no dash
module _ (room : ℕ) (word : List ℕ) (differs : word ≡ codes "-" → ⊥) where
  pub empty : length word ≡ 0 → bytes_of room word ≡ Err BadLine
  unfolding bytes_of
  empty h = rw (other word differs, h) refl

  pub capital : (IsLowerCase word → ⊥) → bytes_of room word ≡ Err BadLine
  unfolding bytes_of
  capital h = rw (other word differs, some_capital word h, or_true (eqb (length word) 0)) refl

  pub long : room < length word / 2 → bytes_of room word ≡ Err BadLine
  unfolding bytes_of
  long h = rw (other word differs, lt-ltb room (length word / 2) h, or_true (eqb (length word) 0 || not (list_all is_no_capital word))) refl

  pub decoded : (length word ≡ 0 → ⊥) → IsLowerCase word → length word / 2 ≤ room
      → bytes_of room word ≡ or_bad_line (decode_sized word (length word / 2))
  unfolding bytes_of
  decoded some lower fits = rw (other word differs, ne_eqb (length word) 0 some, list_all-from_AllPass is_no_capital word lower, le-ltb room (length word / 2) fits, sized word) refl
