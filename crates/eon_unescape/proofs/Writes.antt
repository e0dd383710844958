-- What is written, byte by byte and character by character.
use Rattle.std.proofs.Common.{◌≡◌, ℕ, ◌+◌, ◌-◌, ◌≤◌, min, List, [], ◌++◌, length, take, drop, Ok, Err, Result, sym, refl, ap, ◌∙◌, append_assoc, arith, length-append, take-append-drop, drop_of_length-le, length-take-le, drop-drop}
use Rattle.std.proofs.lemmas.List.Edits.{sets, sets-eq}
use native.Mathlib.Decide.{dec_le}
use lib.Seq.{length-sets}
use Rattle.std.specs.Char.{encode_utf8}
use Rattle.eon_spec.specs.declared.refusal.Reason.{Reason}
use Rattle.eon_spec.specs.Utf8.{encode_char, encode}
use Rattle.eon_spec.specs.Unquote.{value, fault, push}
use Rattle.eon_spec.specs.Unquote as unquoting
use Rattle.eon_laws.proofs.Stores.{sets_append, sets_past}
use Rattle.eon_unescape.specs.Views.{Reads}

-- the library's bytes of a character are those of the paper
pub same_bytes : (c : ℕ) → encode_utf8 c ≡ encode_char c
unfolding encode_utf8 encode_char
same_bytes c = refl

-- so as many bytes are as there is room for
pub sets_room : (a l : List ℕ) (i n : ℕ) → i ≤ length l → n ≡ min (length a) (length l - i) → sets l i a ≡ take i l ++ (take n a ++ drop n (drop i l))
sets_room a l i n h e = sym split ∙ rest (dec_le (length a) n) ∙ front
  where
    few : length (take n a) ≡ n
    few = length-take-le n a (omega arith)

    split : sets (sets l i (take n a)) (i + length (take n a)) (drop n a) ≡ sets l i a
    split = sets_append (take n a) (drop n a) l i ∙ ap (sets l i) (take-append-drop n a)

    rest : Dec (length a ≤ n) → sets (sets l i (take n a)) (i + length (take n a)) (drop n a) ≡ sets l i (take n a)
    rest (yes k) = rw (drop_of_length-le a k)
    rest (no k) = sets_past (drop n a) (sets l i (take n a)) (i + length (take n a)) (omega (arith, few, length-sets l i (take n a)))

    front : sets l i (take n a) ≡ take i l ++ (take n a ++ drop n (drop i l))
    front = sets-eq (take n a) l i (omega (arith, few)) ∙ rw (few, drop-drop n i l, append_assoc)

-- a value's first character, and its rest
pub reads_push : (d at : ℕ) (entry : List ℕ) (w : unquoting.Unescaped) (exit : List ℕ) (r : Result ℕ Reason) (at2 : ℕ) (entry2 : List ℕ) → at2 ≡ at + length (encode_char d) → entry2 ≡ sets entry at (encode_char d) → Reads at2 entry2 w exit r → Reads at entry (push d w) exit r
unfolding encode
reads_push d at entry (value v) exit (Ok len) at2 entry2 p q (a, e) =
    (omega (arith, length-append (encode_char d) (encode v)), e ∙ rw (p, q) (sets_append (encode_char d) (encode v) entry at))
reads_push d at entry (value v) exit (Err x) at2 entry2 p q h = h
reads_push d at entry (fault n) exit (Ok len) at2 entry2 p q h = h
reads_push d at entry (fault n) exit (Err x) at2 entry2 p q h = h

-- the same of an equal value
pub same_as : (v w : unquoting.Unescaped) (at : ℕ) (entry exit : List ℕ) (r : Result ℕ Reason) → w ≡ v → Reads at entry v exit r → Reads at entry w exit r
same_as v w at entry exit r e h = rw e h

pub nothing_more : (at : ℕ) (out : List ℕ) → Reads at out (value []) out (Ok at)
unfolding encode
nothing_more at out = (omega arith, refl)
