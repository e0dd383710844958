-- What the words of a line are made of, and the bytes that they stand for (oracle/README.md, "Line protocol").
use Rattle.std.specs.Prelude.{ℕ, ◌/◌, Bool, List, [], length, not, ◌||◌, cond, eqb, ltb, Result, Ok, Err}
use Rattle.std.specs.List.{AllPass, list_all}
use Rattle.std.specs.Char.{is_ascii_uppercase}
use Rattle.std.specs.Borrow.{Bor}
use Rattle.hex.specs.Hex.{decode_of}
use Rattle.hex.specs.declared.error.FromHexError.{FromHexError}
use Rattle.eon_spec.specs.Base.{eq_list, codes}
use Rattle.answer_line.specs.declared.reply.Fault.{Fault}
use Rattle.answer_line.specs.declared.reply.Fault.TheVariants.{BadLine}

-- no letter is a capital
abbrev pub is_no_capital : ℕ → Bool
is_no_capital b = not (is_ascii_uppercase b)

abbrev pub IsLowerCase : List ℕ → Type 0
IsLowerCase word = AllPass is_no_capital word

abbrev pub or_bad_line : Result (List ℕ) FromHexError → Result (List ℕ) Fault
or_bad_line (Ok bytes) = Ok bytes
or_bad_line (Err e) = Err BadLine

-- "Bytes are lower-case hexadecimal, `-` for none": the bytes of a word, in a room for so many
unfoldable pub bytes_of : ℕ → List ℕ → Result (List ℕ) Fault
bytes_of room word =
    cond (eq_list word (codes "-")) (Ok [])
    (cond (eqb (length word) 0 || not (list_all is_no_capital word) || ltb room (length word / 2)) (Err BadLine)
    (or_bad_line (decode_of word)))

-- what is handed back, by its bytes
abbrev pub by_bytes : Result (Bor (List ℕ)) Fault → Result (List ℕ) Fault
by_bytes (Ok bytes) = Ok bytes.now
by_bytes (Err fault) = Err fault
