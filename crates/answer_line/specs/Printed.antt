-- What is printed for an answer (oracle/README.md, "Line protocol").
use Rattle.std.specs.Prelude.{ℕ, List, [], ◌∷◌, ◌++◌, codes, true, false}
use Rattle.std.specs.List.{flat_map}
use Rattle.std.specs.Fmt.{decimal}
use Rattle.hex.specs.Hex.{encode_lower}
use Rattle.eon_spec.specs.Refused.{Refusal, refusal_of}
use Rattle.eon_spec.specs.Token.{kind_number, Token, tokens}
use Rattle.answer_line.specs.declared.reply.Fault.{Fault}
use Rattle.answer_line.specs.declared.reply.Fault.TheVariants.{BadLine, Refused}
use Rattle.answer_line.specs.declared.reply.Reply.{Reply}
use Rattle.answer_line.specs.declared.reply.Reply.TheVariants.{Bytes, Table, Tokens, Truth}

-- "Bytes are lower-case hexadecimal, `-` for none"
abbrev pub hex_text : List ℕ → List ℕ
hex_text [] = codes "-"
hex_text (b ∷ bytes) = encode_lower (b ∷ bytes)

-- "words are parted by one blank": a number behind its blank
abbrev pub number_text : ℕ → List ℕ
number_text n = codes " " ++ decimal n

abbrev pub numbers_text : List ℕ → List ℕ
numbers_text = flat_map number_text

-- "kind (0 invalid), start, end of each token"
abbrev pub token_text : Token → List ℕ
token_text t = numbers_text (kind_number t.kind ∷ t.start ∷ t.end ∷ [])

abbrev pub tokens_text : List Token → List ℕ
tokens_text = flat_map token_text

-- "`bytes HEX`", "`ok` and the record table", "`ok` and kind (0 invalid), start, end of each token", "`yes` or `no`"
abbrev pub reply_text : Reply → List ℕ
reply_text (Bytes bytes) = codes "bytes " ++ hex_text bytes.now
reply_text (Table table) = codes "ok" ++ numbers_text table.now
reply_text (Tokens text) = codes "ok" ++ tokens_text (tokens text.0.str.now)
reply_text (Truth true) = codes "yes"
reply_text (Truth false) = codes "no"

-- "A refusal is `refused NUMBER START END EXPECTED FOUND`"
abbrev pub refusal_text : Refusal → List ℕ
refusal_text r = codes "refused" ++ numbers_text (r.number ∷ r.start ∷ r.end ∷ r.expected ∷ r.found ∷ [])

-- "A line that is no case gets `error: ` and what is wrong with it"
abbrev pub fault_text : Fault → List ℕ
fault_text BadLine = codes "error: bad line"
fault_text (Refused r) = refusal_text (refusal_of r)
