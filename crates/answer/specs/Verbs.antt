-- What each verb answers (oracle/README.md, "Line protocol").
use Rattle.std.specs.Prelude.{ℕ, Bool, cond, leb, List, length, Result, Ok, Err}
use Rattle.eon_spec.specs.Refused.{Refusal, refusal_of}
use Rattle.eon_spec.specs.Calls.{Outcome, done, refused_with, nowhere, checked, read_text, unescaped_outcome, handed_back, same_records}
use Rattle.eon_spec.specs.Layout.{defaults, format}
use Rattle.eon_spec.specs.Tree.{TokenTree}
use Rattle.eon_spec.specs.Records.{tree_records, words}
use Rattle.eon_spec.specs.Unquote.{is_valid_identifier, unquote}
use Rattle.answer_line.specs.declared.reply.Reply.{Reply}
use Rattle.answer_line.specs.declared.reply.Reply.TheVariants as reply
use Rattle.answer_line.specs.declared.reply.Fault.{Fault}
use Rattle.answer_line.specs.declared.reply.Fault.TheVariants as fault
use Rattle.answer_line.specs.Word.{bytes_of}

-- bytes, a table, the tokens of a text, or a truth; a refusal; or that the line is no case
pub data Said : Type 0 where
  bytes : List ℕ → Said
  table : List ℕ → Said
  tokens_of : List ℕ → Said
  truth : Bool → Said
  refused : Refusal → Said
  bad_line : Said

abbrev pub said_of : Fault → Said
said_of fault.BadLine = bad_line
said_of (fault.Refused r) = refused (refusal_of r)

abbrev pub said : Result Reply Fault → Said
said (Ok (reply.Bytes b)) = bytes b.now
said (Ok (reply.Table t)) = table t.now
said (Ok (reply.Tokens t)) = tokens_of t.0.str.now
said (Ok (reply.Truth b)) = truth b
said (Err f) = said_of f

-- what is said of the bytes that a word stands for
abbrev pub of_bytes : Result (List ℕ) Fault → (List ℕ → Said) → Said
of_bytes (Ok s) f = f s
of_bytes (Err x) f = said_of x

abbrev pub of_outcome : {A : Type 0} → Outcome A → (A → Said) → Said
of_outcome (done a) f = f a
of_outcome (refused_with r) f = refused r

-- `n` entries of a memory of `all` are lent, if it has as many
abbrev pub lent_said : ℕ → ℕ → Said → Said
lent_said all n x = cond (leb n all) x bad_line

-- an answer for which so much is written, in a memory of n entries; 14 where it does not fit
abbrev pub fitting : ℕ → List ℕ → Said → Said
fitting n new x = cond (leb (length new) n) x (refused (nowhere 14))

-- "`ok` and the record table, five words a record"
abbrev pub tree_said : ℕ → TokenTree → Said
tree_said n t = let w = words (tree_records t) in fitting n w (table w)

abbrev pub read_said : ℕ → ℕ → List ℕ → ℕ → Said
read_said room all word n = of_bytes (bytes_of room word) λ s. lent_said all n (of_outcome (read_text s) (tree_said n))

-- "`bytes HEX`": the value of a quoted text, wherever it stands
abbrev pub value_of : List ℕ → Outcome (List ℕ)
value_of s = checked s λ t. unescaped_outcome (unquote t)

abbrev pub value_said : ℕ → List ℕ → List ℕ → Said
value_said n s b = fitting n (handed_back s b).1 (bytes b)

abbrev pub unquote_said : ℕ → ℕ → List ℕ → ℕ → Said
unquote_said room all word n = of_bytes (bytes_of room word) λ s. lent_said all n (of_outcome (value_of s) (value_said n s))

-- "`bytes HEX`: read and laid out in one call under the default settings", with a table of k words and an output of n bytes
abbrev pub laid_said : ℕ → ℕ → TokenTree → Said
laid_said k n t = let b = format defaults t in fitting k (words (tree_records t)) (fitting n b (bytes b))

abbrev pub reformat_said : ℕ → ℕ → ℕ → List ℕ → ℕ → ℕ → Said
reformat_said room tables outs word k n =
    of_bytes (bytes_of room word) λ s. lent_said tables k (lent_said outs n (of_outcome (read_text s) (laid_said k n)))

-- "`yes` or `no`": are the trees of two texts equal? Each is read, into a table of n and one of k words
abbrev pub same_said : ℕ → List ℕ → List ℕ → TokenTree → Said
same_said k s t a =
    of_outcome (read_text t) λ b. fitting k (words (tree_records b)) (truth (same_records s (tree_records a) t (tree_records b)))

abbrev pub trees_said : ℕ → ℕ → List ℕ → List ℕ → Said
trees_said n k s t = of_outcome (read_text s) λ a. fitting n (words (tree_records a)) (same_said k s t a)

abbrev pub compare_said : ℕ → ℕ → ℕ → ℕ → List ℕ → List ℕ → Said
compare_said room second n k word1 word2 = of_bytes (bytes_of room word1) λ s. of_bytes (bytes_of second word2) (trees_said n k s)

-- "`yes` or `no`"; the room is that for a text
abbrev pub identifier_said : ℕ → List ℕ → Said
identifier_said room word = of_bytes (bytes_of room word) λ s. truth (is_valid_identifier s)

abbrev pub tokens_said : ℕ → List ℕ → Said
tokens_said room word = of_bytes (bytes_of room word) λ s. of_outcome (checked s done) tokens_of
