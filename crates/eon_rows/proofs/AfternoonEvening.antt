-- Demand 3 on a file: what the promise of `two_runs` says of `1 2`, in answers, words and bytes; and lent memory at its edge.
use Rattle.std.proofs.Common.{◌≡◌, ℕ, ◌+◌, Bool, true, false, List, [], ◌∷◌, ◌++◌, replicate, None, refl, arith}
use Rattle.eon_spec.specs.declared.Run.{Run}
use Rattle.eon_spec.specs.declared.Runs.{Runs}
use Rattle.eon_spec.specs.Tree.{TokenTree, tree, number, list_of, no_trees, ◌∷ᵗ◌}
use Rattle.eon_spec.specs.Records.{tree_records}
use Rattle.eon_spec.specs.Calls.{done, refused_with, nowhere, after, outcome_of, format_call, checked_settings, same_records}
use Rattle.eon_spec.specs.Runs.{Premises, Suffices, run_reads, run_writes, wrote, evening_text, IsRow, TwoRuns, ShareText, no_comments, every_variant, depth, height}
use Rattle.eon_rows.proofs.Computing.{reads, writes, compares, bytes}

-- ---- the file `1 2`, its tree and its words; behind layout they stand elsewhere

abbrev leaf_of : ℕ → ℕ → TokenTree
leaf_of digit at = tree (record { start = at; end = at + 1 }) [] (number (digit ∷ [])) None

abbrev pair_of : ℕ → ℕ → TokenTree
pair_of a b = tree (record { start = 0; end = 3 }) [] (list_of (leaf_of a 0 ∷ᵗ (leaf_of b 2 ∷ᵗ no_trees)) []) None

abbrev t12 : TokenTree
t12 = pair_of 49 50

abbrev afternoon_words : List ℕ
afternoon_words = 4 ∷ 0 ∷ 3 ∷ 3 ∷ 3 ∷ 2 ∷ 0 ∷ 1 ∷ 1 ∷ 1 ∷ 2 ∷ 2 ∷ 3 ∷ 3 ∷ 1 ∷ []

abbrev evening_words : List ℕ
evening_words = 4 ∷ 0 ∷ 6 ∷ 6 ∷ 3 ∷ 2 ∷ 1 ∷ 2 ∷ 2 ∷ 1 ∷ 2 ∷ 4 ∷ 5 ∷ 5 ∷ 1 ∷ []

premises : Premises (bytes "1 2") t12
unfolding reads writes bytes no_comments every_variant depth height
premises = (record { accepted = refl; no_comments = refl; no_empty_variant = refl; variants_fit = refl; depth_63 = omega arith; written_length = omega arith })

-- ---- "Memory suffices if each table has room for the records of the afternoon tree and each output for the bytes of the afternoon's
-- written text": fifteen words and six bytes

just_enough : Suffices t12 (replicate 15 9) (replicate 6 7)
unfolding reads writes
just_enough = (record { records = omega arith; bytes = omega arith })

a_word_fewer : Suffices t12 (replicate 14 9) (replicate 6 7) → ⊥
unfolding reads writes
a_word_fewer h = omega (arith, h.records)

a_byte_fewer : Suffices t12 (replicate 15 9) (replicate 5 7) → ⊥
unfolding reads writes
a_byte_fewer h = omega (arith, h.bytes)

-- it is needed: the run's call refuses
reading_refuses : run_reads (bytes "1 2") (replicate 14 9) ≡ after (refused_with (nowhere 14)) (replicate 14 9)
unfolding compares bytes
reading_refuses = refl

layout_refuses : run_writes (bytes "1 2") (replicate 15 9) (replicate 5 7) ≡ after (refused_with (nowhere 14)) (replicate 5 7)
unfolding compares writes format_call checked_settings bytes
layout_refuses = refl

-- ---- "The evening text is exactly the bytes that the afternoon run wrote"

-- and not the output's bytes behind them
written_bytes_alone : evening_text (bytes "1 2") (replicate 15 9) (replicate 8 7) ≡ bytes "[1, 2]"
unfolding compares writes format_call checked_settings bytes
written_bytes_alone = refl

-- a refusal wrote none
refused_wrote_nothing : evening_text (bytes "1 2") (replicate 15 9) (replicate 5 7) ≡ []
unfolding compares writes format_call checked_settings bytes
refused_wrote_nothing = refl

-- ---- four calls in a row, the first run lent a word and a byte more than it needs

module _ (r : Runs) (table1 out1 table2 out2 : List ℕ) (row : IsRow (bytes "1 2") (replicate 16 9) (replicate 7 7) (replicate 15 9) (replicate 6 7) r table1 out1 table2 out2) where
  -- "the reading call on a text and then the layout call on that text, with the table just filled"
  afternoon_reads : after (outcome_of r.afternoon.read) table1 ≡ after (done 3) (afternoon_words ++ (9 ∷ []))
  unfolding compares bytes
  afternoon_reads = row.afternoon.reads

  afternoon_writes : after (outcome_of r.afternoon.written) out1 ≡ after (done 6) (bytes "[1, 2]" ++ (7 ∷ []))
  unfolding compares writes format_call checked_settings bytes
  afternoon_writes = row.afternoon.writes

  -- the evening's on what was written
  evening_reads : after (outcome_of r.evening.read) table2 ≡ after (done 3) evening_words
  unfolding compares writes format_call checked_settings bytes
  evening_reads = row.evening.reads

  evening_writes : after (outcome_of r.evening.written) out2 ≡ after (done 6) (bytes "[1, 2]")
  unfolding compares writes format_call checked_settings bytes
  evening_writes = row.evening.writes

  -- the claim, under the premises and with memory that suffices in both runs
  claim : TwoRuns (bytes "1 2") t12 (replicate 16 9) (replicate 7 7) (replicate 15 9) (replicate 6 7) r.afternoon r.evening table1 out1 table2 out2
  unfolding reads writes
  claim = row.under_the_premises t12 premises (record { records = omega arith; bytes = omega arith }) just_enough

  -- "no call of the two runs refuses": the afternoon's table and output hold the tree and its text, and keep what is behind
  afternoon_leaves : after (outcome_of r.afternoon.read) table1 ≡ after (done 3) (afternoon_words ++ (9 ∷ []))
  unfolding reads
  afternoon_leaves = claim.afternoon.reads

  afternoon_leaves_text : after (outcome_of r.afternoon.written) out1 ≡ after (done 6) (bytes "[1, 2]" ++ (7 ∷ []))
  unfolding writes bytes
  afternoon_leaves_text = claim.afternoon.writes

  -- "the evening's written text equals the afternoon's, byte for byte"
  evening_leaves : after (outcome_of r.evening.written) out2 ≡ after (done 6) (bytes "[1, 2]")
  unfolding writes bytes
  evening_leaves = claim.evening.writes

  -- "the evening tree equals the afternoon tree, spans aside": each with its own text
  same_tree : same_records (bytes "1 2") (tree_records t12) (bytes "[1, 2]") (tree_records claim.evening_tree) ≡ true
  unfolding writes bytes
  same_tree = claim.same_tree

-- ---- "Two such afternoon files share a written text exactly when their trees are equal"

module _ (r q : Run) (out end : List ℕ) where
  -- `1 2` and `1,2` have equal trees
  shared : ShareText (bytes "1 2") t12 r out (bytes "1,2") t12 q end → wrote (after (outcome_of r.written) out) ≡ wrote (after (outcome_of q.written) end)
  unfolding reads bytes
  shared h = h.1 refl

  -- `1 2` and `1 3` have not
  not_shared : ShareText (bytes "1 2") t12 r out (bytes "1 3") (pair_of 49 51) q end → wrote (after (outcome_of r.written) out) ≡ wrote (after (outcome_of q.written) end) → ⊥
  unfolding reads bytes
  not_shared h e = let y : ◌≡◌ {A = Bool} false true = h.0 e in cc
