-- Demand 3's words (document 01, "Afternoon and evening"): a run, and the premises on the file.
use Rattle.std.specs.Prelude.{ℕ, suc, pred, max, ◌*◌, ◌≤◌, ◌≡◌, ◌↔◌, Bool, true, ◌&&◌, ◌||◌, not, List, [], ◌∷◌, length, take}
use Rattle.eon_spec.specs.declared.Run.{Run}
use Rattle.eon_spec.specs.declared.Runs.{Runs}
use Rattle.eon_spec.specs.Base.{within}
use Rattle.eon_spec.specs.Tree.{TokenTree, TokenValue, TokenTrees, KeyValues, tree, identifier, number, quoted_string, list_of, map_of, variant_of, no_trees, ◌∷ᵗ◌, no_pairs, pair}
use Rattle.eon_spec.specs.Records.{Record, tree_records, words}
use Rattle.eon_spec.specs.Layout.{defaults, default_options, no_values, values_on_one_line, is_sole_container, format}
use Rattle.eon_spec.specs.Calls.{Outcome, done, refused_with, After, after, outcome_of, written, read_text, read_call, format_call, same_records}

-- "No comments: its tree has no record of kinds 7 to 9"
abbrev pub no_comment_records : List Record → Bool
no_comment_records [] = true
no_comment_records (r ∷ rs) = not (within 7 9 r.kind) && no_comment_records rs

unfoldable pub no_comments : TokenTree → Bool
no_comments t = no_comment_records (tree_records t)

-- a test of the values that each variant of a tree holds
module _ (test : TokenTrees → Bool) where
  unfoldable mutual
    pub every_variant : TokenTree → Bool
    every_variant (tree s p v x) = every_variant_in v

    pub every_variant_in : TokenValue → Bool
    every_variant_in (identifier b) = true
    every_variant_in (number b) = true
    every_variant_in (quoted_string b) = true
    every_variant_in (list_of vs cl) = every_variant_of vs
    every_variant_in (map_of kvs cl) = every_variant_of_pairs kvs
    every_variant_in (variant_of n vs cl) = test vs && every_variant_of vs

    pub every_variant_of : TokenTrees → Bool
    every_variant_of no_trees = true
    every_variant_of (t ∷ᵗ ts) = every_variant t && every_variant_of ts

    pub every_variant_of_pairs : KeyValues → Bool
    every_variant_of_pairs no_pairs = true
    every_variant_of_pairs (pair k v kvs) = every_variant k && (every_variant v && every_variant_of_pairs kvs)

-- "A variant has empty parentheses if it holds no value"
abbrev pub holds_value : TokenTrees → Bool
holds_value vs = not (no_values vs)

-- "it fits one line if its values go on one line by the rule above; it holds just one list or map if that is its only value"
abbrev pub fits_or_holds_one : TokenTrees → Bool
fits_or_holds_one vs = values_on_one_line vs || is_sole_container vs

-- the most lists, maps and variants of the tree that a value in it stands inside
unfoldable mutual
  pub height : TokenTree → ℕ
  height (tree s p v x) = height_in v

  pub height_in : TokenValue → ℕ
  height_in (identifier b) = 0
  height_in (number b) = 0
  height_in (quoted_string b) = 0
  height_in (list_of vs cl) = height_of vs
  height_in (map_of kvs cl) = height_of_pairs kvs
  height_in (variant_of n vs cl) = height_of vs

  -- the trees of a container: one more than in each of them
  pub height_of : TokenTrees → ℕ
  height_of no_trees = 0
  height_of (t ∷ᵗ ts) = max (suc (height t)) (height_of ts)

  pub height_of_pairs : KeyValues → ℕ
  height_of_pairs no_pairs = 0
  height_of_pairs (pair k v kvs) = max (suc (height k)) (max (suc (height v)) (height_of_pairs kvs))

-- ".. an outermost map not counted": a root that is a map
unfoldable pub depth : TokenTree → ℕ
depth (tree s p (identifier b) x) = 0
depth (tree s p (number b) x) = 0
depth (tree s p (quoted_string b) x) = 0
depth (tree s p (list_of vs cl) x) = height_of vs
depth (tree s p (map_of kvs cl) x) = pred (height_of_pairs kvs)
depth (tree s p (variant_of n vs cl) x) = height_of vs

-- the premises on the file s, accepted with the tree t ("none of 1 to 13 applies to the file", so it is within 65,535 bytes), and on its
-- written text
pub record Premises (s : List ℕ) (t : TokenTree) : Type 0 where
  pub accepted : read_text s ≡ done t
  pub no_comments : no_comments t ≡ true
  pub no_empty_variant : every_variant holds_value t ≡ true
  pub variants_fit : every_variant fits_or_holds_one t ≡ true
  pub depth_63 : depth t ≤ 63
  pub written_length : length (format defaults t) ≤ 65535

-- "Memory suffices if each table has room for the records of the afternoon tree and each output for the bytes of the afternoon's
-- written text"
pub record Suffices (t : TokenTree) (table out : List ℕ) : Type 0 where
  pub records : 5 * length (tree_records t) ≤ length table
  pub bytes : length (format defaults t) ≤ length out

-- "A run is the reading call on a text and then the layout call on that text, with the table just filled and the default settings"
abbrev pub run_reads : List ℕ → List ℕ → After ℕ
run_reads s table = read_call s table

abbrev pub run_writes : List ℕ → List ℕ → List ℕ → After ℕ
run_writes s table out = format_call s (run_reads s table).memory default_options out

-- the bytes that a layout call wrote; "The evening text is exactly the bytes that the afternoon run wrote"
abbrev pub wrote : After ℕ → List ℕ
wrote a = bytes_of a.answer a.memory
  where
    bytes_of : Outcome ℕ → List ℕ → List ℕ
    bytes_of (done n) m = take n m
    bytes_of (refused_with r) m = []

abbrev pub evening_text : List ℕ → List ℕ → List ℕ → List ℕ
evening_text s table out = wrote (run_writes s table out)

-- ---- what is claimed of calls that were made: their answers, and the memory behind them

-- a run's two calls are the reading call and the layout call
pub record IsRun (s table out : List ℕ) (r : Run) (table' out' : List ℕ) : Type 0 where
  pub reads : after (outcome_of r.read) table' ≡ run_reads s table
  pub writes : after (outcome_of r.written) out' ≡ run_writes s table out

-- neither refuses; the table holds the tree t, and the output the bytes b
pub record Leaves (t : TokenTree) (b table out : List ℕ) (r : Run) (table' out' : List ℕ) : Type 0 where
  pub reads : after (outcome_of r.read) table' ≡ after (done (length (tree_records t))) (written (words (tree_records t)) table)
  pub writes : after (outcome_of r.written) out' ≡ after (done (length b)) (written b out)

-- demand 3, for the file s with the tree t: "no call of the two runs refuses, the evening tree equals the afternoon tree, spans aside,
-- and the evening's written text equals the afternoon's, byte for byte"
pub record TwoRuns (s : List ℕ) (t : TokenTree) (table1 out1 table2 out2 : List ℕ) (r1 r2 : Run) (table1' out1' table2' out2' : List ℕ) : Type 0 where
  pub afternoon : Leaves t (format defaults t) table1 out1 r1 table1' out1'
  pub evening_tree : TokenTree
  pub evening : Leaves evening_tree (format defaults t) table2 out2 r2 table2' out2'
  pub same_tree : same_records s (tree_records t) (format defaults t) (tree_records evening_tree) ≡ true

-- four calls in a row: the afternoon run on a file and the evening run on what it wrote, and demand 3 of them
pub record IsRow (s table1 out1 table2 out2 : List ℕ) (r : Runs) (table1' out1' table2' out2' : List ℕ) : Type 0 where
  pub afternoon : IsRun s table1 out1 r.afternoon table1' out1'
  pub evening : IsRun (evening_text s table1 out1) table2 out2 r.evening table2' out2'
  pub under_the_premises : (t : TokenTree) → Premises s t → Suffices t table1 out1 → Suffices t table2 out2
      → TwoRuns s t table1 out1 table2 out2 r.afternoon r.evening table1' out1' table2' out2'

-- its last sentence, for two files: "share a written text exactly when their trees are equal"
abbrev pub ShareText : List ℕ → TokenTree → Run → List ℕ → List ℕ → TokenTree → Run → List ℕ → Type 0
ShareText s a r out' t b q end' =
    (wrote (after (outcome_of r.written) out') ≡ wrote (after (outcome_of q.written) end')) ↔ (same_records s (tree_records a) t (tree_records b) ≡ true)
