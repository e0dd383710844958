-- Demand 3 on the outcomes of the calls: the afternoon run, the evening run on what it wrote, and two such rows.
use Rattle.std.proofs.Common.{◌≡◌, ℕ, ◌*◌, ◌≤◌, Bool, true, false, List, length, drop, sym, ap, ◌∙◌, take_at, refl}
use Rattle.eon_spec.specs.declared.Run.{Run}
use Rattle.eon_spec.specs.Tree.{TokenTree}
use Rattle.eon_spec.specs.Records.{tree_records, words}
use Rattle.eon_spec.specs.Layout.{defaults, default_options, format}
use Rattle.eon_spec.specs.Calls.{Outcome, outcome_of, done, refused_with, nowhere, after, written, read_text, read_call, read_finished, is_finished, same_records, format_call, compare_call}
use Rattle.eon_spec.specs.Runs.{Premises, Suffices, wrote, run_writes, evening_text, IsRun, Leaves, TwoRuns, ShareText}
use Rattle.eon_laws.proofs.Facts.{list_same}
use Rattle.eon_laws.proofs.Records.{words_length}
use Rattle.eon_laws.proofs.Compare.{same_count}
use Rattle.eon_laws.proofs.Room.{fits_memory, default_settings}
use Rattle.eon_round_trip.proofs.RoundTrip.{round_trip, written_compared, compared_written}

abbrev stale : Bool → TokenTree → Outcome TokenTree
stale b t = elim b [ true ↦ done t | false ↦ refused_with (nowhere 15) ]

module _ (s : List ℕ) (t : TokenTree) (e : read_text s ≡ done t) where
  -- the reading call
  pub run_read : (table : List ℕ) → 5 * length (tree_records t) ≤ length table → read_call s table ≡ after (done (length (tree_records t))) (written (words (tree_records t)) table)
  unfolding read_call
  run_read table h = rw e (fits_memory (length (tree_records t)) (words (tree_records t)) table (rw (words_length (tree_records t)) h))

  finished : (old : List ℕ) → is_finished (written (words (tree_records t)) old) t ≡ true
  unfolding is_finished
  finished old = rw (take_at (words (tree_records t)) (drop (length (words (tree_records t))) old) _ refl) (list_same (words (tree_records t)))

  -- the table just filled is finished
  pub found_finished : (old : List ℕ) → read_finished s (written (words (tree_records t)) old) ≡ done t
  unfolding read_finished
  found_finished old = rw e (ap (λ (b : Bool). stale b t) (finished old))

  -- the layout call on the table just filled
  run_write : (old out : List ℕ) → length (format defaults t) ≤ length out
      → format_call s (written (words (tree_records t)) old) default_options out ≡ after (done (length (format defaults t))) (written (format defaults t) out)
  unfolding format_call
  run_write old out h = rw (found_finished old, default_settings) (fits_memory (length (format defaults t)) (format defaults t) out h)

-- what a run on an accepted text leaves
pub leaves : (s : List ℕ) (t : TokenTree) (table out : List ℕ) (r : Run) (table' out' : List ℕ) → read_text s ≡ done t → Suffices t table out → IsRun s table out r table' out'
    → Leaves t (format defaults t) table out r table' out'
leaves s t table out r table' out' e m i =
    let x = run_read s t e table m.records in
    let w : run_writes s table out ≡ after (done (length (format defaults t))) (written (format defaults t) out) = rw x (run_write s t e table out m.bytes) in
    record { reads = i.reads ∙ x; writes = i.writes ∙ w }

-- the text that it wrote
wrote_text : (b out : List ℕ) → wrote (after (done (length b)) (written b out)) ≡ b
wrote_text b out = take_at b (drop (length b) out) _ refl

evening_is : (s : List ℕ) (t : TokenTree) (table out : List ℕ) → read_text s ≡ done t → Suffices t table out → evening_text s table out ≡ format defaults t
evening_is s t table out e m =
    let x = run_read s t e table m.records in
    let w : run_writes s table out ≡ after (done (length (format defaults t))) (written (format defaults t) out) = rw x (run_write s t e table out m.bytes) in
    rw w (wrote_text (format defaults t) out)

-- demand 3 of runs that were made
pub two_runs : (s : List ℕ) (t : TokenTree) (table1 out1 table2 out2 : List ℕ) (r1 r2 : Run) (table1' out1' table2' out2' : List ℕ) → Premises s t → Suffices t table1 out1 → Suffices t table2 out2
    → IsRun s table1 out1 r1 table1' out1' → IsRun (evening_text s table1 out1) table2 out2 r2 table2' out2' → TwoRuns s t table1 out1 table2 out2 r1 r2 table1' out1' table2' out2'
two_runs s t table1 out1 table2 out2 r1 r2 table1' out1' table2' out2' p m1 m2 i1 i2 =
    let r = round_trip s t p in
    let c = same_count s (tree_records t) (format defaults t) (tree_records r.again) r.compared in
    let e = evening_is s t table1 out1 p.accepted m1 in
    let d : read_text (evening_text s table1 out1) ≡ done r.again = rw e r.reads in
    let l = leaves (evening_text s table1 out1) r.again table2 out2 r2 table2' out2' d (record { records = rw (← c) m2.records; bytes = rw r.writes m2.bytes }) i2 in
    record {
      afternoon = leaves s t table1 out1 r1 table1' out1' p.accepted m1 i1;
      evening_tree = r.again;
      evening = record { reads = l.reads; writes = l.writes ∙ rw r.writes };
      same_tree = r.compared;
    }

-- two such rows: their written texts are equal exactly if their trees are
module _ (s : List ℕ) (a : TokenTree) (p : Premises s a) (table1 out1 : List ℕ) (m1 : Suffices a table1 out1) (t : List ℕ) (b : TokenTree) (q : Premises t b)
    (table2 out2 : List ℕ) (m2 : Suffices b table2 out2) where
  pub share_text : (r1 r2 : Run) (table1' out1' table2' out2' : List ℕ) → IsRun s table1 out1 r1 table1' out1' → IsRun t table2 out2 r2 table2' out2' → ShareText s a r1 out1' t b r2 out2'
  share_text r1 r2 table1' out1' table2' out2' i1 i2 =
      let x : wrote (after (outcome_of r1.written) out1') ≡ format defaults a = ap wrote i1.writes ∙ evening_is s a table1 out1 p.accepted m1 in
      let y : wrote (after (outcome_of r2.written) out2') ≡ format defaults b = ap wrote i2.writes ∙ evening_is t b table2 out2 q.accepted m2 in
      (λ w. written_compared s a p t b q (sym x ∙ w ∙ y), λ c. x ∙ compared_written s a p t b q c ∙ sym y)

-- the comparison call on two tables just filled
pub tables_compared : (s : List ℕ) (a : TokenTree) (t : List ℕ) (b : TokenTree) (old1 old2 : List ℕ) → read_text s ≡ done a → read_text t ≡ done b
    → compare_call s (written (words (tree_records a)) old1) t (written (words (tree_records b)) old2) ≡ done (same_records s (tree_records a) t (tree_records b))
unfolding compare_call
tables_compared s a t b old1 old2 e f = rw (found_finished s a e old1, found_finished t b f old2)
