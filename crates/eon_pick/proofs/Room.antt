-- A list of hits that is never too short: as many as the text has bytes, and one more.
use Rattle.std.proofs.Common.{◌≡◌, List, ℕ, suc, ◌≤◌, arith, length}
use Rattle.eon_spec.specs.declared.Hit.{Hit}
use Rattle.eon_spec.specs.Tree.{TokenTree}
use Rattle.eon_spec.specs.Records.{tree_records}
use Rattle.eon_spec.specs.Calls.{done, refused_with, then, nowhere, read_finished}
use Rattle.eon_spec.specs.Pick.{hits, records_in_call}
use Rattle.eon_laws.proofs.Numbers.{finished_cases}
use Rattle.eon_laws.proofs.Room.{Answers, answers, answers_refused, answers_not_14, finished_enough}
use Rattle.eon_laws.proofs.Spans.{few_records}
use Rattle.eon_pick.proofs.Filtered.{few_hits}

module _ (s table : List ℕ) (from to : ℕ) (list : List Hit) (room : suc (length s) ≤ length list) where
  pub records_in_room : (records_in_call s table from to list).answer ≡ then (read_finished s table) λ t. done (length (hits from to 0 (tree_records t)))
  unfolding records_in_call
  records_in_room =
      let w : TokenTree → ℕ × List Hit = λ t. let hs = hits from to 0 (tree_records t) in (length hs, hs) in
      finished_cases s (Answers list w) (λ formed t e. answers list w t (omega (arith, few_hits from to 0 (tree_records t), few_records s formed t e))) table λ r o. answers_refused list w r

  pub records_in_not_14 : (records_in_call s table from to list).answer ≡ refused_with (nowhere 14) → ⊥
  records_in_not_14 = answers_not_14 (records_in_call s table from to list).answer (read_finished s table) (λ t. length (hits from to 0 (tree_records t))) records_in_room (finished_enough s table)
