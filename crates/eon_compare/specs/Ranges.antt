-- The comparison of two records.
use Rattle.std.specs.Prelude.{ℕ, Bool, ◌&&◌, List, eqb}
use Rattle.eon_spec.specs.Base.{eq_list}
use Rattle.eon_spec.specs.Records.{Record}
use Rattle.eon_spec.specs.Calls.{record_text}

-- what `same_records` asks of each pair of records
abbrev pub same_record : List ℕ → Record → List ℕ → Record → Bool
same_record s r t q = eqb r.kind q.kind && eqb r.size q.size && eq_list (record_text s r) (record_text t q)
