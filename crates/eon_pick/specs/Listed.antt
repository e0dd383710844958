-- The hits of a table's first records.
use Rattle.std.specs.Prelude.{ℕ, List}
use Rattle.eon_spec.specs.declared.Hit.{Hit}
use Rattle.eon_spec.specs.Pick.{hits}
use Rattle.eon_table.specs.Words.{records_of}

-- the hits of the first n records
unfoldable pub all_hits : ℕ → ℕ → ℕ → List ℕ → List Hit
all_hits from to n tb = hits from to 0 (records_of tb 0 n)
