-- What the calls answer, by the definitions of `Calls`.
use Rattle.std.specs.Prelude.{ℕ, length}
use Rattle.eon_spec.specs.Tree.{TokenTree}
use Rattle.eon_spec.specs.Records.{tree_records}
use Rattle.eon_spec.specs.Calls.{Outcome, done}

abbrev pub count_of : TokenTree → Outcome ℕ
count_of t = done (length (tree_records t))
