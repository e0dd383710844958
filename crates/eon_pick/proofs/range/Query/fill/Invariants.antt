-- The hits so far are written.
use Rattle.std.proofs.Common.{◌≡◌, map}
use Rattle.eon_spec.specs.Calls.{written}
use Rattle.eon_pick.proofs.Listing.{placed}
use Rattle.eon_pick.proofs.range.Query.fill.Given as goal

abbrev pub invariant-loop-count : goal.invariant-loop-count
invariant-loop-count l = l.hits ≡ written (map (placed l.fn.self.from l.fn.self.to l.fn.self.sheet.table.now) l.yielded) l.fn.hits
