use Rattle.std.proofs.Common.{◌≡◌, ℕ, List, is_some, ap, ◌∙◌, arith, rules}
use Rattle.eon_spec.specs.declared.token_kind.TokenKind.TheVariants.{Invalid}
use Rattle.eon_spec.specs.Token.{tokens}
use Rattle.eon_reader.specs.Read.{counted}
use Rattle.eon_token.proofs.Text.{boundary_start}
use Rattle.eon_token.proofs.Laws.{bounds, end_boundary}
use Rattle.eon_reader.proofs.Stand.{makes_start, counts_all, counts_stray, counts_more}
use Rattle.eon_reader.proofs.count_checked.Goals as goal

pub loop-kind-init : goal.loop-kind-init
loop-kind-init c = let s = c.bytes-bytes.result.now in record { boundary = boundary_start s; makes = makes_start s; few = omega arith }

pub returns-in_default : goal.returns-in_default
returns-in_default c =
    let l = c.loop-kind in
    let t = c.next_token-token in
    counts_all c.bytes-bytes.result.now c.bytes-bytes.ensures.utf8 l.at l.invariant.boundary l.n l.invariant.makes t.result t.ensures c.in_default.is
    ∙ ap (λ (s : List ℕ). counted (tokens s)) c.bytes-bytes.ensures.same

pub returns-then-eq : goal.returns-then-eq
returns-then-eq c =
    let l = c.loop-kind in
    let t = c.next_token-token in
    counts_stray c.bytes-bytes.result.now c.bytes-bytes.ensures.utf8 l.at l.invariant.boundary l.n l.invariant.makes t.result t.ensures c.in-Some.kind c.in-Some.is (search rules)
    ∙ ap (λ (s : List ℕ). counted (tokens s)) c.bytes-bytes.ensures.same

pub overflow_add-n : goal.overflow_add-n
overflow_add-n c =
    let l = c.loop-kind in
    let t = c.next_token-token in
    let w = bounds c.bytes-bytes.result.now c.bytes-bytes.ensures.utf8 l.at l.invariant.boundary t.result t.ensures (ap is_some c.in-Some.is) in
    omega (arith, l.invariant.few, w.0, w.1, w.2)

pub loop-kind-smaller : goal.loop-kind-smaller
loop-kind-smaller c =
    let l = c.loop-kind in
    let t = c.next_token-token in
    let w = bounds c.bytes-bytes.result.now c.bytes-bytes.ensures.utf8 l.at l.invariant.boundary t.result t.ensures (ap is_some c.in-Some.is) in
    omega (arith, w.0, w.1, w.2)

pub loop-kind-preserved : goal.loop-kind-preserved
loop-kind-preserved c =
    let s = c.bytes-bytes.result.now in
    let l = c.loop-kind in
    let t = c.next_token-token in
    let w = bounds s c.bytes-bytes.ensures.utf8 l.at l.invariant.boundary t.result t.ensures (ap is_some c.in-Some.is) in
    let more : c.in-Some.kind ≡ Invalid → ⊥ = search rules in record {
      boundary = end_boundary s c.bytes-bytes.ensures.utf8 l.at l.invariant.boundary t.result t.ensures;
      makes = counts_more s c.bytes-bytes.ensures.utf8 l.at l.invariant.boundary l.n l.invariant.makes t.result t.ensures c.in-Some.kind c.in-Some.is more;
      few = omega (arith, l.invariant.few, w.0, w.1);
    }
