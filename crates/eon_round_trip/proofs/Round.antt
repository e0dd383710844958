-- The written text of a tree is read back to that tree.
use Rattle.std.proofs.Common.{◌≡◌, refl, ap, ◌∙◌, ℕ, ◌≤◌, true, false, List, length}
use Rattle.eon_laws.proofs.Checked.{checked_good, good_text}
use Rattle.eon_spec.specs.Utf8.{is_utf8}
use Rattle.eon_spec.specs.Token.{tokens}
use Rattle.eon_spec.specs.Tree.{TokenTree}
use Rattle.eon_spec.specs.Parse.{parsed, parse}
use Rattle.eon_spec.specs.Calls.{done, read_text, parsed_outcome}
use Rattle.eon_round_trip.proofs.Plain.{Value, IsTree}
use Rattle.eon_round_trip.proofs.Pieces.{flatten, root_p}
use Rattle.eon_round_trip.proofs.Ready.{RootReady}
use Rattle.eon_round_trip.proofs.ReadBack.{root_back}
use Rattle.eon_round_trip.proofs.Lexing.{lex, well_formed}
use Rattle.eon_round_trip.proofs.Parted.{root_good}

read_parsed : (s : List ℕ) (t : TokenTree) → length s ≤ 65535 → is_utf8 s ≡ true → parse s ≡ parsed t → read_text s ≡ done t
unfolding read_text
read_parsed s t l u e = checked_good s (λ x. parsed_outcome (parse x)) l u ∙ ap parsed_outcome e

root_parsed : (w : Value) → RootReady w → (t : TokenTree) × (parse (flatten (root_p w)) ≡ parsed t) × IsTree t w
unfolding parse tokens
root_parsed w r =
    let b = root_back (length (flatten (root_p w))) w r in
    (b.0, rw (lex (root_p w) 0 false (root_good w r)) b.1, b.2)

pub written_read : (w : Value) → RootReady w → length (flatten (root_p w)) ≤ 65535 → (t : TokenTree) × (read_text (flatten (root_p w)) ≡ done t) × IsTree t w
written_read w r l =
    let p = root_parsed w r in
    (p.0, read_parsed (flatten (root_p w)) p.0 l (good_text (flatten (root_p w)) _ refl (well_formed (root_p w) (root_good w r))) p.1, p.2)
