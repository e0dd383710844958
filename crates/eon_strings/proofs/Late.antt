-- Refusals of a quoted text name no kinds of tokens: their numbers are above 12.
use Rattle.std.proofs.Common.{◌≡◌, ℕ, suc, ◌+◌, ◌-◌, ◌*◌, ◌<◌, Bool, true, false, cond, eqb, ltb, List, [], ◌∷◌, length, take, drop, Some, None, Option, refl, arith}
use Rattle.eon_spec.specs.Base.{elem, codes}
use Rattle.eon_spec.specs.Utf8.{is_scalar}
use Rattle.eon_spec.specs.Calls.{nowhere}
use Rattle.eon_spec.specs.Refused.{number_of, refusal_of}
use Rattle.eon_spec.specs.Unquote.{Unescaped, value, fault, push, unescape, plain, backslash, blanks, unicode, digits, lookup, escapes, hex_digit, white_space, starts_with, ends_with, in_marks, one_line_only, drop_line_feed, unquote_chars}
use Rattle.eon_spec.specs.Unquote as unquoting
use Rattle.eon_spec.specs.declared.refusal.Reason.{Reason}
use Rattle.eon_spec.specs.declared.refusal.Reason.TheVariants as reasons
use Rattle.eon_unescape.specs.Modes.{reads_by}
use Rattle.eon_unescape.specs.declared.mode.Mode.{Mode}
use Rattle.eon_unescape.specs.declared.mode.Mode.TheVariants as modes

abbrev pub Late : Unescaped → Type 0
Late (value s) = Unit {0}
Late (fault n) = 12 < n

push_late : (c : ℕ) (w : Unescaped) → Late w → Late (push c w)
push_late c (value s) h = h
push_late c (fault n) h = h

either : (b : Bool) (x y : Unescaped) → Late x → Late y → Late (elim b [ true ↦ x | false ↦ y ])
either true x y h k = h
either false x y h k = k

late : (m : unquoting.Mode) (s : List ℕ) → Late (unescape m s)
unfolding unescape
late plain [] = tt
late backslash [] = omega arith
late blanks [] = tt
late unicode [] = omega arith
late (digits k n) [] = omega arith
late plain (c ∷ s) = either (eqb c 92) _ _ (late backslash s) (push_late c _ (late plain s))
late backslash (c ∷ s) = go (lookup c escapes) (late plain s) (late blanks s) (late unicode s)
  where
    go : (o : Option ℕ) → Late (unescape plain s) → Late (unescape blanks s) → Late (unescape unicode s) → Late (elim o [
      | Some d ↦ push d (unescape plain s)
      | None ↦ elim (eqb c 10) [ true ↦ unescape blanks s | false ↦ elim (eqb c 117) [ true ↦ unescape unicode s | false ↦ fault 21 ] ]
    ])
    go (Some d) p b u = push_late d (unescape plain s) p
    go None p b u = either (eqb c 10) _ _ b (either (eqb c 117) _ _ u (omega arith))
late blanks (c ∷ s) = either (elem c white_space) _ _ (late blanks s) (either (eqb c 92) _ _ (late backslash s) (push_late c _ (late plain s)))
late unicode (c ∷ s) = either (eqb c 123) _ _ (late (digits 0 0) s) (omega arith)
late (digits k n) (c ∷ s) = either (eqb c 125) _ _ (either (is_scalar n) _ _ (push_late n _ (late plain s)) (omega arith)) (go (hex_digit c) (λ d. late (digits (suc k) (n * 16 + d)) s) (late (digits k n) s))
  where
    go : (o : Option ℕ) → ((d : ℕ) → Late (unescape (digits (suc k) (n * 16 + d)) s)) → Late (unescape (digits k n) s) → Late (elim o [
      | Some d ↦ elim (ltb k 8) [ true ↦ unescape (digits (suc k) (n * 16 + d)) s | false ↦ fault 23 ]
      | None ↦ elim (eqb c 95) [ true ↦ unescape (digits k n) s | false ↦ fault 24 ]
    ])
    go (Some d) m u = either (ltb k 8) _ _ (m d) (omega arith)
    go None m u = either (eqb c 95) _ _ u (omega arith)

pub late_by : (m : Mode) (s : List ℕ) → Late (reads_by m s)
late_by modes.Literal s = tt
late_by modes.Plain s = late plain s
late_by modes.Backslash s = late backslash s
late_by modes.Blanks s = late blanks s
late_by modes.Unicode s = late unicode s
late_by (modes.Digits d) s = late (digits d.count d.value) s

choice : (b : Bool) (x y : Unescaped) → Late x → Late y → Late (cond b x y)
choice true x y h k = h
choice false x y h k = k

late_marks : (m s : List ℕ) (f : List ℕ → Unescaped) → ((t : List ℕ) → Late (f t)) → Late (in_marks m s f)
late_marks m s f h = either (ends_with m (drop (length m) s)) _ _ (h (take (length (drop (length m) s) - length m) (drop (length m) s))) (omega arith)

late_line : (f : List ℕ → Unescaped) → ((t : List ℕ) → Late (f t)) → (t : List ℕ) → Late (one_line_only f t)
late_line f h t = either (elem 10 t) _ _ (omega arith) (h t)

pub late_quoted : (u : List ℕ) → Late (unquote_chars u)
unfolding unquote_chars
late_quoted u =
    choice (starts_with (codes "'''") u) _ _ (late_marks (codes "'''") u (λ t. value (drop_line_feed t)) (λ t. tt))
    (choice (starts_with (codes "'") u) _ _ (late_marks (codes "'") u (one_line_only value) (late_line value (λ t. tt)))
    (choice (starts_with (codes "\"\"\"") u) _ _ (late_marks (codes "\"\"\"") u (unescape plain) (late plain))
    (choice (starts_with (codes "\"") u) _ _ (late_marks (codes "\"") u (one_line_only (unescape plain)) (late_line (unescape plain) (late plain)))
    (omega arith))))

-- such a reason, at the beginning of the text
pub late_refusal : (r : Reason) → 12 < number_of r → refusal_of (record { reason = r; start = 0; end = 0 }) ≡ nowhere (number_of r)
late_refusal r h =
    elim r as (λ x. 12 < number_of x → refusal_of (record { reason = x; start = 0; end = 0 }) ≡ nowhere (number_of x)) [
      | reasons.Mismatch e f ↦ λ k. absurd (omega arith)
      | reasons.CutOff e ↦ λ k. absurd (omega arith)
      | _ ↦ λ k. refl
    ] h
