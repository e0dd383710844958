-- What reading gives, by places: the records of what is read, and the span of the last token consumed.
use Rattle.std.specs.Prelude.{ℕ, zero, suc, List, [], ◌∷◌, ◌++◌, Bool, true, not, cond, length, ltb, eqb}
use Rattle.eon_spec.specs.Tree.{Span}
use Rattle.eon_spec.specs.declared.refusal.Refusal.{Refusal}
use Rattle.eon_spec.specs.declared.refusal.Reason.{Reason}
use Rattle.eon_spec.specs.declared.refusal.Reason.TheVariants.{Stray, TooDeep, MissingValue, UnbalancedList, UnbalancedBrace, UnbalancedParen, Nameless, NoValue, Mismatch, CutOff}
use Rattle.eon_spec.specs.declared.token_kind.TokenKind.{TokenKind}
use Rattle.eon_spec.specs.declared.token_kind.TokenKind.TheVariants.{CloseList, CloseBrace, CloseParen, Colon}
use Rattle.eon_spec.specs.Token.{kind_number}
use Rattle.eon_spec.specs.Records.{Record, record_at, leaf}
use Rattle.eon_token.specs.Placed.{kind_of}
use Rattle.eon_token.specs.Place.{kind_at, next_span, line_feed, span}

abbrev pub refused_at : Reason → Span → Refusal
refused_at r l = record { reason = r; start = l.start; end = l.end }

-- a refusal and the end of the last token consumed; or what is read, and the last token's span
pub data Out (A : Type 0) : Type 0 where
  refuse : Refusal → ℕ → Out A
  got : A → Span → Out A

abbrev pub bind : {A B : Type 0} → Out A → (A → Span → Out B) → Out B
bind (refuse n p) k = refuse n p
bind (got a p) k = k a p

abbrev pub Records : Type 0
Records = List Record

unfoldable pub closes : ℕ → Bool
closes k = cond (eqb k 3) true (cond (eqb k 5) true (cond (eqb k 7) true (eqb k 16)))

unfoldable pub strings : ℕ → Bool
strings k = cond (eqb k 12) true (cond (eqb k 13) true (cond (eqb k 14) true (eqb k 15)))

-- why a token of a kind begins no value. Of those that begin none a comment is never met here
unfoldable pub reason_of : ℕ → Reason
reason_of k =
    cond (eqb k 0) Stray (cond (eqb k 3) UnbalancedList (cond (eqb k 5) UnbalancedBrace (cond (eqb k 6) Nameless (cond (eqb k 7) UnbalancedParen NoValue))))

-- ---- a loop: steps until `stop`. The fuel is more than what is left of the text, and never runs out

unfoldable pub many : (Span → Bool) → (Span → Out Records) → ℕ → Span → Records → Out Records
many stop step zero l done = refuse (refused_at NoValue l) l.end
many stop step (suc f) l done = cond (stop l) (got done l) (bind (step l) (λ ts n. many stop step f n (done ++ ts)))

unfoldable pub loop : List ℕ → (Span → Bool) → (Span → Out Records) → Span → Out Records
loop s stop step l = many stop step (suc (length s)) l []

-- a run of comments, as records of a kind; and where it ends
unfoldable pub comment : List ℕ → ℕ → Span → Out Records
comment s kind l = got (leaf kind (next_span s l) ∷ []) (next_span s l)

unfoldable pub no_comment : List ℕ → Span → Bool
no_comment s l = not (eqb (kind_at s l) 1)

unfoldable pub run : List ℕ → ℕ → Span → Out Records
run s kind l = loop s (no_comment s) (comment s kind) l

abbrev pub end_of : Out Records → Span
end_of (refuse r e) = record { start = r.start; end = r.end }
end_of (got f l) = l

-- ---- a token that must come; a suffix comment

unfoldable pub expect : List ℕ → TokenKind → Span → Out (Unit {0})
expect s k l =
    cond (eqb (kind_at s l) 16) (refuse (refused_at (CutOff k) l) l.end)
    (cond (eqb (kind_at s l) 0) (refuse (refused_at Stray (next_span s l)) (next_span s l).end)
    (cond (eqb (kind_at s l) (kind_number k)) (got tt (next_span s l))
    (refuse (refused_at (Mismatch k (kind_of (kind_at s l))) (next_span s l)) (next_span s l).end)))

unfoldable pub suffix_end : List ℕ → Span → Span
suffix_end s l = cond (eqb (kind_at s l) 1) (cond (line_feed s l.end (next_span s l).start) l (next_span s l)) l

-- the record of a suffix comment: it was read, if the last token ends behind `from`
unfoldable pub tail_r : ℕ → Span → Records
tail_r from l = cond (ltb from l.end) (leaf 8 l ∷ []) []

-- a value with its prefix comments; `from` is its end, behind which its suffix comment may stand, not yet a record: a comma looks for it anew
pub record Item : Type 0 where
  pub body : Records
  pub from : ℕ

unfoldable pub whole : Item → Span → Records
whole i n = i.body ++ tail_r i.from n

unfoldable pub settled : List ℕ → Item → Span → Out Records
settled s i n =
    cond (eqb (kind_at s n) 9)
    (got (whole (record { body = i.body; from = (next_span s n).end }) (suffix_end s (next_span s n))) (suffix_end s (next_span s n)))
    (got (whole i n) n)

-- ---- insides

unfoldable pub stops : List ℕ → Span → Bool
stops s l = closes (kind_at s (end_of (run s 7 l)))

unfoldable pub one : List ℕ → (Span → Out Item) → Span → Out Records
one s read l = bind (run s 7 l) (λ pre p. bind (read p) (λ i n. bind (settled s i n) (λ ts m. got (pre ++ ts) m)))

unfoldable pub two : List ℕ → (Span → Out Item) → Span → Out Records
two s read l =
    bind (run s 7 l) (λ pre p. bind (read p) (λ k n. bind (expect s Colon n) (λ _ q. bind (read q) (λ v m. bind (settled s v m) (λ ts r. got ((pre ++ whole k n) ++ ts) r)))))

unfoldable pub inside : List ℕ → (Span → Out Records) → Span → Out Records
inside s step l = bind (loop s (stops s) step l) (λ ts p. bind (run s 9 p) (λ cs q. got (ts ++ cs) q))

-- a variant's text is its name, anything else's goes to its end
abbrev pub text_end : ℕ → ℕ → ℕ → ℕ
text_end kind name end = cond (eqb kind 6) name end

abbrev pub header : ℕ → ℕ → ℕ → ℕ → Records → Record
header kind start name end ts = record_at kind (span start end) (text_end kind name end) (suc (length ts))

unfoldable pub closed : List ℕ → ℕ → TokenKind → ℕ → ℕ → Out Records → Out Records
closed s kind close start name o =
    bind o (λ ts p. bind (expect s close p) (λ _ q. got (header kind start name q.end ts ∷ ts) q))

unfoldable pub list_at : List ℕ → (Span → Out Item) → Span → Out Records
list_at s read l = closed s 4 CloseList (next_span s l).start 0 (inside s (one s read) (next_span s l))

unfoldable pub map_at : List ℕ → (Span → Out Item) → Span → Out Records
map_at s read l = closed s 5 CloseBrace (next_span s l).start 0 (inside s (two s read) (next_span s l))

unfoldable pub variant_at : List ℕ → (Span → Out Item) → Span → Out Records
variant_at s read l = closed s 6 CloseParen (next_span s l).start (next_span s l).end (inside s (one s read) (next_span s (next_span s l)))

unfoldable pub leaf_at : List ℕ → ℕ → Span → Out Records
leaf_at s kind l = got (leaf kind (next_span s l) ∷ []) (next_span s l)

unfoldable pub string_at : List ℕ → (Span → Out Item) → Span → Out Records
string_at s read l = cond (eqb (kind_at s (next_span s l)) 6) (variant_at s read l) (leaf_at s 3 l)

unfoldable pub bare_at : List ℕ → (Span → Out Item) → Span → Out Records
bare_at s read l =
    cond (eqb (kind_at s l) 10) (leaf_at s 1 l)
    (cond (eqb (kind_at s l) 11) (leaf_at s 2 l)
    (cond (eqb (kind_at s l) 2) (list_at s read l)
    (cond (eqb (kind_at s l) 4) (map_at s read l)
    (cond (strings (kind_at s l)) (string_at s read l)
    (cond (eqb (kind_at s l) 16) (refuse (refused_at MissingValue (span (length s) (length s))) l.end)
    (refuse (refused_at (reason_of (kind_at s l)) (next_span s l)) (next_span s l).end))))))

unfoldable pub item_at : List ℕ → (Span → Out Item) → Span → Out Item
item_at s read l =
    bind (run s 7 l) (λ pre p. bind (bare_at s read p) (λ t n. got (record { body = pre ++ t; from = n.end }) (suffix_end s n)))

unfoldable mutual
  pub reader : ℕ → List ℕ → Span → Out Item
  reader zero s l = refuse (refused_at TooDeep l) l.end
  reader (suc d) s l = item_at s (λ p. below d s p) l

  pub below : ℕ → List ℕ → Span → Out Item
  below zero s l = refuse (refused_at TooDeep l) l.end
  below (suc d) s l = reader d s l
