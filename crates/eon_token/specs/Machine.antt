-- The automaton of the rules over bytes: 31 states and 19 classes, what it does with the bytes from a place on, and the parts of that
-- which the inner functions promise. `proofs/Auto.antt` shows that it is the rules'.
use Rattle.std.specs.Prelude.{Bool, true, false, ◌≤◌, ◌<◌, length, Option, None, ◌&&◌, cond, List, [], ◌∷◌, ℕ, zero, suc, ◌+◌, ◌-◌, leb, ltb, eqb, get_or, drop, Some}
use Rattle.eon_spec.specs.Base.{codes}
use Rattle.eon_spec.specs.declared.token_kind.TokenKind.{TokenKind}
use Rattle.eon_spec.specs.declared.token_kind.TokenKind.TheVariants.{Invalid, OpenList, CloseList, OpenBrace, CloseBrace, OpenParen, CloseParen, Colon, Comma}
use Rattle.eon_token.specs.Placed.{kind_of}
use Rattle.eon_token.specs.declared.token_kind.Quote.{Quote}
use Rattle.eon_token.specs.declared.token_kind.Quote.TheVariants.{Double, Single}
use Rattle.eon_token.specs.declared.token_kind.PlacedToken.{PlacedToken}

-- a rule's number and where its match ends; or no rule matches
pub data Found : Type 0 where
  miss : Found
  hit : ℕ → ℕ → Found

-- the classes of the ASCII bytes, from A for 0
unfoldable pub classes : List ℕ
classes = codes "GGGGGGGGGBAGBBGGGGGGGGGGGGGGGGGGBGIGGGGSOPGEREEHDDDDDDDDDDQGGGGGGCCCCCCCCCCCCCCCCCCCCCCCCCCKJLGCGCCCCCCCCCCCCCCCCCCCCCCCCCCMGNGG"

-- the class of a byte or a code point
unfoldable pub class : ℕ → ℕ
class c = cond (ltb c 128) (get_or classes c 0 - 65) (cond (ltb c 192) 5 6)

-- a state: the rule that it accepts, or 0; where it goes, but by some classes
pub data State : Type 0 where
  state : ℕ → ℕ → List (ℕ × ℕ) → State

unfoldable pub states : List State
states =
    state 0 1 ((2, 2) ∷ (3, 3) ∷ (4, 3) ∷ (7, 4) ∷ (8, 5) ∷ (10, 6) ∷ (11, 7) ∷ (12, 8) ∷ (13, 9) ∷ (14, 10) ∷ (15, 11) ∷ (16, 12) ∷ (17, 13) ∷ (18, 14) ∷ [])
    -- 1: nothing matches any more
    ∷ state 0 1 []
    -- 2, 3: an identifier, a number
    ∷ state 10 1 ((2, 2) ∷ (3, 2) ∷ [])
    ∷ state 11 1 ((2, 3) ∷ (3, 3) ∷ (4, 3) ∷ [])
    -- 4, 5: a slash, a double quote
    ∷ state 0 1 ((7, 15) ∷ [])
    ∷ state 0 16 ((8, 17) ∷ (9, 18) ∷ [])
    -- 6 to 13: []{}():,
    ∷ state 2 1 []
    ∷ state 3 1 []
    ∷ state 4 1 []
    ∷ state 5 1 []
    ∷ state 6 1 []
    ∷ state 7 1 []
    ∷ state 8 1 []
    ∷ state 9 1 []
    -- 14, 15: a single quote, a comment
    ∷ state 0 19 ((18, 20) ∷ [])
    ∷ state 1 15 ((0, 1) ∷ [])
    -- 16 to 18: inside double quotes, after two of them, after a backslash
    ∷ state 0 16 ((8, 21) ∷ (9, 18) ∷ [])
    ∷ state 12 1 ((8, 22) ∷ [])
    ∷ state 0 16 ((0, 1) ∷ [])
    -- 19, 20: inside single quotes, after two of them
    ∷ state 0 19 ((18, 23) ∷ [])
    ∷ state 13 1 ((18, 24) ∷ [])
    -- 21 to 24: the closing double quote, inside three, and the same for single ones
    ∷ state 12 1 []
    ∷ state 0 22 ((8, 25) ∷ [])
    ∷ state 13 1 []
    ∷ state 0 24 ((18, 26) ∷ [])
    -- 25 to 30: one, two and three closing quotes of three
    ∷ state 0 22 ((8, 27) ∷ [])
    ∷ state 0 24 ((18, 28) ∷ [])
    ∷ state 0 22 ((8, 29) ∷ [])
    ∷ state 0 24 ((18, 30) ∷ [])
    ∷ state 14 1 []
    ∷ state 15 1 []
    ∷ []

abbrev pub lookup : ℕ → List (ℕ × ℕ) → ℕ → ℕ
lookup k [] m = m
lookup k (e ∷ es) m = cond (eqb k e.0) e.1 (lookup k es m)

abbrev pub goes_from : State → ℕ → ℕ
goes_from (state a m es) k = lookup k es m

abbrev pub accepts_in : State → ℕ
accepts_in (state a m es) = a

-- where a state goes by a class, and what it accepts
unfoldable pub goes : ℕ → ℕ → ℕ
goes n k = goes_from (get_or states n (state 0 1 [])) k

unfoldable pub accepts : ℕ → ℕ
accepts n = accepts_in (get_or states n (state 0 1 []))

-- the last state that accepts, with the place where it does, from the place i on
abbrev pub upd : ℕ → Found → ℕ → Found
upd zero best i = best
upd (suc k) best i = hit (suc k) i

abbrev pub run : ℕ → Found → ℕ → List ℕ → Found
run n best i [] = upd (accepts n) best i
run n best i (b ∷ bs) = run (goes n (class b)) (upd (accepts n) best i) (i + 1) bs

-- a byte of a class in lo to hi, and how many such bytes stand at the beginning
abbrev pub in_classes : ℕ → ℕ → ℕ → Bool
in_classes lo hi b = leb lo (class b) && leb (class b) hi

abbrev pub span_of : ℕ → ℕ → List ℕ → ℕ
span_of lo hi [] = zero
span_of lo hi (b ∷ bs) = cond (in_classes lo hi b) (suc (span_of lo hi bs)) zero

-- from `from` to `end` each byte passes, and the one behind does not
pub record KeepsWhile (passes : ℕ → Bool → Type 0) (s : List ℕ) (from end : ℕ) : Type 0 where
  pub behind : from ≤ end
  pub within : end ≤ length s
  pub inside : (i : ℕ) → from ≤ i → i < end → passes (get_or s i 0) true
  pub stops : end < length s → passes (get_or s end 0) false

-- the end of a string of kind k, if there is one
abbrev pub closed : ℕ → Option ℕ → Found
closed k None = miss
closed k (Some e) = hit k e

-- the kind of a token of one byte
abbrev pub one_byte_kind : ℕ → Option TokenKind
one_byte_kind b =
    cond (eqb b 91) (Some OpenList)
    (cond (eqb b 93) (Some CloseList)
    (cond (eqb b 123) (Some OpenBrace)
    (cond (eqb b 125) (Some CloseBrace)
    (cond (eqb b 40) (Some OpenParen)
    (cond (eqb b 41) (Some CloseParen)
    (cond (eqb b 58) (Some Colon)
    (cond (eqb b 44) (Some Comma) None)))))))

-- a quote's byte, and its class
abbrev pub byte_of : Quote → ℕ
byte_of Double = 34
byte_of Single = 39

abbrev pub class_of : Quote → ℕ
class_of Double = 8
class_of Single = 18

-- the states after one quote, inside, after two, and inside three of them by how many quotes were read last; and the kinds
abbrev pub one_s : ℕ → ℕ
one_s q = cond (eqb q 8) 5 14

abbrev pub inside_s : ℕ → ℕ
inside_s q = cond (eqb q 8) 16 19

abbrev pub two_s : ℕ → ℕ
two_s q = cond (eqb q 8) 17 20

unfoldable pub multi_s : ℕ → ℕ → ℕ
multi_s q n = cond (eqb q 8) (get_or (22 ∷ 25 ∷ 27 ∷ 29 ∷ []) n 0) (get_or (24 ∷ 26 ∷ 28 ∷ 30 ∷ []) n 0)

abbrev pub plain_k : ℕ → ℕ
plain_k q = cond (eqb q 8) 12 13

abbrev pub multi_k : ℕ → ℕ
multi_k q = cond (eqb q 8) 14 15

-- the token of the bytes bs, which stand at `start` and do not begin with white space
abbrev pub finish : ℕ → List ℕ → Found → PlacedToken
finish start bs miss = record { kind = Some Invalid; start = start; end = start + 1 + span_of 5 5 (drop 1 bs) }
finish start bs (hit k e) = record { kind = Some (kind_of k); start = start; end = e }

abbrev pub from_b : ℕ → List ℕ → PlacedToken
from_b start bs = finish start bs (run 0 miss start bs)
