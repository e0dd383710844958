-- Decimal digits, as `parse` reads them.
use Rattle.std.proofs.Common.{◌≡◌, ℕ, ◌<◌, ◌≤◌, true, List, length, Ok, Result, arith, rules}
use Rattle.std.specs.Int.{IsInRange}
use Rattle.std.specs.List.{AllPass}
use Rattle.std.specs.Char.{is_ascii_digit}
use Rattle.std.specs.Str.{IsUtf8}
use Rattle.std.specs.Str.Parse.{digits_value, ParsesUnsigned}
use Rattle.std.proofs.lemmas.List.Elements.{All-nil, All-cons, All-head, All-tail}
use Rattle.std.proofs.lemmas.Str.Parse.{IsNumeralModel, numerals_by_value, digits_value_short, parse_gives}
use Rattle.std.proofs.lemmas.Str.{IsUtf8-from_ascii}
use Rattle.std.proofs.lemmas.Fmt.{IsAscii-from_digits}

in_range : (c : ℕ) → is_ascii_digit c ≡ true → IsInRange 48 57 c
in_range c h = search rules

passes : (c : ℕ) → IsInRange 48 57 c → is_ascii_digit c ≡ true
passes c h = search rules

own : IsNumeralModel (AllPass is_ascii_digit) (digits_value 10)
own = numerals_by_value _ (record {
  empty = All-nil (λ d. is_ascii_digit d ≡ true);
  parts = λ c cs h. (in_range c (All-head (λ d. is_ascii_digit d ≡ true) c cs h), All-tail (λ d. is_ascii_digit d ≡ true) c cs h);
  more = λ c cs d h. All-cons (λ d. is_ascii_digit d ≡ true) c cs (passes c d) h;
})

pub is_text : (ds : List ℕ) → AllPass is_ascii_digit ds → IsUtf8 ds
is_text ds h = IsUtf8-from_ascii ds (IsAscii-from_digits ds (own.to ds h))

-- few digits are a number
pub parses : {E : Type 0} (ds : List ℕ) (r : Result ℕ E) → ParsesUnsigned 64 10 ds r → AllPass is_ascii_digit ds → 0 < length ds → length ds ≤ 5 → r ≡ Ok (digits_value 10 ds)
parses ds r p h some few = parse_gives own 64 ds r p h some (omega (arith, digits_value_short own ds 5 h few))
