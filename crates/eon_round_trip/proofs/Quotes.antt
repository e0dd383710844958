-- The derivatives of the string rules: a string that is matched goes no further.
use Rattle.std.proofs.Common.{◌≡◌, Bool, true, false, eqb, List, [], ◌∷◌, sym, refl}
use Prim.Native.Char.{Char}
use Rattle.std.proofs.lemmas.Bool.{true_from_ne_false}
use Rattle.eon_laws.proofs.Facts.{clash, or-false, eq_of}
use Rattle.eon_spec.specs.Utf8.{Character, code_point}
use Rattle.eon_spec.specs.Regex.{Item, only, in_class, Regex, never, empty, one_of, none_of, ◌then◌, ◌or◌, many, char, dot, nullable, deriv}
use Rattle.eon_laws.proofs.Regex.{derivs, Ends}
use Rattle.eon_laws.proofs.Apart.{never_stays, never_ends, empty_ends, dead, dead_nullable}

pub one_true : (k : List Item) (c : Character) → in_class k c ≡ true → deriv (one_of k) c ≡ empty
unfolding deriv
one_true k c e = rw (e, deriv)

pub one_false : (k : List Item) (c : Character) → in_class k c ≡ false → deriv (one_of k) c ≡ never
unfolding deriv
one_false k c e = rw (e, deriv)

none_true : (k : List Item) (c : Character) → in_class k c ≡ true → deriv (none_of k) c ≡ never
unfolding deriv
none_true k c e = rw (e, deriv)

none_false : (k : List Item) (c : Character) → in_class k c ≡ false → deriv (none_of k) c ≡ empty
unfolding deriv
none_false k c e = rw (e, deriv)

empty_over : (c : Character) (s : List Character) → derivs empty (c ∷ s) ≡ never
unfolding deriv
empty_over c s = never_stays s

-- inside a string in triple quotes Q, at its end, or past it
module _ (Q : Char) where
  abbrev pub is_q : List Item
  is_q = only Q ∷ []

  abbrev pub quote : Regex
  quote = one_of is_q

  abbrev other : Regex
  other = none_of is_q

  abbrev pub triple : Regex
  triple = quote then quote then quote then empty

  abbrev part : Regex
  part = other or quote then other or (quote then quote then empty) then other

  abbrev pub inside : Regex
  inside = many part then triple

  abbrev one_quote : Regex
  one_quote = ((other or quote then other) then inside) or quote then quote then empty

  abbrev two_quotes : Regex
  two_quotes = (other then inside) or quote then empty

  abbrev pub long : Regex
  long = triple then inside

  data Long : Regex → Type 0 where
    in_it : Long inside
    one : Long one_quote
    two : Long two_quotes
    closed : Long empty
    past : Long never

  long_step : {d : Regex} → Long d → (c : Character) → Long (deriv d c)
  unfolding deriv
  long_step in_it c = go (in_class is_q c) refl
    where
      go : (b : Bool) → in_class is_q c ≡ b → Long (deriv inside c)
      go true e = rw (one_true is_q c e, none_true is_q c e) one
      go false e = rw (one_false is_q c e, none_false is_q c e) in_it
  long_step one c = go (in_class is_q c) refl
    where
      go : (b : Bool) → in_class is_q c ≡ b → Long (deriv one_quote c)
      go true e = rw (one_true is_q c e, none_true is_q c e) two
      go false e = rw (one_false is_q c e, none_false is_q c e) in_it
  long_step two c = go (in_class is_q c) refl
    where
      go : (b : Bool) → in_class is_q c ≡ b → Long (deriv two_quotes c)
      go true e = rw (one_true is_q c e, none_true is_q c e) closed
      go false e = rw (one_false is_q c e, none_false is_q c e) in_it
  long_step closed c = past
  long_step past c = past

  long_steps : {d : Regex} → Long d → (s : List Character) → Long (derivs d s)
  long_steps {d = d} l [] = l
  long_steps {d = d} l (c ∷ s) = long_steps {d = deriv d c} (long_step l c) s

  long_nullable : {d : Regex} → Long d → nullable d ≡ true → d ≡ empty
  long_nullable in_it e = cc
  long_nullable one e = cc
  long_nullable two e = cc
  long_nullable closed e = refl
  long_nullable past e = cc

  after_quote : (d : Regex) (c : Character) → in_class is_q c ≡ true → deriv (quote then d) c ≡ d
  unfolding deriv
  after_quote d c e = rw (one_true is_q c e)

  no_quote : (d : Regex) (c : Character) → in_class is_q c ≡ false → deriv (quote then d) c ≡ never
  unfolding deriv
  no_quote d c e = rw (one_false is_q c e)

  after_long : (c : Character) → in_class is_q c ≡ true → deriv long c ≡ quote then quote then inside
  unfolding deriv
  after_long c e = rw (one_true is_q c e)

  no_long : (c : Character) → in_class is_q c ≡ false → deriv long c ≡ never
  unfolding deriv
  no_long c e = rw (one_false is_q c e)

  -- a rule that matches a text begins with its first character
  by_class : (r : Regex) (c : Character) (s : List Character) → (in_class is_q c ≡ false → deriv r c ≡ never) → nullable (derivs r (c ∷ s)) ≡ true → in_class is_q c ≡ true
  by_class r c s f e = true_from_ne_false (in_class is_q c) λ p. clash e (dead_nullable r c s (f p))

  -- the text behind does not begin with a quote
  abbrev pub NoQuote : List Character → Type 0
  NoQuote [] = Unit {0}
  NoQuote (c ∷ t) = in_class is_q c ≡ false

  -- the text begins with a quote
  abbrev pub Quoted : List Character → Type 0
  Quoted [] = ⊥
  Quoted (c ∷ s) = in_class is_q c ≡ true

  quote_ends : (d : Regex) (t : List Character) → NoQuote t → Ends (quote then d) t
  quote_ends d [] n = tt
  quote_ends d (c ∷ t) n = rw (no_quote d c n)

  -- the rule for one quote, with what it has behind the opening quote
  module _ (short : Regex) (open-short : nullable short ≡ false) (closes : (c : Character) → in_class is_q c ≡ true → deriv short c ≡ empty)
      (ended : (s : List Character) → nullable (derivs short s) ≡ true → derivs short s ≡ empty) where
    pub short_ends : (s t : List Character) → nullable (derivs (quote then short) s) ≡ true → NoQuote t
        → Quoted s × Ends (derivs (quote then short) s) t × Ends (derivs long s) t
    unfolding deriv
    short_ends [] t e n = cc
    short_ends (c ∷ s) t e n =
        let q = by_class (quote then short) c s (no_quote short c) e in
        let f : nullable (derivs short s) ≡ true = rw (after_quote short c q) at e in
        (q, rw (after_quote short c q, ended s f) (empty_ends t), rw (after_long c q) (behind s f))
      where
        behind : (s : List Character) → nullable (derivs short s) ≡ true → Ends (derivs (quote then quote then inside) s) t
        behind [] f = clash f open-short
        behind (d ∷ s) f = go (in_class is_q d) refl
          where
            last : (s : List Character) → nullable (derivs empty s) ≡ true → Ends (derivs (quote then inside) s) t
            last [] f = quote_ends inside t n
            last (x ∷ s) f = clash f (dead_nullable empty x s refl)

            go : (b : Bool) → in_class is_q d ≡ b → Ends (derivs (quote then quote then inside) (d ∷ s)) t
            go true p = rw (after_quote (quote then inside) d p) (last s (rw (closes d p) at f))
            go false p = dead (quote then quote then inside) d s t (no_quote (quote then inside) d p)

    third : (s t : List Character) → nullable (derivs (quote then inside) s) ≡ true → Ends (derivs (quote then inside) s) t × (derivs empty s ≡ never)
    third [] t e = cc
    third (c ∷ s) t e =
        let q = by_class (quote then inside) c s (no_quote inside c) e in
        let f : nullable (derivs inside s) ≡ true = rw (after_quote inside c q) at e in
        (rw (after_quote inside c q, long_nullable (long_steps in_it s) f) (empty_ends t), empty_over c s)

    second : (s t : List Character) → nullable (derivs (quote then quote then inside) s) ≡ true → Ends (derivs (quote then quote then inside) s) t × (derivs short s ≡ never)
    second [] t e = cc
    second (c ∷ s) t e =
        let q = by_class (quote then quote then inside) c s (no_quote (quote then inside) c) e in
        let r = third s t (rw (after_quote (quote then inside) c q) at e) in
        (rw (after_quote (quote then inside) c q) r.0, rw (closes c q) r.1)

    pub long_ends : (s t : List Character) → nullable (derivs long s) ≡ true → Quoted s × Ends (derivs (quote then short) s) t × Ends (derivs long s) t
    long_ends [] t e = cc
    long_ends (c ∷ s) t e =
        let q = by_class long c s (no_long c) e in
        let r = second s t (rw (after_long c q) at e) in
        (q, rw (after_quote short c q, r.1) (never_ends t), rw (after_long c q) r.0)

-- what the rule '..' has behind its opening quote
module _ (Q : Char) where
  abbrev pub plain : Regex
  plain = many (none_of (is_q Q)) then quote Q

  data Plain : Regex → Type 0 where
    in_it : Plain plain
    closed : Plain empty
    past : Plain never

  pub plain_closes : (c : Character) → in_class (is_q Q) c ≡ true → deriv plain c ≡ empty
  unfolding deriv
  plain_closes c e = rw (one_true (is_q Q) c e, none_true (is_q Q) c e)

  plain_step : {d : Regex} → Plain d → (c : Character) → Plain (deriv d c)
  unfolding deriv
  plain_step in_it c = go (in_class (is_q Q) c) refl
    where
      go : (b : Bool) → in_class (is_q Q) c ≡ b → Plain (deriv plain c)
      go true e = rw (one_true (is_q Q) c e, none_true (is_q Q) c e) closed
      go false e = rw (one_false (is_q Q) c e, none_false (is_q Q) c e) in_it
  plain_step closed c = past
  plain_step past c = past

  plain_steps : {d : Regex} → Plain d → (s : List Character) → Plain (derivs d s)
  plain_steps {d = d} p [] = p
  plain_steps {d = d} p (c ∷ s) = plain_steps {d = deriv d c} (plain_step p c) s

  plain_nullable : {d : Regex} → Plain d → nullable d ≡ true → d ≡ empty
  plain_nullable in_it e = cc
  plain_nullable closed e = refl
  plain_nullable past e = cc

  pub plain_ended : (s : List Character) → nullable (derivs plain s) ≡ true → derivs plain s ≡ empty
  plain_ended s e = plain_nullable (plain_steps in_it s) e

-- what the rule ".." has behind its opening quote
abbrev pub escaping : Regex
escaping = many (none_of (only "\"" ∷ only "\\" ∷ []) or char "\\" then dot) then char "\""

data Escaping : Regex → Type 0 where
  in_it : Escaping escaping
  escaped : Escaping (dot then escaping)
  closed : Escaping empty
  past : Escaping never

pub escaping_closes : (c : Character) → in_class (is_q "\"") c ≡ true → deriv escaping c ≡ empty
unfolding deriv
escaping_closes c e = rw (sym (eq_of 34 (code_point c) (or-false (eqb 34 (code_point c)) e)))

escaping_step : {d : Regex} → Escaping d → (c : Character) → Escaping (deriv d c)
unfolding deriv
escaping_step in_it c = go (eqb 34 (code_point c)) (eqb 92 (code_point c)) refl refl
  where
    go : (x y : Bool) → eqb 34 (code_point c) ≡ x → eqb 92 (code_point c) ≡ y → Escaping (deriv escaping c)
    go true y e f = rw (sym (eq_of 34 (code_point c) e)) closed
    go false true e f = rw (sym (eq_of 92 (code_point c) f)) escaped
    go false false e f =
        rw (none_false (only "\"" ∷ only "\\" ∷ []) c (rw (e, f)), one_false (only "\\" ∷ []) c (rw f), one_false (only "\"" ∷ []) c (rw e)) in_it
escaping_step escaped c = go (in_class (only "\n" ∷ []) c) refl
  where
    go : (b : Bool) → in_class (only "\n" ∷ []) c ≡ b → Escaping (deriv (dot then escaping) c)
    go true e = rw (none_true (only "\n" ∷ []) c e) past
    go false e = rw (none_false (only "\n" ∷ []) c e) in_it
escaping_step closed c = past
escaping_step past c = past

escaping_steps : {d : Regex} → Escaping d → (s : List Character) → Escaping (derivs d s)
escaping_steps {d = d} p [] = p
escaping_steps {d = d} p (c ∷ s) = escaping_steps {d = deriv d c} (escaping_step p c) s

escaping_nullable : {d : Regex} → Escaping d → nullable d ≡ true → d ≡ empty
escaping_nullable in_it e = cc
escaping_nullable escaped e = cc
escaping_nullable closed e = refl
escaping_nullable past e = cc

pub escaping_ended : (s : List Character) → nullable (derivs escaping s) ≡ true → derivs escaping s ≡ empty
escaping_ended s e = escaping_nullable (escaping_steps in_it s) e
