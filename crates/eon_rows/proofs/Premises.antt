-- The premises of demand 3 (document 01, "Afternoon and evening"), by computing: texts at the edge of each meet them, and each is needed
-- (for the written text's length: LongestWritten; for lent memory: AfternoonEvening).
use Rattle.std.proofs.Common.{◌≡◌, ℕ, Bool, true, false, leb, List, [], ◌∷◌, ◌++◌, length, take, drop, replicate, refl, ap, arith, le-leb, leb-true}
use Rattle.eon_spec.specs.Tree.{TokenTree}
use Rattle.eon_spec.specs.Layout.{defaults, format}
use Rattle.eon_spec.specs.Calls.{Outcome, done, refused_with, then, read_text}
use Rattle.eon_spec.specs.Runs.{Premises, no_comments, every_variant, holds_value, fits_or_holds_one, depth, height}
use Rattle.eon_rows.proofs.Computing.{reads, writes, compares, bytes, plain, truth}

-- 1 for each premise on the tree that it meets, 0 for one that it does not: comments, empty parentheses, variants, depth, length
unfoldable pub tests : TokenTree → List ℕ
unfolding writes no_comments every_variant depth height
tests t = truth (no_comments t) ++ truth (every_variant holds_value t) ++ truth (every_variant fits_or_holds_one t) ++ truth (leb (depth t) 63) ++ truth (leb (length (format defaults t)) 65535)

-- 0 for an accepted text, and its tree's tests
unfoldable pub met : List ℕ → List ℕ
unfolding tests
met s = plain (then (read_text s) λ t. done (tests t))

abbrev pub all_met : List ℕ
all_met = 0 ∷ 1 ∷ 1 ∷ 1 ∷ 1 ∷ 1 ∷ []

-- ---- they are the premises: a text meets all exactly if it has a tree with which it meets the premises

premises_met : (s : List ℕ) (t : TokenTree) → Premises s t → met s ≡ all_met
unfolding met tests
premises_met s t p = rw p.accepted (rw p.no_comments (rw p.no_empty_variant (rw p.variants_fit (rw (le-leb (depth t) 63 p.depth_63) (rw (le-leb (length (format defaults t)) 65535 p.written_length))))))

each : (a b c d e : Bool) → truth a ++ truth b ++ truth c ++ truth d ++ truth e ≡ 1 ∷ 1 ∷ 1 ∷ 1 ∷ 1 ∷ [] → (a ≡ true) × (b ≡ true) × (c ≡ true) × (d ≡ true) × (e ≡ true)
each true true true true true h = (refl, refl, refl, refl, refl)
each false b c d e h = cc
each true false c d e h = cc
each true true false d e h = cc
each true true true false e h = cc
each true true true true false h = cc

met_premises : (s : List ℕ) → met s ≡ all_met → (t : TokenTree) × Premises s t
unfolding met tests
met_premises s h = go (read_text s) refl h
  where
    go : (o : Outcome TokenTree) → read_text s ≡ o → plain (then o λ t. done (tests t)) ≡ all_met → (t : TokenTree) × Premises s t
    go (done t) e h =
        let b = each (no_comments t) (every_variant holds_value t) (every_variant fits_or_holds_one t) (leb (depth t) 63) (leb (length (format defaults t)) 65535) (ap (drop 1) h) in
        (t, record { accepted = e; no_comments = b.0; no_empty_variant = b.1; variants_fit = b.2; depth_63 = leb-true (depth t) 63 b.3; written_length = leb-true (length (format defaults t)) 65535 b.4 })
    go (refused_with r) e h = let y : ◌≡◌ {A = ℕ} 5 6 = ap length h in absurd (omega arith)

-- ---- inside

event : met (bytes "round:3\nbyes:[\"Half\"(7),\"Half\"(9), \"Other\"({a: [1 2 3 4 5]})]") ≡ all_met
unfolding met bytes
event = refl

nothing : met (bytes "") ≡ all_met
unfolding met bytes
nothing = refl

empty_map_lem : met (bytes "{}") ≡ all_met
unfolding met bytes
empty_map_lem = refl

several_roots : met (bytes "1 'a', {b:2}") ≡ all_met
unfolding met bytes
several_roots = refl

-- comments that reading drops do not count
dropped_comment : met (bytes "42\n// c") ≡ all_met
unfolding met bytes
dropped_comment = refl

string_57 : met (bytes "\"A\"(\"" ++ replicate 55 97 ++ bytes "\")") ≡ all_met
unfolding met bytes
string_57 = refl

depth_63 : met (replicate 63 91 ++ bytes "1" ++ replicate 63 93) ≡ all_met
unfolding met bytes
depth_63 = refl

depth_63_in_a_map : met (bytes "a:" ++ replicate 63 91 ++ bytes "1" ++ replicate 63 93) ≡ all_met
unfolding met bytes
depth_63_in_a_map = refl

-- ---- outside: what is written is read as another tree, or is refused

-- empty parentheses are lost
empty_variant_met : met (bytes "\"A\"()") ≡ 0 ∷ 1 ∷ 0 ∷ 1 ∷ 1 ∷ 1 ∷ []
unfolding met bytes
empty_variant_met = refl

empty_variant : writes (bytes "\"A\"()") ≡ 0 ∷ bytes "\"A\""
unfolding writes bytes
empty_variant = refl

empty_variant_lost : compares (bytes "\"A\"()") (bytes "\"A\"") ≡ 0 ∷ 0 ∷ []
unfolding compares bytes
empty_variant_lost = refl

-- so is a comment behind a key
key_comment_met : met (bytes "a // c\n: 1") ≡ 0 ∷ 0 ∷ 1 ∷ 1 ∷ 1 ∷ 1 ∷ []
unfolding met bytes
key_comment_met = refl

key_comment : writes (bytes "a // c\n: 1") ≡ 0 ∷ bytes "a: 1\n"
unfolding writes bytes
key_comment = refl

key_comment_lost : compares (bytes "a // c\n: 1") (bytes "a: 1\n") ≡ 0 ∷ 0 ∷ []
unfolding compares bytes
key_comment_lost = refl

-- and so are the values of a long variant
long_variant_met : met (bytes "\"A\"(1 2 3 4 5)") ≡ 0 ∷ 1 ∷ 1 ∷ 0 ∷ 1 ∷ 1 ∷ []
unfolding met bytes
long_variant_met = refl

long_variant_lem : writes (bytes "\"A\"(1 2 3 4 5)") ≡ 0 ∷ bytes "\"A\"(\n\n\n\n\n\n)"
unfolding writes bytes
long_variant_lem = refl

long_variant_lost : compares (bytes "\"A\"(1 2 3 4 5)") (bytes "\"A\"(\n\n\n\n\n\n)") ≡ 0 ∷ 0 ∷ []
unfolding compares bytes
long_variant_lost = refl

-- a value inside 64 containers, of which the outermost list has no brackets in the file: with them it is too deep
depth_64_met : met (bytes "2 " ++ replicate 63 91 ++ bytes "1" ++ replicate 63 93) ≡ 0 ∷ 1 ∷ 1 ∷ 1 ∷ 0 ∷ 1 ∷ []
unfolding met bytes
depth_64_met = refl

depth_64 : take 1 (reads (drop 1 (writes (bytes "2 " ++ replicate 63 91 ++ bytes "1" ++ replicate 63 93)))) ≡ 4 ∷ []
unfolding writes bytes
depth_64 = refl

-- ---- records of each kind, and values in each place

-- "No comments: its tree has no record of kinds 7 to 9": a prefix
prefix_met : met (bytes "[//c\n1]") ≡ 0 ∷ 0 ∷ 1 ∷ 1 ∷ 1 ∷ 1 ∷ []
unfolding met bytes
prefix_met = refl

-- a closing comment
closing_met : met (bytes "[1\n//c\n]") ≡ 0 ∷ 0 ∷ 1 ∷ 1 ∷ 1 ∷ 1 ∷ []
unfolding met bytes
closing_met = refl

-- "A variant has empty parentheses if it holds no value": one in a list, behind another value
empty_variant_in_a_list : met (bytes "[1 'A'()]") ≡ 0 ∷ 1 ∷ 0 ∷ 1 ∷ 1 ∷ 1 ∷ []
unfolding met bytes
empty_variant_in_a_list = refl

-- in a variant
empty_variant_in_a_variant : met (bytes "'A'('B'())") ≡ 0 ∷ 1 ∷ 0 ∷ 1 ∷ 1 ∷ 1 ∷ []
unfolding met bytes
empty_variant_in_a_variant = refl

-- as a key
empty_variant_as_a_key : met (bytes "'A'():1") ≡ 0 ∷ 1 ∷ 0 ∷ 1 ∷ 1 ∷ 1 ∷ []
unfolding met bytes
empty_variant_as_a_key = refl

-- as a value, in a later pair
empty_variant_as_a_value : met (bytes "a:1 b:'A'()") ≡ 0 ∷ 1 ∷ 0 ∷ 1 ∷ 1 ∷ 1 ∷ []
unfolding met bytes
empty_variant_as_a_value = refl

-- "A value stands inside the lists, maps and variants of the tree around it": the text inside n lists, and a list without brackets
abbrev inside : ℕ → List ℕ → List ℕ
inside n s = bytes "2 " ++ replicate n 91 ++ s ++ replicate n 93

-- a variant counts
depth_64_by_a_variant : met (inside 62 (bytes "'A'(1)")) ≡ 0 ∷ 1 ∷ 1 ∷ 1 ∷ 0 ∷ 1 ∷ []
unfolding met bytes
depth_64_by_a_variant = refl

-- a map that is not outermost counts
depth_64_by_a_map : met (inside 62 (bytes "{a:1}")) ≡ 0 ∷ 1 ∷ 1 ∷ 1 ∷ 0 ∷ 1 ∷ []
unfolding met bytes
depth_64_by_a_map = refl

-- a value in a key
depth_64_in_a_key : met (inside 61 (bytes "{[1]:2}")) ≡ 0 ∷ 1 ∷ 1 ∷ 1 ∷ 0 ∷ 1 ∷ []
unfolding met bytes
depth_64_in_a_key = refl

-- in a later pair
depth_64_in_a_later_pair : met (inside 61 (bytes "{a:1 b:[2]}")) ≡ 0 ∷ 1 ∷ 1 ∷ 1 ∷ 0 ∷ 1 ∷ []
unfolding met bytes
depth_64_in_a_later_pair = refl
