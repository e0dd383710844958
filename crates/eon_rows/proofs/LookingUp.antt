-- Many names in one walk (document 02, L2), by rows: which path texts are lists of paths, the values that each path reaches, the steps, the
-- refusals, and what is handed back. The answers are the paper's, of the original's trees.
use Rattle.std.proofs.Common.{◌≡◌, ℕ, zero, suc, List, [], ◌∷◌, ◌++◌, replicate, Ok, Err, Result, refl, arith}
use Rattle.eon_spec.specs.declared.Found.{Found}
use Rattle.eon_spec.specs.Refused.{Refusal}
use Rattle.eon_spec.specs.declared.refusal.Refusal as program
use Rattle.eon_spec.specs.declared.refusal.Reason.TheVariants.{NoPaths}
use Rattle.eon_spec.specs.Parse.{refusal}
use Rattle.eon_spec.specs.Calls.{refused_with, nowhere}
use Rattle.eon_spec.specs.Lookup.{none_word, lookup_call, SomeOf, SomeOfEach, IsLookup}
use Rattle.eon_rows.proofs.Computing.{bytes, repeated, looks_up, finds, ◌along◌takes◌reaching◌, ◌along◌refused_by◌}

-- ---- "an Eon text, with its table, that is a list of paths, each a list of 1 to 8 keys"

-- one path of one key
one_path : "a:1" along "[[a]]" takes 3 reaching ((2 ∷ []) ∷ [])
unfolding looks_up bytes
one_path = refl

-- the list's brackets may be left out, once there are two paths
without_brackets : "a:1 b:2" along "[a] [b]" takes 5 reaching ((2 ∷ []) ∷ (4 ∷ []) ∷ [])
unfolding looks_up bytes
without_brackets = refl

with_brackets : "a:1 b:2" along "[[a] [b]]" takes 5 reaching ((2 ∷ []) ∷ (4 ∷ []) ∷ [])
unfolding looks_up bytes
with_brackets = refl

-- zero paths: no front, so that no map is entered
no_paths : "a:1" along "[]" takes 1 reaching []
unfolding looks_up bytes
no_paths = refl

-- a list of keys is no list of paths
path_alone : "a:1" along "[a]" refused_by 28
unfolding looks_up bytes
path_alone = refl

identifier_alone : "a:1" along "a" refused_by 28
unfolding looks_up bytes
identifier_alone = refl

-- the empty text is a map
empty_path_text : "a:1" along "" refused_by 28
unfolding looks_up bytes
empty_path_text = refl

map_of_paths : "a:1" along "p:[a]" refused_by 28
unfolding looks_up bytes
map_of_paths = refl

-- a path has a key
no_keys : "a:1" along "[[]]" refused_by 28
unfolding looks_up bytes
no_keys = refl

-- eight keys are a path, nine are none
eight_keys : "a:1" along "[[a b c d e f g h]]" takes 3 reaching ([] ∷ [])
unfolding looks_up bytes
eight_keys = refl

nine_keys : "a:1" along "[[a b c d e f g h i]]" refused_by 28
unfolding looks_up bytes
nine_keys = refl

list_as_key : "a:1" along "[[[a]]]" refused_by 28
unfolding looks_up bytes
list_as_key = refl

map_as_key : "a:1" along "[[{}]]" refused_by 28
unfolding looks_up bytes
map_as_key = refl

map_as_path : "a:1" along "[{a:b}]" refused_by 28
unfolding looks_up bytes
map_as_path = refl

variant_as_path : "a:1" along "['x'(a)]" refused_by 28
unfolding looks_up bytes
variant_as_path = refl

variant_as_list : "a:1" along "'x'([a])" refused_by 28
unfolding looks_up bytes
variant_as_list = refl

-- each path has the form
one_of_two : "a:1" along "[a] [1]" refused_by 28
unfolding looks_up bytes
one_of_two = refl

-- and each key
key_of_two : "a:1" along "[[a 1]]" refused_by 28
unfolding looks_up bytes
key_of_two = refl

-- ---- "identifiers or strings compared byte by byte"

number_as_key : "1:2" along "[[1]]" refused_by 28
unfolding looks_up bytes
number_as_key = refl

variant_as_key : "a:1" along "[['a'()]]" refused_by 28
unfolding looks_up bytes
variant_as_key = refl

-- a key as any identifier
keyword : "true:1" along "[[true]]" takes 3 reaching ((2 ∷ []) ∷ [])
unfolding looks_up bytes
keyword = refl

-- a string with its quotes
quotes_count : "\"a\":1 a:2 'a':3" along "[a] [\"a\"] ['a']" takes 7 reaching ((4 ∷ []) ∷ (2 ∷ []) ∷ (6 ∷ []) ∷ [])
unfolding looks_up bytes
quotes_count = refl

-- and not by its value
not_unquoted : "\"\\u{61}\":1" along "[[\"a\"]]" takes 3 reaching ([] ∷ [])
unfolding looks_up bytes
not_unquoted = refl

-- the whole key
beginning : "ab:1 a:2 abc:3" along "[[ab]]" takes 7 reaching ((2 ∷ []) ∷ [])
unfolding looks_up bytes
beginning = refl

-- ---- "(event keys of other kinds match none)"

-- a number, a list, a map, a variant
other_kinds : "1:2 [a]:3 {a:4}:5 'a'():6" along "[a] ['a']" takes 9 reaching ([] ∷ [] ∷ [])
unfolding looks_up bytes
other_kinds = refl

-- ---- "comments in it are ignored"

commented_paths : "a:1" along "//x\n[//y\n[//z\na//u\n//k\n]//v\n//w\n]//t" takes 3 reaching ((2 ∷ []) ∷ [])
unfolding looks_up bytes
commented_paths = refl

-- ---- "A path goes through maps from the root"

two_deep : "a:{b:1}" along "[[a b]]" takes 5 reaching ((4 ∷ []) ∷ [])
unfolding looks_up bytes
two_deep = refl

root_in_braces : "{a:1}" along "[[a]]" takes 3 reaching ((2 ∷ []) ∷ [])
unfolding looks_up bytes
root_in_braces = refl

-- a root that is no map
root_list : "[a 1]" along "[[a]]" takes 1 reaching ([] ∷ [])
unfolding looks_up bytes
root_list = refl

root_value : "a" along "[[a]]" takes 1 reaching ([] ∷ [])
unfolding looks_up bytes
root_value = refl

-- not through a list, nor a variant, nor a key
through_list : "a:[{b:1}]" along "[[a b]]" takes 3 reaching ([] ∷ [])
unfolding looks_up bytes
through_list = refl

through_variant : "a:'v'({b:1})" along "[[a b]]" takes 3 reaching ([] ∷ [])
unfolding looks_up bytes
through_variant = refl

through_key : "{a:1}:2" along "[[a]]" takes 3 reaching ([] ∷ [])
unfolding looks_up bytes
through_key = refl

not_the_root_again : "a:{a:1}" along "[[a a]]" takes 5 reaching ((4 ∷ []) ∷ [])
unfolding looks_up bytes
not_the_root_again = refl

eight_deep : "a:{a:{a:{a:{a:{a:{a:{a:1}}}}}}}" along "[[a a a a a a a a]]" takes 17 reaching ((16 ∷ []) ∷ [])
unfolding looks_up bytes
eight_deep = refl

-- ---- "takes for each path the number of some value reached by it"

-- any kind of value
any_value : "a:[1] b:{} c:'v'() d:\"s\"" along "[a] [b] [c] [d]" takes 9 reaching ((2 ∷ []) ∷ (5 ∷ []) ∷ (7 ∷ []) ∷ (9 ∷ []) ∷ [])
unfolding looks_up bytes
any_value = refl

-- the value's own record, not that of a comment before it
own_record : "//p\n{//q\na//r\n://s\n1}" along "[[a]]" takes 3 reaching ((6 ∷ []) ∷ [])
unfolding looks_up bytes
own_record = refl

-- both of two equal keys
equal_keys : "a:1 a:2" along "[[a]]" takes 5 reaching ((2 ∷ 4 ∷ []) ∷ [])
unfolding looks_up bytes
equal_keys = refl

-- also where the first leads nowhere
not_greedy : "a:1 a:{b:2}" along "[[a b]]" takes 7 reaching ((6 ∷ []) ∷ [])
unfolding looks_up bytes
not_greedy = refl

equal_fronts : "a:{b:1} a:{b:2 b:3}" along "[[a b]]" takes 11 reaching ((4 ∷ 8 ∷ 10 ∷ []) ∷ [])
unfolding looks_up bytes
equal_fronts = refl

-- equal paths have an entry each
equal_paths : "a:1" along "[a] [a]" takes 3 reaching ((2 ∷ []) ∷ (2 ∷ []) ∷ [])
unfolding looks_up bytes
equal_paths = refl

-- a path that another extends
path_extended : "a:{b:1}" along "[a] [a b]" takes 5 reaching ((2 ∷ []) ∷ (4 ∷ []) ∷ [])
unfolding looks_up bytes
path_extended = refl

-- entries are in the paths' order, not the event's
paths_in_turn : "b:1 a:2" along "[a] [b]" takes 5 reaching ((4 ∷ []) ∷ (2 ∷ []) ∷ [])
unfolding looks_up bytes
paths_in_turn = refl

shared_front : "a:{b:1 c:2}" along "[a c] [a b]" takes 7 reaching ((6 ∷ []) ∷ (4 ∷ []) ∷ [])
unfolding looks_up bytes
shared_front = refl

-- ---- "The answer holds 'none' exactly if no such value exists"

nothing_reached : "a:1" along "[b] [a b] [a]" takes 3 reaching ([] ∷ [] ∷ (2 ∷ []) ∷ [])
unfolding looks_up bytes
nothing_reached = refl

empty_event : "" along "[[a]]" takes 1 reaching ([] ∷ [])
unfolding looks_up bytes
empty_event = refl

-- ---- "the steps: the root and, in each map that a proper front of some path reaches, every key and value, each once"

-- every pair of the map, not the path's alone
all_pairs : "a:1 b:2 c:3" along "[[a]]" takes 7 reaching ((2 ∷ []) ∷ [])
unfolding looks_up bytes
all_pairs = refl

-- a path that ends at a map does not enter it
end_not_entered : "a:{b:1}" along "[[a]]" takes 3 reaching ((2 ∷ []) ∷ [])
unfolding looks_up bytes
end_not_entered = refl

-- nor is a map that no front reaches
not_reached : "a:{b:{c:1}} d:{e:2}" along "[[a d]]" takes 7 reaching ([] ∷ [])
unfolding looks_up bytes
not_reached = refl

-- both maps that a front reaches, and however many paths go through
both_maps : "a:{b:1 b:2} a:{b:3}" along "[a b] [a c]" takes 11 reaching ((4 ∷ 6 ∷ 10 ∷ []) ∷ [] ∷ [])
unfolding looks_up bytes
both_maps = refl

-- comments are no steps
comments_no_steps : "//p\na//q\n://r\n1//s" along "[[a]]" takes 3 reaching ((5 ∷ []) ∷ [])
unfolding looks_up bytes
comments_no_steps = refl

-- ---- "28 for a path list of another form or of more than 128 paths"

paths_128 : looks_up (bytes "a:1") (repeated 128 (bytes "[a]")) ≡ finds 3 (replicate 128 (2 ∷ []))
unfolding looks_up bytes
paths_128 = refl

paths_129 : looks_up (bytes "a:1") (repeated 129 (bytes "[a]")) ≡ refused_with (nowhere 28)
unfolding looks_up bytes
paths_129 = refl

-- ---- "The event text's refusals up to 15 come first, then the path text's up to 15, then 28"

-- the table of `1`, and of the empty text
abbrev one : List ℕ
one = 2 ∷ 0 ∷ 1 ∷ 1 ∷ 1 ∷ []

abbrev empty_map : List ℕ
empty_map = 5 ∷ 0 ∷ 0 ∷ 0 ∷ 1 ∷ []

abbrev unbalanced : Refusal
unbalanced = refusal 13 (record { start = 0; end = 1 })

event_read_first : lookup_call (bytes "}") [] (bytes "]]") [] ≡ refused_with unbalanced
unfolding looks_up bytes
event_read_first = refl

event_stale_first : lookup_call (bytes "1") [] (bytes "]") [] ≡ refused_with (nowhere 15)
unfolding looks_up bytes
event_stale_first = refl

then_paths_read : lookup_call (bytes "1") one (bytes "]") [] ≡ refused_with unbalanced
unfolding looks_up bytes
then_paths_read = refl

then_paths_stale : lookup_call (bytes "1") one [] [] ≡ refused_with (nowhere 15)
unfolding looks_up bytes
then_paths_stale = refl

then_the_form : lookup_call (bytes "1") one [] empty_map ≡ refused_with (nowhere 28)
unfolding looks_up bytes
then_the_form = refl

-- words behind both tables are ignored
words_behind : lookup_call (bytes "1") (one ++ (9 ∷ 9 ∷ [])) (bytes "[]") (4 ∷ 0 ∷ 2 ∷ 2 ∷ 1 ∷ 9 ∷ []) ≡ finds 1 []
unfolding looks_up bytes
words_behind = refl

-- ---- "the number of some value reached by it. The answer holds 'none' exactly if no such value exists": what is free, and what is not

first_of_two : SomeOf (2 ∷ 4 ∷ []) 2
first_of_two = refl

second_of_two : SomeOf (2 ∷ 4 ∷ []) 4
second_of_two = refl

neither_of_two : SomeOf (2 ∷ 4 ∷ []) 3 → ⊥
neither_of_two e = cc

not_none : SomeOf (2 ∷ []) 4294967295 → ⊥
not_none e = cc

none_alone : SomeOf [] 4294967295
none_alone = refl

not_zero : SomeOf [] 0 → ⊥
not_zero e = omega arith

-- ---- "One table of 128 answers, all 'none' at the start"; a refusal hands back all 'none'

abbrev form_refused : program.Refusal
form_refused = record { reason = NoPaths; start = 0; end = 0 }

abbrev found_by : Result ℕ program.Refusal → List ℕ → Found
found_by a ws = record { answer = a; answers = ws }

none_each : (k : ℕ) → SomeOfEach (replicate k []) (replicate k none_word)
none_each zero = tt
none_each (suc k) = (refl, none_each k)

none_beside_refusal : IsLookup (refused_with (nowhere 28)) (found_by (Err form_refused) (replicate 128 4294967295))
none_beside_refusal = record { counts = refl; finds = none_each 128 }

-- no entry holds anything else
not_zero_beside_refusal : IsLookup (refused_with (nowhere 28)) (found_by (Err form_refused) (replicate 128 0)) → ⊥
not_zero_beside_refusal h = let z : ◌≡◌ {A = ℕ} 0 4294967295 = h.finds.0 in omega arith

-- and there are no fewer
none_missing : IsLookup (refused_with (nowhere 28)) (found_by (Err form_refused) []) → ⊥
none_missing h = h.finds

-- a lookup that is answered is not refused, and counts its steps
not_refused : (ws : List ℕ) → IsLookup (finds 1 []) (found_by (Err form_refused) ws) → ⊥
not_refused ws h = let k = h.counts in cc

steps_counted : (ws : List ℕ) → IsLookup (finds 1 []) (found_by (Ok 3) ws) → ⊥
steps_counted ws h = let k = h.counts in cc
