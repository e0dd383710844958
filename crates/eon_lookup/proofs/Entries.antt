-- What an answered lookup is: what the paths of a path list find in the event's tree. It has an entry for each of 128 paths, and its steps are
-- no more than the event's records.
use Rattle.std.proofs.Common.{Option, None, Some, ◌≡◌, refl, sym, ◌∙◌, ap, Bool, true, false, cond, List, [], ℕ, ◌≤◌, arith, length, leb}
use Rattle.std.proofs.lemmas.List.{length-replicate}
use Rattle.eon_spec.specs.Tree.{TokenTree, TokenValue, tree, identifier, number, quoted_string, list_of, map_of, variant_of}
use Rattle.eon_spec.specs.Records.{tree_records}
use Rattle.eon_spec.specs.Calls.{Outcome, done, refused_with, then, or_refused, read_finished}
use Rattle.eon_spec.specs.Lookup.{paths_max, Path, Looked, keep_if, paths_of, path_list_in, path_list, looked, lookup_call, entries_of}
use Rattle.eon_laws.proofs.Facts.{le_of}
use Rattle.eon_table.proofs.Finished.{refusal_done}
use Rattle.eon_lookup.proofs.Result.{entries_length}
use Rattle.eon_lookup.proofs.Steps.{few_steps}

-- ---- a path list has at most 128 paths

kept : {A : Type 0} (test : A → Bool) (o : Option A) (a : A) → keep_if test o ≡ Some a → test a ≡ true
kept test None a e = cc
kept {A} test (Some b) a e = go (test b) refl e
  where
    go : (x : Bool) → test b ≡ x → cond x (Some b) None ≡ Some a → test a ≡ true
    go true p e = let z : b ≡ a = cc in ap test (sym z) ∙ p
    go false p e = cc

list_few : (v : TokenValue) (ps : List Path) → path_list_in v ≡ Some ps → length ps ≤ paths_max
list_few (identifier b) ps e = cc
list_few (number b) ps e = cc
list_few (quoted_string b) ps e = cc
list_few (list_of vs cl) ps e = le_of (length ps) paths_max (kept (λ (qs : List Path). leb (length qs) paths_max) (paths_of vs) ps e)
list_few (map_of kvs cl) ps e = cc
list_few (variant_of n vs cl) ps e = cc

pub few_paths : (u : TokenTree) (ps : List Path) → path_list u ≡ Some ps → length ps ≤ paths_max
unfolding path_list
few_paths (tree s p v x) ps e = list_few v ps e

-- ---- the call

-- the event's tree, the paths of the path text, and what they find
pub record LookedUp (s sTable q qTable : List ℕ) (l : Looked) : Type 0 where
  pub event : TokenTree
  pub read_event : read_finished s sTable ≡ done event
  pub text : TokenTree
  pub read_paths : read_finished q qTable ≡ done text
  pub paths : List Path
  pub form : path_list text ≡ Some paths
  pub found : l ≡ looked event paths

module _ (s sTable q qTable : List ℕ) where
  pub lookup_answers : (l : Looked) → lookup_call s sTable q qTable ≡ done l → LookedUp s sTable q qTable l
  unfolding lookup_call
  lookup_answers l e = go (read_finished s sTable) refl (read_finished q qTable) refl e
    where
      by_form : (t u : TokenTree) → read_finished s sTable ≡ done t → read_finished q qTable ≡ done u → (o : Option (List Path)) → path_list u ≡ o → then (or_refused 28 o) (λ ps. done (looked t ps)) ≡ done l → LookedUp s sTable q qTable l
      by_form t u a b None c f = refusal_done _ l f
      by_form t u a b (Some ps) c f = record { event = t; read_event = a; text = u; read_paths = b; paths = ps; form = c; found = (let z : looked t ps ≡ l = cc in sym z) }

      go : (x : Outcome TokenTree) → read_finished s sTable ≡ x → (y : Outcome TokenTree) → read_finished q qTable ≡ y → then x (λ t. then y λ u. then (or_refused 28 (path_list u)) λ ps. done (looked t ps)) ≡ done l → LookedUp s sTable q qTable l
      go (refused_with r) a y b f = refusal_done r l f
      go (done t) a (refused_with r) b f = refusal_done r l f
      go (done t) a (done u) b f = by_form t u a b (path_list u) refl f

  -- "One table of 128 answers"
  pub entries_many : length (entries_of (lookup_call s sTable q qTable)) ≡ paths_max
  entries_many = go (lookup_call s sTable q qTable) refl
    where
      go : (o : Outcome Looked) → lookup_call s sTable q qTable ≡ o → length (entries_of o) ≡ paths_max
      go (refused_with r) e = length-replicate {A = List ℕ} paths_max []
      go (done l) e = let a = lookup_answers l e in ap (λ (x : Looked). length x.reached) a.found ∙ entries_length a.event a.paths (few_paths a.text a.paths a.form)

  -- "They never exceed the event table's record count"
  pub lookup_few_steps : (l : Looked) → lookup_call s sTable q qTable ≡ done l → (t : TokenTree) × (read_finished s sTable ≡ done t) × (l.steps ≤ length (tree_records t))
  unfolding looked
  lookup_few_steps l e =
      let a = lookup_answers l e in
      let f : l.steps ≡ (looked a.event a.paths).steps = ap (λ (x : Looked). x.steps) a.found in
      (a.event, a.read_event, omega (arith, f, few_steps a.event a.paths))
