-- The forms on several lines, each under a name.
use Rattle.std.specs.Prelude.{ℕ, suc, ◌≤◌, ◌≡◌, true, false, ◌&&◌, cond, List, ◌++◌, eqb, Option, None, Some}
use Rattle.eon_spec.specs.Base.{codes}
use Rattle.eon_spec.specs.Tree.{Slice, TokenTree, TokenValue, TokenTrees, KeyValues}
use Rattle.eon_spec.specs.Layout.{Settings, add_indent, no_values, no_key_values, on_lines, line_ends, list_content, map_content, indented_comments, suffix_comment, prefix_of, suffix_of, bare_value, shared, shared_first, is_empty, is_container, is_sole_container}
use Rattle.eon_spec.specs.RecordKind.{LIST}
use Rattle.eon_table.specs.Words.{word}
use Rattle.eon_table.specs.TreeAt.{ValueAt, PairedAt}

abbrev pub long_list : Settings → ℕ → TokenTrees → List Slice → List ℕ
long_list o n vs cl = on_lines o n (codes "[") (list_content o (suc n) true vs) (no_values vs) cl (codes "]")

abbrev pub long_map : Settings → ℕ → KeyValues → List Slice → List ℕ
long_map o n kvs cl = on_lines o n (codes "{") (map_content o (suc n) true kvs) (no_key_values kvs) cl (codes "}")

abbrev pub long_variant : Settings → ℕ → TokenTrees → List Slice → List ℕ
long_variant o n vs cl = on_lines o n (codes "(") (line_ends o true vs) (no_values vs) cl (codes ")")

-- indented_key_value
abbrev pub pair_text : Settings → ℕ → TokenTree → TokenTree → List ℕ
pair_text o n k v =
    indented_comments o n (prefix_of k) ++ indented_comments o n (prefix_of v) ++ add_indent o n ++ bare_value o n k ++ o.key_value_separator
    ++ bare_value o n v ++ suffix_comment o (suffix_of v)

-- an empty list or map between a variant's brackets
abbrev pub blank_at : List ℕ → ℕ → List ℕ
blank_at tb i = cond (eqb (word tb i 0) LIST) (codes "[ ]") (codes "{ }")

module _ (s tb : List ℕ) where
  -- a variant's sole list or map, at record r
  pub record Found (i : ℕ) (vs : TokenTrees) (cl : List Slice) (r : ℕ) : Type 0 where
    pub from : i ≤ r
    pub val : TokenValue
    pub stands : ValueAt s tb r val
    pub container : is_container val ≡ true
    pub only : (is_empty cl && is_sole_container vs) ≡ true
    pub shares : (o : Settings) (n : ℕ) → shared_first o n vs ≡ shared o n val

  abbrev pub SoleAt : ℕ → TokenTrees → List Slice → Option ℕ → Type 0
  SoleAt i vs cl None = (is_empty cl && is_sole_container vs) ≡ false
  SoleAt i vs cl (Some r) = Found i vs cl r

  abbrev pub SomeContainer : ℕ → Type 0
  SomeContainer i = (v : TokenValue) × ValueAt s tb i v × (is_container v ≡ true)

  abbrev pub SomePaired : ℕ → ℕ → Type 0
  SomePaired end i = (kvs : KeyValues) × (cl : List Slice) × PairedAt s tb end i kvs cl
