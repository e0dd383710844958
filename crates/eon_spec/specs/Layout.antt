-- The layout of a tree (format.rs; document 01, "Layout"). It looks at kinds and bytes, never at spans.
use Rattle.std.specs.Prelude.{ℕ, zero, suc, ◌+◌, ◌-◌, Bool, true, false, ◌&&◌, ◌||◌, not, cond, List, [], ◌∷◌, ◌++◌, length, take, replicate, ltb, leb, Option, None, Some}
use Rattle.eon_spec.specs.declared.Setting.{Setting}
use Rattle.eon_spec.specs.declared.FormatOptions.{FormatOptions}
use Rattle.eon_spec.specs.Base.{elem, codes}
use Rattle.eon_spec.specs.Tree.{Slice, TokenTree, TokenValue, TokenTrees, KeyValues, tree, identifier, number, quoted_string, list_of, map_of, variant_of, no_trees, ◌∷ᵗ◌, no_pairs, pair}

-- the texts of the settings
pub record Settings : Type 0 where
  pub indentation : List ℕ
  pub newline : List ℕ
  -- kept but unused: one blank is written
  pub space_before_suffix_comment : List ℕ
  pub key_value_separator : List ℕ
  pub always_include_outer_braces : Bool

-- "Defaults: tab, line feed, `: `, no outer braces", and one blank
abbrev pub defaults : Settings
defaults =
    record {
      indentation = codes "\t";
      newline = codes "\n";
      space_before_suffix_comment = codes " ";
      key_value_separator = codes ": ";
      always_include_outer_braces = false;
    }

-- the texts that the options hold
abbrev pub text_of : Setting → List ℕ
text_of s = take s.len s.bytes

abbrev pub settings_of : FormatOptions → Settings
settings_of o =
    record {
      indentation = text_of o.indentation;
      newline = text_of o.newline;
      space_before_suffix_comment = text_of o.space_before_suffix_comment;
      key_value_separator = text_of o.key_value_separator;
      always_include_outer_braces = o.always_include_outer_braces;
    }

-- the most bytes that a setting may have
abbrev pub setting_max : ℕ
setting_max = 16

-- a setting with this text, which is no longer
abbrev pub setting : List ℕ → Setting
setting b = record { bytes = b ++ replicate (setting_max - length b) 0; len = length b }

-- a setting with any text; of a longer one it has the length alone, which layout refuses by 16
abbrev pub setting_of : List ℕ → Setting
setting_of b = cond (leb (length b) setting_max) (setting b) (record { bytes = replicate setting_max 0; len = length b })

-- the options with the default texts
abbrev pub default_options : FormatOptions
default_options =
    record {
      indentation = setting (codes "\t");
      newline = setting (codes "\n");
      space_before_suffix_comment = setting (codes " ");
      key_value_separator = setting (codes ": ");
      always_include_outer_braces = false;
    }

abbrev pub is_empty : List Slice → Bool
is_empty [] = true
is_empty (c ∷ cs) = false

abbrev pub is_none : Option Slice → Bool
is_none None = true
is_none (Some c) = false

abbrev pub no_values : TokenTrees → Bool
no_values no_trees = true
no_values (t ∷ᵗ ts) = false

abbrev pub no_key_values : KeyValues → Bool
no_key_values no_pairs = true
no_key_values (pair k v kvs) = false

abbrev pub count_trees : TokenTrees → ℕ
count_trees no_trees = 0
count_trees (t ∷ᵗ ts) = suc (count_trees ts)

abbrev pub prefix_of : TokenTree → List Slice
prefix_of (tree s p v x) = p

abbrev pub suffix_of : TokenTree → Option Slice
suffix_of (tree s p v x) = x

abbrev pub has_prefix : TokenTree → Bool
has_prefix t = not (is_empty (prefix_of t))

-- is_simple: "no comments; identifier, number, string without line feed, or empty container"
abbrev pub simple_value : TokenValue → Bool
simple_value (identifier b) = true
simple_value (number b) = true
simple_value (quoted_string b) = not (elem 10 b)
simple_value (list_of vs cl) = no_values vs && is_empty cl
simple_value (map_of kvs cl) = no_key_values kvs && is_empty cl
simple_value (variant_of n vs cl) = no_values vs && is_empty cl

abbrev pub is_simple : TokenTree → Bool
is_simple (tree s p v x) = is_empty p && is_none x && simple_value v

abbrev pub is_number : TokenValue → Bool
is_number (identifier b) = false
is_number (number b) = true
is_number (quoted_string b) = false
is_number (list_of vs cl) = false
is_number (map_of kvs cl) = false
is_number (variant_of n vs cl) = false

abbrev pub is_number_tree : TokenTree → Bool
is_number_tree (tree s p v x) = is_number v

-- "string bytes + 2, anything else 7": the estimated width of a value, with the two bytes behind it
abbrev pub value_width : TokenValue → ℕ
value_width (identifier b) = 7
value_width (number b) = 7
value_width (quoted_string b) = length b + 2
value_width (list_of vs cl) = 7
value_width (map_of kvs cl) = 7
value_width (variant_of n vs cl) = 7

abbrev pub tree_width : TokenTree → ℕ
tree_width (tree s p v x) = value_width v

abbrev pub all_trees : (TokenTree → Bool) → TokenTrees → Bool
all_trees f no_trees = true
all_trees f (t ∷ᵗ ts) = f t && all_trees f ts

abbrev pub sum_widths : TokenTrees → ℕ
sum_widths no_trees = 0
sum_widths (t ∷ᵗ ts) = tree_width t + sum_widths ts

-- should_format_values_on_one_line: "at most 4, all simple, .. and either all are numbers or the sum is below 60"
unfoldable pub values_on_one_line : TokenTrees → Bool
values_on_one_line vs = all_trees is_simple vs && leb (count_trees vs) 4 && (all_trees is_number_tree vs || ltb (sum_widths vs) 60)

-- should_format_list_on_one_line, should_format_variant_on_one_line: "no closing comments" besides
unfoldable pub on_one_line : TokenTrees → List Slice → Bool
on_one_line vs cl = is_empty cl && values_on_one_line vs

-- the values are one list or one map
abbrev pub is_container : TokenValue → Bool
is_container (identifier b) = false
is_container (number b) = false
is_container (quoted_string b) = false
is_container (list_of vs cl) = true
is_container (map_of kvs cl) = true
is_container (variant_of n vs cl) = false

abbrev pub is_sole_container : TokenTrees → Bool
is_sole_container no_trees = false
is_sole_container (tree s p v x ∷ᵗ no_trees) = is_container v
is_sole_container (t ∷ᵗ (u ∷ᵗ us)) = false

-- `n` is the indentation
module _ (o : Settings) where
  abbrev pub add_indent : ℕ → List ℕ
  add_indent zero = []
  add_indent (suc n) = o.indentation ++ add_indent n

  -- indented_comments: "Prefix and closing comments take an indented line each"
  abbrev pub indented_comments : ℕ → List Slice → List ℕ
  indented_comments n [] = []
  indented_comments n (c ∷ cs) = add_indent n ++ c.bytes ++ o.newline ++ indented_comments n cs

  -- one blank, and the comment
  abbrev pub suffix_comment : Option Slice → List ℕ
  suffix_comment None = []
  suffix_comment (Some c) = 32 ∷ c.bytes

  -- "A blank line stands before a later item with prefix comments (for a pair, its key's)"
  abbrev pub gap : Bool → TokenTree → List ℕ
  gap first t = cond (not first && has_prefix t) o.newline []

  -- ".. and before closing comments after items"
  abbrev pub closing : ℕ → Bool → List Slice → List ℕ
  closing n empty cl = cond (is_empty cl || empty) (indented_comments n cl) (o.newline ++ indented_comments n cl)

  -- items and closing comments on lines of their own, between brackets
  abbrev pub on_lines : ℕ → List ℕ → List ℕ → Bool → List Slice → List ℕ → List ℕ
  on_lines n left items empty cl right = left ++ o.newline ++ items ++ closing (suc n) empty cl ++ add_indent n ++ right

  -- what any other long variant writes for its values: line ends, "one more for each value (two for a later value with prefix comments)"
  abbrev pub line_ends : Bool → TokenTrees → List ℕ
  line_ends first no_trees = []
  line_ends first (t ∷ᵗ ts) = gap first t ++ o.newline ++ line_ends false ts

  unfoldable mutual
    -- indented_value: a tree with its comments, on a line
    pub indented_value : ℕ → TokenTree → List ℕ
    indented_value n (tree s p v x) = indented_comments n p ++ add_indent n ++ value n v ++ suffix_comment x

    -- a tree's value without its comments
    pub bare_value : ℕ → TokenTree → List ℕ
    bare_value n (tree s p v x) = value n v

    -- "An empty container without comments is `[]`, `{}`, or for a variant the bare name"
    pub value : ℕ → TokenValue → List ℕ
    value n (identifier b) = b
    value n (number b) = b
    value n (quoted_string b) = b
    value n (list_of vs cl) =
        elim (no_values vs && is_empty cl) [
          | true ↦ codes "[]"
          | false ↦ elim (on_one_line vs cl) [
            | true ↦ codes "[" ++ one_line n vs ++ codes "]"
            | false ↦ on_lines n (codes "[") (list_content (suc n) true vs) (no_values vs) cl (codes "]")
          ]
        ]
    value n (map_of kvs cl) =
        elim (no_key_values kvs && is_empty cl) [
          | true ↦ codes "{}"
          | false ↦ on_lines n (codes "{") (map_content (suc n) true kvs) (no_key_values kvs) cl (codes "}")
        ]
    value n (variant_of name vs cl) =
        name.bytes
        ++ elim (no_values vs && is_empty cl) [
          | true ↦ []
          | false ↦ elim (on_one_line vs cl) [
            | true ↦ codes "(" ++ one_line n vs ++ codes ")"
            | false ↦ elim (is_empty cl && is_sole_container vs) [
              | true ↦ codes "(" ++ shared_first n vs ++ codes ")"
              | false ↦ on_lines n (codes "(") (line_ends true vs) (no_values vs) cl (codes ")")
            ]
          ]
        ]

    -- "Values go on one line, parted by `, `"
    pub one_line : ℕ → TokenTrees → List ℕ
    one_line n no_trees = []
    one_line n (t ∷ᵗ ts) = bare_value n t ++ elim (no_values ts) [ true ↦ [] | false ↦ codes ", " ++ one_line n ts ]

    -- list_content, without the closing comments: "each has its own line, without commas"
    pub list_content : ℕ → Bool → TokenTrees → List ℕ
    list_content n first no_trees = []
    list_content n first (t ∷ᵗ ts) = gap first t ++ indented_value n t ++ o.newline ++ list_content n false ts

    -- map_content, without the closing comments: "value prefixes go above the key, key suffixes are dropped"
    pub map_content : ℕ → Bool → KeyValues → List ℕ
    map_content n first no_pairs = []
    map_content n first (pair k v kvs) =
        gap first k ++ indented_comments n (prefix_of k) ++ indented_comments n (prefix_of v) ++ add_indent n ++ bare_value n k
        ++ o.key_value_separator ++ bare_value n v ++ suffix_comment (suffix_of v) ++ o.newline ++ map_content n false kvs

    -- the sole list or map of a variant, which shares its brackets: its own prefix and suffix are dropped
    pub shared_first : ℕ → TokenTrees → List ℕ
    shared_first n no_trees = []
    shared_first n (t ∷ᵗ ts) = shared_tree n t

    pub shared_tree : ℕ → TokenTree → List ℕ
    shared_tree n (tree s p v x) = shared n v

    -- "an empty one becomes `({ })` or `([ ])`"
    pub shared : ℕ → TokenValue → List ℕ
    shared n (identifier b) = []
    shared n (number b) = []
    shared n (quoted_string b) = []
    shared n (list_of vs cl) =
        elim (no_values vs && is_empty cl) [
          | true ↦ codes "[ ]"
          | false ↦ on_lines n (codes "[") (list_content (suc n) true vs) (no_values vs) cl (codes "]")
        ]
    shared n (map_of kvs cl) =
        elim (no_key_values kvs && is_empty cl) [
          | true ↦ codes "{ }"
          | false ↦ on_lines n (codes "{") (map_content (suc n) true kvs) (no_key_values kvs) cl (codes "}")
        ]
    shared n (variant_of name vs cl) = []

  -- "A root map without outer braces is its prefix comments, content, suffix. Anything else has no line end after it"
  abbrev pub without_braces : TokenTree → List ℕ
  without_braces (tree s p (map_of kvs cl) x) =
      indented_comments 0 p ++ map_content 0 true kvs ++ closing 0 (no_key_values kvs) cl ++ suffix_comment x
  without_braces (tree s p (identifier b) x) = indented_value 0 (tree s p (identifier b) x)
  without_braces (tree s p (number b) x) = indented_value 0 (tree s p (number b) x)
  without_braces (tree s p (quoted_string b) x) = indented_value 0 (tree s p (quoted_string b) x)
  without_braces (tree s p (list_of vs cl) x) = indented_value 0 (tree s p (list_of vs cl) x)
  without_braces (tree s p (variant_of n vs cl) x) = indented_value 0 (tree s p (variant_of n vs cl) x)

  -- TokenTree::format
  unfoldable pub format : TokenTree → List ℕ
  format t = elim o.always_include_outer_braces [ true ↦ indented_value 0 t | false ↦ without_braces t ]
