-- The layout of a text of n bytes, with the default settings, has at most 68 * (n + 1) bytes: each token pays for its own bytes and 67
-- more, which are its indentation (at most 65), the end of its line, and a blank line. It has a byte, so that 68 for each byte suffice.
use Rattle.std.proofs.Common.{◌≡◌, ℕ, zero, suc, ◌+◌, ◌*◌, ◌≤◌, Bool, true, false, ◌&&◌, List, [], ◌∷◌, ◌++◌, length, Some, None, Option, refl, arith, length-append}
use Rattle.eon_spec.specs.Base.{codes}
use Rattle.eon_spec.specs.Utf8.{is_utf8}
use Rattle.eon_spec.specs.Tree.{Slice, TokenTree, TokenValue, TokenTrees, KeyValues, tree, identifier, number, quoted_string, list_of, map_of, variant_of, no_trees, ◌∷ᵗ◌, no_pairs, pair}
use Rattle.eon_spec.specs.Parse.{parsed, parse}
use Rattle.eon_spec.specs.Layout.{Settings, defaults, is_empty, no_values, no_key_values, prefix_of, suffix_of, on_one_line, is_sole_container, add_indent, indented_comments, suffix_comment, gap, closing, on_lines, line_ends, indented_value, bare_value, value, one_line, list_content, map_content, shared_first, shared_tree, shared, without_braces, format}
use Rattle.eon_spec.specs.Runs.{height, height_in, height_of, height_of_pairs}
use Rattle.eon_laws.proofs.Bytes.{held, comments_bytes, suffix_bytes, tree_bytes, inside_bytes, value_bytes, trees_bytes, pairs_bytes, root_bytes}
use Rattle.eon_laws.proofs.Spans.{tree_bytes_lem, tree_height}

-- 67 bytes and its own are at most 68 for each byte that a token takes
held_charge : (b : List ℕ) → length b + 67 ≤ 68 * held b
unfolding held
held_charge [] = omega arith
held_charge (x ∷ b) = omega arith

-- both branches are short enough
choice_le : (b : Bool) (x y : List ℕ) (m : ℕ) → length x ≤ m → length y ≤ m → length {A = ℕ} (elim b [ true ↦ x | false ↦ y ]) ≤ m
choice_le true x y m h k = h
choice_le false x y m h k = k

behind_le : (a b : List ℕ) (m : ℕ) → length b ≤ m → length (a ++ b) ≤ length a + m
behind_le a b m h = rw (length-append a b) (omega arith)

-- settings whose texts are as long as the default ones
module _ (o : Settings) (tab : length o.indentation ≡ 1) (line : length o.newline ≡ 1) (colon : length o.key_value_separator ≡ 2) where
  indent_length : (n : ℕ) → length (add_indent o n) ≡ n
  indent_length zero = refl
  indent_length (suc n) = rw (length-append o.indentation (add_indent o n), tab, indent_length n) (omega arith)

  -- comments on lines of their own, with a byte to spare for each
  comments_le : (n : ℕ) (cs : List Slice) → n ≤ 65 → length (indented_comments o n cs) + length cs ≤ 68 * comments_bytes cs
  unfolding comments_bytes
  comments_le n [] h = omega arith
  comments_le n (c ∷ cs) h = simp (length-append, line, indent_length) (omega (arith, held_charge c.bytes, comments_le n cs h))

  -- a suffix comment
  suffix_le : (x : Option Slice) → length (suffix_comment o x) ≤ 68 * suffix_bytes x
  unfolding suffix_bytes
  suffix_le None = omega arith
  suffix_le (Some c) = omega (arith, held_charge c.bytes)

  -- a blank line, which a comment pays for
  gap_le : (first : Bool) (t : TokenTree) → length (gap o first t) ≤ length (prefix_of t)
  gap_le true t = omega arith
  gap_le false (tree s [] v x) = omega arith
  gap_le false (tree s (c ∷ p) v x) = omega arith

  -- closing comments, and a blank line before them
  closing_le : (n : ℕ) (empty : Bool) (cl : List Slice) → n ≤ 65 → length (closing o n empty cl) ≤ 68 * comments_bytes cl
  closing_le n empty [] h = omega arith
  closing_le n true (c ∷ cl) h = omega (arith, comments_le n (c ∷ cl) h)
  closing_le n false (c ∷ cl) h = rw (length-append o.newline (indented_comments o n (c ∷ cl))) (omega (arith, comments_le n (c ∷ cl) h))

  -- items that take at most m bytes, and closing comments, on lines of their own between brackets of one byte each
  lines_le : (n m : ℕ) (left items : List ℕ) (empty : Bool) (cl : List Slice) (right : List ℕ) → length left ≡ 1 → length right ≡ 1 → n ≤ 64 → length items ≤ m
      → length (on_lines o n left items empty cl right) ≤ 3 + n + (m + 68 * comments_bytes cl)
  lines_le n m left items empty cl right l r h k = simp (length-append, l, r, line, indent_length) (omega (arith, closing_le (suc n) empty cl (omega arith)))

  -- a tree's lines and the blank line before them, but for the indentation of its value
  abbrev parts : ℕ → Bool → TokenTree → ℕ
  parts n first t = length (gap o first t) + length (indented_comments o n (prefix_of t)) + length (bare_value o n t) + length (suffix_comment o (suffix_of t))

  indented_parts : (n : ℕ) (first : Bool) (t : TokenTree) → length (gap o first t) + length (indented_value o n t) ≡ n + parts n first t
  unfolding indented_value
  indented_parts n first (tree s p v x) = simp (length-append, indent_length) (omega arith)

  -- a container whose items take at most m bytes
  module _ (n m : ℕ) (cl : List Slice) (inside : n ≤ 64) where
    abbrev most : ℕ
    most = 3 + n + (m + 68 * comments_bytes cl)

    -- on one line
    one_line_le : (left items right : List ℕ) → length left ≡ 1 → length right ≡ 1 → length items ≤ m → length (left ++ items ++ right) ≤ most
    one_line_le left items right l r h = simp (length-append, l, r) (omega arith)

    -- as a value of its own
    list_value_le : (vs : TokenTrees) → length (one_line o n vs) ≤ m → length (list_content o (suc n) true vs) ≤ m → length (value o n (list_of vs cl)) ≤ most
    unfolding value
    list_value_le vs h k =
        choice_le (no_values vs && is_empty cl) _ _ most (omega arith)
        (choice_le (on_one_line vs cl) _ _ most (one_line_le (codes "[") (one_line o n vs) (codes "]") refl refl h)
        (lines_le n m (codes "[") (list_content o (suc n) true vs) (no_values vs) cl (codes "]") refl refl inside k))

    map_value_le : (kvs : KeyValues) → length (map_content o (suc n) true kvs) ≤ m → length (value o n (map_of kvs cl)) ≤ most
    unfolding value
    map_value_le kvs k =
        choice_le (no_key_values kvs && is_empty cl) _ _ most (omega arith) (lines_le n m (codes "{") (map_content o (suc n) true kvs) (no_key_values kvs) cl (codes "}") refl refl inside k)

    variant_value_le : (name : Slice) (vs : TokenTrees) → length (one_line o n vs) ≤ m → length (shared_first o n vs) ≤ m → length (line_ends o true vs) ≤ m
        → length (value o n (variant_of name vs cl)) ≤ length name.bytes + most
    unfolding value
    variant_value_le name vs h j k =
        behind_le name.bytes _ most
        (choice_le (no_values vs && is_empty cl) _ _ most (omega arith)
        (choice_le (on_one_line vs cl) _ _ most (one_line_le (codes "(") (one_line o n vs) (codes ")") refl refl h)
        (choice_le (is_empty cl && is_sole_container vs) _ _ most (one_line_le (codes "(") (shared_first o n vs) (codes ")") refl refl j)
        (lines_le n m (codes "(") (line_ends o true vs) (no_values vs) cl (codes ")") refl refl inside k))))

    -- as the only value of a variant
    shared_list_le : (vs : TokenTrees) → length (list_content o (suc n) true vs) ≤ m → length (shared o n (list_of vs cl)) ≤ most
    unfolding shared
    shared_list_le vs k =
        choice_le (no_values vs && is_empty cl) _ _ most (omega arith) (lines_le n m (codes "[") (list_content o (suc n) true vs) (no_values vs) cl (codes "]") refl refl inside k)

    shared_map_le : (kvs : KeyValues) → length (map_content o (suc n) true kvs) ≤ m → length (shared o n (map_of kvs cl)) ≤ most
    unfolding shared
    shared_map_le kvs k =
        choice_le (no_key_values kvs && is_empty cl) _ _ most (omega arith) (lines_le n m (codes "{") (map_content o (suc n) true kvs) (no_key_values kvs) cl (codes "}") refl refl inside k)

  -- a pair and those behind it; a value and those behind it, on one line
  pair_length : (n : ℕ) (first : Bool) (k v : TokenTree) (kvs : KeyValues)
      → length (map_content o n first (pair k v kvs)) ≤ n + 3 + parts n first k + parts n true v + length (map_content o n false kvs)
  unfolding map_content
  pair_length n first k v kvs = simp (length-append, indent_length, line, colon) (omega arith)

  next_le : (n : ℕ) (t : TokenTree) (ts : TokenTrees) (m : ℕ) → length (one_line o n ts) ≤ m → length (one_line o n (t ∷ᵗ ts)) ≤ length (bare_value o n t) + (2 + m)
  unfolding one_line
  next_le n t ts m h = behind_le (bare_value o n t) _ (2 + m) (choice_le (no_values ts) _ _ (2 + m) (omega arith) (omega arith))

  -- n steps in, with values at most 64 steps in: every value has 67 bytes to spare for what stands around it
  mutual
    unfolding value tree_bytes height

    parts_le : (t : TokenTree) (n : ℕ) (first : Bool) → n + height t ≤ 64 → parts n first t + 67 ≤ 68 * tree_bytes t
    parts_le (tree s p v x) n first h = omega (arith, gap_le first (tree s p v x), comments_le n p (omega arith), value_le v n h, suffix_le x)

    value_le : (v : TokenValue) (n : ℕ) → n + height_in v ≤ 64 → length (value o n v) + 67 ≤ 68 * value_bytes v
    value_le (identifier b) n h = omega (arith, held_charge b)
    value_le (number b) n h = omega (arith, held_charge b)
    value_le (quoted_string b) n h = omega (arith, held_charge b)
    value_le (list_of vs cl) n h =
        omega (arith, list_value_le n (68 * trees_bytes vs) cl (omega arith) vs (one_line_trees_le vs n (omega arith)) (list_le vs (suc n) true (omega arith)))
    value_le (map_of kvs cl) n h = omega (arith, map_value_le n (68 * pairs_bytes kvs) cl (omega arith) kvs (map_le kvs (suc n) true (omega arith)))
    value_le (variant_of name vs cl) n h =
        omega (arith, held_charge name.bytes, variant_value_le n (68 * trees_bytes vs) cl (omega arith) name vs (one_line_trees_le vs n (omega arith)) (shared_first_le vs n (omega arith)) (ends_le vs n true (omega arith)))

    one_line_trees_le : (ts : TokenTrees) (n : ℕ) → n + height_of ts ≤ 65 → length (one_line o n ts) ≤ 68 * trees_bytes ts
    one_line_trees_le no_trees n h = omega arith
    one_line_trees_le (t ∷ᵗ ts) n h = omega (arith, parts_le t n true (omega arith), next_le n t ts (68 * trees_bytes ts) (one_line_trees_le ts n (omega arith)))

    list_le : (ts : TokenTrees) (n : ℕ) (first : Bool) → n + height_of ts ≤ 65 → length (list_content o n first ts) ≤ 68 * trees_bytes ts
    list_le no_trees n first h = omega arith
    list_le (t ∷ᵗ ts) n first h = simp (length-append, line) (omega (arith, indented_parts n first t, parts_le t n first (omega arith), list_le ts n false (omega arith)))

    map_le : (kvs : KeyValues) (n : ℕ) (first : Bool) → n + height_of_pairs kvs ≤ 65 → length (map_content o n first kvs) ≤ 68 * pairs_bytes kvs
    map_le no_pairs n first h = omega arith
    map_le (pair k v kvs) n first h =
        omega (arith, pair_length n first k v kvs, parts_le k n first (omega arith), parts_le v n true (omega arith), map_le kvs n false (omega arith))

    ends_le : (ts : TokenTrees) (n : ℕ) (first : Bool) → n + height_of ts ≤ 65 → length (line_ends o first ts) ≤ 68 * trees_bytes ts
    ends_le no_trees n first h = omega arith
    ends_le (t ∷ᵗ ts) n first h = simp (length-append, line) (omega (arith, parts_le t n first (omega arith), ends_le ts n false (omega arith)))

    shared_first_le : (ts : TokenTrees) (n : ℕ) → n + height_of ts ≤ 65 → length (shared_first o n ts) ≤ 68 * trees_bytes ts
    shared_first_le no_trees n h = omega arith
    shared_first_le (t ∷ᵗ ts) n h = omega (arith, shared_tree_le t n (omega arith))

    shared_tree_le : (t : TokenTree) (n : ℕ) → n + height t ≤ 64 → length (shared_tree o n t) ≤ 68 * tree_bytes t
    shared_tree_le (tree s p v x) n h = omega (arith, shared_le v n h)

    shared_le : (v : TokenValue) (n : ℕ) → n + height_in v ≤ 64 → length (shared o n v) ≤ 68 * value_bytes v
    shared_le (identifier b) n h = omega arith
    shared_le (number b) n h = omega arith
    shared_le (quoted_string b) n h = omega arith
    shared_le (list_of vs cl) n h = omega (arith, shared_list_le n (68 * trees_bytes vs) cl (omega arith) vs (list_le vs (suc n) true (omega arith)))
    shared_le (map_of kvs cl) n h = omega (arith, shared_map_le n (68 * pairs_bytes kvs) cl (omega arith) kvs (map_le kvs (suc n) true (omega arith)))
    shared_le (variant_of name vs cl) n h = omega arith

  -- a root, without its brackets: they are 3 bytes with a line end
  root_value_le : (v : TokenValue) → height_in v ≤ 64 → length (value o 0 v) ≤ 3 + 68 * inside_bytes v
  unfolding value tree_bytes height
  root_value_le (identifier b) h = omega (arith, held_charge b)
  root_value_le (number b) h = omega (arith, held_charge b)
  root_value_le (quoted_string b) h = omega (arith, held_charge b)
  root_value_le (list_of vs cl) h = omega (arith, list_value_le 0 (68 * trees_bytes vs) cl (omega arith) vs (one_line_trees_le vs 0 (omega arith)) (list_le vs 1 true (omega arith)))
  root_value_le (map_of kvs cl) h = omega (arith, map_value_le 0 (68 * pairs_bytes kvs) cl (omega arith) kvs (map_le kvs 1 true (omega arith)))
  root_value_le (variant_of name vs cl) h = omega (arith, value_le (variant_of name vs cl) 0 (omega arith))

  -- with outer braces, and without
  root_le : (t : TokenTree) → height t ≤ 64 → length (indented_value o 0 t) ≤ 3 + 68 * root_bytes t
  unfolding indented_value root_bytes height
  root_le (tree s p v x) h = simp length-append (omega (arith, comments_le 0 p (omega arith), root_value_le v h, suffix_le x))

  without_braces_le : (t : TokenTree) → height t ≤ 64 → length (without_braces o t) ≤ 3 + 68 * root_bytes t
  unfolding root_bytes tree_bytes height
  without_braces_le (tree s p (identifier b) x) h = root_le (tree s p (identifier b) x) h
  without_braces_le (tree s p (number b) x) h = root_le (tree s p (number b) x) h
  without_braces_le (tree s p (quoted_string b) x) h = root_le (tree s p (quoted_string b) x) h
  without_braces_le (tree s p (list_of vs cl) x) h = root_le (tree s p (list_of vs cl) x) h
  without_braces_le (tree s p (map_of kvs cl) x) h =
      simp length-append (omega (arith, comments_le 0 p (omega arith), map_le kvs 0 true (omega arith), closing_le 0 (no_key_values kvs) cl (omega arith), suffix_le x))
  without_braces_le (tree s p (variant_of n vs cl) x) h = root_le (tree s p (variant_of n vs cl) x) h

  format_le : (t : TokenTree) → height t ≤ 64 → length (format o t) ≤ 3 + 68 * root_bytes t
  unfolding format
  format_le t h = choice_le o.always_include_outer_braces _ _ (3 + 68 * root_bytes t) (root_le t h) (without_braces_le t h)

-- the layout of an accepted text of n bytes, with the default settings, has at most 68 * (n + 1) bytes
pub layout_length : (s : List ℕ) → is_utf8 s ≡ true → (t : TokenTree) → parse s ≡ parsed t → length (format defaults t) ≤ 68 * suc (length s)
layout_length s formed t e = omega (arith, format_le defaults refl refl refl t (tree_height s formed t e), tree_bytes_lem s formed t e)
