-- The layout of a tree without comments is its pieces in a row.
use Rattle.std.proofs.Common.{◌≡◌, ℕ, zero, suc, Bool, true, false, ◌&&◌, List, [], ◌∷◌, ◌++◌, None, sym, refl, ap, ◌∙◌, append_assoc, append-nil}
use Rattle.eon_laws.proofs.Facts.{clash}
use Rattle.eon_spec.specs.Tree.{Span, Slice, TokenTree, TokenValue, TokenTrees, KeyValues, tree, list_of, map_of, variant_of, ◌∷ᵗ◌, no_pairs, pair}
use Rattle.eon_spec.specs.Layout.{defaults, no_values, no_key_values, count_trees, simple_value, is_simple, is_number, is_number_tree, value_width, all_trees, sum_widths, values_on_one_line, on_one_line, is_sole_container, add_indent, gap, value, one_line, list_content, map_content, shared_first, shared, format}
use Rattle.eon_round_trip.proofs.Plain.{Value, Values, Pairs, listᵛ, mapᵛ, variantᵛ, noneᵛ, ◌∷ᵛ◌, noneᵖ, pairᵖ, IsValue, is_identifier, is_number_lem, is_string, is_list, is_map, is_variant, AreValues, are_none, are_more, ArePairs, are_no_pairs, are_more_pairs, IsTree, is_tree, emptyᵛ, emptyᵖ, simple, is_numberᵛ, width, every, countᵛ, widths, one_lineᵛ, variant_fits, sole_container, fits_sole}
use Rattle.eon_round_trip.proofs.Pieces.{Piece, blank, word, flatten, string_kind, tabs, line_end, opening, closing, opening_brace, closing_brace, opening_paren, closing_paren, colon, value_p, one_line_p, more_p, lines_p, pairs_p, inside_p, sole_p, shared_p, root_p}
use Rattle.eon_round_trip.proofs.Ready.{Ready, AllReady, PairsReady, RootReady}

-- the rule for one line
empty_same : {ts : TokenTrees} {vs : Values} → AreValues ts vs → no_values ts && true ≡ emptyᵛ vs
empty_same are_none = refl
empty_same (are_more i r) = refl

no_pairs_same : {kvs : KeyValues} {ps : Pairs} → ArePairs kvs ps → no_key_values kvs && true ≡ emptyᵖ ps
no_pairs_same are_no_pairs = refl
no_pairs_same (are_more_pairs i j r) = refl

simple_same : {v : TokenValue} {w : Value} → IsValue v w → simple_value v ≡ simple w
simple_same is_identifier = refl
simple_same is_number_lem = refl
simple_same is_string = refl
simple_same (is_list r) = empty_same r
simple_same (is_map r) = no_pairs_same r
simple_same (is_variant p r) = empty_same r

number_same : {v : TokenValue} {w : Value} → IsValue v w → is_number v ≡ is_numberᵛ w
number_same is_identifier = refl
number_same is_number_lem = refl
number_same is_string = refl
number_same (is_list r) = refl
number_same (is_map r) = refl
number_same (is_variant p r) = refl

width_same : {v : TokenValue} {w : Value} → IsValue v w → value_width v ≡ width w
width_same is_identifier = refl
width_same is_number_lem = refl
width_same is_string = refl
width_same (is_list r) = refl
width_same (is_map r) = refl
width_same (is_variant p r) = refl

all_simple : {ts : TokenTrees} {vs : Values} → AreValues ts vs → all_trees is_simple ts ≡ every simple vs
all_simple are_none = refl
all_simple (are_more i r) = rw (simple_same i, all_simple r)

all_numbers : {ts : TokenTrees} {vs : Values} → AreValues ts vs → all_trees is_number_tree ts ≡ every is_numberᵛ vs
all_numbers are_none = refl
all_numbers (are_more i r) = rw (number_same i, all_numbers r)

count_trees_same : {ts : TokenTrees} {vs : Values} → AreValues ts vs → count_trees ts ≡ countᵛ vs
count_trees_same are_none = refl
count_trees_same (are_more i r) = ap suc (count_trees_same r)

widths_same : {ts : TokenTrees} {vs : Values} → AreValues ts vs → sum_widths ts ≡ widths vs
widths_same are_none = refl
widths_same (are_more i r) = rw (width_same i, widths_same r)

pub one_line_same : {ts : TokenTrees} {vs : Values} → AreValues ts vs → values_on_one_line ts ≡ one_lineᵛ vs
unfolding values_on_one_line one_lineᵛ
one_line_same r = rw (all_simple r, count_trees_same r, all_numbers r, widths_same r)

pub sole_equal : {ts : TokenTrees} {vs : Values} → AreValues ts vs → is_sole_container ts ≡ sole_container vs
sole_equal are_none = refl
sole_equal (are_more is_identifier are_none) = refl
sole_equal (are_more is_number_lem are_none) = refl
sole_equal (are_more is_string are_none) = refl
sole_equal (are_more (is_list r) are_none) = refl
sole_equal (are_more (is_map r) are_none) = refl
sole_equal (are_more (is_variant p r) are_none) = refl
sole_equal (are_more i (are_more j r)) = refl

tabs_text : (n : ℕ) (k : List Piece) → flatten (tabs n k) ≡ add_indent defaults n ++ flatten k
tabs_text zero k = refl
tabs_text (suc n) k = ap (λ s. 9 ∷ s) (tabs_text n k)

gap_none : (first : Bool) (s : Span) (v : TokenValue) → gap defaults first (tree s [] v None) ≡ []
gap_none true s v = refl
gap_none false s v = refl

-- the layout of a container, case by case
module _ (n : ℕ) (ts : TokenTrees) (e : no_values ts ≡ false) where
  list_one : values_on_one_line ts ≡ true → value defaults n (list_of ts []) ≡ 91 ∷ one_line defaults n ts ++ (93 ∷ [])
  unfolding value on_one_line
  list_one f = rw (e, value, f)

  list_lines : values_on_one_line ts ≡ false → value defaults n (list_of ts []) ≡ 91 ∷ 10 ∷ list_content defaults (suc n) true ts ++ add_indent defaults n ++ (93 ∷ [])
  unfolding value on_one_line
  list_lines f = rw (e, value, f) (ap (λ (x : List ℕ). 91 ∷ 10 ∷ x ++ add_indent defaults n ++ (93 ∷ [])) (append-nil (list_content defaults (suc n) true ts)))

  shared_list : shared defaults n (list_of ts []) ≡ 91 ∷ 10 ∷ list_content defaults (suc n) true ts ++ add_indent defaults n ++ (93 ∷ [])
  unfolding shared
  shared_list = rw (e, shared) (ap (λ (x : List ℕ). 91 ∷ 10 ∷ x ++ add_indent defaults n ++ (93 ∷ [])) (append-nil (list_content defaults (suc n) true ts)))

  variant_one : (name : Slice) → values_on_one_line ts ≡ true → value defaults n (variant_of name ts []) ≡ name.bytes ++ (40 ∷ one_line defaults n ts ++ (41 ∷ []))
  unfolding value on_one_line
  variant_one name f = rw (e, value, f)

  variant_shared : (name : Slice) → values_on_one_line ts ≡ false → is_sole_container ts ≡ true → value defaults n (variant_of name ts []) ≡ name.bytes ++ (40 ∷ shared_first defaults n ts ++ (41 ∷ []))
  unfolding value on_one_line
  variant_shared name f g = rw (e, value, f, g)

module _ (n : ℕ) (kvs : KeyValues) (e : no_key_values kvs ≡ false) where
  map_lines : value defaults n (map_of kvs []) ≡ 123 ∷ 10 ∷ map_content defaults (suc n) true kvs ++ add_indent defaults n ++ (125 ∷ [])
  unfolding value
  map_lines = rw (e, value) (ap (λ (x : List ℕ). 123 ∷ 10 ∷ x ++ add_indent defaults n ++ (125 ∷ [])) (append-nil (map_content defaults (suc n) true kvs)))

  shared_map : shared defaults n (map_of kvs []) ≡ 123 ∷ 10 ∷ map_content defaults (suc n) true kvs ++ add_indent defaults n ++ (125 ∷ [])
  unfolding shared
  shared_map = rw (e, shared) (ap (λ (x : List ℕ). 123 ∷ 10 ∷ x ++ add_indent defaults n ++ (125 ∷ [])) (append-nil (map_content defaults (suc n) true kvs)))

-- the pieces, case by case
module _ (n : ℕ) (vs : Values) (k : List Piece) where
  pieces_one : one_lineᵛ vs ≡ true → value_p n (listᵛ vs) k ≡ opening ∷ one_line_p n vs (closing ∷ k)
  unfolding value_p
  pieces_one e = rw (e, value_p)

  pieces_lines : one_lineᵛ vs ≡ false → value_p n (listᵛ vs) k ≡ opening ∷ line_end ∷ lines_p (suc n) vs (tabs n (closing ∷ k))
  unfolding value_p
  pieces_lines e = rw (e, value_p)

  pieces_variant : (b : List ℕ) → one_lineᵛ vs ≡ true → value_p n (variantᵛ b vs) k ≡ word (string_kind b) b ∷ opening_paren ∷ one_line_p n vs (closing_paren ∷ k)
  unfolding value_p
  pieces_variant b e = rw (e, value_p)

  pieces_sole : (b : List ℕ) → one_lineᵛ vs ≡ false → value_p n (variantᵛ b vs) k ≡ word (string_kind b) b ∷ opening_paren ∷ sole_p n vs (closing_paren ∷ k)
  unfolding value_p
  pieces_sole b e = rw (e, value_p)

-- what the two say, piece by piece
abbrev ValueText : Value → TokenValue → Type 0
ValueText w v = (n : ℕ) (k : List Piece) → flatten (value_p n w k) ≡ value defaults n v ++ flatten k

abbrev OneText : Values → TokenTrees → Type 0
OneText vs ts = (n : ℕ) (k : List Piece) → flatten (one_line_p n vs k) ≡ one_line defaults n ts ++ flatten k

abbrev LinesText : Values → TokenTrees → Type 0
LinesText vs ts = (n : ℕ) (first : Bool) (k : List Piece) → flatten (lines_p n vs k) ≡ list_content defaults n first ts ++ flatten k

list_some : (ts : TokenTrees) (vs : Values) → no_values ts ≡ false → values_on_one_line ts ≡ one_lineᵛ vs → OneText vs ts → LinesText vs ts → ValueText (listᵛ vs) (list_of ts [])
list_some ts vs e f one lines n k = go (one_lineᵛ vs) refl
  where
    go : (b : Bool) → one_lineᵛ vs ≡ b → flatten (value_p n (listᵛ vs) k) ≡ value defaults n (list_of ts []) ++ flatten k
    go true g = rw (pieces_one n vs k g, list_one n ts e (f ∙ g), one n (closing ∷ k)) (simp append_assoc)
    go false g = rw (pieces_lines n vs k g, list_lines n ts e (f ∙ g), lines (suc n) true (tabs n (closing ∷ k)), tabs_text n (closing ∷ k)) (simp append_assoc)

list_text : {ts : TokenTrees} {vs : Values} → AreValues ts vs → OneText vs ts → LinesText vs ts → ValueText (listᵛ vs) (list_of ts [])
unfolding value_p value one_lineᵛ
list_text are_none one lines n k = refl
list_text (are_more {s = s} {v = v} {w = w} {ts = ts} {vs = vs} i r) one lines n k = list_some (tree s [] v None ∷ᵗ ts) (w ∷ᵛ vs) refl (one_line_same (are_more i r)) one lines n k

abbrev PairsText : Pairs → KeyValues → Type 0
PairsText ps kvs = (n : ℕ) (first : Bool) (k : List Piece) → flatten (pairs_p n ps k) ≡ map_content defaults n first kvs ++ flatten k

map_none : (n : ℕ) → value defaults n (map_of no_pairs []) ≡ 123 ∷ 125 ∷ []
unfolding value
map_none n = refl

-- the inside of braces is a line end and the pairs, unless there is none
inside_some : (x y : Value) (ps : Pairs) (n : ℕ) (k : List Piece) → inside_p n (pairᵖ x y ps) k ≡ line_end ∷ pairs_p (suc n) (pairᵖ x y ps) (tabs n k)
unfolding inside_p
inside_some x y ps n k = refl

braces : (x : List ℕ) (n : ℕ) (f : List ℕ) → 123 ∷ 10 ∷ (x ++ (add_indent defaults n ++ 125 ∷ f)) ≡ 123 ∷ 10 ∷ x ++ add_indent defaults n ++ (125 ∷ []) ++ f
braces x n f = simp append_assoc

map_some : (x y : Value) (ps : Pairs) (kvs : KeyValues) → PairsText (pairᵖ x y ps) kvs → (n : ℕ) (k : List Piece)
    → flatten (opening_brace ∷ inside_p n (pairᵖ x y ps) (closing_brace ∷ k)) ≡ 123 ∷ 10 ∷ map_content defaults (suc n) true kvs ++ add_indent defaults n ++ (125 ∷ []) ++ flatten k
map_some x y ps kvs text n k =
    rw (inside_some x y ps n (closing_brace ∷ k), text (suc n) true (tabs n (closing_brace ∷ k)), tabs_text n (closing_brace ∷ k)) (braces (map_content defaults (suc n) true kvs) n (flatten k))

map_text : {kvs : KeyValues} {ps : Pairs} → ArePairs kvs ps → PairsText ps kvs → ValueText (mapᵛ ps) (map_of kvs [])
unfolding value_p
map_text are_no_pairs text n k = ap (λ (z : List ℕ). z ++ flatten k) (sym (map_none n))
map_text (are_more_pairs {s = s} {t = t} {k = u} {v = v} {x = x} {y = y} {kvs = kvs} {ps = ps} i j r) text n k =
    map_some x y ps (pair (tree s [] u None) (tree t [] v None) kvs) text n k ∙ ap (λ (z : List ℕ). z ++ flatten k) (sym (map_lines n (pair (tree s [] u None) (tree t [] v None) kvs) refl))

-- a variant that fits
some_values : {ts : TokenTrees} {vs : Values} → AreValues ts vs → variant_fits vs ≡ true → no_values ts ≡ false
some_values are_none e = sym e
some_values (are_more i r) e = refl

variant_text : {ts : TokenTrees} {vs : Values} (name : Slice) (b : List ℕ) → name.bytes ≡ b → AreValues ts vs → variant_fits vs ≡ true → OneText vs ts
    → (one_lineᵛ vs ≡ false → sole_container vs ≡ true → (n : ℕ) (k : List Piece) → flatten (sole_p n vs k) ≡ shared_first defaults n ts ++ flatten k)
    → ValueText (variantᵛ b vs) (variant_of name ts [])
variant_text {ts} {vs} name x p r fit one sole n k = rw (← p) (go (one_lineᵛ vs) refl)
  where
    go : (b : Bool) → one_lineᵛ vs ≡ b → flatten (value_p n (variantᵛ name.bytes vs) k) ≡ value defaults n (variant_of name ts []) ++ flatten k
    go true g = rw (pieces_variant n vs k name.bytes g, variant_one n ts (some_values r fit) name (one_line_same r ∙ g), one n (closing_paren ∷ k)) (simp append_assoc)
    go false g =
        let h = fits_sole vs fit g in
        rw (pieces_sole n vs k name.bytes g, variant_shared n ts (some_values r fit) name (one_line_same r ∙ g) (sole_equal r ∙ h), sole g h n (closing_paren ∷ k)) (simp append_assoc)

-- its one list or map is not empty, and goes on lines
one_line_empty : true ≡ one_lineᵛ (listᵛ noneᵛ ∷ᵛ noneᵛ)
unfolding one_lineᵛ
one_line_empty = refl

one_line_no_pairs : true ≡ one_lineᵛ (mapᵛ noneᵖ ∷ᵛ noneᵛ)
unfolding one_lineᵛ
one_line_no_pairs = refl

shared_list_text : {ts : TokenTrees} {vs : Values} → AreValues ts vs → one_lineᵛ (listᵛ vs ∷ᵛ noneᵛ) ≡ false → LinesText vs ts → (n : ℕ) (k : List Piece)
    → flatten (opening ∷ line_end ∷ lines_p (suc n) vs (tabs n (closing ∷ k))) ≡ shared defaults n (list_of ts []) ++ flatten k
shared_list_text are_none e lines n k = clash (sym one_line_empty) e
shared_list_text (are_more {s = s} {v = v} {w = w} {ts = ts} {vs = vs} i r) e lines n k =
    rw (lines (suc n) true (tabs n (closing ∷ k)), tabs_text n (closing ∷ k), shared_list n (tree s [] v None ∷ᵗ ts) refl) (simp append_assoc)

shared_map_text : {kvs : KeyValues} {ps : Pairs} → ArePairs kvs ps → one_lineᵛ (mapᵛ ps ∷ᵛ noneᵛ) ≡ false → PairsText ps kvs → (n : ℕ) (k : List Piece)
    → flatten (opening_brace ∷ inside_p n ps (closing_brace ∷ k)) ≡ shared defaults n (map_of kvs []) ++ flatten k
shared_map_text are_no_pairs e text n k = clash (sym one_line_no_pairs) e
shared_map_text (are_more_pairs {s = s} {t = t} {k = u} {v = v} {x = x} {y = y} {kvs = kvs} {ps = ps} i j r) e text n k =
    map_some x y ps (pair (tree s [] u None) (tree t [] v None) kvs) text n k ∙ ap (λ (z : List ℕ). z ++ flatten k) (sym (shared_map n (pair (tree s [] u None) (tree t [] v None) kvs) refl))

-- what stands behind the first of the values on one line
abbrev tail_text : ℕ → TokenTrees → List ℕ
tail_text n ts = elim (no_values ts) [ true ↦ [] | false ↦ (44 ∷ 32 ∷ []) ++ one_line defaults n ts ]

line_algebra : (g i v l f : List ℕ) → g ≡ [] → i ++ (v ++ 10 ∷ (l ++ f)) ≡ g ++ ([] ++ i ++ v ++ []) ++ (10 ∷ []) ++ l ++ f
line_algebra g i v l f e = rw e (simp (append_assoc, append-nil))

pair_algebra : (g i u v l f : List ℕ) → g ≡ [] → i ++ (u ++ 58 ∷ 32 ∷ (v ++ 10 ∷ (l ++ f))) ≡ g ++ [] ++ [] ++ i ++ u ++ (58 ∷ 32 ∷ []) ++ v ++ [] ++ (10 ∷ []) ++ l ++ f
pair_algebra g i u v l f e = rw e (simp append_assoc)

mutual
  unfolding value_p value

  value_text : {v : TokenValue} {w : Value} → IsValue v w → (m : ℕ) → Ready m w → (n : ℕ) (k : List Piece) → flatten (value_p n w k) ≡ value defaults n v ++ flatten k
  value_text is_identifier m r n k = refl
  value_text is_number_lem m r n k = refl
  value_text is_string m r n k = refl
  value_text (is_list a) m r n k = list_text a (λ n k. one_text a m r n k) (λ n first k. lines_text a m r n first k) n k
  value_text (is_map a) m r n k = map_text a (λ n first k. pairs_text a m r n first k) n k
  value_text (is_variant {n = name} p a) m r n k = variant_text name _ p a r.1 (λ n k. one_text a m r.2 n k) (λ e f n k. sole_text a m r.2 e f n k) n k

  one_text : {ts : TokenTrees} {vs : Values} → AreValues ts vs → (m : ℕ) → AllReady m vs → (n : ℕ) (k : List Piece) → flatten (one_line_p n vs k) ≡ one_line defaults n ts ++ flatten k
  one_text are_none m r n k = refl
  one_text (are_more i a) zero r n k = absurd r
  one_text (are_more {v = v} {w = w} {ts = ts} {vs = vs} i a) (suc m) r n k =
      value_text i m r.0 n (more_p n vs k) ∙ ap (λ (x : List ℕ). value defaults n v ++ x) (more_text a (suc m) r.1 n k) ∙ sym (append_assoc (value defaults n v) (tail_text n ts) (flatten k))

  more_text : {ts : TokenTrees} {vs : Values} → AreValues ts vs → (m : ℕ) → AllReady m vs → (n : ℕ) (k : List Piece) → flatten (more_p n vs k) ≡ tail_text n ts ++ flatten k
  more_text are_none m r n k = refl
  more_text (are_more i a) zero r n k = absurd r
  more_text (are_more {v = v} {w = w} {ts = ts} {vs = vs} i a) (suc m) r n k =
      ap (λ (x : List ℕ). 44 ∷ 32 ∷ x)
      (value_text i m r.0 n (more_p n vs k) ∙ ap (λ (x : List ℕ). value defaults n v ++ x) (more_text a (suc m) r.1 n k) ∙ sym (append_assoc (value defaults n v) (tail_text n ts) (flatten k)))

  lines_text : {ts : TokenTrees} {vs : Values} → AreValues ts vs → (m : ℕ) → AllReady m vs → (n : ℕ) (first : Bool) (k : List Piece) → flatten (lines_p n vs k) ≡ list_content defaults n first ts ++ flatten k
  lines_text are_none m r n first k = refl
  lines_text (are_more i a) zero r n first k = absurd r
  lines_text (are_more {s = s} {v = v} {w = w} {ts = ts} {vs = vs} i a) (suc m) r n first k =
      tabs_text n (value_p n w (line_end ∷ lines_p n vs k))
      ∙ ap (λ (x : List ℕ). add_indent defaults n ++ x) (value_text i m r.0 n (line_end ∷ lines_p n vs k) ∙ ap (λ (x : List ℕ). value defaults n v ++ 10 ∷ x) (lines_text a (suc m) r.1 n false k))
      ∙ line_algebra (gap defaults first (tree s [] v None)) (add_indent defaults n) (value defaults n v) (list_content defaults n false ts) (flatten k) (gap_none first s v)

  pairs_text : {kvs : KeyValues} {ps : Pairs} → ArePairs kvs ps → (m : ℕ) → PairsReady m ps → (n : ℕ) (first : Bool) (k : List Piece) → flatten (pairs_p n ps k) ≡ map_content defaults n first kvs ++ flatten k
  pairs_text are_no_pairs m r n first k = refl
  pairs_text (are_more_pairs i j a) zero r n first k = absurd r
  pairs_text (are_more_pairs {s = s} {k = u} {v = v} {x = x} {y = y} {kvs = kvs} {ps = ps} i j a) (suc m) r n first k =
      tabs_text n (value_p n x (colon ∷ blank 32 ∷ value_p n y (line_end ∷ pairs_p n ps k)))
      ∙ ap (λ (z : List ℕ). add_indent defaults n ++ z)
      (value_text i m r.0 n (colon ∷ blank 32 ∷ value_p n y (line_end ∷ pairs_p n ps k))
      ∙ ap (λ (z : List ℕ). value defaults n u ++ 58 ∷ 32 ∷ z) (value_text j m r.1 n (line_end ∷ pairs_p n ps k) ∙ ap (λ (z : List ℕ). value defaults n v ++ 10 ∷ z) (pairs_text a (suc m) r.2 n false k)))
      ∙ pair_algebra (gap defaults first (tree s [] u None)) (add_indent defaults n) (value defaults n u) (value defaults n v) (map_content defaults n false kvs) (flatten k) (gap_none first s u)

  sole_text : {ts : TokenTrees} {vs : Values} → AreValues ts vs → (m : ℕ) → AllReady m vs → one_lineᵛ vs ≡ false → sole_container vs ≡ true → (n : ℕ) (k : List Piece) → flatten (sole_p n vs k) ≡ shared_first defaults n ts ++ flatten k
  sole_text are_none m r e f n k = refl
  sole_text (are_more i (are_more j a)) m r e f n k = clash f refl
  sole_text (are_more i are_none) zero r e f n k = absurd r
  sole_text (are_more i are_none) (suc m) r e f n k = shared_text i m r.0 e n k

  shared_text : {v : TokenValue} {w : Value} → IsValue v w → (m : ℕ) → Ready m w → one_lineᵛ (w ∷ᵛ noneᵛ) ≡ false → (n : ℕ) (k : List Piece) → flatten (shared_p n w k) ≡ shared defaults n v ++ flatten k
  shared_text is_identifier m r e n k = refl
  shared_text is_number_lem m r e n k = refl
  shared_text is_string m r e n k = refl
  shared_text (is_list a) m r e n k = shared_list_text a e (λ n first k. lines_text a m r n first k) n k
  shared_text (is_map a) m r e n k = shared_map_text a e (λ n first k. pairs_text a m r n first k) n k
  shared_text (is_variant p a) m r e n k = refl

pub format_text : {t : TokenTree} {w : Value} → IsTree t w → RootReady w → format defaults t ≡ flatten (root_p w)
unfolding format value
format_text (is_tree is_identifier) r = sym (value_text is_identifier 63 r 0 [])
format_text (is_tree is_number_lem) r = sym (value_text is_number_lem 63 r 0 [])
format_text (is_tree is_string) r = sym (value_text is_string 63 r 0 [])
format_text (is_tree (is_list a)) r = sym (value_text (is_list a) 63 r 0 [])
format_text (is_tree (is_map {kvs = kvs} a)) r = append-nil (map_content defaults 0 true kvs ++ []) ∙ sym (pairs_text a 64 r 0 true [])
format_text (is_tree (is_variant {n = q} p a)) r = sym (value_text (is_variant {n = q} p a) 63 r 0 [])
