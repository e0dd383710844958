-- The steps of the walk.
use Rattle.std.proofs.Common.{◌≡◌, refl, sym, ap, ◌∙◌, subst, Bool, true, false, ◌&&◌, ◌⊎◌, inl, inr, ⊎_elim, List, [], ◌∷◌, ◌++◌, append_assoc, ℕ, suc, ◌+◌, ◌-◌, ◌≤◌, ◌<◌, arith, add-one, length, eqb, eq-eqb, ne_eqb}
use Rattle.std.proofs.Math.Bool.{and-false}
use Rattle.eon_spec.specs.Tree.{Slice, TokenTree, TokenValue, TokenTrees, KeyValues, tree, identifier, number, quoted_string, list_of, map_of, variant_of, no_trees, ◌∷ᵗ◌, no_pairs, pair}
use Rattle.eon_spec.specs.Layout.{Settings, is_empty, no_values, no_key_values, bare_value, prefix_of, suffix_of, gap, line_ends, closing, indented_value, list_content, map_content, add_indent, indented_comments, suffix_comment, is_sole_container, is_container, shared, shared_tree, shared_first}
use Rattle.eon_format.specs.Lines.{gap_at, lines, closing_lines}
use Rattle.eon_laws.proofs.Facts.{clash}
use Rattle.eon_format.proofs.Records.{lines_comments, closing_comments}
use Rattle.eon_put.proofs.Going.{Going, Appends, put_as, going_step, going_end}
use Rattle.eon_format.specs.Long.{pair_text, Found}
use Rattle.eon_table.specs.Words.{more_at, AfterPrefix, word, Texts}
use Rattle.eon_table.specs.TreeAt.{NextAt, SuffixAt, PairedAt, SomeTree, TreeAt, ValueAt, InsideAt, kind_of, PairAt, SomePair, value_of}
use Rattle.eon_laws.proofs.Records.{tree_size, trees_size, pairs_size}
use Rattle.eon_table.proofs.Walk.{comments_texts, list_values, map_pairs, tree_pos, value_kind, value_not, bare_value_lem, inside_next, inside_tree, inside_in_lem, inside_closing, inside_end, tree_not_closing, tree_head, tree_value, tree_suffix, paired_first, paired_end, more_none, more_tree, no_more, one_more, paired_next, variant_inside}

module _ (s tb : List ℕ) where
  module _ (end i r : ℕ) where
    pub tree_lines : (o : Settings) (n : ℕ) (t : TokenTree) → TreeAt s tb end i t → AfterPrefix tb i r → lines s tb o n i (r - i) ≡ indented_comments o n (prefix_of t)
    unfolding TreeAt
    tree_lines o n (tree sp p v x) h a =
        let e : r ≡ i + length p = tree_head s tb end i r (tree sp p v x) h a in
        let q : r - i ≡ length p = omega arith in
        ap (lines s tb o n i) q ∙ lines_comments s tb o n 7 i p h.0

  pub tree_gap : (o : Settings) (end i : ℕ) (first : Bool) (t : TokenTree) → TreeAt s tb end i t → gap_at o tb first i ≡ gap o first t
  tree_gap o end i true (tree sp p v x) h = refl
  tree_gap o end i false (tree sp [] v x) h = rw (ne_eqb (word tb i 0) 7 (value_not s tb i v (bare_value_lem s tb end i sp v x h)), gap_at)
  tree_gap o end i false (tree sp (c ∷ cs) v x) h = rw (eq-eqb (word tb i 0) 7 (unfold TreeAt in h.0.0.is_kind), gap_at)

-- a pair's value stands where its key ends
pub value_at : {s tb : List ℕ} {end i v : ℕ} {x y : TokenTree} → PairAt s tb end i x y → NextAt tb end i v → TreeAt s tb end v y
value_at {s} {tb} {end} {x = x} {y} h n = subst (λ (k : ℕ). TreeAt s tb end k y) (sym (n s x h.key)) h.val

-- two steps lead behind the pair
pub pair_next : {s tb : List ℕ} {end i v r : ℕ} {x y : TokenTree} → PairAt s tb end i x y → NextAt tb end i v → NextAt tb end v r → r ≡ i + tree_size x + tree_size y
pair_next {s} {x = x} {y} h n m = m s y (value_at h n) ∙ ap (λ (k : ℕ). k + tree_size y) (n s x h.key)

-- a tree's suffix comment stands where `behind` leads
pub suffix_there : (s : List ℕ) {tb : List ℕ} (end : ℕ) {i r b : ℕ} (t : TokenTree) → TreeAt s tb end i t → AfterPrefix tb i r → b ≡ r + word tb r 4 → SuffixAt s tb end b (suffix_of t)
suffix_there s {tb} end {i} {r} t h a e = subst (λ (k : ℕ). SuffixAt s tb end k (suffix_of t)) (sym e) (tree_suffix s tb end i r t h a)

-- ---- items of a list

module _ (s tb : List ℕ) (end : ℕ) where
  -- what a walk through a container's values has done
  pub record Through {A : Type 0} (puts : A → List ℕ → A → Type 0) (from : A) (total : List ℕ) (content : Bool → TokenTrees → List ℕ) (cl : List Slice) (base j : ℕ) (to : A) : Type 0 where
    pub ts : TokenTrees
    pub inside : InsideAt s tb end j ts cl
    pub going : Going puts from total to (content (eqb j base) ts)

  pub inside_texts : (j : ℕ) (cl : List Slice) → InsideAt s tb end j no_trees cl → Texts s tb j end
  inside_texts j cl h = subst (λ (k : ℕ). Texts s tb j k) (sym (inside_end s tb end j cl h)) (comments_texts s tb 9 j cl (inside_closing s tb end j cl h))

module _ {s tb : List ℕ} {end : ℕ} where
  module _ {A : Type 0} (puts : A → List ℕ → A → Type 0) {from : A} {total : List ℕ} {content : Bool → TokenTrees → List ℕ} {cl : List Slice} {base j : ℕ} {to : A} where
    pub through_tree : Through s tb end puts from total content cl base j to → more_at tb end j ≡ true → SomeTree s tb end j
    through_tree h m = go h.ts h.inside
      where
        go : (ts : TokenTrees) → InsideAt s tb end j ts cl → SomeTree s tb end j
        go no_trees a = clash m (more_none s tb end j cl a)
        go (t ∷ᵗ ts) a = (t, inside_tree s tb end j t ts cl a)

    pub through_step : {to' : A} (append : Appends puts) (j' : ℕ) (body : Bool → TokenTree → List ℕ) →
        ((b : Bool) (t : TokenTree) (ts : TokenTrees) → content b (t ∷ᵗ ts) ≡ body b t ++ content false ts) →
        Through s tb end puts from total content cl base j to → more_at tb end j ≡ true → base ≤ j →
        ((t : TokenTree) → TreeAt s tb end j t → puts to (body (eqb j base) t) to') →
        ((t : TokenTree) → TreeAt s tb end j t → j' ≡ j + tree_size t) →
        Through s tb end puts from total content cl base j' to'
    through_step {to'} append j' body law h m l w e = go h.ts h.inside h.going
      where
        go : (ts : TokenTrees) → InsideAt s tb end j ts cl → Going puts from total to (content (eqb j base) ts) → Through s tb end puts from total content cl base j' to'
        go no_trees a g = clash m (more_none s tb end j cl a)
        go (t ∷ᵗ ts) a g =
            let k = inside_tree s tb end j t ts cl a in
            let q : j' ≡ j + tree_size t = e t k in
            let p : 1 ≤ tree_size t = tree_pos t in
            record {
              ts = ts;
              inside = subst (λ (x : ℕ). InsideAt s tb end x ts cl) (sym q) (inside_next s tb end j t ts cl a);
              going = going_step puts append g (law (eqb j base) t ts ∙ ap (λ (x : Bool). body (eqb j base) t ++ content x ts) (sym (ne_eqb j' base (λ z. omega arith)))) (w t k);
            }

    pub through_done : Through s tb end puts from total content cl base j to → more_at tb end j ≡ false → InsideAt s tb end j no_trees cl
    through_done h m = go h.ts h.inside
      where
        go : (ts : TokenTrees) → InsideAt s tb end j ts cl → InsideAt s tb end j no_trees cl
        go no_trees a = a
        go (t ∷ᵗ ts) a = clash (more_tree s tb end j t (inside_tree s tb end j t ts cl a) (inside_in_lem s tb end j t ts cl a)) m

    pub through_end : Through s tb end puts from total content cl base j to → more_at tb end j ≡ false → ((b : Bool) → content b no_trees ≡ []) → puts from total to
    through_end h m e = go h.ts h.inside h.going
      where
        go : (ts : TokenTrees) → InsideAt s tb end j ts cl → Going puts from total to (content (eqb j base) ts) → puts from total to
        go no_trees a g = going_end puts g (e (eqb j base))
        go (t ∷ᵗ ts) a g = clash (more_tree s tb end j t (inside_tree s tb end j t ts cl a) (inside_in_lem s tb end j t ts cl a)) m

  pub through_empty : (base j : ℕ) (vs : TokenTrees) (cl : List Slice) → InsideAt s tb end base vs cl → InsideAt s tb end j no_trees cl → eqb j base ≡ no_values vs
  unfolding trees_size
  through_empty base j no_trees cl h a =
      let p : end ≡ j + length cl = inside_end s tb end j cl a in
      let q : end ≡ base + length cl = inside_end s tb end base cl h in
      eq-eqb j base (omega arith)
  through_empty base j (t ∷ᵗ ts) cl h a =
      let p : end ≡ j + length cl = inside_end s tb end j cl a in
      let q : end ≡ base + (tree_size t + trees_size ts) + length cl = h.all in
      let l : 1 ≤ tree_size t = tree_pos t in
      ne_eqb j base (λ z. omega arith)

  -- the items that were walked, the closing comments, the indentation and the bracket
  pub through_close : {A : Type 0} (puts : A → List ℕ → A → Type 0) (append : Appends puts) {from first to on to' : A} {x total : List ℕ} {content : Bool → TokenTrees → List ℕ} {cl : List Slice} {base j : ℕ} (o : Settings) (n b : ℕ) (vs : TokenTrees) →
      InsideAt s tb end base vs cl → Through s tb end puts first total content cl base j to → more_at tb end j ≡ false → ((b : Bool) → content b no_trees ≡ []) → puts from x first →
      puts to (closing_lines s tb o (n + 1) (eqb j base) j (end - j)) on → puts on (add_indent o n ++ (b ∷ [])) to' →
      puts from (x ++ total ++ closing o (suc n) (no_values vs) cl ++ add_indent o n ++ (b ∷ [])) to'
  through_close puts append {from} {first} {to} {on} {to'} {x} {total} {cl = cl} {base} {j} o n b vs h w m e f v u =
      let d = through_done puts w m in
      let q : end - j ≡ length cl = omega (arith, inside_end s tb end j cl d) in
      put_as puts
      (ap (λ (l : List ℕ). x ++ total ++ (l ++ (add_indent o n ++ (b ∷ []))))
      (ap (closing_lines s tb o (n + 1) (eqb j base) j) q
      ∙ closing_comments s tb o (n + 1) j (eqb j base) cl (inside_closing s tb end j cl d)
      ∙ ap (λ (m : ℕ). closing o m (eqb j base) cl) (add-one n)
      ∙ ap (λ (m : Bool). closing o (suc n) m cl) (through_empty base j vs cl h d))
      ∙ simp append_assoc)
      (append from to to' (x ++ total) _ (append from first to x total f (through_end puts w m e)) (append to on to' _ _ v u))

-- ---- a variant's sole list or map

pub kind_container : (v : TokenValue) → ((kind_of v ≡ 4) ⊎ (kind_of v ≡ 5)) → is_container v ≡ true
kind_container (identifier b) (inl e) = absurd (omega arith)
kind_container (identifier b) (inr e) = absurd (omega arith)
kind_container (number b) (inl e) = absurd (omega arith)
kind_container (number b) (inr e) = absurd (omega arith)
kind_container (quoted_string b) (inl e) = absurd (omega arith)
kind_container (quoted_string b) (inr e) = absurd (omega arith)
kind_container (list_of vs cl) e = refl
kind_container (map_of kvs cl) e = refl
kind_container (variant_of n vs cl) (inl e) = absurd (omega arith)
kind_container (variant_of n vs cl) (inr e) = absurd (omega arith)

pub kind_other : (v : TokenValue) → (kind_of v ≡ 4 → ⊥) → (kind_of v ≡ 5 → ⊥) → is_container v ≡ false
kind_other (identifier b) e f = refl
kind_other (number b) e f = refl
kind_other (quoted_string b) e f = refl
kind_other (list_of vs cl) e f = absurd (e refl)
kind_other (map_of kvs cl) e f = absurd (f refl)
kind_other (variant_of n vs cl) e f = refl

sole_tree : (t : TokenTree) → is_sole_container (t ∷ᵗ no_trees) ≡ is_container (value_of t)
sole_tree (tree sp p v x) = refl

shared_tree_lem : (t : TokenTree) (o : Settings) (n : ℕ) → shared_first o n (t ∷ᵗ no_trees) ≡ shared o n (value_of t)
unfolding shared_first shared_tree
shared_tree_lem (tree sp p v x) o n = refl

module _ (s tb : List ℕ) (end i : ℕ) where
  pub sole_nine : (vs : TokenTrees) (cl : List Slice) → InsideAt s tb end i vs cl → word tb i 0 ≡ 9 → (is_empty cl && is_sole_container vs) ≡ false
  sole_nine no_trees cl h e = and-false (is_empty cl)
  sole_nine (t ∷ᵗ ts) cl h e = absurd (tree_not_closing s tb end i t (inside_tree s tb end i t ts cl h) e)

  pub sole_more : (r : ℕ) (vs : TokenTrees) (cl : List Slice) → InsideAt s tb end i vs cl → ((t : TokenTree) → TreeAt s tb end i t → r ≡ i + tree_size t) → (r ≡ end → ⊥) → (is_empty cl && is_sole_container vs) ≡ false
  unfolding trees_size
  sole_more r no_trees cl h f e = and-false (is_empty cl)
  sole_more r (t ∷ᵗ no_trees) [] h f e =
      let q : r ≡ i + tree_size t = f t (inside_tree s tb end i t no_trees [] h) in
      let z : end ≡ i + (tree_size t + 0) + 0 = h.all in
      absurd (e (omega arith))
  sole_more r (t ∷ᵗ no_trees) (c ∷ cs) h f e = refl
  sole_more r (t ∷ᵗ (u ∷ᵗ us)) cl h f e = and-false (is_empty cl)

  pub sole_other : (c : ℕ) (vs : TokenTrees) (cl : List Slice) → InsideAt s tb end i vs cl → AfterPrefix tb i c → (word tb c 0 ≡ 4 → ⊥) → (word tb c 0 ≡ 5 → ⊥) → (is_empty cl && is_sole_container vs) ≡ false
  sole_other c no_trees cl h a e f = and-false (is_empty cl)
  sole_other c (t ∷ᵗ no_trees) cl h a e f =
      let k : word tb c 0 ≡ kind_of (value_of t) = value_kind s tb c (value_of t) (tree_value s tb end i c t (inside_tree s tb end i t no_trees cl h) a) in
      ap (λ (x : Bool). is_empty cl && x) (sole_tree t ∙ kind_other (value_of t) (λ z. e (k ∙ z)) (λ z. f (k ∙ z))) ∙ and-false (is_empty cl)
  sole_other c (t ∷ᵗ (u ∷ᵗ us)) cl h a e f = and-false (is_empty cl)

  pub sole_found : (r c : ℕ) (vs : TokenTrees) (cl : List Slice) → InsideAt s tb end i vs cl → i < end → ((t : TokenTree) → TreeAt s tb end i t → r ≡ i + tree_size t) → r ≡ end → (word tb i 0 ≡ 9 → ⊥) →
      AfterPrefix tb i c → ((word tb c 0 ≡ 4) ⊎ (word tb c 0 ≡ 5)) → Found s tb i vs cl c
  unfolding trees_size
  sole_found r c no_trees [] h l f e g a k = let z : end ≡ i + 0 = inside_end s tb end i [] h in absurd (omega arith)
  sole_found r c no_trees (x ∷ xs) h l f e g a k = absurd (g (inside_closing s tb end i (x ∷ xs) h).0.is_kind)
  sole_found r c (t ∷ᵗ no_trees) [] h l f e g a k =
      let tv = tree_value s tb end i c t (inside_tree s tb end i t no_trees [] h) a in
      let q : word tb c 0 ≡ kind_of (value_of t) = value_kind s tb c (value_of t) tv in
      let d : is_container (value_of t) ≡ true = kind_container (value_of t) (⊎_elim (λ z. inl (sym q ∙ z)) (λ z. inr (sym q ∙ z)) k) in
      record {
        from = a.from;
        val = value_of t;
        stands = tv;
        container = d;
        only = sole_tree t ∙ d;
        shares = shared_tree_lem t;
      }
  sole_found r c (t ∷ᵗ no_trees) (x ∷ xs) h l f e g a k =
      let q : r ≡ i + tree_size t = f t (inside_tree s tb end i t no_trees (x ∷ xs) h) in
      let z : end ≡ i + (tree_size t + 0) + suc (length xs) = h.all in
      absurd (omega arith)
  sole_found r c (t ∷ᵗ (u ∷ᵗ us)) cl h l f e g a k =
      let q : r ≡ i + tree_size t = f t (inside_tree s tb end i t (u ∷ᵗ us) cl h) in
      let z : end ≡ i + (tree_size t + (tree_size u + trees_size us)) + length cl = h.all in
      let p : 1 ≤ tree_size u = tree_pos u in
      absurd (omega arith)

  pub inside_some : (vs : TokenTrees) (cl : List Slice) → InsideAt s tb end i vs cl → i < end → (word tb i 0 ≡ 9 → ⊥) → SomeTree s tb end i
  inside_some no_trees [] h l g = let z : end ≡ i + 0 = inside_end s tb end i [] h in absurd (omega arith)
  inside_some no_trees (x ∷ xs) h l g = absurd (g (inside_closing s tb end i (x ∷ xs) h).0.is_kind)
  inside_some (t ∷ᵗ ts) cl h l g = (t, inside_tree s tb end i t ts cl h)

pub ends_content : (o : Settings) (b : Bool) → line_ends o b no_trees ≡ []
ends_content o b = refl

pub ends_body : (o : Settings) (b : Bool) (t : TokenTree) (ts : TokenTrees) → line_ends o b (t ∷ᵗ ts) ≡ (gap o b t ++ o.newline) ++ line_ends o false ts
ends_body o b t ts = refl

-- ---- items of a map

module _ (s tb : List ℕ) (end : ℕ) where
  -- what a walk through a map's pairs has done
  pub record Paired {A : Type 0} (puts : A → List ℕ → A → Type 0) (from : A) (total : List ℕ) (content : Bool → KeyValues → List ℕ) (cl : List Slice) (base j : ℕ) (to : A) : Type 0 where
    pub ts : KeyValues
    pub inside : PairedAt s tb end j ts cl
    pub going : Going puts from total to (content (eqb j base) ts)

module _ {s tb : List ℕ} {end : ℕ} where
  module _ {A : Type 0} (puts : A → List ℕ → A → Type 0) {from : A} {total : List ℕ} {content : Bool → KeyValues → List ℕ} {cl : List Slice} {base j : ℕ} {to : A} where
    pub paired_pair : Paired s tb end puts from total content cl base j to → more_at tb end j ≡ true → SomePair s tb end j
    paired_pair h m = go h.ts h.inside
      where
        go : (ts : KeyValues) → PairedAt s tb end j ts cl → SomePair s tb end j
        go no_pairs a = clash m (no_more s tb end j cl a)
        go (pair k v ts) a = (k, v, paired_first s tb end j k v ts cl a)

    pub paired_step : {to' : A} (append : Appends puts) (j' : ℕ) (body : Bool → TokenTree → TokenTree → List ℕ) →
        ((b : Bool) (k v : TokenTree) (ts : KeyValues) → content b (pair k v ts) ≡ body b k v ++ content false ts) →
        Paired s tb end puts from total content cl base j to → more_at tb end j ≡ true → base ≤ j →
        ((k v : TokenTree) → PairAt s tb end j k v → puts to (body (eqb j base) k v) to') →
        ((k v : TokenTree) → PairAt s tb end j k v → j' ≡ j + tree_size k + tree_size v) →
        Paired s tb end puts from total content cl base j' to'
    paired_step {to'} append j' body law h m l w e = go h.ts h.inside h.going
      where
        go : (ts : KeyValues) → PairedAt s tb end j ts cl → Going puts from total to (content (eqb j base) ts) → Paired s tb end puts from total content cl base j' to'
        go no_pairs a g = clash m (no_more s tb end j cl a)
        go (pair x y ts) a g =
            let k = paired_first s tb end j x y ts cl a in
            let q : j' ≡ j + tree_size x + tree_size y = e x y k in
            let p : 1 ≤ tree_size x = tree_pos x in
            record {
              ts = ts;
              inside = subst (λ (z : ℕ). PairedAt s tb end z ts cl) (sym q) (paired_next s tb end j x y ts cl a);
              going = going_step puts append g (law (eqb j base) x y ts ∙ ap (λ (z : Bool). body (eqb j base) x y ++ content z ts) (sym (ne_eqb j' base (λ z. omega arith)))) (w x y k);
            }

    pub paired_done : Paired s tb end puts from total content cl base j to → more_at tb end j ≡ false → PairedAt s tb end j no_pairs cl
    paired_done h m = go h.ts h.inside
      where
        go : (ts : KeyValues) → PairedAt s tb end j ts cl → PairedAt s tb end j no_pairs cl
        go no_pairs a = a
        go (pair x y ts) a = clash (one_more s tb end j x y ts cl a) m

    pub paired_all : Paired s tb end puts from total content cl base j to → more_at tb end j ≡ false → ((b : Bool) → content b no_pairs ≡ []) → puts from total to
    paired_all h m e = go h.ts h.inside h.going
      where
        go : (ts : KeyValues) → PairedAt s tb end j ts cl → Going puts from total to (content (eqb j base) ts) → puts from total to
        go no_pairs a g = going_end puts g (e (eqb j base))
        go (pair x y ts) a g = clash (one_more s tb end j x y ts cl a) m

  pub paired_empty : (base j : ℕ) (vs : KeyValues) (cl : List Slice) → PairedAt s tb end base vs cl → PairedAt s tb end j no_pairs cl → eqb j base ≡ no_key_values vs
  unfolding pairs_size
  paired_empty base j no_pairs cl h a =
      let p : end ≡ j + length cl = paired_end s tb end j cl a in
      let q : end ≡ base + length cl = paired_end s tb end base cl h in
      eq-eqb j base (omega arith)
  paired_empty base j (pair x y ts) cl h a =
      let p : end ≡ j + length cl = paired_end s tb end j cl a in
      let q : end ≡ base + (tree_size x + (tree_size y + pairs_size ts)) + length cl = h.all in
      let l : 1 ≤ tree_size x = tree_pos x in
      ne_eqb j base (λ z. omega arith)

-- ---- the contents

pub list_content_lem : (o : Settings) (n : ℕ) (b : Bool) → list_content o n b no_trees ≡ []
unfolding list_content
list_content_lem o n b = refl

pub list_body : (o : Settings) (n : ℕ) (b : Bool) (t : TokenTree) (ts : TokenTrees) → list_content o n b (t ∷ᵗ ts) ≡ (gap o b t ++ indented_value o n t ++ o.newline) ++ list_content o n false ts
unfolding list_content
list_body o n b t ts = refl

pub map_content_lem : (o : Settings) (n : ℕ) (b : Bool) → map_content o n b no_pairs ≡ []
unfolding map_content
map_content_lem o n b = refl

regroup : (g a b c d e f h l r : List ℕ) → g ++ a ++ b ++ c ++ d ++ e ++ f ++ h ++ l ++ r ≡ (g ++ (a ++ b ++ c ++ d ++ e ++ f ++ h) ++ l) ++ r
regroup g a b c d e f h l r = simp append_assoc

pub map_body : (o : Settings) (n : ℕ) (b : Bool) (k v : TokenTree) (ts : KeyValues) → map_content o n b (pair k v ts) ≡ (gap o b k ++ pair_text o n k v ++ o.newline) ++ map_content o n false ts
unfolding map_content
map_body o n b k v ts =
    regroup (gap o b k) (indented_comments o n (prefix_of k)) (indented_comments o n (prefix_of v)) (add_indent o n) (bare_value o n k) o.key_value_separator (bare_value o n v) (suffix_comment o (suffix_of v)) o.newline (map_content o n false ts)

-- ---- a container's records end where `behind` leads

module _ (s tb : List ℕ) (i end : ℕ) (e : end ≡ i + word tb i 4) where
  pub variant_to : (vs : TokenTrees) (cl : List Slice) → InsideAt s tb (i + word tb i 4) (i + 1) vs cl → InsideAt s tb end (i + 1) vs cl
  variant_to vs cl h = subst (λ (x : ℕ). InsideAt s tb x (i + 1) vs cl) (sym e) h

  pub list_to : (vs : TokenTrees) (cl : List Slice) → ValueAt s tb i (list_of vs cl) → InsideAt s tb end (i + 1) vs cl
  list_to vs cl h = variant_to vs cl (list_values s tb i (word tb i 4) refl vs cl h)

  pub map_to : (kvs : KeyValues) (cl : List Slice) → ValueAt s tb i (map_of kvs cl) → PairedAt s tb end (i + 1) kvs cl
  map_to kvs cl h = subst (λ (x : ℕ). PairedAt s tb x (i + 1) kvs cl) (sym e) (map_pairs s tb i (word tb i 4) refl kvs cl h)

-- its values and closing comments, up to where `behind` leads
pub variant_at : (s tb : List ℕ) (i end : ℕ) → end ≡ i + word tb i 4 → (m : Slice) (vs : TokenTrees) (cl : List Slice) → ValueAt s tb i (variant_of m vs cl) → InsideAt s tb end (i + 1) vs cl
variant_at s tb i end e m vs cl h = variant_to _ _ _ _ e vs cl (variant_inside _ _ _ m vs cl h)
