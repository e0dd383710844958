-- A finished table holds its tree, and its records are the tree's.
use Rattle.std.proofs.lemmas.List.{get_or_at}
use Rattle.std.proofs.Common.{◌≡◌, ℕ, suc, ◌+◌, ◌-◌, ◌<◌, ◌≤◌, Bool, true, false, ◌&&◌, eqb, ltb, List, [], ◌∷◌, ◌++◌, length, get_or, take, Some, None, Option, sym, refl, ap, ◌∙◌, subst, append_assoc, add-zero, add-one, arith, length-append, length-take, le-ltb, lt-ltb, eq-eqb, ne_eqb}
use Rattle.eon_spec.specs.Tree.{Span, Slice, TokenTree, TokenValue, TokenTrees, KeyValues, tree, identifier, number, quoted_string, list_of, map_of, variant_of, no_trees, ◌∷ᵗ◌, no_pairs, pair}
use Rattle.eon_spec.specs.Refused.{Refusal}
use Rattle.eon_spec.specs.Records.{Record, record_at, leaf, comments, suffix, tree_records, value_records, trees_records, pairs_records, words}
use Rattle.eon_spec.specs.Calls.{Outcome, done, refused_with, nowhere, read_text, then, is_finished, read_finished}
use Rattle.std.proofs.lemmas.Bool.{and_right}
use Rattle.eon_laws.proofs.Numbers.{read_done}
use Rattle.eon_laws.proofs.Facts.{list_eq}
use Rattle.eon_laws.proofs.Places.{Holds}
use Rattle.eon_laws.proofs.Spans.{HoldsAll, HoldsSuffix, TreeFits, ValueFits, TreesFit, PairsFit, tree_fits}
use Rattle.eon_laws.proofs.Records.{words_length, suffix_size, tree_size, value_size, trees_size, pairs_size, comments_length, tree_size_lem, value_size_lem, trees_size_lem, pairs_size_lem}
use Rattle.eon_table.specs.Words.{word, record_of, records_of, part, has_suffix, Within, text_at}
use Rattle.eon_table.specs.TreeAt.{SuffixAt, LeafAt, CommentsAt, TreeAt, ValueAt, TreesAt, PairsAt}
use Rattle.eon_table.specs.Finished.{Finished, SomeFinished}
use Rattle.eon_table.proofs.Table.{records_front, records_split, records_length, records_first}

-- ---- the records of a list stand from a record on

record RecordAt (tb : List ℕ) (i : ℕ) (r : Record) : Type 0 where
  kind : word tb i 0 ≡ r.kind
  start : word tb i 1 ≡ r.start
  text_end : word tb i 2 ≡ r.text_end
  size : word tb i 4 ≡ r.size

abbrev RecordsAt : List ℕ → ℕ → List Record → Type 0
RecordsAt tb i [] = Unit {0}
RecordsAt tb i (r ∷ rs) = RecordAt tb i r × RecordsAt tb (i + 1) rs

records_at : (tb : List ℕ) (i : ℕ) (rs : List Record) → records_of tb i (length rs) ≡ rs → RecordsAt tb i rs
unfolding records_of
records_at tb i [] e = tt
records_at tb i (r ∷ rs) e =
    let p : record_of tb i ≡ r = cc in
    let q : records_of tb (suc i) (length rs) ≡ rs = cc in
    (record { kind = ap (λ (x : Record). x.kind) p; start = ap (λ (x : Record). x.start) p; text_end = ap (λ (x : Record). x.text_end) p; size = ap (λ (x : Record). x.size) p }, records_at tb (i + 1) rs (ap (λ (n : ℕ). records_of tb n (length rs)) (add-one i) ∙ q))

holds_left : (tb : List ℕ) (i : ℕ) (a b : List Record) → RecordsAt tb i (a ++ b) → RecordsAt tb i a
holds_left tb i [] b h = tt
holds_left tb i (r ∷ a) b h = (h.0, holds_left tb (i + 1) a b h.1)

holds_right : (tb : List ℕ) (i : ℕ) (a b : List Record) → RecordsAt tb i (a ++ b) → RecordsAt tb (i + length a) b
holds_right tb i [] b h = subst (λ (j : ℕ). RecordsAt tb j b) (sym (add-zero i)) h
holds_right tb i (r ∷ a) b h = subst (λ (j : ℕ). RecordsAt tb j b) (omega arith) (holds_right tb (i + 1) a b h.1)

-- ---- the records of the parts

module _ (s tb : List ℕ) where
  text_at_lem : (i : ℕ) (r : Record) (sp : Span) (b : List ℕ) → RecordAt tb i r → r.start ≡ sp.start → r.text_end ≡ sp.end → Holds s sp b → Within s tb i × (text_at s tb i ≡ b)
  text_at_lem i r sp b h e f o =
      let p : word tb i 1 ≡ sp.start = h.start ∙ e in
      let q : word tb i 2 ≡ sp.end = h.text_end ∙ f in
      (record { order = omega (arith, o.0.0); within = omega (arith, o.0.1) }, ap (λ (n : ℕ). part s n (word tb i 2)) p ∙ ap (λ (n : ℕ). part s sp.start n) q ∙ o.1)

  leaf_at_lem : (i k : ℕ) (sp : Span) (b : List ℕ) → RecordAt tb i (leaf k sp) → Holds s sp b → LeafAt s tb k i b
  leaf_at_lem i k sp b h o =
      let w = text_at_lem i (leaf k sp) sp b h refl refl o in
      record { is_kind = h.kind; is_size = h.size; in_text = w.0; bytes = w.1 }

  comments_at_lem : (i k : ℕ) (cs : List Slice) → RecordsAt tb i (comments k cs) → HoldsAll s cs → CommentsAt s tb k i cs
  comments_at_lem i k [] h o = tt
  comments_at_lem i k (c ∷ cs) h o = (leaf_at_lem i k c.span c.bytes h.0 o.0, comments_at_lem (i + 1) k cs h.1 o.1)

  -- no suffix comment stands at i before `end`
  abbrev Clear : ℕ → ℕ → Type 0
  Clear end i = has_suffix tb end i ≡ false

  clear_end : (end i : ℕ) → end ≤ i → Clear end i
  unfolding has_suffix
  clear_end end i h = ap (λ (x : Bool). x && eqb (word tb i 0) 8) (le-ltb i end h)

  clear_kind : (end i : ℕ) → (word tb i 0 ≡ 8 → ⊥) → Clear end i
  unfolding has_suffix
  clear_kind end i h = and_right (ltb i end) (eqb (word tb i 0) 8) (ne_eqb (word tb i 0) 8 h)

  suffix_at : (end i : ℕ) (x : Option Slice) → RecordsAt tb i (suffix x) → HoldsSuffix s x → i + suffix_size x ≤ end → (x ≡ None → Clear end i) → SuffixAt s tb end i x
  unfolding has_suffix
  suffix_at end i None h o l f = f refl
  suffix_at end i (Some c) h o l f =
      (ap (λ (x : Bool). x && eqb (word tb i 0) 8) (lt-ltb i end (omega arith)) ∙ eq-eqb (word tb i 0) 8 h.0.kind, leaf_at_lem i 8 c.span c.bytes h.0 o)

  inside_length : (vs : TokenTrees) (cl : List Slice) → length (trees_records vs ++ comments 9 cl) ≡ trees_size vs + length cl
  inside_length vs cl =
      let a : length (trees_records vs) ≡ trees_size vs = trees_size_lem vs in
      let b : length (comments 9 cl) ≡ length cl = comments_length 9 cl in
      let c : length (trees_records vs ++ comments 9 cl) ≡ length (trees_records vs) + length (comments 9 cl) = length-append (trees_records vs) (comments 9 cl) in
      omega arith

  inside_comments : (vs : TokenTrees) (cl : List Slice) (i : ℕ) → RecordsAt tb i (trees_records vs ++ comments 9 cl) → HoldsAll s cl → CommentsAt s tb 9 (i + trees_size vs) cl
  inside_comments vs cl i h o = comments_at_lem (i + trees_size vs) 9 cl (subst (λ (n : ℕ). RecordsAt tb (i + n) (comments 9 cl)) (trees_size_lem vs) (holds_right tb i (trees_records vs) (comments 9 cl) h)) o

  -- ---- the first record of a tree

  head_not : (j k : ℕ) (sp : Span) (e m : ℕ) → RecordAt tb j (record_at k sp e m) → k < 8 → word tb j 0 ≡ 8 → ⊥
  head_not j k sp e m h l q = let z : word tb j 0 ≡ k = h.kind in omega arith

  value_first : (j : ℕ) (v : TokenValue) (sp : Span) (rest : List Record) → RecordsAt tb j (value_records sp v ++ rest) → word tb j 0 ≡ 8 → ⊥
  unfolding value_records
  value_first j (identifier b) sp rest h = head_not j 1 sp _ _ h.0 (omega arith)
  value_first j (number b) sp rest h = head_not j 2 sp _ _ h.0 (omega arith)
  value_first j (quoted_string b) sp rest h = head_not j 3 sp _ _ h.0 (omega arith)
  value_first j (list_of vs cl) sp rest h = head_not j 4 sp _ _ h.0 (omega arith)
  value_first j (map_of kvs cl) sp rest h = head_not j 5 sp _ _ h.0 (omega arith)
  value_first j (variant_of n vs cl) sp rest h = head_not j 6 sp _ _ h.0 (omega arith)

  tree_first : (j : ℕ) (t : TokenTree) (rest : List Record) → RecordsAt tb j (tree_records t ++ rest) → word tb j 0 ≡ 8 → ⊥
  unfolding tree_records
  tree_first j (tree sp (c ∷ cs) v x) rest h = head_not j 7 c.span _ _ h.0 (omega arith)
  tree_first j (tree sp [] v x) rest h = value_first j v sp (suffix x ++ rest) (subst (RecordsAt tb j) (append_assoc (value_records sp v) (suffix x) rest) h)

  closing_clear : (end j : ℕ) (cl : List Slice) → RecordsAt tb j (comments 9 cl) → end ≡ j + length cl → Clear end j
  closing_clear end j [] h e = clear_end end j (omega arith)
  closing_clear end j (c ∷ cs) h e = clear_kind end j (λ q. let z : word tb j 0 ≡ 9 = h.0.kind in omega arith)

  trees_clear : (end j : ℕ) (ts : TokenTrees) (cl : List Slice) → RecordsAt tb j (trees_records ts ++ comments 9 cl) → end ≡ j + trees_size ts + length cl → Clear end j
  unfolding trees_records trees_size
  trees_clear end j no_trees cl h e = closing_clear end j cl h (omega arith)
  trees_clear end j (t ∷ᵗ ts) cl h e = clear_kind end j (tree_first j t (trees_records ts ++ comments 9 cl) (subst (RecordsAt tb j) (append_assoc (tree_records t) (trees_records ts) (comments 9 cl)) h))

  pairs_clear : (end j : ℕ) (ts : KeyValues) (cl : List Slice) → RecordsAt tb j (pairs_records ts ++ comments 9 cl) → end ≡ j + pairs_size ts + length cl → Clear end j
  unfolding pairs_records pairs_size
  pairs_clear end j no_pairs cl h e = closing_clear end j cl h (omega arith)
  pairs_clear end j (pair k v ts) cl h e =
      clear_kind end j (tree_first j k (tree_records v ++ pairs_records ts ++ comments 9 cl) (subst (RecordsAt tb j) (regroup (tree_records k) (tree_records v) (pairs_records ts) (comments 9 cl)) h))
    where
      regroup : (a b c d : List Record) → a ++ b ++ c ++ d ≡ a ++ (b ++ c ++ d)
      regroup a b c d = simp append_assoc

  step : (j : ℕ) (t : TokenTree) (rest : List Record) → RecordsAt tb j (tree_records t ++ rest) → RecordsAt tb (j + tree_size t) rest
  step j t rest h = subst (λ (n : ℕ). RecordsAt tb (j + n) rest) (tree_size_lem t) (holds_right tb j (tree_records t) rest h)

  pairs_split : (a b c d : List Record) → a ++ b ++ c ++ d ≡ a ++ (b ++ (c ++ d))
  pairs_split a b c d = simp append_assoc

  -- ---- the tree

  mutual
    unfolding TreeAt ValueAt TreesAt PairsAt tree_records value_records trees_records pairs_records tree_size value_size trees_size pairs_size

    tree_at : (t : TokenTree) (end i : ℕ) → TreeFits s t → RecordsAt tb i (tree_records t) → i + tree_size t ≤ end → Clear end (i + tree_size t) → TreeAt s tb end i t
    tree_at (tree sp p v x) end i o h l c =
        let cp = comments 7 p in
        let vr = value_records sp v in
        let a : length cp ≡ length p = comments_length 7 p in
        let b : length vr ≡ value_size v = value_size_lem v sp in
        let d : length (cp ++ vr) ≡ length cp + length vr = length-append cp vr in
        let h₁ = holds_left tb i (cp ++ vr) (suffix x) h in (
          comments_at_lem i 7 p (holds_left tb i cp vr h₁) o.1,
          value_at_lem v sp (i + length p) o.2 (subst (λ (n : ℕ). RecordsAt tb (i + n) vr) a (holds_right tb i cp vr h₁)),
          suffix_at end (i + length p + value_size v) x (subst (λ (n : ℕ). RecordsAt tb n (suffix x)) (omega arith) (holds_right tb i (cp ++ vr) (suffix x) h)) o.3 (omega arith)
              (λ e. let z : suffix_size x ≡ 0 = ap suffix_size e in subst (Clear end) (omega arith) c),
        )

    value_at_lem : (v : TokenValue) (sp : Span) (i : ℕ) → ValueFits s sp v → RecordsAt tb i (value_records sp v) → ValueAt s tb i v
    value_at_lem (identifier b) sp i o h = leaf_at_lem i 1 sp b h.0 o
    value_at_lem (number b) sp i o h = leaf_at_lem i 2 sp b h.0 o
    value_at_lem (quoted_string b) sp i o h = leaf_at_lem i 3 sp b h.0 o
    value_at_lem (list_of vs cl) sp i o h =
        let n : length (trees_records vs ++ comments 9 cl) ≡ trees_size vs + length cl = inside_length vs cl in (
          record { is_kind = h.0.kind; is_size = h.0.size ∙ omega arith },
          trees_at vs cl (i + (1 + (trees_size vs + length cl))) (i + 1) o.0 h.1 (omega arith),
          inside_comments vs cl (i + 1) h.1 o.1,
        )
    value_at_lem (map_of kvs cl) sp i o h =
        let a : length (pairs_records kvs) ≡ pairs_size kvs = pairs_size_lem kvs in
        let b : length (comments 9 cl) ≡ length cl = comments_length 9 cl in
        let c : length (pairs_records kvs ++ comments 9 cl) ≡ length (pairs_records kvs) + length (comments 9 cl) = length-append (pairs_records kvs) (comments 9 cl) in (
          record { is_kind = h.0.kind; is_size = h.0.size ∙ omega arith },
          pairs_at kvs cl (i + (1 + (pairs_size kvs + length cl))) (i + 1) o.0 h.1 (omega arith),
          comments_at_lem (i + 1 + pairs_size kvs) 9 cl (subst (λ (n : ℕ). RecordsAt tb (i + 1 + n) (comments 9 cl)) a (holds_right tb (i + 1) (pairs_records kvs) (comments 9 cl) h.1)) o.1,
        )
    value_at_lem (variant_of m vs cl) sp i o h =
        let n : length (trees_records vs ++ comments 9 cl) ≡ trees_size vs + length cl = inside_length vs cl in
        let w = text_at_lem i (record_at 6 sp m.span.end (suc (length (trees_records vs ++ comments 9 cl)))) m.span m.bytes h.0 (sym o.3) refl o.0 in (
          record { is_kind = h.0.kind; is_size = h.0.size ∙ omega arith },
          trees_at vs cl (i + (1 + (trees_size vs + length cl))) (i + 1) o.1 h.1 (omega arith),
          inside_comments vs cl (i + 1) h.1 o.2,
          w.0,
          w.1,
        )

    trees_at : (vs : TokenTrees) (cl : List Slice) (end i : ℕ) → TreesFit s vs → RecordsAt tb i (trees_records vs ++ comments 9 cl) → end ≡ i + trees_size vs + length cl → TreesAt s tb end i vs
    trees_at no_trees cl end i o h e = tt
    trees_at (t ∷ᵗ ts) cl end i o h e =
        let rest = trees_records ts ++ comments 9 cl in
        let h₁ : RecordsAt tb i (tree_records t ++ rest) = subst (RecordsAt tb i) (append_assoc (tree_records t) (trees_records ts) (comments 9 cl)) h in
        let h₂ : RecordsAt tb (i + tree_size t) rest = step i t rest h₁ in (
          tree_at t end i o.0 (holds_left tb i (tree_records t) rest h₁) (omega arith) (trees_clear end (i + tree_size t) ts cl h₂ (omega arith)),
          trees_at ts cl end (i + tree_size t) o.1 h₂ (omega arith),
        )

    pairs_at : (kvs : KeyValues) (cl : List Slice) (end i : ℕ) → PairsFit s kvs → RecordsAt tb i (pairs_records kvs ++ comments 9 cl) → end ≡ i + pairs_size kvs + length cl → PairsAt s tb end i kvs
    pairs_at no_pairs cl end i o h e = tt
    pairs_at (pair k v ts) cl end i o h e =
        let rest = pairs_records ts ++ comments 9 cl in
        let h₁ : RecordsAt tb i (tree_records k ++ (tree_records v ++ rest)) = subst (RecordsAt tb i) (pairs_split (tree_records k) (tree_records v) (pairs_records ts) (comments 9 cl)) h in
        let h₂ : RecordsAt tb (i + tree_size k) (tree_records v ++ rest) = step i k (tree_records v ++ rest) h₁ in
        let h₃ : RecordsAt tb (i + tree_size k + tree_size v) rest = step (i + tree_size k) v rest h₂ in (
          tree_at k end i o.0 (holds_left tb i (tree_records k) (tree_records v ++ rest) h₁) (omega arith) (clear_kind end (i + tree_size k) (tree_first (i + tree_size k) v rest h₂)),
          tree_at v end (i + tree_size k) o.1 (holds_left tb (i + tree_size k) (tree_records v) rest h₂) (omega arith) (pairs_clear end (i + tree_size k + tree_size v) ts cl h₃ (omega arith)),
          pairs_at ts cl end (i + tree_size k + tree_size v) o.2 h₃ (omega arith),
        )

-- ---- what a finished table says

pub refusal_done : {A B : Type 0} (r : Refusal) (a : A) → refused_with r ≡ done a → B
refusal_done r a e = cc

module _ (s tb : List ℕ) where
  -- the text is read, and the table begins with the tree's words
  pub finished_words : (t : TokenTree) → read_finished s tb ≡ done t → (read_text s ≡ done t) × (take (length (words (tree_records t))) tb ≡ words (tree_records t))
  unfolding read_finished is_finished
  finished_words t e = go (read_text s) refl e
    where
      go : (x : Outcome TokenTree) → read_text s ≡ x → then x (λ u. elim (is_finished tb u) [ true ↦ done u | false ↦ refused_with (nowhere 15) ]) ≡ done t → (read_text s ≡ done t) × (take (length (words (tree_records t))) tb ≡ words (tree_records t))
      go (refused_with r) p f = cc
      go (done u) p f = same (is_finished tb u) refl f
        where
          same : (b : Bool) → is_finished tb u ≡ b → elim b as (λ x. Outcome TokenTree) [ true ↦ done u | false ↦ refused_with (nowhere 15) ] ≡ done t → (read_text s ≡ done t) × (take (length (words (tree_records t))) tb ≡ words (tree_records t))
          same true q g =
              let z : u ≡ t = cc in
              (p ∙ ap done z, list_eq (take (length (words (tree_records t))) tb) (words (tree_records t)) (ap (is_finished tb) (sym z) ∙ q))
          same false q g = cc

  -- from the definition's outcome
  pub read_finished_lem : (t : TokenTree) → read_finished s tb ≡ done t → Finished s tb (length (tree_records t)) t
  read_finished_lem t e =
      let w = words (tree_records t) in
      let x = finished_words t e in
      let r = read_done s t x.0 in
      let q : take (length w) tb ≡ w = x.1 in
      let a : records_of tb 0 (length (tree_records t)) ≡ tree_records t = records_front tb (tree_records t) q in
      let m : length (tree_records t) ≡ tree_size t = tree_size_lem t in
      record {
        read = e;
        utf8 = r.0;
        parses = r.1;
        count = refl;
        room = omega (arith, words_length (tree_records t), ap length q, length-take (length w) tb);
        records = a;
        holds = tree_at s tb t (length (tree_records t)) 0 (tree_fits s r.0 t r.1) (records_at tb 0 (tree_records t) a) (omega arith) (clear_end s tb (length (tree_records t)) (0 + tree_size t) (omega arith));
      }

  -- from the answer of `finished`: n records
  pub finished_done : (n : ℕ) → done n ≡ then (read_finished s tb) (λ t. done (length (tree_records t))) → SomeFinished s tb n
  finished_done n e = go (read_finished s tb) refl e
    where
      go : (o : Outcome TokenTree) → read_finished s tb ≡ o → done n ≡ then o (λ t. done (length (tree_records t))) → SomeFinished s tb n
      go (refused_with r) q f = cc
      go (done t) q f = let z : n ≡ length (tree_records t) = cc in (t, subst (λ (m : ℕ). Finished s tb m t) (sym z) (read_finished_lem t q))

  pub finished_refused : (r : Refusal) → refused_with r ≡ then (read_finished s tb) (λ t. done (length (tree_records t))) → read_finished s tb ≡ refused_with r
  finished_refused r e = go (read_finished s tb) e
    where
      go : (o : Outcome TokenTree) → refused_with r ≡ then o (λ t. done (length (tree_records t))) → o ≡ refused_with r
      go (refused_with q) f = let x : q ≡ r = cc in ap refused_with x
      go (done t) f = cc

  -- a call that goes on with the tree refuses as `finished` does
  pub refuses : {A : Type 0} (g : TokenTree → Outcome A) (r : Refusal) → refused_with r ≡ then (read_finished s tb) (λ t. done (length (tree_records t))) → refused_with r ≡ then (read_finished s tb) g
  refuses g r e = sym (ap (λ (o : Outcome TokenTree). then o g) (finished_refused r e))

module _ {s tb : List ℕ} {n : ℕ} {t : TokenTree} (f : Finished s tb n t) where
  -- and otherwise answers by it
  pub answers : {A : Type 0} (g : TokenTree → Outcome A) → g t ≡ then (read_finished s tb) g
  answers g = sym (ap (λ (o : Outcome TokenTree). then o g) f.read)

  -- record i of the table is the i-th of the tree
  pub record_split : (i : ℕ) → i < n → tree_records t ≡ records_of tb 0 i ++ (record_of tb i ∷ records_of tb (i + 1) (n - (i + 1)))
  record_split i h =
      let e : n ≡ i + (n - i) = omega arith in
      sym f.records ∙ ap (records_of tb 0) e ∙ records_split tb 0 i (n - i)
      ∙ ap (λ (l : List Record). records_of tb 0 i ++ l) (ap (λ (m : ℕ). records_of tb m (n - i)) (omega arith) ∙ records_first tb i n h)

  pub record_is : (i : ℕ) (d : Record) → i < n → get_or (tree_records t) i d ≡ record_of tb i
  record_is i d h =
      ap (λ (l : List Record). get_or l i d) (record_split i h) ∙ get_or_at (records_of tb 0 i) (record_of tb i) (records_of tb (i + 1) (n - (i + 1))) d i (records_length tb 0 i)
