-- The comparison of records is an equivalence, and says whether two trees are equal, spans aside: each comment, leaf and name by its bytes.
-- Assumes nothing.
use Rattle.std.proofs.Common.{◌≡◌, ℕ, suc, ◌-◌, ◌<◌, Bool, true, false, ◌&&◌, eqb, List, [], ◌∷◌, ◌++◌, length, take, drop, Some, None, Option, sym, refl, ap, ◌∙◌, ap₂, append_assoc, append-nil, arith}
use Rattle.eon_spec.specs.Base.{elem, eq_list}
use Rattle.eon_spec.specs.Tree.{Span, Slice, TokenTree, TokenValue, TokenTrees, KeyValues, tree, identifier, number, quoted_string, list_of, map_of, variant_of, no_trees, ◌∷ᵗ◌, no_pairs, pair}
use Rattle.eon_spec.specs.Records.{Record, record_at, around, comments, suffix, tree_records, value_records, trees_records, pairs_records}
use Rattle.eon_spec.specs.Calls.{Outcome, done, refused_with, then, read_finished, record_text, same_records, compare_call}
use Rattle.eon_laws.proofs.Facts.{cons_head, cons_tail, and_left, and_right, eq_of, eqb_same, list_same, list_eq}

-- what is compared of a record: kind, size, text
pub record Key : Type 0 where
  pub kind : ℕ
  pub size : ℕ
  pub text : List ℕ

abbrev pub key_of : List ℕ → Record → Key
key_of s r = record { kind = r.kind; size = r.size; text = record_text s r }

abbrev pub keys_of : List ℕ → List Record → List Key
keys_of s [] = []
keys_of s (r ∷ rs) = key_of s r ∷ keys_of s rs

key_eq : (a b : Key) → a.kind ≡ b.kind → a.size ≡ b.size → a.text ≡ b.text → a ≡ b
key_eq a b p q r = λ i. record { kind = p i; size = q i; text = r i }

pub same_keys : (s : List ℕ) (rs : List Record) (t : List ℕ) (qs : List Record) → same_records s rs t qs ≡ true → keys_of s rs ≡ keys_of t qs
same_keys s [] t [] e = refl
same_keys s [] t (q ∷ qs) e = cc
same_keys s (r ∷ rs) t [] e = cc
same_keys s (r ∷ rs) t (q ∷ qs) e =
    let k = eqb r.kind q.kind in
    let z = eqb r.size q.size in
    let x = eq_list (record_text s r) (record_text t q) in
    let e3 = and_left (k && z && x) (same_records s rs t qs) e in
    let e2 = and_left (k && z) x e3 in
    let h : key_of s r ≡ key_of t q = key_eq (key_of s r) (key_of t q) (eq_of r.kind q.kind (and_left k z e2)) (eq_of r.size q.size (and_right k z e2)) (list_eq (record_text s r) (record_text t q) (and_right (k && z) x e3)) in
    ap (λ (y : Key). y ∷ keys_of s rs) h ∙ ap (λ (ys : List Key). key_of t q ∷ ys) (same_keys s rs t qs (and_right (k && z && x) (same_records s rs t qs) e))

pub keys_same : (s : List ℕ) (rs : List Record) (t : List ℕ) (qs : List Record) → keys_of s rs ≡ keys_of t qs → same_records s rs t qs ≡ true
keys_same s [] t [] e = refl
keys_same s [] t (q ∷ qs) e = cc
keys_same s (r ∷ rs) t [] e = cc
keys_same s (r ∷ rs) t (q ∷ qs) e =
    let h : key_of s r ≡ key_of t q = cons_head e in
    let p : r.kind ≡ q.kind = ap (λ (k : Key). k.kind) h in
    let z : r.size ≡ q.size = ap (λ (k : Key). k.size) h in
    let x : record_text s r ≡ record_text t q = ap (λ (k : Key). k.text) h in
    all_true (eqb r.kind q.kind) (eqb r.size q.size) (eq_list (record_text s r) (record_text t q)) (same_records s rs t qs)
    (rw p (eqb_same q.kind)) (rw z (eqb_same q.size)) (rw x (list_same (record_text t q))) (keys_same s rs t qs (cons_tail e))
  where
    all_true : (a b c d : Bool) → a ≡ true → b ≡ true → c ≡ true → d ≡ true → a && b && c && d ≡ true
    all_true a b c d p q r s = rw (p, q, r, s)

pub append_same : (a b c d : List Key) → length a ≡ length b → a ++ c ≡ b ++ d → (a ≡ b) × (c ≡ d)
append_same [] [] c d l e = (refl, e)
append_same [] (y ∷ b) c d l e = absurd (omega arith)
append_same (x ∷ a) [] c d l e = absurd (omega arith)
append_same (x ∷ a) (y ∷ b) c d l e =
    let r = append_same a b c d (omega arith) (cons_tail e) in
    (rw (cons_head e, r.0), r.1)

pub keys_of_append : (s : List ℕ) (a b : List Record) → keys_of s (a ++ b) ≡ keys_of s a ++ keys_of s b
keys_of_append s [] b = refl
keys_of_append s (r ∷ a) b = ap (λ (ks : List Key). key_of s r ∷ ks) (keys_of_append s a b)

pub keys_of_length : (s : List ℕ) (a : List Record) → length (keys_of s a) ≡ length a
keys_of_length s [] = refl
keys_of_length s (r ∷ a) = ap suc (keys_of_length s a)

-- equal tables have equally many records
pub same_count : (s : List ℕ) (rs : List Record) (t : List ℕ) (qs : List Record) → same_records s rs t qs ≡ true → length rs ≡ length qs
same_count s rs t qs e = sym (keys_of_length s rs) ∙ ap length (same_keys s rs t qs e) ∙ keys_of_length t qs

-- ---- an equivalence

pub same_refl : (s : List ℕ) (rs : List Record) → same_records s rs s rs ≡ true
same_refl s rs = keys_same s rs s rs refl

pub same_sym : (s : List ℕ) (rs : List Record) (t : List ℕ) (qs : List Record) → same_records s rs t qs ≡ true → same_records t qs s rs ≡ true
same_sym s rs t qs e = keys_same t qs s rs (sym (same_keys s rs t qs e))

pub same_trans : (s : List ℕ) (rs : List Record) (t : List ℕ) (qs : List Record) (u : List ℕ) (ps : List Record)
    → same_records s rs t qs ≡ true → same_records t qs u ps ≡ true → same_records s rs u ps ≡ true
same_trans s rs t qs u ps e f = keys_same s rs u ps (same_keys s rs t qs e ∙ same_keys t qs u ps f)

-- of the call: reflexive on each text with its finished table, symmetric, transitive
call_is : (s a t b : List ℕ) (x y : TokenTree) → read_finished s a ≡ done x → read_finished t b ≡ done y → compare_call s a t b ≡ done (same_records s (tree_records x) t (tree_records y))
unfolding compare_call
call_is s a t b x y e f =
    ap (λ (o : Outcome TokenTree). then o (λ x. then (read_finished t b) λ y. done (same_records s (tree_records x) t (tree_records y)))) e
    ∙ ap (λ (o : Outcome TokenTree). then o (λ y. done (same_records s (tree_records x) t (tree_records y)))) f

pub record Both (s a t b : List ℕ) : Type 0 where
  pub first : TokenTree
  pub second : TokenTree
  pub is_first : read_finished s a ≡ done first
  pub is_second : read_finished t b ≡ done second
  pub same : same_records s (tree_records first) t (tree_records second) ≡ true

-- a call that answers yes had two finished tables
pub both_of : (s a t b : List ℕ) → compare_call s a t b ≡ done true → Both s a t b
unfolding compare_call
both_of s a t b e = go (read_finished s a) refl (read_finished t b) refl
  where
    go : (o : Outcome TokenTree) → read_finished s a ≡ o → (p : Outcome TokenTree) → read_finished t b ≡ p → Both s a t b
    go (refused_with r) q p k =
        let z = sym e ∙ ap (λ (o : Outcome TokenTree). then o (λ x. then (read_finished t b) λ y. done (same_records s (tree_records x) t (tree_records y)))) q in
        cc
    go (done x) q (refused_with r) k =
        let z = sym e ∙ ap₂ (λ (o p : Outcome TokenTree). then o (λ x. then p λ y. done (same_records s (tree_records x) t (tree_records y)))) q k in
        cc
    go (done x) q (done y) k =
        let z : done (same_records s (tree_records x) t (tree_records y)) ≡ done true = sym (call_is s a t b x y q k) ∙ e in
        record { first = x; second = y; is_first = q; is_second = k; same = cc }

pub compare_refl : (s a : List ℕ) (x : TokenTree) → read_finished s a ≡ done x → compare_call s a s a ≡ done true
compare_refl s a x e = call_is s a s a x x e e ∙ ap done (same_refl s (tree_records x))

pub compare_sym : (s a t b : List ℕ) → compare_call s a t b ≡ done true → compare_call t b s a ≡ done true
compare_sym s a t b e =
    let d = both_of s a t b e in
    call_is t b s a d.second d.first d.is_second d.is_first ∙ ap done (same_sym s (tree_records d.first) t (tree_records d.second) d.same)

pub compare_trans : (s a t b u c : List ℕ) → compare_call s a t b ≡ done true → compare_call t b u c ≡ done true → compare_call s a u c ≡ done true
compare_trans s a t b u c e f =
    let d = both_of s a t b e in
    let g = both_of t b u c f in
    let m : d.second ≡ g.first = let z : done d.second ≡ done g.first = sym d.is_second ∙ g.is_first in cc in
    call_is s a u c d.first g.second d.is_first g.is_second
    ∙ ap done (same_trans s (tree_records d.first) t (tree_records d.second) u (tree_records g.second) d.same (rw m g.same))

-- ---- a tree with spans aside

-- the parts of a text in place of where they stand
mutual
  pub data Image : Type 0 where
    -- prefix comments, value, suffix comment
    image : List (List ℕ) → Content → Option (List ℕ) → Image

  pub data Content : Type 0 where
    identifierⁱ numberⁱ stringⁱ : List ℕ → Content
    -- values or pairs, closing comments
    listⁱ : Images → List (List ℕ) → Content
    mapⁱ : ImagePairs → List (List ℕ) → Content
    -- name, values, closing comments
    variantⁱ : List ℕ → Images → List (List ℕ) → Content

  pub data Images : Type 0 where
    noneⁱ : Images
    ◌∷ⁱ◌ : Image → Images → Images

  pub data ImagePairs : Type 0 where
    no_pairsⁱ : ImagePairs
    pairⁱ : Image → Image → ImagePairs → ImagePairs

infixr 67 ◌∷ⁱ◌
abbrev pub part_of : List ℕ → ℕ → ℕ → List ℕ
part_of s a e = take (e - a) (drop a s)

abbrev pub texts_of : List ℕ → List Slice → List (List ℕ)
texts_of s [] = []
texts_of s (c ∷ cs) = part_of s c.span.start c.span.end ∷ texts_of s cs

abbrev pub text_of : List ℕ → Option Slice → Option (List ℕ)
text_of s None = None
text_of s (Some c) = Some (part_of s c.span.start c.span.end)

unfoldable mutual
  pub image_of : List ℕ → TokenTree → Image
  image_of s (tree sp p v x) = image (texts_of s p) (content_of s sp v) (text_of s x)

  pub content_of : List ℕ → Span → TokenValue → Content
  content_of s sp (identifier b) = identifierⁱ (part_of s sp.start sp.end)
  content_of s sp (number b) = numberⁱ (part_of s sp.start sp.end)
  content_of s sp (quoted_string b) = stringⁱ (part_of s sp.start sp.end)
  content_of s sp (list_of vs cl) = listⁱ (images_of s vs) (texts_of s cl)
  content_of s sp (map_of kvs cl) = mapⁱ (image_pairs_of s kvs) (texts_of s cl)
  content_of s sp (variant_of n vs cl) = variantⁱ (part_of s sp.start n.span.end) (images_of s vs) (texts_of s cl)

  pub images_of : List ℕ → TokenTrees → Images
  images_of s no_trees = noneⁱ
  images_of s (t ∷ᵗ ts) = image_of s t ∷ⁱ images_of s ts

  pub image_pairs_of : List ℕ → KeyValues → ImagePairs
  image_pairs_of s no_pairs = no_pairsⁱ
  image_pairs_of s (pair k v kvs) = pairⁱ (image_of s k) (image_of s v) (image_pairs_of s kvs)

-- its keys

abbrev leaf_key : ℕ → List ℕ → Key
leaf_key k b = record { kind = k; size = 1; text = b }

abbrev comment_keys : ℕ → List (List ℕ) → List Key
comment_keys k [] = []
comment_keys k (b ∷ bs) = leaf_key k b ∷ comment_keys k bs

abbrev suffix_keys : Option (List ℕ) → List Key
suffix_keys None = []
suffix_keys (Some b) = leaf_key 8 b ∷ []

abbrev pub around_keys : ℕ → List ℕ → List Key → List Key
around_keys k b inside = record { kind = k; size = suc (length inside); text = b } ∷ inside

mutual
  image_keys : Image → List Key
  image_keys (image p v x) = comment_keys 7 p ++ (content_keys v ++ suffix_keys x)

  content_keys : Content → List Key
  content_keys (identifierⁱ b) = leaf_key 1 b ∷ []
  content_keys (numberⁱ b) = leaf_key 2 b ∷ []
  content_keys (stringⁱ b) = leaf_key 3 b ∷ []
  content_keys (listⁱ vs cl) = around_keys 4 [] (images_keys vs ++ comment_keys 9 cl)
  content_keys (mapⁱ ps cl) = around_keys 5 [] (pairs_keys ps ++ comment_keys 9 cl)
  content_keys (variantⁱ b vs cl) = around_keys 6 b (images_keys vs ++ comment_keys 9 cl)

  images_keys : Images → List Key
  images_keys noneⁱ = []
  images_keys (x ∷ⁱ xs) = image_keys x ++ images_keys xs

  pairs_keys : ImagePairs → List Key
  pairs_keys no_pairsⁱ = []
  pairs_keys (pairⁱ x y ps) = image_keys x ++ (image_keys y ++ pairs_keys ps)

module _ (s : List ℕ) where
  comment_keys_lem : (k : ℕ) → elem k (4 ∷ 5 ∷ []) ≡ false → (cs : List Slice) → keys_of s (comments k cs) ≡ comment_keys k (texts_of s cs)
  comment_keys_lem k e [] = refl
  comment_keys_lem k e (c ∷ cs) = ap₂ (λ (b : List ℕ) (ks : List Key). leaf_key k b ∷ ks) (rw e) (comment_keys_lem k e cs)

  suffix_keys_lem : (x : Option Slice) → keys_of s (suffix x) ≡ suffix_keys (text_of s x)
  suffix_keys_lem None = refl
  suffix_keys_lem (Some c) = refl

  pub around_keys_lem : (k : ℕ) (sp : Span) (e : ℕ) (inside : List Record) (ks : List Key) → keys_of s inside ≡ ks
      → keys_of s (around k sp e inside) ≡ around_keys k (record_text s (record_at k sp e 0)) ks
  around_keys_lem k sp e inside ks h =
      let l : length inside ≡ length ks = sym (keys_of_length s inside) ∙ ap length h in
      ap₂ (λ (n : ℕ) (x : List Key). record { kind = k; size = suc n; text = record_text s (record_at k sp e 0) } ∷ x) l h

  inside_keys : (rs : List Record) (ks : List Key) → keys_of s rs ≡ ks → (cl : List Slice) → keys_of s (rs ++ comments 9 cl) ≡ ks ++ comment_keys 9 (texts_of s cl)
  inside_keys rs ks h cl = keys_of_append s rs (comments 9 cl) ∙ ap₂ (λ (x y : List Key). x ++ y) h (comment_keys_lem 9 refl cl)

  mutual
    unfolding tree_records image_of image_keys

    tree_keys : (t : TokenTree) → keys_of s (tree_records t) ≡ image_keys (image_of s t)
    tree_keys (tree sp p v x) =
        keys_of_append s (comments 7 p ++ value_records sp v) (suffix x)
        ∙ ap₂ (λ (a b : List Key). a ++ b) (keys_of_append s (comments 7 p) (value_records sp v) ∙ ap₂ (λ (a b : List Key). a ++ b) (comment_keys_lem 7 refl p) (value_keys sp v)) (suffix_keys_lem x)
        ∙ append_assoc (comment_keys 7 (texts_of s p)) (content_keys (content_of s sp v)) (suffix_keys (text_of s x))

    value_keys : (sp : Span) (v : TokenValue) → keys_of s (value_records sp v) ≡ content_keys (content_of s sp v)
    value_keys sp (identifier b) = refl
    value_keys sp (number b) = refl
    value_keys sp (quoted_string b) = refl
    value_keys sp (list_of vs cl) = around_keys_lem 4 sp sp.end (trees_records vs ++ comments 9 cl) _ (inside_keys (trees_records vs) (images_keys (images_of s vs)) (trees_keys vs) cl)
    value_keys sp (map_of kvs cl) = around_keys_lem 5 sp sp.end (pairs_records kvs ++ comments 9 cl) _ (inside_keys (pairs_records kvs) (pairs_keys (image_pairs_of s kvs)) (pairs_keys_lem kvs) cl)
    value_keys sp (variant_of n vs cl) = around_keys_lem 6 sp n.span.end (trees_records vs ++ comments 9 cl) _ (inside_keys (trees_records vs) (images_keys (images_of s vs)) (trees_keys vs) cl)

    trees_keys : (ts : TokenTrees) → keys_of s (trees_records ts) ≡ images_keys (images_of s ts)
    trees_keys no_trees = refl
    trees_keys (t ∷ᵗ ts) = keys_of_append s (tree_records t) (trees_records ts) ∙ ap₂ (λ (a b : List Key). a ++ b) (tree_keys t) (trees_keys ts)

    pairs_keys_lem : (kvs : KeyValues) → keys_of s (pairs_records kvs) ≡ pairs_keys (image_pairs_of s kvs)
    pairs_keys_lem no_pairs = refl
    pairs_keys_lem (pair k v kvs) =
        keys_of_append s (tree_records k ++ tree_records v) (pairs_records kvs)
        ∙ ap₂ (λ (a b : List Key). a ++ b) (keys_of_append s (tree_records k) (tree_records v) ∙ ap₂ (λ (a b : List Key). a ++ b) (tree_keys k) (tree_keys v)) (pairs_keys_lem kvs)
        ∙ append_assoc (image_keys (image_of s k)) (image_keys (image_of s v)) (pairs_keys (image_pairs_of s kvs))

-- ---- keys tell images apart

-- the keys do not begin with one of this kind
abbrev NotFirst : ℕ → List Key → Type 0
NotFirst k [] = Unit {0}
NotFirst k (x ∷ xs) = x.kind ≡ k → ⊥

-- they begin with one of a smaller kind
abbrev Starts : ℕ → List Key → Type 0
Starts n [] = ⊥
Starts n (x ∷ xs) = x.kind < n

not_first : (n k : ℕ) (ks : List Key) → Starts n ks → (k < n → ⊥) → NotFirst k ks
not_first n k [] h g = tt
not_first n k (x ∷ xs) h g = λ e. g (rw (sym e) h)

content_starts : (v : Content) (r : List Key) → Starts 7 (content_keys v ++ r)
unfolding image_keys
content_starts (identifierⁱ b) r = omega arith
content_starts (numberⁱ b) r = omega arith
content_starts (stringⁱ b) r = omega arith
content_starts (listⁱ vs cl) r = omega arith
content_starts (mapⁱ ps cl) r = omega arith
content_starts (variantⁱ b vs cl) r = omega arith

content_first : (v : Content) (r : List Key) → NotFirst 7 (content_keys v ++ r)
content_first v r = not_first 7 7 (content_keys v ++ r) (content_starts v r) (λ l. omega arith)

image_assoc : (p : List (List ℕ)) (v : Content) (x : Option (List ℕ)) (r : List Key) → image_keys (image p v x) ++ r ≡ comment_keys 7 p ++ (content_keys v ++ (suffix_keys x ++ r))
unfolding image_keys
image_assoc p v x r = append_assoc (comment_keys 7 p) (content_keys v ++ suffix_keys x) r ∙ ap (λ (k : List Key). comment_keys 7 p ++ k) (append_assoc (content_keys v) (suffix_keys x) r)

starts_more : (n : ℕ) (ks : List Key) → Starts 7 ks → 7 < n → Starts n ks
starts_more n [] h l = h
starts_more n (x ∷ xs) h l = omega arith

image_starts : (x : Image) (r : List Key) → Starts 8 (image_keys x ++ r)
unfolding image_keys
image_starts (image [] v x) r = rw (append_assoc (content_keys v) (suffix_keys x) r) (starts_more 8 (content_keys v ++ (suffix_keys x ++ r)) (content_starts v (suffix_keys x ++ r)) (omega arith))
image_starts (image (b ∷ p) v x) r = omega arith

image_first : (x : Image) (r : List Key) → NotFirst 8 (image_keys x ++ r)
image_first x r = not_first 8 8 (image_keys x ++ r) (image_starts x r) (λ l. omega arith)

closing_first : (cl : List (List ℕ)) → NotFirst 8 (comment_keys 9 cl)
closing_first [] = tt
closing_first (b ∷ cl) = λ e. omega arith

images_first : (vs : Images) (cl : List (List ℕ)) → NotFirst 8 (images_keys vs ++ comment_keys 9 cl)
unfolding image_keys
images_first noneⁱ cl = closing_first cl
images_first (x ∷ⁱ vs) cl = rw (append_assoc (image_keys x) (images_keys vs) (comment_keys 9 cl)) (image_first x (images_keys vs ++ comment_keys 9 cl))

pairs_assoc : (x y : Image) (ps : ImagePairs) (c : List Key) → pairs_keys (pairⁱ x y ps) ++ c ≡ image_keys x ++ (image_keys y ++ (pairs_keys ps ++ c))
unfolding image_keys
pairs_assoc x y ps c = append_assoc (image_keys x) (image_keys y ++ pairs_keys ps) c ∙ ap (λ (k : List Key). image_keys x ++ k) (append_assoc (image_keys y) (pairs_keys ps) c)

pairs_first : (ps : ImagePairs) (cl : List (List ℕ)) → NotFirst 8 (pairs_keys ps ++ comment_keys 9 cl)
unfolding image_keys
pairs_first no_pairsⁱ cl = closing_first cl
pairs_first (pairⁱ x y ps) cl =
    rw (pairs_assoc x y ps (comment_keys 9 cl)) (image_first x (image_keys y ++ (pairs_keys ps ++ comment_keys 9 cl)))

comments_inj : (k : ℕ) (p q : List (List ℕ)) (a b : List Key) → NotFirst k a → NotFirst k b → comment_keys k p ++ a ≡ comment_keys k q ++ b → (p ≡ q) × (a ≡ b)
comments_inj k [] [] a b g h e = (refl, e)
comments_inj k [] (y ∷ q) [] b g h e = cc
comments_inj k [] (y ∷ q) (x ∷ a) b g h e = absurd (g (cc))
comments_inj k (x ∷ p) [] a [] g h e = cc
comments_inj k (x ∷ p) [] a (y ∷ b) g h e = absurd (h (cc))
comments_inj k (x ∷ p) (y ∷ q) a b g h e =
    let r = comments_inj k p q a b g h (cons_tail e) in
    (ap₂ (λ (c : List ℕ) (cs : List (List ℕ)). c ∷ cs) (ap (λ (z : Key). z.text) (cons_head e)) r.0, r.1)

suffix_inj : (x y : Option (List ℕ)) (a b : List Key) → NotFirst 8 a → NotFirst 8 b → suffix_keys x ++ a ≡ suffix_keys y ++ b → (x ≡ y) × (a ≡ b)
suffix_inj None None a b g h e = (refl, e)
suffix_inj None (Some y) [] b g h e = cc
suffix_inj None (Some y) (x ∷ a) b g h e = absurd (g (cc))
suffix_inj (Some x) None a [] g h e = cc
suffix_inj (Some x) None a (y ∷ b) g h e = absurd (h (cc))
suffix_inj (Some x) (Some y) a b g h e = (ap Some (ap (λ (z : Key). z.text) (cons_head e)), cons_tail e)

-- closing comments are no value
closing_no : {A : Type 0} (cl : List (List ℕ)) (ks : List Key) → Starts 8 ks → comment_keys 9 cl ≡ ks → A
closing_no [] [] s e = absurd s
closing_no [] (k ∷ ks) s e = cc
closing_no (c ∷ cl) [] s e = absurd s
closing_no (c ∷ cl) (k ∷ ks) s e = absurd (omega (arith, ap (λ (z : Key). z.kind) (cons_head e)))

closing_inj : (cl dl : List (List ℕ)) → comment_keys 9 cl ≡ comment_keys 9 dl → cl ≡ dl
closing_inj cl dl e = (comments_inj 9 cl dl [] [] tt tt (append-nil (comment_keys 9 cl) ∙ e ∙ sym (append-nil (comment_keys 9 dl)))).0

-- heads of two kinds differ
kinds_no : {A : Type 0} (k l : Key) (a b : List Key) → k ∷ a ≡ l ∷ b → (k.kind ≡ l.kind → ⊥) → A
kinds_no k l a b e h = absurd (h (cc))

-- a container's inside by its size
inside_inj : (k l : ℕ) (b c : List ℕ) (x y r q : List Key) → around_keys k b x ++ r ≡ around_keys l c y ++ q → (b ≡ c) × (x ≡ y) × (r ≡ q)
inside_inj k l b c x y r q e =
    let h = cons_head e in
    let n : suc (length x) ≡ suc (length y) = ap (λ (z : Key). z.size) h in
    let a = append_same x y r q (omega arith) (cons_tail e) in
    (ap (λ (z : Key). z.text) h, a.0, a.1)

mutual
  unfolding image_keys

  image_inj : (x y : Image) (r q : List Key) → NotFirst 8 r → NotFirst 8 q → image_keys x ++ r ≡ image_keys y ++ q → (x ≡ y) × (r ≡ q)
  image_inj (image p v x) (image p' v' x') r q g h e =
      let f = sym (image_assoc p v x r) ∙ e ∙ image_assoc p' v' x' q in
      let a = comments_inj 7 p p' (content_keys v ++ (suffix_keys x ++ r)) (content_keys v' ++ (suffix_keys x' ++ q)) (content_first v (suffix_keys x ++ r)) (content_first v' (suffix_keys x' ++ q)) f in
      let b = content_inj v v' (suffix_keys x ++ r) (suffix_keys x' ++ q) a.1 in
      let c = suffix_inj x x' r q g h b.1 in
      (λ i. image (a.0 i) (b.0 i) (c.0 i), c.1)

  content_inj : (v w : Content) (r q : List Key) → content_keys v ++ r ≡ content_keys w ++ q → (v ≡ w) × (r ≡ q)
  content_inj (identifierⁱ b) (identifierⁱ b') r q e = (ap identifierⁱ (ap (λ (z : Key). z.text) (cons_head e)), cons_tail e)
  content_inj (identifierⁱ b) (numberⁱ b') r q e = kinds_no _ _ _ _ e (λ z. omega arith)
  content_inj (identifierⁱ b) (stringⁱ b') r q e = kinds_no _ _ _ _ e (λ z. omega arith)
  content_inj (identifierⁱ b) (listⁱ vs' cl') r q e = kinds_no _ _ _ _ e (λ z. omega arith)
  content_inj (identifierⁱ b) (mapⁱ ps' cl') r q e = kinds_no _ _ _ _ e (λ z. omega arith)
  content_inj (identifierⁱ b) (variantⁱ b' vs' cl') r q e = kinds_no _ _ _ _ e (λ z. omega arith)
  content_inj (numberⁱ b) (identifierⁱ b') r q e = kinds_no _ _ _ _ e (λ z. omega arith)
  content_inj (numberⁱ b) (numberⁱ b') r q e = (ap numberⁱ (ap (λ (z : Key). z.text) (cons_head e)), cons_tail e)
  content_inj (numberⁱ b) (stringⁱ b') r q e = kinds_no _ _ _ _ e (λ z. omega arith)
  content_inj (numberⁱ b) (listⁱ vs' cl') r q e = kinds_no _ _ _ _ e (λ z. omega arith)
  content_inj (numberⁱ b) (mapⁱ ps' cl') r q e = kinds_no _ _ _ _ e (λ z. omega arith)
  content_inj (numberⁱ b) (variantⁱ b' vs' cl') r q e = kinds_no _ _ _ _ e (λ z. omega arith)
  content_inj (stringⁱ b) (identifierⁱ b') r q e = kinds_no _ _ _ _ e (λ z. omega arith)
  content_inj (stringⁱ b) (numberⁱ b') r q e = kinds_no _ _ _ _ e (λ z. omega arith)
  content_inj (stringⁱ b) (stringⁱ b') r q e = (ap stringⁱ (ap (λ (z : Key). z.text) (cons_head e)), cons_tail e)
  content_inj (stringⁱ b) (listⁱ vs' cl') r q e = kinds_no _ _ _ _ e (λ z. omega arith)
  content_inj (stringⁱ b) (mapⁱ ps' cl') r q e = kinds_no _ _ _ _ e (λ z. omega arith)
  content_inj (stringⁱ b) (variantⁱ b' vs' cl') r q e = kinds_no _ _ _ _ e (λ z. omega arith)
  content_inj (listⁱ vs cl) (identifierⁱ b') r q e = kinds_no _ _ _ _ e (λ z. omega arith)
  content_inj (listⁱ vs cl) (numberⁱ b') r q e = kinds_no _ _ _ _ e (λ z. omega arith)
  content_inj (listⁱ vs cl) (stringⁱ b') r q e = kinds_no _ _ _ _ e (λ z. omega arith)
  content_inj (listⁱ vs cl) (listⁱ vs' cl') r q e =
      let a = inside_inj 4 4 [] [] (images_keys vs ++ comment_keys 9 cl) (images_keys vs' ++ comment_keys 9 cl') r q e in
      let b = images_inj vs vs' cl cl' a.1 in
      (ap₂ listⁱ b.0 b.1, a.2)
  content_inj (listⁱ vs cl) (mapⁱ ps' cl') r q e = kinds_no _ _ _ _ e (λ z. omega arith)
  content_inj (listⁱ vs cl) (variantⁱ b' vs' cl') r q e = kinds_no _ _ _ _ e (λ z. omega arith)
  content_inj (mapⁱ ps cl) (identifierⁱ b') r q e = kinds_no _ _ _ _ e (λ z. omega arith)
  content_inj (mapⁱ ps cl) (numberⁱ b') r q e = kinds_no _ _ _ _ e (λ z. omega arith)
  content_inj (mapⁱ ps cl) (stringⁱ b') r q e = kinds_no _ _ _ _ e (λ z. omega arith)
  content_inj (mapⁱ ps cl) (listⁱ vs' cl') r q e = kinds_no _ _ _ _ e (λ z. omega arith)
  content_inj (mapⁱ ps cl) (mapⁱ ps' cl') r q e =
      let a = inside_inj 5 5 [] [] (pairs_keys ps ++ comment_keys 9 cl) (pairs_keys ps' ++ comment_keys 9 cl') r q e in
      let b = pairs_inj ps ps' cl cl' a.1 in
      (ap₂ mapⁱ b.0 b.1, a.2)
  content_inj (mapⁱ ps cl) (variantⁱ b' vs' cl') r q e = kinds_no _ _ _ _ e (λ z. omega arith)
  content_inj (variantⁱ b vs cl) (identifierⁱ b') r q e = kinds_no _ _ _ _ e (λ z. omega arith)
  content_inj (variantⁱ b vs cl) (numberⁱ b') r q e = kinds_no _ _ _ _ e (λ z. omega arith)
  content_inj (variantⁱ b vs cl) (stringⁱ b') r q e = kinds_no _ _ _ _ e (λ z. omega arith)
  content_inj (variantⁱ b vs cl) (listⁱ vs' cl') r q e = kinds_no _ _ _ _ e (λ z. omega arith)
  content_inj (variantⁱ b vs cl) (mapⁱ ps' cl') r q e = kinds_no _ _ _ _ e (λ z. omega arith)
  content_inj (variantⁱ b vs cl) (variantⁱ b' vs' cl') r q e =
      let a = inside_inj 6 6 b b' (images_keys vs ++ comment_keys 9 cl) (images_keys vs' ++ comment_keys 9 cl') r q e in
      let c = images_inj vs vs' cl cl' a.1 in
      (λ i. variantⁱ (a.0 i) (c.0 i) (c.1 i), a.2)

  images_inj : (vs ws : Images) (cl dl : List (List ℕ)) → images_keys vs ++ comment_keys 9 cl ≡ images_keys ws ++ comment_keys 9 dl → (vs ≡ ws) × (cl ≡ dl)
  images_inj noneⁱ noneⁱ cl dl e = (refl, closing_inj cl dl e)
  images_inj noneⁱ (y ∷ⁱ ws) cl dl e = closing_no cl _ (image_starts y (images_keys ws ++ comment_keys 9 dl)) (e ∙ append_assoc (image_keys y) (images_keys ws) (comment_keys 9 dl))
  images_inj (x ∷ⁱ vs) noneⁱ cl dl e = closing_no dl _ (image_starts x (images_keys vs ++ comment_keys 9 cl)) (sym e ∙ append_assoc (image_keys x) (images_keys vs) (comment_keys 9 cl))
  images_inj (x ∷ⁱ vs) (y ∷ⁱ ws) cl dl e =
      let f = sym (append_assoc (image_keys x) (images_keys vs) (comment_keys 9 cl)) ∙ e ∙ append_assoc (image_keys y) (images_keys ws) (comment_keys 9 dl) in
      let a = image_inj x y (images_keys vs ++ comment_keys 9 cl) (images_keys ws ++ comment_keys 9 dl) (images_first vs cl) (images_first ws dl) f in
      let b = images_inj vs ws cl dl a.1 in
      (ap₂ ◌∷ⁱ◌ a.0 b.0, b.1)

  pairs_inj : (ps qs : ImagePairs) (cl dl : List (List ℕ)) → pairs_keys ps ++ comment_keys 9 cl ≡ pairs_keys qs ++ comment_keys 9 dl → (ps ≡ qs) × (cl ≡ dl)
  pairs_inj no_pairsⁱ no_pairsⁱ cl dl e = (refl, closing_inj cl dl e)
  pairs_inj no_pairsⁱ (pairⁱ x y qs) cl dl e = closing_no cl _ (image_starts x (image_keys y ++ (pairs_keys qs ++ comment_keys 9 dl))) (e ∙ pairs_assoc x y qs (comment_keys 9 dl))
  pairs_inj (pairⁱ x y ps) no_pairsⁱ cl dl e = closing_no dl _ (image_starts x (image_keys y ++ (pairs_keys ps ++ comment_keys 9 cl))) (sym e ∙ pairs_assoc x y ps (comment_keys 9 cl))
  pairs_inj (pairⁱ x y ps) (pairⁱ z w qs) cl dl e =
      let f = sym (pairs_assoc x y ps (comment_keys 9 cl)) ∙ e ∙ pairs_assoc z w qs (comment_keys 9 dl) in
      let a = image_inj x z (image_keys y ++ (pairs_keys ps ++ comment_keys 9 cl)) (image_keys w ++ (pairs_keys qs ++ comment_keys 9 dl)) (image_first y _) (image_first w _) f in
      let b = image_inj y w (pairs_keys ps ++ comment_keys 9 cl) (pairs_keys qs ++ comment_keys 9 dl) (pairs_first ps cl) (pairs_first qs dl) a.1 in
      let c = pairs_inj ps qs cl dl b.1 in
      (λ i. pairⁱ (a.0 i) (b.0 i) (c.0 i), c.1)

-- ---- the comparison says whether the images are equal

module _ (s : List ℕ) (a : TokenTree) (t : List ℕ) (b : TokenTree) where
  pub same_image : same_records s (tree_records a) t (tree_records b) ≡ true → image_of s a ≡ image_of t b
  same_image e =
      let k = sym (tree_keys s a) ∙ same_keys s (tree_records a) t (tree_records b) e ∙ tree_keys t b in
      (image_inj (image_of s a) (image_of t b) [] [] tt tt (ap (λ (x : List Key). x ++ []) k)).0

  pub image_same : image_of s a ≡ image_of t b → same_records s (tree_records a) t (tree_records b) ≡ true
  image_same e = keys_same s (tree_records a) t (tree_records b) (tree_keys s a ∙ ap image_keys e ∙ sym (tree_keys t b))

-- so does the call, on two texts with their finished tables
module _ (s a t b : List ℕ) (x y : TokenTree) (e : read_finished s a ≡ done x) (f : read_finished t b ≡ done y) where
  pub compared_image : compare_call s a t b ≡ done true → image_of s x ≡ image_of t y
  compared_image h =
      let z : done (same_records s (tree_records x) t (tree_records y)) ≡ done true = sym (call_is s a t b x y e f) ∙ h in
      same_image s x t y (cc)

  pub image_compared : image_of s x ≡ image_of t y → compare_call s a t b ≡ done true
  image_compared h = call_is s a t b x y e f ∙ ap done (image_same s x t y h)
