use Rattle.std.proofs.Common.{◌≡◌, ℕ, zero, suc, ◌<◌, Bool, true, false, cond, eqb, ltb, List, [], ◌∷◌, ◌++◌, length, None, sym, refl, ap, ◌∙◌, append-nil, arith, ne_eqb}
-- A whole text read by places is the text read by the definition. Assumes nothing.
use Rattle.eon_spec.specs.Utf8.{is_utf8}
use Rattle.eon_spec.specs.Token.{Token, kind_number, tokens}
use Rattle.eon_spec.specs.Tree.{Span, Slice, TokenTree, TokenTrees, KeyValues, tree, list_of, map_of, no_trees, ◌∷ᵗ◌}
use Rattle.eon_spec.specs.declared.refusal.Refusal.{Refusal}
use Rattle.eon_spec.specs.Refused.{refusal_of}
use Rattle.eon_spec.specs.Parse.{refusal, further as further_paper, Cursor, behind, Read, read, refused, bind as bindP, with_prefix, after_comma, TokenList, TokenMap, Reader, list_contents, list_inside, map_inside, inside_at, none_is_left, top_list, top_of, parse_top, parse}
use Rattle.eon_laws.proofs.Parse.{inside_at_good}
use Rattle.eon_spec.specs.Records.{comments, tree_records, trees_records, pairs_records}
use Rattle.eon_token.specs.Placed.{tokens_at}
use Rattle.eon_token.specs.Place.{Spot, span, kind_at, next_span}
use Rattle.eon_spec.specs.declared.refusal.Reason.TheVariants.{Surplus}
use Rattle.eon_parse.specs.Walk.{refused_at, Out, refuse, got, bind, Records, closes, loop, run, end_of, Item, settled, one, two, inside, header, below}
use Rattle.eon_parse.specs.Top.{further, Shape, denied, asMap, asSingle, asSeveral, denies, gives, whole_of, shape_whole, ended, several_by, list_by, map_by, top_at}
use Rattle.eon_token.proofs.KindCodes.{kind_small}
use Rattle.eon_token.proofs.Places.{Seen, over, comes, see, start_spot}
use Rattle.eon_parse.proofs.Left.{below_far}
use Rattle.eon_parse.proofs.Same.{C, Same, fine, fails, Ran, comments_same, Settled, settle_same, Shown, Listed, Mapped, stops_is, many_end, list_is, list_on, list_off, list_more, list_from, strict, fewer, fewer_comma, list_inside_lem, map_inside_lem, below_same, end_same}

-- a container at the top
map_top : (len : ℕ) (kvs : KeyValues) (cl : List Slice) (ts : Records) → pairs_records kvs ++ comments 9 cl ≡ ts → tree_records (tree (span 0 len) [] (map_of kvs cl) None) ≡ header 5 0 0 len ts ∷ ts
unfolding tree_records
map_top len kvs cl ts e = append-nil _ ∙ ap (λ (x : Records). header 5 0 0 len x ∷ x) e

list_top_lem : (len : ℕ) (vs : TokenTrees) (cl : List Slice) (ts : Records) → trees_records vs ++ comments 9 cl ≡ ts → tree_records (tree (span 0 len) [] (list_of vs cl) None) ≡ header 4 0 0 len ts ∷ ts
unfolding tree_records
list_top_lem len vs cl ts e = append-nil _ ∙ ap (λ (x : Records). header 4 0 0 len x ∷ x) e

module _ (s : List ℕ) (u8 : is_utf8 s ≡ true) where
  abbrev value : Reader
  value = inside_at (length s) 128

  abbrev by : Span → Out Item
  by = below 128 s

  abbrev start : Span
  start = span 0 0

  at_start : Spot s (span 0 0)
  at_start = start_spot s u8

  -- nothing may follow
  none_left : (n : Span) → Spot s n → (t : TokenTree) (x : Shape) → gives (tree_records t) ≡ shape_whole x → whole_of (none_is_left (C s n) t) ≡ shape_whole (ended s n x)
  unfolding none_is_left ended
  none_left n b t x h = go (see s n b)
    where
      E : ℕ → Shape
      E k = cond (eqb k 16) x (denied (refused_at Surplus (next_span s n)))

      go : Seen s n → whole_of (none_is_left (C s n) t) ≡ shape_whole (ended s n x)
      go (over k e) = ap (λ (ts : List Token). whole_of (none_is_left (behind n ts) t)) e ∙ h ∙ sym (ap (λ (m : ℕ). shape_whole (E m)) k)
      go (comes y e p k f g) =
          ap (λ (ts : List Token). whole_of (none_is_left (behind n ts) t)) e
          ∙ ap (λ (sp : Span). denies (refusal 13 sp)) p
          ∙ sym (ap (λ (b : Bool). shape_whole (cond b x (denied (refused_at Surplus (next_span s n))))) (ne_eqb (kind_number y.kind) 16 (λ z. omega (arith, kind_small y.kind))))
          ∙ ap (λ (m : ℕ). shape_whole (E m)) k

  same_args : (l : Span) → Spot s l → Same s (Shown s) (value (C s l)) (by l)
  same_args l b = below_same s 128 l b

  -- the list attempt: what its first step says of it
  turn_p : (f : ℕ) → List Slice → TokenTree → Cursor → Read TokenList
  turn_p f cs v c1 = list_more s value (inside_at_good (length s) 128) by (below_far 128 s) same_args f cs v c1

  on : (f : ℕ) (l : Span) (b : Spot s l) (r : Ran s l) → closes (kind_at s r.to) ≡ false → list_contents value (suc f) (C s l) ≡ bindP (value (C s r.to)) (turn_p f r.found)
  unfolding turn_p
  on f l b r e =
      list_is s value (inside_at_good (length s) 128) by (below_far 128 s) same_args f (C s l)
      ∙ ap (list_from s value (inside_at_good (length s) 128) by (below_far 128 s) same_args f) r.parsed
      ∙ list_on s value (inside_at_good (length s) 128) by (below_far 128 s) same_args f r.found (C s r.to) (end_same s r.to r.spot ∙ e)

  off : (f : ℕ) (l : Span) (b : Spot s l) (r : Ran s l) → closes (kind_at s r.to) ≡ true → list_contents value (suc f) (C s l) ≡ read (record { values = no_trees; closing = r.found }) (C s r.to)
  off f l b r e =
      list_is s value (inside_at_good (length s) 128) by (below_far 128 s) same_args f (C s l)
      ∙ ap (list_from s value (inside_at_good (length s) 128) by (below_far 128 s) same_args f) r.parsed
      ∙ list_off s value (inside_at_good (length s) 128) by (below_far 128 s) same_args f r.found (C s r.to) (end_same s r.to r.spot ∙ e)

  -- an inside that does not end at once has a value
  abbrev Cons : TokenTrees → Type 0
  Cons vs = (u : TokenTree) × (us : TokenTrees) × (vs ≡ u ∷ᵗ us)

  abbrev put_first : TokenTree → TokenList → Cursor → Read TokenList
  put_first t l c2 = read (record { values = t ∷ᵗ l.values; closing = l.closing }) c2

  put_cons : (t : TokenTree) (x : Read TokenList) (l : TokenList) (c : Cursor) → bindP x (put_first t) ≡ read l c → (k : TokenList) × (d : Cursor) × (x ≡ read k d) × (l.values ≡ t ∷ᵗ k.values)
  put_cons t (read k d) l c e = let f : record { values = t ∷ᵗ k.values; closing = k.closing } ≡ l = cc in (k, d, refl, sym (ap (λ (y : TokenList). y.values) f))
  put_cons t (refused r n) l c e = cc

  more_cons : (f : ℕ) (cs : List Slice) (x : Read TokenTree) (l : TokenList) (c : Cursor) → bindP x (turn_p f cs) ≡ read l c → Cons l.values
  unfolding turn_p
  more_cons f cs (read v c1) l c e =
      let p = put_cons (with_prefix cs (after_comma v c1).0) (list_contents value f (after_comma v c1).1) l c e in
      (with_prefix cs (after_comma v c1).0, p.0.values, p.3)
  more_cons f cs (refused r n) l c e = cc

  -- the first step of the list attempt
  one_is : (r : Ran s start) → one s by start ≡ bind (by r.to) (λ i n. bind (settled s i n) (λ ts m. got (comments 7 r.found ++ ts) m))
  unfolding one
  one_is r = ap (λ (o : Out Records). bind o (λ pre p. bind (by p) (λ i n. bind (settled s i n) (λ ts m. got (pre ++ ts) m)))) (r.runs 7)

  cut_is : (f : ℕ) (cs : List Slice) (v : TokenTree) (c : Cursor) (w : TokenTree) (d : Cursor) → after_comma v c ≡ (w, d) → turn_p f cs v c ≡ bindP (list_contents value f d) (put_first (with_prefix cs w))
  unfolding turn_p
  cut_is f cs v c w d e = ap (λ (vc : TokenTree × Cursor). bindP (list_contents value f vc.1) (put_first (with_prefix cs vc.0))) e

  -- a text that ends at once is a map
  opens : (r : Ran s start) (ra : Refusal) (la : ℕ) → inside s (two s by) start ≡ refuse ra la → closes (kind_at s r.to) ≡ false
  unfolding inside loop
  opens r ra la e = go (closes (kind_at s r.to)) refl
    where
      go : (x : Bool) → closes (kind_at s r.to) ≡ x → x ≡ false
      go false q = refl
      go true q =
          let m = many_end s (two s by) (length s) start [] r q in
          cc

  module _ (ra : Refusal) (la : ℕ) where
    further_is : (q : Refusal) (e : ℕ) → denies (further_paper (refusal_of ra) la (refusal_of q) e) ≡ denies (refusal_of (further ra la q e))
    further_is q e = go (ltb la e)
      where
        go : (b : Bool) → denies (cond b (refusal_of q) (refusal_of ra)) ≡ denies (refusal_of (cond b q ra))
        go true = refl
        go false = refl

    -- several values: the whole list
    several : (l : Read TokenList) (o : Out Records) → Same s (Listed s []) l o → ((x : TokenList) (c : Cursor) → l ≡ read x c → (t : TokenTree) × (u : TokenTree) × (us : TokenTrees) × (x.values ≡ t ∷ᵗ (u ∷ᵗ us)))
        → whole_of (top_of (length s) (refused (refusal_of ra) la) l) ≡ shape_whole (several_by s ra la o)
    unfolding several_by
    several l o (fails q e p h) two =
        ap (λ (x : Read TokenList). whole_of (top_of (length s) (refused (refusal_of ra) la) x)) p ∙ further_is q e ∙ sym (ap (λ (x : Out Records). shape_whole (several_by s ra la x)) h)
    several l o (fine x ts n p h sp k) two =
        let t = two x (C s n) p in
        ap (λ (y : Read TokenList). whole_of (top_of (length s) (refused (refusal_of ra) la) y)) p
        ∙ ap (λ (vs : TokenTrees). whole_of (none_is_left (C s n) (top_list (length s) vs x.closing))) t.3
        ∙ none_left n sp (tree (span 0 (length s)) [] (list_of (t.0 ∷ᵗ (t.1 ∷ᵗ t.2)) x.closing) None) (asSeveral (header 4 0 0 (length s) ts ∷ ts))
        (ap gives (list_top_lem (length s) (t.0 ∷ᵗ (t.1 ∷ᵗ t.2)) x.closing ts (ap (λ (vs : TokenTrees). trees_records vs ++ comments 9 x.closing) (sym t.3) ∙ k)))
        ∙ sym (ap (λ (y : Out Records). shape_whole (several_by s ra la y)) h)

    lists : (r : Ran s start) → closes (kind_at s r.to) ≡ false → whole_of (top_of (length s) (refused (refusal_of ra) la) (list_inside value (C s start))) ≡ shape_whole (list_by s ra la (one s by start))
    unfolding list_inside list_by
    lists r e = go (same_args r.to r.spot)
      where
        F : ℕ
        F = length (tokens_at s 0 false)

        first : list_inside value (C s start) ≡ bindP (value (C s r.to)) (turn_p F r.found)
        first = on F start at_start r e

        go : Same s (Shown s) (value (C s r.to)) (by r.to) → whole_of (top_of (length s) (refused (refusal_of ra) la) (list_inside value (C s start))) ≡ shape_whole (list_by s ra la (one s by start))
        go (fails q x p h) =
            ap (λ (l : Read TokenList). whole_of (top_of (length s) (refused (refusal_of ra) la) l)) (first ∙ ap (λ (y : Read TokenTree). bindP y (turn_p F r.found)) p)
            ∙ further_is q x
            ∙ sym (ap (λ (o : Out Records). shape_whole (list_by s ra la o)) (one_is r ∙ ap (λ (y : Out Item). bind y (λ i n. bind (settled s i n) (λ ts m. got (comments 7 r.found ++ ts) m))) h))
        go (fine v i n p h sp k) = then (closes (kind_at s r2.to)) refl F fuel refl
          where
            t : Settled s r.found v i n
            t = settle_same s r.found v i n sp k

            T : TokenTree
            T = with_prefix r.found t.value

            r2 : Ran s t.to
            r2 = comments_same s t.to t.spot

            fuel : length (tokens_at s t.to.end false) < F
            fuel = omega (arith, fewer s value (inside_at_good (length s) 128) by (below_far 128 s) same_args start r, strict s value (inside_at_good (length s) 128) by (below_far 128 s) same_args r.to n v p, fewer_comma s value (inside_at_good (length s) 128) by (below_far 128 s) same_args r.found v i n t)

            cut : turn_p F r.found v (C s n) ≡ bindP (list_contents value F (C s t.to)) (put_first T)
            cut = cut_is F r.found v (C s n) t.value (C s t.to) t.parsed

            second : list_inside value (C s start) ≡ bindP (list_contents value F (C s t.to)) (put_first T)
            second = first ∙ ap (λ (y : Read TokenTree). bindP y (turn_p F r.found)) p ∙ cut

            step : one s by start ≡ got (comments 7 r.found ++ t.recs) t.to
            step = one_is r ∙ ap (λ (y : Out Item). bind y (λ i n. bind (settled s i n) (λ ts m. got (comments 7 r.found ++ ts) m))) h ∙ ap (λ (o : Out Records). bind o (λ ts m. got (comments 7 r.found ++ ts) m)) t.is

            L : Bool → Shape
            L b = cond b (ended s (end_of (run s 7 t.to)) (asSingle (comments 7 r.found ++ t.recs))) (several_by s ra la (inside s (one s by) start))

            then : (x : Bool) → closes (kind_at s r2.to) ≡ x → (f : ℕ) → length (tokens_at s t.to.end false) < f → F ≡ f
                → whole_of (top_of (length s) (refused (refusal_of ra) la) (list_inside value (C s start))) ≡ shape_whole (list_by s ra la (one s by start))
            then x q zero lt eq = absurd (omega arith)
            then true q (suc f) lt eq =
                ap (λ (l : Read TokenList). whole_of (top_of (length s) (refused (refusal_of ra) la) l))
                (second ∙ ap (λ (g : ℕ). bindP (list_contents value g (C s t.to)) (put_first T)) eq ∙ ap (λ (y : Read TokenList). bindP y (put_first T)) (off f t.to t.spot r2 q))
                ∙ none_left r2.to r2.spot T (asSingle (comments 7 r.found ++ t.recs)) (ap gives t.shown)
                ∙ ap (λ (l : Span). shape_whole (ended s l (asSingle (comments 7 r.found ++ t.recs)))) (sym (ap end_of (r2.runs 7)))
                ∙ sym (ap (λ (b : Bool). shape_whole (L b)) (stops_is s t.to r2 ∙ q))
                ∙ sym (ap (λ (o : Out Records). shape_whole (list_by s ra la o)) step)
            then false q (suc f) lt eq =
                several (list_inside value (C s start)) (inside s (one s by) start) (list_inside_lem s value (inside_at_good (length s) 128) by (below_far 128 s) same_args start at_start)
                (λ x c z.
                let a = put_cons T (list_contents value (suc f) (C s t.to)) x c (sym (second ∙ ap (λ (g : ℕ). bindP (list_contents value g (C s t.to)) (put_first T)) eq) ∙ z) in
                let d = more_cons f r2.found (value (C s r2.to)) a.0 a.1 (sym (on f t.to t.spot r2 q) ∙ a.2) in
                (T, d.0, d.1, a.3 ∙ ap (λ (us : TokenTrees). T ∷ᵗ us) d.2))
                ∙ sym (ap (λ (b : Bool). shape_whole (L b)) (stops_is s t.to r2 ∙ q))
                ∙ sym (ap (λ (o : Out Records). shape_whole (list_by s ra la o)) step)

  pub whole_is : whole_of (parse s) ≡ shape_whole (top_at s)
  unfolding parse parse_top tokens top_at map_by
  whole_is = go (map_inside_lem s value (inside_at_good (length s) 128) by (below_far 128 s) same_args start at_start)
    where
      go : Same s (Mapped s []) (map_inside value (C s start)) (inside s (two s by) start) → whole_of (top_of (length s) (map_inside value (C s start)) (list_inside value (C s start))) ≡ shape_whole (map_by s (inside s (two s by) start))
      go (fine m ts n p h sp k) =
          ap (λ (x : Read TokenMap). whole_of (top_of (length s) x (list_inside value (C s start)))) p
          ∙ none_left n sp (tree (span 0 (length s)) [] (map_of m.key_values m.closing) None) (asMap (header 5 0 0 (length s) ts ∷ ts)) (ap gives (map_top (length s) m.key_values m.closing ts k))
          ∙ sym (ap (λ (o : Out Records). shape_whole (map_by s o)) h)
      go (fails ra la p h) =
          ap (λ (x : Read TokenMap). whole_of (top_of (length s) x (list_inside value (C s start)))) p
          ∙ lists ra la (comments_same s start at_start) (opens (comments_same s start at_start) ra la h)
          ∙ sym (ap (λ (o : Out Records). shape_whole (map_by s o)) h)
