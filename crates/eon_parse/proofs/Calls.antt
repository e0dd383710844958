-- What the calls answer is what `Calls` says of a text. Assumes nothing.
use Rattle.std.proofs.Common.{◌≡◌, ℕ, suc, ◌+◌, ◌*◌, ◌<◌, ◌≤◌, Bool, true, false, cond, ◌&&◌, eqb, ltb, List, [], ◌∷◌, length, get_or, take, drop, Ok, Err, Result, sym, refl, ap, ◌∙◌, subst, arith, drop_of_length-le, drop-cons, ltb-false, ltb-true, le-leb}
use Rattle.std.proofs.lemmas.Bool.{lt-leb}
use lib.Seq.{sets}
use Rattle.eon_spec.specs.Base.{eq_list}
use Rattle.eon_spec.specs.Refused as refused
use Rattle.eon_spec.specs.Refused.{refusal_of}
use Rattle.eon_spec.specs.declared.refusal.Refusal.{Refusal}
use Rattle.eon_spec.specs.declared.refusal.Reason.TheVariants.{Surplus}
use Rattle.eon_spec.specs.Utf8.{is_utf8}
use Rattle.eon_spec.specs.Tree.{Span, TokenTree}
use Rattle.eon_spec.specs.Parse.{Parsed, parsed, refused_by, parse}
use Rattle.eon_spec.specs.Records.{words, tree_records}
use Rattle.eon_laws.proofs.Facts.{list_same}
use Rattle.eon_laws.proofs.Records.{words_length}
use Rattle.eon_laws.proofs.Checked.{checked_good, checked_then}
use Rattle.eon_spec.specs.Calls.{Outcome, done, refused_with, nowhere, checked, parsed_outcome, read_text, then, written, after, outcome_of, fill, read_call, is_finished, read_finished}
use Rattle.eon_token.specs.Place.{span, kind_at, next_span, Spot}
use Rattle.eon_parse.specs.Walk.{refused_at, Out, refuse, got, Records, one, two, inside, header, below, stops, run, end_of}
use Rattle.eon_parse.specs.Top.{Shape, denied, asMap, asSingle, asSeveral, Whole, denies, gives, whole_of, shape_whole, ended, several_by, list_by, map_by, top_at}
use Rattle.eon_parse.specs.Tops.{Starts, topped, top_view, Held}
use Rattle.eon_parse.specs.Answer.{place, agrees, holds, stored, Stored}
use Rattle.eon_parse.specs.Call.{count_of}
use Rattle.eon_token.proofs.Places.{start_spot}
use Rattle.eon_parse.specs.declared.walk.Walk.{Walk}
use Rattle.eon_parse.specs.declared.top.Top.{Top}
use Rattle.eon_parse.specs.declared.top.Form.TheVariants as form
use Rattle.eon_parse.proofs.Left.{map_reach, list_reach, one_far, below_far}
use Rattle.eon_parse.proofs.Store.{sets_front}
use Rattle.eon_parse.proofs.Tops.{start_place, start_count}
use Rattle.eon_parse.proofs.Whole.{whole_is}

-- ---- the comparison is the definition's

pick_and : (a b : Bool) → cond a b false ≡ a && b
pick_and true b = refl
pick_and false b = refl

pub agrees_list : (tb : List ℕ) (ws : List ℕ) (i : ℕ) → agrees tb i ws ≡ eq_list (take (length ws) (drop i tb)) ws
unfolding agrees holds
agrees_list tb [] i = refl
agrees_list tb (w ∷ ws) i = go (ltb i (length tb)) refl (agrees_list tb ws (suc i))
  where
    go : (b : Bool) → ltb i (length tb) ≡ b → agrees tb (suc i) ws ≡ eq_list (take (length ws) (drop (suc i) tb)) ws
        → cond (cond (ltb i (length tb)) (eqb (get_or tb i 0) w) false) (agrees tb (suc i) ws) false ≡ eq_list (take (suc (length ws)) (drop i tb)) (w ∷ ws)
    go true e h =
        ap (λ (z : Bool). cond (cond z (eqb (get_or tb i 0) w) false) (agrees tb (suc i) ws) false) e
        ∙ pick_and (eqb (get_or tb i 0) w) (agrees tb (suc i) ws)
        ∙ ap (λ (z : Bool). eqb (get_or tb i 0) w && z) h
        ∙ ap (λ (l : List ℕ). eq_list (take (suc (length ws)) l) (w ∷ ws)) (sym (drop-cons tb i 0 (ltb-true i (length tb) e)))
    go false e h =
        ap (λ (z : Bool). cond (cond z (eqb (get_or tb i 0) w) false) (agrees tb (suc i) ws) false) e
        ∙ ap (λ (l : List ℕ). eq_list (take (suc (length ws)) l) (w ∷ ws)) (sym (drop_of_length-le tb (ltb-false i (length tb) e)))

-- ---- the outcome of a shape

abbrev whole_out : Whole → Outcome (ℕ × List ℕ)
whole_out (denies r) = refused_with r
whole_out (gives ts) = done (length ts, words ts)

then_out : (p : Parsed) → then (parsed_outcome p) (λ t. done (length (tree_records t), words (tree_records t))) ≡ whole_out (whole_of p)
then_out (parsed t) = refl
then_out (refused_by r) = refl

abbrev fin_out : List ℕ → Whole → Outcome ℕ
fin_out tb (denies r) = refused_with r
fin_out tb (gives ts) = cond (eq_list (take (length (words ts)) tb) (words ts)) (done (length ts)) (refused_with (nowhere 15))

abbrev pub finish : List ℕ → TokenTree → Outcome TokenTree
finish tb t = elim (is_finished tb t) [ true ↦ done t | false ↦ refused_with (nowhere 15) ]

then_fin : (tb : List ℕ) (p : Parsed) → then (then (parsed_outcome p) (finish tb)) count_of ≡ fin_out tb (whole_of p)
unfolding is_finished
then_fin tb (refused_by r) = refl
then_fin tb (parsed t) = go (is_finished tb t)
  where
    go : (b : Bool) → then (elim b [ true ↦ done t | false ↦ refused_with (nowhere 15) ]) count_of ≡ cond b (done (length (tree_records t))) (refused_with (nowhere 15))
    go true = refl
    go false = refl

module _ (s tb : List ℕ) (u8 : is_utf8 s ≡ true) (short : length s ≤ 65535) where
  pub text_is : read_text s ≡ parsed_outcome (parse s)
  unfolding read_text
  text_is = checked_good s (λ t. parsed_outcome (parse t)) short u8

  read_is : read_call s tb ≡ fill tb (whole_out (shape_whole (top_at s)))
  unfolding read_call
  read_is = ap (λ (o : Outcome TokenTree). fill tb (then o (λ t. done (length (tree_records t), words (tree_records t))))) text_is ∙ ap (fill tb) (then_out (parse s) ∙ ap whole_out (whole_is s u8))

  fin_is : then (read_finished s tb) count_of ≡ fin_out tb (shape_whole (top_at s))
  unfolding read_finished
  fin_is = ap (λ (o : Outcome TokenTree). then (then o (finish tb)) count_of) text_is ∙ then_fin tb (parse s) ∙ ap (fin_out tb) (whole_is s u8)

  -- ---- the ways to a shape

  abbrev map_o : Out Records
  map_o = inside s (two s (below 128 s)) (span 0 0)

  abbrev one_o : Out Records
  one_o = one s (below 128 s) (span 0 0)

  abbrev list_o : Out Records
  list_o = inside s (one s (below 128 s)) (span 0 0)

  data Way (x : Shape) : Type 0 where
    no_way : (r : Refusal) → x ≡ denied r → Way x
    map_way : (ts : Records) (l : Span) → map_o ≡ got ts l → x ≡ asMap (header 5 0 0 (length s) ts ∷ ts) → Way x
    one_way : (ts : Records) (l : Span) → one_o ≡ got ts l → x ≡ asSingle ts → Way x
    list_way : (ts : Records) (l : Span) → list_o ≡ got ts l → x ≡ asSeveral (header 4 0 0 (length s) ts ∷ ts) → Way x

  end_way : (l : Span) (x : Shape) → Way x → Way (ended s l x)
  unfolding ended
  end_way l x w = go (eqb (kind_at s l) 16) (refused_at Surplus (next_span s l))
    where
      go : (b : Bool) (r : Refusal) → Way (cond b x (denied r))
      go true r = w
      go false r = no_way r refl

  several_way : (ra : Refusal) (la : ℕ) (o : Out Records) → list_o ≡ o → Way (several_by s ra la o)
  unfolding several_by
  several_way ra la (refuse rb lb) e = no_way _ refl
  several_way ra la (got ts l) e = end_way l _ (list_way ts l e refl)

  lists_way : (ra : Refusal) (la : ℕ) (o : Out Records) → one_o ≡ o → Way (list_by s ra la o)
  unfolding list_by
  lists_way ra la (refuse rb lb) e = no_way _ refl
  lists_way ra la (got ts p) e = go (stops s p)
    where
      go : (b : Bool) → Way (cond b (ended s (end_of (run s 7 p)) (asSingle ts)) (several_by s ra la list_o))
      go true = end_way (end_of (run s 7 p)) (asSingle ts) (one_way ts p e refl)
      go false = several_way ra la list_o refl

  maps_way : (o : Out Records) → map_o ≡ o → Way (map_by s o)
  unfolding map_by
  maps_way (got ts l) e = end_way l _ (map_way ts l e refl)
  maps_way (refuse ra la) e = lists_way ra la one_o refl

  way : Way (top_at s)
  unfolding top_at
  way = maps_way map_o refl

  -- ---- what the walk tells of the text

  pub record Told (x : Shape) (old : List ℕ) (b : Bool) (t : Top) : Type 0 where
    pub records : Records
    pub gives_it : shape_whole x ≡ gives records
    pub count : t.count ≡ length records
    pub same : t.same ≡ cond b (agrees old 0 (words records)) false

  pub told : (x : Shape) (old : List ℕ) (b : Bool) (t : Top) → top_view old b x ≡ Ok t → Told x old b t
  told (denied r) old b t e = cc
  told (asMap ts) old b t e = record { records = ts; gives_it = refl; count = cc; same = cc }
  told (asSingle ts) old b t e = record { records = ts; gives_it = refl; count = cc; same = cc }
  told (asSeveral ts) old b t e = record { records = ts; gives_it = refl; count = cc; same = cc }

  pub untold : (x : Shape) (old : List ℕ) (b : Bool) (r : Refusal) → top_view old b x ≡ Err r → shape_whole x ≡ denies (refusal_of r)
  untold (denied q) old b r e = let z : q ≡ r = cc in ap (λ (y : Refusal). denies (refusal_of y)) z
  untold (asMap ts) old b r e = cc
  untold (asSingle ts) old b r e = cc
  untold (asSeveral ts) old b r e = cc

  few_of : (x : Shape) → Way x → (ts : Records) → shape_whole x ≡ gives ts → length ts ≤ length s + 1
  few_of x (no_way r e) ts f = let z = sym (ap shape_whole e) ∙ f in cc
  few_of x (map_way us l o e) ts f =
      let g : (0 + length us ≤ l.end) × Spot s l = rw o at (map_reach s (below 128 s) (below_far 128 s) (span 0 0) (start_spot s u8)) in
      let z : gives (header 5 0 0 (length s) us ∷ us) ≡ gives ts = sym (ap shape_whole e) ∙ f in
      let q : header 5 0 0 (length s) us ∷ us ≡ ts = cc in
      omega (arith, g.0, g.1.within, ap (λ (l : Records). length l) q)
  few_of x (one_way us l o e) ts f =
      let g : (0 + length us ≤ l.end) × (0 < l.end) × Spot s l = rw o at (one_far s (below 128 s) (below_far 128 s) (span 0 0) (start_spot s u8)) in
      let z : gives us ≡ gives ts = sym (ap shape_whole e) ∙ f in
      let q : us ≡ ts = cc in
      omega (arith, g.0, g.2.within, ap (λ (l : Records). length l) q)
  few_of x (list_way us l o e) ts f =
      let g : (0 + length us ≤ l.end) × Spot s l = rw o at (list_reach s (below 128 s) (below_far 128 s) (span 0 0) (start_spot s u8)) in
      let z : gives (header 4 0 0 (length s) us ∷ us) ≡ gives ts = sym (ap shape_whole e) ∙ f in
      let q : header 4 0 0 (length s) us ∷ us ≡ ts = cc in
      omega (arith, g.0, g.1.within, ap (λ (l : Records). length l) q)

  pub few : (ts : Records) → shape_whole (top_at s) ≡ gives ts → length ts ≤ length s + 1
  few = few_of (top_at s) way

  pub few_told : (old : List ℕ) (b : Bool) (t : Top) → top_view old b (top_at s) ≡ Ok t → t.count ≤ 65536
  few_told old b t e = let k = told (top_at s) old b t e in omega (arith, k.count, few k.records k.gives_it, short)

  -- ---- reading

  pub read_no : (old : List ℕ) (b : Bool) (r : Refusal) → top_view old b (top_at s) ≡ Err r → after (refused_with (refusal_of r)) tb ≡ read_call s tb
  unfolding fill
  read_no old b r e = sym (read_is ∙ ap (λ (w : Whole). fill tb (whole_out w)) (untold (top_at s) old b r e))

  pub read_full : (old : List ℕ) (b : Bool) (t : Top) → top_view old b (top_at s) ≡ Ok t → length tb < 5 * t.count → after (refused_with (nowhere 14)) tb ≡ read_call s tb
  unfolding fill
  read_full old b t e h =
      let k = told (top_at s) old b t e in
      let n : length tb < length (words k.records) = omega (arith, words_length k.records, k.count) in
      sym (read_is ∙ ap (λ (w : Whole). fill tb (whole_out w)) k.gives_it ∙ rw (lt-leb (length (words k.records)) (length tb) n, fill))

  room : (ts : Records) → shape_whole (top_at s) ≡ gives ts → (n : ℕ) → n ≡ length ts → 5 * n ≤ length tb → (tb' : List ℕ) → tb' ≡ sets tb 0 (words ts) → after (done n) tb' ≡ read_call s tb
  unfolding fill
  room ts e n c h tb' f =
      let k : length (words ts) ≤ length tb = omega (arith, words_length ts) in
      let q : read_call s tb ≡ after (done (length ts)) (written (words ts) tb) = read_is ∙ ap (λ (w : Whole). fill tb (whole_out w)) e ∙ rw (le-leb (length (words ts)) (length tb) k, fill) in
      ap (λ (m : ℕ). after (done m) tb') c ∙ ap (after (done (length ts))) (f ∙ sets_front tb (words ts) (length (words ts)) refl k) ∙ sym q

  module _ (w : Walk) (st : Starts s w) (old : List ℕ) (b : Bool) (t : Top) (e : top_view old b (top_at s) ≡ Ok t) (h : 5 * t.count ≤ length tb) (tb' : List ℕ) where
    at_start : (ts : Records) → tb' ≡ stored tb w ts → tb' ≡ sets tb 0 (words ts)
    at_start ts f = f ∙ ap (λ (n : ℕ). sets tb (5 * n) (words ts)) (start_count s w st)

    filled : (o : Out Records) (ts : Records) (l : Span) → o ≡ got ts l → (x : Shape) → top_at s ≡ x → shape_whole x ≡ gives ts → t.count ≡ length ts → Stored tb w o tb' → after (done t.count) tb' ≡ read_call s tb
    filled o ts l q x p g c f = room ts (ap shape_whole p ∙ g) t.count c h tb' (at_start ts (subst (λ (z : Out Records). Stored tb w z tb') q f))

    pub read_map : t.form ≡ form.Map → Stored tb w (topped (length s) 5 map_o) tb' → after (done t.count) tb' ≡ read_call s tb
    read_map f g = go way
      where
        go : Way (top_at s) → after (done t.count) tb' ≡ read_call s tb
        go (no_way r x) = let z = sym (ap (top_view old b) x) ∙ e in cc
        go (map_way ts l o x) = let z = sym (ap (top_view old b) x) ∙ e in filled (topped (length s) 5 map_o) (header 5 0 0 (length s) ts ∷ ts) l (ap (topped (length s) 5) o) _ x refl (cc) g
        go (one_way ts l o x) = let z = sym (ap (top_view old b) x) ∙ e in let q : form.Single ≡ t.form = cc in cc
        go (list_way ts l o x) = let z = sym (ap (top_view old b) x) ∙ e in let q : form.Several ≡ t.form = cc in cc

    pub read_single : t.form ≡ form.Single → Stored tb w (one s (below 128 s) (place w)) tb' → after (done t.count) tb' ≡ read_call s tb
    read_single f g = go way
      where
        go : Way (top_at s) → after (done t.count) tb' ≡ read_call s tb
        go (no_way r x) = let z = sym (ap (top_view old b) x) ∙ e in cc
        go (map_way ts l o x) = let z = sym (ap (top_view old b) x) ∙ e in let q : form.Map ≡ t.form = cc in cc
        go (one_way ts l o x) = let z = sym (ap (top_view old b) x) ∙ e in filled (one s (below 128 s) (place w)) ts l (ap (one s (below 128 s)) (start_place s w st) ∙ o) _ x refl (cc) g
        go (list_way ts l o x) = let z = sym (ap (top_view old b) x) ∙ e in let q : form.Several ≡ t.form = cc in cc

    pub read_several : t.form ≡ form.Several → Stored tb w (topped (length s) 4 list_o) tb' → after (done t.count) tb' ≡ read_call s tb
    read_several f g = go way
      where
        go : Way (top_at s) → after (done t.count) tb' ≡ read_call s tb
        go (no_way r x) = let z = sym (ap (top_view old b) x) ∙ e in cc
        go (map_way ts l o x) = let z = sym (ap (top_view old b) x) ∙ e in let q : form.Map ≡ t.form = cc in cc
        go (one_way ts l o x) = let z = sym (ap (top_view old b) x) ∙ e in let q : form.Single ≡ t.form = cc in cc
        go (list_way ts l o x) = let z = sym (ap (top_view old b) x) ∙ e in filled (topped (length s) 4 list_o) (header 4 0 0 (length s) ts ∷ ts) l (ap (topped (length s) 4) o) _ x refl (cc) g

  -- ---- a finished table

  pub finished_no : (r : Refusal) → top_view tb true (top_at s) ≡ Err r → refused_with (refusal_of r) ≡ then (read_finished s tb) count_of
  finished_no r e = sym (fin_is ∙ ap (fin_out tb) (untold (top_at s) tb true r e))

  pub finished_by : (t : Top) → top_view tb true (top_at s) ≡ Ok t → cond t.same (done t.count) (refused_with (nowhere 15)) ≡ then (read_finished s tb) count_of
  finished_by t e =
      let k = told (top_at s) tb true t e in
      ap (λ (x : Bool). cond x (done t.count) (refused_with (nowhere 15))) (k.same ∙ agrees_list tb (words k.records) 0)
      ∙ ap (λ (m : ℕ). cond (eq_list (take (length (words k.records)) tb) (words k.records)) (done m) (refused_with (nowhere 15))) k.count
      ∙ sym (fin_is ∙ ap (fin_out tb) k.gives_it)

  -- ---- a text in one walk

  pub record Once (a : Result ℕ Refusal) (tb' : List ℕ) : Type 0 where
    pub count : outcome_of a ≡ then (read_text s) count_of
    pub table : read_finished s tb' ≡ read_text s

  once_of : (tb' : List ℕ) (p : Parsed) (a : Result ℕ Refusal) → outcome_of a ≡ then (parsed_outcome p) count_of → then (parsed_outcome p) (finish tb') ≡ parsed_outcome p → read_text s ≡ parsed_outcome p → Once a tb'
  unfolding read_finished
  once_of tb' p a e f g = record { count = e ∙ ap (λ (o : Outcome TokenTree). then o count_of) (sym g); table = ap (λ (o : Outcome TokenTree). then o (finish tb')) g ∙ f ∙ sym g }

  once_denied : (tb' : List ℕ) (p : Parsed) (r : Refusal) → whole_of p ≡ denies (refusal_of r) → read_text s ≡ parsed_outcome p → Once (Err r) tb'
  once_denied tb' (parsed t) r e g = cc
  once_denied tb' (refused_by q) r e g = let z : q ≡ refusal_of r = cc in once_of tb' (refused_by q) (Err r) (ap refused_with (sym z)) refl g

  once_given : (tb' : List ℕ) (p : Parsed) (n : ℕ) (ts : Records) → whole_of p ≡ gives ts → n ≡ length ts → take (length (words ts)) tb' ≡ words ts → read_text s ≡ parsed_outcome p → Once (Ok n) tb'
  unfolding is_finished
  once_given tb' (refused_by q) n ts e c h g = cc
  once_given tb' (parsed t) n ts e c h g =
      let z : tree_records t ≡ ts = cc in
      once_of tb' (parsed t) (Ok n) (ap done (c ∙ ap (λ (l : Records). length l) (sym z)))
      (is_there (is_finished tb' t) (ap (λ (l : Records). eq_list (take (length (words l)) tb') (words l)) z ∙ ap (λ (l : List ℕ). eq_list l (words ts)) h ∙ list_same (words ts))) g
    where
      is_there : (b : Bool) → b ≡ true → elim b as (λ x. Outcome TokenTree) [ true ↦ done t | false ↦ refused_with (nowhere 15) ] ≡ done t
      is_there true e = refl
      is_there false e = cc

  module _ (old : List ℕ) (b : Bool) (tb' : List ℕ) where
    pub once_no : (r : Refusal) → top_view old b (top_at s) ≡ Err r → Once (Err r) tb'
    once_no r e = once_denied tb' (parse s) r (whole_is s u8 ∙ untold (top_at s) old b r e) text_is

    pub once_yes : (t : Top) → top_view old b (top_at s) ≡ Ok t → 5 * (length s + 1) ≤ length tb → Held (shape_whole (top_at s)) tb tb' → Once (Ok t.count) tb'
    once_yes t e h held =
        let k = told (top_at s) old b t e in
        let f : Held (gives k.records) tb tb' = subst (λ (x : Whole). Held x tb tb') k.gives_it held in
        once_given tb' (parse s) t.count k.records (whole_is s u8 ∙ k.gives_it) k.count (f (omega (arith, words_length k.records, few k.records k.gives_it))) text_is

-- ---- a text that can not be read

module _ (s tb : List ℕ) (r : Refusal) (e : checked s done ≡ refused_with (refusal_of r)) where
  unread : read_text s ≡ refused_with (refusal_of r)
  unfolding read_text
  unread = checked_then s (λ t. parsed_outcome (parse t)) ∙ ap (λ (o : Outcome (List ℕ)). then o (λ t. parsed_outcome (parse t))) e

  pub read_refused : after (refused_with (refusal_of r)) tb ≡ read_call s tb
  unfolding read_call fill
  read_refused = sym (ap (λ (o : Outcome TokenTree). fill tb (then o (λ t. done (length (tree_records t), words (tree_records t))))) unread)

  pub finished_refused : refused_with (refusal_of r) ≡ then (read_finished s tb) count_of
  unfolding read_finished
  finished_refused = sym (ap (λ (o : Outcome TokenTree). then (then o (finish tb)) count_of) unread)

  pub text_refused : refused_with (refusal_of r) ≡ then (read_text s) count_of
  text_refused = sym (ap (λ (o : Outcome TokenTree). then o count_of) unread)

  pub once_refused : read_finished s tb ≡ read_text s
  unfolding read_finished
  once_refused = ap (λ (o : Outcome TokenTree). then o (finish tb)) unread ∙ sym unread

-- ---- what a count tells of a text: its tree, with as many records, or why there is none

pub found : (x : Outcome TokenTree) (n : ℕ) → done n ≡ then x count_of → (t : TokenTree) × (x ≡ done t) × (n ≡ length (tree_records t))
found (done t) n e = (t, refl, cc)
found (refused_with r) n e = cc

pub lost : (x : Outcome TokenTree) (r : refused.Refusal) → refused_with r ≡ then x count_of → x ≡ refused_with r
lost (done t) r e = cc
lost (refused_with q) r e = cc
