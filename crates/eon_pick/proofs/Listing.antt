-- Laws of the hits: which numbers, how many, what a store at their end leaves, and the call.
use Rattle.std.proofs.Common.{◌≡◌, refl, sym, ap, ◌∙◌, Bool, true, false, cond, List, [], ◌∷◌, ◌++◌, map, length, get_or, set, ℕ, zero, suc, ◌+◌, ◌≤◌, ◌<◌, zero-add, add-one, arith, filter, le-leb}
use Rattle.std.specs.List.{range_with_len, enumerate_from}
use Rattle.std.proofs.lemmas.List.{map-append, length-map}
use Rattle.std.proofs.lemmas.List.FromFn.{length-enumerate_from, get_or-enumerate_from}
use Rattle.std.proofs.lemmas.Bool.{lt-leb}
use Rattle.eon_spec.specs.declared.Hit.{Hit}
use Rattle.eon_spec.specs.Records.{Record, tree_records}
use Rattle.eon_spec.specs.Calls.{done, refused_with, nowhere, after, written, fill}
use Rattle.eon_spec.specs.Pick.{shares_byte, hit_of, hit_then, hits, records_in_call}
use Rattle.eon_table.specs.Words.{record_of, records_of}
use Rattle.eon_table.specs.Finished.{SomeFinished}
use Rattle.eon_table.proofs.Finished.{answers}
use Rattle.eon_pick.specs.Listed.{all_hits}

stored : (hs l : List Hit) (x : Hit) → length hs < length l → set (written hs l) (length hs) x ≡ written (hs ++ (x ∷ [])) l
stored [] [] x p = absurd (omega arith)
stored [] (y ∷ l) x p = refl
stored (h ∷ hs) [] x p = absurd (omega arith)
stored (h ∷ hs) (y ∷ l) x p = ap (λ (r : List Hit). h ∷ r) (stored hs l x (omega arith))

module _ (from to : ℕ) (tb : List ℕ) where
  abbrev shares : ℕ → Bool
  shares i = shares_byte from to (record_of tb i)

  abbrev one : ℕ → Hit
  one i = hit_of i (record_of tb i)

  -- the numbers of the hits
  abbrev pub found : ℕ → List ℕ
  found n = filter shares (range_with_len 0 n)

  -- the hit of a number that stands beside its place
  abbrev pub placed : ℕ × ℕ → Hit
  placed p = one p.1

  listed_from : (a n : ℕ) → map one (filter shares (range_with_len a n)) ≡ hits from to a (records_of tb a n)
  unfolding records_of
  listed_from a zero = refl
  listed_from a (suc n) = go (shares a) (ap (λ (k : ℕ). map one (filter shares (range_with_len k n))) (add-one a) ∙ listed_from (suc a) n)
    where
      go : (b : Bool) → map one (filter shares (range_with_len (a + 1) n)) ≡ hits from to (suc a) (records_of tb (suc a) n)
          → map one (cond b (a ∷ filter shares (range_with_len (a + 1) n)) (filter shares (range_with_len (a + 1) n))) ≡ hit_then b (one a) (hits from to (suc a) (records_of tb (suc a) n))
      go true e = ap (λ (hs : List Hit). one a ∷ hs) e
      go false e = e

  all_listed : (n : ℕ) → map one (found n) ≡ all_hits from to n tb
  unfolding all_hits
  all_listed n = listed_from 0 n

  pub counted : (n : ℕ) → length (found n) ≡ length (all_hits from to n tb)
  counted n = sym (length-map (found n) one) ∙ ap length (all_listed n)

  pub all_placed : (n : ℕ) → map placed (enumerate_from 0 (found n)) ≡ all_hits from to n tb
  all_placed n = go 0 (found n) ∙ all_listed n
    where
      go : (k : ℕ) (is : List ℕ) → map placed (enumerate_from k is) ≡ map one is
      go k [] = refl
      go k (i ∷ is) = ap (λ (hs : List Hit). one i ∷ hs) (go (k + 1) is)

  -- one more is written in a list with room for all
  pub one_more : (n : ℕ) (l : List Hit) (ps : List (ℕ × ℕ)) (p : ℕ × ℕ) → length (all_hits from to n tb) ≤ length l → (length ps < length (enumerate_from 0 (found n))) × (p ≡ get_or (enumerate_from 0 (found n)) (length ps) p)
      → (p.0 < length l) × (set (written (map placed ps) l) p.0 (placed p) ≡ written (map placed (ps ++ (p ∷ []))) l)
  one_more n l ps p room t =
      let k : p.0 ≡ length (map placed ps) = ap (λ (q : ℕ × ℕ). q.0) (t.1 ∙ get_or-enumerate_from 0 (found n) (length ps) p (omega (arith, t.0, length-enumerate_from 0 (found n)))) ∙ zero-add (length ps) ∙ sym (length-map ps placed) in
      let h : length (map placed ps) < length l = omega (arith, t.0, length-map ps placed, length-enumerate_from 0 (found n), counted n) in (
        omega (arith, k),
        ap (λ (m : ℕ). set (written (map placed ps) l) m (placed p)) k ∙ stored (map placed ps) l (placed p) h ∙ ap (λ (hs : List Hit). written hs l) (sym (map-append placed ps (p ∷ []))),
      )

-- ---- the call

module _ {s tb : List ℕ} {n : ℕ} (f : SomeFinished s tb n) (from to : ℕ) (l : List Hit) where
  abbrev list : List Hit
  list = all_hits from to n tb

  listed : fill l (done (length list, list)) ≡ records_in_call s tb from to l
  unfolding all_hits records_in_call
  listed =
      ap (λ (rs : List Record). fill l (let hs = hits from to 0 rs in done (length hs, hs))) f.1.records
      ∙ ap (fill l) (answers f.1 (λ t. let hs = hits from to 0 (tree_records t) in done (length hs, hs)))

  pub too_short : length l < length list → after (refused_with (nowhere 14)) l ≡ records_in_call s tb from to l
  unfolding fill
  too_short h = sym (ap (λ (b : Bool). elim b [ true ↦ after (done (length list)) (written list l) | false ↦ after (refused_with (nowhere 14)) l ]) (lt-leb (length list) (length l) h)) ∙ listed

  pub has_room : length list ≤ length l → after (done (length list)) (written list l) ≡ records_in_call s tb from to l
  unfolding fill
  has_room h = sym (ap (λ (b : Bool). elim b [ true ↦ after (done (length list)) (written list l) | false ↦ after (refused_with (nowhere 14)) l ]) (le-leb (length list) (length l) h)) ∙ listed
