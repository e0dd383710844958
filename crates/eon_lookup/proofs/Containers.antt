-- A value that is a list or a map, by its record's own size.
use Rattle.std.proofs.Common.{◌≡◌, sym, subst, List, ℕ, ◌+◌}
use Rattle.eon_spec.specs.Tree.{Slice, TokenTrees, TokenValue, KeyValues, list_of, map_of}
use Rattle.eon_table.specs.Words.{word}
use Rattle.eon_table.specs.TreeAt.{ValueAt, InsideAt, PairedAt}
use Rattle.eon_table.proofs.Here.{list_is, map_is}
use Rattle.eon_table.proofs.Walk.{list_inside_lem, map_inside_lem}

module _ (s tb : List ℕ) (i end : ℕ) (e : end ≡ i + word tb i 4) (v : TokenValue) (h : ValueAt s tb i v) where
  pub record TheList : Type 0 where
    pub items : TokenTrees
    pub closing : List Slice
    pub is : v ≡ list_of items closing
    pub at : ValueAt s tb i (list_of items closing)
    pub inside : InsideAt s tb end (i + 1) items closing

  pub the_list : word tb i 0 ≡ 4 → TheList
  the_list k =
      let z = list_is s tb i end e v h k in
      record { items = z.items; closing = z.closing; is = z.is; at = subst (ValueAt s tb i) z.is h; inside = z.inside }

  pub record TheMap : Type 0 where
    pub items : KeyValues
    pub closing : List Slice
    pub is : v ≡ map_of items closing
    pub at : ValueAt s tb i (map_of items closing)
    pub inside : PairedAt s tb end (i + 1) items closing

  pub the_map : word tb i 0 ≡ 5 → TheMap
  the_map k =
      let z = map_is s tb i end e v h k in
      record { items = z.items; closing = z.closing; is = z.is; at = subst (ValueAt s tb i) z.is h; inside = z.inside }

-- what stands in a list, or in a map
pub in_list : {s tb : List ℕ} {end : ℕ} {vs : TokenTrees} {cl : List Slice} (i : ℕ) → end ≡ i + word tb i 4 → ValueAt s tb i (list_of vs cl) → InsideAt s tb end (i + 1) vs cl
in_list {s} {tb} {end} {vs} {cl} i e h = subst (λ (j : ℕ). InsideAt s tb j (i + 1) vs cl) (sym e) (list_inside_lem s tb i vs cl h)

pub in_map : {s tb : List ℕ} {end : ℕ} {kvs : KeyValues} {cl : List Slice} (i : ℕ) → end ≡ i + word tb i 4 → ValueAt s tb i (map_of kvs cl) → PairedAt s tb end (i + 1) kvs cl
in_map {s} {tb} {end} {kvs} {cl} i e h = subst (λ (j : ℕ). PairedAt s tb j (i + 1) kvs cl) (sym e) (map_inside_lem s tb i kvs cl h)
