-- A record's number is never the word of 'none': an event has few records. So an entry holds that word exactly if its path reaches nothing.
use Rattle.std.proofs.Common.{◌≡◌, refl, subst, Bool, true, false, ◌||◌, List, [], ◌∷◌, ℕ, suc, ◌<◌, arith, length, eqb}
use Rattle.eon_spec.specs.Base.{elem}
use Rattle.eon_spec.specs.Tree.{TokenTree}
use Rattle.eon_spec.specs.Records.{tree_records}
use Rattle.eon_spec.specs.Calls.{done, read_finished}
use Rattle.eon_spec.specs.Lookup.{none_word, Path, reached, SomeOf}
use Rattle.eon_laws.proofs.Facts.{clash, eq_of, false_of}
use Rattle.eon_laws.proofs.Numbers.{short_text}
use Rattle.eon_laws.proofs.Records.{tree_size, tree_size_lem}
use Rattle.eon_laws.proofs.Spans.{few_records}
use Rattle.eon_table.proofs.Finished.{finished_words, read_finished_lem}
use Rattle.eon_lookup.proofs.Reached.{Rising, reached_rising}

rising_below : (lo hi m : ℕ) (ns : List ℕ) → Rising lo hi ns → elem m ns ≡ true → m < hi
rising_below lo hi m [] h e = clash e refl
rising_below lo hi m (n ∷ ns) h e = go (eqb m n) refl e (rising_below (suc n) hi m ns h.2)
  where
    go : (b : Bool) → eqb m n ≡ b → b || elem m ns ≡ true → (elem m ns ≡ true → m < hi) → m < hi
    go true p e rec = omega (arith, h.1, eq_of m n p)
    go false p e rec = rec e

module _ (s tb : List ℕ) (t : TokenTree) (e : read_finished s tb ≡ done t) where
  -- no record has the number of 'none'
  pub few_numbers : length (tree_records t) < none_word
  few_numbers =
      let f = read_finished_lem s tb t e in
      omega (arith, few_records s f.utf8 t f.parses, short_text s t (finished_words s tb t e).0)

  pub small_tree : tree_size t < none_word
  small_tree = omega (arith, few_numbers, tree_size_lem t)

  pub none_unreached : (ks : Path) → elem none_word (reached 0 t ks) ≡ false
  none_unreached ks = false_of (elem none_word (reached 0 t ks)) λ m. omega (arith, few_numbers, rising_below 0 (length (tree_records t)) none_word (reached 0 t ks) (reached_rising t ks) m)

  -- "The answer holds 'none' exactly if no such value exists"
  pub none_exactly : (ks : Path) (w : ℕ) → SomeOf (reached 0 t ks) w → w ≡ none_word → reached 0 t ks ≡ []
  none_exactly ks w h z = go (reached 0 t ks) h (none_unreached ks)
    where
      go : (ns : List ℕ) → SomeOf ns w → elem none_word ns ≡ false → ns ≡ []
      go [] h f = refl
      go (n ∷ ns) h f = clash (subst (λ (x : ℕ). elem x (n ∷ ns) ≡ true) z h) f

pub nothing_none : (ns : List ℕ) (w : ℕ) → SomeOf ns w → ns ≡ [] → w ≡ none_word
nothing_none [] w h e = h
nothing_none (n ∷ ns) w h e = cc
