-- The laws of what was put.
use Rattle.std.proofs.Common.{ℕ, ◌+◌, ◌≡◌, refl, sym, ap, ◌∙◌, List, [], ◌++◌, length, length-append, Option, Some, None, arith, rules}
use Rattle.std.proofs.lemmas.Grind.{common_steps}
use Rattle.std.proofs.lemmas.Bool.Decides.{nat_tests}
use Rattle.std.proofs.lemmas.List.Edits.{sets}
use lib.Seq.{length-sets}
use Rattle.eon_put.specs.declared.Measure.{Measure}
use Rattle.eon_put.specs.declared.Writer.{Writer}
use Rattle.eon_laws.proofs.Stores.{sets_append, sets_past}
use Rattle.eon_put.specs.Put.{left_after, Measures, place_after, put_from, Writes}

pub measures_nothing : (m : Measure) → Measures m [] m
measures_nothing m = search rules

left_append : (o : Option ℕ) (m n : ℕ) → left_after (left_after o m) n ≡ left_after o (m + n)
left_append None m n = refl
left_append (Some room) m n = grind (arith, common_steps)

pub measures_append : (m m' m'' : Measure) (b c : List ℕ) → Measures m b m' → Measures m' c m'' → Measures m (b ++ c) m''
measures_append m m' m'' b c e f = f ∙ ap (λ (o : Option ℕ). left_after o (length c)) e ∙ left_append m.left (length b) (length c) ∙ ap (left_after m.left) (sym (length-append b c))

-- ---- what was written

pub writes_nothing : (w : Writer) → Writes w [] w
writes_nothing w = record { same_memory = refl; written = search rules; place = search rules }

put_append : (o : Option ℕ) (b c l : List ℕ) → put_from (place_after o (length b) (length l)) c (put_from o b l) ≡ put_from o (b ++ c) l
put_append None b c l = refl
put_append (Some at) b c l = grind (arith, common_steps, nat_tests, sets_append b c l at, sets_past c (sets l at b) (at + length b), length-sets l at b)

place_append : (o : Option ℕ) (m n size : ℕ) → place_after (place_after o m size) n size ≡ place_after o (m + n) size
place_append None m n size = refl
place_append (Some at) m n size = grind (arith, common_steps, nat_tests)

same_length : (o : Option ℕ) (b l : List ℕ) → length (put_from o b l) ≡ length l
same_length None b l = refl
same_length (Some at) b l = length-sets l at b

pub writes_append : (w w' w'' : Writer) (b c : List ℕ) → Writes w b w' → Writes w' c w'' → Writes w (b ++ c) w''
writes_append w w' w'' b c e f = let l = w.out.now in
    record {
      same_memory = f.same_memory ∙ e.same_memory;
      written = f.written ∙ (λ i. put_from (e.place i) c (e.written i)) ∙ put_append w.at b c l;
      place = f.place
          ∙ (λ i. place_after (e.place i) (length c) (length (e.written i)))
          ∙ ap (place_after _ (length c)) (same_length w.at b l)
          ∙ place_append w.at (length b) (length c) (length l)
          ∙ ap (λ (n : ℕ). place_after w.at n (length l)) (sym (length-append b c));
    }
