-- The root, and the answer.
use Rattle.std.proofs.Common.{◌≡◌, refl, sym, ap, ◌∙◌, Bool, true, false, List, ◌++◌, append_assoc, ℕ, arith}
use Rattle.eon_spec.specs.Tree.{Slice, TokenTree, KeyValues, tree, identifier, number, quoted_string, list_of, map_of, variant_of}
use Rattle.eon_spec.specs.Layout.{Settings, no_key_values, prefix_of, suffix_of, closing, indented_value, map_content, indented_comments, suffix_comment, without_braces, format}
use Rattle.eon_laws.proofs.Facts.{clash}
use Rattle.eon_put.proofs.Going.{Appends, put_as}
use Rattle.eon_table.specs.Words.{AfterPrefix, word}
use Rattle.eon_table.specs.TreeAt.{TreeAt, ValueAt, kind_of, value_of}
use Rattle.eon_table.proofs.Walk.{value_kind, tree_value}

choose_true : (x y : List ℕ) (b : Bool) → b ≡ true → x ≡ elim b [ true ↦ x | false ↦ y ]
choose_true x y true e = refl
choose_true x y false e = clash e refl

choose_false : (x y : List ℕ) (b : Bool) → b ≡ false → y ≡ elim b [ true ↦ x | false ↦ y ]
choose_false x y true e = clash refl e
choose_false x y false e = refl

pub format_braces : (o : Settings) (t : TokenTree) → o.always_include_outer_braces ≡ true → indented_value o 0 t ≡ format o t
unfolding format
format_braces o t e = choose_true (indented_value o 0 t) (without_braces o t) o.always_include_outer_braces e

format_bare : (o : Settings) (t : TokenTree) → o.always_include_outer_braces ≡ false → without_braces o t ≡ format o t
unfolding format
format_bare o t e = choose_false (indented_value o 0 t) (without_braces o t) o.always_include_outer_braces e

without_other : (o : Settings) (t : TokenTree) → (kind_of (value_of t) ≡ 5 → ⊥) → indented_value o 0 t ≡ without_braces o t
without_other o (tree sp p (identifier b) x) e = refl
without_other o (tree sp p (number b) x) e = refl
without_other o (tree sp p (quoted_string b) x) e = refl
without_other o (tree sp p (list_of vs cl) x) e = refl
without_other o (tree sp p (map_of kvs cl) x) e = absurd (e refl)
without_other o (tree sp p (variant_of m vs cl) x) e = refl

module _ (s tb : List ℕ) (end j : ℕ) (o : Settings) where
  kind_at : (t : TokenTree) → TreeAt s tb end 0 t → AfterPrefix tb 0 j → word tb j 0 ≡ kind_of (value_of t)
  kind_at t h a = value_kind s tb j (value_of t) (tree_value s tb end 0 j t h a)

  pub format_other : (t : TokenTree) → TreeAt s tb end 0 t → AfterPrefix tb 0 j → (word tb j 0 ≡ 5 → ⊥) → o.always_include_outer_braces ≡ false → indented_value o 0 t ≡ format o t
  format_other t h a e f = without_other o t (λ z. e (kind_at t h a ∙ z)) ∙ format_bare o t f

  module _ {A : Type 0} (puts : A → List ℕ → A → Type 0) (append : Appends puts) {s₀ s₁ s₂ s₃ : A} where
    pub format_map : (t : TokenTree) → TreeAt s tb end 0 t → AfterPrefix tb 0 j → word tb j 0 ≡ 5 → o.always_include_outer_braces ≡ false →
        puts s₀ (indented_comments o 0 (prefix_of t)) s₁ →
        ((kvs : KeyValues) (cl : List Slice) → ValueAt s tb j (map_of kvs cl) → puts s₁ (map_content o 0 true kvs ++ closing o 0 (no_key_values kvs) cl) s₂) →
        puts s₂ (suffix_comment o (suffix_of t)) s₃ → puts s₀ (format o t) s₃
    format_map (tree sp p (identifier b) x) h a e f u v w = let k : word tb j 0 ≡ 1 = kind_at (tree sp p (identifier b) x) h a in absurd (omega arith)
    format_map (tree sp p (number b) x) h a e f u v w = let k : word tb j 0 ≡ 2 = kind_at (tree sp p (number b) x) h a in absurd (omega arith)
    format_map (tree sp p (quoted_string b) x) h a e f u v w = let k : word tb j 0 ≡ 3 = kind_at (tree sp p (quoted_string b) x) h a in absurd (omega arith)
    format_map (tree sp p (list_of vs cl) x) h a e f u v w = let k : word tb j 0 ≡ 4 = kind_at (tree sp p (list_of vs cl) x) h a in absurd (omega arith)
    format_map (tree sp p (variant_of m vs cl) x) h a e f u v w = let k : word tb j 0 ≡ 6 = kind_at (tree sp p (variant_of m vs cl) x) h a in absurd (omega arith)
    format_map (tree sp p (map_of kvs cl) x) h a e f u v w =
        put_as puts
        (ap (λ (y : List ℕ). y ++ suffix_comment o x) (sym (append_assoc (indented_comments o 0 p) (map_content o 0 true kvs) (closing o 0 (no_key_values kvs) cl))) ∙ format_bare o (tree sp p (map_of kvs cl) x) f)
        (append s₀ s₂ s₃ _ _ (append s₀ s₁ s₂ _ _ u (v kvs cl (tree_value s tb end 0 j (tree sp p (map_of kvs cl) x) h a))) w)
