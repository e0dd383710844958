-- An indentation more at the end is one more at the front.
use Rattle.std.proofs.Common.{ℕ, zero, suc, ◌+◌, ◌≡◌, refl, sym, ap, ◌∙◌, List, [], ◌++◌, append_assoc, append-nil, add-one}
use Rattle.eon_spec.specs.Layout.{Settings, add_indent}

pub indent_more : (o : Settings) (n : ℕ) → add_indent o n ++ o.indentation ≡ add_indent o (n + 1)
indent_more o n = go n ∙ ap (add_indent o) (sym (add-one n))
  where
    go : (n : ℕ) → add_indent o n ++ o.indentation ≡ add_indent o (suc n)
    go zero = sym (append-nil o.indentation)
    go (suc n) = append_assoc o.indentation (add_indent o n) o.indentation ∙ ap (λ (l : List ℕ). o.indentation ++ l) (go n)

-- empty indentations are none
pub indents_none : (o : Settings) (n : ℕ) → o.indentation ≡ [] → add_indent o n ≡ []
indents_none o zero e = refl
indents_none o (suc n) e = ap (λ (l : List ℕ). l ++ add_indent o n) e ∙ indents_none o n e
