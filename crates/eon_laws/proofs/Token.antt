-- Laws of the token list: behind a token, the tokens are those of what is left of the text.
use Rattle.std.proofs.Common.{◌≡◌, ℕ, zero, suc, pred, ◌+◌, Bool, false, List, [], ◌∷◌, length, take, drop, sym, refl, ap, ◌∙◌, add-zero, add_assoc, length-append}
use Rattle.eon_spec.specs.Utf8.{Character, joined}
use Rattle.eon_spec.specs.Token.{tokens_from, placed, longest_rule, rules, is_space}

pub skip_tokens : (k at : ℕ) (cs : List Character) → tokens_from k at false cs ≡ tokens_from 0 (at + length (joined (take k cs))) false (drop k cs)
unfolding tokens_from
skip_tokens zero at [] = refl
skip_tokens (suc k) at [] = refl
skip_tokens zero at (c ∷ cs) = rw (add-zero at)
skip_tokens (suc k) at (c ∷ cs) =
    skip_tokens k (at + length c) cs
    ∙ ap (λ n. tokens_from 0 n false (drop k cs)) (add_assoc at (length c) (length (joined (take k cs))) ∙ ap (λ n. at + n) (sym (length-append c (joined (take k cs)))))

-- a token, and the tokens from its end on
pub tokens_step : (at : ℕ) (nl : Bool) (c : Character) (cs : List Character) (k : ℕ) → is_space c ≡ false → pred (longest_rule rules (c ∷ cs)).1 ≡ k
    → tokens_from 0 at nl (c ∷ cs) ≡ placed (longest_rule rules (c ∷ cs)).0 (suc k) at nl (c ∷ cs) ∷ tokens_from 0 (at + length (joined (take (suc k) (c ∷ cs)))) false (drop k cs)
unfolding tokens_from
tokens_step at nl c cs k e f =
    rw (e, tokens_from, f) (ap (λ ts. placed (longest_rule rules (c ∷ cs)).0 (suc k) at nl (c ∷ cs) ∷ ts) (skip_tokens (suc k) at (c ∷ cs)))
