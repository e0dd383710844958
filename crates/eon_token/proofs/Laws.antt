-- For who calls the token call again and again: where a token stands, that its end is a boundary, and the token list from there on.
use Rattle.std.proofs.Common.{◌≡◌, ℕ, suc, pred, ◌+◌, ◌-◌, ◌<◌, ◌≤◌, Bool, true, false, ◌||◌, List, [], ◌∷◌, length, take, drop, is_some, IsSome, Some, None, sym, refl, ap, ◌∙◌, subst, ap₂, add_assoc, arith, drop-drop}
use Rattle.eon_spec.specs.Base.{elem}
use Rattle.eon_spec.specs.Utf8.{Character, chars, joined, is_utf8, Boundary}
use Rattle.eon_spec.specs.declared.token_kind.TokenKind.{TokenKind}
use Rattle.eon_spec.specs.Token.{tokens, tokens_from, rules, longest_rule, placed}
use Rattle.eon_laws.proofs.Chars.{AllChars}
use Rattle.eon_token.specs.Placed.{placed_at, tokens_at, token_of}
use Rattle.eon_token.specs.declared.token_kind.PlacedToken.{PlacedToken}
use Rattle.eon_token.proofs.KindCodes.{not_both}
use Rattle.eon_token.proofs.Text.{bytes, prefix, bytes_le, bytes_add, all_drop, boundary_end}
use Rattle.eon_token.proofs.Whole.{leading, size, Next, ended, token, here, here_chars, here_text, here_all, here_length, start_text, next}

-- the tokens of the text are those from its start on
pub tokens_start : (s : List ℕ) → tokens s ≡ tokens_at s 0 false
unfolding tokens
tokens_start s = refl

some_bytes : (n : ℕ) (c : Character) (l : List Character) → AllChars (c ∷ l) → 0 < bytes (suc n) (c ∷ l)
some_bytes n [] l a = absurd a.0
some_bytes n (x ∷ c) l a = omega arith

cancel : (a n : ℕ) → a + n - a ≡ n
cancel a n = omega arith

-- the token of n characters of l, which stand behind m characters of cs, which stand at `at`
module _ (s : List ℕ) (at : ℕ) (cs : List Character) (m : ℕ) (l : List Character) (n : ℕ) (e : drop at s ≡ joined cs) (f : drop (at + bytes m cs) s ≡ joined l) where
  gap : joined (take m cs) ≡ take (at + bytes m cs - at) (drop at s)
  gap = sym (ap (λ (i : ℕ). take i (drop at s)) (cancel at (bytes m cs)) ∙ ap (take (bytes m cs)) e ∙ prefix m cs)

  slice : joined (take n l) ≡ take (at + bytes m cs + bytes n l - (at + bytes m cs)) (drop (at + bytes m cs) s)
  slice = sym (ap (λ (i : ℕ). take i (drop (at + bytes m cs) s)) (cancel (at + bytes m cs) (bytes n l)) ∙ ap (take (bytes n l)) f ∙ prefix n l)

  same_token : (k : TokenKind) (nl : Bool) → placed k n (at + bytes m cs) (nl || elem 10 (joined (take m cs))) l ≡ token_of s at nl (record { kind = Some k; start = at + bytes m cs; end = at + bytes m cs + bytes n l })
  same_token k nl = λ i. record {
    kind = k;
    start = at + bytes m cs;
    end = at + bytes m cs + bytes n l;
    slice = slice i;
    new_line = nl || elem 10 (gap i);
  }

module _ (s : List ℕ) (u : is_utf8 s ≡ true) (at : ℕ) (b : Boundary s at) where
  end_of : (c : Character) (l : List Character) → drop (leading (here s u at b)) (here s u at b) ≡ c ∷ l → Boundary s (at + bytes (leading (here s u at b)) (here s u at b) + bytes (size (c ∷ l)) (c ∷ l))
  end_of c l f =
      let cs = here s u at b in
      let m = leading cs in
      let n = size (c ∷ l) in
      record {
        count = b.count + (m + n);
        place =
            add_assoc at (bytes m cs) (bytes n (c ∷ l))
            ∙ ap₂ ◌+◌ b.place (ap (λ (x : List Character). bytes m cs + bytes n x) (sym f) ∙ sym (bytes_add m n cs))
            ∙ sym (bytes_add b.count (m + n) (chars s));
      }

  -- r is what the call answers
  module _ (r : PlacedToken) (e : r ≡ placed_at s at) where
    -- its end is a boundary again
    pub end_boundary : Boundary s r.end
    end_boundary = go (next s u at b)
      where
        go : Next s at (here s u at b) → Boundary s r.end
        go (ended z q ts) = subst (λ (x : PlacedToken). Boundary s x.end) (sym (e ∙ q)) (boundary_end s u)
        go (token c l f q ts) = subst (λ (x : PlacedToken). Boundary s x.end) (sym (e ∙ q)) (end_of c l f)

    -- a token that is not the end stands at or behind `at`, and has a byte
    abbrev pub Within : PlacedToken → Type 0
    Within x = (at ≤ x.start) × (x.start < x.end) × (x.end ≤ length s)

    pub bounds : IsSome r.kind → Within r
    bounds h = go (next s u at b)
      where
        go : Next s at (here s u at b) → Within r
        go (ended z q ts) = absurd (not_both r.kind (ap (λ (x : PlacedToken). x.kind) (e ∙ q)) h)
        go (token c l f q ts) =
            let cs = here s u at b in
            let m = leading cs in
            let k = some_bytes (pred (longest_rule rules (c ∷ l)).1) c l (subst AllChars f (all_drop m cs (here_all s u at b))) in
            let x : length (joined (drop m cs)) ≡ length (joined (c ∷ l)) = ap (λ (y : List Character). length (joined y)) f in
            subst Within (sym (e ∙ q)) (omega arith, omega (arith, k), omega (arith, here_length s u at b, bytes_le m cs, x, bytes_le (size (c ∷ l)) (c ∷ l)))

    -- at the end it stands there, and no tokens are left
    pub at_end_lem : r.kind ≡ None → (r.start ≡ length s) × (r.end ≡ length s)
    at_end_lem h = go (next s u at b)
      where
        go : Next s at (here s u at b) → (r.start ≡ length s) × (r.end ≡ length s)
        go (ended z q ts) = (ap (λ (x : PlacedToken). x.start) (e ∙ q), ap (λ (x : PlacedToken). x.end) (e ∙ q))
        go (token c l f q ts) = absurd (not_both r.kind h (ap (λ (x : PlacedToken). is_some x.kind) (e ∙ q)))

    pub tokens_none : (nl : Bool) → r.kind ≡ None → tokens_at s at nl ≡ []
    tokens_none nl h = go (next s u at b)
      where
        go : Next s at (here s u at b) → tokens_at s at nl ≡ []
        go (ended z q ts) = ts nl
        go (token c l f q ts) = absurd (not_both r.kind h (ap (λ (x : PlacedToken). is_some x.kind) (e ∙ q)))

    -- else the tokens are the one here, and those from its end on
    pub tokens_some : (nl : Bool) → IsSome r.kind → tokens_at s at nl ≡ token_of s at nl r ∷ tokens_at s r.end false
    unfolding end_of
    tokens_some nl h = go (next s u at b)
      where
        go : Next s at (here s u at b) → tokens_at s at nl ≡ token_of s at nl r ∷ tokens_at s r.end false
        go (ended z q ts) = absurd (not_both r.kind (ap (λ (x : PlacedToken). x.kind) (e ∙ q)) h)
        go (token c l f q ts) =
            ts nl
            ∙ (λ i. same i ∷ tokens_from 0 end false (rest i))
            ∙ ap (λ (x : PlacedToken). token_of s at nl x ∷ tokens_at s x.end false) (sym (e ∙ q))
          where
            cs : List Character
            cs = here s u at b

            n : ℕ
            n = size (c ∷ l)

            end : ℕ
            end = at + bytes (leading cs) cs + bytes n (c ∷ l)

            same : placed (longest_rule rules (c ∷ l)).0 n (at + bytes (leading cs) cs) (nl || elem 10 (joined (take (leading cs) cs))) (c ∷ l) ≡ token_of s at nl (record { kind = Some (longest_rule rules (c ∷ l)).0; start = at + bytes (leading cs) cs; end = end })
            same = same_token s at cs (leading cs) (c ∷ l) n (here_text s u at b) (start_text s u at b ∙ ap joined f) (longest_rule rules (c ∷ l)).0 nl

            rest : drop n (c ∷ l) ≡ chars (drop end s)
            rest =
                ap (drop n) (sym f) ∙ drop-drop n (leading cs) cs ∙ drop-drop (leading cs + n) b.count (chars s)
                ∙ sym (here_chars s u end (end_of c l f))
