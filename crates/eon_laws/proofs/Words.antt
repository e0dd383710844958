-- Each token of a text is a whole token of its own bytes, which stand at its place.
use Rattle.std.proofs.Common.{◌≡◌, ℕ, zero, suc, pred, ◌+◌, ◌-◌, Bool, true, false, ◌||◌, eqb, List, [], ◌∷◌, ◌++◌, length, take, drop, sym, refl, ap, ◌∙◌, append_assoc, arith, length-append, length-take-le, take_at, drop_at}
use Rattle.eon_spec.specs.Utf8.{Character, joined, code_point}
use Rattle.eon_spec.specs.declared.token_kind.TokenKind.{TokenKind}
use Rattle.eon_spec.specs.declared.token_kind.TokenKind.TheVariants.{Invalid}
use Rattle.eon_spec.specs.Token.{is_kind, tokens_from, longest_rule, rules, is_space}
use Rattle.eon_laws.proofs.Word.{IsWord}
use Rattle.eon_laws.proofs.Chars.{AllChars, all_formed, all_chars}
use Rattle.eon_laws.proofs.Spaces.{space_length}
use Rattle.eon_laws.proofs.Cut.{cut, found_le, found_some}
use Rattle.eon_laws.proofs.Sources.{AllTokens}

-- what holds of each token of the text s: its kind, start, end and bytes
abbrev pub TextLeaf : List ℕ → TokenKind → ℕ → ℕ → List ℕ → Type 0
TextLeaf s k a e b = (is_kind k Invalid ≡ false → IsWord k b) × (take (e - a) (drop a s) ≡ b)

take_chars : (n : ℕ) (cs : List Character) → AllChars cs → AllChars (take n cs)
take_chars zero cs h = tt
take_chars (suc n) [] h = tt
take_chars (suc n) (c ∷ cs) h = (h.0, take_chars n cs h.1)

word_of : (c : Character) (cs : List Character) (j : ℕ) → is_space c ≡ false → AllChars (c ∷ cs) → (longest_rule rules (c ∷ cs)).1 ≡ suc j
    → IsWord (longest_rule rules (c ∷ cs)).0 (joined (take (suc j) (c ∷ cs)))
word_of c cs j sp a e =
    let x : List Character = take (suc j) (c ∷ cs) in
    let ax : AllChars x = take_chars (suc j) (c ∷ cs) a in
    let l : length x ≡ suc j = length-take-le (suc j) (c ∷ cs) (omega (arith, found_le rules (c ∷ cs))) in
    record {
      well_formed = all_formed x ax;
      begins = rw (all_chars x ax) sp;
      whole = rw (all_chars x ax) (ap (λ (n : ℕ). longest_rule rules (take n (c ∷ cs))) (sym e) ∙ cut rules (c ∷ cs) ∙ ap (λ (n : ℕ). ((longest_rule rules (c ∷ cs)).0, n)) (e ∙ sym l));
    }

word_found : (c : Character) (cs : List Character) → is_space c ≡ false → AllChars (c ∷ cs) → is_kind (longest_rule rules (c ∷ cs)).0 Invalid ≡ false
    → IsWord (longest_rule rules (c ∷ cs)).0 (joined (take (suc (pred (longest_rule rules (c ∷ cs)).1)) (c ∷ cs)))
word_found c cs sp a k = let p = found_some rules (c ∷ cs) k in word_of c cs (pred (longest_rule rules (c ∷ cs)).1) sp a (omega arith)

pub joined_split : (n : ℕ) (cs : List Character) → joined cs ≡ joined (take n cs) ++ joined (drop n cs)
joined_split zero cs = refl
joined_split (suc n) [] = refl
joined_split (suc n) (c ∷ cs) = rw (append_assoc c (joined (take n cs)) (joined (drop n cs))) (ap (λ (x : List ℕ). c ++ x) (joined_split n cs))

pub slice_at : (done a b : List ℕ) → take ((length done + length a) - length done) (drop (length done) (done ++ (a ++ b))) ≡ a
slice_at done a b = let e : (length done + length a) - length done ≡ length a = omega arith in rw (e, drop_at done (a ++ b) _ refl, take_at a b _ refl)

module _ (s : List ℕ) where
  pub leaves_from : (skip at : ℕ) (nl : Bool) (cs : List Character) (done : List ℕ) → AllChars cs → s ≡ done ++ joined cs → at ≡ length done → AllTokens (TextLeaf s) (tokens_from skip at nl cs)
  unfolding tokens_from
  leaves_from zero at nl [] done a e l = tt
  leaves_from (suc k) at nl [] done a e l = tt
  leaves_from (suc k) at nl (c ∷ cs) done a e l =
      leaves_from k (at + length c) false cs (done ++ c) a.1 (e ∙ sym (append_assoc done c (joined cs))) (rw (length-append done c) (omega arith))
  leaves_from zero at nl (c ∷ cs) done a e l =
      go (is_space c) refl (λ skip at nl. leaves_from skip at nl cs (done ++ c) a.1 (e ∙ sym (append_assoc done c (joined cs))))
    where
      found : TokenKind × ℕ
      found = longest_rule rules (c ∷ cs)

      word : List ℕ
      word = joined (take (suc (pred found.1)) (c ∷ cs))

      place : take ((at + length word) - at) (drop at s) ≡ word
      place = rw (e, joined_split (suc (pred found.1)) (c ∷ cs), l) (slice_at done word (joined (drop (suc (pred found.1)) (c ∷ cs))))

      go : (b : Bool) → is_space c ≡ b → ((skip at : ℕ) (nl : Bool) → at ≡ length (done ++ c) → AllTokens (TextLeaf s) (tokens_from skip at nl cs)) → AllTokens (TextLeaf s) (tokens_from zero at nl (c ∷ cs))
      go true p rec = rw (p, tokens_from) (rec zero (at + 1) (nl || eqb (code_point c) 10) (rw (length-append done c, space_length c a.0 p) (omega arith)))
      go false p rec = rw (p, tokens_from) ((word_found c cs p a, place), rec (pred found.1) (at + length c) false (rw (length-append done c) (omega arith)))
