-- A walk with the table that it stores to: what records make of the two. Assumes nothing.
use Rattle.std.proofs.Common.{◌≡◌, ℕ, suc, ◌+◌, ◌-◌, ◌*◌, List, [], ◌∷◌, ◌++◌, length, sym, refl, ap, ◌∙◌, arith}
use lib.Seq.{sets}
use Rattle.eon_spec.specs.Tree.{Span}
use Rattle.eon_spec.specs.RecordKind.{word_of}
use Rattle.eon_spec.specs.declared.record_kind.RecordKind.{RecordKind}
use Rattle.eon_spec.specs.Records.{words}
use Rattle.eon_laws.proofs.Records.{words_length}
use Rattle.eon_token.specs.Place.{cursor_at}
use Rattle.eon_parse.specs.Walk.{Records, header, text_end}
use Rattle.eon_parse.specs.Answer.{place, emit, stored, entered, moved, begun, record_words, ended_at}
use Rattle.eon_parse.specs.declared.walk.Walk.{Walk}
use Rattle.eon_parse.specs.declared.walk.Begun.{Begun}
use Rattle.eon_parse.proofs.Laws.{words_append, emit_none, emit_emit, finish}
use Rattle.eon_laws.proofs.Stores.{sets_append}
use Rattle.eon_parse.proofs.Store.{patched}

pub record Page : Type 0 where
  pub cur : Walk
  pub tab : List ℕ

abbrev pub page : Walk → List ℕ → Page
page w tb = record { cur = w; tab = tb }

abbrev pub both : {c c' : Walk} {t t' : List ℕ} → c ≡ c' → t ≡ t' → page c t ≡ page c' t'
both p q = λ i. page (p i) (q i)

module _ (s old : List ℕ) where
  abbrev pub emit_p : Page → Records → Span → Page
  emit_p σ f n = page (emit s old σ.cur f n) (stored σ.tab σ.cur f)

  abbrev pub seal_p : Page → Begun → Page
  seal_p σ b = page (ended_at σ.cur old b) (sets σ.tab (5 * b.base) (record_words σ.cur b))

  module _ (σ : Page) where
    pub none_p : σ.cur.cursor ≡ cursor_at s (place σ.cur) → σ ≡ emit_p σ [] (place σ.cur)
    none_p e = both (emit_none s old σ.cur e) refl

    pub again_p : (f : Records) (p : Span) (g : Records) (n : Span) → emit_p (emit_p σ f p) g n ≡ emit_p σ (f ++ g) n
    unfolding emit
    again_p f p g n = both (emit_emit s old σ.cur f p g n) tables
      where
        at_words : 5 * (σ.cur.count + length f) ≡ 5 * σ.cur.count + length (words f)
        at_words = omega (arith, words_length f)

        tables : sets (sets σ.tab (5 * σ.cur.count) (words f)) (5 * (σ.cur.count + length f)) (words g) ≡ sets σ.tab (5 * σ.cur.count) (words (f ++ g))
        tables =
            ap (λ (n : ℕ). sets (sets σ.tab (5 * σ.cur.count) (words f)) n (words g)) at_words
            ∙ sets_append (words f) (words g) σ.tab (5 * σ.cur.count)
            ∙ ap (sets σ.tab (5 * σ.cur.count)) (sym (words_append f g))

    -- a container's record is stored behind its inside, and before it
    pub finish_p : (l : Span) (f : Records) (q p : Span) (k : RecordKind) (start name : ℕ)
        → seal_p (page (moved s (emit s old (entered s σ.cur l) f q) p) (stored σ.tab (entered s σ.cur l) f)) (begun k σ.cur.count start name)
        ≡ emit_p σ (header (word_of k) start name p.end f ∷ f) p
    unfolding emit
    finish_p l f q p k start name = both (finish s old σ.cur l f q p k start name) tables
      where
        own : σ.cur.count + 1 + length f - σ.cur.count ≡ suc (length f)
        own = omega arith

        at_words : 5 * (σ.cur.count + 1) ≡ 5 * σ.cur.count + 5
        at_words = omega arith

        kind : ℕ
        kind = word_of k

        head : List ℕ
        head = kind ∷ start ∷ text_end kind name p.end ∷ p.end ∷ suc (length f) ∷ []

        tables : sets (sets σ.tab (5 * (σ.cur.count + 1)) (words f)) (5 * σ.cur.count) (kind ∷ start ∷ text_end kind name p.end ∷ p.end ∷ (σ.cur.count + 1 + length f - σ.cur.count) ∷ [])
            ≡ sets σ.tab (5 * σ.cur.count) (words (header kind start name p.end f ∷ f))
        tables =
            ap (λ (n : ℕ). sets (sets σ.tab (5 * (σ.cur.count + 1)) (words f)) (5 * σ.cur.count) (kind ∷ start ∷ text_end kind name p.end ∷ p.end ∷ n ∷ [])) own
            ∙ ap (λ (n : ℕ). sets (sets σ.tab n (words f)) (5 * σ.cur.count) head) at_words
            ∙ patched σ.tab (5 * σ.cur.count) (5 * σ.cur.count + 5) head (words f) refl
