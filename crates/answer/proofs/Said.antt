-- What is said of the bytes that a word stands for.
use Rattle.std.proofs.Common.{◌≡◌, ℕ, ◌*◌, ◌≤◌, Bool, true, false, leb, List, ◌++◌, length, take, drop, IsErr, Ok, Err, Result, sym, refl, ap, ◌∙◌, arith, length-append, length-drop}
use Rattle.std.specs.Result.{IsErrAnd}
use Rattle.std.proofs.lemmas.Bool.{leb-true, le-leb}
use lib.Seq.{take-append_seam}
use Rattle.eon_spec.specs.Utf8.{is_utf8}
use Rattle.eon_spec.specs.Refused.{Refusal, refusal_of}
use Rattle.eon_spec.specs.declared.refusal.Refusal as refusal
use Rattle.answer_line.specs.declared.reply.Reply.{Reply}
use Rattle.answer_line.specs.declared.reply.Fault.{Fault}
use Rattle.answer_line.specs.declared.reply.Fault.TheVariants.{Refused}
use Rattle.eon_spec.specs.Tree.{TokenTree}
use Rattle.eon_spec.specs.Records.{tree_records, words}
use Rattle.eon_spec.specs.Calls.{Outcome, done, refused_with, then, after, written, fill, unescaped_outcome, handed_back, read_text, read_call, unquote_call, show_call, nowhere, read_finished, is_finished, compare_call, same_records, after_both, fill_both, reformat_call}
use Rattle.eon_spec.specs.Layout.{default_options, defaults, format}
use Rattle.eon_laws.proofs.Room.{default_settings}
use Rattle.eon_spec.specs.declared.Part.{Part}
use Rattle.eon_spec.specs.Unquote.{unquote}
use Rattle.eon_laws.proofs.Shown.{shown}
use Rattle.eon_laws.proofs.Facts.{list_same}
use Rattle.eon_laws.proofs.Numbers.{checked_cases}
use Rattle.eon_laws.proofs.Records.{words_length}
use Rattle.eon_laws.proofs.Checked.{checked_good}
use Rattle.answer_line.specs.Word.{bytes_of}
use Rattle.answer.specs.Verbs.{Said, said, said_of, table, tokens_of, refused, of_bytes, of_outcome, fitting, bytes, lent_said, tree_said, laid_said, truth, same_said, trees_said, value_of, value_said, tokens_said}

-- a word that stands for bytes; `n` is the memory's length as the callee is told it
pub of_word : (n room : ℕ) (word s : List ℕ) (f : List ℕ → Said) → Ok s ≡ bytes_of n word → n ≡ room → f s ≡ of_bytes (bytes_of room word) f
of_word n room word s f stands e = ap (λ r. of_bytes r f) (stands ∙ ap (λ m. bytes_of m word) e)

pub tokens_good : (n room : ℕ) (word s t : List ℕ) → Ok s ≡ bytes_of n word → n ≡ room → t ≡ s → length t ≤ 65535 → is_utf8 t ≡ true
    → tokens_of t ≡ tokens_said room word
tokens_good n room word s t stands e same short utf8 =
    ap (λ x. of_outcome x tokens_of) (sym (checked_good t done short utf8)) ∙ of_word n room word t _ (ap Ok same ∙ stands) e

-- a call that fills a memory with what g gives, and what is said of it by f
module _ {T A : Type 0} (old m : List ℕ) (g : T → A × List ℕ) (f : T → Said) where
  abbrev Filled : (a : Outcome A) (x : Outcome T) → Type 0
  Filled a x = after a m ≡ fill old (then x λ t. done (g t))

  abbrev what_fits : T → Said
  what_fits t = fitting (length old) (g t).1 (f t)

  -- what it says and wrote if it answers
  record Wrote (a : A) (x : Outcome T) : Type 0 where
    from : T
    is : x ≡ done from
    answer : (g from).0 ≡ a
    within : length (g from).1 ≤ length old
    starts : m ≡ written (g from).1 old
    said_so : of_outcome x what_fits ≡ f from

  wrote : (a : A) (x : Outcome T) → Filled (done a) x → Wrote a x
  unfolding fill
  wrote a (refused_with r) e = absurd (let k = ap (λ y. y.answer) e in let z : ◌≡◌ {A = ℕ} 0 1 = cc in omega arith)
  wrote a (done t) e = go (leb (length (g t).1) (length old)) refl
    where
      go : (b : Bool) → leb (length (g t).1) (length old) ≡ b → Wrote a (done t)
      go true l =
          let h : after (done a) m ≡ after (done (g t).0) (written (g t).1 old) = rw (l, fill) at e in
          let p = ap (λ y. y.answer) h in
          record {
            from = t;
            is = refl;
            answer = cc;
            within = leb-true (length (g t).1) (length old) l;
            starts = ap (λ y. y.memory) h;
            said_so = rw l refl;
          }
      go false l = absurd (let k = ap (λ y. y.answer) (rw (l, fill) at e) in let z : ◌≡◌ {A = ℕ} 0 1 = cc in omega arith)

  -- and if it refuses
  refuses : (r : Refusal) (x : Outcome T) → Filled (refused_with r) x → of_outcome x what_fits ≡ refused r
  unfolding fill
  refuses r (refused_with q) e = let k = ap (λ y. y.answer) e in cc
  refuses r (done t) e = go (leb (length (g t).1) (length old)) refl
    where
      go : (b : Bool) → leb (length (g t).1) (length old) ≡ b → what_fits t ≡ refused r
      go true l = absurd (let k = ap (λ y. y.answer) (rw (l, fill) at e) in let z : ◌≡◌ {A = ℕ} 0 1 = cc in omega arith)
      go false l = let k = ap (λ y. y.answer) (rw (l, fill) at e) in rw l cc

front_of : (new rest m : List ℕ) (k : ℕ) → m ≡ new ++ rest → length new ≡ k → take k m ≡ new
front_of new rest m k e n = rw (e, ← n) (take-append_seam new rest)

-- ---- reading

recorded : TokenTree → ℕ × List ℕ
recorded t = (length (tree_records t), words (tree_records t))

module _ (s old m : List ℕ) where
  -- a table has five words a record; they are within it, and its size stays
  pub record Read (n : ℕ) : Type 0 where
    pub within : 5 * n ≤ length old
    pub size : length m ≡ length old
    pub said_so : of_outcome (read_text s) (tree_said (length old)) ≡ table (take (5 * n) m)

  pub read_answers : (n : ℕ) → after (done n) m ≡ read_call s old → Read n
  unfolding read_call recorded
  read_answers n e =
      let w = wrote old m recorded (λ t. table (words (tree_records t))) n (read_text s) e in
      let new = words (tree_records w.from) in
      let five : length new ≡ 5 * n = words_length (tree_records w.from) ∙ ap (λ k. 5 * k) w.answer in
      let size = ap length w.starts ∙ length-append new (drop (length new) old) in
      record {
        within = omega (arith, five, w.within);
        size = omega (arith, size, length-drop (length new) old, w.within);
        said_so = w.said_so ∙ ap table (sym (front_of new (drop (length new) old) m (5 * n) w.starts five));
      }

  pub read_refuses : (r : Refusal) → after (refused_with r) m ≡ read_call s old → of_outcome (read_text s) (tree_said (length old)) ≡ refused r
  unfolding read_call recorded
  read_refuses r e = refuses old m recorded (λ t. table (words (tree_records t))) r (read_text s) e

-- ---- unquoting

value_done : (s b : List ℕ) → value_of s ≡ done b → unescaped_outcome (unquote s) ≡ done b
value_done s b = checked_cases s (λ t. unescaped_outcome (unquote t)) (λ x. x ≡ done b → unescaped_outcome (unquote s) ≡ done b)
    (λ r k e. absurd (let z : ◌≡◌ {A = ℕ} 0 1 = cc in omega arith))
    (λ u e. e)

module _ (s old m : List ℕ) where
  pub unquote_answers : (p : Part) → after (done p) m ≡ unquote_call s old → of_outcome (value_of s) (value_said (length old) s) ≡ bytes (show_call p s m)
  unfolding unquote_call
  unquote_answers p e =
      let w = wrote old m (handed_back s) bytes p (value_of s) e in
      let same : done w.from ≡ done (show_call p s m) = sym (value_done s w.from w.is) ∙ shown s old p m (sym e) in
      w.said_so ∙ ap bytes cc

  pub unquote_refuses : (r : Refusal) → after (refused_with r) m ≡ unquote_call s old → of_outcome (value_of s) (value_said (length old) s) ≡ refused r
  unfolding unquote_call
  unquote_refuses r e = refuses old m (handed_back s) bytes r (value_of s) e

-- ---- comparison

-- a text that was read, by its table
pub record Stood (s old m : List ℕ) : Type 0 where
  tree : TokenTree
  is : read_text s ≡ done tree
  fits : leb (length (words (tree_records tree))) (length old) ≡ true
  finished : read_finished s m ≡ done tree

abbrev stale : Bool → TokenTree → Outcome TokenTree
stale b t = elim b [ true ↦ done t | false ↦ refused_with (nowhere 15) ]

module _ (s m : List ℕ) (t : TokenTree) (rest : List ℕ) (h : m ≡ words (tree_records t) ++ rest) where
  table_finished : is_finished m t ≡ true
  unfolding is_finished
  table_finished = rw (front_of (words (tree_records t)) rest m (length (words (tree_records t))) h refl) (list_same (words (tree_records t)))

  finished_by : read_text s ≡ done t → read_finished s m ≡ done t
  unfolding read_finished
  finished_by e = rw e (ap (λ (b : Bool). stale b t) table_finished)

pub stood : (s old m : List ℕ) (n : ℕ) → after (done n) m ≡ read_call s old → Stood s old m
unfolding read_call recorded
stood s old m n e =
    let w = wrote old m recorded (λ t. table (words (tree_records t))) n (read_text s) e in
    record { tree = w.from; is = w.is; fits = le-leb _ _ w.within; finished = finished_by s m w.from _ w.starts w.is }

pub first_refuses : (s t old m : List ℕ) (k : ℕ) (r : Refusal) → after (refused_with r) m ≡ read_call s old → trees_said (length old) k s t ≡ refused r
unfolding read_call recorded
first_refuses s t old m k r e = refuses old m recorded (same_said k s t) r (read_text s) e

module _ (s t old m old' m' : List ℕ) (a : Stood s old m) where
  pub second_refuses : (r : Refusal) → after (refused_with r) m' ≡ read_call t old' → trees_said (length old) (length old') s t ≡ refused r
  unfolding read_call recorded
  second_refuses r e =
      rw (a.is, a.fits) (refuses old' m' recorded (λ b. truth (same_records s (tree_records a.tree) t (tree_records b))) r (read_text t) e)

  module _ (b : Stood t old' m') where
    compared : compare_call s m t m' ≡ done (same_records s (tree_records a.tree) t (tree_records b.tree))
    unfolding compare_call
    compared = rw (a.finished, b.finished) refl

    pub compare_answers : (x : Bool) → done x ≡ compare_call s m t m' → trees_said (length old) (length old') s t ≡ truth x
    compare_answers x e =
        let h : done x ≡ done (same_records s (tree_records a.tree) t (tree_records b.tree)) = e ∙ compared in
        rw (a.is, a.fits, b.is, b.fits) (ap truth cc)

    pub compare_refuses_not : (r : Refusal) → refused_with r ≡ compare_call s m t m' → ⊥
    compare_refuses_not r e = let h = e ∙ compared in let z : ◌≡◌ {A = ℕ} 0 1 = cc in omega arith

-- ---- reading and layout in one call

abbrev laid_out : TokenTree → List ℕ × List ℕ
laid_out t = (words (tree_records t), format defaults t)

module _ (s told oold tb ob : List ℕ) where
  abbrev Both : Outcome ℕ → Outcome TokenTree → Type 0
  Both a x = after_both a tb ob ≡ fill_both told oold (then x λ t. done (laid_out t))

  both : (a : Outcome ℕ) → after_both a tb ob ≡ reformat_call s told default_options oold → Both a (read_text s)
  unfolding reformat_call
  both a e = e ∙ ap (fill_both told oold) (default_settings (then (read_text s) λ t. done (laid_out t)))

  laid : (a : ℕ) (x : Outcome TokenTree) → Both (done a) x → of_outcome x (laid_said (length told) (length oold)) ≡ bytes (take a ob)
  unfolding fill_both
  laid a (refused_with r) e = absurd (let k = ap (λ y. y.answer) e in let z : ◌≡◌ {A = ℕ} 0 1 = cc in omega arith)
  laid a (done t) e = go (leb (length (words (tree_records t))) (length told)) (leb (length (format defaults t)) (length oold)) refl refl
    where
      go : (x y : Bool) → leb (length (words (tree_records t))) (length told) ≡ x → leb (length (format defaults t)) (length oold) ≡ y
          → laid_said (length told) (length oold) t ≡ bytes (take a ob)
      go true true k l =
          let h : after_both (done a) tb ob ≡ after_both (done (length (format defaults t))) (written (words (tree_records t)) told) (written (format defaults t) oold) = rw (k, l, fill_both) at e in
          let p = ap (λ y. y.answer) h in
          let n : length (format defaults t) ≡ a = cc in
          rw (k, l, front_of (format defaults t) (drop (length (format defaults t)) oold) ob a (ap (λ y. y.out) h) n) refl
      go true false k l = absurd (let p = ap (λ y. y.answer) (rw (k, l, fill_both) at e) in let z : ◌≡◌ {A = ℕ} 0 1 = cc in omega arith)
      go false y k l = absurd (let p = ap (λ y. y.answer) (rw (k, fill_both) at e) in let z : ◌≡◌ {A = ℕ} 0 1 = cc in omega arith)

  unlaid : (r : Refusal) (x : Outcome TokenTree) → Both (refused_with r) x → of_outcome x (laid_said (length told) (length oold)) ≡ refused r
  unfolding fill_both
  unlaid r (refused_with q) e = let k = ap (λ y. y.answer) e in cc
  unlaid r (done t) e = go (leb (length (words (tree_records t))) (length told)) (leb (length (format defaults t)) (length oold)) refl refl
    where
      go : (x y : Bool) → leb (length (words (tree_records t))) (length told) ≡ x → leb (length (format defaults t)) (length oold) ≡ y
          → laid_said (length told) (length oold) t ≡ refused r
      go true true k l = absurd (let p = ap (λ y. y.answer) (rw (k, l, fill_both) at e) in let z : ◌≡◌ {A = ℕ} 0 1 = cc in omega arith)
      go true false k l = let p = ap (λ y. y.answer) (rw (k, l, fill_both) at e) in rw (k, l) cc
      go false y k l = let p = ap (λ y. y.answer) (rw (k, fill_both) at e) in rw k cc

  pub reformat_answers : (a : ℕ) → after_both (done a) tb ob ≡ reformat_call s told default_options oold
      → of_outcome (read_text s) (laid_said (length told) (length oold)) ≡ bytes (take a ob)
  reformat_answers a e = laid a (read_text s) (both (done a) e)

  pub reformat_refuses : (r : Refusal) → after_both (refused_with r) tb ob ≡ reformat_call s told default_options oold
      → of_outcome (read_text s) (laid_said (length told) (length oold)) ≡ refused r
  reformat_refuses r e = unlaid r (read_text s) (both (refused_with r) e)

-- two words
pub two_words : (n room : ℕ) (word s : List ℕ) (n' room' : ℕ) (word' t : List ℕ) (f : List ℕ → List ℕ → Said)
    → Ok s ≡ bytes_of n word → n ≡ room → Ok t ≡ bytes_of n' word' → n' ≡ room'
    → f s t ≡ of_bytes (bytes_of room word) λ a. of_bytes (bytes_of room' word') (f a)
two_words n room word s n' room' word' t f p e p' e' =
    of_word n' room' word' t (f s) p' e' ∙ of_word n room word s (λ a. of_bytes (bytes_of room' word') (f a)) p e

-- a memory that is lent
pub lent_fits : (all k : ℕ) (x : Said) → k ≤ all → x ≡ lent_said all k x
lent_fits all k x fits = rw (le-leb k all fits) refl

-- what is said of a word's bytes in a memory that is lent
pub lent_word : (n room all k : ℕ) (word s : List ℕ) (f : List ℕ → Said) → Ok s ≡ bytes_of n word → n ≡ room → k ≤ all
    → f s ≡ of_bytes (bytes_of room word) λ t. lent_said all k (f t)
lent_word n room all k word s f stands e fits = lent_fits all k (f s) fits ∙ of_word n room word s (λ t. lent_said all k (f t)) stands e

-- a refusal that is handed on
pub refusal_said : (answer : Result Reply Fault) (r : refusal.Refusal) → IsErr answer × IsErrAnd answer (λ f. f ≡ Refused r) → said answer ≡ refused (refusal_of r)
refusal_said (Ok reply) r h = absurd h.1
refusal_said (Err f) r h = ap said_of h.1
