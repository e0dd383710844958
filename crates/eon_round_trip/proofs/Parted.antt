-- In what layout writes, each word is the longest token at its place.
use Rattle.std.proofs.Common.{◌≡◌, ℕ, zero, suc, true, false, List, [], ◌∷◌, ◌++◌, length, refl}
use Rattle.eon_laws.proofs.Facts.{either}
use Rattle.eon_spec.specs.Utf8.{Character, chars, chars_from, char_len, well_formed_len, well_formed_from}
use Rattle.eon_spec.specs.Regex.{deriv, longest}
use Rattle.eon_spec.specs.declared.token_kind.TokenKind.{TokenKind}
use Rattle.eon_spec.specs.declared.token_kind.TokenKind.TheVariants.{OpenList, CloseList, OpenBrace, CloseBrace, OpenParen, CloseParen, Colon, Comma, Identifier, Number}
use Rattle.eon_spec.specs.Token.{rules, longest_rule}
use Rattle.eon_round_trip.proofs.Plain.{Value, Values, Pairs, identifierᵛ, numberᵛ, stringᵛ, listᵛ, mapᵛ, variantᵛ, noneᵛ, ◌∷ᵛ◌, noneᵖ, pairᵖ, one_lineᵛ}
use Rattle.eon_round_trip.proofs.Pieces.{Piece, blank, word, flatten, string_kind, tabs, line_end, closing, closing_brace, opening_paren, closing_paren, colon, value_p, one_line_p, more_p, lines_p, pairs_p, inside_p, sole_p, shared_p, root_p}
use Rattle.eon_laws.proofs.Word.{Begins, IsWord}
use Rattle.eon_round_trip.proofs.Ready.{Ready, AllReady, PairsReady, RootReady}
use Rattle.eon_round_trip.proofs.Lexing.{IsBlank, tab, line_feed, space, Good}
use Rattle.eon_round_trip.proofs.Stays.{Stops, IsLeaf, identifier_leaf, number_leaf, string_leaf, stays}

data IsMark : TokenKind → List ℕ → Type 0 where
  open_list : IsMark OpenList (91 ∷ [])
  close_list : IsMark CloseList (93 ∷ [])
  open_brace : IsMark OpenBrace (123 ∷ [])
  close_brace : IsMark CloseBrace (125 ∷ [])
  open_paren : IsMark OpenParen (40 ∷ [])
  close_paren : IsMark CloseParen (41 ∷ [])
  a_colon : IsMark Colon (58 ∷ [])
  a_comma : IsMark Comma (44 ∷ [])

-- a mark is a token, whatever stands behind it
mark_word : {k : TokenKind} {b : List ℕ} → IsMark k b → IsWord k b
unfolding well_formed_len well_formed_from chars chars_from char_len longest_rule rules longest deriv
mark_word open_list = record { well_formed = refl; begins = refl; whole = refl }
mark_word close_list = record { well_formed = refl; begins = refl; whole = refl }
mark_word open_brace = record { well_formed = refl; begins = refl; whole = refl }
mark_word close_brace = record { well_formed = refl; begins = refl; whole = refl }
mark_word open_paren = record { well_formed = refl; begins = refl; whole = refl }
mark_word close_paren = record { well_formed = refl; begins = refl; whole = refl }
mark_word a_colon = record { well_formed = refl; begins = refl; whole = refl }
mark_word a_comma = record { well_formed = refl; begins = refl; whole = refl }

mark_alone : {k : TokenKind} {b : List ℕ} → IsMark k b → (t : List Character) → longest_rule rules (chars b ++ t) ≡ (k, length (chars b))
unfolding chars chars_from char_len longest_rule rules longest deriv
mark_alone open_list [] = refl
mark_alone open_list (c ∷ t) = refl
mark_alone close_list [] = refl
mark_alone close_list (c ∷ t) = refl
mark_alone open_brace [] = refl
mark_alone open_brace (c ∷ t) = refl
mark_alone close_brace [] = refl
mark_alone close_brace (c ∷ t) = refl
mark_alone open_paren [] = refl
mark_alone open_paren (c ∷ t) = refl
mark_alone close_paren [] = refl
mark_alone close_paren (c ∷ t) = refl
mark_alone a_colon [] = refl
mark_alone a_colon (c ∷ t) = refl
mark_alone a_comma [] = refl
mark_alone a_comma (c ∷ t) = refl

mark_good : {k : TokenKind} {b : List ℕ} → IsMark k b → (ps : List Piece) → Good ps → Good (word k b ∷ ps)
mark_good i ps g = (mark_word i, mark_alone i (chars (flatten ps)), g)

-- the pieces behind a word: none, white space, or a mark
abbrev Behind : List Piece → Type 0
Behind [] = Unit {0}
Behind (blank b ∷ ps) = IsBlank b
Behind (word k b ∷ ps) = IsMark k b

blank_stops : {b : ℕ} → IsBlank b → (s : List ℕ) → Stops (chars (b ∷ s))
unfolding chars chars_from char_len
blank_stops tab s = refl
blank_stops line_feed s = refl
blank_stops space s = refl

mark_stops : {k : TokenKind} {b : List ℕ} → IsMark k b → (s : List ℕ) → Stops (chars (b ++ s))
unfolding chars chars_from char_len
mark_stops open_list s = refl
mark_stops close_list s = refl
mark_stops open_brace s = refl
mark_stops close_brace s = refl
mark_stops open_paren s = refl
mark_stops close_paren s = refl
mark_stops a_colon s = refl
mark_stops a_comma s = refl

end_stops : Stops (chars [])
unfolding chars chars_from
end_stops = tt

behind_stops : (ps : List Piece) → Behind ps → Stops (chars (flatten ps))
behind_stops [] h = end_stops
behind_stops (blank b ∷ ps) h = blank_stops h (flatten ps)
behind_stops (word k b ∷ ps) h = mark_stops h (flatten ps)

word_stays : (k : TokenKind) → IsLeaf k → (cs t : List Character) → Begins cs → longest_rule rules cs ≡ (k, length cs) → Stops t → longest_rule rules (cs ++ t) ≡ (k, length cs)
word_stays k l [] t b e h = absurd b
word_stays k l (c ∷ cs) t b e h = stays k l c cs t e h

leaf_good : (k : TokenKind) (b : List ℕ) (ps : List Piece) → IsLeaf k → IsWord k b → Behind ps → Good ps → Good (word k b ∷ ps)
leaf_good k b ps l w h g = (w, word_stays k l (chars b) (chars (flatten ps)) w.begins w.whole (behind_stops ps h), g)

tabs_good : (n : ℕ) (ps : List Piece) → Good ps → Good (tabs n ps)
tabs_good zero ps g = g
tabs_good (suc n) ps g = (tab, tabs_good n ps g)

more_behind : (vs : Values) (n : ℕ) (k : List Piece) → Behind k → Behind (more_p n vs k)
unfolding more_p
more_behind noneᵛ n k h = h
more_behind (v ∷ᵛ vs) n k h = a_comma

mutual
  unfolding value_p

  value_good : (v : Value) (m n : ℕ) (k : List Piece) → Ready m v → Behind k → Good k → Good (value_p n v k)
  value_good (identifierᵛ b) m n k r h g = leaf_good Identifier b k identifier_leaf r h g
  value_good (numberᵛ b) m n k r h g = leaf_good Number b k number_leaf r h g
  value_good (stringᵛ b) m n k r h g = leaf_good (string_kind b) b k (string_leaf r.string) r.is_word h g
  value_good (listᵛ vs) m n k r h g =
      mark_good open_list (elim (one_lineᵛ vs) [ true ↦ one_line_p n vs (closing ∷ k) | false ↦ line_end ∷ lines_p (suc n) vs (tabs n (closing ∷ k)) ])
      (either (one_lineᵛ vs) Good (one_line_p n vs (closing ∷ k)) (line_end ∷ lines_p (suc n) vs (tabs n (closing ∷ k)))
      (λ e. one_good vs m n (closing ∷ k) r close_list (mark_good close_list k g))
      (λ e. (line_feed, lines_good vs m (suc n) (tabs n (closing ∷ k)) r (tabs_good n (closing ∷ k) (mark_good close_list k g)))))
  value_good (mapᵛ ps) m n k r h g = mark_good open_brace (inside_p n ps (closing_brace ∷ k)) (inside_good ps m n (closing_brace ∷ k) r (mark_good close_brace k g))
  value_good (variantᵛ b vs) m n k r h g =
      let x : List Piece = elim (one_lineᵛ vs) [ true ↦ one_line_p n vs (closing_paren ∷ k) | false ↦ sole_p n vs (closing_paren ∷ k) ] in
      leaf_good (string_kind b) b (opening_paren ∷ x) (string_leaf r.0.string) r.0.is_word open_paren
      (mark_good open_paren x
      (either (one_lineᵛ vs) Good (one_line_p n vs (closing_paren ∷ k)) (sole_p n vs (closing_paren ∷ k))
      (λ e. one_good vs m n (closing_paren ∷ k) r.2 close_paren (mark_good close_paren k g))
      (λ e. sole_good vs m n (closing_paren ∷ k) r.2 (mark_good close_paren k g))))

  one_good : (vs : Values) (m n : ℕ) (k : List Piece) → AllReady m vs → Behind k → Good k → Good (one_line_p n vs k)
  one_good noneᵛ m n k r h g = g
  one_good (v ∷ᵛ vs) zero n k r h g = absurd r
  one_good (v ∷ᵛ vs) (suc m) n k r h g = value_good v m n (more_p n vs k) r.0 (more_behind vs n k h) (more_good vs (suc m) n k r.1 h g)

  more_good : (vs : Values) (m n : ℕ) (k : List Piece) → AllReady m vs → Behind k → Good k → Good (more_p n vs k)
  more_good noneᵛ m n k r h g = g
  more_good (v ∷ᵛ vs) zero n k r h g = absurd r
  more_good (v ∷ᵛ vs) (suc m) n k r h g =
      mark_good a_comma (blank 32 ∷ value_p n v (more_p n vs k)) (space, value_good v m n (more_p n vs k) r.0 (more_behind vs n k h) (more_good vs (suc m) n k r.1 h g))

  lines_good : (vs : Values) (m n : ℕ) (k : List Piece) → AllReady m vs → Good k → Good (lines_p n vs k)
  lines_good noneᵛ m n k r g = g
  lines_good (v ∷ᵛ vs) zero n k r g = absurd r
  lines_good (v ∷ᵛ vs) (suc m) n k r g = tabs_good n _ (value_good v m n (line_end ∷ lines_p n vs k) r.0 line_feed (line_feed, lines_good vs (suc m) n k r.1 g))

  pairs_good : (ps : Pairs) (m n : ℕ) (k : List Piece) → PairsReady m ps → Good k → Good (pairs_p n ps k)
  pairs_good noneᵖ m n k r g = g
  pairs_good (pairᵖ x y ps) zero n k r g = absurd r
  pairs_good (pairᵖ x y ps) (suc m) n k r g =
      tabs_good n _ (value_good x m n (colon ∷ blank 32 ∷ value_p n y (line_end ∷ pairs_p n ps k)) r.0 a_colon
      (mark_good a_colon (blank 32 ∷ value_p n y (line_end ∷ pairs_p n ps k)) (space, value_good y m n (line_end ∷ pairs_p n ps k) r.1 line_feed (line_feed, pairs_good ps (suc m) n k r.2 g))))

  inside_good : (ps : Pairs) (m n : ℕ) (k : List Piece) → PairsReady m ps → Good k → Good (inside_p n ps k)
  inside_good noneᵖ m n k r g = g
  inside_good (pairᵖ x y ps) zero n k r g = absurd r
  inside_good (pairᵖ x y ps) (suc m) n k r g = (
    line_feed,
    tabs_good (suc n) _ (value_good x m (suc n) (colon ∷ blank 32 ∷ value_p (suc n) y (line_end ∷ pairs_p (suc n) ps (tabs n k))) r.0 a_colon
        (mark_good a_colon (blank 32 ∷ value_p (suc n) y (line_end ∷ pairs_p (suc n) ps (tabs n k))) (space, value_good y m (suc n) (line_end ∷ pairs_p (suc n) ps (tabs n k)) r.1 line_feed (line_feed, pairs_good ps (suc m) (suc n) (tabs n k) r.2 (tabs_good n k g))))),
  )

  sole_good : (vs : Values) (m n : ℕ) (k : List Piece) → AllReady m vs → Good k → Good (sole_p n vs k)
  sole_good noneᵛ m n k r g = g
  sole_good (v ∷ᵛ vs) zero n k r g = absurd r
  sole_good (v ∷ᵛ vs) (suc m) n k r g = shared_good v m n k r.0 g

  shared_good : (v : Value) (m n : ℕ) (k : List Piece) → Ready m v → Good k → Good (shared_p n v k)
  shared_good (identifierᵛ b) m n k r g = g
  shared_good (numberᵛ b) m n k r g = g
  shared_good (stringᵛ b) m n k r g = g
  shared_good (listᵛ vs) m n k r g = mark_good open_list (line_end ∷ lines_p (suc n) vs (tabs n (closing ∷ k))) (line_feed, lines_good vs m (suc n) (tabs n (closing ∷ k)) r (tabs_good n (closing ∷ k) (mark_good close_list k g)))
  shared_good (mapᵛ ps) m n k r g = mark_good open_brace (inside_p n ps (closing_brace ∷ k)) (inside_good ps m n (closing_brace ∷ k) r (mark_good close_brace k g))
  shared_good (variantᵛ b vs) m n k r g = g

pub root_good : (v : Value) → RootReady v → Good (root_p v)
root_good (identifierᵛ b) r = value_good (identifierᵛ b) 63 0 [] r tt tt
root_good (numberᵛ b) r = value_good (numberᵛ b) 63 0 [] r tt tt
root_good (stringᵛ b) r = value_good (stringᵛ b) 63 0 [] r tt tt
root_good (listᵛ vs) r = value_good (listᵛ vs) 63 0 [] r tt tt
root_good (mapᵛ ps) r = pairs_good ps 64 0 [] r tt
root_good (variantᵛ b vs) r = value_good (variantᵛ b vs) 63 0 [] r tt tt
