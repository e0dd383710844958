-- Reading the tokens of a written tree gives the tree back.
use Rattle.std.proofs.Common.{◌≡◌, ℕ, zero, suc, ◌+◌, ◌<◌, Bool, true, false, ◌||◌, List, [], ◌∷◌, length, None, refl, ap, ◌∙◌, not-suc-le-zero, arith}
use Rattle.eon_laws.proofs.Facts.{either}
use Rattle.eon_spec.specs.declared.token_kind.TokenKind.TheVariants.{CloseList, CloseBrace, CloseParen, Colon, Comma, Identifier, Number}
use Rattle.eon_spec.specs.Token.{is_kind}
use Rattle.eon_spec.specs.Tree.{Span, TokenTree, TokenTrees, tree, identifier, number, map_of}
use Rattle.eon_spec.specs.Parse.{Cursor, behind, rest, refused, Reader, list_contents, map_contents, list_inside, map_inside, consume_token, value_of, value_at, inside_at, mismatch, parsed, none_is_left, top_list, parse_top}
use Rattle.eon_laws.proofs.Parse.{inside_at_good}
use Rattle.eon_round_trip.proofs.Plain.{Value, Values, Pairs, identifierᵛ, numberᵛ, stringᵛ, listᵛ, mapᵛ, variantᵛ, noneᵛ, ◌∷ᵛ◌, noneᵖ, pairᵖ, is_identifier, is_number_lem, is_map, AreValues, are_none, are_more, IsTree, is_tree, one_lineᵛ, sole_container, is_containerᵛ, fits_sole}
use Rattle.eon_round_trip.proofs.Pieces.{Piece, blank, placed_tokens, string_kind, tabs, line_end, closing, closing_brace, closing_paren, colon, comma, value_p, one_line_p, more_p, lines_p, pairs_p, inside_p, sole_p, shared_p, root_p}
use Rattle.eon_round_trip.proofs.Ready.{Ready, AllReady, PairsReady, RootReady}
use Rattle.eon_round_trip.proofs.ReadSteps.{head_kind, comments_here, at_end_here, comma_span, Back, BackList, BackMap, Starts, starts, value_starts, tabs_head, list_end, list_item, list_comma, map_end, map_pair, fewer, from_word, list_back, map_back, string_back, variant_back, shift, untab, untab_map, After, Closes, twice}

lines_head : (vs : Values) (m n : ℕ) (k : List Piece) → AllReady m vs → Closes (head_kind k) → After (head_kind (lines_p n vs k)) × (is_kind (head_kind (lines_p n vs k)) Comma ≡ false)
unfolding lines_p
lines_head noneᵛ m n k r c = (c.after, c.no_comma)
lines_head (v ∷ᵛ vs) zero n k r c = absurd r
lines_head (v ∷ᵛ vs) (suc m) n k r c =
    let s = value_starts v m n (line_end ∷ lines_p n vs k) r.0 in
    rw (tabs_head n (value_p n v (line_end ∷ lines_p n vs k))) (s.after, s.no_comma)

pairs_head : (ps : Pairs) (m n : ℕ) (k : List Piece) → PairsReady m ps → Closes (head_kind k) → After (head_kind (pairs_p n ps k)) × (is_kind (head_kind (pairs_p n ps k)) Comma ≡ false)
unfolding pairs_p
pairs_head noneᵖ m n k r c = (c.after, c.no_comma)
pairs_head (pairᵖ x y ps) zero n k r c = absurd r
pairs_head (pairᵖ x y ps) (suc m) n k r c =
    let s = value_starts x m n (colon ∷ blank 32 ∷ value_p n y (line_end ∷ pairs_p n ps k)) r.0 in
    rw (tabs_head n (value_p n x (colon ∷ blank 32 ∷ value_p n y (line_end ∷ pairs_p n ps k)))) (s.after, s.no_comma)

more_head : (vs : Values) (n : ℕ) (k : List Piece) → Closes (head_kind k) → After (head_kind (more_p n vs k))
unfolding more_p
more_head noneᵛ n k c = c.after
more_head (v ∷ᵛ vs) n k c = record { no_comment = refl; no_paren = refl }

tabs_closes : (n : ℕ) (k : List Piece) → Closes (head_kind k) → Closes (head_kind (tabs n k))
tabs_closes n k c = rw (tabs_head n k) c

closes : Closes CloseList
closes = record { after = record { no_comment = refl; no_paren = refl }; no_comma = refl; an_end = refl }

closes_brace : Closes CloseBrace
closes_brace = record { after = record { no_comment = refl; no_paren = refl }; no_comma = refl; an_end = refl }

closes_paren : Closes CloseParen
closes_paren = record { after = record { no_comment = refl; no_paren = refl }; no_comma = refl; an_end = refl }

module _ (len : ℕ) where
  fewer_left : (d : ℕ) (c : Cursor) (k : List Piece) (w : Value) (b : Back k w (inside_at len d c)) → length (placed_tokens b.at b.nl k) < length (rest c)
  fewer_left d c k w b = fewer (length (rest c)) (tree b.place [] b.val None) (behind b.last (placed_tokens b.at b.nl k)) (inside_at len d c) b.eq (inside_at_good len d c)

  shared_starts : (v : Value) (n : ℕ) (k : List Piece) → is_containerᵛ v ≡ true → Starts (head_kind (shared_p n v k))
  unfolding shared_p
  shared_starts (identifierᵛ b) n k e = cc
  shared_starts (numberᵛ b) n k e = cc
  shared_starts (stringᵛ b) n k e = cc
  shared_starts (listᵛ vs) n k e = starts refl
  shared_starts (mapᵛ ps) n k e = starts refl
  shared_starts (variantᵛ b vs) n k e = cc

  -- a last value
  sole_item : (m : ℕ) (k : List Piece) (fuel at : ℕ) (nl : Bool) (l : Span) (v : Value) (ps : List Piece) → Closes (head_kind k) → Starts (head_kind ps)
      → Back k v (inside_at len (twice m) (behind l (placed_tokens at nl ps))) → length (placed_tokens at nl ps) < fuel
      → BackList k (v ∷ᵛ noneᵛ) (list_contents (inside_at len (twice m)) fuel (behind l (placed_tokens at nl ps)))
  sole_item m k zero at nl l v ps c s b h = absurd (not-suc-le-zero h)
  sole_item m k (suc fuel) at nl l v ps c s b h =
      let f = fewer_left (twice m) (behind l (placed_tokens at nl ps)) k v b in
      list_item (inside_at len (twice m)) ps k k fuel at nl l v noneᵛ s c.no_comma b (list_end (inside_at len (twice m)) k fuel b.at b.nl b.last c.after.no_comment c.an_end (omega arith))

  -- a pair, given how its parts are read
  abbrev ReadsValue : ℕ → ℕ → Value → Type 0
  ReadsValue m n v =
      (k : List Piece) (at : ℕ) (nl : Bool) (l : Span) → Ready m v → After (head_kind k) → Back k v (value_at len (suc (twice m)) (behind l (placed_tokens at nl (value_p n v k))))

  abbrev ReadsPairs : ℕ → ℕ → Pairs → List Piece → Type 0
  ReadsPairs m n ps k =
      (fuel at : ℕ) (nl : Bool) (l : Span) → PairsReady m ps → Closes (head_kind k) → length (placed_tokens at nl (pairs_p n ps k)) < fuel
      → BackMap k ps (map_contents (inside_at len (twice m)) fuel (behind l (placed_tokens at nl (pairs_p n ps k))))

  pair_case : (x y : Value) (ps : Pairs) (m n : ℕ) (k : List Piece) → ReadsValue m n x → ReadsValue m n y → ReadsPairs (suc m) n ps k → ReadsPairs (suc m) n (pairᵖ x y ps) k
  unfolding pairs_p value_at
  pair_case x y ps m n k vx vy vps zero at nl l r c h = absurd (not-suc-le-zero h)
  pair_case x y ps m n k vx vy vps (suc fuel) at nl l r c h =
      let z = line_end ∷ pairs_p n ps k in
      let q = blank 32 ∷ value_p n y z in
      let p = value_p n x (colon ∷ q) in
      let e = shift n at nl p in
      let hd = pairs_head ps (suc m) n k r.2 c in
      let b = vx (colon ∷ q) e.0 e.1 l r.0 (record { no_comment = refl; no_paren = refl }) in
      let d = vy z (b.at + 1 + 1) false (comma_span b.at) r.1 hd.0 in
      let f = fewer_left (twice (suc m)) (behind l (placed_tokens e.0 e.1 p)) (colon ∷ q) x b in
      let g = fewer_left (twice (suc m)) (behind (comma_span b.at) (placed_tokens (b.at + 1 + 1) false (value_p n y z))) z y d in
      rw e.2
      (map_pair (inside_at len (twice (suc m))) p q z k fuel e.0 e.1 l x y ps (value_starts x m n (colon ∷ q) r.0) hd.1 b d
      (vps fuel (d.at + 1) (d.nl || true) d.last r.2 c (let j = rw e.2 at h in omega arith)))

  mutual
    unfolding value_p value_at list_inside map_inside value_of

    value_back : (v : Value) (m n : ℕ) (k : List Piece) (at : ℕ) (nl : Bool) (l : Span) → Ready m v → After (head_kind k)
        → Back k v (value_at len (suc (twice m)) (behind l (placed_tokens at nl (value_p n v k))))
    value_back (identifierᵛ b) m n k at nl l r a =
        from_word len (inside_at len (twice m)) k k at (at + length b) nl false l (record { start = at; end = at + length b }) Identifier b (identifier b) (identifierᵛ b) refl a.no_comment refl is_identifier
    value_back (numberᵛ b) m n k at nl l r a =
        from_word len (inside_at len (twice m)) k k at (at + length b) nl false l (record { start = at; end = at + length b }) Number b (number b) (numberᵛ b) refl a.no_comment refl is_number_lem
    value_back (stringᵛ b) m n k at nl l r a = string_back len (inside_at len (twice m)) k at nl l (string_kind b) b r.string a.no_comment a.no_paren
    value_back (listᵛ vs) m n k at nl l r a =
        list_back len (inside_at len (twice m))
        (elim (one_lineᵛ vs) [ true ↦ one_line_p n vs (closing ∷ k) | false ↦ line_end ∷ lines_p (suc n) vs (tabs n (closing ∷ k)) ]) k at nl l vs a.no_comment
        (either (one_lineᵛ vs) (λ (x : List Piece). BackList (closing ∷ k) vs (list_contents (inside_at len (twice m)) (suc (length (placed_tokens (at + 1) false x))) (behind (comma_span at) (placed_tokens (at + 1) false x))))
        (one_line_p n vs (closing ∷ k)) (line_end ∷ lines_p (suc n) vs (tabs n (closing ∷ k)))
        (λ e. one_back vs m n (closing ∷ k) _ (at + 1) false (comma_span at) r closes (omega arith))
        (λ e. untab n (closing ∷ k) vs _ (lines_back vs m (suc n) (tabs n (closing ∷ k)) _ (at + 1 + 1) true (comma_span at) r (tabs_closes n (closing ∷ k) closes) (omega arith))))
    value_back (mapᵛ ps) m n k at nl l r a = map_back len (inside_at len (twice m)) (inside_p n ps (closing_brace ∷ k)) k at nl l ps a.no_comment (inside_back ps m n (closing_brace ∷ k) (at + 1) (comma_span at) r closes_brace)
    value_back (variantᵛ b vs) m n k at nl l r a =
        let p = at + length b in
        variant_back len (inside_at len (twice m))
        (elim (one_lineᵛ vs) [ true ↦ one_line_p n vs (closing_paren ∷ k) | false ↦ sole_p n vs (closing_paren ∷ k) ]) k at nl l (string_kind b) b vs r.0.string a.no_comment
        (either (one_lineᵛ vs) (λ (x : List Piece). BackList (closing_paren ∷ k) vs (list_contents (inside_at len (twice m)) (suc (length (placed_tokens (p + 1) false x))) (behind (comma_span p) (placed_tokens (p + 1) false x))))
        (one_line_p n vs (closing_paren ∷ k)) (sole_p n vs (closing_paren ∷ k))
        (λ e. one_back vs m n (closing_paren ∷ k) _ (p + 1) false (comma_span p) r.2 closes_paren (omega arith))
        (λ e. sole_back vs m n (closing_paren ∷ k) _ (p + 1) false (comma_span p) r.2 (fits_sole vs r.1 e) closes_paren (omega arith)))

    shared_back : (v : Value) (m n : ℕ) (k : List Piece) (at : ℕ) (nl : Bool) (l : Span) → Ready m v → is_containerᵛ v ≡ true → After (head_kind k)
        → Back k v (value_at len (suc (twice m)) (behind l (placed_tokens at nl (shared_p n v k))))
    shared_back (identifierᵛ b) m n k at nl l r e a = cc
    shared_back (numberᵛ b) m n k at nl l r e a = cc
    shared_back (stringᵛ b) m n k at nl l r e a = cc
    shared_back (listᵛ vs) m n k at nl l r e a =
        list_back len (inside_at len (twice m)) (line_end ∷ lines_p (suc n) vs (tabs n (closing ∷ k))) k at nl l vs a.no_comment
        (untab n (closing ∷ k) vs _ (lines_back vs m (suc n) (tabs n (closing ∷ k)) _ (at + 1 + 1) true (comma_span at) r (tabs_closes n (closing ∷ k) closes) (omega arith)))
    shared_back (mapᵛ ps) m n k at nl l r e a = map_back len (inside_at len (twice m)) (inside_p n ps (closing_brace ∷ k)) k at nl l ps a.no_comment (inside_back ps m n (closing_brace ∷ k) (at + 1) (comma_span at) r closes_brace)
    shared_back (variantᵛ b vs) m n k at nl l r e a = cc

    sole_back : (vs : Values) (m n : ℕ) (k : List Piece) (fuel at : ℕ) (nl : Bool) (l : Span) → AllReady m vs → sole_container vs ≡ true → Closes (head_kind k) → length (placed_tokens at nl (sole_p n vs k)) < fuel
        → BackList k vs (list_contents (inside_at len (twice m)) fuel (behind l (placed_tokens at nl (sole_p n vs k))))
    sole_back noneᵛ m n k fuel at nl l r e c h = cc
    sole_back (v ∷ᵛ (w ∷ᵛ vs)) m n k fuel at nl l r e c h = cc
    sole_back (v ∷ᵛ noneᵛ) zero n k fuel at nl l r e c h = absurd r
    sole_back (v ∷ᵛ noneᵛ) (suc m) n k fuel at nl l r e c h =
        sole_item (suc m) k fuel at nl l v (shared_p n v k) c (shared_starts v n k e) (shared_back v m n k at nl l r.0 e c.after) h

    one_back : (vs : Values) (m n : ℕ) (k : List Piece) (fuel at : ℕ) (nl : Bool) (l : Span) → AllReady m vs → Closes (head_kind k) → length (placed_tokens at nl (one_line_p n vs k)) < fuel
        → BackList k vs (list_contents (inside_at len (twice m)) fuel (behind l (placed_tokens at nl (one_line_p n vs k))))
    one_back noneᵛ m n k fuel at nl l r c h = list_end (inside_at len (twice m)) k fuel at nl l c.after.no_comment c.an_end (omega arith)
    one_back (v ∷ᵛ vs) zero n k fuel at nl l r c h = absurd r
    one_back (v ∷ᵛ vs) (suc m) n k fuel at nl l r c h =
        more_back vs (suc m) n k fuel at nl l v (value_p n v (more_p n vs k)) r.1 c (value_starts v m n (more_p n vs k) r.0) (value_back v m n (more_p n vs k) at nl l r.0 (more_head vs n k c)) h

    more_back : (vs : Values) (m n : ℕ) (k : List Piece) (fuel at : ℕ) (nl : Bool) (l : Span) (v : Value) (ps : List Piece) → AllReady m vs → Closes (head_kind k) → Starts (head_kind ps)
        → Back (more_p n vs k) v (inside_at len (twice m) (behind l (placed_tokens at nl ps))) → length (placed_tokens at nl ps) < fuel
        → BackList k (v ∷ᵛ vs) (list_contents (inside_at len (twice m)) fuel (behind l (placed_tokens at nl ps)))
    more_back noneᵛ m n k fuel at nl l v ps r c s b h = sole_item m k fuel at nl l v ps c s b h
    more_back (w ∷ᵛ vs) zero n k fuel at nl l v ps r c s b h = absurd r
    more_back (w ∷ᵛ vs) (suc m) n k zero at nl l v ps r c s b h = absurd (not-suc-le-zero h)
    more_back (w ∷ᵛ vs) (suc m) n k (suc fuel) at nl l v ps r c s b h =
        let x = blank 32 ∷ value_p n w (more_p n vs k) in
        let f = fewer_left (twice (suc m)) (behind l (placed_tokens at nl ps)) (comma ∷ x) v b in
        let t = value_starts w m n (more_p n vs k) r.0 in
        list_comma (inside_at len (twice (suc m))) ps x k fuel at nl l v (w ∷ᵛ vs) s t.after.no_comment b
        (more_back vs (suc m) n k fuel (b.at + 1 + 1) false (comma_span b.at) w (value_p n w (more_p n vs k)) r.1 c t
        (value_back w m n (more_p n vs k) (b.at + 1 + 1) false (comma_span b.at) r.0 (more_head vs n k c)) (omega arith))

    lines_back : (vs : Values) (m n : ℕ) (k : List Piece) (fuel at : ℕ) (nl : Bool) (l : Span) → AllReady m vs → Closes (head_kind k) → length (placed_tokens at nl (lines_p n vs k)) < fuel
        → BackList k vs (list_contents (inside_at len (twice m)) fuel (behind l (placed_tokens at nl (lines_p n vs k))))
    lines_back noneᵛ m n k fuel at nl l r c h = list_end (inside_at len (twice m)) k fuel at nl l c.after.no_comment c.an_end (omega arith)
    lines_back (v ∷ᵛ vs) zero n k fuel at nl l r c h = absurd r
    lines_back (v ∷ᵛ vs) (suc m) n k zero at nl l r c h = absurd (not-suc-le-zero h)
    lines_back (v ∷ᵛ vs) (suc m) n k (suc fuel) at nl l r c h =
        let y = line_end ∷ lines_p n vs k in
        let x = value_p n v y in
        let e = shift n at nl x in
        let hd = lines_head vs (suc m) n k r.1 c in
        let b = value_back v m n y e.0 e.1 l r.0 hd.0 in
        let f = fewer_left (twice (suc m)) (behind l (placed_tokens e.0 e.1 x)) y v b in
        rw e.2
        (list_item (inside_at len (twice (suc m))) x y k fuel e.0 e.1 l v vs (value_starts v m n y r.0) hd.1 b
        (lines_back vs (suc m) n k fuel (b.at + 1) _ b.last r.1 c (let g = rw e.2 at h in omega arith)))

    pairs_back : (ps : Pairs) (m n : ℕ) (k : List Piece) (fuel at : ℕ) (nl : Bool) (l : Span) → PairsReady m ps → Closes (head_kind k) → length (placed_tokens at nl (pairs_p n ps k)) < fuel
        → BackMap k ps (map_contents (inside_at len (twice m)) fuel (behind l (placed_tokens at nl (pairs_p n ps k))))
    pairs_back noneᵖ m n k fuel at nl l r c h = map_end (inside_at len (twice m)) k fuel at nl l c.after.no_comment c.an_end (omega arith)
    pairs_back (pairᵖ x y ps) zero n k fuel at nl l r c h = absurd r
    pairs_back (pairᵖ x y ps) (suc m) n k fuel at nl l r c h = pair_case x y ps m n k (λ k at nl l r a. value_back x m n k at nl l r a) (λ k at nl l r a. value_back y m n k at nl l r a) (λ fuel at nl l r c h. pairs_back ps (suc m) n k fuel at nl l r c h) fuel at nl l r c h

    inside_back : (ps : Pairs) (m n : ℕ) (k : List Piece) (at : ℕ) (l : Span) → PairsReady m ps → Closes (head_kind k)
        → BackMap k ps (map_inside (inside_at len (twice m)) (behind l (placed_tokens at false (inside_p n ps k))))
    inside_back noneᵖ m n k at l r c = map_end (inside_at len (twice m)) k _ at false l c.after.no_comment c.an_end (omega arith)
    inside_back (pairᵖ x y ps) zero n k at l r c = absurd r
    inside_back (pairᵖ x y ps) (suc m) n k at l r c =
        untab_map n k (pairᵖ x y ps) _
        (pair_case x y ps m (suc n) (tabs n k) (λ k at nl l r a. value_back x m (suc n) k at nl l r a) (λ k at nl l r a. value_back y m (suc n) k at nl l r a) (λ fuel at nl l r c h. pairs_back ps (suc m) (suc n) (tabs n k) fuel at nl l r c h) _ (at + 1) true l r (tabs_closes n k c) (omega arith))

  -- the try as a map fails where the text is one value
  map_fails : (value : Reader) (ps : List Piece) (fuel at : ℕ) (nl : Bool) (l : Span) (w : Value) → Starts (head_kind ps) → (b : Back [] w (value (behind l (placed_tokens at nl ps))))
      → map_contents value (suc fuel) (behind l (placed_tokens at nl ps)) ≡ refused (mismatch 12 b.last Colon 0) b.last.end
  unfolding map_contents consume_token
  map_fails value ps fuel at nl l w st b =
      rw (comments_here ps at nl l st.after.no_comment, map_contents, at_end_here ps at nl l ∙ st.no_end, comments_here ps at nl l st.after.no_comment, b.eq)

  one_of : (ts : TokenTrees) (v : Value) → AreValues ts (v ∷ᵛ noneᵛ) → (t : TokenTree) × (top_list len ts [] ≡ t) × IsTree t v
  one_of ts v (are_more {s = s} {v = x} i are_none) = (tree s [] x None, refl, is_tree i)

  abbrev pub RootBack : Value → Type 0
  RootBack v = (t : TokenTree) × (parse_top len (placed_tokens 0 false (root_p v)) ≡ parsed t) × IsTree t v

  abbrev start_span : Span
  start_span = record { start = 0; end = 0 }

  closes_end : After CloseList
  closes_end = record { no_comment = refl; no_paren = refl }

  -- a root that is one value
  one_root : (v : Value) → Ready 63 v
      → (t : TokenTree) × (parse_top len (placed_tokens 0 false (value_p 0 v [])) ≡ parsed t) × IsTree t v
  unfolding parse_top map_inside list_inside value_at none_is_left
  one_root v r =
      let ps = value_p 0 v [] in
      let b : Back [] v (inside_at len 128 (behind start_span (placed_tokens 0 false ps))) = value_back v 63 0 [] 0 false start_span r closes_end in
      let st = value_starts v 63 0 [] r in
      let ls = sole_item 64 [] (suc (length (placed_tokens 0 false ps))) 0 false start_span v ps closes st b (omega arith) in
      let o = one_of ls.vals v ls.same in
      (o.0, rw (map_fails (inside_at len 128) ps (length (placed_tokens 0 false ps)) 0 false start_span v st b, ls.eq) (ap parsed o.1), o.2)

  pub root_back : (v : Value) → RootReady v → RootBack v
  unfolding parse_top map_inside none_is_left
  root_back (identifierᵛ b) r = one_root (identifierᵛ b) r
  root_back (numberᵛ b) r = one_root (numberᵛ b) r
  root_back (stringᵛ b) r = one_root (stringᵛ b) r
  root_back (listᵛ vs) r = one_root (listᵛ vs) r
  root_back (mapᵛ ps) r =
      let m = pairs_back ps 64 0 [] (suc (length (placed_tokens 0 false (pairs_p 0 ps [])))) 0 false start_span r closes (omega arith) in
      (tree (record { start = 0; end = len }) [] (map_of m.vals []) None, rw m.eq, is_tree (is_map m.same))
  root_back (variantᵛ b vs) r = one_root (variantᵛ b vs) r
