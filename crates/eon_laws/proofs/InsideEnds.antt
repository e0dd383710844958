-- An inside ends before a closing token or at the text's end: so behind the whole text stands "one further token, always a closing one".
use Rattle.std.proofs.Common.{◌≡◌, ℕ, zero, suc, Bool, true, false, length, refl}
use Rattle.eon_spec.specs.declared.token_kind.TokenKind.TheVariants.{Colon}
use Rattle.eon_spec.specs.Parse.{Cursor, rest, Read, read, refused, Reader, bind, list_contents, map_contents, list_inside, map_inside, comments_at, consume_token, at_end, after_comma}

abbrev pub Ends : {A : Type 0} → Read A → Type 0
Ends (read a c) = at_end c ≡ true
Ends (refused r l) = Unit {0}

bind_ends : {A B : Type 0} (r : Read A) (f : A → Cursor → Read B) → ((a : A) (c : Cursor) → Ends (f a c)) → Ends (bind r f)
bind_ends (read a c) f h = h a c
bind_ends (refused r l) f h = tt

-- what is made of an inside ends with it
made_ends : {A B : Type 0} (r : Read A) (f : A → B) → Ends r → Ends (bind r λ a c. read (f a) c)
made_ends (read a c) f h = h
made_ends (refused r l) f h = tt

module _ (value : Reader) where
  list_ends : (f : ℕ) (c : Cursor) → Ends (list_contents value f c)
  unfolding list_contents
  list_ends zero c = tt
  list_ends (suc f) c = go (at_end (comments_at c).1) refl (list_ends f)
    where
      go : (b : Bool) → at_end (comments_at c).1 ≡ b → ((d : Cursor) → Ends (list_contents value f d)) → Ends (list_contents value (suc f) c)
      go true e rec = rw (e, list_contents) e
      go false e rec =
          rw (e, list_contents)
          (bind_ends (value (comments_at c).1) _ λ v d.
          made_ends (list_contents value f (after_comma v d).1) _ (rec (after_comma v d).1))

  map_ends : (f : ℕ) (c : Cursor) → Ends (map_contents value f c)
  unfolding map_contents
  map_ends zero c = tt
  map_ends (suc f) c = go (at_end (comments_at c).1) refl (map_ends f)
    where
      go : (b : Bool) → at_end (comments_at c).1 ≡ b → ((d : Cursor) → Ends (map_contents value f d)) → Ends (map_contents value (suc f) c)
      go true e rec = rw (e, map_contents) e
      go false e rec =
          rw (e, map_contents)
          (bind_ends (value (comments_at c).1) _ λ k c1.
          bind_ends (consume_token Colon c1) _ λ _ c2.
          bind_ends (value c2) _ λ v c3.
          made_ends (map_contents value f (after_comma v c3).1) _ (rec (after_comma v c3).1))

  pub list_inside_ends : (c : Cursor) → Ends (list_inside value c)
  unfolding list_inside
  list_inside_ends c = list_ends (suc (length (rest c))) c

  pub map_inside_ends : (c : Cursor) → Ends (map_inside value c)
  unfolding map_inside
  map_inside_ends c = map_ends (suc (length (rest c))) c
