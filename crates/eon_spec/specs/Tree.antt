-- The tree of a text with its comments (token_tree.rs). What the Rust holds as a slice of the source is kept with its place.
use Rattle.std.specs.Prelude.{ℕ, List, Option}

pub record Span : Type 0 where
  pub start : ℕ
  pub end : ℕ

-- a part of the text: its place and its bytes
pub record Slice : Type 0 where
  pub span : Span
  pub bytes : List ℕ

abbrev pub Comment : Type 0
Comment = Slice

mutual
  pub data TokenTree : Type 0 where
    -- span, prefix comments, value, suffix comment
    tree : Span → List Comment → TokenValue → Option Comment → TokenTree

  pub data TokenValue : Type 0 where
    identifier : List ℕ → TokenValue
    number : List ℕ → TokenValue
    quoted_string : List ℕ → TokenValue
    -- values or pairs, closing comments
    list_of : TokenTrees → List Comment → TokenValue
    map_of : KeyValues → List Comment → TokenValue
    -- quoted name, values, closing comments
    variant_of : Slice → TokenTrees → List Comment → TokenValue

  pub data TokenTrees : Type 0 where
    no_trees : TokenTrees
    ◌∷ᵗ◌ : TokenTree → TokenTrees → TokenTrees

  pub data KeyValues : Type 0 where
    no_pairs : KeyValues
    -- key, value, further pairs
    pair : TokenTree → TokenTree → KeyValues → KeyValues

infixr 67 ◌∷ᵗ◌
