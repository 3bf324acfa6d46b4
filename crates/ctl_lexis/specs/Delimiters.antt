-- The delimiters by their bytes (RM 2.2).
use Rattle.std.specs.Prelude.{ℕ, List, [], ◌∷◌}
use Rattle.ctl_tree.specs.declared.token.Kind.{Kind}
use Rattle.ctl_tree.specs.declared.token.Kind.TheVariants.{Ampersand, Apostrophe, LeftParenthesis, RightParenthesis, Star, Plus, Comma, Minus, Dot, Slash, Colon, Semicolon, Less, Equal, Greater, Bar, Arrow, DoubleDot, Becomes, NotEqual, GreaterEqual, LessEqual}

-- the delimiters of one byte
abbrev pub simple_delimiters : List (ℕ × Kind)
simple_delimiters =
    (38, Ampersand) ∷ (39, Apostrophe) ∷ (40, LeftParenthesis) ∷ (41, RightParenthesis) ∷ (42, Star) ∷ (43, Plus) ∷ (44, Comma) ∷ (45, Minus) ∷ (46, Dot) ∷ (47, Slash) ∷ (58, Colon) ∷ (59, Semicolon) ∷ (60, Less) ∷ (61, Equal) ∷ (62, Greater) ∷ (124, Bar) ∷ []

-- the delimiters of two bytes
abbrev pub compound_delimiters : List (ℕ × ℕ × Kind)
compound_delimiters =
    (61, 62, Arrow) ∷ (46, 46, DoubleDot) ∷ (58, 61, Becomes) ∷ (47, 61, NotEqual) ∷ (62, 61, GreaterEqual) ∷ (60, 61, LessEqual) ∷ []
