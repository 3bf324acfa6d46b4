-- The pieces that a text falls into (RM 2.2 to 2.7, 2.9): each is as long as it can be.
use Rattle.std.specs.Prelude.{◌≡◌, ◌≢◌, ℕ, ◌+◌, ◌*◌, ◌-◌, ◌≤◌, Bool, true, false, ◌&&◌, ◌||◌, not, ◌==◌, nat_le, List, [], ◌∷◌, ◌++◌, length, map, count_by, slice_index, if◌then◌else◌}
use Rattle.std.specs.Char.{to_ascii_lowercase}
use Rattle.ctl_tree.specs.declared.token.Kind.{Kind}
use Rattle.ctl_tree.specs.declared.token.Kind.TheVariants.{Identifier, Number, String}
use Rattle.ctl_lexis.specs.declared.class.ByteClass.TheVariants.{Letter, Digit, Other}
use Rattle.ctl_lexis.specs.Bytes.{class_of, is_blank, is_letter, is_digit, is_underscore, is_graphic, in_name, in_number, in_line}
use Rattle.ctl_lexis.specs.Spelling.{spelling}

-- each of the bytes is such a byte
abbrev pub Passes : (ℕ → Bool) → List ℕ → Type 0
Passes p [] = Unit {0}
Passes p (b ∷ bytes) = (p b ≡ true) × Passes p bytes

-- the rest does not go on with such a byte
abbrev pub Stops : (ℕ → Bool) → List ℕ → Type 0
Stops p [] = Unit {0}
Stops p (b ∷ bytes) = p b ≡ false

-- A piece of a text: a gap between tokens, or a token without its place.
pub data Piece : Type 0 where
  gap : Piece
  -- its kind, and what it carries: an identifier as it is written or a string's content, and a number's value
  lexeme : (kind : Kind) (text : List ℕ) (value : ℕ) → Piece

-- No underscore stands behind another (the flag: behind a byte before these), and none is the last (RM 2.3, 2.4).
abbrev pub has_single_underscores : Bool → List ℕ → Bool
has_single_underscores behind [] = not behind
has_single_underscores behind (b ∷ bytes) =
    if is_underscore b then not behind && has_single_underscores true bytes else has_single_underscores false bytes

-- the bytes without regard to case
abbrev pub in_small_letters : List ℕ → List ℕ
in_small_letters bytes = map to_ascii_lowercase bytes

-- A letter, then letters, digits and underscores, as many as there are (RM 2.3).
pub record IsName (text rest : List ℕ) : Type 0 where
  pub first : ℕ
  pub more : List ℕ
  pub parts : text ≡ first ∷ more
  pub begins : class_of first ≡ Letter
  pub goes_on : Passes in_name text
  pub ends : Stops in_name rest

-- these letters spell this word, in either case (RM 2.9)
abbrev pub Spells : List ℕ → Kind → Type 0
Spells text kind = in_small_letters text ≡ spelling kind

-- A digit, then digits and underscores, as many as there are (RM 2.4).
pub record IsNumeral (text rest : List ℕ) : Type 0 where
  pub first : ℕ
  pub more : List ℕ
  pub parts : text ≡ first ∷ more
  pub begins : class_of first ≡ Digit
  pub goes_on : Passes in_number text
  pub ends : Stops in_number rest

-- a number would go on into a letter, a number sign, or a point with a digit: those are left out
abbrev pub runs_on : List ℕ → Bool
runs_on rest = is_letter (slice_index rest 0) || (slice_index rest 0 == 35 || (slice_index rest 0 == 46 && is_digit (slice_index rest 1)))

-- at most 18 digits with single underscores between them, and what follows does not go on with the number
unfoldable pub is_number : List ℕ → List ℕ → Bool
is_number text rest = has_single_underscores false text && (nat_le (count_by is_digit text) 18 && not (runs_on rest))

-- the value of the digits, behind this value of those before them
abbrev pub value_from : ℕ → List ℕ → ℕ
value_from v [] = v
value_from v (b ∷ bytes) = if is_digit b then value_from (v * 10 + (b - 48)) bytes else value_from v bytes

-- a string's content as it is written: each quotation mark in it twice (RM 2.6)
abbrev pub quoted : List ℕ → List ℕ
quoted [] = []
quoted (b ∷ bytes) = if b == 34 then 34 ∷ 34 ∷ quoted bytes else b ∷ quoted bytes

abbrev pub is_quotation_mark : ℕ → Bool
is_quotation_mark b = b == 34

-- A string of this body: the body in quotation marks, and no further one behind it.
pub record IsClosed (body text rest : List ℕ) : Type 0 where
  pub content : List ℕ
  pub doubled : body ≡ quoted content
  pub parts : text ≡ 34 ∷ (body ++ 34 ∷ [])
  pub one_line : Passes in_line body
  pub ends : Stops is_quotation_mark rest

-- A delimiter: the longest that begins here, and no comment does (RM 2.2, 2.7).
pub record IsDelimiter (kind : Kind) (text rest : List ℕ) : Type 0 where
  pub first : ℕ
  pub more : List ℕ
  pub parts : text ≡ first ∷ more
  pub begins : class_of first ≡ Other
  pub spelled : text ≡ spelling kind
  pub longest : (other : Kind) (behind : List ℕ) → text ++ rest ≡ spelling other ++ behind → length (spelling other) ≤ length text
  pub no_comment : (behind : List ℕ) → text ++ rest ≢ 45 ∷ 45 ∷ behind

-- Two hyphens and what follows them in the line (RM 2.7).
pub record IsComment (text rest : List ℕ) : Type 0 where
  pub body : List ℕ
  pub parts : text ≡ 45 ∷ 45 ∷ body
  pub goes_on : Passes in_line body
  pub ends : Stops in_line rest

-- This text is this piece where this rest stands behind it: by cases on the rules.
pub data IsPiece : Piece → List ℕ → List ℕ → Type 0 where
  blank : {b : ℕ} {rest : List ℕ} → is_blank b ≡ true → IsPiece gap (b ∷ []) rest
  comment : {text rest : List ℕ} → IsComment text rest → IsPiece gap text rest
  word : {text rest : List ℕ} {kind : Kind} → IsName text rest → has_single_underscores false text ≡ true → Spells text kind → IsPiece (lexeme kind [] 0) text rest
  identifier : {text rest : List ℕ} → IsName text rest → has_single_underscores false text ≡ true → ((kind : Kind) → Spells text kind → ⊥) → IsPiece (lexeme Identifier text 0) text rest
  number : {text rest : List ℕ} → IsNumeral text rest → is_number text rest ≡ true → IsPiece (lexeme Number [] (value_from 0 text)) text rest
  string : {content text rest : List ℕ} → IsClosed (quoted content) text rest → Passes is_graphic (quoted content) → IsPiece (lexeme String content 0) text rest
  delimiter : {text rest : List ℕ} {kind : Kind} → IsDelimiter kind text rest → IsPiece (lexeme kind [] 0) text rest
