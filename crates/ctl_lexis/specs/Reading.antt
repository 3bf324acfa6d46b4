-- How a text is read from its front: the one shape that stands there with its length, or the fault and how far behind the
-- front it stands.
use Rattle.std.specs.Prelude.{ℕ, ◌+◌, ◌-◌, Bool, true, false, ◌&&◌, ◌==◌, nat_lt, List, [], ◌∷◌, length, take, drop, Option, Some, None, Result, Ok, Err, slice_index, if◌then◌else◌}
use Rattle.std.specs.List.{find}
use Rattle.std.specs.Str.{str_eq_ignore_ascii_case}
use Rattle.ctl_tree.specs.declared.token.Kind.{Kind}
use Rattle.ctl_tree.specs.declared.fault.FaultCode.{FaultCode}
use Rattle.ctl_tree.specs.declared.fault.FaultCode.TheVariants.{BadByte, BadNumber, OpenString, BadIdentifier}
use Rattle.ctl_lexis.specs.declared.class.ByteClass.{ByteClass}
use Rattle.ctl_lexis.specs.declared.class.ByteClass.TheVariants.{Blank, Letter, Digit, Quote, Other}
use Rattle.ctl_lexis.specs.declared.shape.Shape.{Shape}
use Rattle.ctl_lexis.specs.declared.shape.Shape.TheVariants.{Gap, Fixed, Identifier, Number, String}
use Rattle.ctl_lexis.specs.Bytes.{class_of, run, is_graphic, is_line_end, in_name, in_number, in_line}
use Rattle.ctl_tree.specs.declared.token.Kind.TheVariants as kind
use Rattle.ctl_lexis.specs.Pieces.{Piece, gap, lexeme, has_single_underscores, is_number, value_from}
use Rattle.ctl_lexis.specs.Spelling.{spelling}
use Rattle.ctl_lexis.specs.Words.{words_of_length}
use Rattle.ctl_lexis.specs.Delimiters.{simple_delimiters, compound_delimiters}

-- the name spells this word, in letters of either case
unfoldable pub has_spelling : List ℕ → Kind → Bool
has_spelling name k = str_eq_ignore_ascii_case name (spelling k)

-- the reserved word that a name spells
unfoldable pub word_of : List ℕ → Option Kind
word_of name = find (has_spelling name) (words_of_length (length name))

abbrev pub word_shape : Option Kind → Shape
word_shape None = Identifier
word_shape (Some k) = Fixed k

-- what stands at the front, with its length; or a fault, so far behind the front
abbrev pub Front : Type 0
Front = Result (Shape × ℕ) (FaultCode × ℕ)

-- an identifier or a reserved word of these bytes
unfoldable pub name_of : List ℕ → Front
name_of text = if has_single_underscores false text then Ok (word_shape (word_of text), length text) else Err (BadIdentifier, 0)

unfoldable pub name_at : List ℕ → Front
name_at bytes = name_of (take (run in_name bytes) bytes)

unfoldable pub number_of : List ℕ → List ℕ → Front
number_of text rest = if is_number text rest then Ok (Number (value_from 0 text), length text) else Err (BadNumber, 0)

unfoldable pub number_at : List ℕ → Front
number_at bytes = number_of (take (run in_number bytes) bytes) (drop (run in_number bytes) bytes)

-- a length, where there is one, and so many bytes before it
abbrev pub add_to : ℕ → Option ℕ → Option ℕ
add_to n None = None
add_to n (Some m) = Some (n + m)

-- How many bytes stand before the quotation mark that closes a string; nothing where the line or the text ends before it.
-- A quotation mark with another one directly behind it closes nothing; the flag says that one stands just before.
abbrev pub body_length : Bool → List ℕ → Option ℕ
body_length true [] = Some 0
body_length false [] = None
body_length true (b ∷ bytes) = if b == 34 then add_to 2 (body_length false bytes) else Some 0
body_length false (b ∷ bytes) =
    if b == 34 then body_length true bytes
    else (if is_line_end b then None else add_to 1 (body_length false bytes))

-- a string's body with each doubled quotation mark once; the flag says that the first of two stands just before
abbrev pub content_of : Bool → List ℕ → List ℕ
content_of halfway [] = []
content_of halfway (b ∷ bytes) =
    if halfway && b == 34 then content_of false bytes else b ∷ content_of (b == 34) bytes

-- a string whose body has this many bytes
unfoldable pub string_of : ℕ → List ℕ → Front
string_of n body =
    if nat_lt (run is_graphic (take n body)) n then Err (BadByte, 1 + run is_graphic (take n body)) else Ok (String, n + 2)

abbrev pub closed_string : List ℕ → Option ℕ → Front
closed_string body None = Err (OpenString, 0)
closed_string body (Some n) = string_of n body

unfoldable pub string_at : List ℕ → Front
string_at bytes = closed_string (drop 1 bytes) (body_length false (drop 1 bytes))

-- the kind that a table has for a byte
abbrev pub simple_in : List (ℕ × Kind) → ℕ → Option Kind
simple_in [] b = None
simple_in (entry ∷ entries) b = if b == entry.0 then Some entry.1 else simple_in entries b

-- the kind that a table has for two bytes
abbrev pub compound_in : List (ℕ × ℕ × Kind) → ℕ → ℕ → Option Kind
compound_in [] b c = None
compound_in (entry ∷ entries) b c = if b == entry.0 && c == entry.1 then Some entry.2 else compound_in entries b c

unfoldable pub simple_delimiter : ℕ → Option Kind
simple_delimiter b = simple_in simple_delimiters b

unfoldable pub compound_delimiter : ℕ → ℕ → Option Kind
compound_delimiter b c = compound_in compound_delimiters b c

abbrev pub simple_or_fault : Option Kind → Front
simple_or_fault None = Err (BadByte, 0)
simple_or_fault (Some k) = Ok (Fixed k, 1)

-- a compound delimiter before a simple one
abbrev pub longest_delimiter : Option Kind → Option Kind → Front
longest_delimiter None simple = simple_or_fault simple
longest_delimiter (Some k) simple = Ok (Fixed k, 2)

unfoldable pub comment_at : List ℕ → Front
comment_at bytes = Ok (Gap, run in_line (drop 2 bytes) + 2)

-- two hyphens begin a comment; else the longest delimiter, if there is one
unfoldable pub mark_at : List ℕ → Front
mark_at bytes =
    if slice_index bytes 0 == 45 && slice_index bytes 1 == 45
    then comment_at bytes
    else longest_delimiter (compound_delimiter (slice_index bytes 0) (slice_index bytes 1)) (simple_delimiter (slice_index bytes 0))

abbrev pub front_by : ByteClass → List ℕ → Front
front_by Blank bytes = Ok (Gap, 1)
front_by Letter bytes = name_at bytes
front_by Digit bytes = number_at bytes
front_by Quote bytes = string_at bytes
front_by Other bytes = mark_at bytes

-- what stands at the front of a text that is not empty
unfoldable pub front_of : List ℕ → Front
front_of bytes = front_by (class_of (slice_index bytes 0)) bytes

-- the piece of this shape and of these bytes
abbrev pub piece_of : Shape → List ℕ → Piece
piece_of Gap text = gap
piece_of (Fixed k) text = lexeme k [] 0
piece_of Identifier text = lexeme kind.Identifier text 0
piece_of (Number v) text = lexeme kind.Number [] v
piece_of String text = lexeme kind.String (content_of false (take (length text - 2) (drop 1 text))) 0
