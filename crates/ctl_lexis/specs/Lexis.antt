-- The tokens of a text with their places, and its first fault (RM 2).
use Rattle.std.specs.Prelude.{◌≡◌, ◌≢◌, ℕ, ◌≤◌, ◌<◌, false, List, [], ◌∷◌, ◌++◌, length}
use Rattle.ctl_tree.specs.declared.fault.Fault.{Fault}
use Rattle.ctl_tree.specs.declared.fault.FaultCode.{FaultCode}
use Rattle.ctl_tree.specs.declared.fault.FaultCode.TheVariants.{BadByte, BadNumber, OpenString, BadIdentifier, TooLong}
use Rattle.ctl_tree.specs.declared.span.Span.{Span}
use Rattle.ctl_tree.specs.declared.token.Kind.{Kind}
use Rattle.ctl_tree.specs.declared.token.Kind.TheVariants.{Finish}
use Rattle.ctl_tree.specs.declared.token.Token.{Token}
use Rattle.ctl_lexis.specs.declared.class.ByteClass.TheVariants.{Other}
use Rattle.ctl_lexis.specs.declared.place.Place.{Place}
use Rattle.ctl_lexis.specs.Bytes.{class_of, is_graphic, in_line}
use Rattle.ctl_lexis.specs.Spelling.{spelling}
use Rattle.ctl_lexis.specs.Places.{start, place_after}
use Rattle.ctl_lexis.specs.Pieces.{Passes, Stops, Piece, gap, lexeme, IsPiece, IsName, IsNumeral, IsClosed, quoted, is_number, has_single_underscores}

-- the bytes that a text may have
abbrev pub longest_text : ℕ
longest_text = 1048576

-- Cut from its front, the text is these pieces, each with its bytes, and then this rest.
abbrev pub IsCut : List ℕ → List (Piece × List ℕ) → List ℕ → Type 0
IsCut bytes [] rest = bytes ≡ rest
IsCut bytes (x ∷ pieces) rest = (behind : List ℕ) × (bytes ≡ x.1 ++ behind) × IsPiece x.0 x.1 behind × IsCut behind pieces rest

-- a gap shows no token
abbrev pub token_of : Span → Piece → List Token
token_of span gap = []
token_of span (lexeme kind text value) = record { kind = kind; span = span; text = text; value = value } ∷ []

-- the tokens of the pieces, where the first of them stands at this place
abbrev pub tokens_of : Place → List (Piece × List ℕ) → List Token
tokens_of place [] = []
tokens_of place (x ∷ pieces) = token_of place.span x.0 ++ tokens_of (place_after place x.1) pieces

-- the place behind the pieces
abbrev pub place_behind : Place → List (Piece × List ℕ) → Place
place_behind place [] = place
place_behind place (x ∷ pieces) = place_behind (place_after place x.1) pieces

-- the end mark of a text
abbrev pub end_mark : Place → Token
end_mark place = record { kind = Finish; span = place.span; text = []; value = 0 }

-- The text is not too long, it is nothing but pieces, and these are their tokens with the end mark behind them.
pub record HasTokens (bytes : List ℕ) (tokens : List Token) : Type 0 where
  pub short : length bytes ≤ longest_text
  pub pieces : List (Piece × List ℕ)
  pub cut : IsCut bytes pieces []
  pub shown : tokens ≡ tokens_of start pieces ++ end_mark (place_after start bytes) ∷ []

-- A rule is broken at the front of this rest of a text: which, and behind how many bytes of the rest the fault stands.
pub data IsFault : FaultCode → List ℕ → List ℕ → Type 0 where
  -- nothing begins with this byte
  bad_byte : {b : ℕ} {rest : List ℕ} → class_of b ≡ Other → ((kind : Kind) (more : List ℕ) → spelling kind ≢ b ∷ more) → IsFault BadByte [] (b ∷ rest)
  bad_identifier : {text rest : List ℕ} → IsName text rest → has_single_underscores false text ≡ false → IsFault BadIdentifier [] (text ++ rest)
  bad_number : {text rest : List ℕ} → IsNumeral text rest → is_number text rest ≡ false → IsFault BadNumber [] (text ++ rest)
  -- the line or the text ends before a quotation mark that closes the string
  open_string : (content rest : List ℕ) → Passes in_line (quoted content) → Stops in_line rest → IsFault OpenString [] (34 ∷ (quoted content ++ rest))
  -- the first byte of a closed string that may not stand in one
  bad_byte_inside : {good text rest : List ℕ} (bad : ℕ) (more : List ℕ) → IsClosed (good ++ bad ∷ more) text rest → Passes is_graphic good → is_graphic bad ≡ false → IsFault BadByte (34 ∷ good) (text ++ rest)

-- a fault at a place
abbrev pub fault_at : FaultCode → Place → Fault
fault_at code place = record { code = code; line = place.span.line; column = place.span.column }

-- The first fault of a text: it is too long, or pieces stand before the fault and nothing else.
pub data HasFault : List ℕ → Fault → Type 0 where
  too_long : {bytes : List ℕ} → longest_text < length bytes → HasFault bytes (fault_at TooLong start)
  first : {bytes rest before : List ℕ} {code : FaultCode} (pieces : List (Piece × List ℕ)) → length bytes ≤ longest_text → IsCut bytes pieces rest → IsFault code before rest → HasFault bytes (fault_at code (place_after (place_behind start pieces) before))
