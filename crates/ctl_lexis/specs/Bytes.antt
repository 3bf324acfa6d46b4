-- What the single bytes of a text are (RM 2.1, 2.2).
use Rattle.std.specs.Prelude.{ℕ, Bool, ◌&&◌, ◌||◌, not, ◌==◌, nat_le, List, length, take_while, if◌then◌else◌}
use Rattle.ctl_lexis.specs.declared.class.ByteClass.{ByteClass}
use Rattle.ctl_lexis.specs.declared.class.ByteClass.TheVariants.{Blank, Letter, Digit, Quote, Other}

-- a line ends at LF, VT, FF and CR
abbrev pub is_line_end : ℕ → Bool
is_line_end b = nat_le 10 b && nat_le b 13

-- space, tab and the line ends separate tokens
abbrev pub is_blank : ℕ → Bool
is_blank b = b == 32 || (nat_le 9 b && nat_le b 13)

abbrev pub is_letter : ℕ → Bool
is_letter b = (nat_le 97 b && nat_le b 122) || (nat_le 65 b && nat_le b 90)

abbrev pub is_digit : ℕ → Bool
is_digit b = nat_le 48 b && nat_le b 57

abbrev pub is_underscore : ℕ → Bool
is_underscore b = b == 95

-- what may stand in a string: a space, or a byte of ASCII that is seen
abbrev pub is_graphic : ℕ → Bool
is_graphic b = nat_le 32 b && nat_le b 126

-- what goes on in a line: all but a line end
abbrev pub in_line : ℕ → Bool
in_line b = not (is_line_end b)

-- what goes on in an identifier or a reserved word
abbrev pub in_name : ℕ → Bool
in_name b = is_letter b || (is_digit b || is_underscore b)

-- what goes on in a number
abbrev pub in_number : ℕ → Bool
in_number b = is_digit b || is_underscore b

-- what may begin with a byte
unfoldable pub class_of : ℕ → ByteClass
class_of b =
    if is_blank b then Blank
    else (if is_letter b then Letter
    else (if is_digit b then Digit
    else (if b == 34 then Quote
    else Other)))

-- how many bytes at the front are such
abbrev pub run : (ℕ → Bool) → List ℕ → ℕ
run p bytes = length (take_while p bytes)
