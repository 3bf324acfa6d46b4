-- Whole texts: which tokens spell a program, and which token is the first that does not fit.
use Rattle.std.specs.Prelude.{◌≡◌, ℕ, true, List, [], ◌∷◌, ◌++◌, Ok, Err}
use Rattle.ctl_tree.specs.declared.token.Token.{Token}
use Rattle.ctl_grammar.specs.declared.refused.Reason.{Reason}
use Rattle.ctl_grammar.specs.declared.refused.Reason.TheVariants.{Unexpected, TooDeep, LeftOut, EndName}
use Rattle.ctl_grammar.specs.Form.{Node, none, Rule, no_rule, every_rule, only}
use Rattle.ctl_grammar.specs.Grammar.{program, start_of_body, start_of_function_body, start_of_procedure_body, completed_specification, completed_function, completed_procedure}
use Rattle.ctl_grammar.specs.Reading.{Read, ◌>>=◌, broken, read, starts_too_deep}
use Rattle.ctl_grammar.specs.Derivation.{Spells, Begins}
use Rattle.ctl_grammar.specs.Breaks.{BreaksProgram}

-- The tokens spell a program that stands for the node, with at most so many constructs in one another; the rules of names hold.
abbrev pub IsProgram : ℕ → Node → List Token → Type 0
IsProgram left v ts = Spells every_rule left program v ts

-- These tokens begin a program by the grammar alone, whatever its depth and its names.
abbrev pub BeginsProgram : List Token → Type 0
BeginsProgram front = Begins no_rule program front

-- what was read is all
abbrev pub ended : Node → List Token → Read
ended v [] = Ok (v, [])
ended v (t ∷ ts) = Err (Unexpected, t ∷ ts)

-- what the parser is to answer of all of the tokens
unfoldable pub answer : ℕ → List Token → Read
answer left ts = read left program none ts >>= λ x. ended x.0 x.1

-- The first of the tokens `rest`, which end the tokens, is the first one with which the tokens begin no program.
abbrev pub IsUnexpected : List Token → List Token → Type 0
IsUnexpected ts rest = (front : List Token) × (ts ≡ front ++ rest) × BeginsProgram front × ((t : Token) (more : List Token) → rest ≡ t ∷ more → BeginsProgram (front ++ t ∷ []) → ⊥)

-- The tokens before begin a program, but with the first of the tokens `rest` they go on to none that keeps the rules of names
-- and has at most so many constructs in one another.
abbrev pub IsRefused : ℕ → List Token → List Token → Type 0
IsRefused left ts rest = (front : List Token) × (ts ≡ front ++ rest) × BeginsProgram front
    × ((t : Token) (more : List Token) → rest ≡ t ∷ more → (v : Node) (others : List Token) → IsProgram left v ((front ++ t ∷ []) ++ others) → ⊥)

-- This rule of names alone refuses the first of the tokens `rest`, which end the tokens: with it they begin a program by the
-- grammar alone, but none in which this one rule holds, whatever its depth and its other names.
abbrev pub IsRefusedBy : Rule → List Token → List Token → Type 0
IsRefusedBy rule ts rest = (front : List Token) × (t : Token) × (more : List Token) × (ts ≡ front ++ t ∷ more) × (rest ≡ t ∷ more) × BeginsProgram (front ++ t ∷ []) × (Begins (only rule) program (front ++ t ∷ []) → ⊥)

-- The depth alone refuses the first of the tokens `rest`, which end the tokens: the tokens before begin a program, but with it
-- they go on to none that has at most so many constructs in one another, whatever its names.
abbrev pub IsRefusedForDepth : ℕ → List Token → List Token → Type 0
IsRefusedForDepth left ts rest = (front : List Token) × (ts ≡ front ++ rest) × BeginsProgram front
    × ((t : Token) (more : List Token) → rest ≡ t ∷ more → (v : Node) (others : List Token) → Spells no_rule left program v ((front ++ t ∷ []) ++ others) → ⊥)

-- ---- the laws

-- A token list spells at most one tree.
abbrev pub SpellsOneTree : Type 0
SpellsOneTree = (left more : ℕ) (v w : Node) (ts : List Token) → IsProgram left v ts → IsProgram more w ts → v ≡ w

-- What is read is spelled, and what is spelled is read.
abbrev pub ReadsWhatIsSpelled : Type 0
ReadsWhatIsSpelled = (left : ℕ) (v : Node) (ts : List Token) → IsProgram left v ts → answer left ts ≡ Ok (v, [])

abbrev pub SpellsWhatIsRead : Type 0
SpellsWhatIsRead = (left : ℕ) (v : Node) (ts rest : List Token) → answer left ts ≡ Ok (v, rest) → IsProgram left v ts

-- The reason that a token is unexpected stands at the first unexpected token.
abbrev pub FindsTheUnexpected : Type 0
FindsTheUnexpected = (left : ℕ) (ts rest : List Token) → answer left ts ≡ Err (Unexpected, rest) → IsUnexpected ts rest

-- A rule of names is broken at the first token with which no program goes on that keeps the rules.
abbrev pub FindsTheLeftOut : Type 0
FindsTheLeftOut = (left : ℕ) (ts rest : List Token) → answer left ts ≡ Err (LeftOut, rest) → IsRefused left ts rest

abbrev pub FindsTheEndName : Type 0
FindsTheEndName = (left : ℕ) (ts rest : List Token) → answer left ts ≡ Err (EndName, rest) → IsRefused left ts rest

-- What is too deep is refused by no other rule: the tokens up to some token begin a program, and with that token they go on
-- to none of this depth. The place that is answered is this token, or the beginning of the body in whose heading it stands.
abbrev pub FindsTheTooDeep : Type 0
FindsTheTooDeep = (left : ℕ) (ts rest : List Token) → answer left ts ≡ Err (TooDeep, rest) → (there : List Token) × IsRefused left ts there

-- A rule of names that is told to be broken refuses the token by itself.
abbrev pub NamesRefuseAlone : Type 0
NamesRefuseAlone = (rule : Rule) (left : ℕ) (ts rest : List Token) → answer left ts ≡ Err (broken rule, rest) → IsRefusedBy rule ts rest

-- Where it is told that too many constructs are open, the depth by itself refuses a token.
abbrev pub DepthRefusesAlone : Type 0
DepthRefusesAlone = (left : ℕ) (ts rest : List Token) → answer left ts ≡ Err (TooDeep, rest) → (there : List Token) × IsRefusedForDepth left ts there

-- A reason other than that a token is unexpected is told exactly where the tokens break a rule for this reason.
abbrev pub IsToldExactly : Reason → Type 0
IsToldExactly reason = (left : ℕ) (ts place : List Token) → (answer left ts ≡ Err (reason, place) → BreaksProgram reason left ts place) × (BreaksProgram reason left ts place → answer left ts ≡ Err (reason, place))

-- Where no more construct may be opened and the tokens can begin nothing but a body, the item is too deep, at its first token.
abbrev pub PlacesDeepBodies : Type 0
PlacesDeepBodies = (left : ℕ) (ts : List Token)
    → (starts_too_deep left start_of_body ts ≡ true → read left completed_specification none ts ≡ Err (TooDeep, ts))
    × (starts_too_deep left start_of_function_body ts ≡ true → read left completed_function none ts ≡ Err (TooDeep, ts))
    × (starts_too_deep left start_of_procedure_body ts ≡ true → read left completed_procedure none ts ≡ Err (TooDeep, ts))
