-- The fault of a text that is no program.
use Rattle.std.specs.Prelude.{◌≡◌, ◌⊎◌, ℕ, ◌-◌, List, [], ◌∷◌, length, Option, Some, None, Err, cond, slice_get}
use Rattle.ctl_tree.specs.declared.fault.Fault.{Fault}
use Rattle.ctl_tree.specs.declared.fault.FaultCode.{FaultCode}
use Rattle.ctl_tree.specs.declared.fault.FaultCode.TheVariants as codes
use Rattle.ctl_tree.specs.declared.token.Kind.{Kind}
use Rattle.ctl_tree.specs.declared.token.Token.{Token}
use Rattle.ctl_grammar.specs.declared.refused.Reason.{Reason}
use Rattle.ctl_grammar.specs.declared.refused.Reason.TheVariants.{Unexpected, TooDeep, LeftOut, EndName}
use Rattle.ctl_grammar.specs.Kind.{is_left_out}
use Rattle.ctl_grammar.specs.Form.{Node, Known, Ends}
use Rattle.ctl_grammar.specs.Breaks.{BreaksProgram}
use Rattle.ctl_grammar.specs.Text.{IsProgram, answer, IsUnexpected, IsRefused, IsRefusedBy, IsRefusedForDepth}

-- the number of the fault of a token of this kind that is wrong for this reason
abbrev pub code_of : Reason → Kind → FaultCode
code_of Unexpected k = cond (is_left_out k) codes.LeftOut codes.Unexpected
code_of TooDeep k = codes.TooDeep
code_of LeftOut k = codes.LeftOut
code_of EndName k = codes.EndName

abbrev pub fault_of : FaultCode → Token → Fault
fault_of code t = record { code = code; line = t.span.line; column = t.span.column }

-- where the tokens end too early, the fault stands at the last of them, or at the beginning of the text
abbrev pub fault_at_end : Option Token → Fault
fault_at_end (Some t) = fault_of codes.Unexpected t
fault_at_end None = record { code = codes.Unexpected; line = 1; column = 1 }

-- the fault of the first of the tokens `rest`, which end the tokens `ts`
abbrev pub fault_at : Reason → List Token → List Token → Fault
fault_at reason (t ∷ rest) ts = fault_of (code_of reason t.kind) t
fault_at reason [] ts = fault_at_end (slice_get ts (length ts - 1))

-- The first fault of tokens that spell no program: reading stops at it.
abbrev pub HasGrammarFault : ℕ → List Token → Fault → Type 0
HasGrammarFault left ts fault = (reason : Reason) × (rest : List Token) × (answer left ts ≡ Err (reason, rest)) × (fault ≡ fault_at reason rest ts)

-- what it is that a token is refused for this reason
abbrev pub IsFirst : Reason → ℕ → List Token → List Token → Type 0
IsFirst Unexpected left ts rest = IsUnexpected ts rest
IsFirst LeftOut left ts rest = IsRefused left ts rest × IsRefusedBy Known ts rest × BreaksProgram LeftOut left ts rest
IsFirst EndName left ts rest = IsRefused left ts rest × IsRefusedBy Ends ts rest × BreaksProgram EndName left ts rest
IsFirst TooDeep left ts rest = ((there : List Token) × IsRefused left ts there × IsRefusedForDepth left ts there) × BreaksProgram TooDeep left ts rest

-- ---- the laws

-- A fault stands at a token that is the first to be wrong for its reason.
abbrev pub FaultsAreFirst : Type 0
FaultsAreFirst = (left : ℕ) (ts : List Token) (fault : Fault) → HasGrammarFault left ts fault → (reason : Reason) × (rest : List Token) × (fault ≡ fault_at reason rest ts) × IsFirst reason left ts rest

-- Tokens that break a rule of names or open one construct too many have this fault.
abbrev pub BreaksAreFaults : Type 0
BreaksAreFaults = (left : ℕ) (ts place : List Token) (reason : Reason) → BreaksProgram reason left ts place → HasGrammarFault left ts (fault_at reason place ts)

-- Tokens spell a program, or they have a fault.
abbrev pub ProgramOrFault : Type 0
ProgramOrFault = (left : ℕ) (ts : List Token) → ((v : Node) × IsProgram left v ts) ⊎ ((fault : Fault) × HasGrammarFault left ts fault)

-- Tokens that spell a program have no fault, and others have one fault alone.
abbrev pub OneOfBoth : Type 0
OneOfBoth = (left : ℕ) (ts : List Token) (fault : Fault) → HasGrammarFault left ts fault → ((v : Node) → IsProgram left v ts → ⊥) × ((other : Fault) → HasGrammarFault left ts other → other ≡ fault)
