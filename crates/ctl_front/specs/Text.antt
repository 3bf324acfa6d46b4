-- What the bytes of a source text are: the program of the tree that they spell, or the first fault.
use Rattle.std.specs.Prelude.{◌≡◌, ◌⊎◌, ℕ, List, Result, Err}
use Rattle.ctl_tree.specs.declared.fault.Fault.{Fault}
use Rattle.ctl_tree.specs.declared.fault.FaultCode.TheVariants.{Memory}
use Rattle.ctl_tree.specs.declared.token.Token.{Token}
use Rattle.ctl_lexis.specs.Lexis.{HasTokens, HasFault}
use Rattle.ctl_grammar.specs.Depth.{greatest_depth}
use Rattle.ctl_grammar.specs.Form.{Node}
use Rattle.ctl_grammar.specs.Text.{IsProgram}
use Rattle.ctl_grammar.specs.Fault.{HasGrammarFault}
use Rattle.ctl_syntax.specs.declared.denoted.Definition.{Definition}
use Rattle.ctl_syntax.specs.declared.denoted.Use.{Use}
use Rattle.ctl_syntax.specs.declared.name.Identifier.{Identifier}
use Rattle.ctl_syntax.specs.declared.item.Tree.{Tree}
use Rattle.ctl_program.specs.declared.program.Checked.{Checked}
use Rattle.ctl_parse.specs.Kept.{kept_program}
use Rattle.ctl_parse.specs.Read.{read_tree}
use Rattle.ctl_resolve.specs.declared.context.Broken.{Broken}
use Rattle.ctl_resolve.specs.Whole.{named}
use Rattle.ctl_types.specs.Elaboration.{elaborate}

-- a tree as it is written
abbrev pub Written : Type 0
Written = Tree Identifier Identifier

-- the bytes spell the tree: they spell tokens (2), these are a program in the grammar, and the tree is what is kept of that
pub record Spells (source : List ℕ) (tree : Written) : Type 0 where
  pub tokens : List Token
  pub lexical : HasTokens source tokens
  pub node : Node
  pub grammatical : IsProgram greatest_depth node tokens
  pub kept : tree ≡ read_tree (kept_program node)

-- the first fault of bytes that spell no tree: of their lexis, and only where they spell tokens of their grammar
pub data BreaksForm : List ℕ → Fault → Type 0 where
  of_lexis : {source : List ℕ} {fault : Fault} → HasFault source fault → BreaksForm source fault
  of_grammar : {source : List ℕ} {fault : Fault} (tokens : List Token) → HasTokens source tokens → HasGrammarFault greatest_depth tokens fault → BreaksForm source fault

-- a tree with what its names denote, and its first broken rules on names and on use clauses (8)
unfoldable pub resolved : Written → Tree Definition Use × Broken
resolved tree = named tree

-- the bytes spell a tree, and this is the tree with what its names denote
pub record SpellsNamed (source : List ℕ) (named : Tree Definition Use) : Type 0 where
  pub tree : Written
  pub spelled : Spells source tree
  pub denotes : named ≡ (resolved tree).0

-- the program of a tree, or the first rule that it breaks: on names, order and completion (8, 3.11), or else on types
unfoldable pub judged : Written → Result Checked Fault
judged tree = elaborate (resolved tree).1.names (resolved tree).1.uses (resolved tree).0

-- what a text is: its program, or its first fault
pub data IsAnswer : List ℕ → Result Checked Fault → Type 0 where
  unspelled : {source : List ℕ} {fault : Fault} → BreaksForm source fault → IsAnswer source (Err fault)
  spelled : {source : List ℕ} {tree : Written} → Spells source tree → IsAnswer source (judged tree)

-- the answer of a text, or that memory was refused
abbrev pub Answers : List ℕ → Result Checked Fault → Type 0
Answers source r = IsAnswer source r ⊎ (r ≡ Err (record { code = Memory; line = 1; column = 1 }))

-- ---- the laws

-- Each text has a program or a first fault.
abbrev pub HasAnswer : Type 0
HasAnswer = (source : List ℕ) → (r : Result Checked Fault) × IsAnswer source r

-- It has no other: not a program and a fault, no two programs, no two faults.
abbrev pub HasOneAnswer : Type 0
HasOneAnswer = (source : List ℕ) (a b : Result Checked Fault) → IsAnswer source a → IsAnswer source b → a ≡ b
