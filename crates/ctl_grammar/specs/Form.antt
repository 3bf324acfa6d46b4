-- Grammars as data: what a form is, which tokens can begin it, and the tests under which one token is enough to choose.
use Rattle.std.specs.Prelude.{ℕ, Bool, true, false, ◌&&◌, ◌||◌, not, List, [], ◌∷◌, ◌++◌, cond}
use Rattle.ctl_tree.specs.declared.span.Span.{Span}
use Rattle.ctl_tree.specs.declared.token.Kind.{Kind}
use Rattle.ctl_tree.specs.declared.token.Kind.TheVariants as kinds
use Rattle.ctl_tree.specs.declared.token.Token.{Token}
use Rattle.ctl_grammar.specs.Kind.{same_kind}
use Rattle.ctl_grammar.specs.Label.{Label}

-- A tree without types: what a text stands for.
pub data Node : Type 0 where
  none : Node
  leaf : Token → Node
  -- the value of a number
  num : ℕ → Node
  written : List ℕ → Node
  at : Span → Node
  pair : Node → Node → Node
  -- a construct or a word, by its label
  tag : Label → Node → Node

-- the constructs that may stand in themselves: each counts for the depth
pub data Nest : Type 0 where
  -- an expression in parentheses
  Enclosed : Nest
  -- the arguments behind a name
  Arguments : Nest
  -- the name of a handle in parentheses
  Handle : Nest
  -- formal parameters
  Formals : Nest
  -- discriminants, or the actuals of an instance
  Associations : Nest
  -- an if statement
  Conditional : Nest
  -- a loop
  Repetition : Nest
  -- a block
  Block : Nest
  -- the body of a subprogram from its `is` on
  Body : Nest
  -- the body of a procedure without parameters, behind its `is`
  BareBody : Nest

-- the rules of names that the grammar tests at single tokens
pub data Rule : Type 0 where
  -- only an identifier that is known at this place may stand there
  Known : Rule
  -- a name at an end is that of its subprogram
  Ends : Rule

-- which rules of names count
abbrev pub Rules : Type 0
Rules = Rule → Bool

abbrev pub every_rule : Rules
every_rule rule = true

abbrev pub no_rule : Rules
no_rule rule = false

abbrev pub only : Rule → Rules
only Known Known = true
only Known Ends = false
only Ends Known = false
only Ends Ends = true

pub data Form : Type 0 where
  -- a token that says nothing more
  word : Kind → Form
  -- a token that is kept
  keep : Kind → Form
  -- a token that is kept, and that a rule tests against what was read before
  tested : Kind → (Node → Token → Bool) → Rule → Form
  empty : Form
  seq : Form → Form → Form
  -- two parts, the second of which is tested against something of the first
  within : Form → (Node → Node) → Form → Form
  alt : Form → Form → Form
  -- this, if what was read before allows it and it is there
  when : (Node → Bool) → Form → Form
  many : Form → Form
  -- what it stands for is made by this function
  act : (Node → Node) → Form → Form
  -- a form whose constructs count as too deep from its beginning on, where the tokens have the first form
  late : Form → Form → Form
  nest : Nest → Form

infixr 5 ◌▸◌
abbrev pub ◌▸◌ : Form → Form → Form
f ▸ g = seq f g

abbrev pub has : Kind → List Kind → Bool
has k [] = false
has k (j ∷ js) = same_kind j k || has k js

abbrev pub is_apart : List Kind → List Kind → Bool
is_apart [] ks = true
is_apart (j ∷ js) ks = not (has j ks) && is_apart js ks

abbrev pub can_be_empty : Form → Bool
can_be_empty (word k) = false
can_be_empty (keep k) = false
can_be_empty (tested k test rule) = false
can_be_empty empty = true
can_be_empty (seq f g) = can_be_empty f && can_be_empty g
can_be_empty (within f pick g) = can_be_empty f && can_be_empty g
can_be_empty (alt f g) = can_be_empty f || can_be_empty g
can_be_empty (when test f) = true
can_be_empty (many f) = true
can_be_empty (act make f) = can_be_empty f
can_be_empty (late head f) = can_be_empty f
can_be_empty (nest n) = false

-- the tokens that begin a construct
abbrev pub nest_starts : Nest → List Kind
nest_starts Enclosed = kinds.LeftParenthesis ∷ []
nest_starts Arguments = kinds.LeftParenthesis ∷ []
nest_starts Handle = kinds.LeftParenthesis ∷ []
nest_starts Formals = kinds.LeftParenthesis ∷ []
nest_starts Associations = kinds.LeftParenthesis ∷ []
nest_starts Conditional = kinds.If ∷ []
nest_starts Repetition = kinds.While ∷ kinds.For ∷ kinds.Loop ∷ []
nest_starts Block = kinds.Declare ∷ kinds.Begin ∷ []
nest_starts Body = kinds.Is ∷ []
nest_starts BareBody = kinds.Overriding ∷ kinds.Procedure ∷ kinds.Function ∷ kinds.Type ∷ kinds.For ∷ kinds.Identifier ∷ kinds.Begin ∷ []

-- the tokens that begin a text of the form
abbrev pub starts : Form → List Kind
starts (word k) = k ∷ []
starts (keep k) = k ∷ []
starts (tested k test rule) = k ∷ []
starts empty = []
starts (seq f g) = starts f ++ cond (can_be_empty f) (starts g) []
starts (within f pick g) = starts f ++ cond (can_be_empty f) (starts g) []
starts (alt f g) = starts f ++ starts g
starts (when test f) = starts f
starts (many f) = starts f
starts (act make f) = starts f
starts (late head f) = starts f
starts (nest n) = nest_starts n

-- the tokens that, behind a whole text of the form, would be taken for more of it
abbrev pub goes_on : Form → List Kind
goes_on (word k) = []
goes_on (keep k) = []
goes_on (tested k test rule) = []
goes_on empty = []
goes_on (seq f g) = goes_on g ++ cond (can_be_empty g) (goes_on f) []
goes_on (within f pick g) = goes_on g ++ cond (can_be_empty g) (goes_on f) []
goes_on (alt f g) = goes_on f ++ (goes_on g ++ cond (can_be_empty g) (starts f) [])
goes_on (when test f) = goes_on f ++ starts f
goes_on (many f) = goes_on f ++ starts f
goes_on (act make f) = goes_on f
goes_on (late head f) = goes_on f
goes_on (nest n) = []

-- one token ahead is enough to choose
abbrev pub is_clear : Form → Bool
is_clear (word k) = true
is_clear (keep k) = true
is_clear (tested k test rule) = true
is_clear empty = true
is_clear (seq f g) = is_clear f && (is_clear g && is_apart (starts g) (goes_on f))
is_clear (within f pick g) = is_clear f && (is_clear g && is_apart (starts g) (goes_on f))
is_clear (alt f g) = is_clear f && (is_clear g && (not (can_be_empty f) && is_apart (starts g) (starts f)))
is_clear (when test f) = is_clear f && not (can_be_empty f)
is_clear (many f) = is_clear f && (not (can_be_empty f) && is_apart (starts f) (goes_on f))
is_clear (act make f) = is_clear f
is_clear (late head f) = is_clear f
is_clear (nest n) = true
