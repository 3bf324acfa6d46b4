-- The grammar, a production a line.
use Rattle.std.specs.Prelude.{ℕ, Bool, false, ◌||◌, List, [], ◌∷◌, codes}
use Rattle.ctl_tree.specs.declared.token.Kind.{Kind}
use Rattle.ctl_tree.specs.declared.token.Kind.TheVariants as kinds
use Rattle.ctl_syntax.specs.declared.operators.LogicalOperator.{LogicalOperator}
use Rattle.ctl_syntax.specs.declared.operators.LogicalOperator.TheVariants as operators
use Rattle.ctl_grammar.specs.Spelling.{same_name}
use Rattle.ctl_grammar.specs.Form.{none, pair, tag, Nest, Enclosed, Arguments, Handle, Formals, Associations, Conditional, Repetition, Block, Body, BareBody, Known, Ends, Form, word, keep, tested, empty, within, alt, when, many, act, late, nest, ◌▸◌}
use Rattle.ctl_grammar.specs.Label.{Label}
use Rattle.ctl_grammar.specs.Label as labels
use Rattle.ctl_grammar.specs.Nodes.{alone, first, second, part_2, part_3, part_4, part_5, behind_2, behind_3, behind_4, behind_5, place, letters, or_else, identifier_of, yes, no, number_of, string_of, null_of, name_of, parentheses_of, unary_of, product_of, sum_of, relation_of, logical_of, allocator_of, selector_of, all_of_access, arguments_of, access_of, attribute_of, is_bare, association_of, assignment_of, procedure_of, part_2_letters}

-- ---- forms that serve others

-- a token of which the place is kept
abbrev pub spot : Kind → Form
spot k = act place (keep k)

-- a form that is not tested against what was read before
abbrev pub apart : Form → Form
apart f = act second (within empty (λ v. none) f)

-- ---- the names that the grammar knows

-- Image, First and Last
abbrev pub attributes : List (List ℕ)
attributes = codes "image" ∷ codes "first" ∷ codes "last" ∷ []

abbrev pub storage_pool : List (List ℕ)
storage_pool = codes "storage_pool" ∷ []

-- one of the names is written so
abbrev pub is_among : List (List ℕ) → List ℕ → Bool
is_among [] s = false
is_among (n ∷ names) s = same_name n s || is_among names s

-- the first word of a logical operator
abbrev pub first_word : LogicalOperator → Kind
first_word operators.And = kinds.And
first_word operators.Or = kinds.Or
first_word operators.Xor = kinds.Xor
first_word operators.AndThen = kinds.And
first_word operators.OrElse = kinds.Or

-- the second word of a logical operator, if it has one
abbrev pub second_word : LogicalOperator → Form
second_word operators.And = empty
second_word operators.Or = empty
second_word operators.Xor = empty
second_word operators.AndThen = word kinds.Then
second_word operators.OrElse = word kinds.Else

-- ---- names

-- an identifier with its place
unfoldable pub identifier : Form
identifier = act identifier_of (keep kinds.Identifier)

unfoldable pub selector : Form
selector = act second (word kinds.Dot ▸ identifier)

unfoldable pub selectors : Form
selectors = many selector

unfoldable pub dotted : Form
dotted = identifier ▸ selectors

unfoldable pub next_dotted : Kind → Form
next_dotted separator = act second (word separator ▸ dotted)

-- names with a separator between them
unfoldable pub dotted_list : Kind → Form
dotted_list separator = dotted ▸ many (next_dotted separator)

unfoldable pub next_identifier : Form
next_identifier = act second (word kinds.Comma ▸ identifier)

unfoldable pub next_identifiers : Form
next_identifiers = many next_identifier

-- identifiers, with the place of the first
unfoldable pub identifiers : Form
identifiers = act (λ v. pair (second (first v)) v) (identifier ▸ next_identifiers)

-- a name behind a word
unfoldable pub behind : Kind → Form
behind mark = act second (word mark ▸ dotted)

-- whether a word is there
unfoldable pub flag : Kind → Form
flag k = alt (act (λ v. yes) (word k)) (act (λ v. no) empty)

-- an identifier that is one of these
unfoldable pub known : List (List ℕ) → Form
known names = act identifier_of (tested kinds.Identifier (λ env t. is_among names t.text) Known)

-- the name behind an end, which is that of the subprogram
unfoldable pub end_name : Form
end_name = alt (act identifier_of (tested kinds.Identifier (λ env t. same_name (letters env) t.text) Ends)) empty

-- ---- expressions

-- the words of a logical operator
unfoldable pub joiner : LogicalOperator → Form
joiner operator = act (λ v. none) (word (first_word operator) ▸ second_word operator)

-- a relational operator
unfoldable pub relational : Form
relational = alt (act (λ v. alone labels.Equal) (word kinds.Equal)) (alt (act (λ v. alone labels.NotEqual) (word kinds.NotEqual)) (alt (act (λ v. alone labels.Less) (word kinds.Less)) (alt (act (λ v. alone labels.LessEqual) (word kinds.LessEqual)) (alt (act (λ v. alone labels.Greater) (word kinds.Greater)) (act (λ v. alone labels.GreaterEqual) (word kinds.GreaterEqual))))))

-- a sign, if there is one, with its place
unfoldable pub sign : Form
sign = alt (act (pair (alone labels.Plus)) (spot kinds.Plus)) (alt (act (pair (alone labels.Minus)) (spot kinds.Minus)) (empty))

-- what joins terms
unfoldable pub adding : Form
adding = alt (act (λ v. alone labels.Plus) (word kinds.Plus)) (alt (act (λ v. alone labels.Minus) (word kinds.Minus)) (act (λ v. alone labels.Concatenate) (word kinds.Ampersand)))

-- what joins factors
unfoldable pub multiplying : Form
multiplying = alt (act (λ v. alone labels.Times) (word kinds.Star)) (alt (act (λ v. alone labels.Divide) (word kinds.Slash)) (alt (act (λ v. alone labels.Mod) (word kinds.Mod)) (act (λ v. alone labels.Rem) (word kinds.Rem))))

unfoldable pub number : Form
number = act number_of (keep kinds.Number)

unfoldable pub string : Form
string = act string_of (keep kinds.String)

unfoldable pub null : Form
null = act null_of (spot kinds.Null)

unfoldable pub selection : Form
selection = act second (word kinds.Dot ▸ alt (act all_of_access (spot kinds.All)) (act selector_of identifier))

unfoldable pub attribute : Form
attribute = alt (act access_of (spot kinds.Access)) (act attribute_of (known attributes))

unfoldable pub suffix : Form
suffix = alt selection (alt (act second (word kinds.Apostrophe ▸ attribute)) (nest Arguments))

unfoldable pub suffixes : Form
suffixes = many suffix

unfoldable pub name : Form
name = identifier ▸ suffixes

-- the handle of an allocator, if there is one
unfoldable pub handle : Form
handle = alt (act (λ v. pair none v) (nest Handle)) empty

unfoldable pub qualified : Form
qualified = alt (act (λ v. pair none (second (second v))) (word kinds.Apostrophe ▸ nest Enclosed)) empty

unfoldable pub allocator : Form
allocator = act (λ v. allocator_of (first v) (part_2 v) (part_3 v) (behind_3 v)) (spot kinds.New ▸ handle ▸ dotted ▸ qualified)

unfoldable pub primary : Form
primary = alt (number) (alt (string) (alt (null) (alt (act name_of name) (alt (allocator) (act parentheses_of (nest Enclosed))))))

unfoldable pub factor : Form
factor = alt (act (unary_of labels.Abs) (spot kinds.Abs ▸ primary)) (alt (act (unary_of labels.Not) (spot kinds.Not ▸ primary)) (primary))

unfoldable pub multiplicand : Form
multiplicand = multiplying ▸ factor

unfoldable pub multiplicands : Form
multiplicands = many multiplicand

unfoldable pub term : Form
term = act (λ v. product_of (first v) (second v)) (factor ▸ multiplicands)

unfoldable pub addend : Form
addend = adding ▸ term

unfoldable pub addends : Form
addends = many addend

unfoldable pub simple : Form
simple = act (λ v. sum_of (first v) (part_2 v) (behind_2 v)) (sign ▸ term ▸ addends)

unfoldable pub compared : Form
compared = alt (relational ▸ simple) empty

unfoldable pub relation : Form
relation = act (λ v. relation_of (first v) (second v)) (simple ▸ compared)

unfoldable pub next_relation : LogicalOperator → Form
next_relation operator = act second (joiner operator ▸ relation)

-- relations that an operator joins
unfoldable pub relations : LogicalOperator → Form
relations operator = relation ▸ many (next_relation operator)

unfoldable pub behind_and : Form
behind_and = alt (act (λ v. pair (alone labels.AndThen) (second v)) (word kinds.Then ▸ relations operators.AndThen)) (act (λ v. pair (alone labels.And) v) (relations operators.And))

unfoldable pub behind_or : Form
behind_or = alt (act (λ v. pair (alone labels.OrElse) (second v)) (word kinds.Else ▸ relations operators.OrElse)) (act (λ v. pair (alone labels.Or) v) (relations operators.Or))

unfoldable pub joined : Form
joined = alt (act second (word kinds.And ▸ behind_and)) (alt (act second (word kinds.Or ▸ behind_or)) (alt (act (λ v. pair (alone labels.Xor) (second v)) (word kinds.Xor ▸ relations operators.Xor)) empty))

unfoldable pub expression : Form
expression = act (λ v. logical_of (first v) (second v)) (relation ▸ joined)

unfoldable pub next_expression : Form
next_expression = act second (word kinds.Comma ▸ expression)

unfoldable pub expressions : Form
expressions = expression ▸ many next_expression

-- ---- headings

unfoldable pub mode_behind_in : Form
mode_behind_in = alt (act (λ v. alone labels.InOut) (word kinds.Out)) (act (λ v. alone labels.In) empty)

unfoldable pub mode : Form
mode = alt (act second (word kinds.In ▸ mode_behind_in)) (alt (act (λ v. alone labels.Out) (word kinds.Out)) (act (λ v. alone labels.In) empty))

unfoldable pub formal : Form
formal = act (λ v. pair (second (first v)) (pair (part_3 v) (behind_3 v))) (identifiers ▸ word kinds.Colon ▸ mode ▸ dotted)

unfoldable pub next_formal : Form
next_formal = act second (word kinds.Semicolon ▸ formal)

unfoldable pub formal_list : Form
formal_list = formal ▸ many next_formal

unfoldable pub in_formals : Form
in_formals = act part_2 (word kinds.LeftParenthesis ▸ formal_list ▸ word kinds.RightParenthesis)

unfoldable pub optional_formals : Form
optional_formals = alt (nest Formals) empty

unfoldable pub procedure : Form
procedure = act (λ v. pair (first v) (pair (part_2 v) (pair (behind_2 v) none))) (spot kinds.Procedure ▸ identifier ▸ optional_formals)

unfoldable pub function : Form
function = act (λ v. pair (first v) (pair (part_2 v) (pair (part_3 v) (behind_4 v)))) (spot kinds.Function ▸ identifier ▸ optional_formals ▸ word kinds.Return ▸ dotted)

unfoldable pub specification : Form
specification = alt function procedure

unfoldable pub association : Form
association = act (λ v. association_of (first v) (second v)) (within expression (λ e. e) (when is_bare (act (λ v. pair none (second v)) (word kinds.Arrow ▸ apart expression))))

unfoldable pub next_association : Form
next_association = act second (word kinds.Comma ▸ association)

unfoldable pub association_list : Form
association_list = association ▸ many next_association

unfoldable pub optional_associations : Form
optional_associations = alt (nest Associations) empty

-- ---- types

unfoldable pub optional_value : Form
optional_value = alt (act (λ v. pair none (second v)) (word kinds.Becomes ▸ expression)) empty

unfoldable pub component : Form
component = act (λ v. pair (second (first v)) (pair (part_3 v) (part_4 v))) (identifiers ▸ word kinds.Colon ▸ dotted ▸ optional_value ▸ word kinds.Semicolon)

unfoldable pub component_list : Form
component_list = component ▸ many component

unfoldable pub components : Form
components = alt (act (λ v. none) (word kinds.Null ▸ word kinds.Semicolon)) component_list

unfoldable pub null_record : Form
null_record = act (λ v. none) (word kinds.Null ▸ word kinds.Record)

unfoldable pub full_record : Form
full_record = act part_2 (word kinds.Record ▸ components ▸ word kinds.End ▸ word kinds.Record)

unfoldable pub recorded : Form
recorded = alt null_record full_record

unfoldable pub limited_record : Form
limited_record = act (λ v. tag labels.Record (pair yes (second v))) (word kinds.Limited ▸ recorded)

unfoldable pub extension : Form
extension = act (λ v. tag labels.Extension (pair (first v) (behind_2 v))) (behind kinds.New ▸ word kinds.With ▸ recorded)

unfoldable pub aspect : Form
aspect = alt (act (λ v. pair (part_2 v) (behind_3 v)) (word kinds.With ▸ known storage_pool ▸ word kinds.Arrow ▸ dotted)) empty

unfoldable pub designated_attribute : Form
designated_attribute = alt (act second (word kinds.Apostrophe ▸ known [])) empty

unfoldable pub access : Form
access = act (λ v. tag labels.AccessType (second v)) (word kinds.Access ▸ flag kinds.All ▸ dotted ▸ designated_attribute ▸ aspect)

unfoldable pub definition : Form
definition = alt limited_record (alt (extension) (alt (access) (act (λ v. tag labels.Record (pair no v)) recorded)))

-- ---- items that hold no other item

unfoldable pub context_kind : Form
context_kind = alt (act (λ v. pair v (alone labels.With)) (spot kinds.With)) (act (λ v. pair v (alone labels.Use)) (spot kinds.Use))

unfoldable pub context : Form
context = act (λ v. pair (first v) (part_2 v)) (context_kind ▸ dotted_list kinds.Comma ▸ word kinds.Semicolon)

unfoldable pub contexts : Form
contexts = many context

unfoldable pub defined : Form
defined = alt (act (λ v. yes) (word kinds.Tagged)) (act (λ v. pair none v) definition)

unfoldable pub type_kind : Form
type_kind = alt (act second (word kinds.Is ▸ defined)) (act (λ v. no) empty)

unfoldable pub type_item : Form
type_item = act (λ v. pair (first v) (tag labels.TypeItem (pair (part_2 v) (part_3 v)))) (spot kinds.Type ▸ identifier ▸ type_kind ▸ word kinds.Semicolon)

unfoldable pub clause : Form
clause = act (λ v. pair (first v) (tag labels.PoolClause (pair (part_2 v) (pair (part_4 v) (part_5 v))))) (spot kinds.For ▸ identifier ▸ word kinds.Apostrophe ▸ known storage_pool ▸ behind kinds.Use ▸ word kinds.Semicolon)

unfoldable pub objects : Form
objects = flag kinds.Aliased ▸ flag kinds.Constant ▸ dotted ▸ optional_associations ▸ optional_value

unfoldable pub named_kind : Form
named_kind = alt (act (λ v. none) (word kinds.Exception)) objects

unfoldable pub named_item : Form
named_item = act (λ v. pair (first (first v)) (tag labels.NamedItem (pair (second (first v)) (part_3 v)))) (identifiers ▸ word kinds.Colon ▸ named_kind ▸ word kinds.Semicolon)

unfoldable pub instance : Form
instance = act (λ v. pair (first v) (part_2 v)) (behind kinds.New ▸ nest Associations ▸ word kinds.Semicolon)

-- ---- statements

abbrev pub null_statement : Form
null_statement = act (λ v. pair (first v) (tag labels.NullStatement none)) (spot kinds.Null ▸ word kinds.Semicolon)

abbrev pub named_statement : Form
named_statement = act (λ v. assignment_of (first v) (part_2 v)) (name ▸ optional_value ▸ word kinds.Semicolon)

-- a transfer of control: its word, and what may stand behind it
abbrev pub transfer : Label → Kind → Form → Form
transfer label leading rest = act (λ v. pair (first v) (tag label (part_2 v))) (spot leading ▸ rest ▸ word kinds.Semicolon)

abbrev pub exit_condition : Form
exit_condition = alt (act (λ v. pair none (second v)) (word kinds.When ▸ expression)) empty

abbrev pub exit_statement : Form
exit_statement = transfer labels.Exit kinds.Exit exit_condition

abbrev pub returned : Form
returned = alt (act (λ v. pair none v) expression) empty

abbrev pub return_statement : Form
return_statement = transfer labels.Return kinds.Return returned

abbrev pub raised : Form
raised = alt (act (λ v. pair none v) dotted) empty

abbrev pub raise_statement : Form
raise_statement = transfer labels.Raise kinds.Raise raised

unfoldable pub while_scheme : Form
while_scheme = act (λ v. pair (first v) (tag labels.While (second v))) (spot kinds.While ▸ expression)

unfoldable pub for_scheme : Form
for_scheme = act (λ v. pair (first v) (tag labels.For (pair (part_2 v) (pair (part_4 v) (pair (part_5 v) (second (behind_5 v))))))) (spot kinds.For ▸ identifier ▸ word kinds.In ▸ flag kinds.Reverse ▸ simple ▸ word kinds.DoubleDot ▸ simple)

-- how a loop goes on, with the place of its first word, if it has one
unfoldable pub scheme : Form
scheme = alt while_scheme (alt for_scheme (act (λ v. pair none (tag labels.Endless none)) empty))

unfoldable pub choices : Form
choices = alt (act (λ v. none) (word kinds.Others)) (dotted_list kinds.Bar)

unfoldable pub end_if : Form
end_if = act (λ v. none) (word kinds.End ▸ word kinds.If ▸ word kinds.Semicolon)

unfoldable pub end_loop : Form
end_loop = act (λ v. none) (word kinds.End ▸ word kinds.Loop ▸ word kinds.Semicolon)

-- a statement that holds no other (5.1)
unfoldable pub simple_statement : Form
simple_statement = alt null_statement (alt named_statement (alt exit_statement (alt return_statement raise_statement)))

unfoldable pub statement : Form
statement = alt simple_statement (alt (nest Conditional) (alt (nest Repetition) (nest Block)))

unfoldable pub statements : Form
statements = statement ▸ many statement

unfoldable pub branch : Form
branch = act (λ v. pair (first v) (behind_2 v)) (expression ▸ word kinds.Then ▸ statements)

unfoldable pub next_branch : Form
next_branch = act second (word kinds.Elsif ▸ branch)

unfoldable pub branches : Form
branches = branch ▸ many next_branch

unfoldable pub otherwise : Form
otherwise = alt (act second (word kinds.Else ▸ statements)) empty

unfoldable pub handler : Form
handler = act (λ v. pair (first v) (pair (part_2 v) (behind_3 v))) (spot kinds.When ▸ choices ▸ word kinds.Arrow ▸ statements)

unfoldable pub handler_list : Form
handler_list = handler ▸ many handler

unfoldable pub handlers : Form
handlers = alt (act second (word kinds.Exception ▸ handler_list)) empty

unfoldable pub handled : Form
handled = statements ▸ handlers

-- ---- bodies

-- parameters that open no construct
unfoldable pub plain_formals : Form
plain_formals = act (λ v. none) (alt in_formals empty)

unfoldable pub start_of_function : Form
start_of_function = act (λ v. none) (word kinds.Function ▸ identifier ▸ plain_formals ▸ word kinds.Return ▸ dotted)

unfoldable pub start_of_procedure : Form
start_of_procedure = act (λ v. none) (word kinds.Procedure ▸ identifier ▸ plain_formals)

-- what can begin a function's body alone, as a function has no instance
unfoldable pub start_of_function_body : Form
start_of_function_body = act (λ v. none) (start_of_function ▸ word kinds.Is)

-- what can begin a body alone behind `overriding`, where no instance may stand
unfoldable pub start_of_body : Form
start_of_body = act (λ v. none) (alt start_of_function start_of_procedure ▸ word kinds.Is)

-- a token that can stand behind the `is` of a body
unfoldable pub start_of_bare_body : Form
start_of_bare_body = alt (word kinds.Overriding) (alt (word kinds.Procedure) (alt (word kinds.Function) (alt (word kinds.Type) (alt (word kinds.For) (alt (word kinds.Identifier) (word kinds.Begin))))))

unfoldable pub behind_start : Form
behind_start = alt (act (λ v. none) (in_formals ▸ word kinds.Is)) (act (λ v. none) (word kinds.Is ▸ start_of_bare_body))

-- what can begin a procedure body alone
unfoldable pub start_of_procedure_body : Form
start_of_procedure_body = act (λ v. none) (word kinds.Procedure ▸ identifier ▸ behind_start)

-- a semicolon, or a body, behind a heading
unfoldable pub completed : Form
completed = alt (act (λ v. none) (word kinds.Semicolon)) (act (λ v. pair none v) (nest Body))

-- a heading, and what completes it
abbrev pub heading : Form → Form
heading f = within f part_2_letters completed

unfoldable pub completed_specification : Form
completed_specification = late start_of_body (heading specification)

unfoldable pub completed_function : Form
completed_function = late start_of_function_body (heading function)

unfoldable pub overriding_item : Form
overriding_item = act (λ v. pair (first v) (tag labels.Subprogram (pair yes (second v)))) (spot kinds.Overriding ▸ completed_specification)

unfoldable pub function_item : Form
function_item = act (λ v. pair (first (first v)) (tag labels.Subprogram (pair no v))) completed_function

-- an instance, or a body without parameters, behind the `is` of a procedure
unfoldable pub behind_is : Form
behind_is = alt (act (λ v. pair yes v) (apart instance)) (act (λ v. pair none (pair none (pair none v))) (nest BareBody))

-- what stands behind the name of a procedure that does not say `overriding`
unfoldable pub behind_name : Form
behind_name = alt (act (λ v. pair none v) (apart (nest Formals) ▸ completed)) (alt (act second (word kinds.Is ▸ behind_is)) (act (λ v. pair none (pair none none)) (word kinds.Semicolon)))

-- a procedure that does not say `overriding`
abbrev pub plain_procedure : Form
plain_procedure = within (spot kinds.Procedure ▸ identifier) (λ v. first (second v)) behind_name

unfoldable pub completed_procedure : Form
completed_procedure = late start_of_procedure_body plain_procedure

unfoldable pub procedure_item : Form
procedure_item = act (λ v. pair (first (first v)) (procedure_of (first (first v)) (second (first v)) (second v))) completed_procedure

unfoldable pub item : Form
item = alt (overriding_item) (alt (procedure_item) (alt (function_item) (alt (type_item) (alt (clause) (named_item)))))

unfoldable pub part : Form
part = many item

unfoldable pub completion : Form
completion = act (λ v. pair (first v) (pair (part_3 v) (part_5 v))) (apart part ▸ word kinds.Begin ▸ apart handled ▸ word kinds.End ▸ end_name ▸ word kinds.Semicolon)

unfoldable pub declared : Form
declared = alt (spot kinds.Declare ▸ part) (act (λ v. pair none none) empty)

-- ---- constructs

-- what a construct is
unfoldable pub body : Nest → Form
body Enclosed = act (λ v. pair (first v) (part_2 v)) (spot kinds.LeftParenthesis ▸ expression ▸ word kinds.RightParenthesis)
body Arguments = act (λ v. arguments_of (first v) (part_2 v)) (spot kinds.LeftParenthesis ▸ expressions ▸ word kinds.RightParenthesis)
body Handle = act (λ v. part_2 v) (word kinds.LeftParenthesis ▸ name ▸ word kinds.RightParenthesis)
body Formals = in_formals
body Associations = act part_2 (word kinds.LeftParenthesis ▸ association_list ▸ word kinds.RightParenthesis)
body Conditional = act (λ v. pair (first v) (tag labels.If (pair (part_2 v) (part_3 v)))) (spot kinds.If ▸ branches ▸ otherwise ▸ end_if)
body Repetition = act (λ v. pair (or_else (first (first v)) (part_2 v)) (tag labels.Loop (pair (second (first v)) (part_3 v)))) (scheme ▸ spot kinds.Loop ▸ statements ▸ end_loop)
body Block = act (λ v. pair (or_else (first (first v)) (part_2 v)) (tag labels.Block (pair (second (first v)) (part_3 v)))) (declared ▸ spot kinds.Begin ▸ handled ▸ word kinds.End ▸ word kinds.Semicolon)
body Body = act second (word kinds.Is ▸ completion)
body BareBody = completion

-- the library procedure with its context, and the end mark
unfoldable pub program : Form
program = act (λ v. pair (first v) (pair (first (first (part_2 v))) (pair (second (first (part_2 v))) (second (part_2 v))))) (contexts ▸ within (spot kinds.Procedure ▸ identifier) (λ v. first (second v)) (nest Body) ▸ word kinds.Finish)
