-- What texts of the grammar stand for, as nodes.
use Rattle.std.specs.Prelude.{ℕ, Bool, true, false, List, [], ◌∷◌}
use Rattle.ctl_grammar.specs.Form.{Node, none, leaf, num, written, at, pair, tag}
use Rattle.ctl_grammar.specs.Label.{Label}
use Rattle.ctl_grammar.specs.Label as labels

-- ---- the parts of a node

abbrev pub first : Node → Node
first (pair a b) = a
first none = none
first (leaf t) = none
first (num n) = none
first (written s) = none
first (at p) = none
first (tag n v) = none

abbrev pub second : Node → Node
second (pair a b) = b
second none = none
second (leaf t) = none
second (num n) = none
second (written s) = none
second (at p) = none
second (tag n v) = none

-- the second and further parts of a row of parts, and what stands behind them
abbrev pub part_2 : Node → Node
part_2 v = first (second v)

abbrev pub behind_2 : Node → Node
behind_2 v = second (second v)

abbrev pub part_3 : Node → Node
part_3 v = first (behind_2 v)

abbrev pub behind_3 : Node → Node
behind_3 v = second (behind_2 v)

abbrev pub part_4 : Node → Node
part_4 v = first (behind_3 v)

abbrev pub behind_4 : Node → Node
behind_4 v = second (behind_3 v)

abbrev pub part_5 : Node → Node
part_5 v = first (behind_4 v)

abbrev pub behind_5 : Node → Node
behind_5 v = second (behind_4 v)

abbrev pub part_6 : Node → Node
part_6 v = first (behind_5 v)

-- where a token stands
abbrev pub place : Node → Node
place (leaf t) = at t.span
place none = none
place (num n) = none
place (written s) = none
place (at p) = none
place (pair a b) = none
place (tag n v) = none

-- the text of a token
abbrev pub spelling : Node → Node
spelling (leaf t) = written t.text
spelling none = none
spelling (num n) = none
spelling (written s) = none
spelling (at p) = none
spelling (pair a b) = none
spelling (tag n v) = none

-- the value of a token
abbrev pub value : Node → Node
value (leaf t) = num t.value
value none = none
value (num n) = none
value (written s) = none
value (at p) = none
value (pair a b) = none
value (tag n v) = none

-- the letters of a text
abbrev pub letters : Node → List ℕ
letters (written s) = s
letters none = []
letters (leaf t) = []
letters (num n) = []
letters (at p) = []
letters (pair a b) = []
letters (tag n v) = []

-- the first place, if there is one, or else the second
abbrev pub or_else : Node → Node → Node
or_else none p = p
or_else (leaf t) p = leaf t
or_else (num n) p = num n
or_else (written s) p = written s
or_else (at q) p = at q
or_else (pair a b) p = pair a b
or_else (tag n v) p = tag n v

-- ---- names

-- an identifier, from its token: what is written, and where
abbrev pub identifier_of : Node → Node
identifier_of t = pair (spelling t) (place t)

-- a word that says no more than its label
abbrev pub alone : Label → Node
alone label = tag label none

-- a yes or a no
abbrev pub yes : Node
yes = alone labels.Yes

abbrev pub no : Node
no = alone labels.No

-- ---- expressions: a place and what stands there

abbrev pub number_of : Node → Node
number_of t = pair (place t) (tag labels.Number (value t))

abbrev pub string_of : Node → Node
string_of t = pair (place t) (tag labels.String (spelling t))

abbrev pub null_of : Node → Node
null_of p = pair p (tag labels.Null none)

-- a name as an expression stands where its identifier stands
abbrev pub name_of : Node → Node
name_of n = pair (second (first n)) (tag labels.Name n)

abbrev pub parentheses_of : Node → Node
parentheses_of v = pair (first v) (tag labels.Parentheses (second v))

abbrev pub unary_of : Label → Node → Node
unary_of operator v = pair (first v) (tag labels.Unary (pair (alone operator) (second v)))

-- further factors join the first one
abbrev pub product_of : Node → Node → Node
product_of a none = a
product_of a (pair b more) = pair (first a) (tag labels.Product (pair a (pair b more)))
product_of a (leaf t) = a
product_of a (num n) = a
product_of a (written s) = a
product_of a (at p) = a
product_of a (tag n v) = a

-- further terms join the first one
abbrev pub unsigned_sum_of : Node → Node → Node
unsigned_sum_of a none = a
unsigned_sum_of a (pair b more) = pair (first a) (tag labels.Sum (pair none (pair a (pair b more))))
unsigned_sum_of a (leaf t) = a
unsigned_sum_of a (num n) = a
unsigned_sum_of a (written s) = a
unsigned_sum_of a (at p) = a
unsigned_sum_of a (tag n v) = a

-- a sum with its sign and the sign's place, if there is one
abbrev pub sum_of : Node → Node → Node → Node
sum_of none a more = unsigned_sum_of a more
sum_of (pair sign p) a more = pair p (tag labels.Sum (pair sign (pair a more)))
sum_of (leaf t) a more = a
sum_of (num n) a more = a
sum_of (written s) a more = a
sum_of (at p) a more = a
sum_of (tag n v) a more = a

-- a comparison, if there is a right side
abbrev pub relation_of : Node → Node → Node
relation_of a none = a
relation_of a (pair operator b) = pair (first a) (tag labels.Relation (pair operator (pair a b)))
relation_of a (leaf t) = a
relation_of a (num n) = a
relation_of a (written s) = a
relation_of a (at p) = a
relation_of a (tag n v) = a

-- relations that an operator joins, if there is one
abbrev pub logical_of : Node → Node → Node
logical_of a none = a
logical_of a (pair operator more) = pair (first a) (tag labels.Logical (pair operator (pair a more)))
logical_of a (leaf t) = a
logical_of a (num n) = a
logical_of a (written s) = a
logical_of a (at p) = a
logical_of a (tag n v) = a

abbrev pub allocator_of : Node → Node → Node → Node → Node
allocator_of p handle mark given = pair p (tag labels.Allocator (pair handle (pair mark given)))

-- ---- what stands behind the first identifier of a name

abbrev pub selector_of : Node → Node
selector_of id = tag labels.Selector id

abbrev pub all_of_access : Node → Node
all_of_access p = tag labels.All p

abbrev pub arguments_of : Node → Node → Node
arguments_of p more = tag labels.Arguments (pair p more)

abbrev pub access_of : Node → Node
access_of p = tag labels.Access p

abbrev pub attribute_of : Node → Node
attribute_of id = tag labels.Attribute id

-- whether an expression is an identifier alone
abbrev pub is_none : Node → Bool
is_none none = true
is_none (leaf t) = false
is_none (num n) = false
is_none (written s) = false
is_none (at p) = false
is_none (pair a b) = false
is_none (tag n v) = false

abbrev pub is_bare_kind : Node → Bool
is_bare_kind (tag labels.Name v) = is_none (second v)
is_bare_kind _ = false

abbrev pub is_bare : Node → Bool
is_bare e = is_bare_kind (second e)

-- the identifier that an expression is
abbrev pub tagged_part : Node → Node
tagged_part (tag n v) = v
tagged_part none = none
tagged_part (leaf t) = none
tagged_part (num n) = none
tagged_part (written s) = none
tagged_part (at p) = none
tagged_part (pair a b) = none

abbrev pub bare_of : Node → Node
bare_of e = first (tagged_part (second e))

-- an association: what stands before an arrow, if there is one, is its name
abbrev pub association_of : Node → Node → Node
association_of e none = pair none e
association_of e (pair arrow f) = pair (bare_of e) f
association_of e (leaf t) = pair none e
association_of e (num n) = pair none e
association_of e (written s) = pair none e
association_of e (at p) = pair none e
association_of e (tag n v) = pair none e

-- ---- statements: a place and what stands there

abbrev pub assignment_of : Node → Node → Node
assignment_of n none = pair (second (first n)) (tag labels.Call n)
assignment_of n (pair becomes e) = pair (second (first n)) (tag labels.Assignment (pair n e))
assignment_of n (leaf t) = none
assignment_of n (num m) = none
assignment_of n (written s) = none
assignment_of n (at p) = none
assignment_of n (tag m v) = none

-- ---- bodies

-- the name of a heading
abbrev pub part_2_letters : Node → Node
part_2_letters v = first (part_2 v)

-- What a procedure that does not say `overriding` is, from its place, its name and what stands behind that: the actuals of an
-- instance, or its parameters with its body, if it has one.
abbrev pub procedure_of : Node → Node → Node → Node
procedure_of p id (pair none v) = tag labels.Subprogram (pair no (pair (pair p (pair id (pair (first v) none))) (second v)))
procedure_of p id (pair (leaf t) v) = tag labels.Instance (pair id v)
procedure_of p id (pair (num n) v) = tag labels.Instance (pair id v)
procedure_of p id (pair (written s) v) = tag labels.Instance (pair id v)
procedure_of p id (pair (at q) v) = tag labels.Instance (pair id v)
procedure_of p id (pair (pair a b) v) = tag labels.Instance (pair id v)
procedure_of p id (pair (tag n w) v) = tag labels.Instance (pair id v)
procedure_of p id none = none
procedure_of p id (leaf t) = none
procedure_of p id (num n) = none
procedure_of p id (written s) = none
procedure_of p id (at q) = none
procedure_of p id (tag n v) = none

-- ---- rows

-- nodes in a row
abbrev pub row_of : List Node → Node
row_of [] = none
row_of (x ∷ xs) = pair x (row_of xs)

-- nodes in front of a row
abbrev pub joined_row : List Node → Node → Node
joined_row [] v = v
joined_row (x ∷ xs) v = pair x (joined_row xs v)
