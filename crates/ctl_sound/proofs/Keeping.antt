-- No judgement of an expression takes a fault back: values, operators, allocators and whole expressions.
use Rattle.std.proofs.Common.{ℕ, nat_lt, Bool, true, false, ◌&&◌, not, if◌then◌else◌, List, [], ◌∷◌, ◌++◌, map, slice_get, Option, Some, None}
use Rattle.ctl_tree.specs.declared.span.Span.{Span}
use Rattle.ctl_tree.specs.declared.fault.FaultCode.TheVariants as fault
use Rattle.ctl_program.specs.declared.types.Ty.{Ty}
use Rattle.ctl_program.specs.declared.types.Ty.TheVariants as ty
use Rattle.ctl_program.specs.declared.expression.Expr.{Expr}
use Rattle.ctl_program.specs.declared.expression.Expr.TheVariants as e
use Rattle.ctl_program.specs.declared.statement.Piece.{Piece}
use Rattle.ctl_program.specs.Limits.{integer_last}
use Rattle.ctl_syntax.specs.declared.denoted.Use.{Use}
use Rattle.ctl_syntax.specs.declared.name.Identifier.{Identifier}
use Rattle.ctl_syntax.specs.declared.name.Mark.{Mark}
use Rattle.ctl_syntax.specs.declared.name.Name.{Name}
use Rattle.ctl_syntax.specs.declared.name.Suffix.{Suffix}
use Rattle.ctl_syntax.specs.declared.operators.Operand.{Operand}
use Rattle.ctl_syntax.specs.declared.operators.LogicalOperator.{LogicalOperator}
use Rattle.ctl_syntax.specs.declared.operators.RelationalOperator.{RelationalOperator}
use Rattle.ctl_syntax.specs.declared.operators.UnaryOperator.{UnaryOperator}
use Rattle.ctl_syntax.specs.declared.expression.Expression.{Expression}
use Rattle.ctl_syntax.specs.declared.expression.Expression.TheOpen.{Expression-F}
use Rattle.ctl_typing.specs.declared.table.Tables.{Tables}
use Rattle.ctl_typing.specs.declared.found.Asked.{Asked}
use Rattle.ctl_typing.specs.declared.found.Asked.TheVariants as asking
use Rattle.ctl_typing.specs.declared.found.Adopts.{Adopts}
use Rattle.ctl_typing.specs.declared.found.Typed.{Typed as Typed_value}
use Rattle.ctl_typing.specs.declared.found.Found.{Found}
use Rattle.ctl_typing.specs.declared.found.Found.TheVariants as is
use Rattle.ctl_typing.specs.Judgement.{Judgement, known, but, wrong, doing, onward, ◌>>=◌, both, following}
use Rattle.ctl_typing.specs.Lookup.{same, is_limited, has_subpools, designated_by}
use Rattle.ctl_typing.specs.Senses.{suffix_sense}
use Rattle.ctl_typing.specs.Typing as spec
use Rattle.ctl_typing.specs.Typing.{Sense, Split, sense, step_of, adopted}
use Rattle.ctl_sound.specs.Known.{IfSome, All, Stays}
use Rattle.ctl_sound.specs.Law.{ExpressionKeepsFaults}
use Rattle.ctl_sound.proofs.Layers.{OperandOf, LayerOf, of_each, suffixes_of}
use Rattle.ctl_sound.proofs.Stays.{Keeps, KeepsSuffix, known_stays, wrong_stays, but_stays, doing_stays, next_stays, both_stays, following_stays, if_stays, each_stays, first_stays, settled_stays, found_stays, fits_stays, value_found_stays}

pub settled_found_stays : (u : Use) (xs : List (Suffix Sense)) (tables : Tables) (place : Span) → All KeepsSuffix xs → Stays (spec.found u xs tables >>= spec.settled tables place)
settled_found_stays u xs tables place g = next_stays (spec.found u xs tables) (spec.settled tables place) (found_stays u xs tables g) (settled_stays tables place)

name_stays : (u : Use) (xs : List (Suffix Sense)) (tables : Tables) (asked : Asked) → All KeepsSuffix xs → Stays (spec.name_judged u xs tables asked)
name_stays u xs tables asked g = next_stays (spec.found u xs tables >>= spec.settled tables u.span) (spec.value_found tables u.span asked) (settled_found_stays u xs tables u.span g) (value_found_stays tables u.span asked)

-- Operators -------------------------------------------------------------------------------------

abbrev KeepsOperand : Operand Sense → Type 0
KeepsOperand = OperandOf Keeps

operands_all : (tables : Tables) (asked : Asked) (os : List (Operand Sense)) → All KeepsOperand os → All (λ o. Stays (spec.operand_as tables asked o)) os
operands_all tables asked [] g = tt
operands_all tables asked (o ∷ os) g = (next_stays (o.operand.judged tables asked) (λ r. known (spec.operand_of (spec.operator_of o.operator) r.ty r.value)) (g.0.judged tables asked) (λ r n h. h), operands_all tables asked os g.1)

operands_stay : (tables : Tables) (asked : Asked) (os : List (Operand Sense)) → All KeepsOperand os → Stays (spec.operands_as tables asked os)
operands_stay tables asked os g = each_stays (spec.operand_as tables asked) (Some []) os (operands_all tables asked os g)

by_first_stays : (tables : Tables) (x : Sense) (os : List (Operand Sense)) → Keeps x → All KeepsOperand os → Stays (spec.by_first tables x os)
by_first_stays tables x os g i = next_stays (following (x.judged tables asking.Number) (λ r. spec.operands_as tables (spec.asked_like asking.Number r) os)) (λ r. known (record { ty = r.0.ty; value = spec.chain_of r.0.value r.1 }))
    (following_stays (x.judged tables asking.Number) (λ r. spec.operands_as tables (spec.asked_like asking.Number r) os) (g.judged tables asking.Number) (λ o. operands_stay tables (spec.asked_like asking.Number o) os i)) (λ r n h. h)

value_stays : (tables : Tables) (asked : Asked) (x : Sense) → Keeps x → Stays (x.judged tables asked >>= (λ r. known r.value))
value_stays tables asked x g = next_stays (x.judged tables asked) (λ r. known r.value) (g.judged tables asked) (λ r n h. h)

first_as_stays : (tables : Tables) (asked : Asked) (x : Sense) (os : List (Operand Sense)) → Keeps x → All KeepsOperand os → Stays (spec.first_as tables asked x os)
first_as_stays tables asked x os g i = both_stays (x.judged tables asked >>= (λ r. known r.value)) (spec.operands_as tables asked os) (value_stays tables asked x g) (operands_stay tables asked os i)

by_other_stays : (tables : Tables) (asked : Asked) (x : Sense) (before : List (Operand Sense)) (o : Option (Operand Sense)) (behind : List (Operand Sense)) → Keeps x → All KeepsOperand before → IfSome KeepsOperand o → All KeepsOperand behind → Stays (spec.by_other tables asked x before o behind)
by_other_stays tables asked x before (Some o) behind g i j l = next_stays (following (o.operand.judged tables asking.Number) (λ r. spec.around tables x before behind (spec.asked_like asking.Number r))) (λ r. known (spec.joined (spec.operator_of o.operator) r.0 r.1))
    (following_stays (o.operand.judged tables asking.Number) (λ r. spec.around tables x before behind (spec.asked_like asking.Number r)) (j.judged tables asking.Number)
    (λ q. both_stays (spec.first_as tables (spec.asked_like asking.Number q) x before) (spec.operands_as tables (spec.asked_like asking.Number q) behind) (first_as_stays tables (spec.asked_like asking.Number q) x before g i) (operands_stay tables (spec.asked_like asking.Number q) behind l)))
    (λ r n h. h)
by_other_stays tables asked x before None behind g i j l = next_stays (spec.first_as tables (asking.Exactly (adopted asked)) x before) (λ r. known (record { ty = adopted asked; value = spec.chain_of r.0 r.1 })) (first_as_stays tables (asking.Exactly (adopted asked)) x before g i) (λ r n h. h)

abbrev SplitKeeps : Split → Type 0
SplitKeeps s = All KeepsOperand s.before × (IfSome KeepsOperand s.typed × All KeepsOperand s.behind)

split_keeps : (os : List (Operand Sense)) → All KeepsOperand os → SplitKeeps (spec.split os)
split_keeps [] g = (tt, (tt, tt))
split_keeps (o ∷ os) g = by_test (spec.adopts o.operand.adopts) (split_keeps os g.1)
  where
    by_test : (b : Bool) → SplitKeeps (spec.split os) → SplitKeeps (if b then spec.put_before o (spec.split os) else (record { before = []; typed = Some o; behind = os }))
    by_test true h = ((g.0, h.0), h.1)
    by_test false h = (tt, (g.0, g.1))

chain_stays : (place : Span) (x : Sense) (os : List (Operand Sense)) (tables : Tables) (asked : Asked) → Keeps x → All KeepsOperand os → Stays (spec.chain_judged place x os tables asked)
chain_stays place x os tables asked g i =
    let s = spec.split os in
    let h = split_keeps os i in
    if_stays (spec.has_joining os) (wrong fault.Type place) (spec.arithmetic_of tables asked x os s >>= spec.fits place asked) (wrong_stays Typed_value fault.Type place)
    (next_stays (spec.arithmetic_of tables asked x os s) (spec.fits place asked)
    (if_stays (spec.adopts x.adopts) (spec.by_other tables asked x s.before s.typed s.behind) (spec.by_first tables x os) (by_other_stays tables asked x s.before s.typed s.behind g h.0 h.1.0 h.1.1) (by_first_stays tables x os g i))
    (fits_stays place asked))

two_stay : (tables : Tables) (first : Asked) (o : RelationalOperator) (x y : Sense) → Keeps x → Keeps y → Stays (following (x.judged tables first) (λ t. y.judged tables (spec.asked_like (spec.compared o) t)))
two_stay tables first o x y g h = following_stays (x.judged tables first) (λ t. y.judged tables (spec.asked_like (spec.compared o) t)) (g.judged tables first) (λ t. h.judged tables (spec.asked_like (spec.compared o) t))

relation_stays : (place : Span) (o : RelationalOperator) (l r : Sense) (tables : Tables) (asked : Asked) → Keeps l → Keeps r → Stays (spec.relation_judged place o l r tables asked)
relation_stays place o l r tables asked g h = by_test (spec.adopts l.adopts && not (spec.adopts r.adopts))
  where
    by_test : (b : Bool) → Stays
        (if b
        then (following (r.judged tables (spec.asked_beside o l.adopts)) (λ t. l.judged tables (spec.asked_like (spec.compared o) t)) >>= (λ p. spec.fits place asked (spec.relation_of o p.1 p.0)))
        else (following (l.judged tables (spec.compared o)) (λ t. r.judged tables (spec.asked_like (spec.compared o) t)) >>= (λ p. spec.fits place asked (spec.relation_of o p.0 p.1))))
    by_test true = next_stays (following (r.judged tables (spec.asked_beside o l.adopts)) (λ t. l.judged tables (spec.asked_like (spec.compared o) t))) (λ p. spec.fits place asked (spec.relation_of o p.1 p.0)) (two_stay tables (spec.asked_beside o l.adopts) o r l h g) (λ p. fits_stays place asked (spec.relation_of o p.1 p.0))
    by_test false = next_stays (following (l.judged tables (spec.compared o)) (λ t. r.judged tables (spec.asked_like (spec.compared o) t))) (λ p. spec.fits place asked (spec.relation_of o p.0 p.1)) (two_stay tables (spec.compared o) o l r g h) (λ p. fits_stays place asked (spec.relation_of o p.0 p.1))

pub truth_stays : (tables : Tables) (x : Sense) → Keeps x → Stays (spec.truth_of tables x)
truth_stays tables x g = value_stays tables (asking.Exactly ty.Boolean) x g

truths_all : (tables : Tables) (xs : List Sense) → All Keeps xs → All (λ x. Stays (spec.truth_of tables x)) xs
truths_all tables [] g = tt
truths_all tables (x ∷ xs) g = (truth_stays tables x g.0, truths_all tables xs g.1)

logical_stays : (place : Span) (o : LogicalOperator) (a b : Sense) (more : List Sense) (tables : Tables) (asked : Asked) → Keeps a → Keeps b → All Keeps more → Stays (spec.logical_judged place o a b more tables asked)
logical_stays place o a b more tables asked g h i =
    next_stays (both (both (spec.truth_of tables a) (spec.truth_of tables b)) (spec.truths_of tables more)) (λ r. spec.fits place asked (record { ty = ty.Boolean; value = spec.logical_of o r.0.0 r.0.1 r.1 }))
    (both_stays (both (spec.truth_of tables a) (spec.truth_of tables b)) (spec.truths_of tables more) (both_stays (spec.truth_of tables a) (spec.truth_of tables b) (truth_stays tables a g) (truth_stays tables b h)) (each_stays (spec.truth_of tables) (Some []) more (truths_all tables more i)))
    (λ r. fits_stays place asked (record { ty = ty.Boolean; value = spec.logical_of o r.0.0 r.0.1 r.1 }))

unary_stays : (place : Span) (o : UnaryOperator) (x : Sense) (tables : Tables) (asked : Asked) → Keeps x → Stays (spec.unary_judged place o x tables asked)
unary_stays place o x tables asked g = next_stays (x.judged tables (spec.asked_by_one o asked x.adopts)) (λ r. spec.fits place asked (record { ty = r.ty; value = e.Unary (spec.unary_of o) r.ty r.value })) (g.judged tables (spec.asked_by_one o asked x.adopts)) (λ r. fits_stays place asked (record { ty = r.ty; value = e.Unary (spec.unary_of o) r.ty r.value }))

-- Literals, allocators ----------------------------------------------------------------------------------

number_stays : (place : Span) (m : ℕ) (tables : Tables) (asked : Asked) → Stays (spec.number_judged place m tables asked)
number_stays place m tables asked =
    let t : Typed_value = record { ty = adopted asked; value = e.Constant (spec.number_cell m) } in
    next_stays (spec.in_range place m t) (spec.fits place asked) (if_stays (nat_lt integer_last m) (but fault.Range place t) (known t) (but_stays fault.Range place t) (known_stays t)) (fits_stays place asked)

null_stays : (place : Span) (tables : Tables) (asked : Asked) → Stays (spec.null_judged place tables asked)
null_stays place tables (asking.Exactly (ty.Access a)) = λ n h. h
null_stays place tables (asking.Exactly ty.Handle) = λ n h. h
null_stays place tables _ = wrong_stays Typed_value fault.Type place

marked_stays : (place : Span) (f : Found) → Stays (spec.marked place f)
marked_stays place (is.TypeName t) = λ n h. h
marked_stays place _ = wrong_stays Ty fault.Type place

pub mark_stays : (tables : Tables) (u : Use) (rest : List Identifier) → Stays (spec.mark_judged tables u rest)
mark_stays tables u [] = next_stays (spec.first_found tables u) (spec.marked u.span) (first_stays tables u) (marked_stays u.span)
mark_stays tables u (i ∷ rest) = wrong_stays Ty fault.Type u.span

handle_found_stays : (place : Span) (f : Found) → Stays (spec.handle_found place f)
handle_found_stays place (is.Part p) = if_stays (same p.ty ty.Handle) (known (spec.value_at p.head p.steps p.ty)) (wrong fault.Type place) (λ n h. h) (wrong_stays Expr fault.Type place)
handle_found_stays place (is.Computed t) = if_stays (same t.ty ty.Handle) (known t.value) (wrong fault.Type place) (λ n h. h) (wrong_stays Expr fault.Type place)
handle_found_stays place _ = wrong_stays Expr fault.Type place

abbrev KeepsHandle : Option (Name Use Sense) → Type 0
KeepsHandle o = IfSome (λ (u : Name Use Sense). All KeepsSuffix u.suffixes) o

in_subpools_stays : (tables : Tables) (place : Span) (asked : Asked) (x : Expr) → Stays (spec.in_subpools tables place asked x)
in_subpools_stays tables place (asking.Exactly (ty.Access a)) x = if_stays (has_subpools tables (slice_get tables.states.accesses a)) (known (Some x)) (but fault.Pool place None) (known_stays (Some x)) (but_stays {A = Option Expr} fault.Pool place None)
in_subpools_stays tables place _ x = known_stays (Some x)

handle_judged_stays : (tables : Tables) (asked : Asked) (u : Name Use Sense) → All KeepsSuffix u.suffixes → Stays (spec.handle_judged tables asked u)
handle_judged_stays tables asked u h =
    let place = u.first.span in
    next_stays (spec.found u.first u.suffixes tables >>= spec.settled tables place >>= spec.handle_found place) (spec.in_subpools tables place asked)
    (next_stays (spec.found u.first u.suffixes tables >>= spec.settled tables place) (spec.handle_found place) (settled_found_stays u.first u.suffixes tables place h) (handle_found_stays place))
    (in_subpools_stays tables place asked)

given_stays : (tables : Tables) (asked : Asked) (o : Option (Name Use Sense)) → KeepsHandle o → Stays (spec.handle_given tables asked o)
given_stays tables asked None h = λ n c. c
given_stays tables asked (Some u) h = handle_judged_stays tables asked u h

value_asked_stays : (tables : Tables) (place : Span) (t : Option Ty) → Stays (spec.value_asked tables place t)
value_asked_stays tables place None = known_stays asking.Anything
value_asked_stays tables place (Some t) = if_stays (is_limited tables t) (but fault.Limited place (asking.Exactly t)) (known (asking.Exactly t)) (but_stays fault.Limited place (asking.Exactly t)) (known_stays (asking.Exactly t))

value_judged_stays : (tables : Tables) (place : Span) (t : Option Ty) (o : Option Sense) → IfSome Keeps o → Stays (spec.value_judged tables place t o)
value_judged_stays tables place t None h = λ n c. c
value_judged_stays tables place t (Some x) h = next_stays (spec.value_asked tables place t >>= x.judged tables) (λ r. known (Some r.value)) (next_stays (spec.value_asked tables place t) (x.judged tables) (value_asked_stays tables place t) (h.judged tables)) (λ r n c. c)

allocates_stays : (tables : Tables) (place : Span) (asked : Asked) (t : Ty) → Stays (spec.allocates tables place asked t)
allocates_stays tables place (asking.Exactly (ty.Access a)) t = if_stays (spec.designates_this t (designated_by tables a) && spec.has_objects tables t) (known a) (wrong fault.Type place) (known_stays a) (wrong_stays ℕ fault.Type place)
allocates_stays tables place _ t = wrong_stays ℕ fault.Type place

object_stays : (tables : Tables) (place : Span) (asked : Asked) (value : Option Sense) (t : Option Ty) → IfSome Keeps value → Stays (spec.object_judged tables place asked value t)
object_stays tables place asked value None i = both_stays (onward None (spec.allocates tables place asked)) (spec.value_judged tables place None value) (λ n c. c) (value_judged_stays tables place None value i)
object_stays tables place asked value (Some t) i = both_stays (spec.allocates tables place asked t) (spec.value_judged tables place (Some t) value) (allocates_stays tables place asked t) (value_judged_stays tables place (Some t) value i)

new_stays : (place : Span) (handle : Option (Name Use Sense)) (m : Mark Use) (value : Option Sense) (tables : Tables) (asked : Asked) → KeepsHandle handle → IfSome Keeps value → Stays (spec.new_judged place handle m value tables asked)
new_stays place handle m value tables asked h i =
    let p = spec.handle_given tables asked handle in
    let mark = spec.mark_judged tables (spec.told_at place m.first) m.rest in
    let object = spec.object_judged tables place asked value in
    next_stays (both p (following mark object)) (λ r. doing (spec.making r.1.1.0 r.1.0 r.1.1.1) (record { ty = ty.Access r.1.1.0; value = e.New r.1.1.0 r.1.0 r.0 r.1.1.1 }))
    (both_stays p (following mark object) (given_stays tables asked handle h) (following_stays mark object (mark_stays tables (spec.told_at place m.first) m.rest) (λ t. object_stays tables place asked value t i)))
    (λ r. doing_stays {A = Typed_value} (spec.making r.1.1.0 r.1.0 r.1.1.1) (record { ty = ty.Access r.1.1.0; value = e.New r.1.1.0 r.1.0 r.0 r.1.1.1 }))

-- What is put ---------------------------------------------------------------------------------------------

no_text_stays : (place : Span) (judged : Tables → Asked → Judgement Typed_value) (tables : Tables) → Stays (judged tables asking.Anything) → Stays (spec.no_text place judged tables)
no_text_stays place judged tables h = next_stays (judged tables asking.Anything) (λ t. wrong fault.Type place) h (λ t. wrong_stays (List Piece) fault.Type place)

text_found_stays : (place : Span) (f : Found) → Stays (spec.text_found place f)
text_found_stays place (is.Imaged t) = λ n h. h
text_found_stays place _ = wrong_stays (List Piece) fault.Type place

operand_texts_all : (tables : Tables) (os : List (Operand Sense)) → All KeepsOperand os → All (λ o. Stays (o.operand.texts tables)) os
operand_texts_all tables [] g = tt
operand_texts_all tables (o ∷ os) g = (g.0.texts tables, operand_texts_all tables os g.1)

chain_texts_stay : (place : Span) (x : Sense) (os : List (Operand Sense)) (tables : Tables) → Keeps x → All KeepsOperand os → Stays (spec.chain_texts place x os tables)
chain_texts_stay place x os tables g i =
    if_stays (spec.all_joining os) (both (x.texts tables) (spec.operand_texts tables os) >>= (λ r. known (r.0 ++ spec.together r.1))) (spec.no_text place (spec.chain_judged place x os) tables)
    (next_stays (both (x.texts tables) (spec.operand_texts tables os)) (λ r. known (r.0 ++ spec.together r.1)) (both_stays (x.texts tables) (spec.operand_texts tables os) (g.texts tables) (each_stays (λ o. o.operand.texts tables) (Some []) os (operand_texts_all tables os i))) (λ r n h. h))
    (no_text_stays place (spec.chain_judged place x os) tables (chain_stays place x os tables asking.Anything g i))

-- Whole expressions -------------------------------------------------------------------------------------------

plain_keeps : (place : Span) (a : Adopts) (judged : Tables → Asked → Judgement Typed_value) → ((tables : Tables) (asked : Asked) → Stays (judged tables asked)) → Keeps (spec.plain place a judged)
plain_keeps place a judged h = record { judged = h; bare = tt; named = tt; texts = λ tables. no_text_stays place judged tables (h tables asking.Anything) }

layer_keeps : (y : Expression-F Use Sense) → LayerOf Keeps y → Keeps (step_of y)
layer_keeps (Expression-F.Logical p o a b more) g = plain_keeps p _ (spec.logical_judged p o a b more) (λ tables asked. logical_stays p o a b more tables asked g.0 g.1.0 g.1.1)
layer_keeps (Expression-F.Relation p o l r) g = plain_keeps p _ (spec.relation_judged p o l r) (λ tables asked. relation_stays p o l r tables asked g.0 g.1)
layer_keeps (Expression-F.Chain p x o os) g = record { judged = λ tables asked. chain_stays p x (o ∷ os) tables asked g.0 g.1; bare = tt; named = tt; texts = λ tables. chain_texts_stay p x (o ∷ os) tables g.0 g.1 }
layer_keeps (Expression-F.Unary p o x) g = plain_keeps p _ (spec.unary_judged p o x) (λ tables asked. unary_stays p o x tables asked g)
layer_keeps (Expression-F.Number p m) g = plain_keeps p _ (spec.number_judged p m) (number_stays p m)
layer_keeps (Expression-F.String p s) g = record { judged = λ tables asked. wrong_stays Typed_value fault.Type p; bare = tt; named = tt; texts = λ tables n h. h }
layer_keeps (Expression-F.Null p) g = plain_keeps p _ (spec.null_judged p) (null_stays p)
layer_keeps (Expression-F.Name p u) g = record {
  judged = λ tables asked. name_stays u.first u.suffixes tables asked g;
  bare = λ tables. found_stays u.first u.suffixes tables g;
  named = λ tables. found_stays u.first u.suffixes tables g;
  texts = λ tables. next_stays (spec.found u.first u.suffixes tables >>= spec.settled tables u.first.span) (spec.text_found u.first.span) (settled_found_stays u.first u.suffixes tables u.first.span g) (text_found_stays u.first.span);
}
layer_keeps (Expression-F.Parentheses p x) g = record { judged = g.judged; bare = tt; named = g.named; texts = g.texts }
layer_keeps (Expression-F.New p h m v) g = plain_keeps p _ (spec.new_judged p h m v) (λ tables asked. new_stays p h m v tables asked g.0 g.1)

pub expression_keeps : (x : Expression Use) → Keeps (sense x)
expression_keeps = of_each Keeps layer_keeps

pub suffixes_keep : (xs : List (Suffix (Expression Use))) → All KeepsSuffix (map suffix_sense xs)
suffixes_keep = suffixes_of Keeps expression_keeps

pub expression_keeps_faults : (x : Expression Use) → ExpressionKeepsFaults x
expression_keeps_faults x = record { of_type = (expression_keeps x).judged; put = (expression_keeps x).texts }
