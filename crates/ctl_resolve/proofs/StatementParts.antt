-- What the naming of a statement is, by the naming of its parts.
use Rattle.std.proofs.Common.{◌≡◌, refl, ap, ◌∙◌, List, [], map}
use Rattle.ctl_tree.specs.declared.span.Span.{Span}
use Rattle.ctl_syntax.specs.declared.denoted.Definition.{Definition}
use Rattle.ctl_syntax.specs.declared.denoted.Use.{Use}
use Rattle.ctl_syntax.specs.declared.name.Identifier.{Identifier}
use Rattle.ctl_syntax.specs.declared.expression.Expression.{Expression}
use Rattle.ctl_syntax.specs.declared.item.Branch.{Branch}
use Rattle.ctl_syntax.specs.declared.item.Choices.{Choices}
use Rattle.ctl_syntax.specs.declared.item.Handler.{Handler}
use Rattle.ctl_syntax.specs.declared.item.Statement.{Statement, fold-roll-Statement}
use Rattle.ctl_syntax.specs.declared.item.Statement.TheOpen.{Statement-F}
use Rattle.ctl_syntax.specs.declared.item.Statement.TheVariants as s
use Rattle.ctl_syntax.specs.declared.item.Statement.TheVariants.{rolls-If, rolls-Loop, rolls-While}
use Rattle.ctl_resolve.specs.declared.view.View.{View}
use Rattle.ctl_resolve.specs.declared.view.Stage.TheVariants.{Complete}
use Rattle.ctl_resolve.specs.Naming.{Naming, pure, then_by, ◌>>=◌, each}
use Rattle.ctl_resolve.specs.Expressions.{expression}
use Rattle.ctl_resolve.specs.Declarations.{new_name}
use Rattle.ctl_resolve.specs.Parts.{Named_statement, step_statement, statement, statements, branch, branch_parts, named_branch, named_handler, choices, looped}
use Rattle.ctl_resolve.proofs.Each.{each_map}

-- One layer -------------------------------------------------------------------------------------------

statement_if : (p : Span) (b : Branch (Statement Identifier Identifier) Identifier) (bs : List (Branch (Statement Identifier Identifier) Identifier)) (xs : List (Statement Identifier Identifier)) → statement (s.If p b bs xs) ≡ step_statement (Statement-F.If p (branch_parts b) (map branch_parts bs) (map statement xs))
statement_if p b bs xs = rw (← rolls-If, fold-roll-Statement) refl

statement_loop : (p : Span) (xs : List (Statement Identifier Identifier)) → statement (s.Loop p xs) ≡ step_statement (Statement-F.Loop p (map statement xs))
statement_loop p xs = rw (← rolls-Loop, fold-roll-Statement) refl

statement_while : (p : Span) (e : Expression Identifier) (xs : List (Statement Identifier Identifier)) → statement (s.While p e xs) ≡ step_statement (Statement-F.While p e (map statement xs))
statement_while p e xs = rw (← rolls-While, fold-roll-Statement) refl

-- Statements by their parts -------------------------------------------------------------------------------

pub conditional : (p : Span) (b : Branch (Statement Identifier Identifier) Identifier) (bs : List (Branch (Statement Identifier Identifier) Identifier)) (xs : List (Statement Identifier Identifier)) (v v1 v2 v3 : View) (b2 : Branch (Statement Definition Use) Use) (bs2 : List (Branch (Statement Definition Use) Use)) (xs2 : List (Statement Definition Use)) → named_branch b v ≡ (b2, v1) → each named_branch [] bs v1 ≡ (bs2, v2) → each statement [] xs v2 ≡ (xs2, v3) → statement (s.If p b bs xs) v ≡ (s.If p b2 bs2 xs2, v3)
conditional p b bs xs v v1 v2 v3 b2 bs2 xs2 h k l =
    let third : List (Statement Definition Use) → Named_statement = λ c. pure (s.If p b2 bs2 c) in
    let second : List (Branch (Statement Definition Use) Use) → Named_statement = λ y. statements (map statement xs) >>= (λ c. pure (s.If p b2 y c)) in
    let first : Branch (Statement Definition Use) Use → Named_statement = λ a. each branch [] (map branch_parts bs) >>= (λ y. statements (map statement xs) >>= (λ c. pure (s.If p a y c))) in
    ap (λ f. f v) (statement_if p b bs xs)
    ∙ ap (then_by first) h
    ∙ ap (then_by second) (each_map branch branch_parts [] bs v1 ∙ k)
    ∙ ap (then_by third) (each_map (λ y. y) statement [] xs v2 ∙ l)

pub endless : (p : Span) (xs : List (Statement Identifier Identifier)) (v w : View) (xs2 : List (Statement Definition Use)) → each statement [] xs v ≡ (xs2, w) → statement (s.Loop p xs) v ≡ (s.Loop p xs2, w)
endless p xs v w xs2 h =
    let behind : List (Statement Definition Use) → Named_statement = λ c. pure (s.Loop p c) in
    ap (λ f. f v) (statement_loop p xs) ∙ ap (then_by behind) (each_map (λ y. y) statement [] xs v ∙ h)

pub while_true : (p : Span) (e : Expression Identifier) (xs : List (Statement Identifier Identifier)) (v v1 v2 : View) (e2 : Expression Use) (xs2 : List (Statement Definition Use)) → expression e v ≡ (e2, v1) → each statement [] xs v1 ≡ (xs2, v2) → statement (s.While p e xs) v ≡ (s.While p e2 xs2, v2)
while_true p e xs v v1 v2 e2 xs2 h k =
    let second : List (Statement Definition Use) → Named_statement = λ c. pure (s.While p e2 c) in
    let first : Expression Use → Named_statement = λ a. statements (map statement xs) >>= (λ c. pure (s.While p a c)) in
    ap (λ f. f v) (statement_while p e xs)
    ∙ ap (then_by first) h
    ∙ ap (then_by second) (each_map (λ y. y) statement [] xs v1 ∙ k)

pub guarding : (b : Branch (Statement Identifier Identifier) Identifier) (v v1 v2 : View) (e2 : Expression Use) (xs2 : List (Statement Definition Use)) → expression b.condition v ≡ (e2, v1) → each statement [] b.statements v1 ≡ (xs2, v2) → named_branch b v ≡ (record { condition = e2; statements = xs2 }, v2)
guarding b v v1 v2 e2 xs2 h k =
    let second : List (Statement Definition Use) → Naming (Branch (Statement Definition Use) Use) = λ c. pure (record { condition = e2; statements = c }) in
    let first : Expression Use → Naming (Branch (Statement Definition Use) Use) = λ a. statements (map statement b.statements) >>= (λ c. pure (record { condition = a; statements = c })) in
    ap (then_by first) h ∙ ap (then_by second) (each_map (λ y. y) statement [] b.statements v1 ∙ k)

pub handling : (h : Handler (Statement Identifier Identifier) Identifier) (v v1 v2 : View) (c2 : Choices Use) (xs2 : List (Statement Definition Use)) → choices h.choices v ≡ (c2, v1) → each statement [] h.statements v1 ≡ (xs2, v2) → named_handler h v ≡ (record { span = h.span; choices = c2; statements = xs2 }, v2)
handling h v v1 v2 c2 xs2 j k =
    let second : List (Statement Definition Use) → Naming (Handler (Statement Definition Use) Use) = λ c. pure (record { span = h.span; choices = c2; statements = c }) in
    let first : Choices Use → Naming (Handler (Statement Definition Use) Use) = λ a. statements (map statement h.statements) >>= (λ c. pure (record { span = h.span; choices = a; statements = c })) in
    ap (then_by first) j ∙ ap (then_by second) (each_map (λ y. y) statement [] h.statements v1 ∙ k)

pub looping : (id : Identifier) (xs : List (Statement Identifier Identifier)) (v v1 v2 : View) (d : Definition) (xs2 : List (Statement Definition Use)) → new_name Complete id v ≡ (d, v1) → each statement [] xs v1 ≡ (xs2, v2) → looped id (map statement xs) v ≡ ((d, xs2), v2)
looping id xs v v1 v2 d xs2 h k =
    let second : List (Statement Definition Use) → Naming (Definition × List (Statement Definition Use)) = λ c. pure (d, c) in
    let first : Definition → Naming (Definition × List (Statement Definition Use)) = λ a. statements (map statement xs) >>= (λ c. pure (a, c)) in
    ap (then_by first) h ∙ ap (then_by second) (each_map (λ y. y) statement [] xs v1 ∙ k)
