-- What items, statements and bodies of parts stand for.
use Rattle.std.proofs.Common.{◌≡◌, List, map, Option, Some, None, refl, sym, ap, ◌∙◌}
use Rattle.std.specs.Prelude.{MatchOption}
use Rattle.ctl_tree.specs.declared.span.Span.{Span}
use Rattle.ctl_syntax.specs.declared.name.Identifier.{Identifier}
use Rattle.ctl_syntax.specs.declared.name.Mark.{Mark}
use Rattle.ctl_syntax.specs.declared.expression.Expression.{Expression}
use Rattle.ctl_syntax.specs.declared.item.Body.{Body, roll-Body, fold-roll-Body, fold_out-Body}
use Rattle.ctl_syntax.specs.declared.item.Branch.{Branch}
use Rattle.ctl_syntax.specs.declared.item.Direction.{Direction}
use Rattle.ctl_syntax.specs.declared.item.Handler.{Handler}
use Rattle.ctl_syntax.specs.declared.item.Item.{Item, roll-Item, fold-roll-Item}
use Rattle.ctl_syntax.specs.declared.item.ItemKind.{ItemKind}
use Rattle.ctl_syntax.specs.declared.item.ItemKind.TheVariants as item
use Rattle.ctl_syntax.specs.declared.item.Statement.{Statement, out-Statement, map-Statement, fold_out-Statement}
use Rattle.ctl_syntax.specs.declared.item.Statement.TheOpen.{Statement-F}
use Rattle.ctl_syntax.specs.declared.item.Statement.TheVariants as s
use Rattle.ctl_syntax.specs.declared.item.Statement.TheViews.{outs-If, outs-Loop, outs-While, outs-For, outs-Block}
use Rattle.ctl_grammar.specs.Form.{Node, none, pair, tag, at}
use Rattle.ctl_grammar.specs.Label as labels
use Rattle.ctl_grammar.specs.Nodes.{first, second, row_of}
use Rattle.ctl_parse.specs.Kept.{aspect_part, completed_part}
use Rattle.ctl_parse.specs.Parts.{view_statement, view_item, view_body, item_kind_node, aspect_node, branch_node, handler_node, choices_node, direction_node, completed_node, statement_step, body_step, item_step}
use Rattle.ctl_parse.specs.Reads.{Builds, Refuses}
use Rattle.ctl_parse.specs.View.{view, identifier_node, mark_node, optional}
use Rattle.ctl_parse.specs.declared.cursor.Parser.{Parser}
use Rattle.ctl_parse.proofs.Parts.{built, unbuilt}
use Rattle.ctl_parse.proofs.Views.{map_same, mapped}

-- one layer of a statement, with what each statement, body and item in it stands for
abbrev viewed : Statement-F Identifier Identifier (Statement Identifier Identifier) (Body Identifier Identifier) (Item Identifier Identifier) → Statement-F Identifier Identifier Node Node Node
viewed y = map-Statement Identifier Identifier (Statement Identifier Identifier) (Body Identifier Identifier) (Item Identifier Identifier) Node Node Node view_statement view_body view_item y

-- a statement, by its layer
pub view_layer : (x : Statement Identifier Identifier) {y : Statement-F Identifier Identifier (Statement Identifier Identifier) (Body Identifier Identifier) (Item Identifier Identifier)} → out-Statement Identifier Identifier x ≡ y → view_statement x ≡ statement_step (viewed y)
view_layer x is = fold_out-Statement Identifier Identifier Node Node Node statement_step body_step item_step x ∙ ap (λ y. statement_step (viewed y)) is

pub view_of_item : (p : Span) (k : ItemKind Identifier Identifier (Body Identifier Identifier)) → view_item (roll-Item Identifier Identifier (record { span = p; kind = k })) ≡ pair (at p) (item_kind_node view_body k)
view_of_item p (item.Declaration x) = rw fold-roll-Item refl
view_of_item p (item.Body x b) = rw fold-roll-Item refl
view_of_item p (item.Instance i m xs) = rw fold-roll-Item refl
view_of_item p (item.Incomplete i t) = rw fold-roll-Item refl
view_of_item p (item.«Type» i d) = rw fold-roll-Item refl
view_of_item p (item.StoragePool i m) = rw fold-roll-Item refl
view_of_item p (item.Exceptions is) = rw fold-roll-Item refl
view_of_item p (item.Objects o) = rw fold-roll-Item refl

-- ---- words that are not kept

-- a token that was read or none
pub some_node : {T : Type 0} (node : T → Node) (P : Node → Type 0) (r : Option T) → MatchOption r (P none) (λ t. P (node t)) → (v : Node) × P v
some_node node P None h = (none, h)
some_node node P (Some t) h = (node t, h)

pub aspect_kept : (word : Node) (pool : Option (Mark Identifier)) → aspect_part (aspect_node word pool) ≡ optional mark_node pool
aspect_kept word None = refl
aspect_kept word (Some m) = refl

-- ---- statements that hold others

conditional_is : (p : Span) (b : Branch (Statement Identifier Identifier) Identifier) (F : Branch (Statement Identifier Identifier) Identifier → Branch Node Identifier) (more : List (Branch (Statement Identifier Identifier) Identifier)) (others : Node)
    → ((x : Branch (Statement Identifier Identifier) Identifier) → branch_node (λ v. v) (F x) ≡ branch_node view_statement x)
    → pair (at p) (tag labels.If (pair (pair (branch_node (λ v. v) (F b)) (row_of (map (branch_node (λ v. v)) (map F more)))) others)) ≡ pair (at p) (tag labels.If (pair (pair (branch_node view_statement b) (row_of (map (branch_node view_statement) more))) others))
conditional_is p b F more others h =
    ap (λ (n : Node). pair (at p) (tag labels.If (pair (pair n (row_of (map (branch_node (λ v. v)) (map F more)))) others))) (h b)
    ∙ ap (λ (r : List Node). pair (at p) (tag labels.If (pair (pair (branch_node view_statement b) (row_of r)) others))) (mapped F (branch_node (λ v. v)) (branch_node view_statement) h more)

pub view_if : (p : Span) (b : Branch (Statement Identifier Identifier) Identifier) (more : List (Branch (Statement Identifier Identifier) Identifier)) (others : List (Statement Identifier Identifier))
    → view_statement (s.If p b more others) ≡ pair (at p) (tag labels.If (pair (pair (branch_node view_statement b) (row_of (map (branch_node view_statement) more))) (row_of (map view_statement others))))
view_if p b more others = rw (fold_out-Statement, outs-If p b more others) (conditional_is p b _ more _ (λ x. ap (λ (r : List Node). pair (view x.condition) (row_of r)) (map_same (map view_statement x.statements))))

pub view_loop : (p : Span) (xs : List (Statement Identifier Identifier)) → view_statement (s.Loop p xs) ≡ pair (at p) (tag labels.Loop (pair (tag labels.Endless none) (row_of (map view_statement xs))))
view_loop p xs = rw (fold_out-Statement, outs-Loop p xs) refl

pub view_while : (p : Span) (x : Expression Identifier) (xs : List (Statement Identifier Identifier)) → view_statement (s.While p x xs) ≡ pair (at p) (tag labels.Loop (pair (tag labels.While (view x)) (row_of (map view_statement xs))))
view_while p x xs = rw (fold_out-Statement, outs-While p x xs) refl

pub view_for : (p : Span) (i : Identifier) (d : Direction) (low high : Expression Identifier) (xs : List (Statement Identifier Identifier)) → view_statement (s.For p i d low high xs) ≡ pair (at p) (tag labels.Loop (pair (tag labels.For (pair (identifier_node i) (pair (direction_node d) (pair (view low) (view high))))) (row_of (map view_statement xs))))
view_for p i d low high xs = rw (fold_out-Statement, outs-For p i d low high xs) refl

pub view_block : (p : Span) (b : Body Identifier Identifier) → view_statement (s.Block p b) ≡ pair (at p) (tag labels.Block (view_body b))
view_block p b = rw (fold_out-Statement, outs-Block p b) refl

-- ---- bodies

body_is : (is ss : Node) (F : Handler (Statement Identifier Identifier) Identifier → Handler Node Identifier) (hs : List (Handler (Statement Identifier Identifier) Identifier))
    → ((x : Handler (Statement Identifier Identifier) Identifier) → handler_node (λ v. v) (F x) ≡ handler_node view_statement x)
    → pair is (pair ss (row_of (map (handler_node (λ v. v)) (map F hs)))) ≡ pair is (pair ss (row_of (map (handler_node view_statement) hs)))
body_is is ss F hs h = ap (λ (r : List Node). pair is (pair ss (row_of r))) (mapped F (handler_node (λ v. v)) (handler_node view_statement) h hs)

pub view_of_body : (is : List (Item Identifier Identifier)) (ss : List (Statement Identifier Identifier)) (hs : List (Handler (Statement Identifier Identifier) Identifier))
    → view_body (roll-Body Identifier Identifier (record { items = is; statements = ss; handlers = hs })) ≡ pair (row_of (map view_item is)) (pair (row_of (map view_statement ss)) (row_of (map (handler_node view_statement) hs)))
view_of_body is ss hs = rw fold-roll-Body (body_is _ _ _ hs (λ x. ap (λ (r : List Node). pair (at x.span) (pair (choices_node x.choices) (row_of r))) (map_same (map view_statement x.statements))))

pub body_pair : (b : Body Identifier Identifier) → pair (first (view_body b)) (second (view_body b)) ≡ view_body b
body_pair b = let e = fold_out-Body Identifier Identifier Node Node Node statement_step body_step item_step b in ap (λ (n : Node). pair (first n) (second n)) e ∙ sym e

pub completed_kept : (b : Option (Body Identifier Identifier)) (end : Node) → completed_part (completed_node b end) ≡ optional view_body b
completed_kept None end = refl
completed_kept (Some b) end = ap (λ (n : Node). pair none n) (body_pair b)

-- ---- boxes

pub boxing : {T : Type 0} (node : Option T → Node) (x : T) (r : Option T) (p q : Parser) → q.left ≡ p.left → q.rest.now ≡ p.rest.now → MatchOption r (Refuses p.fault q.fault) (λ b. (b ≡ x) × (q.fault ≡ p.fault)) → Builds (node (Some x)) p (node r) q
boxing node x None p q l t h = unbuilt (node (Some x)) (node None) p q l t h
boxing node x (Some b) p q l t h = built (node (Some x)) (node (Some b)) p q l t h.1 (ap (λ y. node (Some y)) h.0)
