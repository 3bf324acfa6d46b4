-- Statements, bodies, items and whole trees are read back from what they stand for.
use Rattle.std.proofs.Common.{◌≡◌, ℕ, zero, suc, ◌<◌, List, map, refl, sym, ap, subst, ◌∙◌, arith}
use Rattle.ctl_tree.specs.declared.span.Span.{Span}
use Rattle.ctl_grammar.specs.Form.{Node, none, at, pair, tag}
use Rattle.ctl_grammar.specs.Label as labels
use Rattle.ctl_grammar.specs.Nodes.{row_of}
use Rattle.ctl_syntax.specs.declared.name.Identifier.{Identifier}
use Rattle.ctl_syntax.specs.declared.name.Name.{Name}
use Rattle.ctl_syntax.specs.declared.expression.Expression.{Expression}
use Rattle.ctl_syntax.specs.declared.item.Body.{Body, roll-Body, out-Body, roll-out-Body}
use Rattle.ctl_syntax.specs.declared.item.Branch.{Branch}
use Rattle.ctl_syntax.specs.declared.item.Choices.{Choices}
use Rattle.ctl_syntax.specs.declared.item.Context.{Context}
use Rattle.ctl_syntax.specs.declared.item.Direction.{Direction}
use Rattle.ctl_syntax.specs.declared.item.Handler.{Handler}
use Rattle.ctl_syntax.specs.declared.item.Item.{Item, roll-Item, out-Item, roll-out-Item}
use Rattle.ctl_syntax.specs.declared.item.ItemKind.{ItemKind}
use Rattle.ctl_syntax.specs.declared.item.ItemKind.TheVariants as item
use Rattle.ctl_syntax.specs.declared.item.Specification.{Specification}
use Rattle.ctl_syntax.specs.declared.item.Statement.{Statement, roll-Statement, out-Statement, roll-out-Statement}
use Rattle.ctl_syntax.specs.declared.item.Statement.TheOpen.{Statement-F}
use Rattle.ctl_syntax.specs.declared.item.Statement.TheVariants as s
use Rattle.ctl_syntax.specs.declared.item.Tree.{Tree}
use Rattle.ctl_grammar.proofs.Programs.{one_tree as one_node}
use Rattle.ctl_parse.specs.Kept.{kept_program}
use Rattle.ctl_parse.specs.Parts.{branch_node, handler_node, item_kind_node, direction_node, view_statement, view_body, view_item, context_node, tree_node}
use Rattle.ctl_parse.specs.Read.{size, row_in, read_optional, read_expression, read_branch, read_handler, read_statement_below, read_body_below, read_item_below, read_body, read_context, read_tree, SpellsOneTree}
use Rattle.ctl_parse.specs.View.{optional, identifier_node, name_node, view}
use Rattle.ctl_syntax.specs.declared.item.Statement.TheViews.{outs-Null, outs-Assignment, outs-Call, outs-Exit, outs-Return, outs-Raise, outs-RaiseAgain}
use Rattle.ctl_parse.proofs.PartViews.{view_layer, view_if, view_loop, view_while, view_for, view_block, view_of_body, view_of_item}
use Rattle.ctl_parse.proofs.ReadExpressions.{row_back, whole_row_back, whole_option_back, whole_name_back, mark_back, expression_back}
use Rattle.ctl_parse.proofs.ReadItems.{choices_back, context_back, direction_back, kind_back}

abbrev Lines : Type 0
Lines = List (Statement Identifier Identifier)

abbrev branch_of : Expression Identifier → Lines → Branch (Statement Identifier Identifier) Identifier
branch_of x ss = record { condition = x; statements = ss }

abbrev handler_from : Span → Choices Identifier → Lines → Handler (Statement Identifier Identifier) Identifier
handler_from p c ss = record { span = p; choices = c; statements = ss }

abbrev body_from : List (Item Identifier Identifier) → Lines → List (Handler (Statement Identifier Identifier) Identifier) → Body Identifier Identifier
body_from is ss hs = roll-Body Identifier Identifier (record { items = is; statements = ss; handlers = hs })

abbrev item_from : Span → ItemKind Identifier Identifier (Body Identifier Identifier) → Item Identifier Identifier
item_from p k = roll-Item Identifier Identifier (record { span = p; kind = k })

-- each is read back from what it stands for, if that is small enough
abbrev StatementBack : ℕ → Statement Identifier Identifier → Type 0
StatementBack n x = size (view_statement x) < n → read_statement_below n (view_statement x) ≡ x

abbrev BodyBack : ℕ → Body Identifier Identifier → Type 0
BodyBack n x = size (view_body x) < n → read_body_below n (view_body x) ≡ x

abbrev ItemBack : ℕ → Item Identifier Identifier → Type 0
ItemBack n x = size (view_item x) < n → read_item_below n (view_item x) ≡ x

-- the same of a node
abbrev Seen : ℕ → Node → Statement Identifier Identifier → Type 0
Seen n w x = size w < suc n → read_statement_below (suc n) w ≡ x

seen : (n : ℕ) (x : Statement Identifier Identifier) (w : Node) → view_statement x ≡ w → Seen n w x → StatementBack (suc n) x
seen n x w is h = subst (λ z. Seen n z x) (sym is) h

-- ---- statements

value_back : (x : _) → read_optional read_expression (optional view x) ≡ x
value_back x = whole_option_back view read_expression expression_back x

module _ (n : ℕ) (h : (x : Statement Identifier Identifier) → StatementBack n x) where
  lines_back : (ss : Lines) → size (row_of (map view_statement ss)) < n → map (read_statement_below n) (row_in (row_of (map view_statement ss))) ≡ ss
  lines_back ss k = row_back view_statement (read_statement_below n) n h ss k

  branch_back : (b : Branch (Statement Identifier Identifier) Identifier) → size (branch_node view_statement b) < n → read_branch (read_statement_below n) (branch_node view_statement b) ≡ b
  branch_back b k =
      let rest : size (row_of (map view_statement b.statements)) < n = omega (arith, k) in
      ap (λ x. branch_of x (map (read_statement_below n) (row_in (row_of (map view_statement b.statements))))) (expression_back b.condition)
      ∙ ap (branch_of b.condition) (lines_back b.statements rest)

  handler_back : (x : Handler (Statement Identifier Identifier) Identifier) → size (handler_node view_statement x) < n → read_handler (read_statement_below n) (handler_node view_statement x) ≡ x
  handler_back x k =
      let rest : size (row_of (map view_statement x.statements)) < n = omega (arith, k) in
      ap (λ c. handler_from x.span c (map (read_statement_below n) (row_in (row_of (map view_statement x.statements))))) (choices_back x.choices)
      ∙ ap (handler_from x.span x.choices) (lines_back x.statements rest)

  assignment_back : (p : Span) (m : Name Identifier (Expression Identifier)) (x : Expression Identifier) → Seen n (pair (at p) (tag labels.Assignment (pair (name_node view m) (view x)))) (s.Assignment p m x)
  assignment_back p m x k = ap (λ y. s.Assignment p y (read_expression (view x))) (whole_name_back m) ∙ ap (s.Assignment p m) (expression_back x)

  if_back : (p : Span) (b : Branch (Statement Identifier Identifier) Identifier) (more : List (Branch (Statement Identifier Identifier) Identifier)) (others : Lines)
      → Seen n (pair (at p) (tag labels.If (pair (pair (branch_node view_statement b) (row_of (map (branch_node view_statement) more))) (row_of (map view_statement others))))) (s.If p b more others)
  if_back p b more others k =
      let in_first_one : size (branch_node view_statement b) < n = omega (arith, k) in
      let in_more : size (row_of (map (branch_node view_statement) more)) < n = omega (arith, k) in
      let in_others : size (row_of (map view_statement others)) < n = omega (arith, k) in
      ap (λ y. s.If p y (map (read_branch (read_statement_below n)) (row_in (row_of (map (branch_node view_statement) more)))) (map (read_statement_below n) (row_in (row_of (map view_statement others))))) (branch_back b in_first_one)
      ∙ ap (λ ys. s.If p b ys (map (read_statement_below n) (row_in (row_of (map view_statement others))))) (row_back (branch_node view_statement) (read_branch (read_statement_below n)) n branch_back more in_more)
      ∙ ap (s.If p b more) (lines_back others in_others)

  loop_back : (p : Span) (ss : Lines) → Seen n (pair (at p) (tag labels.Loop (pair (tag labels.Endless none) (row_of (map view_statement ss))))) (s.Loop p ss)
  loop_back p ss k =
      let rest : size (row_of (map view_statement ss)) < n = omega (arith, k) in
      ap (s.Loop p) (lines_back ss rest)

  while_back : (p : Span) (x : Expression Identifier) (ss : Lines) → Seen n (pair (at p) (tag labels.Loop (pair (tag labels.While (view x)) (row_of (map view_statement ss))))) (s.While p x ss)
  while_back p x ss k =
      let rest : size (row_of (map view_statement ss)) < n = omega (arith, k) in
      ap (λ y. s.While p y (map (read_statement_below n) (row_in (row_of (map view_statement ss))))) (expression_back x)
      ∙ ap (s.While p x) (lines_back ss rest)

  for_back : (p : Span) (i : Identifier) (d : Direction) (low high : Expression Identifier) (ss : Lines)
      → Seen n (pair (at p) (tag labels.Loop (pair (tag labels.For (pair (identifier_node i) (pair (direction_node d) (pair (view low) (view high))))) (row_of (map view_statement ss))))) (s.For p i d low high ss)
  for_back p i d low high ss k =
      let rest : size (row_of (map view_statement ss)) < n = omega (arith, k) in
      ap (λ y. s.For p i y (read_expression (view low)) (read_expression (view high)) (map (read_statement_below n) (row_in (row_of (map view_statement ss))))) (direction_back d)
      ∙ ap (λ y. s.For p i d y (read_expression (view high)) (map (read_statement_below n) (row_in (row_of (map view_statement ss))))) (expression_back low)
      ∙ ap (λ y. s.For p i d low y (map (read_statement_below n) (row_in (row_of (map view_statement ss))))) (expression_back high)
      ∙ ap (s.For p i d low high) (lines_back ss rest)

  module _ (g : (x : Body Identifier Identifier) → BodyBack n x) where
    block_back : (p : Span) (b : Body Identifier Identifier) → Seen n (pair (at p) (tag labels.Block (view_body b))) (s.Block p b)
    block_back p b k =
        let inside : size (view_body b) < n = omega (arith, k) in
        ap (s.Block p) (g b inside)

    statement_by_layer : (x : Statement Identifier Identifier) (l : _) → roll-Statement Identifier Identifier l ≡ x → StatementBack (suc n) x
    statement_by_layer x (Statement-F.Null p) is = subst (StatementBack (suc n)) (sym (s.rolls-Null p) ∙ is) (seen n (s.Null p) _ (view_layer (s.Null p) (outs-Null p)) (λ k. refl))
    statement_by_layer x (Statement-F.Assignment p m y) is = subst (StatementBack (suc n)) (sym (s.rolls-Assignment p m y) ∙ is) (seen n (s.Assignment p m y) _ (view_layer (s.Assignment p m y) (outs-Assignment p m y)) (assignment_back p m y))
    statement_by_layer x (Statement-F.Call p m) is = subst (StatementBack (suc n)) (sym (s.rolls-Call p m) ∙ is) (seen n (s.Call p m) _ (view_layer (s.Call p m) (outs-Call p m)) (λ k. ap (s.Call p) (whole_name_back m)))
    statement_by_layer x (Statement-F.Exit p y) is = subst (StatementBack (suc n)) (sym (s.rolls-Exit p y) ∙ is) (seen n (s.Exit p y) _ (view_layer (s.Exit p y) (outs-Exit p y)) (λ k. ap (s.Exit p) (value_back y)))
    statement_by_layer x (Statement-F.Return p y) is = subst (StatementBack (suc n)) (sym (s.rolls-Return p y) ∙ is) (seen n (s.Return p y) _ (view_layer (s.Return p y) (outs-Return p y)) (λ k. ap (s.Return p) (value_back y)))
    statement_by_layer x (Statement-F.Raise p m) is = subst (StatementBack (suc n)) (sym (s.rolls-Raise p m) ∙ is) (seen n (s.Raise p m) _ (view_layer (s.Raise p m) (outs-Raise p m)) (λ k. ap (s.Raise p) (mark_back m)))
    statement_by_layer x (Statement-F.RaiseAgain p) is = subst (StatementBack (suc n)) (sym (s.rolls-RaiseAgain p) ∙ is) (seen n (s.RaiseAgain p) _ (view_layer (s.RaiseAgain p) (outs-RaiseAgain p)) (λ k. refl))
    statement_by_layer x (Statement-F.If p b more others) is = subst (StatementBack (suc n)) (sym (s.rolls-If p b more others) ∙ is) (seen n (s.If p b more others) _ (view_if p b more others) (if_back p b more others))
    statement_by_layer x (Statement-F.Loop p ss) is = subst (StatementBack (suc n)) (sym (s.rolls-Loop p ss) ∙ is) (seen n (s.Loop p ss) _ (view_loop p ss) (loop_back p ss))
    statement_by_layer x (Statement-F.While p y ss) is = subst (StatementBack (suc n)) (sym (s.rolls-While p y ss) ∙ is) (seen n (s.While p y ss) _ (view_while p y ss) (while_back p y ss))
    statement_by_layer x (Statement-F.For p i d low high ss) is = subst (StatementBack (suc n)) (sym (s.rolls-For p i d low high ss) ∙ is) (seen n (s.For p i d low high ss) _ (view_for p i d low high ss) (for_back p i d low high ss))
    statement_by_layer x (Statement-F.Block p b) is = subst (StatementBack (suc n)) (sym (s.rolls-Block p b) ∙ is) (seen n (s.Block p b) _ (view_block p b) (block_back p b))

    -- ---- items

    kind_in_item_back : (p : Span) (t : ItemKind Identifier Identifier (Body Identifier Identifier)) → size (pair (at p) (item_kind_node view_body t)) < suc n → read_item_below (suc n) (pair (at p) (item_kind_node view_body t)) ≡ item_from p t
    kind_in_item_back p t k = ap (item_from p) (kind_back view_body (read_body_below n) t (λ z b is. g b (in_body z b is)))
      where
        in_body : (z : Specification Identifier Identifier) (b : Body Identifier Identifier) → t ≡ item.Body z b → size (view_body b) < n
        in_body z b is = let whole : size (pair (at p) (item_kind_node view_body (item.Body z b))) < suc n = subst (λ q. size (pair (at p) (item_kind_node view_body q)) < suc n) is k in omega (arith, whole)

    item_of_parts_back : (p : Span) (t : ItemKind Identifier Identifier (Body Identifier Identifier)) → ItemBack (suc n) (item_from p t)
    item_of_parts_back p t = subst (λ w. size w < suc n → read_item_below (suc n) w ≡ item_from p t) (sym (view_of_item p t)) (kind_in_item_back p t)

    item_by_layer : (x : Item Identifier Identifier) → ItemBack (suc n) x
    item_by_layer x = subst (ItemBack (suc n)) (roll-out-Item Identifier Identifier x) (item_of_parts_back (out-Item Identifier Identifier x).span (out-Item Identifier Identifier x).kind)

  -- ---- bodies

  module _ (f : (x : Item Identifier Identifier) → ItemBack n x) where
    parts_back : (is : List (Item Identifier Identifier)) (ss : Lines) (hs : List (Handler (Statement Identifier Identifier) Identifier)) → size (pair (row_of (map view_item is)) (pair (row_of (map view_statement ss)) (row_of (map (handler_node view_statement) hs)))) < suc n
        → read_body_below (suc n) (pair (row_of (map view_item is)) (pair (row_of (map view_statement ss)) (row_of (map (handler_node view_statement) hs)))) ≡ body_from is ss hs
    parts_back is ss hs k =
        let in_items : size (row_of (map view_item is)) < n = omega (arith, k) in
        let in_statements : size (row_of (map view_statement ss)) < n = omega (arith, k) in
        let in_handlers : size (row_of (map (handler_node view_statement) hs)) < n = omega (arith, k) in
        ap (λ y. body_from y (map (read_statement_below n) (row_in (row_of (map view_statement ss)))) (map (read_handler (read_statement_below n)) (row_in (row_of (map (handler_node view_statement) hs))))) (row_back view_item (read_item_below n) n f is in_items)
        ∙ ap (λ y. body_from is y (map (read_handler (read_statement_below n)) (row_in (row_of (map (handler_node view_statement) hs))))) (lines_back ss in_statements)
        ∙ ap (body_from is ss) (row_back (handler_node view_statement) (read_handler (read_statement_below n)) n handler_back hs in_handlers)

    body_of_parts_back : (is : List (Item Identifier Identifier)) (ss : Lines) (hs : List (Handler (Statement Identifier Identifier) Identifier)) → BodyBack (suc n) (body_from is ss hs)
    body_of_parts_back is ss hs = subst (λ w. size w < suc n → read_body_below (suc n) w ≡ body_from is ss hs) (sym (view_of_body is ss hs)) (parts_back is ss hs)

    body_by_layer : (x : Body Identifier Identifier) → BodyBack (suc n) x
    body_by_layer x = subst (BodyBack (suc n)) (roll-out-Body Identifier Identifier x) (body_of_parts_back (out-Body Identifier Identifier x).items (out-Body Identifier Identifier x).statements (out-Body Identifier Identifier x).handlers)

-- ---- the whole

mutual
  statement_below_back : (n : ℕ) (x : Statement Identifier Identifier) → StatementBack n x
  statement_below_back zero x k = absurd (omega (arith, k))
  statement_below_back (suc n) x k = statement_by_layer n (statement_below_back n) (body_below_back n) x (out-Statement Identifier Identifier x) (roll-out-Statement Identifier Identifier x) k

  body_below_back : (n : ℕ) (x : Body Identifier Identifier) → BodyBack n x
  body_below_back zero x k = absurd (omega (arith, k))
  body_below_back (suc n) x k = body_by_layer n (statement_below_back n) (item_below_back n) x k

  item_below_back : (n : ℕ) (x : Item Identifier Identifier) → ItemBack n x
  item_below_back zero x k = absurd (omega (arith, k))
  item_below_back (suc n) x k = item_by_layer n (statement_below_back n) (body_below_back n) x k

body_back : (x : Body Identifier Identifier) → read_body (view_body x) ≡ x
body_back x = body_below_back (suc (size (view_body x))) x (omega arith)

abbrev tree_from : List Context → Span → Identifier → Body Identifier Identifier → Tree Identifier Identifier
tree_from cs p i b = record { contexts = cs; span = p; name = i; body = b }

pub tree_back : (t : Tree Identifier Identifier) → read_tree (tree_node t) ≡ t
tree_back t =
    ap (λ cs. tree_from cs t.span t.name (read_body (view_body t.body))) (whole_row_back context_node read_context context_back t.contexts)
    ∙ ap (tree_from t.contexts t.span t.name) (body_back t.body)

pub one_tree : (a b : Tree Identifier Identifier) → tree_node a ≡ tree_node b → a ≡ b
one_tree a b h = sym (tree_back a) ∙ ap read_tree h ∙ tree_back b

pub spells_one_tree : SpellsOneTree
spells_one_tree left more a b ts x y = one_tree a b (x.2 ∙ ap kept_program (one_node left more x.0 y.0 ts x.1 y.1) ∙ sym y.2)
