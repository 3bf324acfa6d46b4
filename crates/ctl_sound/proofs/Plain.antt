-- Trees by what stands in them, along which the induction over the tree goes (3.11, 5.1, 6.3, 11.2); each tree is one.
use Rattle.std.proofs.Common.{◌≡◌, refl, sym, ap, subst, List, [], ◌∷◌, map, Option}
use Rattle.ctl_tree.specs.declared.span.Span.{Span}
use Rattle.ctl_syntax.specs.declared.denoted.Definition.{Definition}
use Rattle.ctl_syntax.specs.declared.denoted.Use.{Use}
use Rattle.ctl_syntax.specs.declared.expression.Expression.{Expression}
use Rattle.ctl_syntax.specs.declared.item.Association.{Association}
use Rattle.ctl_syntax.specs.declared.item.Coverage.{Coverage}
use Rattle.ctl_syntax.specs.declared.item.Generality.{Generality}
use Rattle.ctl_syntax.specs.declared.item.Taggedness.{Taggedness}
use Rattle.ctl_syntax.specs.declared.item.Body.{Body, Body-F, roll-Body, map-Body, ind-Body}
use Rattle.ctl_syntax.specs.declared.item.Branch.{Branch}
use Rattle.ctl_syntax.specs.declared.item.Choices.{Choices}
use Rattle.ctl_syntax.specs.declared.item.Components.{Components}
use Rattle.ctl_syntax.specs.declared.item.Definition.TheVariants as definition
use Rattle.ctl_syntax.specs.declared.item.Limitation.{Limitation}
use Rattle.ctl_syntax.specs.declared.item.Direction.{Direction}
use Rattle.ctl_syntax.specs.declared.item.Handler.{Handler}
use Rattle.ctl_syntax.specs.declared.item.Item.{Item, Item-F, roll-Item, map-Item}
use Rattle.ctl_syntax.specs.declared.item.ItemKind.{ItemKind}
use Rattle.ctl_syntax.specs.declared.item.ItemKind.TheVariants as item
use Rattle.ctl_syntax.specs.declared.item.Objects.{Objects}
use Rattle.ctl_syntax.specs.declared.item.Specification.{Specification}
use Rattle.ctl_syntax.specs.declared.item.Definition.{Definition as Type_definition}
use Rattle.ctl_syntax.specs.declared.item.Statement.{Statement, roll-Statement, map-Statement}
use Rattle.ctl_syntax.specs.declared.item.Statement.TheOpen.{Statement-F}
use Rattle.ctl_syntax.specs.declared.item.Statement.TheVariants.{rolls-If, rolls-Loop, rolls-While, rolls-For, rolls-Block}
use Rattle.ctl_syntax.specs.declared.item.Statement.TheVariants as s
use Rattle.ctl_syntax.specs.declared.name.Mark.{Mark}

-- one layer of a statement
abbrev pub Layer : Type 0
Layer = Statement-F Definition Use (Statement Definition Use) (Body Definition Use) (Item Definition Use)

-- it holds no statement
abbrev pub IsSimple : Layer → Type 0
IsSimple (Statement-F.If p first more otherwise) = ⊥
IsSimple (Statement-F.Loop p ss) = ⊥
IsSimple (Statement-F.While p c ss) = ⊥
IsSimple (Statement-F.For p name way low high ss) = ⊥
IsSimple (Statement-F.Block p b) = ⊥
IsSimple y = Unit {0}

mutual
  pub data PlainItems : List (Item Definition Use) → Type 0 where
    no_more_items : PlainItems []
    objects : (p : Span) (os : Objects Definition Use) {more : List (Item Definition Use)} → PlainItems more → PlainItems (roll-Item Definition Use (record { span = p; kind = item.Objects os }) ∷ more)
    exceptions : (p : Span) (names : List Definition) {more : List (Item Definition Use)} → PlainItems more → PlainItems (roll-Item Definition Use (record { span = p; kind = item.Exceptions names }) ∷ more)
    record_type : (p : Span) (name : Definition) (l : Limitation) (cs : List (Components Use)) {more : List (Item Definition Use)} → PlainItems more → PlainItems (roll-Item Definition Use (record { span = p; kind = item.«Type» name (definition.Record l cs) }) ∷ more)
    extension : (p : Span) (name : Definition) (parent : Mark Use) (cs : List (Components Use)) {more : List (Item Definition Use)} → PlainItems more → PlainItems (roll-Item Definition Use (record { span = p; kind = item.«Type» name (definition.Extension parent cs) }) ∷ more)
    access_type : (p : Span) (name : Definition) (g : Generality) (m : Mark Use) (c : Coverage) (pool : Option (Mark Use)) {more : List (Item Definition Use)} → PlainItems more → PlainItems (roll-Item Definition Use (record { span = p; kind = item.«Type» name (definition.Access g m c pool) }) ∷ more)
    incomplete : (p : Span) (name : Definition) (t : Taggedness) {more : List (Item Definition Use)} → PlainItems more → PlainItems (roll-Item Definition Use (record { span = p; kind = item.Incomplete name t }) ∷ more)
    storage_pool : (p : Span) (u : Use) (m : Mark Use) {more : List (Item Definition Use)} → PlainItems more → PlainItems (roll-Item Definition Use (record { span = p; kind = item.StoragePool u m }) ∷ more)
    instance : (p : Span) (name : Definition) (m : Mark Use) (as' : List (Association Use)) {more : List (Item Definition Use)} → PlainItems more → PlainItems (roll-Item Definition Use (record { span = p; kind = item.Instance name m as' }) ∷ more)
    declaration : (p : Span) (x : Specification Definition Use) {more : List (Item Definition Use)} → PlainItems more → PlainItems (roll-Item Definition Use (record { span = p; kind = item.Declaration x }) ∷ more)
    subprogram : (p : Span) (x : Specification Definition Use) (b : Body Definition Use) {more : List (Item Definition Use)} → PlainBody b → PlainItems more → PlainItems (roll-Item Definition Use (record { span = p; kind = item.Body x b }) ∷ more)

  pub data Plain : Statement Definition Use → Type 0 where
    simple : (y : Layer) → IsSimple y → Plain (roll-Statement Definition Use y)
    choose : {p : Span} {first : Branch (Statement Definition Use) Use} {more : List (Branch (Statement Definition Use) Use)} {otherwise : List (Statement Definition Use)} →
        PlainBranches (first ∷ more) → PlainEach otherwise → Plain (s.If p first more otherwise)
    loop : {p : Span} {ss : List (Statement Definition Use)} → PlainEach ss → Plain (s.Loop p ss)
    while : {p : Span} {c : Expression Use} {ss : List (Statement Definition Use)} → PlainEach ss → Plain (s.While p c ss)
    for : {p : Span} {name : Definition} {way : Direction} {low high : Expression Use} {ss : List (Statement Definition Use)} → PlainEach ss → Plain (s.For p name way low high ss)
    block : {p : Span} {b : Body Definition Use} → PlainBody b → Plain (s.Block p b)

  pub data PlainEach : List (Statement Definition Use) → Type 0 where
    no_more_statements : PlainEach []
    one_more_statement : {x : Statement Definition Use} {more : List (Statement Definition Use)} → Plain x → PlainEach more → PlainEach (x ∷ more)

  pub data PlainBranches : List (Branch (Statement Definition Use) Use) → Type 0 where
    no_more_branches : PlainBranches []
    one_more_branch : {c : Expression Use} {ss : List (Statement Definition Use)} {more : List (Branch (Statement Definition Use) Use)} →
        PlainEach ss → PlainBranches more → PlainBranches (record { condition = c; statements = ss } ∷ more)

  pub data PlainHandlers : List (Handler (Statement Definition Use) Use) → Type 0 where
    no_more_handlers : PlainHandlers []
    one_more_handler : {p : Span} {c : Choices Use} {ss : List (Statement Definition Use)} {more : List (Handler (Statement Definition Use) Use)} →
        PlainEach ss → PlainHandlers more → PlainHandlers (record { span = p; choices = c; statements = ss } ∷ more)

  pub data PlainBody : Body Definition Use → Type 0 where
    body : (is' : List (Item Definition Use)) (ss : List (Statement Definition Use)) (hs : List (Handler (Statement Definition Use) Use)) →
        PlainItems is' → PlainEach ss → PlainHandlers hs → PlainBody (roll-Body Definition Use (record { items = is'; statements = ss; handlers = hs }))

-- Each tree is one -----------------------------------------------------------------------------------------

-- an item in front of others
abbrev PlainItem : Item Definition Use → Type 0
PlainItem i = (more : List (Item Definition Use)) → PlainItems more → PlainItems (i ∷ more)

abbrev SureStatement : Type 0
SureStatement = (x : Statement Definition Use) × Plain x

abbrev SureBody : Type 0
SureBody = (b : Body Definition Use) × PlainBody b

abbrev SureItem : Type 0
SureItem = (i : Item Definition Use) × PlainItem i

abbrev bare_statement : Statement-F Definition Use SureStatement SureBody SureItem → Statement-F Definition Use (Statement Definition Use) (Body Definition Use) (Item Definition Use)
bare_statement y = map-Statement Definition Use SureStatement SureBody SureItem (Statement Definition Use) (Body Definition Use) (Item Definition Use) (λ z. z.0) (λ z. z.0) (λ z. z.0) y

abbrev bare_body : Body-F Definition Use SureStatement SureBody SureItem → Body-F Definition Use (Statement Definition Use) (Body Definition Use) (Item Definition Use)
bare_body y = map-Body Definition Use SureStatement SureBody SureItem (Statement Definition Use) (Body Definition Use) (Item Definition Use) (λ z. z.0) (λ z. z.0) (λ z. z.0) y

abbrev bare_item : Item-F Definition Use SureStatement SureBody SureItem → Item-F Definition Use (Statement Definition Use) (Body Definition Use) (Item Definition Use)
bare_item y = map-Item Definition Use SureStatement SureBody SureItem (Statement Definition Use) (Body Definition Use) (Item Definition Use) (λ z. z.0) (λ z. z.0) (λ z. z.0) y

abbrev bare_branch : Branch SureStatement Use → Branch (Statement Definition Use) Use
bare_branch b = record { condition = b.condition; statements = map (λ z. z.0) b.statements }

abbrev bare_handler : Handler SureStatement Use → Handler (Statement Definition Use) Use
bare_handler h = record { span = h.span; choices = h.choices; statements = map (λ z. z.0) h.statements }

abbrev with_branch : Branch (Statement Definition Use) Use → Statement-F Definition Use (Statement Definition Use) (Body Definition Use) (Item Definition Use) → Statement-F Definition Use (Statement Definition Use) (Body Definition Use) (Item Definition Use)
with_branch b (Statement-F.If p first more otherwise) = Statement-F.If p first (b ∷ more) otherwise
with_branch b y = y

if_layer : (p : Span) (first : Branch SureStatement Use) (more : List (Branch SureStatement Use)) (otherwise : List SureStatement) → bare_statement (Statement-F.If p first more otherwise) ≡ Statement-F.If p (bare_branch first) (map bare_branch more) (map (λ z. z.0) otherwise)
if_layer p first [] otherwise = refl
if_layer p first (b ∷ more) otherwise = ap (with_branch (bare_branch b)) (if_layer p first more otherwise)

body_layer : (is' : List SureItem) (ss : List SureStatement) (hs : List (Handler SureStatement Use)) → bare_body (record { items = is'; statements = ss; handlers = hs }) ≡ record { items = map (λ z. z.0) is'; statements = map (λ z. z.0) ss; handlers = map bare_handler hs }
body_layer is' ss [] = refl
body_layer is' ss (h ∷ hs) = ap (with_handler (bare_handler h)) (body_layer is' ss hs)
  where
    with_handler : Handler (Statement Definition Use) Use → Body-F Definition Use (Statement Definition Use) (Body Definition Use) (Item Definition Use) → Body-F Definition Use (Statement Definition Use) (Body Definition Use) (Item Definition Use)
    with_handler g b = record { items = b.items; statements = b.statements; handlers = g ∷ b.handlers }

each_plain : (xs : List SureStatement) → PlainEach (map (λ z. z.0) xs)
each_plain [] = no_more_statements
each_plain (x ∷ xs) = one_more_statement x.1 (each_plain xs)

branches_plain : (bs : List (Branch SureStatement Use)) → PlainBranches (map bare_branch bs)
branches_plain [] = no_more_branches
branches_plain (b ∷ bs) = one_more_branch (each_plain b.statements) (branches_plain bs)

handlers_plain : (hs : List (Handler SureStatement Use)) → PlainHandlers (map bare_handler hs)
handlers_plain [] = no_more_handlers
handlers_plain (h ∷ hs) = one_more_handler (each_plain h.statements) (handlers_plain hs)

items_plain : (is' : List SureItem) → PlainItems (map (λ z. z.0) is')
items_plain [] = no_more_items
items_plain (i ∷ is') = i.1 (map (λ z. z.0) is') (items_plain is')

statement_plain : (y : Statement-F Definition Use SureStatement SureBody SureItem) → Plain (roll-Statement Definition Use (bare_statement y))
statement_plain (Statement-F.If p first more otherwise) = subst (λ z. Plain (roll-Statement Definition Use z)) (sym (if_layer p first more otherwise)) (rw rolls-If (choose (branches_plain (first ∷ more)) (each_plain otherwise)))
statement_plain (Statement-F.Loop p ss) = rw rolls-Loop (loop (each_plain ss))
statement_plain (Statement-F.While p c ss) = rw rolls-While (while (each_plain ss))
statement_plain (Statement-F.For p name way low high ss) = rw rolls-For (for (each_plain ss))
statement_plain (Statement-F.Block p b) = rw rolls-Block (block b.1)
statement_plain y = simple (bare_statement y) tt

body_plain : (y : Body-F Definition Use SureStatement SureBody SureItem) → PlainBody (roll-Body Definition Use (bare_body y))
body_plain y = subst (λ z. PlainBody (roll-Body Definition Use z)) (sym (body_layer y.items y.statements y.handlers)) (body (map (λ z. z.0) y.items) (map (λ z. z.0) y.statements) (map bare_handler y.handlers) (items_plain y.items) (each_plain y.statements) (handlers_plain y.handlers))

item_plain : (y : Item-F Definition Use SureStatement SureBody SureItem) → PlainItem (roll-Item Definition Use (bare_item y))
item_plain y = by_kind y.span y.kind
  where
    by_definition : (p : Span) (name : Definition) (def : Type_definition Use) → PlainItem (roll-Item Definition Use (record { span = p; kind = item.«Type» name def }))
    by_definition p name (definition.Record l cs) more h = record_type p name l cs h
    by_definition p name (definition.Extension m cs) more h = extension p name m cs h
    by_definition p name (definition.Access g m c pool) more h = access_type p name g m c pool h

    by_kind : (p : Span) (k : ItemKind Definition Use SureBody) → PlainItem (roll-Item Definition Use (bare_item (record { span = p; kind = k })))
    by_kind p (item.Declaration x) more h = declaration p x h
    by_kind p (item.Body x b) more h = subprogram p x b.0 b.1 h
    by_kind p (item.Instance name m as') more h = instance p name m as' h
    by_kind p (item.Incomplete name t) more h = incomplete p name t h
    by_kind p (item.«Type» name def) more h = by_definition p name def more h
    by_kind p (item.StoragePool u m) more h = storage_pool p u m h
    by_kind p (item.Exceptions names) more h = exceptions p names h
    by_kind p (item.Objects os) more h = objects p os h

pub every_body : (b : Body Definition Use) → PlainBody b
every_body = ind-Body Definition Use Plain PlainBody PlainItem
    (λ x y is'. subst (λ z. Plain (roll-Statement Definition Use z)) is' (statement_plain y))
    (λ x y is'. subst (λ z. PlainBody (roll-Body Definition Use z)) is' (body_plain y))
    (λ x y is'. subst (λ z. PlainItem (roll-Item Definition Use z)) is' (item_plain y))
