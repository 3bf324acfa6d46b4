-- The induction over the tree: what stands in it is well typed.
use Rattle.std.proofs.Common.{◌≡◌, refl, sym, subst, List, [], ◌∷◌, map}
use Rattle.ctl_tree.specs.declared.span.Span.{Span}
use Rattle.ctl_syntax.specs.declared.denoted.Definition.{Definition}
use Rattle.ctl_syntax.specs.declared.denoted.Use.{Use}
use Rattle.ctl_syntax.specs.declared.expression.Expression.{Expression}
use Rattle.ctl_syntax.specs.declared.item.Association.{Association}
use Rattle.ctl_syntax.specs.declared.item.Taggedness.{Taggedness}
use Rattle.ctl_syntax.specs.declared.item.Body.{Body, roll-Body, fold-roll-Body}
use Rattle.ctl_syntax.specs.declared.item.Branch.{Branch}
use Rattle.ctl_syntax.specs.declared.item.Definition.{Definition as Type_definition}
use Rattle.ctl_syntax.specs.declared.item.Definition.TheVariants as definition
use Rattle.ctl_syntax.specs.declared.item.Direction.{Direction}
use Rattle.ctl_syntax.specs.declared.item.Handler.{Handler}
use Rattle.ctl_syntax.specs.declared.item.Item.{Item, roll-Item, fold-roll-Item}
use Rattle.ctl_syntax.specs.declared.item.ItemKind.TheVariants as item
use Rattle.ctl_syntax.specs.declared.item.Objects.{Objects}
use Rattle.ctl_syntax.specs.declared.item.Specification.{Specification}
use Rattle.ctl_syntax.specs.declared.item.Statement.{Statement, roll-Statement, fold-roll-Statement}
use Rattle.ctl_syntax.specs.declared.item.Statement.TheOpen.{Statement-F}
use Rattle.ctl_syntax.specs.declared.item.Statement.TheVariants as s
use Rattle.ctl_syntax.specs.declared.item.Statement.TheVariants.{rolls-If, rolls-Loop, rolls-While, rolls-For, rolls-Block}
use Rattle.ctl_syntax.specs.declared.name.Mark.{Mark}
use Rattle.ctl_draft.specs.declared.draft.Around.{Around}
use Rattle.ctl_types.specs.Elaboration as spec
use Rattle.ctl_types.specs.Elaboration.{item_judged, statement, body}
use Rattle.ctl_types.specs.Parts.{branch_of, handler_of}
use Rattle.ctl_sound.specs.Known.{All}
use Rattle.ctl_sound.proofs.Plain as plain
use Rattle.ctl_sound.proofs.Plain.{Layer, PlainItems, Plain, PlainEach, PlainBranches, PlainHandlers, PlainBody}
use Rattle.ctl_sound.proofs.Compounds.{SaysRight, BranchRight, HandlerRight, branch_walk, conditional_walk, endless_walk, while_walk, counting_walk, judged_parts, simple_right, handler_walk}
use Rattle.ctl_sound.proofs.Objects.{objects_come, exceptions_declared}
use Rattle.ctl_sound.proofs.Accesses.{incomplete_leads, access_defined, pool_clause_leads, instance_leads}
use Rattle.ctl_sound.proofs.Records.{extension_defined, record_defined}
use Rattle.ctl_sound.proofs.Bodies.{ItemRight, DoesRight, body_right, block_right}
use Rattle.ctl_sound.proofs.BodyItems.{declaration_leads, body_item_leads}

-- One layer of the tree ----------------------------------------------------------------------------------

statement_if : (p : Span) (b : Branch (Statement Definition Use) Use) (bs : List (Branch (Statement Definition Use) Use)) (xs : List (Statement Definition Use)) → statement (s.If p b bs xs) ≡ spec.statement_step (Statement-F.If p (branch_of b) (map branch_of bs) (map statement xs))
statement_if p b bs xs = rw (← rolls-If, fold-roll-Statement) refl

statement_loop : (p : Span) (xs : List (Statement Definition Use)) → statement (s.Loop p xs) ≡ spec.statement_step (Statement-F.Loop p (map statement xs))
statement_loop p xs = rw (← rolls-Loop, fold-roll-Statement) refl

statement_while : (p : Span) (e : Expression Use) (xs : List (Statement Definition Use)) → statement (s.While p e xs) ≡ spec.statement_step (Statement-F.While p e (map statement xs))
statement_while p e xs = rw (← rolls-While, fold-roll-Statement) refl

statement_for : (p : Span) (n : Definition) (w : Direction) (l h : Expression Use) (xs : List (Statement Definition Use)) → statement (s.For p n w l h xs) ≡ spec.statement_step (Statement-F.For p n w l h (map statement xs))
statement_for p n w l h xs = rw (← rolls-For, fold-roll-Statement) refl

statement_block : (p : Span) (b : Body Definition Use) → statement (s.Block p b) ≡ spec.statement_step (Statement-F.Block p (body b))
statement_block p b = rw (← rolls-Block, fold-roll-Statement) refl

statement_simple : (y : Layer) → statement (roll-Statement Definition Use y) ≡ spec.statement_step (judged_parts y)
statement_simple y = rw fold-roll-Statement refl

item_objects : (p : Span) (o : Objects Definition Use) → item_judged (roll-Item Definition Use (record { span = p; kind = item.Objects o })) ≡ spec.item_step (record { span = p; kind = item.Objects o })
item_objects p o = rw fold-roll-Item refl

item_exceptions : (p : Span) (ns : List Definition) → item_judged (roll-Item Definition Use (record { span = p; kind = item.Exceptions ns })) ≡ spec.item_step (record { span = p; kind = item.Exceptions ns })
item_exceptions p ns = rw fold-roll-Item refl

item_instance : (p : Span) (n : Definition) (m : Mark Use) (as' : List (Association Use)) → item_judged (roll-Item Definition Use (record { span = p; kind = item.Instance n m as' })) ≡ spec.item_step (record { span = p; kind = item.Instance n m as' })
item_instance p n m as' = rw fold-roll-Item refl

item_incomplete : (p : Span) (n : Definition) (t : Taggedness) → item_judged (roll-Item Definition Use (record { span = p; kind = item.Incomplete n t })) ≡ spec.item_step (record { span = p; kind = item.Incomplete n t })
item_incomplete p n t = rw fold-roll-Item refl

item_clause : (p : Span) (u : Use) (m : Mark Use) → item_judged (roll-Item Definition Use (record { span = p; kind = item.StoragePool u m })) ≡ spec.item_step (record { span = p; kind = item.StoragePool u m })
item_clause p u m = rw fold-roll-Item refl

item_definition : (p : Span) (n : Definition) (def : Type_definition Use) → item_judged (roll-Item Definition Use (record { span = p; kind = item.«Type» n def })) ≡ spec.item_step (record { span = p; kind = item.«Type» n def })
item_definition p n def = rw fold-roll-Item refl

item_declaration : (p : Span) (x : Specification Definition Use) → item_judged (roll-Item Definition Use (record { span = p; kind = item.Declaration x })) ≡ spec.item_step (record { span = p; kind = item.Declaration x })
item_declaration p x = rw fold-roll-Item refl

item_body : (p : Span) (x : Specification Definition Use) (b : Body Definition Use) → item_judged (roll-Item Definition Use (record { span = p; kind = item.Body x b })) ≡ spec.item_step (record { span = p; kind = item.Body x (body b) })
item_body p x b = rw fold-roll-Item refl

body_parts : (is' : List (Item Definition Use)) (ss : List (Statement Definition Use)) (hs : List (Handler (Statement Definition Use) Use)) →
    body (roll-Body Definition Use (record { items = is'; statements = ss; handlers = hs })) ≡ spec.body_step (record { items = map item_judged is'; statements = map statement ss; handlers = map handler_of hs })
body_parts is' ss hs = rw fold-roll-Body refl

-- Trees ----------------------------------------------------------------------------------------------------------

mutual
  pub plain_right : (x : Statement Definition Use) → Plain x → (a : Around) → SaysRight a (statement x)
  plain_right _ (plain.simple y h) a = subst (SaysRight a) (sym (statement_simple y)) (simple_right a y h)
  plain_right _ (plain.choose {p = p} {first = first} {more = more} {otherwise = otherwise} bs os) a = subst (SaysRight a) (sym (statement_if p first more otherwise)) (conditional_walk a (branch_of first) (map branch_of more) (map statement otherwise) (branches_right (first ∷ more) bs a) (each_right otherwise os a))
  plain_right _ (plain.loop {p = p} {ss = ss} h) a = subst (SaysRight a) (sym (statement_loop p ss)) (endless_walk a (map statement ss) (each_right ss h (spec.in_loop a)))
  plain_right _ (plain.while {p = p} {c = c} {ss = ss} h) a = subst (SaysRight a) (sym (statement_while p c ss)) (while_walk a c (map statement ss) (each_right ss h (spec.in_loop a)))
  plain_right _ (plain.for {p = p} {name = name} {way = way} {low = low} {high = high} {ss = ss} h) a = subst (SaysRight a) (sym (statement_for p name way low high ss)) (counting_walk a way low high (map statement ss) (each_right ss h (spec.in_loop a)))
  plain_right _ (plain.block {p = p} {b = b} h) a = subst (SaysRight a) (sym (statement_block p b)) (block_right a p (body b) (plain_body_right b h))

  each_right : (ss : List (Statement Definition Use)) → PlainEach ss → (a : Around) → All (SaysRight a) (map statement ss)
  each_right [] plain.no_more_statements a = tt
  each_right (x ∷ ss) (plain.one_more_statement h more) a = (plain_right x h a, each_right ss more a)

  branches_right : (bs : List (Branch (Statement Definition Use) Use)) → PlainBranches bs → (a : Around) → All (BranchRight a) (map branch_of bs)
  branches_right [] plain.no_more_branches a = tt
  branches_right (b ∷ bs) (plain.one_more_branch {c = c} {ss = ss} h more) a = (branch_walk a c (map statement ss) (each_right ss h a), branches_right bs more a)

  handlers_right : (hs : List (Handler (Statement Definition Use) Use)) → PlainHandlers hs → (a : Around) (place : Span) → All (HandlerRight a place) (map handler_of hs)
  handlers_right [] plain.no_more_handlers a place = tt
  handlers_right (x ∷ hs) (plain.one_more_handler {p = p} {c = c} {ss = ss} h more) a place = (handler_walk a place p c (map statement ss) (each_right ss h (spec.in_handler a)), handlers_right hs more a place)

  items_right : (is' : List (Item Definition Use)) → PlainItems is' → All ItemRight (map item_judged is')
  items_right [] plain.no_more_items = tt
  items_right (i ∷ is') (plain.objects p os more) = (subst ItemRight (sym (item_objects p os)) (λ o a d. objects_come a p os o d), items_right is' more)
  items_right (i ∷ is') (plain.exceptions p ns more) = (subst ItemRight (sym (item_exceptions p ns)) (λ o a d. exceptions_declared a ns d), items_right is' more)
  items_right (i ∷ is') (plain.extension p n m cs more) = (subst ItemRight (sym (item_definition p n (definition.Extension m cs))) (λ o a d. extension_defined a p n d m cs), items_right is' more)
  items_right (i ∷ is') (plain.record_type p n l cs more) = (subst ItemRight (sym (item_definition p n (definition.Record l cs))) (λ o a d. record_defined a p n d l cs), items_right is' more)
  items_right (i ∷ is') (plain.access_type p n g m c pool more) = (subst ItemRight (sym (item_definition p n (definition.Access g m c pool))) (λ o a d. access_defined a p n g m c pool d), items_right is' more)
  items_right (i ∷ is') (plain.incomplete p n t more) = (subst ItemRight (sym (item_incomplete p n t)) (λ o a d. incomplete_leads a n t d), items_right is' more)
  items_right (i ∷ is') (plain.storage_pool p u m more) = (subst ItemRight (sym (item_clause p u m)) (λ o a d. pool_clause_leads a p u m d), items_right is' more)
  items_right (i ∷ is') (plain.instance p n m as' more) = (subst ItemRight (sym (item_instance p n m as')) (λ o a d. instance_leads a p n m as' d), items_right is' more)
  items_right (i ∷ is') (plain.declaration p x more) = (subst ItemRight (sym (item_declaration p x)) (λ o a d. declaration_leads a p x d), items_right is' more)
  items_right (i ∷ is') (plain.subprogram p x b h more) = (subst ItemRight (sym (item_body p x b)) (body_item_leads p x (body b) (plain_body_right b h)), items_right is' more)

  pub plain_body_right : (b : Body Definition Use) → PlainBody b → DoesRight (body b)
  plain_body_right _ (plain.body is' ss hs pi ps ph) = subst DoesRight (sym (body_parts is' ss hs))
      (body_right (record { items = map item_judged is'; statements = map statement ss; handlers = map handler_of hs }) (each_right ss ps) (handlers_right hs ph) (items_right is' pi))
