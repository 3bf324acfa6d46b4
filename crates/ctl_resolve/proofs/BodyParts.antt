-- What the naming of a body is, by the naming of its parts.
use Rattle.std.proofs.Common.{◌≡◌, refl, ap, ◌∙◌, List, [], ◌∷◌, map}
use Rattle.ctl_syntax.specs.declared.denoted.Definition.{Definition}
use Rattle.ctl_syntax.specs.declared.denoted.Use.{Use}
use Rattle.ctl_syntax.specs.declared.name.Identifier.{Identifier}
use Rattle.ctl_syntax.specs.declared.item.Handler.{Handler}
use Rattle.ctl_syntax.specs.declared.item.Item.{Item}
use Rattle.ctl_syntax.specs.declared.item.Statement.{Statement}
use Rattle.ctl_syntax.specs.declared.item.Body.{Body, roll-Body, out-Body, fold_out-Body}
use Rattle.ctl_resolve.specs.declared.view.View.{View}
use Rattle.ctl_resolve.specs.Naming.{pure, then_by, ◌>>=◌, after, each}
use Rattle.ctl_resolve.specs.Parts.{Named_statement, Named_body, Named_item, step_statement, step_body, step_item, item_of, statement, statements, body_of, handler, handler_parts, named_handler, note_unfinished, note_choices, chosen_in, chosen_by, Chosen, in_view}
use Rattle.ctl_resolve.proofs.Each.{each_map}

chosen_parts : (hs : List (Handler (Statement Identifier Identifier) Identifier)) (c : Chosen) → chosen_in (map handler_parts hs) c ≡ chosen_in hs c
chosen_parts [] c = refl
chosen_parts (h ∷ hs) c = chosen_parts hs (chosen_by h.choices c)

noted : (hs : List (Handler (Statement Identifier Identifier) Identifier)) (v : View) → note_choices (map handler_parts hs) v ≡ note_choices hs v
noted hs v = ap in_view (chosen_parts hs ([], v))

pub bodied : (b : Body Identifier Identifier) (v v1 v2 v3 : View) (is2 : List (Item Definition Use)) (xs2 : List (Statement Definition Use)) (hs2 : List (Handler (Statement Definition Use) Use)) → each item_of [] (out-Body Identifier Identifier b).items v ≡ (is2, v1) → each statement [] (out-Body Identifier Identifier b).statements (note_unfinished v1) ≡ (xs2, v2) → each named_handler [] (out-Body Identifier Identifier b).handlers (note_choices (out-Body Identifier Identifier b).handlers v2) ≡ (hs2, v3) → body_of b v ≡ (roll-Body Definition Use (record { items = is2; statements = xs2; handlers = hs2 }), v3)
bodied b v v1 v2 v3 is2 xs2 hs2 h k l =
    let o = out-Body Identifier Identifier b in
    let third : List (Handler (Statement Definition Use) Use) → Named_body = λ z. pure (roll-Body Definition Use (record { items = is2; statements = xs2; handlers = z })) in
    let second : List (Statement Definition Use) → Named_body = λ y. after (note_choices (map handler_parts o.handlers)) (each handler [] (map handler_parts o.handlers)) >>= (λ z. pure (roll-Body Definition Use (record { items = is2; statements = y; handlers = z }))) in
    let first : List (Item Definition Use) → Named_body = λ x. after note_unfinished (statements (map statement o.statements)) >>= (λ y. after (note_choices (map handler_parts o.handlers)) (each handler [] (map handler_parts o.handlers)) >>= (λ z. pure (roll-Body Definition Use (record { items = x; statements = y; handlers = z })))) in
    ap (λ f. f v) (fold_out-Body Identifier Identifier Named_statement Named_body Named_item step_statement step_body step_item b)
    ∙ ap (then_by first) (each_map (λ y. y) item_of [] o.items v ∙ h)
    ∙ ap (then_by second) (each_map (λ y. y) statement [] o.statements (note_unfinished v1) ∙ k)
    ∙ ap (then_by third) (ap (λ w. each handler [] (map handler_parts o.handlers) w) (noted o.handlers v2) ∙ each_map handler handler_parts [] o.handlers (note_choices o.handlers v2) ∙ l)
