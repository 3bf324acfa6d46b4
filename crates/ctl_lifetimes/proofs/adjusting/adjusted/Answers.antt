use Rattle.std.proofs.Common.{◌≡◌, ◌++◌, ◌∷◌, ◌∙◌, [], ℕ, List, Option, Some, ap, refl, subst, sym}
use Rattle.ctl_tree.specs.declared.event.Event.{Event}
use Rattle.ctl_tree.specs.declared.event.Owner.{Owner}
use Rattle.ctl_tree.specs.declared.event.Part.{Part}
use Rattle.ctl_meaning.specs.Finalization.{Spot}
use Rattle.ctl_code.specs.Table.{adjusted, birth, birth_in, operation_of}
use Rattle.ctl_engine.specs.declared.engine.Engine.{Engine}
use Rattle.ctl_frames.specs.declared.frame.Mode.TheVariants as ModeOf
use Rattle.ctl_lifetimes.specs.Adjusting.{HasNoteRoom}
use Rattle.ctl_engine.specs.Moves.{Makes}
use Rattle.ctl_frames.specs.Noted.{IsNoting}
use Rattle.ctl_engine.specs.Shows.{kept}
use Rattle.ctl_lifetimes.proofs.Noting.{none_of, notes_none, notes_part}
use Rattle.ctl_lifetimes.proofs.adjusting.adjusted.Goals as goal

pub returns-in_default : goal.returns-in_default
returns-in_default g c =
    let code = c.args.code.now in
    let old = c.args.engine.now in
    let x = c.args.adjustment in
    let t = g.t in
    let new : Engine = record old { mode = ModeOf.Giving c.handed.result } in
    subst (λ (z : Option Owner). Makes code old new (adjusted code z t.spot x.record_type x.failed t.control t.world)) (sym (none_of x.creation c.in_default.not-Some))
    (notes_none code old new x.record_type x.failed c.handed.result t c.requires.0 refl refl c.handed.ensures refl refl)

pub push_reserved-requires : goal.push_reserved-requires
push_reserved-requires g c = subst (λ (z : Option Owner). HasNoteRoom c.args.engine.now z) c.in-Some.is c.requires.1.1.0

pub returns : goal.returns
returns g c =
    let code = c.args.code.now in
    let old = c.args.engine.now in
    let x = c.args.adjustment in
    let t = g.t in
    let owner = c.in-Some.owner in
    let spot = c.requires.1.1.1.1.0 in
    let part = c.requires.1.1.1.1.1 in
    let shown : birth c.finalize_in-finalize.result c.args.part owner ≡ birth_in code (Some owner) t.spot x.record_type =
    ap (λ (o : Option ℕ). birth o c.args.part owner) c.finalize_in-finalize.ensures ∙ ap (λ (y : Part). birth (operation_of (λ o. o.finalize) code x.record_type) y owner) part in
    let noted = c.push_reserved.ensures.items ∙ ap (λ (s : Spot). old.noted.items ++ s ∷ []) spot in
    let new : Engine = record old { mode = ModeOf.Giving c.handed.result; events = c.show_life.new.events; noted = c.push_reserved.new.self } in
    subst (λ (z : Option Owner). Makes code old new (adjusted code z t.spot x.record_type x.failed t.control t.world)) (sym c.in-Some.is)
    (notes_part code old new owner x.record_type x.failed c.handed.result t c.requires.0 (subst (λ (z : Option Owner). IsNoting z t.control) c.in-Some.is c.requires.1.0) (ap (λ (l : List Spot). record (kept old) { noted = l }) noted) refl c.handed.ensures
    (c.show_life.ensures ∙ ap (λ (l : List Event). old.events.items ++ l) shown) refl)
