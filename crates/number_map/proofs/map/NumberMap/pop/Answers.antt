use Rattle.std.proofs.Common.{sym, ap, ◌∙◌}
use Rattle.std.specs.Prelude.{Option, None, Some, IfSome, length}
use Rattle.number_map.specs.Newest.{all_of}
use Rattle.number_map.proofs.Tables.{map_of, popped}
use Rattle.number_map.proofs.Apart.{no_entry, popped_own}
use Rattle.number_map.proofs.map.NumberMap.pop.Goals as goal

pub returns-in-Some : goal.returns-in-Some
returns-in-Some g c =
    rw c.take.ensures.left (popped_own c.self.inside.newest c.self.inside.entries.entries c.in-Some.newest c.args.self.now c.in-Some.ensures.entry c.self.invariant (ap (λ t. t.values) c.self.view_is) (ap (λ t. t.size) c.self.view_is))

each : {X : Type 0} (r : Option X) (P Q : X → Type 0) → ((x : X) → P x → Q x) → IfSome r P → IfSome r Q
each None P Q f h = h
each (Some x) P Q f h = f x h

pub returns-in-None : goal.returns-in-None
returns-in-None g c =
    let p = c.pop.ensures in
    let es = c.self.inside.entries.entries in
    let none = sym (no_entry c.self.inside.newest c.in-None.ensures.entry) in
    rw c.take.ensures.left (popped c.pop.result es c.pop.new.self.entries c.args.self.now (ap (λ a. map_of (all_of a es)) none ∙ ap (λ t. t.values) c.self.view_is)
    (ap (λ a. length (all_of a es)) none ∙ ap (λ t. t.size) c.self.view_is) p.entries (each c.pop.result _ _ (λ x u. u.0) p.updates) p.len p.found)
