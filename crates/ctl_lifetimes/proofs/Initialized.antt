-- The creation of a declared object has ended: the object comes to life.
use Rattle.std.proofs.Common.{◌≡◌, ℕ, suc, ◌+◌, ◌-◌, ◌≤◌, List, [], ◌∷◌, ◌++◌, Option, Some, length, refl, sym, ap, ◌∙◌, subst, arith, drop}
use Rattle.std.specs.Prelude.{slice_get}
use Rattle.std.proofs.lemmas.List.{length-append}
use Rattle.ctl_meaning.specs.World as W
use Rattle.ctl_meaning.specs.World.{World, Layer, Single}
use Rattle.ctl_meaning.specs.Lists.{last_of}
use Rattle.ctl_meaning.specs.Changes.{object_at, add_layer, opened_changes}
use Rattle.ctl_code.specs.declared.kinds.Kind.{Kind}
use Rattle.ctl_code.specs.declared.code.Code.{Code}
use Rattle.ctl_code.specs.States as T
use Rattle.ctl_code.specs.States.{Word, Move, At}
use Rattle.ctl_code.specs.Table.{come_to_life}
use Rattle.ctl_code.specs.Valid.{Leads}
use Rattle.ctl_engine.specs.declared.engine.Engine.{Engine}
use Rattle.ctl_frames.specs.declared.frame.Master.{Master}
use Rattle.ctl_frames.specs.declared.frame.Mode.{Mode}
use Rattle.ctl_frames.specs.declared.frame.Mode.TheVariants as ModeOf
use Rattle.ctl_frames.specs.declared.frame.Owned.{Owned}
use Rattle.ctl_frames.specs.declared.frame.Role.{Role}
use Rattle.ctl_frames.specs.Masters.{heads_of, first_display, layer_as, rising_layers}
use Rattle.ctl_engine.specs.Shows.{IsCreated, Sized, ShowsMode, Kept, Holds, kept}
use Rattle.ctl_engine.specs.Moves.{Makes}
use Rattle.ctl_engine.specs.Initializing.{alive, with_newest}
use Rattle.ctl_engine.proofs.Entered.{drop_all}
use Rattle.ctl_engine.proofs.Created.{lives}
use Rattle.ctl_engine.proofs.Owned.{object_shown, owned_found}
use Rattle.ctl_engine.proofs.Innermost.{IsInnermost}
use Rattle.ctl_frames.proofs.Newest.{get_newest}
use Rattle.ctl_frames.specs.Spots.{KeepsSpots, standing}

-- The newest object ----------------------------------------------------------------------------------

-- the newest object of the innermost master
pub record IsNewestObject (e : Kept) (m : Master) (o : Owned) : Type 0 where
  pub found : slice_get e.owned (length e.owned - 1) ≡ Some o
  pub is_own : m.owned ≤ length e.owned - 1
  pub last : suc (length e.owned - 1) ≡ length e.owned
  pub behind : rising_layers (drop (suc (length e.owned - 1)) e.owned) ≡ []

pub newest_of_all : (e : Kept) (m : Master) (n t : ℕ) (i : IsCreated n t m e.owned) → IsNewestObject e m i.object
newest_of_all e m n t i =
    let long : length e.owned ≡ length i.before + 1 = ap (λ (l : List Owned). length l) i.is_newest ∙ length-append i.before (i.object ∷ []) in
    let own = i.is_own in
    let last : suc (length e.owned - 1) ≡ length e.owned = omega (arith, long) in
    record {
      found = subst (λ (l : List Owned). slice_get l (length l - 1) ≡ Some i.object) (sym i.is_newest) (get_newest i.before i.object);
      is_own = omega (arith, long, own);
      last = last;
      behind = ap (λ n. rising_layers (drop n e.owned)) last ∙ ap rising_layers (drop_all e.owned);
    }

-- It comes to life -------------------------------------------------------------------------------------

pub lives_makes : (code : Code) (old new : Engine) (e : Kept) (k : List T.Frame) (p : T.Point) (w : World) (stack : List Kind) (n t : ℕ) (x : IsInnermost e k (heads_of w.activations)) (i : IsCreated n t x.master e.owned)
    → Holds code e k p.operands w → e.spots ≡ standing k p.operands → Leads code p.place stack → Sized code stack k (heads_of w.activations) → p.display ≡ first_display (heads_of w.activations)
    → new.mode ≡ ModeOf.At p.place → kept new ≡ with_newest (alive i.object) e → new.events.items ≡ old.events.items ++ [] → new.picks.items ≡ old.picks.items
    → Makes code old new (come_to_life T.ByDeclaration n (object_at n w) p k w)
unfolding opened_changes
lives_makes code old new e k p w stack n t x i h spots leads sized seen mode kept_is events picks =
    let o = i.object in
    let at = length e.owned - 1 in
    let j = last_of p.display in
    let new_o = newest_of_all e x.master n t i in
    let found = owned_found e.owned e.next_object e.objects at o t h.owns new_o.found i.role in
    let own : j ≡ x.master.number = ap (λ (d : List ℕ). last_of d) seen ∙ x.last in
    let h' = subst (λ (l : List T.Frame). Holds code e l p.operands w) x.is h in
    let lively = lives code e x.handling x.after x.frames x.master x.others x.number at j o x.exceptions x.leads x.waiting p.operands w h' x.control x.masters own new_o.found (ap (λ (r : Role). layer_as r o.number) i.role) new_o.is_own i.no_layer new_o.behind in
    let holds : Holds code (with_newest (alive o) e) k p.operands (add_layer j (Single o.number) w) = subst (λ (l : List T.Frame). Holds code (with_newest (alive o) e) l p.operands (add_layer j (Single o.number) w)) (sym x.is) lively in
    let made : Makes code old new (come_to_life T.ByDeclaration o.number (Some found.object) p k w) = record {
      mode = subst (λ (y : Mode). ShowsMode code y (At p.display p.place) k (heads_of w.activations)) (sym mode) (refl, seen, stack, leads, sized);
      holds = subst (λ (y : Kept). Holds code y k p.operands (add_layer j (Single o.number) w)) (sym kept_is) holds;
      spots = subst (λ (y : Mode). KeepsSpots y new.spots.items k p.operands) (sym mode) (ap (λ (y : Kept). y.spots) kept_is ∙ spots);
      shows = events;
      picks = picks;
    } in
    let there = object_shown code e k p.operands w o.number h ∙ found.found in
    subst (λ c. Makes code old new (come_to_life T.ByDeclaration c (object_at c w) p k w)) i.number
    (subst (λ (y : Option W.Object). Makes code old new (come_to_life T.ByDeclaration o.number y p k w)) (sym there) made)
