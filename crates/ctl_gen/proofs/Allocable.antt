-- The collection that an allocator sees stands in the master in which its access type was declared: so around the operations of an allocated
-- object there are so many masters as its type asks for (4.8, 7.6.1).
use Rattle.std.proofs.Common.{◌≡◌, ℕ, suc, ◌≤◌, List, [], length, Some, sym, ap, ◌∙◌, subst, arith}
use Rattle.std.specs.Prelude.{◌-◌, nat_eq, take}
use Rattle.std.proofs.lemmas.List.{length-take}
use Rattle.ctl_program.specs.declared.types.Ty.{Ty}
use Rattle.ctl_program.specs.declared.types.Var.{Var}
use Rattle.ctl_meaning.specs.World.{Collection, Content, Nothing, Holds, Binds, Copies, Gathers, World}
use Rattle.ctl_meaning.specs.Activations.{master_of}
use Rattle.ctl_meaning.specs.Allocation.{set_in}
use Rattle.ctl_meaning.specs.Changes.{slot_at}
use Rattle.ctl_meaning.specs.Ledger.{collection_at}
use Rattle.ctl_meaning.specs.Lists.{last_of}
use Rattle.ctl_meaning.specs.Types.{Tables}
use Rattle.ctl_code.specs.declared.code.Code.{Code}
use Rattle.ctl_code.specs.declared.kinds.Kind.{Kind}
use Rattle.ctl_code.specs.Table.{set_seen}
use Rattle.ctl_code.specs.Valid.{IsAllocable, MayLie}
use Rattle.ctl_code.specs.Windows.{depth}
use Rattle.ctl_gen.proofs.Each.{IfFound, each_found}
use Rattle.ctl_gen.proofs.Collections.{home, found_number, nested_at, Gathered, IsHeldBy, IsMadeIn}
use Rattle.ctl_gen.proofs.Worlds.{Since, collection_fits, held_at}
use Rattle.ctl_gen.proofs.Setting.{IsSeen, MayAllocate, seen_nested}

module _ (k : Tables) (code : Code) where
  -- one that a slot of a master names was made in it: its number is not 0, which any other slot names
  made_in : (m : ℕ) (content : Content) (w : World) (x : Collection) → IsHeldBy w.ledger.next_collection w.ledger.collections m content → collection_at (set_in content) w.ledger ≡ Some x → 1 ≤ x.number → x.master ≡ m
  unfolding set_in collection_at
  made_in m (Gathers c) w x held at counted = subst (IfFound (IsMadeIn c m)) at (each_found (IsMadeIn c m) (λ y. nat_eq y.number c) w.ledger.collections held.1) (found_number c w x at)
  made_in m Nothing w x held at counted = absurd (let number = found_number 0 w x at in omega (arith, number, counted))
  made_in m (Holds n) w x held at counted = absurd (let number = found_number 0 w x at in omega (arith, number, counted))
  made_in m (Binds n offset path) w x held at counted = absurd (let number = found_number 0 w x at in omega (arith, number, counted))
  made_in m (Copies v) w x held at counted = absurd (let number = found_number 0 w x at in omega (arith, number, counted))

  -- the master of the one that is seen is the one at the level of its access type, and sees all up to itself
  pub collection_seen : (v : Var) (d : List ℕ) (s : List Kind) (w0 w : World) (x : Collection) → 1 ≤ v.level → v.level ≤ length d → IsSeen w0 d s → Since k code w0 w → collection_at (set_in (slot_at (master_of d v) v.slot w).content) w.ledger ≡ Some x → home x.master w.activations ≡ take v.level d
  unfolding master_of
  collection_seen v d s w0 w x low high sees since at =
      let m = master_of d v in
      let gathered = subst (IfFound (Gathered w.ledger.next_collection w.ledger.next_master w.activations)) at (collection_fits k code (set_in (slot_at m v.slot w).content) w since.0) in
      let made = made_in m (slot_at m v.slot w).content w x (held_at k code m v.slot w since.0) at gathered.counted in
      let deep = subst (λ z. 1 ≤ length (home z w.activations)) made gathered.deep in
      let level : suc (v.level - 1) ≡ v.level = omega (arith, low) in
      ap (λ z. home z w.activations) made ∙ (nested_at w.ledger.next_master w.activations [] (v.level - 1) d (omega (arith, low, high)) (seen_nested k code d s w0 w sees since) deep ∙ ap (λ n. take n d) level)

  -- and objects of the type of a well-formed allocator may lie in it
  pub may_allocate : (access : ℕ) (ty : Ty) (d : List ℕ) (s : List Kind) (w0 w : World) → IsAllocable code (depth s) access ty → IsSeen w0 d s → Since k code w0 w → MayAllocate code access ty d w
  may_allocate access ty d s w0 w (a, found, low, within, lies) sees since x at =
      let v = a.collection in
      let most = sees.2.0 in
      let high : v.level ≤ length d = omega (arith, most, within) in
      let seen = collection_seen v d s w0 w x low high sees since (ap (λ o. set_seen o d w) (sym found) ∙ at) in
      let size = ap length seen in
      let taken = length-take v.level d in
      let long : length (home x.master w.activations) ≡ v.level = omega (arith, size, taken, high) in
      let old = sees.0 in
      let later = since.1.later in
      (subst (λ n. MayLie code n ty) (sym long) lies, (omega (arith, old, later), since.1.homes (last_of d) sees.0 ∙ sees.1, omega (arith, long, high), seen ∙ ap (λ n. take n d) (sym long)))
