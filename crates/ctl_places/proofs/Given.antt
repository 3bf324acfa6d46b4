-- A scalar object takes its number.
use Rattle.std.proofs.Common.{◌≡◌, ℕ, ◌+◌, List, Some, refl, sym, ap, ◌∙◌, subst, arith}
use Rattle.std.proofs.lemmas.List.{append-nil}
use Rattle.ctl_meaning.specs.World.{Object, World}
use Rattle.ctl_meaning.specs.Ledger.{opened_ledger}
use Rattle.ctl_meaning.specs.Changes.{take_object_number, opened_changes}
use Rattle.ctl_code.specs.declared.code.Code.{Code}
use Rattle.ctl_code.specs.declared.code.Instr.TheVariants.{Number}
use Rattle.ctl_code.specs.States as T
use Rattle.ctl_code.specs.States.{Word, State, At}
use Rattle.ctl_code.specs.Table.{by_instr}
use Rattle.ctl_engine.specs.declared.engine.Engine.{Engine}
use Rattle.ctl_frames.specs.declared.frame.Mode.{Mode}
use Rattle.ctl_frames.specs.declared.frame.Mode.TheVariants as ModeOf
use Rattle.ctl_frames.specs.declared.frame.Owned.{Owned}
use Rattle.ctl_frames.specs.Masters.{heads_of, first_display}
use Rattle.ctl_storage.proofs.Conditions.{below_more}
use Rattle.ctl_frames.specs.Owned.{AreOwned}
use Rattle.ctl_engine.specs.Shows.{ShowsMode, Kept, Holds, kept, stock_of}
use Rattle.ctl_engine.specs.Moves.{Before, Makes, here_of}
use Rattle.ctl_frames.specs.Spots.{KeepsSpots}
use Rattle.ctl_objects.proofs.Unchanged.{later_pools}

owns_further : (owned : List Owned) (next : ℕ) (objects : List Object) → AreOwned owned next objects → AreOwned owned (next + 1) objects
owns_further owned next objects a = record { declared = a.declared; numbers = below_more next (next + 1) objects (omega arith) a.numbers; apart = a.apart; some = omega arith }

abbrev pub with_number : Kept → Kept
with_number e = record e { next_object = e.next_object + 1 }

numbered : (code : Code) (e : Kept) (k : List T.Frame) (ops : List Word) (w : World) → Holds code e k ops w → Holds code (with_number e) k ops (take_object_number w)
unfolding opened_changes opened_ledger
numbered code e k ops w h = record {
  cells = h.cells;
  room = h.room;
  masters = h.masters;
  below = h.below;
  waits = h.waits;
  objects = h.objects;
  needs = h.needs;
  pools = later_pools e.next_object (e.next_object + 1) w.pools (stock_of e) (omega arith) h.pools;
  owns = owns_further e.owned e.next_object e.objects h.owns;
  held = h.held;
  rise = h.rise;
  next_master = h.next_master;
  next_object = ap (λ n. n + 1) h.next_object;
  next_collection = h.next_collection;
  collections = h.collections;
  left = h.left;
  saved = h.saved;
  noted = h.noted;
}

numbered_heads : (w : World) → heads_of (take_object_number w).activations ≡ heads_of w.activations
unfolding opened_changes opened_ledger
numbered_heads w = refl

pub number_makes : (code : Code) (old new : Engine) (place : ℕ) (s : State) → Before code old place Number s → kept new ≡ with_number (kept old) → new.mode ≡ ModeOf.At (place + 1) → new.events.items ≡ old.events.items → new.picks.items ≡ old.picks.items
    → Makes code old new (by_instr code (Some Number) s.operands (here_of place s))
number_makes code old new place s b is mode events picks =
    let d = first_display (heads_of s.world.activations) in
    let heads = numbered_heads s.world in
    record {
      mode = subst (λ (m : Mode). ShowsMode code m (At d (place + 1)) s.control (heads_of (take_object_number s.world).activations)) (sym mode)
          (subst (λ hs. ShowsMode code (ModeOf.At (place + 1)) (At d (place + 1)) s.control hs) (sym heads) (refl, refl, b.stack, b.fine, b.inside.sized));
      holds = subst (λ (e : Kept). Holds code e s.control s.operands (take_object_number s.world)) (sym is) (numbered code (kept old) s.control s.operands s.world b.inside.holds);
      spots = subst (λ (m : Mode). KeepsSpots m new.spots.items s.control s.operands) (sym mode) (ap (λ (e : Kept). e.spots) is ∙ b.inside.spots);
      shows = events ∙ sym (append-nil old.events.items);
      picks = picks;
    }
