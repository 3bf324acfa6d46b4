-- Programs that no text has, whose traces are not orderly: why the law asks for the order of types, and why it does not say that each
-- part is closed in the end.
use Rattle.std.specs.Prelude.{◌≡◌, List, [], ◌∷◌, None, Some, false, true}
use Rattle.std.proofs.Common.{refl}
use Rattle.ctl_program.specs.declared.types.Root.TheVariants.{Controlled}
use Rattle.ctl_program.specs.declared.types.Ty.TheVariants.{Record, Access}
use Rattle.ctl_tree.specs.declared.ending.End.TheVariants.{Done}
use Rattle.ctl_tree.specs.declared.event.Event.{Event}
use Rattle.ctl_meaning.proofs.worked.Build.{Program, access_type, assign, at, checked, collections, component, computed, constant, counted_type, discriminant, failed, finalized, initialized, is_computed, live, master, new, object, of_collection, operations, part, pool, prints_a, prints_f, procedure, program, raise, record_type, variable}
use Rattle.ctl_meaning.specs.Choice.{newest}
use Rattle.ctl_meaning.specs.Lists.{opened_lists}
use Rattle.ctl_meaning.specs.Run.{Outcome, opened_meaning, outcome}
use Rattle.ctl_meaning.specs.Audit.{NotLive, LeftOpen, flaw_of, opened_audit}

-- A record type with a component of itself --------------------------------------------------

-- its Initialize raises
abbrev of_itself : Program
of_itself =
    program (record_type 1 Controlled None (component (Record 4) None ∷ []) (operations (Some 0) None (Some 1)) ∷ [])
    []
    (procedure 1 (master 1 [] (raise 0 ∷ []) []) ∷ procedure 1 (master 1 [] [] []) ∷ procedure 0 (master 1 (object 0 (Record 4) None ∷ []) [] []) ∷ [])
    2

abbrev events_of_itself : List Event
events_of_itself = initialized (part 1 (1 ∷ 1 ∷ 1 ∷ 1 ∷ 1 ∷ [])) ∷ finalized (part 1 (1 ∷ 1 ∷ 1 ∷ 1 ∷ 1 ∷ 1 ∷ [])) failed ∷ []

abbrev outcome_of_itself : Outcome
outcome_of_itself = record { trace = events_of_itself; picks = []; end = None; ticks = 19 }

computes_itself : computed of_itself newest 1 ≡ outcome_of_itself
unfolding opened_meaning computed
computes_itself = refl

-- with one call, a part is closed that does not live
runs_itself : outcome (checked of_itself) newest 1 ≡ outcome_of_itself
runs_itself = is_computed of_itself newest 1 _ computes_itself

flaw_of_itself : flaw_of events_of_itself false ≡ Some (record { kind = NotLive; index = 1 })
unfolding opened_audit opened_lists
flaw_of_itself = refl

-- A pool that is declared behind a collection that lies in it -----------------------------------

-- so it closes first, with the member in it
abbrev pool_behind : Program
pool_behind =
    program (counted_type ∷ [])
    (access_type 1 0 (Record 4) (Some (at 1 2)) ∷ [])
    (prints_a ∷
    prints_f ∷
    procedure 0 (master 3 (collections (0 ∷ []) ∷ object 1 (Access 0) None ∷ pool 2 2 (discriminant 0 (constant 16) ∷ discriminant 1 (constant 2) ∷ []) ∷ []) (assign (variable 1 1) (new 0 (Record 4) None None) ∷ []) []) ∷ [])
    2

abbrev events_behind : List Event
events_behind = live (part 3 []) (of_collection 1) ∷ []

abbrev outcome_behind : Outcome
outcome_behind = record { trace = events_behind; picks = []; end = Some Done; ticks = 21 }

computes_behind : computed pool_behind newest 10 ≡ outcome_behind
unfolding opened_meaning computed
computes_behind = refl

-- it ends, and a part that came to life is not closed
runs_behind : outcome (checked pool_behind) newest 10 ≡ outcome_behind
runs_behind = is_computed pool_behind newest 10 _ computes_behind

flaw_behind : flaw_of events_behind true ≡ Some (record { kind = LeftOpen; index = 0 })
unfolding opened_audit opened_lists
flaw_behind = refl
