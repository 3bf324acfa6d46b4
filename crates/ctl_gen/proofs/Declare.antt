-- The declaration of an object of a plain type that begins by default (3.3.1).
use Rattle.std.proofs.Common.{◌≡◌, ℕ, suc, ◌+◌, ◌<◌, ◌≤◌, List, [], ◌∷◌, ◌++◌, length, Option, Some, None, Bool, true, false, refl, sym, ap, ◌∙◌, subst, arith}
use Rattle.std.specs.Prelude.{replicate, slice_get, nat_eq, if◌then◌else◌}
use Rattle.std.proofs.lemmas.Bool.{eqb-true, eq-eqb}
use Rattle.std.proofs.lemmas.Option.{slice_get_within}
use Rattle.ctl_program.specs.declared.types.Ty.{Ty}
use Rattle.ctl_program.specs.declared.types.Ty.TheVariants.{Record}
use Rattle.ctl_program.specs.declared.types.RecordType.{RecordType}
use Rattle.ctl_tree.specs.declared.ending.Stop.TheVariants.{UseAfterFree}
use Rattle.ctl_tree.specs.declared.event.Owner.TheVariants as OwnerOf
use Rattle.ctl_meaning.specs.World.{Object, Origin, Declared, Single, Holds, holding, Log, World}
use Rattle.ctl_meaning.specs.Lists.{first_with, last_of, opened_lists}
use Rattle.ctl_meaning.specs.Objects.{object_in}
use Rattle.ctl_meaning.specs.Changes.{object_at, new_object, create, set_slot, add_layer, home_of, owner_of, opened_changes}
use Rattle.ctl_meaning.specs.Choice.{Ask, picked}
use Rattle.ctl_meaning.specs.Outcome.{ByRaise, Result, Goes, Leaves, Out, Gives, Act, Done, Fine, add, bind, on_goes, nothing, change, on_some, opened_outcome}
use Rattle.ctl_meaning.specs.Types.{Tables, Composite, begin_cells, cells_of, depth, of_record}
use Rattle.ctl_meaning.specs.Names.{Call, Default, Tools, gone, existing, must_exist}
use Rattle.ctl_meaning.specs.Finalization.{whole}
use Rattle.ctl_meaning.specs.Adjustment.{birth_of, Birth}
use Rattle.ctl_meaning.specs.Initialization.{initialize, initialize_part, fill}
use Rattle.ctl_meaning.specs.Masters.{declare}
use Rattle.ctl_code.specs.declared.code.Instr.TheVariants as InstrOf
use Rattle.ctl_code.specs.declared.code.Code.{Code}
use Rattle.ctl_code.specs.States.{Word, Complete, Point, ByDeclaration, Frame, Creating, Filling, State, whole_spot}
use Rattle.ctl_code.specs.declared.kinds.Kind.{Kind}
use Rattle.ctl_code.specs.Valid.{IsDeclarable}
use Rattle.ctl_code.specs.Table.{begun_of, come_to_life, size_of, with_object, is_made_at_once, parts_of, begin_part}
use Rattle.ctl_code.specs.Steps.{moved, step}
use Rattle.ctl_gen.proofs.Known.{IsPlain}
use Rattle.ctl_gen.proofs.Given.{GivesEach}
use Rattle.ctl_gen.proofs.Each.{Each}
use Rattle.ctl_gen.proofs.Collections.{home}
use Rattle.ctl_gen.proofs.Worlds.{Since, Kept, keeps_itself, keeps_on, since_create, since_slot, since_layer}
use Rattle.ctl_gen.proofs.Scopes.{type_inside}
use Rattle.ctl_gen.proofs.CreatedParts.{IsAround, IsBornAmong, declared_among, new_part, parts_run, at_once_is}
use Rattle.ctl_gen.proofs.Setting.{Setting, tools_with, returns, Told, Sees, Calls}
use Rattle.ctl_gen.proofs.Cells.{by_code}
use Rattle.ctl_gen.proofs.Place.{Laid}
use Rattle.ctl_gen.proofs.Follow.{by_raise, gives, way_of, Runs, add_none, bind_bind, both, end_step, no_step, one_step, Target, at, arrives, stop_step, added}

-- the newest object is found by its number
found_newest : (n : ℕ) (os : List Object) (x : Object) → Each (λ o. o.number < n) os → x.number ≡ n → first_with (λ o. nat_eq o.number n) (os ++ x ∷ []) ≡ Some x
unfolding opened_lists
found_newest n [] x h is = ap (λ b. if b then Some x else None) (eq-eqb x.number n is)
found_newest n (o ∷ os) x h is = by (nat_eq o.number n) refl (found_newest n os x h.1 is)
  where
    by : (b : Bool) → nat_eq o.number n ≡ b → first_with (λ y. nat_eq y.number n) (os ++ x ∷ []) ≡ Some x → (if b then Some o else first_with (λ y. nat_eq y.number n) (os ++ x ∷ [])) ≡ Some x
    by true same rest = absurd (let e = eqb-true o.number n same in let lt = h.0 in omega (arith, e, lt))
    by false same rest = rest

-- a new object has this origin
pub new_origin : (n : ℕ) (ty : Ty) (cells : List ℕ) (x : Origin) → (new_object n ty cells x).origin ≡ x
unfolding new_object
new_origin n ty cells x = refl

module _ (ask : Ask) (k : Tables) (code : Code) (setting : Setting k code) (call : Call) (default : Default) (defaults : GivesEach ask k code setting call default) (t : ℕ) (r : RecordType) (here : slice_get k.records t ≡ Some r) (plain : IsPlain k t r) where
  abbrev K : Tools
  K = tools_with ask k call default

  -- what becomes of an object after its initialization
  abbrev pub standing : ℕ → ℕ → Out Done → Out Done
  standing n m x = bind (add 0 (bind x (on_goes (λ _. must_exist n)))) (on_goes (λ _. change (add_layer m (Single n))))

  abbrev pub stands : ℕ → ℕ → Result Done → Act Done
  stands n m r c l w = bind (on_goes (λ _. must_exist n) r c l w) (on_goes (λ _. change (add_layer m (Single n))))

  pub standing_is : (n m : ℕ) (x : Out Done) → standing n m x ≡ bind x (stands n m)
  standing_is n m x = ap (λ o. bind o (on_goes (λ _. change (add_layer m (Single n))))) (add_none (bind x (on_goes (λ _. must_exist n)))) ∙ bind_bind x (on_goes (λ _. must_exist n)) (on_goes (λ _. change (add_layer m (Single n))))

  -- each cell begins with 0
  pub begin_cells_is : begin_cells k (Record t) ≡ replicate (cells_of k (Record t)) 0
  unfolding begin_cells
  begin_cells_is = refl

  declare_is : (m slot c : ℕ) (l : Log) (w : World) → declare Composite K m slot (Record t) None c l w ≡ standing w.ledger.next_object m (initialize_part K (birth_of (Declared m) w) (suc (length k.records)) (whole_spot w.ledger.next_object) t c l (set_slot m slot (holding (Holds w.ledger.next_object)) (create (Record t) (replicate (size_of code t) 0) (Declared m) w)))
  unfolding declare fill initialize of_record depth whole opened_outcome
  declare_is m slot c l w =
      ap (λ cells. standing w.ledger.next_object m (initialize_part K (birth_of (Declared m) w) (suc (length k.records)) (whole_spot w.ledger.next_object) t c l (set_slot m slot (holding (Holds w.ledger.next_object)) (create (Record t) cells (Declared m) w))))
      (begin_cells_is ∙ ap (λ i. replicate i 0) (sym (setting.sizes t plain.laid.is)))

  -- New objects -----------------------------------------------------------------------------------------

  -- the worlds with a new object, whose operations are in scope
  pub created_fits : (slot : ℕ) (s : List Kind) (w0 : World) (d : List ℕ) (w : World) → IsDeclarable code (length d) t → Since k code w0 w → Sees d s w0 → Since k code w0 (with_object code d slot t w)
  created_fits slot s w0 d w declarable fits sees = since_slot k code (last_of d) slot (holding (Holds w.ledger.next_object)) w0 _ tt (since_create k code (Record t) (replicate (size_of code t) 0) (last_of d) w0 w (r, here, plain) old inside deep fits)
    where
      old : last_of d < w.ledger.next_master
      old = omega (arith, sees.old, fits.1.later)

      same : home (last_of d) w.activations ≡ d
      same = fits.1.homes (last_of d) sees.old ∙ sees.home

      inside : IsDeclarable code (length (home (last_of d) w.activations)) t
      inside = subst (λ (x : List ℕ). IsDeclarable code (length x) t) (sym same) declarable

      deep : 1 ≤ length (home (last_of d) w.activations)
      deep = subst (λ (x : List ℕ). 1 ≤ length x) (sym same) sees.deep

  pub created_there : (slot : ℕ) (w0 : World) (d : List ℕ) (w : World) → Since k code w0 w → object_at w.ledger.next_object (with_object code d slot t w) ≡ Some (new_object w.ledger.next_object (Record t) (replicate (size_of code t) 0) (Declared (last_of d)))
  unfolding opened_changes object_in
  created_there slot w0 d w fits = found_newest w.ledger.next_object w.objects _ fits.0.numbers refl

  -- it is there, and its type is declared around its operations
  pub created_around : (slot : ℕ) (w0 : World) (d : List ℕ) (w : World) → Since k code w0 w → Since k code w0 (with_object code d slot t w) → IsAround code w.ledger.next_object t (with_object code d slot t w)
  unfolding opened_changes object_in
  created_around slot w0 d w fits fits1 =
      let w1 = with_object code d slot t w in
      let there = found_newest w.ledger.next_object w.objects _ fits.0.numbers refl in
      (_, there, type_inside k code w.ledger.next_object w1 _ t fits1.0 there refl)

  -- What its code does ----------------------------------------------------------------------------------

  -- an object that is there comes to life, in a step that takes at most one from the clock; nothing more is done of one that is gone
  pub lives_on : (w0 : World) (n : ℕ) (e : Target) (p : Point) (ks : List Frame) (s0 : State) (c0 c : ℕ) (l : Log) (w : World) → c ≤ c0 → c0 ≤ c + 1 → Since k code w0 w → step ask code s0 ≡ moved l (come_to_life ByDeclaration n (object_at n w) p ks w)
      → Runs ask code (Kept k code w0) 1 3 s0 c0 (arrives e p.display p.place ks p.operands) (stands n (last_of p.display) (Goes tt) c l w)
  unfolding must_exist existing gone opened_outcome
  lives_on w0 n e p ks s0 c0 c l w lo hi fits first = by (object_at n w) first
    where
      by : (o : Option Object) → step ask code s0 ≡ moved l (come_to_life ByDeclaration n o p ks w) → Runs ask code (Kept k code w0) 1 3 s0 c0 (arrives e p.display p.place ks p.operands) (bind (on_some o gone (λ _. nothing) c l w) (on_goes (λ _. change (add_layer (last_of p.display) (Single n)))))
      by None go = stop_step ask code (Kept k code w0) {A = Done} 1 3 s0 _ c0 0 (arrives e p.display p.place ks p.operands) UseAfterFree l (omega arith) go refl refl
      by (Some o) go =
          let next = arrives e p.display p.place ks p.operands in
          let w1 = add_layer (last_of p.display) (Single n) w in
          one_step ask code (Kept k code w0) {A = Done} 0 2 1 3 s0 (next (Goes tt) l w1) c0 c next (Gives (Goes tt) 0 c l w1) (omega arith) (omega arith) lo hi go
          (no_step ask code (Kept k code w0) {A = Done} 0 2 _ c 0 next (Goes tt) l w1 (since_layer k code (last_of p.display) (Single n) w0 w fits) refl)

  module _ (bound : ℕ) (calls : Calls ask k code setting bound call) where
    -- after its creation
    pub stands_runs : (w0 w1 : World) (n : ℕ) (e : Target) (p : Point) (ks : List Frame) → Since k code w0 w1 → (r : Result Done) (c : ℕ) (l : Log) (w : World) → Told k code w1 (way_of r) w → Runs ask code (Kept k code w0) 1 3 (returns (Creating ByDeclaration n t p ∷ ks) r l w) c (arrives e p.display p.place ks p.operands) (stands n (last_of p.display) r c l w)
    unfolding picked opened_outcome
    stands_runs w0 w1 n e p ks fits1 (Goes u) c l w told1 = lives_on w0 n e p ks _ c c l w (omega arith) (omega arith) (told1.1.0, keeps_on k code w0 w1 w fits1.1 told1.1.1) refl
    stands_runs w0 w1 n e p ks fits1 (Leaves y) c l w told1 =
        by_raise (λ v. Runs ask code (Kept k code w0) 1 3 (returns {A = Done} (Creating ByDeclaration n t p ∷ ks) (Leaves v) l w) c (arrives e p.display p.place ks p.operands) (stands n (last_of p.display) (Leaves v) c l w))
        (λ x. end_step ask code (Kept k code w0) {A = Done} 3 _ c 0 (arrives e p.display p.place ks p.operands) (Leaves (ByRaise x)) l w (told1.1.0, keeps_on k code w0 w1 w fits1.1 told1.1.1) refl) y told1.0

    -- a declaration: its operations are in scope, as the code is well formed
    pub declare_runs : (slot : ℕ) (e : Target) (s : List Kind) (w0 : World) (d : List ℕ) (place : ℕ) (ks : List Frame) (ops : List Word) (c : ℕ) (l : Log) (w : World) → c ≤ bound → Since k code w0 w → Sees d s w0 → Laid code place ((InstrOf.Declare slot t, s) ∷ [])
        → Runs ask code (Kept k code w0) 5 7 (at d place ks ops l w) c (arrives e d (place + 1) ks ops) (declare Composite K (last_of d) slot (Record t) None c l w)
    unfolding birth_of owner_of opened_outcome
    declare_runs slot e s w0 d place ks ops c l w le fits sees has =
        subst (Runs ask code (Kept k code w0) 5 7 s0 c next) (sym (declare_is (last_of d) slot c l w ∙ standing_is n (last_of d) created))
        (by (is_made_at_once (parts_of code t) (begun_of code t)) refl (by_code ask code d place ks ops l w (InstrOf.Declare slot t) has.0))
      where
        n : ℕ
        n = w.ledger.next_object

        p : Point
        p = record { display = d; place = place + 1; operands = ops }

        s0 : State
        s0 = at d place ks ops l w

        next : Result Done → Log → World → State
        next = arrives e d (place + 1) ks ops

        w1 : World
        w1 = with_object code d slot t w

        fits1 : Since k code w0 w1
        fits1 = created_fits slot s w0 d w (subst (λ x. IsDeclarable code x t) (sym sees.long) (setting.valid.each place (InstrOf.Declare slot t) s has.0 has.1).0) fits sees

        born : Birth
        born = birth_of (Declared (last_of d)) w

        created : Out Done
        created = initialize_part K born (suc (length k.records)) (whole_spot n) t c l w1

        -- its defaults are evaluated where it is declared
        among : IsBornAmong born (home_of (created_around slot w0 d w fits fits1).0.origin w1) (Creating ByDeclaration n t p ∷ ks) w1
        among =
            let old : last_of d < w1.ledger.next_master = omega (arith, sees.old, fits1.1.later) in
            declared_among code ByDeclaration n t p ks _ w w1 (created_around slot w0 d w fits fits1) (created_there slot w0 d w fits) (new_origin n (Record t) (replicate (size_of code t) 0) (Declared (last_of d))) (fits.1.homes (last_of d) sees.old ∙ sees.home) old (fits1.1.homes (last_of d) sees.old ∙ sees.home)

        -- where something is executed for its creation
        begins : step ask code s0 ≡ moved l (begin_part code (new_part (whole_spot n) t (OwnerOf.Master (last_of d))) (Creating ByDeclaration n t p ∷ ks) w1) → Runs ask code (Kept k code w0) 5 7 s0 c next (bind created (stands n (last_of d)))
        begins go =
            let mid = Creating ByDeclaration n t p ∷ ks in
            let s1 = gives (Filling (new_part (whole_spot n) t (OwnerOf.Master (last_of d))) (begun_of code t) (begun_of code t) ∷ mid) (Fine Complete) l w1 in
            one_step ask code (Kept k code w0) 4 6 5 7 s0 s1 c c next (bind created (stands n (last_of d))) (omega arith) (omega arith) (omega arith) (omega arith) go
            (both ask code (Told k code w1) (Kept k code w0) 3 3 1 3 4 6 s1 c (returns mid) next created (stands n (last_of d)) (omega arith) (omega arith) (omega arith)
            (parts_run ask k code setting call default defaults bound calls (suc (length k.records)) t (let within = slice_get_within k.records t r here in omega (arith, within)) (r, here, plain) (whole_spot n) (OwnerOf.Master (last_of d)) born refl w1 fits1.0 (created_around slot w0 d w fits fits1) mid among c l w1 le (fits1.0, keeps_itself k code w1))
            (λ x c1 l1 w2 lo told1. stands_runs w0 w1 n e p ks fits1 x c1 l1 w2 told1))

        by : (once : Bool) → is_made_at_once (parts_of code t) (begun_of code t) ≡ once
            → step ask code s0 ≡ moved l (if once then come_to_life ByDeclaration n (object_at n w1) p ks w1 else begin_part code (new_part (whole_spot n) t (OwnerOf.Master (last_of d))) (Creating ByDeclaration n t p ∷ ks) w1)
            → Runs ask code (Kept k code w0) 5 7 s0 c next (bind created (stands n (last_of d)))
        by true is go =
            subst (λ o. Runs ask code (Kept k code w0) 5 7 s0 c next (bind o (stands n (last_of d)))) (sym (at_once_is ask k code setting call default defaults bound calls (length k.records) born (whole_spot n) t c l w1 (r, here, plain) is))
            (added ask code (Kept k code w0) 0 1 3 5 7 s0 c next (stands n (last_of d) (Goes tt) c l w1) (omega arith) (omega arith) (lives_on w0 n e p ks s0 c c l w1 (omega arith) (omega arith) fits1 go))
        by false is go = begins go
