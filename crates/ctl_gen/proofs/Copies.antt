-- The declaration of an object of a plain type that takes the value of a part, or of a function (3.3.1, 7.6).
use Rattle.std.proofs.Common.{◌≡◌, ℕ, ◌+◌, ◌≤◌, List, [], ◌∷◌, length, Option, Some, None, true, refl, sym, ap, ◌∙◌, subst, arith, length-append}
use Rattle.std.specs.Prelude.{replicate, slice_get}
use Rattle.ctl_program.specs.declared.types.Ty.TheVariants.{Record}
use Rattle.ctl_program.specs.declared.types.RecordType.{RecordType}
use Rattle.ctl_program.specs.declared.expression.Expr.{Expr}
use Rattle.ctl_tree.specs.declared.ending.Stop.TheVariants.{UseAfterFree}
use Rattle.ctl_tree.specs.declared.event.Owner.TheVariants as OwnerOf
use Rattle.ctl_meaning.specs.World.{Object, Holds, Declared, holding, Log, World}
use Rattle.ctl_meaning.specs.Lists.{last_of}
use Rattle.ctl_meaning.specs.Objects.{cells_at, first_cells}
use Rattle.ctl_meaning.specs.Changes.{object_at, create, set_slot, owner_of}
use Rattle.ctl_meaning.specs.Choice.{Ask}
use Rattle.ctl_meaning.specs.Outcome.{ByRaise, Result, Leaves, Out, Act, Done, add, bind, on_goes, opened_outcome}
use Rattle.ctl_meaning.specs.Types.{Tables, Composite, category_of}
use Rattle.ctl_meaning.specs.Names.{Call, Default, Tools}
use Rattle.ctl_meaning.specs.Expressions.{eval, if_given}
use Rattle.ctl_meaning.specs.Adjustment.{birth_of}
use Rattle.ctl_meaning.specs.Initialization.{fill}
use Rattle.ctl_meaning.specs.Masters.{declare, object}
use Rattle.ctl_code.specs.declared.code.Instr.TheVariants as InstrOf
use Rattle.ctl_code.specs.declared.code.Code.{Code}
use Rattle.ctl_code.specs.declared.kinds.Kind.{Kind}
use Rattle.ctl_code.specs.declared.kinds.Kind.TheVariants.{Operand}
use Rattle.ctl_code.specs.States.{Word, Located, Cells, Point, ByDeclaration, Frame, State}
use Rattle.ctl_code.specs.Valid.{IsDeclarable}
use Rattle.ctl_code.specs.Table as Table
use Rattle.ctl_code.specs.Table.{size_of, with_object}
use Rattle.ctl_code.specs.Steps.{moved, step}
use Rattle.ctl_layout.specs.Around.{Line}
use Rattle.ctl_layout.specs.Parts.{Reached, part_code, part_runs}
use Rattle.ctl_layout.specs.Layout.{copy_of}
use Rattle.ctl_gen.proofs.Known.{IsPlain, IsPlainType}
use Rattle.ctl_gen.proofs.Sources.{Reads}
use Rattle.ctl_gen.proofs.Parts.{OfCells, OfObject, RecordOperand, word}
use Rattle.ctl_gen.proofs.PartValues.{given_is, taken, taken_from, value_then}
use Rattle.ctl_gen.proofs.Worlds.{Since, Kept, since_on}
use Rattle.ctl_gen.proofs.Given.{GivesEach}
use Rattle.ctl_gen.proofs.Setting.{Setting, Calls, Sees, seen, tools_with}
use Rattle.ctl_gen.proofs.Cells.{by_code, here}
use Rattle.ctl_gen.proofs.Place.{laid_front, laid_back}
use Rattle.ctl_gen.proofs.Does.{Does}
use Rattle.ctl_gen.proofs.Follow.{way_of, Runs, Target, added, arrives, at, lands, no_step, stop_step}
use Rattle.ctl_gen.proofs.Declare as D
use Rattle.ctl_gen.proofs.TakenValues as T

module _ (ask : Ask) (k : Tables) (code : Code) (setting : Setting k code) (call : Call) (default : Default) (defaults : GivesEach ask k code setting call default) (t : ℕ) (r : RecordType) (record_is : slice_get k.records t ≡ Some r) (plain : IsPlain k t r) where
  abbrev K : Tools
  K = tools_with ask k call default

  abbrev plain_type : IsPlainType k (Record t)
  plain_type = (r, record_is, plain)

  abbrev standing : ℕ → ℕ → Out Done → Out Done
  standing = D.standing ask k code setting call default defaults t r record_is plain

  abbrev stands : ℕ → ℕ → Result Done → Act Done
  stands = D.stands ask k code setting call default defaults t r record_is plain

  -- What the declaration means -----------------------------------------------------------------------

  -- with this value
  abbrev declaring : ℕ → List ℕ → List ℕ → Act Done
  declaring slot d v = declare Composite K (last_of d) slot (Record t) (Some v)

  module _ (bound : ℕ) (calls : Calls ask k code setting bound call) where
    -- the new object takes it
    abbrev taking : ℕ → World → ℕ → List ℕ → Act Done
    taking m w = T.taking ask k code setting call default defaults.constants bound calls t plain_type (birth_of (Declared m) w)

    declare_is : (slot : ℕ) (d : List ℕ) (v : List ℕ) (c : ℕ) (l : Log) (w : World) → declaring slot d v c l w ≡ bind (taking (last_of d) w w.ledger.next_object v c l (with_object code d slot t w)) (stands w.ledger.next_object (last_of d))
    unfolding declare fill opened_outcome
    declare_is slot d v c l w =
        let n = w.ledger.next_object in
        let m = last_of d in
        ap (λ cells. standing n m (taking m w n v c l (set_slot m slot (holding (Holds n)) (create (Record t) cells (Declared m) w))))
        (D.begin_cells_is ask k code setting call default defaults t r record_is plain ∙ ap (λ i. replicate i 0) (sym (setting.sizes t plain.laid.is)))
        ∙ D.standing_is ask k code setting call default defaults t r record_is plain n m (taking m w n v c l (with_object code d slot t w))

    -- What its code does -----------------------------------------------------------------------------

    -- with this value
    valued_runs : (slot : ℕ) (v : List ℕ) (e : Target) (s : List Kind) (w0 : World) (d : List ℕ) (place : ℕ) (ks : List Frame) (ops : List Word) (c : ℕ) (l : Log) (w : World) (s0 : State) → c ≤ bound → Since k code w0 w → Sees d s w0 → IsDeclarable code (length d) t → step ask code s0 ≡ moved l (Table.declare_with code slot t v ops (here d place ks w))
        → Runs ask code (Kept k code w0) 6 8 s0 c (arrives e d (place + 1) ks ops) (declaring slot d v c l w)
    unfolding birth_of owner_of
    valued_runs slot v e s w0 d place ks ops c l w s0 le fits sees declarable go =
        let n = w.ledger.next_object in
        let m = last_of d in
        let w1 = with_object code d slot t w in
        let p : Point = record { display = d; place = place + 1; operands = ops } in
        let fits1 = D.created_fits ask k code setting call default defaults t r record_is plain slot s w0 d w declarable fits sees in
        let around = D.created_around ask k code setting call default defaults t r record_is plain slot w0 d w fits fits1 in
        subst (Runs ask code (Kept k code w0) 6 8 s0 c (arrives e d (place + 1) ks ops)) (sym (declare_is slot d v c l w))
        (T.taken_runs ask k code setting call default defaults.constants bound calls t plain_type ByDeclaration n (OwnerOf.Master m) (birth_of (Declared m) w) refl p ks w1 fits1.0 around (λ x u. Kept k code w0 (way_of x) u) (arrives e d (place + 1) ks ops) (stands n m)
        (λ s1 c0 c1 l1 w2 lo hi fits2 first. D.lives_on ask k code setting call default defaults t r record_is plain w0 n e p ks s1 c0 c1 l1 w2 lo hi (since_on k code w0 w1 w2 fits1 fits2) first)
        (λ x c1 l1 w2 told. D.stands_runs ask k code setting call default defaults t r record_is plain bound calls w0 w1 n e p ks fits1 x c1 l1 w2 told)
        v s0 c c l le (omega arith) (omega arith) go)

    -- over the part whose value it is, or that value
    given_runs : (slot : ℕ) (q : RecordOperand) (e : Target) (s : List Kind) (w0 : World) (d : List ℕ) (place : ℕ) (ks : List Frame) (ops : List Word) (c : ℕ) (l : Log) (w : World) → c ≤ bound → Since k code w0 w → Sees d s w0 → IsDeclarable code (length d) t → slice_get code.instructions.items place ≡ Some (InstrOf.DeclareCopy slot t)
        → Runs ask code (Kept k code w0) 6 8 (at d place ks (word q ∷ ops) l w) c (arrives e d (place + 1) ks ops) (taken ask k code setting call default t plain_type (declaring slot d) q c l w)
    given_runs slot (OfCells v) e s w0 d place ks ops c l w le fits sees declarable has =
        valued_runs slot (first_cells (size_of code t) v) e s w0 d place ks ops c l w (at d place ks (Cells v ∷ ops) l w) le fits sees declarable (by_code ask code d place ks (Cells v ∷ ops) l w (InstrOf.DeclareCopy slot t) has)
    given_runs slot (OfObject q) e s w0 d place ks ops c l w le fits sees declarable has = by (object_at q.object w) (by_code ask code d place ks (Located q ∷ ops) l w (InstrOf.DeclareCopy slot t) has)
      where
        s0 : State
        s0 = at d place ks (Located q ∷ ops) l w

        by : (x : Option Object) → step ask code s0 ≡ moved l (Table.by_copy code slot t q.offset x ops (here d place ks w)) → Runs ask code (Kept k code w0) 6 8 s0 c (arrives e d (place + 1) ks ops) (taken_from ask k code setting call default t plain_type (declaring slot d) q.offset x c l w)
        by None go = stop_step ask code (Kept k code w0) 6 8 _ _ c 0 (arrives e d (place + 1) ks ops) UseAfterFree l (omega arith) go refl refl
        by (Some o) go = valued_runs slot (cells_at q.offset (size_of code t) o) e s w0 d place ks ops c l w s0 le fits sees declarable go

    pub copy_does : (slot : ℕ) (x : Reached) (e : Expr) → part_runs x k.records ≡ true → ((w0 : World) → Reads ask k code call default bound w0 t x (eval e)) → Does ask k code bound (λ a. copy_of slot t x a.stack) (λ d caught. object slot (Record t) (Some (eval e)) K d (last_of d))
    unfolding object if_given category_of opened_outcome
    copy_does slot x e runs reads a w0 d place ks ops c l w le fits sees has =
        let s = a.stack in
        let front = part_code x t s in
        let last : List Line = (InstrOf.DeclareCopy slot t, Operand (Record t) ∷ s) ∷ [] in
        let there = laid_back code place front last has in
        let declarable = subst (λ n. IsDeclarable code n t) (sym sees.long) (setting.valid.each (place + length front) (InstrOf.DeclareCopy slot t) (Operand (Record t) ∷ s) there.0 there.1).0 in
        let next = arrives (lands a place) d (place + length (copy_of slot t x s)) ks ops in
        let end : place + length front + 1 ≡ place + length (copy_of slot t x s) = omega (arith, length-append front last) in
        subst (Runs ask code (Kept k code w0) 0 0 (at d place ks ops l w) c next)
        (sym (ap (add 1) (given_is (eval e K d c l w) (declare Composite K (last_of d) slot (Record t)))))
        (added ask code (Kept k code w0) 1 0 0 0 0 _ c next (bind (eval e K d c l w) (on_goes (declaring slot d))) (omega arith) (omega arith)
        (value_then ask k code setting call default t plain_type (declaring slot d) bound w0 (λ y u. Kept k code w0 (way_of y) u) next 6 8 (omega arith) (omega arith) s d place ks ops c l w (eval e) x (reads w0) runs le fits (seen sees) (laid_front code place front last has)
        (λ p c1 l1 w1 lo fits1.
        subst (λ q. Runs ask code (Kept k code w0) 6 8 (at d (place + length front) ks (word p ∷ ops) l1 w1) c1 (arrives (lands a place) d q ks ops) (taken ask k code setting call default t plain_type (declaring slot d) p c1 l1 w1)) end
        (given_runs slot p (lands a place) s w0 d (place + length front) ks ops c1 l1 w1 (omega (arith, lo, le)) fits1 sees declarable there.0))
        (λ y c1 l1 w1 lo fits1. no_step ask code (Kept k code w0) 6 8 _ c1 0 next (Leaves (ByRaise y)) l1 w1 fits1 refl)))
