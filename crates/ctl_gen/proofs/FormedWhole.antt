-- The code of a well-typed program is valid, and the subprograms that such a program names are in its table.
use Rattle.std.proofs.Common.{◌<◌, ◌≡◌, ℕ, zero, suc, ◌+◌, ◌≤◌, List, [], ◌∷◌, ◌++◌, length, map, Option, Some, None, true, refl, sym, ap, ◌∙◌, subst, arith, length-append}
use Rattle.std.specs.Prelude.{option_map, slice_get}
use Rattle.std.proofs.lemmas.List.{length-map}
use Rattle.std.proofs.lemmas.Option.{slice_get-map}
use Rattle.ctl_program.specs.declared.types.RecordType.{RecordType}
use Rattle.ctl_program.specs.declared.types.Root.{Root}
use Rattle.ctl_program.specs.declared.types.Root.TheVariants.{BlockPool, Controlled, MarkPool, Untagged}
use Rattle.ctl_program.specs.declared.types.Ty.{Ty}
use Rattle.ctl_program.specs.declared.types.Ty.TheVariants.{Record}
use Rattle.ctl_program.specs.declared.types.Var.{Var}
use Rattle.ctl_program.specs.declared.operators.SubprogramKind.{SubprogramKind}
use Rattle.ctl_program.specs.declared.operators.SubprogramKind.TheVariants.{Procedure}
use Rattle.ctl_program.specs.declared.program.Subprogram.{Subprogram}
use Rattle.ctl_program.specs.declared.program.Checked.{Checked}
use Rattle.ctl_well_typed.specs.Setting as W
use Rattle.ctl_well_typed.specs.Programs.{AccessFine, Overrides, Pooled, Results, SubprogramFine, WellTyped, operation}
use Rattle.ctl_well_typed.specs.Programs as P
use Rattle.ctl_code.specs.declared.kinds.Kind.{Kind}
use Rattle.ctl_code.specs.declared.kinds.Kind.TheVariants.{Body}
use Rattle.ctl_code.specs.declared.code.Instr.{Instr}
use Rattle.ctl_code.specs.declared.code.Entry.{Entry}
use Rattle.ctl_code.specs.declared.code.Operations.{Operations}
use Rattle.ctl_code.specs.declared.code.Code.{Code}
use Rattle.ctl_code.specs.declared.homes.Declaration.TheVariants as DeclarationOf
use Rattle.ctl_code.specs.Demands.{with_counts}
use Rattle.ctl_code.specs.Windows.{Counts}
use Rattle.ctl_meaning.specs.Outcome.{program_error}
use Rattle.ctl_code.specs.Valid.{AreInScope, AreOperationsWithin, IsBegun, IsEntry, IsException, IsFine, IsInScope, IsOperationWithin, IsStorageInScope, IsValid, Leads, MayBeEntry, MayHaveVariable, MayLie, TakesObject, TakesStorage, storage_formals}
use Rattle.ctl_layout.specs.Around.{Line, Around, among, behind}
use Rattle.ctl_layout.specs.Layout as Layout
use Rattle.ctl_layout.specs.Layout.{all_defaults, behind_bodies, bodies, body_code, entries_from, entry_at, HasKinds, in_body, instructions_of, IsLaidOut, kinds_of, master_code, nowhere, outside, operations_in, operations_of, program_code}
use Rattle.ctl_layout.specs.Records.{adjust_by}
use Rattle.ctl_layout.specs.Run.{AreLinked, IsBody, IsRun, IsWritten, are_defaults_run}
use Rattle.ctl_gen.proofs.Known.{both_true}
use Rattle.ctl_gen.proofs.Place.{HasAt, has_all}
use Rattle.ctl_gen.proofs.Place as Place
use Rattle.ctl_gen.proofs.Formed.{AreFine, fine_both, FormedAt, Has, has_back, has_front}
use Rattle.ctl_gen.proofs.FormedAround.{Agrees, IsCreatable, IsHoused, Surrounds, agrees_body, named_around, size_around, surrounds_default, variable_there}
use Rattle.ctl_gen.proofs.FormedDefaults.{AllSettled, Settled, all_defaults_fine, all_stand, all_usable, own_run}
use Rattle.ctl_gen.proofs.FormedLayouts.{EachAtHome, SaysAround, alike, around, creatable, declarable, granted_within, home_of, layouts_laid, not_more, record_granted, said_of_record, said_of_subprogram, subprogram_granted}
use Rattle.ctl_gen.proofs.FormedCalls.{MayCall, MayNew, kind_by, named_level}
use Rattle.ctl_gen.proofs.FormedMasters.{MaySee, master_good, slots_told}

-- Tables ---------------------------------------------------------------------------------------------

-- each type has its operations
-- what holds of no operation and of one that the user wrote
adjust_has : (P : Option ℕ → Type 0) (x : Root) (o : Option ℕ) → P None → P o → P (adjust_by x o)
adjust_has P Untagged o none some = none
adjust_has P Controlled o none some = some
adjust_has P BlockPool o none some = some
adjust_has P MarkPool o none some = some

operations_at : (rs : List RecordType) (t : ℕ) (r : RecordType) → slice_get rs t ≡ Some r → slice_get (operations_of rs) t ≡ Some (operations_in r)
operations_at [] t r e = absurd (cc)
operations_at (x ∷ rs) zero r e = let same : x ≡ r = cc e in ap (λ (y : RecordType). Some (operations_in y)) same
operations_at (x ∷ rs) (suc t) r e = operations_at rs t r e

-- and they are those of a type
operations_from : (rs : List RecordType) (t : ℕ) (o : Operations) → slice_get (operations_of rs) t ≡ Some o → (r : RecordType) × (slice_get rs t ≡ Some r) × (operations_in r ≡ o)
operations_from [] t o e = absurd (cc)
operations_from (x ∷ rs) zero o e = let same : operations_in x ≡ o = cc e in (x, refl, same)
operations_from (x ∷ rs) (suc t) o e = operations_from rs t o e

-- each subprogram has its entry
entry_there : (first place n : ℕ) (ss : List Subprogram) (f : ℕ) (s : Subprogram) → slice_get ss f ≡ Some s → (at : ℕ) × (slice_get (entries_from first place n ss) f ≡ Some (entry_at at s))
entry_there first place n [] f s h = absurd (cc)
entry_there first place n (x ∷ ss) zero s h = let same : x ≡ s = cc h in (place, ap (λ (y : Subprogram). Some (entry_at place y)) same)
entry_there first place n (x ∷ ss) (suc f) s h = entry_there (first + 1) (place + length ((body_code first x).code nowhere n)) (n + length (body_code first x).texts) ss f s h

-- each formal has a slot
formals_first : (formals : List W.Formal) (others : W.Frame) → length formals ≤ length (map W.OfFormal formals ++ others)
formals_first formals others = let long = length-append (map W.OfFormal formals) others in let each = length-map formals W.OfFormal in omega (arith, long, each)

-- so a first one and others have as many slots
formal_slots : (formals : List W.Formal) (first : W.Formal) (rest : List W.Formal) (others : W.Frame) → formals ≡ first ∷ rest → suc (length rest) ≤ length (map W.OfFormal formals ++ others)
formal_slots formals first rest others e = subst (λ fs. suc (length rest) ≤ length (map W.OfFormal fs ++ others)) (sym e) (formals_first (first ∷ rest) others)

-- a subprogram is of the kind that its result tells
kind_told : {k : W.Setting} {home : W.Frames} {r : Option Ty} {kind : SubprogramKind} → Results k home r kind → kind ≡ kind_by r
kind_told P.procedure = refl
kind_told (P.function view) = refl

-- Subprograms that are named ------------------------------------------------------------------------

module _ (program : Checked) (typed : WellTyped program) where
  -- a subprogram of the table
  record Called (f : ℕ) (is : W.Signature) : Type 0 where
    body : Subprogram
    found : slice_get program.subprograms f ≡ Some body
    fine : SubprogramFine typed.k body is

  called : (home : W.Frames) (f : ℕ) (is : W.Signature) → W.Callable typed.k home f is → Called f is
  called home f is c =
      let s = alike W.Signature Subprogram typed.k.subprograms program.subprograms typed.fits.subprograms f is c.found in
      record { body = s.0; found = s.1; fine = typed.each_subprogram f s.0 is s.1 c.found }

  -- an operation of a type: a procedure that is declared among the masters around the type, with slots for so many formals
  record Operation (count f : ℕ) (home : W.Frames) : Type 0 where
    is : W.Signature
    callable : W.Callable typed.k home f is
    body : Subprogram
    found : slice_get program.subprograms f ≡ Some body
    kind : body.kind ≡ Procedure
    level : body.level ≤ length home
    slots : count ≤ (master_code body.body).slots

  -- no operation, or one such
  abbrev MayBeOperation : ℕ → W.Frames → Option ℕ → Type 0
  MayBeOperation count home None = Unit {0}
  MayBeOperation count home (Some f) = Operation count f home

  overrides : (home : W.Frames) (n : ℕ) (rest : List W.Formal) (o : Option ℕ) → Overrides typed.k home n rest o → MayBeOperation (suc (length rest)) home o
  overrides home n rest None h = tt
  overrides home n rest (Some f) (operation {is = is} c gives formals descends) =
      let s = called home f is c in
      let level = s.fine.level in
      let least = not_more is.home home c.encloses in
      let slots = slots_told s.fine.body in
      record {
        is = is;
        callable = c;
        body = s.body;
        found = s.found;
        kind = kind_told s.fine.result ∙ ap kind_by gives;
        level = omega (arith, level, least);
        slots = subst (λ m. suc (length rest) ≤ m) (sym slots) (formal_slots is.formals _ rest s.fine.others formals);
      }

  written : (count : ℕ) (home : W.Frames) (o : Option ℕ) → MayBeOperation count home o → IsWritten program.subprograms o
  written count home None h = tt
  written count home (Some f) h = (h.body, h.found)

  -- an operation of each type, of those that it has where it is, is one with so many formals
  abbrev EachOperation : ℕ → (RecordType → Option ℕ) → Type 0
  EachOperation count of = (t : ℕ) (r : RecordType) (home : W.Frames) → slice_get program.records t ≡ Some r → slice_get typed.k.record_homes t ≡ Some home → MayBeOperation count home (of r)

  initialize_written : EachOperation 1 (λ r. r.operations.initialize)
  initialize_written t r home e at = overrides home t [] r.operations.initialize (typed.each_record t r home e at).operations.initialize

  adjust_written : EachOperation 1 (λ r. r.operations.adjust)
  adjust_written t r home e at = overrides home t [] r.operations.adjust (typed.each_record t r home e at).operations.adjust

  finalize_written : EachOperation 1 (λ r. r.operations.finalize)
  finalize_written t r home e at = overrides home t [] r.operations.finalize (typed.each_record t r home e at).operations.finalize

  -- those of a pool (13.11)
  allocate_written : EachOperation storage_formals (λ r. r.operations.allocate)
  allocate_written t r home e at = overrides home t _ r.operations.allocate (typed.each_record t r home e at).operations.allocate

  deallocate_written : EachOperation storage_formals (λ r. r.operations.deallocate)
  deallocate_written t r home e at = overrides home t _ r.operations.deallocate (typed.each_record t r home e at).operations.deallocate

  -- so the subprogram that it names is in the table
  each_written : (count : ℕ) (of : RecordType → Option ℕ) → EachOperation count of → (t : ℕ) (r : RecordType) → slice_get program.records t ≡ Some r → IsWritten program.subprograms (of r)
  each_written count of each t r e = let home = home_of program typed t r e in written count home.0 (of r) (each t r home.0 e home.1)

  pub linked_of : AreLinked program
  linked_of = record {
    main = let s = called [] program.main _ typed.main in (s.body, s.found);
    initialize = each_written 1 (λ r. r.operations.initialize) initialize_written;
    adjust = each_written 1 (λ r. r.operations.adjust) adjust_written;
    finalize = each_written 1 (λ r. r.operations.finalize) finalize_written;
    allocate = each_written storage_formals (λ r. r.operations.allocate) allocate_written;
    deallocate = each_written storage_formals (λ r. r.operations.deallocate) deallocate_written;
  }

-- Bodies ---------------------------------------------------------------------------------------------

module _ (code : Code) (records : List RecordType) where
  -- the body of the subprogram of a number is well formed wherever it stands, and its slots stand before it
  abbrev GoodBody : ℕ → Subprogram → Type 0
  GoodBody f s = (body_code f s).runs (outside records) ≡ true → (a : Around) (n p : ℕ) → HasAt code.texts.items n (body_code f s).texts → FormedAt code p ((body_code f s).code a n) (in_body f s).stack None

  -- bodies that stand from a place on are fine, and before the first instruction of each there stand its slots; the first has this number
  record BodiesFormed (first : ℕ) (a : Around) (place n : ℕ) (ss : List Subprogram) : Type 0 where
    fine : AreFine code place ((bodies first ss).code a n)
    begin : (i : ℕ) (e : Entry) → slice_get (entries_from first place n ss) i ≡ Some e → IsBegun code (first + i) e

  begins : (first place : ℕ) (s : Subprogram) (rest : List Entry) → Leads code place (in_body first s).stack → ((i : ℕ) (e : Entry) → slice_get rest i ≡ Some e → IsBegun code (first + 1 + i) e) → (i : ℕ) (e : Entry) → slice_get (entry_at place s ∷ rest) i ≡ Some e → IsBegun code (first + i) e
  begins first place s rest here more zero e h =
      let same : entry_at place s ≡ e = cc h in
      let own : first ≡ first + 0 = omega arith in
      subst (λ f. IsBegun code f e) own (subst (λ (y : Entry). IsBegun code first y) same here)
  begins first place s rest here more (suc i) e h = let next : first + 1 + i ≡ first + suc i = omega arith in subst (λ f. IsBegun code f e) next (more i e h)

  bodies_formed : (first : ℕ) (ss : List Subprogram) → (bodies first ss).runs (outside records) ≡ true → ((i : ℕ) (s : Subprogram) → slice_get ss i ≡ Some s → GoodBody (first + i) s) → (a : Around) (place n : ℕ) → HasAt code.texts.items n (bodies first ss).texts → Has code place ((bodies first ss).code a n) None → BodiesFormed first a place n ss
  bodies_formed first [] runs good a place n texts h = record { fine = tt; begin = λ i e e1. absurd (cc) }
  bodies_formed first (s ∷ ss) runs good a place n texts h =
      let x = body_code first s in
      let lines = x.code a n in
      let size = length lines in
      let n1 = n + length x.texts in
      let b : Around = behind size a in
      let rest = bodies (first + 1) ss in
      let more = rest.code b n1 in
      let both = both_true (x.runs (outside records)) (rest.runs (outside records)) runs in
      let own : first + 0 ≡ first = omega arith in
      let g = subst (λ f. GoodBody f s) own (good 0 s refl) both.0 a n place (Place.has_front code.texts.items n x.texts rest.texts texts) (has_front code place lines more None None h tt) in
      let later : (i : ℕ) (t : Subprogram) → slice_get ss i ≡ Some t → GoodBody (first + 1 + i) t = λ i t e. let next : first + suc i ≡ first + 1 + i = omega arith in subst (λ f. GoodBody f t) next (good (suc i) t e) in
      let z = bodies_formed (first + 1) ss both.1 later b (place + size) n1 (Place.has_back code.texts.items n x.texts rest.texts texts) (has_back code place lines more None h) in
      record {
        fine = fine_both code place lines more g.1 z.fine;
        begin = begins first place s (entries_from (first + 1) (place + size) n1 ss) g.0 z.begin;
      }

-- Whole code -----------------------------------------------------------------------------------------

-- an instruction of a stretch
fine_at : (code : Code) (place : ℕ) (ls : List Line) → AreFine code place ls → (n : ℕ) (i : Instr) (s : List Kind) → slice_get (instructions_of ls) n ≡ Some i → slice_get (kinds_of ls) n ≡ Some s → IsFine code (place + n) i s
fine_at code place [] h n i s e g = absurd (cc)
fine_at code place (l ∷ ls) h zero i s e g =
    let same : l.0 ≡ i = cc e in
    let same1 : l.1 ≡ s = cc g in
    let here : place ≡ place + 0 = omega arith in
    subst (λ p. IsFine code p i s) here (subst (λ x. IsFine code place x s) same (subst (λ x. IsFine code place l.0 x) same1 h.0))
fine_at code place (l ∷ ls) h (suc n) i s e g =
    let next : place + 1 + n ≡ place + suc n = omega arith in
    subst (λ p. IsFine code p i s) next (fine_at code (place + 1) ls h.1 n i s e g)

-- what stands in the table before these lines
table_has : (code : Code) (ls : List Line) (place : ℕ) → HasAt code.kinds place (kinds_of ls) → Has code place ls None
table_has code [] place h = tt
table_has code (l ∷ ls) place h = (h.0, table_has code ls (place + 1) h.1)

as_long : (ls : List Line) → length (kinds_of ls) ≡ length (instructions_of ls)
as_long [] = refl
as_long (l ∷ ls) = let e = as_long ls in omega (arith, e)

module _ (program : Checked) (code : Code) (laid : IsLaidOut program code) (kinds : HasKinds program code) (run_it : IsRun program) (typed : WellTyped program) (says : SaysAround code typed.k) where
  linked : AreLinked program
  linked = linked_of program typed

  -- Tables -------------------------------------------------------------------------------------------

  entry_of : (f : ℕ) (s : Subprogram) → slice_get program.subprograms f ≡ Some s → (at : ℕ) × (slice_get code.entries.items f ≡ Some (entry_at at s))
  entry_of f s h = subst (λ es. (at : ℕ) × (slice_get es f ≡ Some (entry_at at s))) (sym laid.entries) (entry_there 0 1 0 program.subprograms f s h)

  is_entry : (f : ℕ) → IsBody program.subprograms f → IsEntry code f
  is_entry f body = let e = entry_of f body.0 body.1 in (entry_at e.0 body.0, e.1)

  may_be_entry : (o : Option ℕ) → IsWritten program.subprograms o → MayBeEntry code o
  may_be_entry None h = tt
  may_be_entry (Some f) h = is_entry f h

  operations_there : (t : ℕ) (r : RecordType) → slice_get program.records t ≡ Some r → slice_get code.records.items t ≡ Some (operations_in r)
  operations_there t r h = ap (λ os. slice_get os t) laid.records ∙ operations_at program.records t r h

  records_of : (t : ℕ) (o : Operations) → slice_get code.records.items t ≡ Some o → MayBeEntry code o.initialize × MayBeEntry code o.finalize × MayBeEntry code o.adjust
  records_of t o h =
      let x = operations_from program.records t o (sym (ap (λ os. slice_get os t) laid.records) ∙ h) in
      subst (λ (z : Operations). MayBeEntry code z.initialize × MayBeEntry code z.finalize × MayBeEntry code z.adjust) x.2
      (may_be_entry x.0.operations.initialize (linked.initialize t x.0 x.1), may_be_entry x.0.operations.finalize (linked.finalize t x.0 x.1), adjust_has (MayBeEntry code) x.0.root x.0.operations.adjust tt (may_be_entry x.0.operations.adjust (linked.adjust t x.0 x.1)))

  takes_object : (home : W.Frames) (o : Option ℕ) → MayBeOperation program typed 1 home o → TakesObject code o
  takes_object home None h = tt
  takes_object home (Some f) h = let x = entry_of f h.body h.found in (entry_at x.0 h.body, x.1, h.kind, h.slots)

  formals_of : (t : ℕ) (o : Operations) → slice_get code.records.items t ≡ Some o → TakesObject code o.initialize × TakesObject code o.finalize × TakesObject code o.adjust
  formals_of t o h =
      let x = operations_from program.records t o (sym (ap (λ os. slice_get os t) laid.records) ∙ h) in
      let home = home_of program typed t x.0 x.1 in
      subst (λ (z : Operations). TakesObject code z.initialize × TakesObject code z.finalize × TakesObject code z.adjust) x.2 (
        takes_object home.0 x.0.operations.initialize (initialize_written program typed t x.0 home.0 x.1 home.1),
        takes_object home.0 x.0.operations.finalize (finalize_written program typed t x.0 home.0 x.1 home.1),
        adjust_has (TakesObject code) x.0.root x.0.operations.adjust tt (takes_object home.0 x.0.operations.adjust (adjust_written program typed t x.0 home.0 x.1 home.1)),
      )

  takes_storage : (home : W.Frames) (o : Option ℕ) → MayBeOperation program typed storage_formals home o → TakesStorage code o
  takes_storage home None h = tt
  takes_storage home (Some f) h = let x = entry_of f h.body h.found in (entry_at x.0 h.body, x.1, h.kind, h.slots)

  storage_of : (t : ℕ) (o : Operations) → slice_get code.records.items t ≡ Some o → TakesStorage code o.allocate × TakesStorage code o.deallocate
  storage_of t o h =
      let x = operations_from program.records t o (sym (ap (λ os. slice_get os t) laid.records) ∙ h) in
      let home = home_of program typed t x.0 x.1 in
      subst (λ (z : Operations). TakesStorage code z.allocate × TakesStorage code z.deallocate) x.2
      (takes_storage home.0 x.0.operations.allocate (allocate_written program typed t x.0 home.0 x.1 home.1), takes_storage home.0 x.0.operations.deallocate (deallocate_written program typed t x.0 home.0 x.1 home.1))

  -- an operation that can be called at its type's home is in scope in as many masters as are around that
  in_scope : (count : ℕ) (home : W.Frames) (masters : ℕ) (o : Option ℕ) → length home ≤ masters → MayBeOperation program typed count home o → IsInScope code masters o
  in_scope count home masters None least h = tt
  in_scope count home masters (Some f) least h =
      let x = entry_of f h.body h.found in
      let level = h.level in
      (entry_at x.0 h.body, x.1, omega (arith, least, level))

  operations_in_scope : EachAtHome program typed code laid says (AreInScope code)
  operations_in_scope t r home e at =
      let masters = length home in
      let least : masters ≤ masters = omega arith in (
        operations_in r,
        operations_there t r e,
        in_scope 1 home masters r.operations.initialize least (initialize_written program typed t r home e at),
        in_scope 1 home masters r.operations.finalize least (finalize_written program typed t r home e at),
        adjust_has (IsInScope code masters) r.root r.operations.adjust tt (in_scope 1 home masters r.operations.adjust least (adjust_written program typed t r home e at)),
      )

  storage_in_scope : EachAtHome program typed code laid says (IsStorageInScope code)
  storage_in_scope t r home e at =
      let masters = length home in
      let least : masters ≤ masters = omega arith in (
        operations_in r,
        operations_there t r e,
        in_scope storage_formals home masters r.operations.allocate least (allocate_written program typed t r home e at),
        in_scope storage_formals home masters r.operations.deallocate least (deallocate_written program typed t r home e at),
      )

  -- and the masters around it stand around the type
  within : (count t : ℕ) (home : W.Frames) (o : Option ℕ) → slice_get typed.k.record_homes t ≡ Some home → MayBeOperation program typed count home o → IsOperationWithin code.homes t o
  within count t home None at h = tt
  within count t home (Some f) at h = granted_within code typed.k says t home (DeclarationOf.Subprogram f) at (subprogram_granted code typed.k says home f h.is h.callable)

  operations_within : EachAtHome program typed code laid says (λ n t. AreOperationsWithin code t)
  operations_within t r home e at = (
    operations_in r,
    operations_there t r e,
    within 1 t home r.operations.initialize at (initialize_written program typed t r home e at),
    within 1 t home r.operations.finalize at (finalize_written program typed t r home e at),
    adjust_has (IsOperationWithin code.homes t) r.root r.operations.adjust tt (within 1 t home r.operations.adjust at (adjust_written program typed t r home e at)),
    within storage_formals t home r.operations.allocate at (allocate_written program typed t r home e at),
    within storage_formals t home r.operations.deallocate at (deallocate_written program typed t r home e at),
  )

  -- a subprogram that can be called there is in scope there, and has a slot for each formal
  may_call : MayCall code typed.k
  may_call env f is c =
      let s = called program typed env f is c in
      let x = entry_of f s.body s.found in
      let e = entry_at x.0 s.body in
      let level = s.fine.level in
      let least = not_more is.home env c.encloses in
      ((e, x.1, omega (arith, level, least)), (e, x.1, kind_told s.fine.result, subst (λ m. length is.formals ≤ m) (sym (slots_told s.fine.body)) (formals_first is.formals s.fine.others)), subprogram_granted code typed.k says env f is c)

  -- the table has the collection of each access type in view, which stands in one of the masters around
  collection_there : (env : W.Frames) (a : ℕ) → (to : W.HasAccess typed.k env a) → slice_get code.accesses.items a ≡ Some (Layout.home_of to.is)
  collection_there env a to =
      let there : slice_get program.accesses a ≡ Some to.is = sym (ap (λ xs. slice_get xs a) typed.fits.accesses) ∙ to.found in
      ap (λ vs. slice_get vs a) laid.accesses ∙ slice_get-map Layout.home_of program.accesses a ∙ ap (option_map Layout.home_of) there

  access_fine : (env : W.Frames) (a : ℕ) → (to : W.HasAccess typed.k env a) → AccessFine typed.k a to.is to.home
  access_fine env a to = typed.each_access a to.is to.home (sym (ap (λ xs. slice_get xs a) typed.fits.accesses) ∙ to.found) to.at_home

  -- so each stands in its slot, and the pool of the type does too
  pool_there : (env home : W.Frames) (s : List Kind) (o : Option Var) → W.Encloses home env → Surrounds code env s → Pooled typed.k home o → MayHaveVariable code.homes s o
  pool_there env home s None encloses agrees P.standard = tt
  pool_there env home s (Some v) encloses agrees (P.from_pool {t = t} names rooted pool) = variable_there code env s v (W.Declared (Record t)) agrees (named_around home env v (W.Declared (Record t)) encloses names)

  housed : (env : W.Frames) (a : ℕ) → W.HasAccess typed.k env a → IsHoused code env a
  housed env a to s agrees =
      let fine = access_fine env a to in (
        Layout.home_of to.is,
        collection_there env a to,
        variable_there code env s to.is.collection (W.Collection a) agrees (named_around to.home env to.is.collection (W.Collection a) to.encloses fine.collection),
        pool_there env to.home s to.is.pool to.encloses agrees fine.pool,
      )

  seen : MaySee code typed.k
  seen env a to = (collection_there env a to, housed env a to)

  -- an object of a type in view may lie in these masters
  may_lie : (home : W.Frames) (t : Ty) → W.InView typed.k home t → MayLie code (length home) t
  may_lie home (Record t) view = declarable program typed code laid says home t view
  may_lie home t view = tt

  -- and can be made where these stand around
  can_be_made : (home env : W.Frames) (t : Ty) → W.Encloses home env → W.InView typed.k home t → IsCreatable code env t
  can_be_made home env (Record t) encloses view = ((operations_in view.is, operations_there t view.is (sym (ap (λ rs. slice_get rs t) typed.fits.records) ∙ view.found)), λ level. let inner = record_granted code typed.k says home t view level in let outer = size_around home env level encloses in omega (arith, inner, outer))
  can_be_made home env t encloses view = (tt, tt)

  -- and the type that it designates is in view there
  may_new : MayNew code typed.k
  may_new env a t to designates =
      let fine = access_fine env a to in
      let level = fine.level in
      let least = not_more to.home env to.encloses in
      let view : W.InView typed.k to.home t = subst (W.InView typed.k to.home) designates fine.designated in (
        (Layout.home_of to.is, collection_there env a to, named_level fine.collection, omega (arith, level, least), subst (λ n. MayLie code n t) (sym level) (may_lie to.home t view)),
        housed env a to,
        can_be_made to.home env t to.encloses view,
      )

  raisable : (x : ℕ) → x < typed.k.exceptions → x < length code.exceptions.items
  raisable x known = let all = ap (λ (names : List (List ℕ)). length names) laid.exceptions in omega (arith, known, typed.fits.exceptions, all)

  -- Program_Error is the second exception
  failing : IsException code program_error
  unfolding program_error
  failing = raisable 1 (let known = typed.fits.exceptions in let three = typed.exceptions in omega (arith, known, three))

  -- Instructions -------------------------------------------------------------------------------------

  stands : Has code 0 (program_code program) None
  stands = table_has code (program_code program) 0 (subst (λ xs. HasAt xs 0 (kinds_of (program_code program))) (sym kinds.kinds) (has_all (kinds_of (program_code program)) []))

  printed : HasAt code.texts.items 0 (bodies 0 program.subprograms).texts
  printed = subst (λ xs. HasAt xs 0 (bodies 0 program.subprograms).texts) (sym laid.texts) (has_all (bodies 0 program.subprograms).texts [])

  good_body : (f : ℕ) (s : Subprogram) (is : W.Signature) → slice_get typed.k.subprograms f ≡ Some is → SubprogramFine typed.k s is → GoodBody code program.records f s
  good_body f s is there h runs a n p texts =
      let frame = map W.OfFormal is.formals ++ h.others in
      let slots = (master_code s.body).slots in
      let deep : s.level + 1 ≡ length (is.home ++ frame ∷ []) = (let level = h.level in omega (arith, level, length-append is.home (frame ∷ []))) in
      let inside = subst (λ masters. (master_code s.body).inside.runs (among program.records masters) ≡ true) deep runs in
      let over = subst (λ m. Agrees code (is.home ++ frame ∷ []) (Body s.level m f ∷ [])) (sym (slots_told h.body)) (agrees_body code is.home frame s.level f h.level (said_of_subprogram code typed.k says f is there)) in
      master_good code program.records typed.k (creatable program typed code laid says) may_call may_new seen raisable failing h.body inside (Body s.level slots f) [] n p over texts tt

  good : (f : ℕ) (s : Subprogram) → slice_get program.subprograms f ≡ Some s → GoodBody code program.records (0 + f) s
  good f s e =
      let is = alike Subprogram W.Signature program.subprograms typed.k.subprograms (sym typed.fits.subprograms) f s e in
      let own : f ≡ 0 + f = omega arith in
      subst (λ n. GoodBody code program.records n s) own (good_body f s is.0 is.1 (typed.each_subprogram f s is.0 e is.1))

  runs : ((bodies 0 program.subprograms).runs (outside program.records) ≡ true) × (are_defaults_run program.records program.records ≡ true)
  runs = both_true ((bodies 0 program.subprograms).runs (outside program.records)) (are_defaults_run program.records program.records) run_it

  abbrev Lines : List Line
  Lines = (bodies 0 program.subprograms).code nowhere 0

  formed : BodiesFormed code program.records 0 nowhere 1 0 program.subprograms
  formed = bodies_formed code program.records 0 program.subprograms runs.0 good nowhere 1 0 printed (has_front code 1 Lines (all_defaults 0 program.records) None None stands.1 tt)

  -- Defaults -----------------------------------------------------------------------------------------

  defaults_stand : Has code (behind_bodies program) (all_defaults 0 program.records) None
  defaults_stand = has_back code 1 Lines (all_defaults 0 program.records) None stands.1

  settled_at : (t : ℕ) (r : RecordType) → slice_get program.records t ≡ Some r → Settled code t r
  settled_at t r e =
      let home = home_of program typed t r e in
      let fine = typed.each_record t r home.0 e home.1 in
      (home.0, surrounds_default code home.0 r.level t fine.level (said_of_record code typed.k says t home.0 home.1), all_usable code program.records typed.k may_call may_new fine.own (own_run program.records program.records runs.1 t r e))

  settled : AllSettled code 0 program.records
  settled i t r e same = let here : i ≡ t = omega (arith, same) in subst (λ n. Settled code n r) here (settled_at i r e)

  -- the main procedure is declared in no master, and has no formals
  all_fine : AreFine code 0 (program_code program)
  all_fine = let main = may_call [] program.main _ typed.main in ((refl, main.0, main.1), fine_both code 1 Lines (all_defaults 0 program.records) formed.fine (all_defaults_fine code 0 (behind_bodies program) program.records settled defaults_stand))

  said_valid : IsValid code
  said_valid = record {
    long = ap length kinds.kinds ∙ as_long (program_code program) ∙ sym (ap length laid.instructions);
    start = (stands.0, (program.main, ap (λ xs. slice_get xs 0) laid.instructions));
    each = λ place i stack here standing.
        let from_zero : 0 + place ≡ place = omega arith in
        subst (λ p. IsFine code p i stack) from_zero
        (fine_at code 0 (program_code program) all_fine place i stack (sym (ap (λ xs. slice_get xs place) laid.instructions) ∙ here) (sym (ap (λ xs. slice_get xs place) kinds.kinds) ∙ standing));
    room = kinds.room;
    entries = λ f e h. let own : 0 + f ≡ f = omega arith in subst (λ n. IsBegun code n e) own (formed.begin f e (sym (ap (λ es. slice_get es f) laid.entries) ∙ h));
    records = records_of;
    formals = formals_of;
    storage = storage_of;
    layouts = layouts_laid program typed code laid says operations_in_scope storage_in_scope operations_within (all_stand program typed code laid says settled defaults_stand);
  }

-- Code that says of the masters around declarations as little as it can -----------------------------

pub is_valid : (program : Checked) (code : Code) → IsLaidOut program code → HasKinds program code → ((most : Counts) → IsValid (with_counts most code) → IsValid code) → IsRun program → WellTyped program → IsValid code
is_valid program code laid kinds least run_it typed =
    let counts = around typed.k in
    least counts (said_valid program (with_counts counts code) (laid_so counts) (record { kinds = kinds.kinds; room = kinds.room }) run_it typed (record { subprograms = refl; records = refl }))
  where
    laid_so : (counts : Counts) → IsLaidOut program (with_counts counts code)
    laid_so counts = record {
      instructions = laid.instructions;
      entries = laid.entries;
      records = laid.records;
      layouts = laid.layouts;
      defaults = laid.defaults;
      accesses = laid.accesses;
      texts = laid.texts;
      exceptions = laid.exceptions;
    }
