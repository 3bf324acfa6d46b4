-- The code of each well-typed statement and master is well formed.
use Rattle.std.proofs.Common.{◌<◌, ◌≡◌, ℕ, ◌+◌, List, [], ◌∷◌, ◌++◌, length, map, true, false, Option, Some, None, option_map, refl, sym, ap, ◌∙◌, subst, arith, length-append}
use Rattle.std.specs.Prelude.{◌&&◌, slice_get}
use Rattle.ctl_program.specs.declared.types.Ty.{Ty}
use Rattle.ctl_program.specs.declared.types.Ty.TheVariants.{Integer, Count, Boolean, Address, Handle, Access, Record}
use Rattle.ctl_program.specs.declared.types.Var.{Var}
use Rattle.ctl_program.specs.declared.types.Root.{Root}
use Rattle.ctl_program.specs.declared.types.RecordType.{RecordType}
use Rattle.ctl_program.specs.declared.expression.Actual.{Actual}
use Rattle.ctl_program.specs.declared.expression.Expr.{Expr}
use Rattle.ctl_program.specs.declared.statement.Association.{Association}
use Rattle.ctl_program.specs.declared.statement.Item.{Item}
use Rattle.ctl_program.specs.declared.statement.Item.TheVariants.{Collections, Object, Pool}
use Rattle.ctl_program.specs.declared.statement.Stmt.{Stmt}
use Rattle.ctl_program.specs.declared.statement.Stmt.TheVariants.{rolls-Assign, rolls-AssignRecord, rolls-Block, rolls-Call, rolls-Dispatch, rolls-Exit, rolls-For, rolls-Free, rolls-If, rolls-LibraryAllocate, rolls-LibraryDeallocate, rolls-Loop, rolls-NewLine, rolls-Nothing, rolls-Null, rolls-Put, rolls-PutLine, rolls-Raise, rolls-RaiseAgain, rolls-Release, rolls-Return, rolls-While}
use Rattle.ctl_program.specs.declared.statement.Arm.{Arm}
use Rattle.ctl_program.specs.declared.statement.Choices.{Choices}
use Rattle.ctl_program.specs.declared.statement.Handler.{Handler}
use Rattle.ctl_program.specs.declared.statement.Master.{Master}
use Rattle.ctl_well_typed.specs.Setting as W
use Rattle.ctl_well_typed.specs.Expressions.{Perhaps}
use Rattle.ctl_well_typed.specs.Expressions as T
use Rattle.ctl_well_typed.specs.Statements.{Chosen, Done, DoneEach, Elaborated, ElaboratedEach, Fills, GuardedEach, HandledEach, Mastered, Raised, Returns}
use Rattle.ctl_well_typed.specs.Statements as D
use Rattle.ctl_code.specs.declared.kinds.Kind.{Kind}
use Rattle.ctl_code.specs.declared.kinds.Kind.TheVariants.{Block}
use Rattle.ctl_code.specs.declared.code.DiscriminantOrder.{DiscriminantOrder}
use Rattle.ctl_code.specs.declared.code.Instr.TheVariants as InstrOf
use Rattle.ctl_code.specs.declared.code.Way.TheVariants as WayOf
use Rattle.ctl_code.specs.declared.code.Code.{Code}
use Rattle.ctl_code.specs.declared.homes.Declaration.TheVariants as DeclarationOf
use Rattle.ctl_code.specs.Windows.{OwnsSlot}
use Rattle.ctl_meaning.specs.Outcome.{program_error}
use Rattle.ctl_code.specs.Valid.{IsAtEnd, IsDeclarable, IsException, IsScalar}
use Rattle.ctl_layout.specs.Around.{Site, among, behind, local_at, out_to}
use Rattle.ctl_layout.specs.Parts.{Reached, Variable, Part, Object, any_type, first_position, part_runs, parts_run, Result}
use Rattle.ctl_layout.specs.Values.{ValueCode, actual_code, copied, held, sourced, value_code, value_type, reached_by}
use Rattle.ctl_layout.specs.Records.{is_plain, is_pool, is_run_type}
use Rattle.ctl_layout.specs.Defaults.{is_assignable}
use Rattle.ctl_layout.specs.Layout as Layout
use Rattle.ctl_layout.specs.Layout.{ArmCode, HandlerCode, ItemCode, MasterCode, StatementCode, all, all_items, arm_code, arms_run, assign, assign_record, block, call, call_nothing, exit, free, gathers_code, return, return_held, return_of, return_record, handled, handler_code, handlers_run, has_choice, in_master, inside, item_code, library_allocate, library_deallocate, master_code, missing_statement, order_of, ordered_pool, statement_code, tested, valued, with_value}
use Rattle.ctl_layout.proofs.Extensions.{both_true}
use Rattle.ctl_layout.proofs.TreeLayers.{arm_roll, layer_of, master_roll, handler_roll}
use Rattle.ctl_gen.proofs.Place.{HasAt}
use Rattle.ctl_gen.proofs.Formed.{both, both_at, Formed, FormedAt, none, one}
use Rattle.ctl_gen.proofs.FormedAround.{Agrees, Granted, Surrounds, IsHoused, MayHold, agrees_inside, granted_home, leave_behind, leaves_formed, newest_slot, newest_there}
use Rattle.ctl_gen.proofs.FormedArms.{GoodArms, branches_stay}
use Rattle.ctl_gen.proofs.FormedHandlers.{AreChoices, AreExceptions, GoodHandlers, StaysAtEnd, handled_stays}
use Rattle.ctl_gen.proofs.FormedCalls.{MayCall, MayNew, call_formed, named_level}
use Rattle.ctl_gen.proofs.FormedExpressions.{copied_found, name_found, source_found, actuals_good, has_formals, typed_fine}
use Rattle.ctl_gen.proofs.FormedLines.{block_formed}
use Rattle.ctl_gen.proofs.FormedParts.{IsFound, IsFoundAt, record_formed}
use Rattle.ctl_emitter.proofs.Walked.{part_begun}
use Rattle.ctl_gen.proofs.FormedStatements.{MayDeclare, Stays, all_stay, allocate_formed, allocate_into_formed, assign_formed, assign_part_formed, copy_formed, deallocate_formed, declaration_formed, dropped_formed, for_stays, free_formed, free_part_formed, leaves_stay, leaves_when_stay, loop_stays, pool_formed, record_returned, returned_formed, tested_turns, valued_formed}
use Rattle.ctl_gen.proofs.FormedTexts.{print_formed}
use Rattle.ctl_gen.proofs.FormedTypes.{run_scalar}
use Rattle.ctl_gen.proofs.FormedValues.{Fine, Usable, usable_as, value_usable}

-- a master has as many slots as it is told to
pub slots_told : {k : W.Setting} {env : W.Frames} {f : W.Frame} {a : D.Around} {m : Master} → Mastered k env f a m → (master_code m).slots ≡ length f
slots_told (D.master {f = f} {is = items} {body = body} {hs = hs} elaborated done handled) =
    ap (λ (z : MasterCode). z.slots) (master_roll (record { slots = length f; items = items; body = body; handlers = hs }))

-- the table has the home of each access type in view, which has its slot in one of the masters around
abbrev pub MaySee : Code → W.Setting → Type 0
MaySee code k = (env : W.Frames) (a : ℕ) → (to : W.HasAccess k env a) → (slice_get code.accesses.items a ≡ Some (Layout.home_of to.is)) × IsHoused code env a

-- the operations of each record type that is declared around a place are declared there too, and so is each subprogram that can be called
-- there, with slots for its formals; the collection of each access type stands in its slot of one of the masters around; and Program_Error is
-- an exception of the table
module _ (code : Code) (records : List RecordType) (k : W.Setting) (declarable : (env : W.Frames) (t : ℕ) → W.HasRecord k env t → IsDeclarable code (length env) t × Granted code env (DeclarationOf.Record t)) (may_call : MayCall code k) (may_new : MayNew code k) (seen : MaySee code k) (raisable : (x : ℕ) → x < k.exceptions → x < length code.exceptions.items) (fails : IsException code program_error) where
  -- Items ------------------------------------------------------------------------------------------

  may_hold : (env : W.Frames) (t : ℕ) (s : List Kind) → Surrounds code env s → W.HasRecord k env t → MayHold code s t
  may_hold env t s agrees view =
      let may = declarable env t view in
      (subst (λ n. IsDeclarable code n t) (sym agrees.0) may.0, granted_home code env s (DeclarationOf.Record t) agrees may.1)

  may_declare : (env : W.Frames) (ty : Ty) (s : List Kind) → Surrounds code env s → W.InView k env ty → MayDeclare code s ty
  may_declare env (Record t) s agrees view = may_hold env t s agrees view
  may_declare env Integer s agrees view = tt
  may_declare env Count s agrees view = tt
  may_declare env Boolean s agrees view = tt
  may_declare env Address s agrees view = tt
  may_declare env Handle s agrees view = tt
  may_declare env (Access a) s agrees view = tt

  abbrev GoodItem : W.Frames → ItemCode → Type 0
  GoodItem env x = x.runs records ≡ true → (s : List Kind) → Agrees code env s → Formed code (x.code s) s (Some s)

  -- the slot that a declaration fills is there
  filled : (env : W.Frames) (slot : ℕ) (h : W.Holding) (s : List Kind) → Fills env slot h → Agrees code env s → OwnsSlot s slot
  filled env slot h s (D.fills names) agrees = newest_slot code env s (record { level = length env; slot = slot }) h agrees names refl

  valued_good : (env : W.Frames) (slot : ℕ) (ty : Ty) (x : ValueCode) (s : List Kind) → Surrounds code env s → OwnsSlot s slot → (x.runs records ≡ true → Fine code env x ty) → (valued slot ty x).runs records ≡ true → Formed code ((valued slot ty x).code s) s (Some s)
  valued_good env slot ty x s agrees there fine runs =
      let g = both_true (is_run_type ty) (x.runs records) runs in
      valued_formed code env slot ty x s agrees there (usable_as code env x ty (run_scalar ty g.0) (fine g.1))

  -- a declaration with a value
  given_good : (env : W.Frames) (slot : ℕ) (ty : Ty) (e : Expr) {s : List Kind} → W.InView k env ty → OwnsSlot s slot → ((t : ℕ) → IsFoundAt code env records t (copied t (value_code e))) → ((value_code e).runs records ≡ true → Fine code env (value_code e) ty) → (with_value slot ty (value_code e)).runs records ≡ true → Surrounds code env s → Formed code ((with_value slot ty (value_code e)).code s) s (Some s)
  given_good env slot (Record t) e {s} view there found fine runs agrees = copy_formed code env records slot t (copied t (value_code e)) s agrees there (found t) runs (may_hold env t s agrees view)
  given_good env slot Integer e {s} view there found fine runs agrees = valued_good env slot Integer (value_code e) s agrees there fine runs
  given_good env slot Count e {s} view there found fine runs agrees = valued_good env slot Count (value_code e) s agrees there fine runs
  given_good env slot Boolean e {s} view there found fine runs agrees = valued_good env slot Boolean (value_code e) s agrees there fine runs
  given_good env slot Address e {s} view there found fine runs agrees = valued_good env slot Address (value_code e) s agrees there fine runs
  given_good env slot Handle e {s} view there found fine runs agrees = valued_good env slot Handle (value_code e) s agrees there fine runs
  given_good env slot (Access a) e {s} view there found fine runs agrees = valued_good env slot (Access a) (value_code e) s agrees there fine runs

  object_good : (env : W.Frames) (slot : ℕ) (ty : Ty) (o : Option Expr) → Fills env slot (W.Declared ty) → W.InView k env ty → Perhaps k env o ty → GoodItem env (item_code (Object slot ty o))
  object_good env slot ty None fresh view T.left_out runs s agrees =
      declaration_formed code records slot ty s runs (filled env slot (W.Declared ty) s fresh agrees) (may_declare env ty s agrees.0 view)
  object_good env slot ty (Some e) fresh view (T.given h) runs s agrees = given_good env slot ty e view (filled env slot (W.Declared ty) s fresh agrees) (λ t. copied_found code records k may_call may_new t h) (typed_fine code records k may_call may_new h) runs agrees.0

  -- each collection is made in the master of its access type
  gathers_good : {env : W.Frames} {as' : List ℕ} → D.Gathers k env as' → (count : ℕ) (s : List Kind) → Agrees code env s → Formed code (gathers_code as' count s) s (Some s)
  gathers_good D.no_more_collections count s agrees = none code s
  gathers_good {env} (D.one_more_collection {a = a} {more = more} of level names rest) count s agrees =
      let least = named_level names in
      let gather = InstrOf.Gather a (Layout.layer_of more (count + 1)) in
      both code ((gather, s) ∷ []) (gathers_code more (count + 1) s) s s (Some s)
      (one code gather s (Some s) (λ p next. ((Layout.home_of of.is, (seen env a of).0, level ∙ sym agrees.0.0, newest_slot code env s of.is.collection (W.Collection a) agrees names level), (let deep = agrees.0.0 in omega (arith, least, level, deep)), next)))
      (gathers_good rest (count + 1) s agrees)

  -- a block pool is declared with a value for each of its discriminants
  ordered_good : (env : W.Frames) (slot t : ℕ) (o : Option DiscriminantOrder) (x y : Expr) → Fills env slot (W.Declared (Record t)) → W.InView k env (Record t) → T.Typed k env x Count → T.Typed k env y Count → GoodItem env (ordered_pool slot t o (value_code x) (value_code y))
  ordered_good env slot t None x y fresh view h g = λ runs s agrees. absurd (cc)
  ordered_good env slot t (Some order) x y fresh view h g = λ runs s agrees.
      let both_run = (both_true (is_pool records t) ((value_code x).runs records && (value_code y).runs records) runs).1 in
      let each_runs = both_true ((value_code x).runs records) ((value_code y).runs records) both_run in
      let usable = λ (e : Expr) (fine : Fine code env (value_code e) Count). usable_as code env (value_code e) Count tt fine in
      pool_formed code env slot t order (value_code x) (value_code y) s agrees.0 (filled env slot (W.Declared (Record t)) s fresh agrees)
      (usable x (typed_fine code records k may_call may_new h each_runs.0))
      (usable y (typed_fine code records k may_call may_new g each_runs.1))
      (may_hold env t s agrees.0 view)

  -- which are both of them, in one order or the other
  pool_good : {env : W.Frames} {r : Root} {ds : List Association} (slot t : ℕ) → Fills env slot (W.Declared (Record t)) → W.InView k env (Record t) → D.Given k env r ds → GoodItem env (item_code (Pool slot t ds))
  pool_good slot t fresh view D.no_more_values = λ runs s agrees. absurd (cc)
  pool_good slot t fresh view (D.one_more_value d h D.no_more_values) = λ runs s agrees. absurd (cc)
  pool_good {env} slot t fresh view (D.one_more_value {i = i} {x = x} d h (D.one_more_value {i = j} {x = y} e g D.no_more_values)) = ordered_good env slot t (order_of i j) x y fresh view h g
  pool_good slot t fresh view (D.one_more_value d h (D.one_more_value e g (D.one_more_value f m rest))) = λ runs s agrees. absurd (cc)

  item_good : {env : W.Frames} {x : Item} → Elaborated k env x → GoodItem env (item_code x)
  item_good {env} (D.object {number = slot} {t = ty} {value = o} fresh view perhaps) = object_good env slot ty o fresh view perhaps
  item_good D.silent = λ runs s agrees. none code s
  item_good (D.collections gathers) = λ runs s agrees. gathers_good gathers 0 s agrees
  item_good (D.pool {number = slot} {t = t} fresh view rooted pool long once given) = pool_good slot t fresh view given

  items_good : {env : W.Frames} {xs : List Item} → ElaboratedEach k env xs → GoodItem env (all_items (map item_code xs))
  items_good D.no_more_items = λ runs s agrees. none code s
  items_good (D.one_more_item {i = x} {more = xs} h rest) = λ runs s agrees.
      let g = both_true ((item_code x).runs records) ((all_items (map item_code xs)).runs records) runs in
      both code ((item_code x).code s) ((all_items (map item_code xs)).code s) s s (Some s) (item_good h g.0 s agrees) (items_good rest g.1 s agrees)

  -- Statements ---------------------------------------------------------------------------------------

  -- inside these masters
  abbrev site : W.Frames → Site
  site env = among records (length env)

  abbrev pub GoodStatement : W.Frames → StatementCode → Type 0
  GoodStatement env x = x.runs (among records (length env)) ≡ true → Stays code env x.texts x.code

  good_as : (env : W.Frames) (x y : StatementCode) → x ≡ y → GoodStatement env y → GoodStatement env x
  good_as env x y same h = subst (GoodStatement env) (sym same) h

  not_missing : (env : W.Frames) (x : StatementCode) → x ≡ missing_statement → GoodStatement env x
  not_missing env x same runs = absurd (let e = sym (ap (λ (z : StatementCode). z.runs (site env)) same) ∙ runs in cc)

  assign_good : (env : W.Frames) (o : Option Reached) (x : ValueCode) (t : Ty) → IsFound code env records o → (x.runs records ≡ true → Fine code env x t) → GoodStatement env (assign o x)
  assign_good env None x t found fine runs a n p agrees texts can = absurd (cc)
  assign_good env (Some (Object b steps)) x t found fine runs a n p agrees texts can =
      let e = both_true (part_runs (Object b steps) records) (x.runs records) runs in
      assign_part_formed code env b steps any_type first_position x a.stack agrees.0 (found.0 any_type) (found.1 (both_true _ _ e.0).0) (value_usable code env x t (fine e.1)) p
  assign_good env (Some (Part b steps u position)) x t found fine runs a n p agrees texts can =
      let e = both_true (parts_run records b steps u) (x.runs records) runs in
      assign_part_formed code env b steps u position x a.stack agrees.0 (found.0 u) (found.1 (both_true _ _ e.0).0) (value_usable code env x t (fine e.1)) p
  assign_good env (Some (Result b)) x t found fine runs a n p agrees texts can = absurd (cc)
  assign_good env (Some (Variable v)) x t found fine runs a n p agrees texts can = assign_formed code env (local_at a.stack v) v x a.stack agrees.0 (found.1 refl) refl (value_usable code env x t (fine runs)) p

  record_good : (env : W.Frames) (o : Option Reached) (t : ℕ) (q : Option Reached) → W.HasRecord k env t → IsFound code env records o → IsFoundAt code env records t q → GoodStatement env (assign_record o t q)
  record_good env None t q view to from runs a n p agrees texts can = absurd (cc)
  record_good env (Some target) t None view to from runs a n p agrees texts can = absurd (cc)
  record_good env (Some target) t (Some source) view to from runs a n p agrees texts can =
      let e = both_true (part_runs target records) (part_runs source records && is_assignable (site env) t) runs in
      let f = both_true (part_runs source records) (is_assignable (site env) t) e.1 in
      record_formed code env records target source t a.stack agrees.0 to from (part_begun records target e.0) (part_begun records source f.0) (may_hold env t a.stack agrees.0 view) p

  free_good : (env : W.Frames) (access : ℕ) (o : Option Reached) → IsFound code env records o → IsHoused code env access → GoodStatement env (free access o)
  free_good env access None found housed runs a n p agrees texts can = absurd (cc)
  free_good env access (Some (Object b steps)) found housed runs a n p agrees texts can =
      free_part_formed code env access b steps any_type first_position a.stack agrees.0 fails (found.0 any_type) (found.1 (both_true _ _ runs).0) (housed a.stack agrees.0) p
  free_good env access (Some (Part b steps t position)) found housed runs a n p agrees texts can =
      free_part_formed code env access b steps t position a.stack agrees.0 fails (found.0 t) (found.1 (both_true _ _ runs).0) (housed a.stack agrees.0) p
  free_good env access (Some (Result b)) found housed runs a n p agrees texts can = absurd (cc)
  free_good env access (Some (Variable v)) found housed runs a n p agrees texts can =
      let named = found.1 refl in
      free_formed code access (out_to a.stack v) v.slot a.stack fails (housed a.stack agrees.0) (agrees.0.1 v named.0 named.1) p

  nothing_good : (env : W.Frames) (o : Option Reached) → IsFound code env records o → GoodStatement env (call_nothing o)
  nothing_good env None found runs a n p agrees texts can = absurd (cc)
  nothing_good env (Some o) found runs a n p agrees texts can = dropped_formed code env o a.stack agrees (found.0 any_type) (found.1 (part_begun records o runs)) p

  -- The library's Allocate and Deallocate, which are run for a pool in a variable (13.11) -----------

  -- a value of a scalar type
  usable_typed : (env : W.Frames) (e : Expr) (t : Ty) → T.Typed k env e t → IsScalar t → (value_code e).runs records ≡ true → Usable code env (value_code e) t
  usable_typed env e t typed scalar runs = usable_as code env (value_code e) t scalar (typed_fine code records k may_call may_new typed runs)

  allocate_good : (env : W.Frames) (p o : Option Reached) (size alignment : Expr) → IsFound code env records p → IsFound code env records o → T.Typed k env size Count → T.Typed k env alignment Count → GoodStatement env (library_allocate p o (value_code size) (value_code alignment))
  allocate_good env None o size alignment pool target h g runs a n q agrees texts can = absurd (cc)
  allocate_good env (Some (Part b steps t position)) o size alignment pool target h g runs a n q agrees texts can = absurd (cc)
  allocate_good env (Some (Object b steps)) o size alignment pool target h g runs a n q agrees texts can = absurd (cc)
  allocate_good env (Some (Result b)) o size alignment pool target h g runs a n q agrees texts can = absurd (cc)
  allocate_good env (Some (Variable p)) None size alignment pool target h g runs a n q agrees texts can = absurd (cc)
  allocate_good env (Some (Variable p)) (Some (Part b steps t position)) size alignment pool target h g runs a n q agrees texts can =
      let d = both_true (parts_run records b steps t) ((value_code size).runs records && ((value_code alignment).runs records && true)) runs in
      let e = both_true ((value_code size).runs records) ((value_code alignment).runs records && true) d.1 in
      let f = both_true ((value_code alignment).runs records) true e.1 in
      allocate_into_formed code env p b steps t position (value_code size) (value_code alignment) a.stack agrees.0 (pool.1 refl) (target.0 t) (target.1 (both_true _ _ d.0).0) (usable_typed env size Count h tt e.0) (usable_typed env alignment Count g tt f.0) q
  allocate_good env (Some (Variable p)) (Some (Object b steps)) size alignment pool target h g runs a n q agrees texts can =
      let d = both_true (part_runs (Object b steps) records) ((value_code size).runs records && ((value_code alignment).runs records && true)) runs in
      let e = both_true ((value_code size).runs records) ((value_code alignment).runs records && true) d.1 in
      let f = both_true ((value_code alignment).runs records) true e.1 in
      allocate_into_formed code env p b steps any_type first_position (value_code size) (value_code alignment) a.stack agrees.0 (pool.1 refl) (target.0 any_type) (target.1 (both_true _ _ d.0).0) (usable_typed env size Count h tt e.0) (usable_typed env alignment Count g tt f.0) q
  allocate_good env (Some (Variable p)) (Some (Result b)) size alignment pool target h g runs a n q agrees texts can = absurd (cc)
  allocate_good env (Some (Variable p)) (Some (Variable v)) size alignment pool target h g runs a n q agrees texts can =
      let e = both_true ((value_code size).runs records) ((value_code alignment).runs records && true) runs in
      let f = both_true ((value_code alignment).runs records) true e.1 in
      let takes = target.1 refl in
      allocate_formed code env p (out_to a.stack v) v.slot (value_code size) (value_code alignment) a.stack agrees.0 (pool.1 refl) (agrees.0.1 v takes.0 takes.1) (usable_typed env size Count h tt e.0) (usable_typed env alignment Count g tt f.0) q

  deallocate_good : (env : W.Frames) (p : Option Reached) (address size alignment : Expr) → IsFound code env records p → T.Typed k env address Address → T.Typed k env size Count → T.Typed k env alignment Count → GoodStatement env (library_deallocate p (value_code address) (value_code size) (value_code alignment))
  deallocate_good env None address size alignment pool h g m runs a n q agrees texts can = absurd (cc)
  deallocate_good env (Some (Part b steps t position)) address size alignment pool h g m runs a n q agrees texts can = absurd (cc)
  deallocate_good env (Some (Object b steps)) address size alignment pool h g m runs a n q agrees texts can = absurd (cc)
  deallocate_good env (Some (Result b)) address size alignment pool h g m runs a n q agrees texts can = absurd (cc)
  deallocate_good env (Some (Variable p)) address size alignment pool h g m runs a n q agrees texts can =
      let e = both_true ((value_code address).runs records) ((value_code size).runs records && ((value_code alignment).runs records && true)) runs in
      let f = both_true ((value_code size).runs records) ((value_code alignment).runs records && true) e.1 in
      let last = both_true ((value_code alignment).runs records) true f.1 in
      deallocate_formed code env p (value_code address) (value_code size) (value_code alignment) a.stack agrees.0 (pool.1 refl) (usable_typed env address Address h tt e.0) (usable_typed env size Count g tt f.0) (usable_typed env alignment Count m tt last.0) q

  call_good : {env : W.Frames} {f : ℕ} {is : W.Signature} {actuals : List Actual} → W.Callable k env f is → is.result ≡ None → T.FitEach k env is.formals actuals → GoodStatement env (call f (map actual_code actuals))
  call_good {env} {f} {is} {actuals} can_call gives fits = λ runs a n p agrees texts can.
      call_formed code env f (map actual_code actuals) a.stack agrees.0 (may_call env f is can_call).0 (may_call env f is can_call).2 (has_formals code k may_call can_call gives fits) (actuals_good code records k may_call may_new fits runs) p

  leaving_good : {env : W.Frames} (o : Option Expr) → Perhaps k env o Boolean → GoodStatement env (exit (option_map value_code o))
  leaving_good {env} None T.left_out runs = leaves_stay code env
  leaving_good {env} (Some e) (T.given h) runs = leaves_when_stay code env (value_code e) (usable_as code env (value_code e) Boolean tt (typed_fine code records k may_call may_new h runs))

  -- a return statement with a value of a scalar type
  scalar_returned : (env : W.Frames) (x : ValueCode) (t ty : Ty) → value_type x ≡ ty → (x.runs records ≡ true → Fine code env x t) → (is_run_type ty && x.runs records) ≡ true → (s : List Kind) → Surrounds code env s → Formed code (return_held ty (held x ty s)) s (Some s)
  scalar_returned env x t ty same fine runs s agrees =
      let g = both_true (is_run_type ty) (x.runs records) runs in
      subst (λ u. Formed code (return_held u (held x u s)) s (Some s)) same (returned_formed code env x s agrees (value_usable code env x t (fine g.1)))

  -- or of a record type
  returns_record : (env : W.Frames) (u : ℕ) (o : Option Reached) → IsFoundAt code env records u o → GoodStatement env (return_record u o)
  returns_record env u None found runs a n p agrees texts can = absurd (cc)
  returns_record env u (Some o) found runs a n p agrees texts can = record_returned code env records u o a.stack agrees.0 found (both_true (is_plain records u) (part_runs o records) runs).1 p

  returned_good : (env : W.Frames) (x : ValueCode) (t ty : Ty) → value_type x ≡ ty → ((u : ℕ) → IsFoundAt code env records u (copied u x)) → (x.runs records ≡ true → Fine code env x t) → GoodStatement env (return_of ty x)
  returned_good env x t (Record u) same found fine = returns_record env u (copied u x) (found u)
  returned_good env x t Integer same found fine = λ runs a n p agrees texts can. scalar_returned env x t Integer same fine runs a.stack agrees.0 p
  returned_good env x t Count same found fine = λ runs a n p agrees texts can. scalar_returned env x t Count same fine runs a.stack agrees.0 p
  returned_good env x t Boolean same found fine = λ runs a n p agrees texts can. scalar_returned env x t Boolean same fine runs a.stack agrees.0 p
  returned_good env x t Address same found fine = λ runs a n p agrees texts can. scalar_returned env x t Address same fine runs a.stack agrees.0 p
  returned_good env x t Handle same found fine = λ runs a n p agrees texts can. scalar_returned env x t Handle same fine runs a.stack agrees.0 p
  returned_good env x t (Access c) same found fine = λ runs a n p agrees texts can. scalar_returned env x t (Access c) same fine runs a.stack agrees.0 p

  returning_good : {env : W.Frames} {gives : Option Ty} (o : Option Expr) → Returns k env gives o → GoodStatement env (return (option_map value_code o))
  returning_good None D.nothing = λ runs a n p agrees texts can. one code (InstrOf.Transfer WayOf.Return) a.stack (Some a.stack) (λ q next. tt) p
  returning_good {env} (Some e) (D.result {t = t} h) = returned_good env (value_code e) t (value_type (value_code e)) refl (λ u. copied_found code records k may_call may_new u h) (typed_fine code records k may_call may_new h)

  -- Masters ------------------------------------------------------------------------------------------

  abbrev pub GoodMaster : W.Frames → StatementCode → Type 0
  GoodMaster env x = x.runs (among records (length env)) ≡ true → (m : Kind) (below : List Kind) (n p : ℕ) → Agrees code env (m ∷ below) → HasAt code.texts.items n x.texts → IsAtEnd (m ∷ below) → FormedAt code p (x.code (in_master m below) n) (m ∷ below) None

  -- the statements of a master, with their handlers
  abbrev GoodHandled : W.Frames → StatementCode → Type 0
  GoodHandled env x = x.runs (site env) ≡ true → StaysAtEnd code env x.texts x.code

  handled_good : (env : W.Frames) (body : StatementCode) (hs : List HandlerCode) → GoodStatement env body → (handlers_run hs (site env) ≡ true → GoodHandlers code env hs) → GoodHandled env (handled body hs)
  handled_good env body [] h g runs = handled_stays code env body [] tt (h runs)
  handled_good env body (x ∷ more) h g runs =
      let e = both_true (body.runs (site env)) (handlers_run (x ∷ more) (site env)) runs in
      handled_stays code env body (x ∷ more) (g e.1) (h e.0)

  -- choices that are well typed name exceptions of the table
  raised_good : {es : List ℕ} → Raised k es → AreExceptions code es
  raised_good D.no_more_exceptions = tt
  raised_good (D.one_more_exception {x = e} known rest) = (raisable e known, raised_good rest)

  chosen_good : {c : Choices} → Chosen k c → AreChoices code c
  chosen_good D.others = tt
  chosen_good (D.exceptions raised) = raised_good raised

  inside_good : (env : W.Frames) (x : ItemCode) (body : StatementCode) → GoodItem env x → GoodHandled env body → GoodMaster env (inside x body)
  inside_good env x body items h runs m below n p agrees texts top =
      let e = both_true (x.runs records) (body.runs (site env)) runs in
      let s = m ∷ below in
      let a = in_master m below in
      let first = x.code s in
      let size = length first in
      let second = body.code (behind size a) n in
      both_at code p (first ++ second) ((InstrOf.Leave, s) ∷ []) s s None
      (both_at code p first second s s (Some s) (items e.0 s agrees p) (h e.1 (behind size a) n (p + size) top agrees texts top))
      (one code InstrOf.Leave s None (λ q next. top) (p + length (first ++ second)))

  block_good : (env : W.Frames) (f : W.Frame) (m : MasterCode) → m.slots ≡ length f → GoodMaster (env ++ f ∷ []) m.inside → GoodStatement env (block m)
  block_good env f m same h runs a n p agrees texts can =
      let s = a.stack in
      let inner = m.inside.code (in_master (Block m.slots) s) n in
      let size = length inner in
      let over = subst (λ slots. Agrees code (env ++ f ∷ []) (Block slots ∷ s)) (sym same) (agrees_inside code env f s agrees) in
      let there : p + (size + 1) ≡ p + 1 + size = omega arith in
      block_formed code p m.slots inner (behind (size + 1) a)
      (h (subst (λ masters. m.inside.runs (among records masters) ≡ true) (sym (length-append env (f ∷ []))) runs) (Block m.slots) s n (p + 1) over texts tt)
      (leaves_formed code (p + 1 + size) (behind (size + 1) a) (leave_behind code p (size + 1) (p + 1 + size) a there can))

  -- Well-typed statements ----------------------------------------------------------------------------

  mutual
    pub statement_good : {env : W.Frames} {a : D.Around} {y : Stmt} → Done k env a y → GoodStatement env (statement_code y)
    statement_good {env} D.null = good_as env _ _ (layer_of _ (sym rolls-Null)) (λ runs a n p agrees texts can. none code a.stack p)
    statement_good {env} (D.assign {x = x} {v = v} {t = t} scalar denotes h) = good_as env _ _ (layer_of _ (sym (rolls-Assign x v))) (assign_good env (reached_by x) (value_code v) t (name_found code records k may_call may_new denotes) (λ runs. typed_fine code records k may_call may_new h runs))
    statement_good {env} (D.put {ps = ps} puts) = good_as env _ _ (layer_of _ (sym (rolls-Put ps))) (λ runs a n p agrees texts can. print_formed code records k may_call may_new false n ps puts runs texts.0 a.stack agrees.0 p)
    statement_good {env} (D.put_line {ps = ps} puts) = good_as env _ _ (layer_of _ (sym (rolls-PutLine ps))) (λ runs a n p agrees texts can. print_formed code records k may_call may_new true n ps puts runs texts.0 a.stack agrees.0 p)
    statement_good {env} D.new_line = good_as env _ _ (layer_of _ (sym rolls-NewLine)) (λ runs a n p agrees texts can. one code InstrOf.NewLine a.stack (Some a.stack) (λ q next. next) p)
    statement_good {env} (D.raise {x = x} known) = good_as env _ _ (layer_of _ (sym (rolls-Raise x))) (λ runs a n p agrees texts can. one code (InstrOf.Transfer (WayOf.Raise x)) a.stack (Some a.stack) (λ q next. raisable x known) p)
    statement_good {env} (D.return {x = o} returns) = good_as env _ _ (layer_of _ (sym (rolls-Return o))) (returning_good o returns)
    statement_good {env} (D.exit {x = o} inside_a_loop perhaps) = good_as env _ _ (layer_of _ (sym (rolls-Exit o))) (leaving_good o perhaps)
    statement_good {env} (D.choose {arms = arms} {others = others} each rest) =
        good_as env _ _ (layer_of _ (sym (rolls-If arms others))) (λ runs.
        let e = both_true (arms_run (map arm_code arms) (site env)) ((all (map statement_code others)).runs (site env)) runs in
        branches_stay code env (map arm_code arms) (all (map statement_code others)) (arms_good each e.0) (each_good rest e.1))
    statement_good {env} (D.loop {body = body} h) =
        good_as env _ _ (layer_of _ (sym (rolls-Loop body))) (λ runs. loop_stays code env (all (map statement_code body)) (λ a n p agrees texts can next. each_good h runs a n p agrees texts can))
    statement_good {env} (D.while {test = e} {body = body} t h) =
        good_as env _ _ (layer_of _ (sym (rolls-While e body))) (λ runs.
        let b = all (map statement_code body) in
        let g = both_true ((value_code e).runs records) (b.runs (site env)) runs in
        loop_stays code env (tested (value_code e) b) (tested_turns code env (value_code e) b (usable_as code env (value_code e) Boolean tt (typed_fine code records k may_call may_new t g.0)) (each_good h g.1)))
    statement_good {env} (D.for {number = number} {way = way} {low = low} {high = high} {body = body} (D.fills names) from to h) =
        let v : Var = record { level = length env; slot = number } in
        good_as env _ _ (layer_of _ (sym (rolls-For v way low high body))) (λ runs.
        let b = all (map statement_code body) in
        let e = both_true ((value_code low).runs records) ((value_code high).runs records && b.runs (site env)) runs in
        let g = both_true ((value_code high).runs records) (b.runs (site env)) e.1 in
        for_stays code env v way (value_code low) (value_code high) b (λ s agrees. newest_there code env s v W.LoopParameter agrees names refl)
        (usable_as code env (value_code low) Integer tt (typed_fine code records k may_call may_new from e.0))
        (usable_as code env (value_code high) Integer tt (typed_fine code records k may_call may_new to g.0))
        (each_good h g.1))
    statement_good {env} (D.block {m = m} {f = f} h) = good_as env _ _ (layer_of _ (sym (rolls-Block m))) (block_good env f (master_code m) (slots_told h) (master_good h))
    statement_good {env} (D.assign_record {x = x} {t = t} {v = v} denotes view fits) = good_as env _ _ (layer_of _ (sym (rolls-AssignRecord x t v))) (record_good env (reached_by x) t (sourced v) view (name_found code records k may_call may_new denotes) (source_found code records k may_call may_new fits t refl))
    statement_good {env} (D.call {s = f} {actuals = actuals} can_call gives fits) = good_as env _ _ (layer_of _ (sym (rolls-Call f actuals))) (call_good can_call gives fits)
    statement_good {env} (D.nothing_done {x = x} (T.view covers denotes)) = good_as env _ _ (layer_of _ (sym (rolls-Nothing x))) (nothing_good env (reached_by x) (name_found code records k may_call may_new denotes))
    statement_good {env} (D.dispatch {o = o} {x = x} views) = not_missing env _ (layer_of _ (sym (rolls-Dispatch o x)))
    statement_good {env} (D.library_allocate {p = p} {x = x} {size = size} {alignment = alignment} (T.view covers denotes_pool) rooted denotes h g) = good_as env _ _ (layer_of _ (sym (rolls-LibraryAllocate p x size alignment))) (allocate_good env (reached_by p) (reached_by x) size alignment (name_found code records k may_call may_new denotes_pool) (name_found code records k may_call may_new denotes) h g)
    statement_good {env} (D.library_deallocate {p = p} {x = x} {size = size} {alignment = alignment} (T.view covers denotes) rooted address h g) = good_as env _ _ (layer_of _ (sym (rolls-LibraryDeallocate p x size alignment))) (deallocate_good env (reached_by p) x size alignment (name_found code records k may_call may_new denotes) address h g)
    statement_good {env} (D.free {t = t} {x = x} has denotes) = good_as env _ _ (layer_of _ (sym (rolls-Free t x))) (free_good env t (reached_by x) (name_found code records k may_call may_new denotes) (seen env t has).1)
    statement_good {env} (D.release {x = x} denotes) = not_missing env _ (layer_of _ (sym (rolls-Release x)))
    statement_good {env} (D.raise_again handles) = good_as env _ _ (layer_of _ (sym rolls-RaiseAgain)) (λ runs a n p agrees texts can. one code InstrOf.RaiseAgain a.stack (Some a.stack) (λ q next. tt) p)

    each_good : {env : W.Frames} {a : D.Around} {ys : List Stmt} → DoneEach k env a ys → GoodStatement env (all (map statement_code ys))
    each_good D.no_more_statements = λ runs a n p agrees texts can. none code a.stack p
    each_good {env} (D.one_more_statement {s = y} {more = ys} h rest) = λ runs.
        let g = both_true ((statement_code y).runs (site env)) ((all (map statement_code ys)).runs (site env)) runs in
        all_stay code env (statement_code y) (map statement_code ys) (statement_good h g.0) (each_good rest g.1)

    arms_good : {env : W.Frames} {a : D.Around} {ys : List Arm} → GuardedEach k env a ys → arms_run (map arm_code ys) (site env) ≡ true → GoodArms code env (map arm_code ys)
    arms_good D.no_more_arms = λ runs. tt
    arms_good {env} (D.one_more_arm {test = e} {body = body} {more = more} t h rest) =
        subst (λ (z : ArmCode). arms_run (z ∷ map arm_code more) (site env) ≡ true → GoodArms code env (z ∷ map arm_code more)) (sym (arm_roll (record { test = e; body = body })))
        (λ runs.
        let b = all (map statement_code body) in
        let f = both_true ((value_code e).runs records) (b.runs (site env) && arms_run (map arm_code more) (site env)) runs in
        let g = both_true (b.runs (site env)) (arms_run (map arm_code more) (site env)) f.1 in
        (tested_turns code env (value_code e) b (usable_as code env (value_code e) Boolean tt (typed_fine code records k may_call may_new t f.0)) (each_good h g.0), arms_good rest g.1))

    handlers_good : {env : W.Frames} {a : D.Around} {ys : List Handler} → HandledEach k env a ys → handlers_run (map handler_code ys) (site env) ≡ true → GoodHandlers code env (map handler_code ys)
    handlers_good D.no_more_handlers = λ runs. tt
    handlers_good {env} (D.one_more_handler {c = c} {body = body} {more = more} choices h rest) =
        subst (λ (z : HandlerCode). handlers_run (z ∷ map handler_code more) (site env) ≡ true → GoodHandlers code env (z ∷ map handler_code more)) (sym (handler_roll (record { choices = c; body = body })))
        (λ runs.
        let b = all (map statement_code body) in
        let e = both_true (has_choice c) (b.runs (site env) && handlers_run (map handler_code more) (site env)) runs in
        let f = both_true (b.runs (site env)) (handlers_run (map handler_code more) (site env)) e.1 in
        ((chosen_good choices, each_good h f.0), handlers_good rest f.1))

    pub master_good : {env : W.Frames} {f : W.Frame} {a : D.Around} {m : Master} → Mastered k env f a m → GoodMaster (env ++ f ∷ []) (master_code m).inside
    master_good (D.master {env = env} {f = f} {is = items} {body = body} {hs = hs} elaborated done handled_each) =
        subst (λ (z : MasterCode). GoodMaster (env ++ f ∷ []) z.inside) (sym (master_roll (record { slots = length f; items = items; body = body; handlers = hs })))
        (inside_good (env ++ f ∷ []) (all_items (map item_code items)) (handled (all (map statement_code body)) (map handler_code hs)) (items_good elaborated)
        (handled_good (env ++ f ∷ []) (all (map statement_code body)) (map handler_code hs) (each_good done) (handlers_good handled_each)))
