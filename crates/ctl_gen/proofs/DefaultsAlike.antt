-- A default means the same wherever the masters around its type are seen, and is the value of its expression, whose code is run (3.8, 8.3).
use Rattle.std.proofs.Common.{◌≡◌, ℕ, zero, suc, ◌+◌, ◌-◌, ◌<◌, ◌≤◌, List, [], ◌∷◌, length, map, Option, Some, None, true, refl, sym, ap, ◌∙◌, subst, arith}
use Rattle.std.specs.Prelude.{option_map, slice_get, take}
use Rattle.std.proofs.lemmas.List.{take-take}
use Rattle.ctl_program.specs.declared.expression.Expr.{Expr}
use Rattle.ctl_program.specs.declared.program.Checked.{Checked}
use Rattle.ctl_program.specs.declared.program.Subprogram.{Subprogram}
use Rattle.ctl_program.specs.declared.types.AccessType.{AccessType}
use Rattle.ctl_program.specs.declared.types.Component.{Component}
use Rattle.ctl_program.specs.declared.types.RecordType.{RecordType}
use Rattle.ctl_program.specs.declared.types.Ty.{Ty}
use Rattle.ctl_program.specs.declared.types.Var.{Var}
use Rattle.ctl_meaning.specs.World.{Collection, Log, Place, Slot, World}
use Rattle.ctl_meaning.specs.Activations.{master_of}
use Rattle.ctl_meaning.specs.Allocation.{allocate, allocate_for, created, is_null, refuses, set_in, with_set}
use Rattle.ctl_meaning.specs.Changes.{slot_at}
use Rattle.ctl_meaning.specs.Choice.{Ask}
use Rattle.ctl_meaning.specs.Ledger.{collection_at}
use Rattle.ctl_meaning.specs.Lists.{item_or}
use Rattle.ctl_meaning.specs.Masters.{Left, in_master}
use Rattle.ctl_meaning.specs.Names.{OfAllocator, OfSubprogram, Returned, Tools, existing, find_var, found_in, gone, object_of}
use Rattle.ctl_meaning.specs.Outcome.{Act, ◌>>=◌, either, look, on_some, opened_outcome, program_error, raise, constraint_error, spend, ticked}
use Rattle.ctl_meaning.specs.Run.{Routine, completed, default_in, execute, execution, expression_tools, meaning_of, returned, routine_of, run_number, run_routine, slots_for, tools_with}
use Rattle.ctl_meaning.specs.Storage.{storage, storage_in}
use Rattle.ctl_meaning.specs.Types.{root_for, size_of, tables_of}
use Rattle.ctl_meaning.specs.Expressions.{eval}
use Rattle.ctl_code.specs.declared.code.AccessHome.{AccessHome}
use Rattle.ctl_code.specs.declared.code.Code.{Code}
use Rattle.ctl_code.specs.declared.code.Entry.{Entry}
use Rattle.ctl_code.specs.Valid.{IsDeclarable, IsInScope, IsValid}
use Rattle.ctl_layout.specs.Layout.{IsLaidOut, all_defaults, behind_bodies, body_code, entries_from, entry_at, evaluation, home_of, nowhere}
use Rattle.ctl_layout.specs.Run.{are_defaults_run, are_own_run, is_default_run, is_evaluation_run}
use Rattle.ctl_layout.specs.Values.{value_code}
use Rattle.ctl_gen.proofs.DefaultRows.{default_is}
use Rattle.ctl_gen.proofs.DefaultsLaid.{has_default, origin}
use Rattle.ctl_gen.proofs.Evaluated.{value_means}
use Rattle.ctl_gen.proofs.Expressions.{Value}
use Rattle.ctl_gen.proofs.FormedDefaults.{own_run}
use Rattle.ctl_gen.proofs.Gathers.{home_in}
use Rattle.ctl_gen.proofs.Known.{both_true}
use Rattle.ctl_gen.proofs.Parted.{IsComputed}
use Rattle.ctl_gen.proofs.Place.{Laid}
use Rattle.ctl_gen.proofs.Rows.{default_means}
use Rattle.ctl_gen.proofs.SeenAlike.{HasHomes, MayStandIn, StandsIn, evaluation_alike}
use Rattle.ctl_gen.proofs.Setting.{Calls, Setting}

-- each subprogram means its routine
routine_at : (ss : List Subprogram) (f : ℕ) (s : Subprogram) → slice_get ss f ≡ Some s → slice_get (map routine_of ss) f ≡ Some (routine_of s)
routine_at [] f s e = absurd (cc e)
routine_at (x ∷ ss) zero s e = let same : x ≡ s = cc e in ap (λ (y : Subprogram). Some (routine_of y)) same
routine_at (x ∷ ss) (suc f) s e = routine_at ss f s e

-- each of them is run
run_at : (records : List RecordType) (cs : List Component) → are_own_run records cs ≡ true → (i : ℕ) (c : Component) → slice_get cs i ≡ Some c → is_default_run records c ≡ true
run_at records [] run i c at = absurd (cc at)
run_at records (b ∷ cs) run zero c at = let same : b ≡ c = cc at in subst (λ (y : Component). is_default_run records y ≡ true) same (both_true (is_default_run records b) (are_own_run records cs) run).0
run_at records (b ∷ cs) run (suc i) c at = run_at records cs (both_true (is_default_run records b) (are_own_run records cs) run).1 i c at

-- one that has an entry is among them, and stands at its level
entry_of : (first place n : ℕ) (ss : List Subprogram) (f : ℕ) (e : Entry) → slice_get (entries_from first place n ss) f ≡ Some e → (s : Subprogram) × (slice_get ss f ≡ Some s) × (s.level ≡ e.level)
entry_of first place n [] f e h = absurd (cc h)
entry_of first place n (s ∷ ss) zero e h = let same : entry_at place s ≡ e = cc h in (s, refl, ap (λ (x : Entry). x.level) same)
entry_of first place n (s ∷ ss) (suc f) e h = entry_of (first + 1) (place + length ((body_code first s).code nowhere n)) (n + length (body_code first s).texts) ss f e h

-- an access type has what its home says
home_there : (o : Option AccessType) (a : AccessHome) → option_map home_of o ≡ Some a → (x : AccessType) × (o ≡ Some x) × (home_of x ≡ a)
home_there None a h = absurd (cc h)
home_there (Some x) a h = let same : home_of x ≡ a = cc h in (x, refl, same)

taken_alike : (n level : ℕ) (xs : List ℕ) → level < n → slice_get (take n xs) level ≡ slice_get xs level
taken_alike zero level xs lt = absurd (omega (arith, lt))
taken_alike (suc n) level [] lt = refl
taken_alike (suc n) zero (x ∷ xs) lt = refl
taken_alike (suc n) (suc level) (x ∷ xs) lt = taken_alike n level xs (omega (arith, lt))

module _ (program : Checked) (ask : Ask) (code : Code) (valid : IsValid code) (laid : IsLaidOut program code) where
  -- Executions among more masters --------------------------------------------------------------------

  module _ (level n : ℕ) (d : List ℕ) (few : level ≤ n) where
    -- a variable of these masters is in the first of those that are seen
    masters : (v : Var) → StandsIn level v → master_of (take n d) v ≡ master_of d v
    unfolding master_of
    masters v h = let least = h.0 in let most = h.1 in ap (item_or 0) (taken_alike n (v.level - 1) d (omega (arith, least, most, few)))

    -- a subprogram is executed in the masters around its declaration
    routine_alike : (k : Tools) (x : List Slot) (s : Subprogram) → s.level ≤ level → run_routine k (take n d) x (routine_of s) ≡ run_routine k d x (routine_of s)
    unfolding run_routine
    routine_alike k x s le =
        let r = routine_of s in
        ap (λ e. in_master k e (slots_for r.body x) (λ inner. r.body.inside k inner 0) >>= (λ (y : Left). returned r.kind y.slots y.result)) (take-take s.level n d (omega (arith, le, few)))

    number_alike : (k : Tools) (f : ℕ) → IsInScope code level (Some f) → (x : List Slot) → run_number (meaning_of program) k (take n d) x f ≡ run_number (meaning_of program) k d x f
    unfolding run_number meaning_of opened_outcome
    number_alike k f scope x =
        let s = entry_of 0 1 0 program.subprograms f scope.0 (sym (ap (λ es. slice_get es f) laid.entries) ∙ scope.1) in
        let same = s.2 in
        let le = scope.2 in
        let found = routine_at program.subprograms f s.0 s.1 in
        ap (λ (o : Option Routine). on_some o gone (run_routine k (take n d) x)) found
        ∙ (routine_alike k x s.0 (omega (arith, same, le))
        ∙ sym (ap (λ (o : Option Routine). on_some o gone (run_routine k d x)) found))

    call_alike : (m f : ℕ) → IsInScope code level (Some f) → (x : List Slot) → execution ask (meaning_of program) m (OfSubprogram f x) (take n d) ≡ execution ask (meaning_of program) m (OfSubprogram f x) d
    unfolding execution execute
    call_alike zero f scope x = refl
    call_alike (suc m) f scope x = ap (λ (a : Act Returned). spend (ticked a)) (number_alike (tools_with ask (meaning_of program) (execution ask (meaning_of program) m)) f scope x)

    -- an allocator sees its collection and its pool, which stand in masters around its access type
    pool_alike : (k : Tools) (o : Option Var) (handle : Option (List ℕ)) (size : ℕ) → MayStandIn level o → storage k (take n d) o handle size ≡ storage k d o handle size
    unfolding storage find_var
    pool_alike k None handle size near = refl
    pool_alike k (Some v) handle size near =
        ap (λ m. look (λ w. found_in m v.slot (slot_at m v.slot w).content) >>= (λ f. existing (object_of f) (λ o. storage_in k (object_of f) handle size (root_for k.tables o.ty)))) (masters v near)

    -- the tests of an allocator, and the creation with storage that comes of this, where its collection is in this slot
    abbrev allocating : Tools → Ty → Option (List ℕ) → Act Place → ℕ → ℕ → Act ℕ
    allocating k ty value storing m slot =
        look (λ (w : World). look (λ (w1 : World). on_some (collection_at (set_in (slot_at m slot w).content) w1.ledger) gone (λ (x : Collection). either (refuses k.tables ty x) (raise program_error) (storing >>= created k (set_in (slot_at m slot w).content) ty value))))

    allocate_alike : (k : Tools) → k.tables ≡ tables_of program → (access : ℕ) → HasHomes code level access → (ty : Ty) (handle value : Option (List ℕ)) → allocate k (take n d) access ty handle value ≡ allocate k d access ty handle value
    unfolding allocate allocate_for with_set tables_of opened_outcome
    allocate_alike k tables access has ty handle value =
        let x = home_there (slice_get program.accesses access) has.0 (sym (ap (λ xs. slice_get xs access) laid.accesses ∙ home_in program.accesses access) ∙ has.1) in
        let a = x.0 in
        let found : slice_get k.tables.accesses access ≡ Some a = ap (λ t. slice_get t.accesses access) tables ∙ x.1 in
        let v = a.collection in
        let set = masters v (subst (StandsIn level) (sym (ap (λ (h : AccessHome). h.collection) x.2)) has.2) in
        let pool = pool_alike k a.pool handle (size_of k.tables ty) (subst (MayStandIn level) (sym (ap (λ (h : AccessHome). h.pool) x.2)) has.3) in
        ap (λ (o : Option AccessType). either (is_null handle) (raise constraint_error) (on_some o gone (allocate_for k (take n d) ty handle value))) found
        ∙ (ap (λ m. either (is_null handle) (raise constraint_error) (allocating k ty value (storage k (take n d) a.pool handle (size_of k.tables ty)) m v.slot)) set
        ∙ (ap (λ b. either (is_null handle) (raise constraint_error) (allocating k ty value b (master_of d v) v.slot)) pool
        ∙ sym (ap (λ (o : Option AccessType). either (is_null handle) (raise constraint_error) (on_some o gone (allocate_for k d ty handle value))) found)))

    allocator_alike : (m access : ℕ) → HasHomes code level access → (ty : Ty) (handle value : Option (List ℕ)) → execution ask (meaning_of program) m (OfAllocator access ty handle value) (take n d) ≡ execution ask (meaning_of program) m (OfAllocator access ty handle value) d
    unfolding execution execute tools_with meaning_of
    allocator_alike zero access has ty handle value = refl
    allocator_alike (suc m) access has ty handle value = ap (λ (a : Act ℕ). a >>= completed) (allocate_alike (tools_with ask (meaning_of program) (execution ask (meaning_of program) m)) refl access has ty handle value)

    -- so an expression means the same whose code stands there as that of a default
    pub expression_alike : (m number place : ℕ) (x : Expr) (ty : Ty) → (value_code x).runs program.records ≡ true → Laid code place (evaluation level number (value_code x) ty) → eval x (expression_tools ask (meaning_of program) (execution ask (meaning_of program) m)) (take n d) ≡ eval x (expression_tools ask (meaning_of program) (execution ask (meaning_of program) m)) d
    unfolding expression_tools
    expression_alike m number place x ty runs stands = evaluation_alike program.records code valid (expression_tools ask (meaning_of program) (execution ask (meaning_of program) m)) level (take n d) d masters (λ f scope y. call_alike m f scope y) (λ access has t handle value. allocator_alike m access has t handle value) number place x ty runs stands

  -- Defaults -------------------------------------------------------------------------------------------

  module _ (lines : Laid code (behind_bodies program) (all_defaults 0 program.records)) (run : are_defaults_run program.records program.records ≡ true) (m : ℕ) where
    -- each is run
    runs : (t position : ℕ) (ty : Ty) (x : IsComputed (tables_of program) t position ty) → (value_code x.expression).runs program.records ≡ true
    unfolding tables_of
    runs t position ty x =
        let o = origin program code valid laid lines t x.components x.laid x.index x.component x.there in
        let one = run_at program.records o.r.own (own_run program.records program.records run o.number o.r o.found) o.index x.component o.own in
        subst (λ q. is_evaluation_run program.records q ≡ true) x.is one

    -- the default at a position is its expression
    means : (t position : ℕ) (ty : Ty) (x : IsComputed (tables_of program) t position ty) → (env : List ℕ) (c : ℕ) (l : Log) (w : World) → default_in (meaning_of program).defaults (expression_tools ask (meaning_of program) (execution ask (meaning_of program) m)) t position env c l w ≡ eval x.expression (expression_tools ask (meaning_of program) (execution ask (meaning_of program) m)) env c l w
    unfolding meaning_of tables_of
    means t position ty x env c l w =
        ap (λ p. default_in (meaning_of program).defaults (expression_tools ask (meaning_of program) (execution ask (meaning_of program) m)) t p env c l w) x.place
        ∙ default_means ask (meaning_of program) (execution ask (meaning_of program) m) refl t x.components x.laid x.index x.component x.expression x.there (default_is x.component x.expression x.is).1 env c l w

    pub alike : (t position : ℕ) (ty : Ty) → IsComputed (tables_of program) t position ty → (n : ℕ) (d : List ℕ) → IsDeclarable code n t → (c : ℕ) (l : Log) (w : World) → default_in (meaning_of program).defaults (expression_tools ask (meaning_of program) (execution ask (meaning_of program) m)) t position (take n d) c l w ≡ default_in (meaning_of program).defaults (expression_tools ask (meaning_of program) (execution ask (meaning_of program) m)) t position d c l w
    alike t position ty x n d inside c l w =
        let has = has_default program code valid laid lines t position ty x in
        means t position ty x (take n d) c l w
        ∙ (ap (λ (a : Act (List ℕ)). a c l w) (expression_alike has.level n d (has.around n inside) m has.number _ x.expression ty (runs t position ty x) has.laid)
        ∙ sym (means t position ty x d c l w))

    module _ (setting : Setting (tables_of program) code) where
      pub values : (bound : ℕ) → Calls ask (tables_of program) code setting bound (execution ask (meaning_of program) m) → (t position : ℕ) (ty : Ty) (x : IsComputed (tables_of program) t position ty) (w0 : World) → Value ask (tables_of program) code bound w0 (value_code x.expression) (default_in (meaning_of program).defaults (expression_tools ask (meaning_of program) (execution ask (meaning_of program) m)) t position)
      unfolding meaning_of expression_tools tables_of
      values bound calls t position ty x w0 =
          let call = execution ask (meaning_of program) m in
          let value = value_means ask (tables_of program) code setting call (λ u i env. gone) bound calls w0 x.expression (runs t position ty x) in
          subst (Value ask (tables_of program) code bound w0 (value_code x.expression)) (λ i env c l w. sym (means t position ty x env c l w) i) value
