-- Access types, incomplete types and Storage_Pool clauses as they are declared (3.10, 3.10.1, 13.11), and instances of Ada.Unchecked_Deallocation
-- (13.11.2).
use Rattle.std.proofs.Common.{arith, ◌≡◌, ◌≤◌, ◌<◌, ◌⊎◌, inl, inr, refl, sym, ap, ◌∙◌, subst, ℕ, zero, suc, ◌+◌, nat_le, nat_lt, Bool, true, false, ◌&&◌, if◌then◌else◌, List, [], ◌∷◌, ◌++◌, length, slice_get, Option, Some, None}
use Rattle.std.proofs.lemmas.Bool.Decides.{nat_tests}
use Rattle.std.proofs.lemmas.List.{length-append}
use Rattle.ctl_tree.specs.declared.fault.FaultCode.{FaultCode}
use Rattle.ctl_tree.specs.declared.fault.FaultCode.TheVariants as fault
use Rattle.ctl_tree.specs.declared.span.Span.{Span}
use Rattle.ctl_program.specs.declared.types.Ty.{Ty}
use Rattle.ctl_program.specs.declared.types.Ty.TheVariants as ty
use Rattle.ctl_program.specs.declared.types.Var.{Var}
use Rattle.ctl_program.specs.declared.types.RecordType.{RecordType}
use Rattle.ctl_program.specs.declared.types.Root.TheVariants as root
use Rattle.ctl_program.specs.declared.statement.Item.{Item as Checked_item}
use Rattle.ctl_program.specs.declared.statement.Item.TheVariants as made
use Rattle.ctl_syntax.specs.declared.denoted.Definition.{Definition}
use Rattle.ctl_syntax.specs.declared.denoted.Denoted.{Denoted}
use Rattle.ctl_syntax.specs.declared.denoted.Denoted.TheVariants as denoted
use Rattle.ctl_syntax.specs.declared.denoted.LibraryName.TheVariants as library
use Rattle.ctl_syntax.specs.declared.denoted.Use.{Use}
use Rattle.ctl_syntax.specs.declared.expression.Expression.{Expression}
use Rattle.ctl_syntax.specs.declared.item.Association.{Association}
use Rattle.ctl_syntax.specs.declared.item.Coverage.{Coverage}
use Rattle.ctl_syntax.specs.declared.item.Definition.TheVariants as definition
use Rattle.ctl_syntax.specs.declared.item.Generality.{Generality}
use Rattle.ctl_syntax.specs.declared.item.Taggedness.{Taggedness}
use Rattle.ctl_syntax.specs.declared.name.Identifier.{Identifier}
use Rattle.ctl_syntax.specs.declared.name.Mark.{Mark}
use Rattle.ctl_typing.specs.declared.found.Found.{Found}
use Rattle.ctl_typing.specs.declared.found.Found.TheVariants as found
use Rattle.ctl_typing.specs.declared.notes.Deed.TheVariants.{Freezes}
use Rattle.ctl_typing.specs.declared.table.AccessEntry.{AccessEntry}
use Rattle.ctl_typing.specs.declared.table.Designated.{Designated}
use Rattle.ctl_typing.specs.declared.table.Designated.TheVariants as designated
use Rattle.ctl_typing.specs.declared.table.Entry.{Entry}
use Rattle.ctl_typing.specs.declared.table.Entry.TheVariants as entry
use Rattle.ctl_typing.specs.declared.table.Tables.{Tables}
use Rattle.ctl_typing.specs.Judgement.{Judgement, known, wrong, ◌>>=◌, both}
use Rattle.ctl_typing.specs.Lookup.{designated_by, is_mark_root, root_of}
use Rattle.ctl_typing.specs.Typing.{sense, designates_this}
use Rattle.ctl_draft.specs.declared.associations.Associated.TheVariants.{Deallocation}
use Rattle.ctl_draft.specs.declared.draft.Around.{Around}
use Rattle.ctl_draft.specs.declared.draft.Draft.{Draft}
use Rattle.ctl_declarations.specs.Declarations as decl
use Rattle.ctl_declarations.specs.Declarations.{name_kept}
use Rattle.ctl_resolve.specs.Library.{operation_named}
use Rattle.ctl_draft.specs.Draft.{enter, with_entries}
use Rattle.ctl_types.specs.Elaboration.{surely}
use Rattle.ctl_draft.specs.Freezing.{changed, changed_from, changed_each, done_by, is_free_type, with_accesses}
use Rattle.ctl_draft.specs.Marks as marks
use Rattle.ctl_access_types.specs.AccessTypes as accessing
use Rattle.ctl_declarations.specs.Types as types
use Rattle.ctl_declarations.specs.Types.{is_given}
use Rattle.ctl_well_typed.specs.Setting.{Collection, Names, Frames, Encloses, Setting, HasAccess, InView}
use Rattle.ctl_well_typed.specs.Statements as rule
use Rattle.ctl_sound.specs.Known.{IfSome, Gives}
use Rattle.ctl_sound.specs.Sound.{EntryFine, FoundFine, Sound}
use Rattle.ctl_sound.proofs.Known.{next, tested, both_give, followed_gives}
use Rattle.ctl_sound.proofs.Values.{expression_right}
use Rattle.ctl_sound.proofs.Items.{PoolFine, DesignatedFine, pool_named_good, designated_good}
use Rattle.ctl_sound.proofs.Growing.{Later, later_self, StandsLater, AllLater, all_further, behind_same, last_read, front_read, still_self, still_noted, still_further, still_back, Made, nothing, Grows, grows_self}
use Rattle.ctl_sound.proofs.Freezing.{Quiet, done_quiet, each_length}
use Rattle.ctl_sound.proofs.Sites.{Site, around_site, here, IsHere, PoolKnown, NoDeeper, AccessKnown, Known, Front, InAccesses, Back}
use Rattle.ctl_sound.proofs.Fronts.{access_below, encloses_self, encloses_both, front_still, front_sound, one_access}
use Rattle.ctl_sound.proofs.Declared.{innermost, front_declared}
use Rattle.ctl_sound.proofs.Completing.{changed_later, completed_later, complete_known}
use Rattle.ctl_sound.proofs.Objects.{RightItems, told_still, elaborated_joined, same_pools, unknown_comes}
use Rattle.ctl_sound.proofs.Records.{each_at, enter_is, entered, entries_entered, front_entered, silent_right}
use Rattle.ctl_sound.proofs.Steps.{Leads, still_leads, still_given}

-- Incomplete types (3.10.1) ---------------------------------------------------------------------------------

module _ (a : Around) where
  entry_leads : (number : ℕ) (x : Entry) (d : Draft) (items : List Checked_item) → ((s : Site) → EntryFine s.k (around_site s) x) → ((s : Site) → RightItems a s items) → Leads (here a) (RightItems a) d (Some items, enter a number x d)
  entry_leads number x d items fine right = subst (λ e. Leads (here a) (RightItems a) d (Some items, e)) (sym (enter_is a number x d)) (record {
    made = nothing;
    grows = let g = grows_self d in record { records = g.records; components = g.components; exceptions = g.exceptions; accesses = g.accesses; slots = g.slots; record_homes = g.record_homes; access_homes = g.access_homes; signatures = g.signatures };
    right = λ s i f b g. (front_entered s a.start number x d i.start (fine s) f, right s);
  })

  pub incomplete_leads : (name : Definition) (t : Taggedness) (d : Draft) → Leads (here a) (RightItems a) d (surely (decl.incomplete name t a d))
  incomplete_leads name t d = still_leads (here a) (RightItems a) d (name_kept name d) (surely (decl.incomplete name t a d)) (told_still (is_given (operation_named name.identifier.text)) _ name.identifier.span d)
      (entry_leads name.number (entry.Incomplete t) (name_kept name d) (made.Silent ∷ []) (λ s. tt) (silent_right a))

-- Pools of access types (13.11) ---------------------------------------------------------------------------------

-- a clause for an access type of the tables gives a pool where it has none yet
abbrev Unpooled : Option AccessEntry → Type 0
Unpooled o = (x : AccessEntry) → o ≡ Some x → x.pool ≡ None

whatever : {A : Type 0} (Q : Type 0) (o : Option A) → Q → IfSome (λ (a : A). Q) o
whatever Q None h = tt
whatever Q (Some a) h = h

unpooled_entry : (tables : Tables) (place : Span) (o : Option AccessEntry) (p : Var × ℕ) → Gives (λ (q : Var × ℕ). Unpooled o) (types.pool_for_entry tables place o p)
unpooled_entry tables place None p s = λ x e. absurd (cc)
unpooled_entry tables place (Some x) p s = by_pool x.pool refl
  where
    one_entry : (y : AccessEntry) → Some x ≡ Some y → x ≡ y
    one_entry y e = cc

    by_pool : (o : Option (Var × ℕ)) → x.pool ≡ o → IfSome (λ (q : Var × ℕ). Unpooled (Some x)) ((if is_given o then wrong fault.Pool place else accessing.pool_for tables x.generality x.level x.span place p) s).0
    by_pool (Some q) e = tt
    by_pool None e = whatever (Unpooled (Some x)) (accessing.pool_for tables x.generality x.level x.span place p s).0 (λ y f. ap (λ z. z.pool) (sym (one_entry y f)) ∙ e)

clause_unpooled : (tables : Tables) (m : Mark Use) (a : ℕ) → Gives (λ (q : Var × ℕ). Unpooled (slice_get tables.states.accesses a)) (types.clause_pool m (Some a) tables)
clause_unpooled tables m a =
    next (λ (p : Var × ℕ). Unit {0}) (λ (q : Var × ℕ). Unpooled (slice_get tables.states.accesses a)) (marks.pool_named tables m) (types.pool_for_type tables m.first.span (Some a)) (λ s. whatever (Unit {0}) (marks.pool_named tables m s).0 tt)
    (λ p h. unpooled_entry tables m.first.span (slice_get tables.states.accesses a) p)

module _ (k : Setting) (env : Frames) (tables : Tables) (sound : Sound k env tables) where
  abbrev Fine : Var × ℕ → Type 0
  Fine p = PoolFine k env tables sound p

  -- an access type of this level that has the pool is no deeper than it
  abbrev Deep : ℕ → Var × ℕ → Type 0
  Deep level p = is_mark_root (root_of (slice_get tables.records p.1)) ≡ true → level ≤ p.0.level

  abbrev FineAt : ℕ → Var × ℕ → Type 0
  FineAt level p = Fine p × Deep level p

  unless_good : (Q : Var × ℕ → Type 0) (b : Bool) (which : FaultCode) (place : Span) (p : Var × ℕ) → Q p → Gives Q (accessing.unless b which place p)
  unless_good Q true which place p h = λ s. tt
  unless_good Q false which place p h = λ s. h

  level_good : (level : ℕ) (identifier : Span) (p : Var × ℕ) → Fine p → Gives (FineAt level) (accessing.unless (nat_lt p.0.level level) fault.SubpoolLevel identifier p)
  level_good level identifier p h = by_test (nat_lt p.0.level level) refl
    where
      by_test : (b : Bool) → nat_lt p.0.level level ≡ b → Gives (FineAt level) (accessing.unless b fault.SubpoolLevel identifier p)
      by_test true e = λ s. tt
      by_test false e = λ s. (h, λ m. grind (arith, nat_tests))

  pool_for_good : (g : Generality) (level : ℕ) (identifier place : Span) (p : Var × ℕ) → Fine p → Gives (FineAt level) (accessing.pool_for tables g level identifier place p)
  pool_for_good g level identifier place p h = by_root (is_mark_root (root_of (slice_get tables.records p.1))) refl
    where
      by_root : (b : Bool) → is_mark_root (root_of (slice_get tables.records p.1)) ≡ b → Gives (FineAt level) (if b then (accessing.unless (nat_lt p.0.level level) fault.SubpoolLevel identifier p >>= accessing.unless (accessing.is_all g) fault.Pool place) else known p)
      by_root true e = next (FineAt level) (FineAt level) (accessing.unless (nat_lt p.0.level level) fault.SubpoolLevel identifier p) (accessing.unless (accessing.is_all g) fault.Pool place) (level_good level identifier p h) (λ q i. unless_good (FineAt level) (accessing.is_all g) fault.Pool place q i)
      by_root false e = λ s. (h, λ m. absurd (cc))

  pub pool_given_good : (g : Generality) (level : ℕ) (identifier : Span) (m : Option (Mark Use)) → Gives (FineAt level) (accessing.pool_given g level identifier m tables)
  pool_given_good g level identifier None = λ s. tt
  pool_given_good g level identifier (Some m) = next Fine (FineAt level) (marks.pool_named tables m) (accessing.pool_for tables g level identifier m.first.span) (pool_named_good k env tables sound m) (pool_for_good g level identifier m.first.span)

  -- the pool of a clause for this access type
  pub record ForEntry (o : Option AccessEntry) (p : Var × ℕ) : Type 0 where
    pub fine : Fine p
    pub deep : (x : AccessEntry) → o ≡ Some x → Deep x.level p

  one_entry : (x y : AccessEntry) → Some x ≡ Some y → x ≡ y
  one_entry x y e = cc

  pool_for_entry_good : (place : Span) (o : Option AccessEntry) (p : Var × ℕ) → Fine p → Gives (ForEntry o) (types.pool_for_entry tables place o p)
  pool_for_entry_good place None p h = λ s. record { fine = h; deep = λ x e. absurd (cc) }
  pool_for_entry_good place (Some x) p h = by_pool x.pool
    where
      for_entry : (q : Option (Var × ℕ)) → IfSome (FineAt x.level) q → IfSome (ForEntry (Some x)) q
      for_entry None i = tt
      for_entry (Some q) i = record { fine = i.0; deep = λ y f. subst (λ z. Deep z.level q) (one_entry x y f) i.1 }

      by_pool : (o : Option (Var × ℕ)) → Gives (ForEntry (Some x)) (if is_given o then wrong fault.Pool place else accessing.pool_for tables x.generality x.level x.span place p)
      by_pool (Some q) = λ s. tt
      by_pool None = λ s. for_entry (accessing.pool_for tables x.generality x.level x.span place p s).0 (pool_for_good x.generality x.level x.span place p h s)

  pub clause_pool_good : (m : Mark Use) (a : ℕ) → Gives (ForEntry (slice_get tables.states.accesses a)) (types.clause_pool m (Some a) tables)
  clause_pool_good m a = next Fine (ForEntry (slice_get tables.states.accesses a)) (marks.pool_named tables m) (types.pool_for_type tables m.first.span (Some a)) (pool_named_good k env tables sound m) (pool_for_entry_good m.first.span (slice_get tables.states.accesses a))

  -- what the tables say of its depth, the program says
  pub deep_known : (level : ℕ) (p : Var × ℕ) → Fine p → Deep level p → NoDeeper k level p
  deep_known level p h deep rooted = deep (ap (λ o. is_mark_root (root_of o)) h.found ∙ ap is_mark_root root_is)
    where
      one_type : (x y : RecordType) (o : Option RecordType) → o ≡ Some x → o ≡ Some y → x ≡ y
      one_type x y o e f = cc

      root_is : h.is.root ≡ root.MarkPool
      root_is = let own = sound.types.rooted p.1 h.is h.found in sym own.rooted ∙ ap (λ y. y.root) (one_type own.is rooted.is (slice_get k.records p.1) own.found rooted.found) ∙ rooted.rooted

  pub pool_known : (p : Var × ℕ) → Fine p → PoolKnown k env p
  pool_known p h = record { root = h.is.root; names = h.names; rooted = sound.types.rooted p.1 h.is h.found; pool = same_pools k env tables sound h.is.root h.is_pool }

  -- an access type of the part
  pub record ClauseFor (first a : ℕ) : Type 0 where
    pub past : first ≤ a
    pub usable : InView k env (ty.Access a)

  order_none : (place : Span) (first : ℕ) → Gives (ClauseFor first) (types.order_broken place)
  order_none place first = λ s. tt

  clause_access_good : (around : Around) (place : Span) (t : Ty) → InView k env t → Gives (ClauseFor around.first_access) (types.clause_access tables around place t)
  clause_access_good around place (ty.Access a) v = by_test (nat_le around.first_access a) refl (is_free_type tables.states (ty.Access a))
    where
      by_test : (b : Bool) → nat_le around.first_access a ≡ b → (c : Bool) → Gives (ClauseFor around.first_access) (if b && c then known a else types.order_broken place)
      by_test true e true = λ s. record { past = grind (arith, nat_tests); usable = v }
      by_test true e false = λ s. tt
      by_test false e c = λ s. tt
  clause_access_good around place (ty.Record t) v = other (is_free_type tables.states (ty.Record t))
    where
      other : (b : Bool) → Gives (ClauseFor around.first_access) (if b then wrong fault.Type place else types.order_broken place)
      other true = λ s. tt
      other false = λ s. tt
  clause_access_good around place ty.Integer v = λ s. tt
  clause_access_good around place ty.Count v = λ s. tt
  clause_access_good around place ty.Boolean v = λ s. tt
  clause_access_good around place ty.Address v = λ s. tt
  clause_access_good around place ty.Handle v = λ s. tt

  clause_entry_good : (around : Around) (place : Span) (number : ℕ) (o : Option Entry) → IfSome (EntryFine k env) o → Gives (ClauseFor around.first_access) (types.clause_entry tables around place number o)
  clause_entry_good around place number (Some (entry.«Type» t)) h = by_test (nat_le around.start number)
    where
      by_test : (b : Bool) → Gives (ClauseFor around.first_access) (if b then types.clause_access tables around place t else types.order_broken place)
      by_test true = clause_access_good around place t h
      by_test false = λ s. tt
  clause_entry_good around place number (Some (entry.Incomplete t)) h = λ s. tt
  clause_entry_good around place number (Some (entry.Object o)) h = λ s. tt
  clause_entry_good around place number (Some (entry.Subprogram p)) h = λ s. tt
  clause_entry_good around place number (Some (entry.Deallocation a)) h = λ s. tt
  clause_entry_good around place number (Some (entry.Exception n)) h = λ s. tt
  clause_entry_good around place number (Some entry.Unknown) h = λ s. tt
  clause_entry_good around place number None h = λ s. tt

  pub clause_type_good : (around : Around) (place : Span) (x : Denoted) → Gives (ClauseFor around.first_access) (types.clause_type around place x tables)
  clause_type_good around place (denoted.Declared number level) = clause_entry_good around place number (slice_get tables.entries number) (sound.entries number)
  clause_type_good around place (denoted.Library l) = by_test (types.is_library_type l)
    where
      by_test : (b : Bool) → Gives (ClauseFor around.first_access) (if b then types.order_broken place else wrong fault.Type place)
      by_test true = λ s. tt
      by_test false = λ s. tt
  clause_type_good around place (denoted.Operation o) = λ s. tt
  clause_type_good around place denoted.Unknown = λ s. tt

-- One more access type (3.10) ---------------------------------------------------------------------------------------

abbrev access_made : ℕ → Made
access_made n = record { holdings = Collection n ∷ []; homes = λ env. record { records = []; accesses = env ∷ []; subprograms = [] } }

more_later : (xs : List AccessEntry) (x : AccessEntry) → AllLater xs (xs ++ x ∷ [])
more_later xs x n y e = record { is = y; found = front_read xs (x ∷ []) n y e; later = later_self y }

module _ (a : Around) (number : ℕ) (x : AccessEntry) (d : Draft) where
  abbrev n : ℕ
  n = length d.tables.states.accesses

  abbrev longer : List AccessEntry
  longer = d.tables.states.accesses ++ x ∷ []

  abbrev plain : Draft
  plain = with_accesses longer d

  abbrev completed : List AccessEntry
  completed = changed_each (accessing.completed_access number (ty.Access n)) a.first_access longer

  abbrev behind : Draft
  behind = record (with_accesses completed (with_entries (entered a.start number (entry.«Type» (ty.Access n)) d.tables.entries) plain)) { slots = d.slots ++ ty.Access n ∷ [] }

  abbrev to_behind : Draft → Draft
  to_behind e = record (with_accesses (changed_each (accessing.completed_access number (ty.Access n)) a.first_access e.tables.states.accesses) e) { slots = e.slots ++ ty.Access n ∷ [] }

  access_is : accessing.add_access a number x d ≡ behind
  access_is = ap to_behind (enter_is a number (entry.«Type» (ty.Access n)) plain)

  counted : length completed ≡ n + 1
  counted = each_length (accessing.completed_access number (ty.Access n)) a.first_access longer ∙ length-append d.tables.states.accesses (x ∷ [])

  all_later : AllLater d.tables.states.accesses completed
  all_later = all_further d.tables.states.accesses longer completed (more_later d.tables.states.accesses x) (changed_later (accessing.completed_access number (ty.Access n)) (completed_later number (ty.Access n)) a.first_access longer)

  access_grows : Grows (access_made n) d behind
  access_grows = record {
    records = behind_same d.tables.records d.tables.records refl;
    components = behind_same d.components d.components refl;
    exceptions = behind_same d.exceptions d.exceptions refl;
    accesses = all_later;
    slots = length-append d.slots (ty.Access n ∷ []);
    record_homes = λ env. omega arith;
    access_homes = λ env. counted;
    signatures = λ env. omega arith;
  }

  inner_longer : (s : Site) → Front s d → slice_get s.k.access_homes n ≡ Some (around_site s) → (m : ℕ) (home : Frames) → s.first ≤ m → m < length longer → slice_get s.k.access_homes m ≡ Some home → Encloses (around_site s) home
  inner_longer s f own m home first less at = by_place (nat_lt m n) refl
    where
      one_home' : (x y : Frames) (o : Option Frames) → o ≡ Some x → o ≡ Some y → x ≡ y
      one_home' x y o h i = cc

      by_place : (b : Bool) → nat_lt m n ≡ b → Encloses (around_site s) home
      by_place true e = f.inner m home first (grind (arith, nat_tests)) at
      by_place false e =
          let more = length-append d.tables.states.accesses (x ∷ []) in
          let past : n ≤ m = grind (arith, nat_tests) in
          let same : m ≡ n = omega (arith, past, less, more) in
          let here' = one_home' (around_site s) home (slice_get s.k.access_homes n) own (subst (λ i. slice_get s.k.access_homes i ≡ Some home) same at) in
          subst (λ h. Encloses (around_site s) h) here' (encloses_self (around_site s))

  -- it is in the program, where the draft behind is
  in_program : (s : Site) → Back s.k behind → InAccesses s.k n x
  in_program s b =
      let y = changed_later (accessing.completed_access number (ty.Access n)) (completed_later number (ty.Access n)) a.first_access longer n x (last_read d.tables.states.accesses x) in
      let q = b.accesses n y.is y.found in
      record { is = q.is; found = q.found; collection = q.collection ∙ y.later.collection; designated = λ t e. q.designated t (y.later.designated t e); pool = λ p e. q.pool p (y.later.pool p e) }

  pub access_leads : x.level ≡ a.level → x.collection ≡ record { level = a.level; slot = length d.slots } → ((s : Site) → Front s d → (t : Ty) → x.designated ≡ designated.Known t → InView s.k (around_site s) t) → ((s : Site) → Front s d → (p : Var × ℕ) → x.pool ≡ Some p → PoolKnown s.k (around_site s) p × NoDeeper s.k x.level p) →
      Leads (here a) (RightItems a) d (Some [], accessing.add_access a number x d)
  access_leads level collection usable pools = subst (λ e. Leads (here a) (RightItems a) d (Some [], e)) (sym access_is) (record {
    made = access_made n;
    grows = access_grows;
    right = λ s i f b g.
        let env = around_site s in
        let same : n + 0 ≡ n = omega arith in
        let slots : length d.slots + 0 ≡ length d.slots = omega arith in
        let home : slice_get s.k.access_homes n ≡ Some env = subst (λ m. slice_get s.k.access_homes m ≡ Some env) same (g.accesses 0 env refl) in
        let names : Names env (record { level = length env; slot = length d.slots }) (Collection n) = innermost s.outer s.frame (length d.slots) (Collection n) (subst (λ m. slice_get s.frame m ≡ Some (Collection n)) slots (g.holdings 0 (Collection n) refl)) in
        let own = in_program s b in
        let deep : x.collection.level ≡ length env = ap (λ v. v.level) collection ∙ i.level in
        let known_x : AccessKnown s.k n x = record {
          is = own.is;
          home = env;
          found = own.found;
          at_home = home;
          collection = own.collection;
          own_level = level ∙ i.level;
          level = deep;
          names = subst (λ v. Names env v (Collection n)) (sym (collection ∙ ap (λ l. record { level = l; slot = length d.slots }) i.level)) names;
          designated = λ t e. (own.designated t e, usable s f t e);
          pool = λ p e. (pools s f p e).0;
          pooled = own.pool;
          subpools = λ p e. (pools s f p e).1;
        } in
        let has : HasAccess s.k env n = record { is = own.is; home = env; found = own.found; at_home = home; encloses = encloses_self env } in
        let inner = inner_longer s f home in
        let all = complete_known s number (ty.Access n) a.first_access i.first has longer inner (each_at (AccessKnown s.k) d.tables.states.accesses x f.known.accesses known_x) b.accesses in
        let entries = entries_entered s a.start number (entry.«Type» (ty.Access n)) d.tables.entries i.start has (f.entries, f.base) in
        let counts = each_length (accessing.completed_access number (ty.Access n)) a.first_access longer in
        let known' : Known s.k behind = record { records = f.known.records; operations = f.known.operations; subprograms = f.known.subprograms; accesses = all; states = f.known.states; components = f.known.components } in
        (record { entries = entries.0; base = entries.1; known = known'; own = f.own; inner = λ m h first less at. inner m h first (omega (arith, counts, less)) at }, rule.no_more_items);
  })

-- Access types by their definitions (3.10) -----------------------------------------------------------------------

known_designated : (k : Setting) (env : Frames) (tables : Tables) (sound : Sound k env tables) (o : Option Designated) → IfSome (DesignatedFine k env tables sound) o → (t : Ty) → accessing.or_unclear o ≡ designated.Known t → InView k env t
known_designated k env tables sound None h t e = absurd (cc)
known_designated k env tables sound (Some (designated.Known u)) h t e = let same : u ≡ t = cc in subst (InView k env) same h
known_designated k env tables sound (Some designated.Unclear) h t e = absurd (cc)
known_designated k env tables sound (Some (designated.Awaited n at)) h t e = absurd (cc)

known_pool : (k : Setting) (env : Frames) (tables : Tables) (sound : Sound k env tables) (level : ℕ) (o : Option (Var × ℕ)) → IfSome (FineAt k env tables sound level) o → (p : Var × ℕ) → o ≡ Some p → PoolKnown k env p × NoDeeper k level p
known_pool k env tables sound level None h p e = absurd (cc)
known_pool k env tables sound level (Some q) h p e = subst (λ r. PoolKnown k env r × NoDeeper k level r) (one_pool q p e) (pool_known k env tables sound q h.0, deep_known k env tables sound level q h.0 h.1)
  where
    one_pool : (q p : Var × ℕ) → Some q ≡ Some p → q ≡ p
    one_pool q p e = cc

module _ (a : Around) (place : Span) (name : Definition) (g : Generality) (m : Mark Use) (c : Coverage) (pool : Option (Mark Use)) where
  access_type_leads : (d : Draft) → Leads (here a) (RightItems a) d (surely (accessing.access_type place name g m c pool a d))
  access_type_leads d =
      let d1 = accessing.untagged_kept place name.number d in
      let r1 = accessing.designated_named place m c d1.tables d1.notes in
      let r2 = accessing.pool_given g a.level name.identifier.span pool d1.tables r1.1 in
      let d3 : Draft = record d1 { notes = r2.1 } in
      let x = accessing.access_entry a name.identifier.span g c r1.0 r2.0 d3 in
      let back_to : (s : Site) → Front s d3 → Front s d1 = λ s f. front_still s d3 d1 (still_noted d3 d3.returning d3.waiting d1.notes) f in
      still_leads (here a) (RightItems a) d d3 (surely (accessing.access_type place name g m c pool a d))
      (still_further d d1 d3 (told_still (accessing.is_said_tagged (slice_get d.tables.entries name.number)) _ place d) (still_noted d1 d1.returning d1.waiting r2.1))
      (access_leads a name.number x d3 refl refl
      (λ s f t e. let sound = front_sound s d1 (back_to s f) in known_designated s.k (around_site s) d1.tables sound r1.0 (designated_good s.k (around_site s) d1.tables sound place m c d1.notes) t e)
      (λ s f p e. let sound = front_sound s d1 (back_to s f) in known_pool s.k (around_site s) d1.tables sound a.level r2.0 (pool_given_good s.k (around_site s) d1.tables sound g a.level name.identifier.span pool r1.1) p e))

  pub access_defined : (d : Draft) → Leads (here a) (RightItems a) d (surely (decl.definition_of place name (definition.Access g m c pool) a d))
  access_defined d = still_leads (here a) (RightItems a) d (name_kept name d) (surely (decl.definition_of place name (definition.Access g m c pool) a d)) (told_still (is_given (operation_named name.identifier.text)) _ name.identifier.span d) (access_type_leads (name_kept name d))

-- Storage_Pool clauses (13.3, 13.11) -------------------------------------------------------------------------------

record ChangedOne {A : Type 0} (f : A → A) (at : ℕ) (xs : List A) (n : ℕ) (y : A) : Type 0 where
  from : A
  found : slice_get xs n ≡ Some from
  how : (y ≡ from) ⊎ ((n ≡ at) × (y ≡ f from))

changed_one : {A : Type 0} (f : A → A) (at : ℕ) (xs : List A) (n : ℕ) (y : A) → slice_get (changed f at xs) n ≡ Some y → ChangedOne f at xs n y
changed_one f at [] n y e = absurd (cc)
changed_one f zero (x ∷ xs) zero y e = let same : f x ≡ y = cc in record { from = x; found = refl; how = inr (refl, sym same) }
changed_one f zero (x ∷ xs) (suc n) y e = record { from = y; found = e; how = inl refl }
changed_one f (suc at) (x ∷ xs) n y e = by_rest (slice_get xs at) n e (changed_one f at xs)
  where
    by_rest : (o : Option _) (n : ℕ) → slice_get (changed_from f o (suc at) (x ∷ xs)) n ≡ Some y → ((n : ℕ) (y : _) → slice_get (changed_from f o at xs) n ≡ Some y → ChangedOne f at xs n y) → ChangedOne f (suc at) (x ∷ xs) n y
    by_rest None n e h = record { from = y; found = e; how = inl refl }
    by_rest (Some z) zero e h = record { from = y; found = e; how = inl refl }
    by_rest (Some z) (suc n) e h =
        let g = h n y e in
        record { from = g.from; found = g.found; how = elim g.how [ inl i ↦ inl i | inr i ↦ inr (ap suc i.0, i.1) ] }

changed_one_later : (f : AccessEntry → AccessEntry) (at : ℕ) (xs : List AccessEntry) → ((x : AccessEntry) → slice_get xs at ≡ Some x → Later x (f x)) → AllLater xs (changed f at xs)
changed_one_later f at [] h n x e = absurd (cc)
changed_one_later f zero (y ∷ xs) h zero x e = let same : y ≡ x = cc in record { is = f y; found = refl; later = subst (λ z. Later z (f y)) same (h y refl) }
changed_one_later f zero (y ∷ xs) h (suc n) x e = record { is = x; found = e; later = later_self x }
changed_one_later f (suc at) (y ∷ xs) h n x e = by_rest (slice_get xs at) n e (changed_one_later f at xs h)
  where
    by_rest : (o : Option AccessEntry) (n : ℕ) → slice_get (y ∷ xs) n ≡ Some x → AllLater xs (changed_from f o at xs) → StandsLater (changed_from f o (suc at) (y ∷ xs)) n x
    by_rest None n e i = record { is = x; found = e; later = later_self x }
    by_rest (Some z) zero e i = record { is = x; found = e; later = later_self x }
    by_rest (Some z) (suc n) e i = let g = i n x e in record { is = g.is; found = g.found; later = g.later }

changed_one_length : (f : AccessEntry → AccessEntry) (at : ℕ) (xs : List AccessEntry) → length (changed f at xs) ≡ length xs
changed_one_length f at [] = refl
changed_one_length f zero (x ∷ xs) = refl
changed_one_length f (suc at) (x ∷ xs) = by_rest (slice_get xs at) (changed_one_length f at xs)
  where
    by_rest : (o : Option AccessEntry) → length (changed_from f o at xs) ≡ length xs → length (changed_from f o (suc at) (x ∷ xs)) ≡ suc (length xs)
    by_rest None e = refl
    by_rest (Some z) e = ap suc e

module _ (a : Around) (place : Span) where
  abbrev pooled : ℕ → Var × ℕ → Draft → Draft
  pooled n p d = with_accesses (changed (types.with_pool p) n d.tables.states.accesses) d

  pool_later : (p : Var × ℕ) (x : AccessEntry) → x.pool ≡ None → Later x (types.with_pool p x)
  pool_later p x e = record { level = refl; collection = refl; designated = λ t e. e; pool = λ q f. absurd (let none = e in cc) }

  pooled_grows : (n : ℕ) (p : Var × ℕ) (d : Draft) → ((x : AccessEntry) → slice_get d.tables.states.accesses n ≡ Some x → x.pool ≡ None) → Grows nothing d (pooled n p d)
  pooled_grows n p d unpooled =
      let g = grows_self d in
      record {
        records = g.records;
        components = g.components;
        exceptions = g.exceptions;
        accesses = changed_one_later (types.with_pool p) n d.tables.states.accesses (λ x e. pool_later p x (unpooled x e));
        slots = g.slots;
        record_homes = g.record_homes;
        access_homes = λ env. let same = changed_one_length (types.with_pool p) n d.tables.states.accesses in omega (arith, same);
        signatures = g.signatures;
      }

  -- the pool stands in the same master as the type
  pooled_known : (s : Site) (i : IsHere s (here a)) (d : Draft) (f : Front s d) (n : ℕ) (p : Var × ℕ) → a.first_access ≤ n → InView s.k (around_site s) (ty.Access n) → PoolKnown s.k (around_site s) p → (x : AccessEntry) → slice_get d.tables.states.accesses n ≡ Some x → NoDeeper s.k x.level p → InAccesses s.k n (types.with_pool p x) → AccessKnown s.k n (types.with_pool p x)
  pooled_known s i d f n p past v h x e deep own =
      let q = f.known.accesses n x e in
      let first = i.first in
      let inside = f.inner n q.home (omega (arith, past, first)) (access_below d.tables.states.accesses n x e) q.at_home in
      let same = home_is v.home q.home (slice_get s.k.access_homes n) v.at_home q.at_home in
      let here' = encloses_both (around_site s) q.home inside (subst (λ g. Encloses g (around_site s)) same v.encloses) in
      record {
        is = q.is;
        home = q.home;
        found = q.found;
        at_home = q.at_home;
        collection = q.collection;
        own_level = q.own_level;
        level = q.level;
        names = q.names;
        designated = q.designated;
        pool = λ r j. subst (PoolKnown s.k q.home) (one_pool p r j) (subst (λ g. PoolKnown s.k g p) here' h);
        pooled = λ r j. ap (λ y. y.pool) (one_access q.is own.is (slice_get s.k.accesses n) q.found own.found) ∙ own.pool r j;
        subpools = λ r j. subst (NoDeeper s.k x.level) (one_pool p r j) deep;
      }
    where
      home_is : (x y : Frames) (o : Option Frames) → o ≡ Some x → o ≡ Some y → x ≡ y
      home_is x y o h i = cc

      one_pool : (q p : Var × ℕ) → Some q ≡ Some p → q ≡ p
      one_pool q p e = cc

  -- the pool of a clause for this access type, at a site
  abbrev PoolOf : Site → Draft → ℕ → Var × ℕ → Type 0
  PoolOf s d n p = PoolKnown s.k (around_site s) p × ((x : AccessEntry) → slice_get d.tables.states.accesses n ≡ Some x → NoDeeper s.k x.level p)

  pooled_leads : (n : ℕ) (p : Var × ℕ) (d : Draft) (items : List Checked_item) → ((s : Site) → RightItems a s items) → Unpooled (slice_get d.tables.states.accesses n) → ((s : Site) → IsHere s (here a) → Front s d → (a.first_access ≤ n) × (InView s.k (around_site s) (ty.Access n) × PoolOf s d n p)) → Leads (here a) (RightItems a) d (Some items, pooled n p d)
  pooled_leads n p d items right unpooled shown = record {
    made = nothing;
    grows = pooled_grows n p d unpooled;
    right = λ s i f b g.
        let h = shown s i f in
        let counts = changed_one_length (types.with_pool p) n d.tables.states.accesses in
        let accesses : (m : ℕ) (y : AccessEntry) → slice_get (changed (types.with_pool p) n d.tables.states.accesses) m ≡ Some y → AccessKnown s.k m y = λ m y e.
        let c = changed_one (types.with_pool p) n d.tables.states.accesses m y e in
        elim c.how [
          | inl j ↦ subst (AccessKnown s.k m) (sym j) (f.known.accesses m c.from c.found)
          | inr j ↦
              let there = subst (λ z. slice_get d.tables.states.accesses z ≡ Some c.from) j.0 c.found in
              let own = subst (λ z. InAccesses s.k z (types.with_pool p c.from)) j.0 (subst (InAccesses s.k m) j.1 (b.accesses m y e)) in
              subst (AccessKnown s.k m) (sym j.1) (subst (λ z. AccessKnown s.k z (types.with_pool p c.from)) (sym j.0) (pooled_known s i d f n p h.0 h.1.0 h.1.1.0 c.from there (h.1.1.1 c.from there) own))
        ] in
        let known' : Known s.k (pooled n p d) = record { records = f.known.records; operations = f.known.operations; subprograms = f.known.subprograms; accesses = accesses; states = f.known.states; components = f.known.components } in
        (record { entries = f.entries; base = f.base; known = known'; own = f.own; inner = λ m home first less at. f.inner m home first (omega (arith, counts, less)) at }, right s);
  }

  given_pool : (o : Option ℕ) (q : Option (Var × ℕ)) (d : Draft) → ((s : Site) → IsHere s (here a) → Front s d → IfSome (λ n. (a.first_access ≤ n) × InView s.k (around_site s) (ty.Access n)) o) → ((n : ℕ) → o ≡ Some n → IfSome (λ (p : Var × ℕ). Unpooled (slice_get d.tables.states.accesses n)) q) → ((s : Site) → IsHere s (here a) → Front s d → (n : ℕ) → o ≡ Some n → IfSome (PoolOf s d n) q) →
      Leads (here a) (RightItems a) d (Some (made.Silent ∷ []), types.give_pool o (q, d))
  given_pool None q d h u g = still_given (here a) (RightItems a) d (Some (made.Silent ∷ []), d) (still_self d) (λ s i f. silent_right a s)
  given_pool (Some n) None d h u g = still_given (here a) (RightItems a) d (Some (made.Silent ∷ []), d) (still_self d) (λ s i f. silent_right a s)
  given_pool (Some n) (Some p) d h u g = pooled_leads n p d (made.Silent ∷ []) (silent_right a) (u n refl) (λ s i f. let own = h s i f in (own.0, (own.1, g s i f n refl)))

  pub pool_clause_leads : (u : Use) (m : Mark Use) (d : Draft) → Leads (here a) (RightItems a) d (surely (types.pool_clause place u m a d))
  pool_clause_leads u m d =
      let r1 = types.clause_type a place u.denoted d.tables d.notes in
      let r2 = types.clause_pool m r1.0 d.tables r1.1 in
      let e : Draft = record d { notes = r2.1 } in
      let back_to : (s : Site) → Front s e → Front s d = λ s f. front_still s e d (still_noted e e.returning e.waiting d.notes) f in
      still_leads (here a) (RightItems a) d e (surely (types.pool_clause place u m a d)) (still_noted d d.returning d.waiting r2.1)
      (given_pool r1.0 r2.0 e
      (λ s i f. clause_is s r1.0 (front_sound s d (back_to s f)) (clause_type_good s.k (around_site s) d.tables (front_sound s d (back_to s f)) a place u.denoted d.notes))
      (λ n same. subst (λ o. IfSome (λ (p : Var × ℕ). Unpooled (slice_get d.tables.states.accesses n)) (types.clause_pool m o d.tables r1.1).0) (sym same) (clause_unpooled d.tables m n r1.1))
      (λ s i f n same. let sound = front_sound s d (back_to s f) in pool_is s sound n (types.clause_pool m r1.0 d.tables r1.1).0 (subst (λ o. IfSome (ForEntry s.k (around_site s) d.tables sound (slice_get d.tables.states.accesses n)) (types.clause_pool m o d.tables r1.1).0) (sym same) (clause_pool_good s.k (around_site s) d.tables sound m n r1.1))))
    where
      clause_is : (s : Site) (o : Option ℕ) (sound : Sound s.k (around_site s) d.tables) → IfSome (ClauseFor s.k (around_site s) d.tables sound a.first_access) o → IfSome (λ n. (a.first_access ≤ n) × InView s.k (around_site s) (ty.Access n)) o
      clause_is s None sound h = tt
      clause_is s (Some n) sound h = (h.past, h.usable)

      pool_is : (s : Site) (sound : Sound s.k (around_site s) d.tables) (n : ℕ) (o : Option (Var × ℕ)) → IfSome (ForEntry s.k (around_site s) d.tables sound (slice_get d.tables.states.accesses n)) o → IfSome (PoolOf s d n) o
      pool_is s sound n None h = tt
      pool_is s sound n (Some p) h = (pool_known s.k (around_site s) d.tables sound p h.fine, λ x e. deep_known s.k (around_site s) d.tables sound x.level p h.fine (h.deep x e))

-- Instances of Ada.Unchecked_Deallocation (13.11.2) ----------------------------------------------------------------------

module _ (k : Setting) (env : Frames) (tables : Tables) (sound : Sound k env tables) where
  abbrev Usable : Ty → Type 0
  Usable t = InView k env t

  abbrev InstanceFine : ℕ × Ty → Type 0
  InstanceFine p = Usable (ty.Access p.0)

  type_found_good : (place : Span) (f : Found) → FoundFine k env f → Gives Usable (decl.type_found place f)
  type_found_good place (found.TypeName t) h = λ s. h
  type_found_good place _ h = λ s. tt

  type_by_good : (place : Span) (o : Option (Tables → Judgement Found)) → IfSome (λ (f : Tables → Judgement Found). Gives (FoundFine k env) (f tables)) o → Gives Usable (decl.type_by tables place o)
  type_by_good place None h = λ s. tt
  type_by_good place (Some name) h = followed_gives (FoundFine k env) Usable (name tables) (decl.type_known place) h (type_found_good place) (λ s. tt)

  deallocated_good : (place : Span) (t u : Ty) → Usable u → Gives InstanceFine (decl.deallocated tables place t u)
  deallocated_good place t (ty.Access a) h = tested InstanceFine (designates_this t (designated_by tables a)) (known (a, t)) (wrong fault.Type place) (λ e s. h) (λ s. tt)
  deallocated_good place t (ty.Record r) h = λ s. tt
  deallocated_good place t ty.Integer h = λ s. tt
  deallocated_good place t ty.Count h = λ s. tt
  deallocated_good place t ty.Boolean h = λ s. tt
  deallocated_good place t ty.Address h = λ s. tt
  deallocated_good place t ty.Handle h = λ s. tt

  types_good : (place : Span) (x y : Expression Use) → Gives InstanceFine (decl.instance_types tables place (sense x) (sense y))
  types_good place x y = next (λ (r : Ty × Ty). Usable r.0 × Usable r.1) InstanceFine (both (decl.actual_type tables place (sense x)) (decl.actual_type tables place (sense y))) (λ r. decl.deallocated tables place r.0 r.1)
      (both_give Usable Usable (decl.actual_type tables place (sense x)) (decl.actual_type tables place (sense y)) (type_by_good place (sense x).bare (expression_right k env tables sound x).bare) (type_by_good place (sense y).bare (expression_right k env tables sound y).bare))
      (λ r h. deallocated_good place r.0 r.1 h.1)

  with_good : (place : Span) (n : ℕ) (x y : Expression Use) → Gives InstanceFine (decl.instance_with tables place n (sense x) (sense y))
  with_good place zero x y = types_good place x y
  with_good place (suc n) x y = types_good place y x

  at_good : (place : Span) (ns : List ℕ) (as' : List (Association Use)) → Gives InstanceFine (decl.instance_at tables place ns as')
  at_good place (n ∷ m ∷ []) (x ∷ y ∷ []) = with_good place n x.value y.value
  at_good place _ _ = λ s. tt

  by_good : (place : Span) (o : Option (List ℕ)) (as' : List (Association Use)) → Gives InstanceFine (decl.instance_by tables place o as')
  by_good place None as' = λ s. tt
  by_good place (Some ns) as' = at_good place ns as'

  denoted_good : (place : Span) (x : Denoted) (as' : List (Association Use)) → Gives InstanceFine (decl.instance_denoted tables place x as')
  denoted_good place (denoted.Library library.UncheckedDeallocation) as' = by_good place (marks.positions Deallocation as') as'
  denoted_good place _ as' = λ s. tt

  marked_good : (place : Span) (u : Use) (rest : List Identifier) (as' : List (Association Use)) → Gives InstanceFine (decl.instance_marked tables place u rest as')
  marked_good place u [] as' = denoted_good place u.denoted as'
  marked_good place u (i ∷ is') as' = λ s. tt

  pub instance_good : (place : Span) (m : Mark Use) (as' : List (Association Use)) → Gives InstanceFine (decl.instance_of place m as' tables)
  instance_good place m as' = marked_good place m.first m.rest as'

module _ (a : Around) (place : Span) where
  instance_right : (n : ℕ) (t : Ty) (d : Draft) (ls : List Checked_item) (e : Draft) → Quiet a d (ls, e) → ((s : Site) → Front s d → InView s.k (around_site s) (ty.Access n)) → Leads (here a) (RightItems a) d (decl.instance_declared n (ls, e))
  instance_right n t d ls e q usable = still_leads (here a) (RightItems a) d e (decl.instance_declared n (ls, e)) q.still (record {
    made = nothing;
    grows = let g = grows_self e in record { records = g.records; components = g.components; exceptions = g.exceptions; accesses = g.accesses; slots = g.slots; record_homes = g.record_homes; access_homes = g.access_homes; signatures = g.signatures };
    right = λ s i f b g.
        let back = front_still s e d (still_back d e q.still) f in
        (front_declared s e (entry.Deallocation n) (usable s back) f, elaborated_joined s.k (around_site s) ls (made.Silent ∷ []) (q.layers s i back) (silent_right a s));
  })

  known_leads : (o : Option (ℕ × Ty)) (d : Draft) → ((s : Site) → Front s d → IfSome (λ (p : ℕ × Ty). InView s.k (around_site s) (ty.Access p.0)) o) → Leads (here a) (RightItems a) d (decl.instance_known a (o, d))
  known_leads None d h = unknown_comes a d None (λ s i f. tt)
  known_leads (Some p) d h =
      let ds = Freezes p.1 ∷ Freezes (ty.Access p.0) ∷ [] in
      let r = done_by a ds d in
      instance_right p.0 p.1 d r.0 r.1 (done_quiet a ds d) h

  pub instance_leads : (name : Definition) (m : Mark Use) (as' : List (Association Use)) (d : Draft) → Leads (here a) (RightItems a) d (decl.instance place name m as' a d)
  instance_leads name m as' d =
      let e = name_kept name d in
      let r = decl.instance_of place m as' e.tables e.notes in
      let g : Draft = record e { notes = r.1 } in
      still_leads (here a) (RightItems a) d g (decl.instance_known a (r.0, g)) (still_further d e g (told_still (is_given (operation_named name.identifier.text)) _ name.identifier.span d) (still_noted e e.returning e.waiting r.1))
      (known_leads r.0 g (λ s f. let back = front_still s g e (still_noted g g.returning g.waiting e.notes) f in instance_good s.k (around_site s) e.tables (front_sound s e back) place m as' e.notes))
