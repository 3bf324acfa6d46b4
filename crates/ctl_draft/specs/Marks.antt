-- The types that declarations name, the pools, and what is given by position or by name (3.2.2, 13.11, 3.7.1, 12.3).
use Rattle.std.specs.Prelude.{ℕ, zero, suc, Bool, true, false, ◌&&◌, ◌||◌, if◌then◌else◌, nat_eq, List, [], ◌∷◌, ◌++◌, codes, length, slice_get, Option, Some, None}
use Rattle.ctl_grammar.specs.Spelling.{same_name}
use Rattle.ctl_tree.specs.declared.span.Span.{Span}
use Rattle.ctl_tree.specs.declared.fault.FaultCode.TheVariants as rule
use Rattle.ctl_program.specs.declared.types.Ty.{Ty}
use Rattle.ctl_program.specs.declared.types.Ty.TheVariants as ty
use Rattle.ctl_program.specs.declared.types.Root.{Root}
use Rattle.ctl_program.specs.declared.types.Root.TheVariants as root
use Rattle.ctl_program.specs.declared.types.Var.{Var}
use Rattle.ctl_syntax.specs.declared.denoted.Denoted.{Denoted}
use Rattle.ctl_syntax.specs.declared.denoted.Denoted.TheVariants as denoted
use Rattle.ctl_syntax.specs.declared.denoted.LibraryName.TheVariants as library
use Rattle.ctl_syntax.specs.declared.denoted.Use.{Use}
use Rattle.ctl_syntax.specs.declared.item.Association.{Association}
use Rattle.ctl_syntax.specs.declared.name.Identifier.{Identifier}
use Rattle.ctl_syntax.specs.declared.name.Mark.{Mark}
use Rattle.ctl_typing.specs.declared.table.Tables.{Tables}
use Rattle.ctl_typing.specs.declared.table.Entry.{Entry}
use Rattle.ctl_typing.specs.declared.table.Entry.TheVariants as entry
use Rattle.ctl_typing.specs.declared.table.ObjectEntry.{ObjectEntry}
use Rattle.ctl_typing.specs.declared.table.Standing.{Standing}
use Rattle.ctl_typing.specs.declared.table.Standing.TheVariants as standing
use Rattle.ctl_typing.specs.declared.table.RecordEntry.{RecordEntry}
use Rattle.ctl_typing.specs.declared.table.Control.{Control}
use Rattle.ctl_typing.specs.declared.table.Control.TheVariants as control
use Rattle.ctl_draft.specs.declared.associations.Associated.{Associated}
use Rattle.ctl_draft.specs.declared.associations.Associated.TheVariants.{Discriminants, Deallocation}
use Rattle.ctl_typing.specs.Judgement.{Judgement, known, but, wrong, unresolved, ◌>>=◌}
use Rattle.ctl_typing.specs.Lookup.{root_of}
use Rattle.ctl_typing.specs.Typing.{told_at, mark_judged, has_objects, discriminant_named}

-- Types ----------------------------------------------------------------------------------------

-- a name alone, and no expanded one
abbrev pub is_alone : Mark Use → Bool
is_alone m = is_nothing m.rest
  where
    is_nothing : List Identifier → Bool
    is_nothing [] = true
    is_nothing (i ∷ is) = false

-- Root_Storage_Pool, which is no type here: pool types extend Block_Pool (13.11, profile)
abbrev pub is_root_pool : Mark Use → Bool
is_root_pool m = is_root m.first.denoted && is_alone m
  where
    is_root : Denoted → Bool
    is_root (denoted.Library library.RootStoragePool) = true
    is_root d = false

-- the type that a mark names; where it names none, the item is wrong
abbrev pub named_type : Tables → Span → Mark Use → Judgement Ty
named_type tables place m = if is_root_pool m then wrong rule.Pool m.first.span else mark_judged tables (told_at place m.first) m.rest

-- a type that has objects (3.9.3)
abbrev pub concrete_type : Tables → Span → Mark Use → Judgement Ty
concrete_type tables place m = named_type tables place m >>= (λ t. if has_objects tables t then known t else wrong rule.Type place)

abbrev pub is_pool_root : Root → Bool
is_pool_root root.BlockPool = true
is_pool_root root.MarkPool = true
is_pool_root r = false

abbrev pub root_of_type : Tables → Ty → Root
root_of_type tables (ty.Record t) = root_of (slice_get tables.records t)
root_of_type tables t = root.Untagged

abbrev pub is_pool : Tables → Ty → Bool
is_pool tables t = is_pool_root (root_of_type tables t)

-- no pool type stands here (profile)
abbrev pub no_pool : Tables → Span → Ty → Judgement Ty
no_pool tables place t = if is_pool tables t then but rule.Pool place t else known t

abbrev pub controls : Control → Bool
controls control.Controlled = true
controls control.Uncontrolled = false

abbrev pub controlled_in : Option RecordEntry → Bool
controlled_in None = false
controlled_in (Some r) = controls r.control

-- whether a type has a controlled part (7.6)
abbrev pub has_controlled : Tables → Ty → Bool
has_controlled tables (ty.Record t) = controlled_in (slice_get tables.records t)
has_controlled tables t = false

-- Pools (13.11) --------------------------------------------------------------------------------------

abbrev pub pool_of_type : Tables → Span → Var → Ty → Judgement (Var × ℕ)
pool_of_type tables place v (ty.Record t) = if is_pool tables (ty.Record t) then known (v, t) else wrong rule.Pool place
pool_of_type tables place v t = wrong rule.Pool place

abbrev pub pool_standing : Tables → Span → Standing → ObjectEntry → Judgement (Var × ℕ)
pool_standing tables place standing.Declared o = pool_of_type tables place o.var o.ty
pool_standing tables place s o = wrong rule.Pool place

abbrev pub pool_entry : Tables → Span → Option Entry → Judgement (Var × ℕ)
pool_entry tables place (Some (entry.Object o)) = pool_standing tables place o.standing o
pool_entry tables place (Some entry.Unknown) = λ n. (None, n)
pool_entry tables place e = wrong rule.Pool place

abbrev pub pool_denoted : Tables → Span → Denoted → Judgement (Var × ℕ)
pool_denoted tables place (denoted.Declared number level) = pool_entry tables place (slice_get tables.entries number)
pool_denoted tables place denoted.Unknown = unresolved place
pool_denoted tables place d = wrong rule.Pool place

abbrev pub pool_by : Tables → Use → List Identifier → Judgement (Var × ℕ)
pool_by tables u [] = pool_denoted tables u.span u.denoted
pool_by tables u (i ∷ is) = wrong rule.Pool u.span

-- the declared pool object that a mark names, and the record type that it is of
abbrev pub pool_named : Tables → Mark Use → Judgement (Var × ℕ)
pool_named tables m = pool_by tables m.first m.rest

-- Associations: by position or by name, each once (3.7.1, 12.3) ------------------------------------------

-- the formals of Ada.Unchecked_Deallocation (13.11.2)
abbrev pub deallocation_formal : List ℕ → Option ℕ
deallocation_formal name = if same_name name (codes "object") then Some 0 else (if same_name name (codes "name") then Some 1 else None)

-- where what is called so stands among what is given
abbrev pub position_in : Associated → List ℕ → Option ℕ
position_in (Discriminants r) name = discriminant_named r name
position_in Deallocation name = deallocation_formal name

abbrev pub discriminant_count : Root → ℕ
discriminant_count root.BlockPool = 2
discriminant_count root.MarkPool = 1
discriminant_count r = 0

-- how many have to be given
abbrev pub count_in : Associated → ℕ
count_in (Discriminants r) = discriminant_count r
count_in Deallocation = 2

abbrev pub is_positional : Option Identifier → Bool
is_positional None = true
is_positional (Some i) = false

abbrev pub all_positional : List (Association Use) → Bool
all_positional [] = true
all_positional (a ∷ as') = is_positional a.name && all_positional as'

-- so many numbers from this one on, behind those before
abbrev pub numbers_on : List ℕ → ℕ → ℕ → List ℕ
numbers_on before zero n = before
numbers_on before (suc k) n = numbers_on (before ++ n ∷ []) k (suc n)

abbrev pub position_of : Associated → Option Identifier → Option ℕ
position_of what None = None
position_of what (Some i) = position_in what i.text

abbrev pub is_among : ℕ → List ℕ → Bool
is_among n [] = false
is_among n (m ∷ ms) = nat_eq n m || is_among n ms

-- one more, if there is one
abbrev pub added : List ℕ → Option ℕ → Option (List ℕ)
added before None = None
added before (Some n) = Some (before ++ n ∷ [])

-- one more, if it is not there yet
abbrev pub with_position : List ℕ → Option ℕ → Option (List ℕ)
with_position before None = None
with_position before (Some n) = if is_among n before then None else added before (Some n)

abbrev pub named_on : Associated → Option (List ℕ) → List (Association Use) → Option (List ℕ)
named_on what None as' = None
named_on what (Some before) [] = Some before
named_on what (Some before) (a ∷ as') = named_on what (with_position before (position_of what a.name)) as'

-- the position of what each association gives
abbrev pub positions : Associated → List (Association Use) → Option (List ℕ)
positions what as' =
    if nat_eq (count_in what) (length as')
    then (if all_positional as' then Some (numbers_on [] (length as') 0) else named_on what (Some []) as')
    else None
