-- Naming: what a construct is once its names have what they denote, and what is in view behind it, with the first fault by place. No fault ends the
-- naming; each is noted, and the first by place is kept.
use Rattle.std.specs.Prelude.{◌≡◌, ℕ, ◌+◌, Bool, List, [], ◌∷◌, ◌++◌, length, take, Option, Some, None, Result, Ok, Err, if◌then◌else◌}
use Rattle.ctl_tree.specs.declared.span.Span.{Span}
use Rattle.ctl_tree.specs.Faults.{first_of, fault_at}
use Rattle.ctl_tree.specs.declared.fault.FaultCode.{FaultCode}
use Rattle.ctl_resolve.specs.declared.view.Stage.{Stage}
use Rattle.ctl_resolve.specs.declared.view.Role.{Role}
use Rattle.ctl_resolve.specs.declared.view.Part.{Part}
use Rattle.ctl_resolve.specs.declared.view.Progress.TheVariants.{BeforeBodies, BehindBody}
use Rattle.ctl_resolve.specs.declared.view.View.{View}
use Rattle.ctl_resolve.specs.Table.{with_stage_at}

-- Namings, one behind the other ----------------------------------------------------------------------

abbrev pub Naming : Type 0 → Type 0
Naming A = View → A × View

abbrev pub pure : {A : Type 0} → A → Naming A
pure a v = (a, v)

abbrev pub then_by : {A B : Type 0} → (A → Naming B) → A × View → B × View
then_by f (a, v) = f a v

infixl 10 ◌>>=◌
abbrev pub ◌>>=◌ : {A B : Type 0} → Naming A → (A → Naming B) → Naming B
◌>>=◌ p f v = then_by f (p v)

-- a change of what is in view, or a note
abbrev pub after : {A : Type 0} → (View → View) → Naming A → Naming A
after change p v = p (change v)

abbrev pub changed : {A : Type 0} → (View → View) → A × View → A × View
changed change (a, v) = (a, change v)

abbrev pub before : {A : Type 0} → Naming A → (View → View) → Naming A
before p change v = changed change (p v)

-- each in turn, behind those so far
abbrev pub each_on : {A B : Type 0} → (A → Naming B) → List B → B × View → List A → List B × View
each_on f done (b, v) [] = (done ++ b ∷ [], v)
each_on f done (b, v) (x ∷ xs) = each_on f (done ++ b ∷ []) (f x v) xs

abbrev pub each : {A B : Type 0} → (A → Naming B) → List B → List A → Naming (List B)
each f done [] v = (done, v)
each f done (x ∷ xs) v = each_on f done (f x v) xs

-- what may be absent
abbrev pub some_of : {A : Type 0} → A × View → Option A × View
some_of (a, v) = (Some a, v)

abbrev pub optional : {A B : Type 0} → (A → Naming B) → Option A → Naming (Option B)
optional f None v = (None, v)
optional f (Some x) v = some_of (f x v)

-- What a function returns and leaves: the naming, unless memory was refused.
abbrev pub Names : {A E : Type 0} → Naming A → View → Result A E → View → Type 0
Names p old (Ok a) new = p old ≡ (a, new)
Names p old (Err e) new = Unit {0}

-- the same of a change of what is in view
abbrev pub Changes : {E : Type 0} → (View → View) → View → Result Unit E → View → Type 0
Changes change old (Ok u) new = change old ≡ new
Changes change old (Err e) new = Unit {0}

-- Notes -------------------------------------------------------------------------------------------------

-- a rule is broken here
abbrev pub note : FaultCode → Span → View → View
note code at v = record v { fault = first_of v.fault (fault_at code at) }

abbrev pub note_if : Bool → FaultCode → Span → View → View
note_if broken code at v = if broken then note code at v else v

-- What is in view --------------------------------------------------------------------------------------

-- one more declaration, under a key
abbrev pub declare : List ℕ → Role → Stage → Span → View → View
declare key role stage at v = record v { table = v.table ++ (record { key = key; role = role; stage = stage; level = v.part.level; span = at }) ∷ [] }

-- the declaration of this number has come as far as this
abbrev pub set_stage : ℕ → Stage → View → View
set_stage k s v = record v { table = with_stage_at v.table k s }

-- only so many declarations stay in view
abbrev pub cut : ℕ → View → View
cut count v = record v { table = take count v.table }

-- Regions (8.1, 3.11) --------------------------------------------------------------------------------

-- the level inside a master (3.10.2)
abbrev pub deeper : ℕ → ℕ
deeper level = level + 1

-- the part of a body or a block begins here
abbrev pub enter_master : View → View
enter_master v = record v { part = record { start = length v.table; level = deeper v.part.level; progress = BeforeBodies } }

-- a region that is no master begins here: that of a loop
abbrev pub enter_region : View → View
enter_region v = record v { part = record v.part { start = length v.table } }

-- back to the region around, where what was declared is out of view
abbrev pub leave : Part → View → View
leave around v = record v { table = take v.part.start v.table; part = around }

abbrev pub behind_body : View → View
behind_body v = record v { part = record v.part { progress = BehindBody } }

-- inside a region: what is declared there goes out of view at its end
abbrev pub within : {A : Type 0} → (View → View) → Naming A → Naming A
within enter p v = changed (leave v.part) (p (enter v))
