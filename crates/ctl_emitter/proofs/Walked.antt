-- What names denote (4.1): a variable, or what the steps of the name lead to from what it begins with, all of which are run.
use Rattle.std.proofs.Common.{◌≡◌, List, [], ◌∷◌, ◌++◌, Option, Some, None, Bool, true, false, refl, sym, subst, append_assoc}
use Rattle.ctl_program.specs.declared.types.Ty.{Ty}
use Rattle.ctl_program.specs.declared.types.RecordType.{RecordType}
use Rattle.ctl_program.specs.declared.expression.Step.{Step}
use Rattle.ctl_program.specs.declared.expression.Step.TheVariants.{Component, Dereference, Narrow}
use Rattle.ctl_program.specs.declared.operators.CopyStart.{CopyStart}
use Rattle.ctl_code.specs.declared.kinds.Kind.{Kind}
use Rattle.ctl_layout.specs.Around.{Line}
use Rattle.ctl_layout.specs.Parts.{Start, OfVariable, OfValue, OfRecord, Reached, Variable, Part, Object, Result, are_followed, behind_last, behind_further, behind_steps, is_begun, is_dereferenced, object_if, part_if, part_runs}
use Rattle.ctl_layout.specs.Values.{by_copy}
use Rattle.ctl_layout.proofs.Extensions.{both_true}

-- Names -------------------------------------------------------------------------------------------

-- what a name begins with, and its steps
abbrev pub start_of : Reached → Start
start_of (Variable v) = OfVariable v
start_of (Part b steps t position) = b
start_of (Object b steps) = b
start_of (Result b) = b

abbrev pub steps_of : Reached → List Step
steps_of (Variable v) = []
steps_of (Part b steps t position) = steps ++ Component t position ∷ []
steps_of (Object b steps) = steps
steps_of (Result b) = []

-- its code finds what these lead to: for a component, the part that has it
abbrev pub steps_before : Reached → List Step
steps_before (Variable v) = []
steps_before (Part b steps t position) = steps
steps_before (Object b steps) = steps
steps_before (Result b) = []

-- to a whole object lead steps, and to a value alone no name
abbrev pub AreSome : List Step → Type 0
AreSome [] = ⊥
AreSome (step ∷ steps) = Unit {0}

abbrev pub IsLed : Reached → Type 0
IsLed (Object b steps) = AreSome steps
IsLed (Result b) = ⊥
IsLed _ = Unit {0}

some_last : (steps : List Step) (step : Step) → AreSome (steps ++ step ∷ [])
some_last [] step = tt
some_last (first ∷ steps) step = tt

-- behind these steps from what a name begins with, which are run, this is reached
pub record Denoted (b : Start) (ss : List Step) (x : Reached) : Type 0 where
  pub start : b ≡ start_of x
  pub steps : ss ≡ steps_of x
  pub walked : are_followed (start_of x) (steps_before x) ≡ true
  pub led : IsLed x

last_is : (b : Start) (steps : List Step) (s : Step) (x : Reached) → behind_last b steps s ≡ Some x → Denoted b (steps ++ s ∷ []) x
last_is b steps (Component t position) x is = by (are_followed b steps) refl is
  where
    by : (f : Bool) → are_followed b steps ≡ f → part_if f b steps t position ≡ Some x → Denoted b (steps ++ Component t position ∷ []) x
    by true e h =
        let same : Part b steps t position ≡ x = cc h in
        subst (Denoted b (steps ++ Component t position ∷ [])) same (record { start = refl; steps = refl; walked = e; led = tt })
    by false e h = absurd (cc h)
last_is b steps Dereference x is = by (are_followed b (steps ++ Dereference ∷ [])) refl is
  where
    by : (f : Bool) → are_followed b (steps ++ Dereference ∷ []) ≡ f → object_if f b (steps ++ Dereference ∷ []) ≡ Some x → Denoted b (steps ++ Dereference ∷ []) x
    by true e h =
        let same : Object b (steps ++ Dereference ∷ []) ≡ x = cc h in
        subst (Denoted b (steps ++ Dereference ∷ [])) same (record { start = refl; steps = refl; walked = e; led = some_last steps Dereference })
    by false e h = absurd (cc h)
last_is b steps (Narrow t) x is = absurd (cc is)

further_is : (b : Start) (before : List Step) (s : Step) (more : List Step) (x : Reached) → behind_further b before (s ∷ more) ≡ Some x → Denoted b (before ++ s ∷ more) x
further_is b before s [] x is = last_is b before s x is
further_is b before s (next ∷ more) x is = subst (λ ss. Denoted b ss x) (append_assoc before (s ∷ []) (next ∷ more)) (further_is b (before ++ s ∷ []) next more x is)

pub behind_is : (b : Start) (ss : List Step) (x : Reached) → behind_steps b ss ≡ Some x → Denoted b ss x
behind_is (OfVariable v) [] x is = let same : Variable v ≡ x = cc is in subst (Denoted (OfVariable v) []) same (record { start = refl; steps = refl; walked = refl; led = tt })
behind_is (OfValue runs code) [] x is = absurd (cc is)
behind_is (OfRecord t runs code) [] x is = absurd (cc is)
behind_is b (s ∷ ss) x is = further_is b [] s ss x is

-- what a name begins with is run where the part is that it denotes
pub part_begun : (records : List RecordType) (x : Reached) → part_runs x records ≡ true → is_begun (start_of x) records ≡ true
part_begun records (Variable v) h = refl
part_begun records (Part b steps t position) h = (both_true _ _ h).0
part_begun records (Object b steps) h = (both_true _ _ h).0
part_begun records (Result b) h = h

-- a value is dereferenced first
dereferenced_first : (x : Reached) → is_dereferenced (steps_before x) ≡ true → is_dereferenced (steps_of x) ≡ true
dereferenced_first (Variable v) h = absurd (cc h)
dereferenced_first (Object b steps) h = h
dereferenced_first (Result b) h = absurd (cc h)
dereferenced_first (Part b [] t position) h = absurd (cc h)
dereferenced_first (Part b (Component u i ∷ steps) t position) h = absurd (cc h)
dereferenced_first (Part b (Dereference ∷ steps) t position) h = refl
dereferenced_first (Part b (Narrow u ∷ steps) t position) h = absurd (cc h)

pub value_dereferenced : (runs : List RecordType → Bool) (lines : List Kind → List Line) (ss : List Step) (x : Reached) → behind_steps (OfValue runs lines) ss ≡ Some x → is_dereferenced ss ≡ true
value_dereferenced runs lines ss x is =
    let h = behind_is (OfValue runs lines) ss x is in
    let led = subst (λ b. are_followed b (steps_before x) ≡ true) (sym h.start) h.walked in
    subst (λ s. is_dereferenced s ≡ true) (sym h.steps) (dereferenced_first x (both_true _ _ led).0)

-- a copy of a variable is no source
pub copy_reaches : (o : Option Reached) (ty : Ty) (begins : CopyStart) → (by_copy o ty begins).reached ≡ None
copy_reaches None ty begins = refl
copy_reaches (Some (Variable v)) ty begins = refl
copy_reaches (Some (Part v steps u position)) ty begins = refl
copy_reaches (Some (Object v steps)) ty begins = refl
copy_reaches (Some (Result b)) ty begins = refl
