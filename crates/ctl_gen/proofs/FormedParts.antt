-- The code that finds a part of an object is well formed, and puts it on top (4.1, 4.1.3); so is the code that assigns one part to another (5.2).
use Rattle.std.proofs.Common.{◌≡◌, ℕ, List, [], ◌∷◌, ◌++◌, Option, Some, None, Bool, true, false, refl, sym, ap, ◌∙◌, subst}
use Rattle.std.proofs.lemmas.Bool.{not-true}
use Rattle.std.specs.Prelude.{if◌then◌else◌, not, ◌&&◌}
use Rattle.ctl_program.specs.declared.types.Ty.{Ty}
use Rattle.ctl_program.specs.declared.types.Ty.TheVariants.{Record}
use Rattle.ctl_program.specs.declared.types.RecordType.{RecordType}
use Rattle.ctl_program.specs.declared.types.Var.{Var}
use Rattle.ctl_program.specs.declared.expression.Step.{Step}
use Rattle.ctl_program.specs.declared.expression.Step.TheVariants.{Component, Dereference, Narrow}
use Rattle.ctl_well_typed.specs.Setting as W
use Rattle.ctl_code.specs.declared.kinds.Kind.{Kind}
use Rattle.ctl_code.specs.declared.kinds.Kind.TheVariants.{Operand}
use Rattle.ctl_code.specs.declared.code.Cell.{Cell}
use Rattle.ctl_code.specs.declared.code.Instr.TheVariants as InstrOf
use Rattle.ctl_code.specs.declared.code.Code.{Code}
use Rattle.ctl_code.specs.Windows.{height}
use Rattle.ctl_code.specs.Valid as Valid
use Rattle.ctl_code.specs.Valid.{HasVariable, IsFine, Puts}
use Rattle.ctl_layout.specs.Around.{local_at, new_operand, read_from}
use Rattle.ctl_layout.specs.Parts.{Start, OfVariable, OfValue, OfRecord, Reached, Variable, Part, Object, Result, access_value, any_type, are_followed, are_walked, behind_steps, first_position, first_type, found, is_begun, is_dereferenced, located_code, part_code, selected, selects_code, whole_code}
use Rattle.ctl_layout.specs.Layout.{record_code, take_over_code}
use Rattle.ctl_layout.proofs.Extensions.{both_true}
use Rattle.ctl_gen.proofs.Formed.{Formed, both, none, one}
use Rattle.ctl_gen.proofs.FormedAround.{Surrounds, IsNamed, MayHold, variable_there}
use Rattle.ctl_emitter.proofs.Walked.{Denoted, IsLed, behind_is, start_of, steps_before, steps_of}

-- what stands before these steps: an access value where they begin with a dereference, else the part whose component they select
abbrev before : List Step → ℕ → List Kind → List Kind
before steps t s = (if is_dereferenced steps then Operand access_value else Operand (Record (first_type steps t))) ∷ s

-- the value of a record is of the type whose component is selected of it, or of that of what it is alone
abbrev pub HasHead : Start → List Step → ℕ → Type 0
HasHead (OfRecord u runs lines) steps t = first_type steps t ≡ u
HasHead _ steps t = Unit {0}

-- this version runs these steps behind what a name begins with, to a part of this type
abbrev pub Follows : Start → List Step → ℕ → Type 0
Follows b steps t = (are_followed b steps ≡ true) × HasHead b steps t

-- and those that find what a name denotes, where that is of this type
abbrev pub FollowsAt : Reached → ℕ → Type 0
FollowsAt (Variable v) t = Follows (OfVariable v) [] t
FollowsAt (Part b steps u position) t = Follows b steps u
FollowsAt (Object b steps) t = Follows b steps t
FollowsAt (Result b) t = Follows b [] t

-- the first of these steps selects a component of the record type whose value a name begins with
abbrev pub BeginsAt : Start → List Step → Type 0
BeginsAt (OfRecord u runs lines) (Component t position ∷ steps) = t ≡ u
BeginsAt _ steps = Unit {0}

-- inside these masters the code of what a name begins with is well formed, and puts an access value or that of a record on top; a variable is
-- named there
abbrev pub IsBegun : Code → W.Frames → Start → Type 0
IsBegun code env (OfVariable v) = IsNamed env v
IsBegun code env (OfValue runs lines) = (s : List Kind) → Surrounds code env s → Formed code (lines s) s (Some (Operand access_value ∷ s))
IsBegun code env (OfRecord t runs lines) = (s : List Kind) → Surrounds code env s → Formed code (lines s) s (Some (Operand (Record t) ∷ s))

-- so is that of what a name denotes, whose steps are run, where what it begins with is run
abbrev pub IsFound : Code → W.Frames → List RecordType → Option Reached → Type 0
IsFound code env records None = Unit {0}
IsFound code env records (Some x) = ((t : ℕ) → FollowsAt x t) × (is_begun (start_of x) records ≡ true → IsBegun code env (start_of x))

-- the same where it is of this record type: so the value of a record may stand there too
abbrev pub IsFoundAt : Code → W.Frames → List RecordType → ℕ → Option Reached → Type 0
IsFoundAt code env records t None = Unit {0}
IsFoundAt code env records t (Some x) = FollowsAt x t × (is_begun (start_of x) records ≡ true → IsBegun code env (start_of x))

pub found_at : (code : Code) (env : W.Frames) (records : List RecordType) (t : ℕ) (o : Option Reached) → IsFound code env records o → IsFoundAt code env records t o
found_at code env records t None h = tt
found_at code env records t (Some x) h = (h.0 t, h.1)

-- the steps to what a name denotes begin as those of the name
head_of : (b : Start) (steps : List Step) (step : Step) (t : ℕ) → are_followed b (step ∷ steps) ≡ true → BeginsAt b (step ∷ steps) → HasHead b (step ∷ steps) t
head_of (OfVariable v) steps step t walked at = tt
head_of (OfValue runs lines) steps step t walked at = tt
head_of (OfRecord u runs lines) steps (Component w i) t walked at = at
head_of (OfRecord u runs lines) steps Dereference t walked at = absurd (cc walked)
head_of (OfRecord u runs lines) steps (Narrow w) t walked at = absurd (cc walked)

-- a component of what a name begins with
first_head : (b : Start) (t position : ℕ) → BeginsAt b (Component t position ∷ []) → HasHead b [] t
first_head (OfVariable v) t position at = tt
first_head (OfValue runs lines) t position at = tt
first_head (OfRecord u runs lines) t position at = at

-- the first step is the same where more follow
same_first : (b : Start) (step : Step) (steps more : List Step) → BeginsAt b (step ∷ steps) → BeginsAt b (step ∷ more)
same_first (OfVariable v) step steps more at = tt
same_first (OfValue runs lines) step steps more at = tt
same_first (OfRecord u runs lines) (Component t position) steps more at = at
same_first (OfRecord u runs lines) Dereference steps more at = tt
same_first (OfRecord u runs lines) (Narrow t) steps more at = tt

-- so what these steps lead to follows what the name begins with
follows : (b : Start) (ss : List Step) (x : Reached) → Denoted b ss x → BeginsAt b ss → (t : ℕ) → FollowsAt x t
follows b ss x h at t = by x h.walked h.led (subst (λ z. BeginsAt z (steps_of x)) h.start (subst (BeginsAt b) h.steps at))
  where
    by : (x : Reached) → are_followed (start_of x) (steps_before x) ≡ true → IsLed x → BeginsAt (start_of x) (steps_of x) → FollowsAt x t
    by (Variable v) walked led begins = (walked, tt)
    by (Part c [] u position) walked led begins = (walked, first_head c u position begins)
    by (Part c (step ∷ steps) u position) walked led begins = (walked, head_of c steps step u walked (same_first c step (steps ++ Component u position ∷ []) steps begins))
    by (Object c []) walked led begins = absurd led
    by (Object c (step ∷ steps)) walked led begins = (walked, head_of c steps step t walked begins)
    by (Result c) walked led begins = absurd led

-- what is found behind these steps
pub steps_found : (code : Code) (env : W.Frames) (records : List RecordType) (b : Start) (ss : List Step) (o : Option Reached) → behind_steps b ss ≡ o → BeginsAt b ss → ((x : Reached) → behind_steps b ss ≡ Some x → is_begun b records ≡ true → IsBegun code env b) → IsFound code env records o
steps_found code env records b ss None is at begun = tt
steps_found code env records b ss (Some x) is at begun =
    let h = behind_is b ss x is in
    (follows b ss x h at, λ runs. subst (IsBegun code env) h.start (begun x is (subst (λ z. is_begun z records ≡ true) (sym h.start) runs)))

module _ (code : Code) where
  -- the value of a variable goes where it is wanted
  pub read_fine : (o : Option ℕ) (v : Var) (ty : Ty) (to : Cell) (s : List Kind) (p : ℕ) → local_at s v ≡ o → HasVariable code.homes s v → Valid.IsScalar ty → Puts code p to ty s → IsFine code p (read_from o v ty to s) s
  read_fine (Some at) v ty to s p here slot scalar put = (scalar, (s, (refl, here), put))
  read_fine None v ty to s p here slot scalar put = (scalar, put, slot)

  -- the object in a variable, or the access value that is dereferenced
  found_formed : (v : Var) (steps : List Step) (t : ℕ) (s : List Kind) → HasVariable code.homes s v → Formed code ((found v steps t s, s) ∷ []) s (Some (before steps t s))
  found_formed v steps t s slot = by (is_dereferenced steps)
    where
      by : (b : Bool) → Formed code (((if b then read_from (local_at s v) v access_value (new_operand s) s else InstrOf.Locate v (first_type steps t) (height s)), s) ∷ []) s (Some ((if b then Operand access_value else Operand (Record (first_type steps t))) ∷ s))
      by true = one code (read_from (local_at s v) v access_value (new_operand s) s) s (Some (Operand access_value ∷ s)) (λ p next. read_fine (local_at s v) v access_value (new_operand s) s p refl slot tt (refl, next))
      by false = one code (InstrOf.Locate v (first_type steps t) (height s)) s (Some (Operand (Record (first_type steps t)) ∷ s)) (λ p next. (refl, next, slot))

  -- a component in place of the part that has it
  select_formed : (t position part : ℕ) (s : List Kind) → Formed code ((InstrOf.Select t position part, Operand (Record t) ∷ s) ∷ []) (Operand (Record t) ∷ s) (Some (Operand (Record part) ∷ s))
  select_formed t position part s = one code (InstrOf.Select t position part) (Operand (Record t) ∷ s) (Some (Operand (Record part) ∷ s)) (λ p next. (s, refl, next))

  -- or its value, where that is dereferenced
  selected_formed : (u position : ℕ) (steps : List Step) (t : ℕ) (s : List Kind) → Formed code ((selected u position steps t s, Operand (Record u) ∷ s) ∷ []) (Operand (Record u) ∷ s) (Some (before steps t s))
  selected_formed u position steps t s = by (is_dereferenced steps)
    where
      part : List Kind
      part = Operand (Record u) ∷ s

      by : (b : Bool) → Formed code (((if b then InstrOf.TakePart u position access_value (new_operand s) else InstrOf.Select u position (first_type steps t)), Operand (Record u) ∷ s) ∷ []) (Operand (Record u) ∷ s) (Some ((if b then Operand access_value else Operand (Record (first_type steps t))) ∷ s))
      by true = one code (InstrOf.TakePart u position access_value (new_operand s)) part (Some (Operand access_value ∷ s)) (λ p next. (tt, (s, refl, (refl, next))))
      by false = select_formed u position (first_type steps t) s

  -- the object that an access value designates
  designated_formed : (steps : List Step) (t : ℕ) (s : List Kind) → Formed code ((InstrOf.Dereference (first_type steps t) (height s), Operand access_value ∷ s) ∷ []) (Operand access_value ∷ s) (Some (Operand (Record (first_type steps t)) ∷ s))
  designated_formed steps t s = one code (InstrOf.Dereference (first_type steps t) (height s)) (Operand access_value ∷ s) (Some (Operand (Record (first_type steps t)) ∷ s)) (λ p next. (s, refl, (refl, next)))

  -- or its value, where that is dereferenced
  whole_formed : (steps : List Step) (t : ℕ) (s : List Kind) → Formed code (whole_code steps s) (Operand (Record (first_type steps t)) ∷ s) (Some (before steps t s))
  whole_formed [] t s = none code (Operand (Record t) ∷ s)
  whole_formed (Component u position ∷ steps) t s = none code (Operand (Record u) ∷ s)
  whole_formed (Dereference ∷ steps) t s = one code (InstrOf.TakePart any_type first_position access_value (new_operand s)) (Operand (Record any_type) ∷ s) (Some (Operand access_value ∷ s)) (λ p next. (tt, (s, refl, (refl, next))))
  whole_formed (Narrow u ∷ steps) t s = none code (Operand (Record t) ∷ s)

  selects_formed : (steps : List Step) (t : ℕ) (s : List Kind) → are_walked steps ≡ true → Formed code (selects_code steps t s) (before steps t s) (Some (Operand (Record t) ∷ s))
  selects_formed [] t s walked = none code (Operand (Record t) ∷ s)
  selects_formed (Component u position ∷ steps) t s walked =
      both code ((selected u position steps t s, Operand (Record u) ∷ s) ∷ []) (selects_code steps t s) (Operand (Record u) ∷ s) (before steps t s) (Some (Operand (Record t) ∷ s))
      (selected_formed u position steps t s)
      (selects_formed steps t s walked)
  selects_formed (Dereference ∷ steps) t s walked =
      let part = Operand (Record (first_type steps t)) ∷ s in
      both code ((InstrOf.Dereference (first_type steps t) (height s), Operand access_value ∷ s) ∷ []) (whole_code steps s ++ selects_code steps t s) (Operand access_value ∷ s) part (Some (Operand (Record t) ∷ s))
      (designated_formed steps t s)
      (both code (whole_code steps s) (selects_code steps t s) part (before steps t s) (Some (Operand (Record t) ∷ s)) (whole_formed steps t s) (selects_formed steps t s walked))
  selects_formed (Narrow u ∷ steps) t s walked = absurd (cc walked)

  -- from the value of a record, whose component is selected first
  value_formed : (u : ℕ) (steps : List Step) (t : ℕ) (s : List Kind) → (not (is_dereferenced steps) && are_walked steps) ≡ true → first_type steps t ≡ u → Formed code (selects_code steps t s) (Operand (Record u) ∷ s) (Some (Operand (Record t) ∷ s))
  value_formed u steps t s followed head =
      let e = both_true (not (is_dereferenced steps)) (are_walked steps) followed in
      let kind = λ (b : Bool). if b then Operand access_value else Operand (Record (first_type steps t)) in
      let same : before steps t s ≡ Operand (Record u) ∷ s = ap (λ k. k ∷ s) (ap kind (not-true (is_dereferenced steps) e.0) ∙ ap (λ z. Operand (Record z)) head) in
      subst (λ r. Formed code (selects_code steps t s) r (Some (Operand (Record t) ∷ s))) same (selects_formed steps t s e.1)

  -- inside these masters
  module _ (env : W.Frames) where
    pub located_formed : (b : Start) (steps : List Step) (t : ℕ) (s : List Kind) → Surrounds code env s → Follows b steps t → IsBegun code env b → Formed code (located_code b steps t s) s (Some (Operand (Record t) ∷ s))
    located_formed (OfVariable v) steps t s agrees followed begun =
        both code ((found v steps t s, s) ∷ []) (selects_code steps t s) s (before steps t s) (Some (Operand (Record t) ∷ s))
        (found_formed v steps t s (variable_there code env s v begun.0 agrees begun.1))
        (selects_formed steps t s followed.0)
    located_formed (OfValue runs lines) (Dereference ∷ steps) t s agrees followed begun =
        both code (lines s) (selects_code (Dereference ∷ steps) t s) s (before (Dereference ∷ steps) t s) (Some (Operand (Record t) ∷ s))
        (begun s agrees)
        (selects_formed (Dereference ∷ steps) t s followed.0)
    located_formed (OfValue runs lines) [] t s agrees (followed, head) begun = absurd (cc followed)
    located_formed (OfValue runs lines) (Component u i ∷ steps) t s agrees (followed, head) begun = absurd (cc followed)
    located_formed (OfValue runs lines) (Narrow u ∷ steps) t s agrees (followed, head) begun = absurd (cc followed)
    located_formed (OfRecord u runs lines) steps t s agrees followed begun =
        both code (lines s) (selects_code steps t s) s (Operand (Record u) ∷ s) (Some (Operand (Record t) ∷ s))
        (begun s agrees)
        (value_formed u steps t s followed.0 followed.1)

    pub part_formed : (x : Reached) (t : ℕ) (s : List Kind) → Surrounds code env s → FollowsAt x t → IsBegun code env (start_of x) → Formed code (part_code x t s) s (Some (Operand (Record t) ∷ s))
    part_formed (Variable v) t s agrees followed begun = located_formed (OfVariable v) [] t s agrees followed begun
    part_formed (Object b steps) t s agrees followed begun = located_formed b steps t s agrees followed begun
    part_formed (Result b) t s agrees followed begun = located_formed b [] t s agrees followed begun
    part_formed (Part b steps u position) t s agrees followed begun =
        both code (located_code b steps u s) ((InstrOf.Select u position t, Operand (Record u) ∷ s) ∷ []) s (Operand (Record u) ∷ s) (Some (Operand (Record t) ∷ s))
        (located_formed b steps u s agrees followed begun)
        (select_formed u position t s)

    -- Assignments ------------------------------------------------------------------------------------

    pub record_formed : (records : List RecordType) (target source : Reached) (t : ℕ) (s : List Kind) → Surrounds code env s → IsFound code env records (Some target) → IsFoundAt code env records t (Some source) → is_begun (start_of target) records ≡ true → is_begun (start_of source) records ≡ true → MayHold code s t → Formed code (record_code target t source s) s (Some s)
    record_formed records target source t s agrees to from begun begun1 may =
        let above = Operand (Record t) ∷ s in
        let top = Operand (Record t) ∷ above in
        both code (part_code target t s) (take_over_code t source above) s above (Some s) (part_formed target t s agrees (to.0 t) (to.1 begun))
        (both code (part_code source t above) ((InstrOf.Assign t, top) ∷ []) above top (Some s) (part_formed source t above agrees from.0 (from.1 begun1))
        (one code (InstrOf.Assign t) top (Some s) (λ p next. (may.0, (above, refl, (s, refl, next)), may.1))))
