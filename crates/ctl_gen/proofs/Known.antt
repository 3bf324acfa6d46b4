-- The types of the variables of this version: scalar ones, and record types whose objects are declared, controlled or not tagged, whose
-- components are of such types again.
use Rattle.std.proofs.Common.{◌≡◌, ◌≢◌, ℕ, zero, suc, ◌<◌, ◌≤◌, List, [], ◌∷◌, ◌++◌, length, get_or, Option, Some, None, Bool, true, false, refl, sym, ap, ◌∙◌, subst, arith, ◌⊎◌, inl, inr}
use Rattle.std.specs.Prelude.{slice_get, is_none, if◌then◌else◌, ◌&&◌}
use Rattle.std.proofs.lemmas.Option.{slice_get_cases, slice_get_past, slice_get_within}
use Rattle.ctl_program.specs.declared.types.Ty.{Ty}
use Rattle.ctl_program.specs.declared.types.Ty.TheVariants.{Integer, Count, Boolean, Address, Handle, Access, Record}
use Rattle.ctl_program.specs.declared.types.Root.{Root}
use Rattle.ctl_program.specs.declared.types.Root.TheVariants.{Controlled, Untagged, BlockPool, MarkPool}
use Rattle.ctl_program.specs.declared.types.Component.{Component}
use Rattle.ctl_program.specs.declared.types.RecordType.{RecordType}
use Rattle.ctl_meaning.specs.Types.{Tables, Elementary, category_of, of_record, root_for, root_in, root_of}
use Rattle.ctl_layout.specs.declared.forms.Form.{Form}
use Rattle.ctl_layout.specs.declared.forms.Form.TheVariants as FormOf
use Rattle.ctl_layout.specs.Records.{are_parts, extends_such, form_by, forms_of, is_laid, is_laid_by, is_laid_form, is_part, is_plain, is_plain_by, is_plain_form, is_root_run, is_run_type, run_default}
pub use Rattle.ctl_layout.proofs.Extensions.{both_true}
use Rattle.ctl_layout.proofs.Extensions.{HasComponents, IsRow, extends_none, extends_one, row_at, rows_length}
use Rattle.ctl_program.specs.declared.expression.Expr.{Expr}

abbrev pub IsScalar : Ty → Type 0
IsScalar Integer = Unit {0}
IsScalar Count = Unit {0}
IsScalar Boolean = Unit {0}
IsScalar Address = Unit {0}
IsScalar (Access a) = Unit {0}
IsScalar _ = ⊥

-- a scalar type is elementary
pub scalar_elementary : (ty : Ty) → IsScalar ty → category_of ty ≡ Elementary
unfolding category_of
scalar_elementary Integer h = refl
scalar_elementary Count h = refl
scalar_elementary Boolean h = refl
scalar_elementary Address h = refl
scalar_elementary Handle h = absurd h
scalar_elementary (Access a) h = refl
scalar_elementary (Record t) h = absurd h

pub scalar_if : (ty : Ty) → is_run_type ty ≡ true → IsScalar ty
scalar_if Integer e = tt
scalar_if Count e = tt
scalar_if Boolean e = tt
scalar_if Address e = tt
scalar_if Handle e = absurd (cc)
scalar_if (Access a) e = tt
scalar_if (Record t) e = absurd (cc)

-- a component of a type whose objects are declared and which stands before this one in the table: it has no default
pub record IsOfPlain (records : List RecordType) (t : ℕ) (c : Component) : Type 0 where
  pub number : ℕ
  pub ty : c.ty ≡ Record number
  pub less : number < t
  pub plain : is_plain records number ≡ true
  pub unset : c.default ≡ None

-- a component of a type that is laid out (3.8)
abbrev pub IsPart : List RecordType → ℕ → Component → Type 0
IsPart records t c = IsScalar c.ty ⊎ IsOfPlain records t c

abbrev pub AreParts : List RecordType → ℕ → List Component → Type 0
AreParts records t [] = Unit {0}
AreParts records t (c ∷ cs) = IsPart records t c × AreParts records t cs

-- a type of the table that is laid out, with these components
pub record IsLaid (records : List RecordType) (t : ℕ) (cs : List Component) : Type 0 where
  pub is : is_laid records t ≡ true
  pub here : (r : RecordType) × (slice_get records t ≡ Some r)
  pub has : HasComponents records t cs
  pub parts : AreParts records t cs

-- a type that descends from Controlled or Limited_Controlled (7.6), or from Block_Pool, or is not tagged
abbrev pub IsRootRun : RecordType → Type 0
IsRootRun r = ((r.root ≡ Controlled) ⊎ (r.root ≡ BlockPool)) ⊎ (r.root ≡ Untagged)

-- such a type that is laid out
pub record IsPlain (k : Tables) (t : ℕ) (r : RecordType) : Type 0 where
  pub kind : IsRootRun r
  pub components : List Component
  pub laid : IsLaid k.records t components

abbrev pub IsPlainType : Tables → Ty → Type 0
IsPlainType k (Record t) = (r : RecordType) × (slice_get k.records t ≡ Some r) × IsPlain k t r
IsPlainType k _ = Unit {0}

-- a scalar type is one of them
pub scalar_plain : (k : Tables) (ty : Ty) → IsScalar ty → IsPlainType k ty
scalar_plain k Integer h = tt
scalar_plain k Count h = tt
scalar_plain k Boolean h = tt
scalar_plain k Address h = tt
scalar_plain k Handle h = absurd h
scalar_plain k (Access a) h = tt
scalar_plain k (Record t) h = absurd h

-- a component of a scalar type takes the value of its default, and one without a default of none (3.8)
pub default_of_scalar : (c : Component) → IsScalar c.ty → run_default c ≡ c.default
default_of_scalar c h = by c.ty h
  where
    by : (ty : Ty) → IsScalar ty → (if is_run_type ty then c.default else None) ≡ c.default
    by Integer h = refl
    by Count h = refl
    by Boolean h = refl
    by Address h = refl
    by Handle h = absurd h
    by (Access a) h = refl
    by (Record t) h = absurd h

pub default_unset : (c : Component) → c.default ≡ None → run_default c ≡ None
default_unset c unset = by (is_run_type c.ty)
  where
    by : (b : Bool) → (if b then c.default else None) ≡ None
    by true = unset
    by false = refl

-- what is evaluated is the default of a component of a type that is run
pub run_default_is : (c : Component) (x : Expr) → run_default c ≡ Some x → (is_run_type c.ty ≡ true) × (c.default ≡ Some x)
run_default_is c x h = by (is_run_type c.ty) h
  where
    by : (b : Bool) → (if b then c.default else None) ≡ Some x → (b ≡ true) × (c.default ≡ Some x)
    by true is = (refl, is)
    by false is = absurd (cc is)

none_if : {A : Type 0} (o : Option A) → is_none o ≡ true → o ≡ None
none_if None e = refl
none_if (Some x) e = absurd (cc)

root_if : (r : RecordType) (x : Root) → r.root ≡ x → is_root_run x r.operations ≡ true → IsRootRun r
root_if r Controlled is e = inl (inl is)
root_if r BlockPool is e = inl (inr is)
root_if r Untagged is e = inr is
root_if r MarkPool is e = absurd (cc)

-- Forms -------------------------------------------------------------------------------------------

some_form : (o : Option Form) → is_laid_form o ≡ true → (x : Form) × (o ≡ Some x)
some_form None e = absurd (cc)
some_form (Some x) e = (x, refl)

pub plain_laid : (o : Option Form) → is_plain_form o ≡ true → is_laid_form o ≡ true
plain_laid None e = absurd (cc)
plain_laid (Some FormOf.Declared) e = refl
plain_laid (Some FormOf.Laid) e = absurd (cc)
plain_laid (Some FormOf.Other) e = absurd (cc)

-- the form that is chosen by whether the objects of a type are declared, and whether it is laid out
abbrev chosen : Bool → Bool → Form
chosen p l = if p then FormOf.Declared else (if l then FormOf.Laid else FormOf.Other)

laid_by : (p l : Bool) → is_laid_form (Some (chosen p l)) ≡ true → (p ≡ true) ⊎ (l ≡ true)
laid_by true l e = inl refl
laid_by false true e = inr refl
laid_by false false e = absurd (cc)

plain_by : (p l : Bool) → is_plain_form (Some (chosen p l)) ≡ true → p ≡ true
plain_by true l e = refl
plain_by false true e = absurd (cc)
plain_by false false e = absurd (cc)

-- a type with a form is in the table
entry_of : (records : List RecordType) (t : ℕ) → is_laid records t ≡ true → (r : RecordType) × (slice_get records t ≡ Some r)
entry_of records t e = by (slice_get_cases records t).1
  where
    by : ((r : RecordType) × (t < length records) × (slice_get records t ≡ Some r) × (get_or records t r ≡ r)) ⊎ ((length records ≤ t) × (slice_get records t ≡ None)) → (r : RecordType) × (slice_get records t ≡ Some r)
    by (inl h) = (h.0, h.2)
    by (inr h) =
        let many = rows_length form_by [] records in
        let none : slice_get (forms_of records) t ≡ None = slice_get_past (forms_of records) t (omega (arith, many, h.0)) in
        absurd (let bad : is_laid_form None ≡ true = ap is_laid_form (sym none) ∙ e in cc)

-- Types that are laid out -------------------------------------------------------------------------

-- a type extends none, or one that stands before it and is such
abbrev pub ExtendsSuch : (ℕ → Bool) → ℕ → RecordType → Type 0
ExtendsSuch is_such t r = (r.parent ≡ None) ⊎ ((p : ℕ) × (r.parent ≡ Some p) × (p < t) × (is_such p ≡ true))

-- what a type that is laid out adds, and what it extends
pub record Extends (records : List RecordType) (t : ℕ) (r : RecordType) : Type 0 where
  pub parts : AreParts records t r.own
  pub parent : (r.parent ≡ None) ⊎ ((p : ℕ) × (r.parent ≡ Some p) × (p < t) × (is_laid records p ≡ true))

-- and what one whose objects are declared does
record ExtendsPlain (records : List RecordType) (t : ℕ) (r : RecordType) : Type 0 where
  kind : IsRootRun r
  parts : AreParts records t r.own
  parent : ExtendsSuch (is_plain records) t r

module _ (records : List RecordType) (t : ℕ) (r : RecordType) (here : slice_get records t ≡ Some r) where
  made : IsRow form_by (forms_of records) t r
  made = row_at form_by records t r here

  -- the forms that it was made of are those of the types before it
  before_if : (u : ℕ) → is_laid_form (slice_get made.before u) ≡ true → (u < t) × (slice_get (forms_of records) u ≡ slice_get made.before u)
  before_if u e =
      let x = some_form (slice_get made.before u) e in
      let within = slice_get_within made.before u x.0 x.1 in
      let many = made.many in
      let less : u < t = omega (arith, within, many) in
      (less, made.same u less)

  parent_if : (is_such : Option Form → Bool) → ((o : Option Form) → is_such o ≡ true → is_laid_form o ≡ true) → (o : Option ℕ) → r.parent ≡ o → extends_such is_such made.before o ≡ true → ExtendsSuch (λ u. is_such (slice_get (forms_of records) u)) t r
  parent_if is_such laid None is e = inl is
  parent_if is_such laid (Some p) is e = let z = before_if p (laid (slice_get made.before p) e) in inr (p, is, z.0, ap is_such z.1 ∙ e)

  part_if : (c : Component) (ty : Ty) → c.ty ≡ ty → is_part made.before ty c.default ≡ true → IsPart records t c
  part_if c Integer is e = inl (subst IsScalar (sym is) tt)
  part_if c Count is e = inl (subst IsScalar (sym is) tt)
  part_if c Boolean is e = inl (subst IsScalar (sym is) tt)
  part_if c Address is e = inl (subst IsScalar (sym is) tt)
  part_if c Handle is e = absurd (cc)
  part_if c (Access a) is e = inl (subst IsScalar (sym is) tt)
  part_if c (Record u) is e =
      let h = both_true (is_plain_form (slice_get made.before u)) (is_none c.default) e in
      let x = before_if u (plain_laid (slice_get made.before u) h.0) in
      inr (record { number = u; ty = is; less = x.0; plain = ap is_plain_form x.1 ∙ h.0; unset = none_if c.default h.1 })

  parts_if : (cs : List Component) → are_parts made.before cs ≡ true → AreParts records t cs
  parts_if [] e = tt
  parts_if (c ∷ cs) e =
      let h = both_true (is_part made.before c.ty c.default) (are_parts made.before cs) e in
      (part_if c c.ty refl h.0, parts_if cs h.1)

  laid_made : is_laid_by made.before r ≡ true → Extends records t r
  laid_made e =
      let h = both_true (extends_such is_laid_form made.before r.parent) (are_parts made.before r.own) e in
      record { parts = parts_if r.own h.1; parent = parent_if is_laid_form (λ o i. i) r.parent refl h.0 }

  plain_made : is_plain_by made.before r ≡ true → ExtendsPlain records t r
  plain_made e =
      let h = both_true (is_root_run r.root r.operations) (extends_such is_plain_form made.before r.parent && are_parts made.before r.own) e in
      let g = both_true (extends_such is_plain_form made.before r.parent) (are_parts made.before r.own) h.1 in
      record { kind = root_if r r.root refl h.0; parts = parts_if r.own g.1; parent = parent_if is_plain_form plain_laid r.parent refl g.0 }

  -- a type that is plain is laid out too
  both_made : (is_plain_by made.before r ≡ true) ⊎ (is_laid_by made.before r ≡ true) → Extends records t r
  both_made (inr h) = laid_made h
  both_made (inl h) = let x = plain_made h in record { parts = x.parts; parent = by x.parent }
    where
      by : ExtendsSuch (is_plain records) t r → ExtendsSuch (is_laid records) t r
      by (inl none) = inl none
      by (inr q) = inr (q.0, q.1, q.2, plain_laid (slice_get (forms_of records) q.0) q.3)

  form_is : slice_get (forms_of records) t ≡ Some (chosen (is_plain_by made.before r) (is_laid_by made.before r))
  form_is = made.is

pub extends_if : (records : List RecordType) (t : ℕ) → is_laid records t ≡ true → (r : RecordType) × (slice_get records t ≡ Some r) × Extends records t r
extends_if records t e =
    let x = entry_of records t e in
    (x.0, x.1, both_made records t x.0 x.1 (laid_by _ _ (ap is_laid_form (sym (form_is records t x.0 x.1)) ∙ e)))

parts_later : (records : List RecordType) (p t : ℕ) (cs : List Component) → p < t → AreParts records p cs → AreParts records t cs
parts_later records p t [] lt h = tt
parts_later records p t (c ∷ cs) lt h = (by h.0, parts_later records p t cs lt h.1)
  where
    by : IsPart records p c → IsPart records t c
    by (inl scalar) = inl scalar
    by (inr x) = let less = x.less in inr (record { number = x.number; ty = x.ty; less = omega (arith, less, lt); plain = x.plain; unset = x.unset })

parts_both : (records : List RecordType) (t : ℕ) (xs ys : List Component) → AreParts records t xs → AreParts records t ys → AreParts records t (xs ++ ys)
parts_both records t [] ys h g = g
parts_both records t (x ∷ xs) ys h g = (h.0, parts_both records t xs ys h.1 g)

-- so many types are looked at
laid_within : (n : ℕ) (records : List RecordType) (t : ℕ) → t < n → is_laid records t ≡ true → (cs : List Component) × IsLaid records t cs
laid_within zero records t lt e = absurd (omega (arith, lt))
laid_within (suc n) records t lt e = let x = extends_if records t e in by x.0 x.1 x.2 (λ p less is. laid_within n records p (omega (arith, less, lt)) is) x.2.parent
  where
    by : (r : RecordType) → slice_get records t ≡ Some r → Extends records t r → ((p : ℕ) → p < t → is_laid records p ≡ true → (cs : List Component) × IsLaid records p cs) → (r.parent ≡ None) ⊎ ((p : ℕ) × (r.parent ≡ Some p) × (p < t) × (is_laid records p ≡ true)) → (cs : List Component) × IsLaid records t cs
    by r here x parent (inl none) = (r.own, record { is = e; here = (r, here); has = extends_none records t r here none; parts = x.parts })
    by r here x parent (inr q) =
        let y = parent q.0 q.2 q.3 in (
          y.0 ++ r.own,
          record {
            is = e;
            here = (r, here);
            has = extends_one records t r q.0 y.0 here q.1 q.2 y.1.has;
            parts = parts_both records t y.0 r.own (parts_later records q.0 t y.0 q.2 y.1.parts) x.parts;
          },
        )

pub laid_if : (records : List RecordType) (t : ℕ) → is_laid records t ≡ true → (cs : List Component) × IsLaid records t cs
laid_if records t e = laid_within (suc t) records t (omega arith) e

-- the type of a component is laid out itself
pub part_laid : (records : List RecordType) (t : ℕ) (c : Component) (x : IsOfPlain records t c) → is_laid records x.number ≡ true
part_laid records t c x = plain_laid (slice_get (forms_of records) x.number) x.plain

-- Types whose objects are declared ----------------------------------------------------------------

plain_extends : (records : List RecordType) (t : ℕ) → is_plain records t ≡ true → (r : RecordType) × (slice_get records t ≡ Some r) × ExtendsPlain records t r
plain_extends records t e =
    let x = entry_of records t (plain_laid (slice_get (forms_of records) t) e) in
    (x.0, x.1, plain_made records t x.0 x.1 (plain_by _ _ (ap is_plain_form (sym (form_is records t x.0 x.1)) ∙ e)))

pub plain_if : (k : Tables) (t : ℕ) → is_plain k.records t ≡ true → (r : RecordType) × (slice_get k.records t ≡ Some r) × IsPlain k t r
plain_if k t e =
    let x = plain_extends k.records t e in
    let laid = laid_if k.records t (plain_laid (slice_get (forms_of k.records) t) e) in
    (x.0, x.1, record { kind = x.2.kind; components = laid.0; laid = laid.1 })

-- so the type of a component is one of them
pub part_plain : (k : Tables) (t : ℕ) (c : Component) (x : IsOfPlain k.records t c) → IsPlainType k (Record x.number)
part_plain k t c x = plain_if k x.number x.plain

-- Pools (13.11) -----------------------------------------------------------------------------------

never_mark_pool : (r : RecordType) → IsRootRun r → r.root ≢ MarkPool
never_mark_pool r (inl (inl h)) e = let bad : Controlled ≡ MarkPool = sym h ∙ e in cc
never_mark_pool r (inl (inr h)) e = let bad : BlockPool ≡ MarkPool = sym h ∙ e in cc
never_mark_pool r (inr h) e = let bad : Untagged ≡ MarkPool = sym h ∙ e in cc

-- an object of such a type is no mark pool
pub no_mark_pool : (k : Tables) (ty : Ty) → IsPlainType k ty → root_for k ty ≢ MarkPool
unfolding root_for root_of root_in of_record
no_mark_pool k (Record t) h = λ e. never_mark_pool h.0 h.2.kind (sym (ap root_in h.1) ∙ e)
no_mark_pool k Integer h = λ e. absurd (cc e)
no_mark_pool k Count h = λ e. absurd (cc e)
no_mark_pool k Boolean h = λ e. absurd (cc e)
no_mark_pool k Address h = λ e. absurd (cc e)
no_mark_pool k Handle h = λ e. absurd (cc e)
no_mark_pool k (Access a) h = λ e. absurd (cc e)
