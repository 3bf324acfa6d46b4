-- Where the code of each default stands, and how many masters are around the type that it belongs to (3.4, 3.8).
use Rattle.std.proofs.Common.{◌≡◌, ℕ, zero, suc, ◌+◌, ◌-◌, ◌<◌, ◌≤◌, List, [], ◌∷◌, ◌++◌, length, Option, Some, None, true, refl, sym, ap, ◌∙◌, subst, arith, ◌⊎◌, inl, inr}
use Rattle.std.specs.Prelude.{slice_get}
use Rattle.ctl_program.specs.declared.expression.Expr.{Expr}
use Rattle.ctl_program.specs.declared.program.Checked.{Checked}
use Rattle.ctl_program.specs.declared.types.Component.{Component}
use Rattle.ctl_program.specs.declared.types.RecordType.{RecordType}
use Rattle.ctl_program.specs.declared.types.Ty.{Ty}
use Rattle.ctl_meaning.specs.Lists.{item_or, opened_lists}
use Rattle.ctl_meaning.specs.Types.{cells_of, tables_of}
use Rattle.ctl_code.specs.declared.code.Begun.{Begun}
use Rattle.ctl_code.specs.declared.code.Code.{Code}
use Rattle.ctl_code.specs.declared.code.Initial.{Initial}
use Rattle.ctl_code.specs.declared.code.Initial.TheVariants.{Computed}
use Rattle.ctl_code.specs.declared.code.Layout.{Layout}
use Rattle.ctl_code.specs.declared.kinds.Kind.TheVariants.{Default}
use Rattle.ctl_code.specs.Table as Table
use Rattle.ctl_code.specs.Table.{default_of}
use Rattle.ctl_code.specs.Valid.{AreEvaluated, IsDeclarable, IsDeclaredIn, IsEvaluatedAt, IsValid, kinds_at}
use Rattle.ctl_layout.specs.Defaults.{begun_before, begun_from, by_type, initial_by, initial_in, initial_of}
use Rattle.ctl_layout.specs.Layout.{IsLaidOut, all_defaults, behind_bodies, computed, computed_in, computed_unless, default_code, defaults_code, evaluation, evaluation_of, inherited_places, places_from, rows_from}
use Rattle.ctl_layout.specs.Records.{all_components, component_rows, constant_at, inherited, is_laid, none_if_absent, run_default}
use Rattle.ctl_layout.specs.Values.{value_code}
use Rattle.ctl_layout.proofs.Extensions.{row_at}
use Rattle.ctl_gen.proofs.DefaultRows.{places_length, row_from, table_says}
use Rattle.ctl_gen.proofs.FirstLines.{evaluation_first, kinds_there}
use Rattle.ctl_gen.proofs.Known.{IsLaid, extends_if}
use Rattle.ctl_gen.proofs.Layouts as Layouts
use Rattle.ctl_gen.proofs.Parted.{IsComputed}
use Rattle.ctl_gen.proofs.Place.{Laid, laid_back, laid_front}
use Rattle.ctl_gen.proofs.Setting.{HasDefault}

-- a default of those that a type declares
own_laid : (code : Code) (level number : ℕ) (cs : List Component) (place : ℕ) → Laid code place (defaults_code level number cs) → (i : ℕ) (c : Component) (x : Expr) → slice_get cs i ≡ Some c → computed c ≡ Some x → Laid code (item_or 0 (slice_get (places_from level number place cs) i)) (evaluation level number (value_code x) c.ty)
unfolding opened_lists
own_laid code level number [] place h i c x at is = absurd (cc at)
own_laid code level number (b ∷ cs) place h zero c x at is =
    let same : b ≡ c = cc at in
    let lines : default_code level number b ≡ evaluation level number (value_code x) c.ty = ap (default_code level number) same ∙ ap (λ (o : Option Expr). evaluation_of level number o c.ty) is in
    subst (Laid code place) lines (laid_front code place (default_code level number b) (defaults_code level number cs) h)
own_laid code level number (b ∷ cs) place h (suc i) c x at is =
    let first = default_code level number b in
    own_laid code level number cs (place + length first) (laid_back code place first (defaults_code level number cs) h) i c x at is

-- a component with such a default begins by it
begins_so : (layouts : List Layout) (c : Component) (x : Expr) → computed c ≡ Some x → initial_of layouts c ≡ Some Computed
begins_so layouts c x is = by (run_default c) refl
  where
    unless : (e : Expr) (n : Option ℕ) → constant_at e ≡ n → computed_unless e n ≡ Some x → initial_in n ≡ Computed
    unless e (Some n) const h = absurd (cc h)
    unless e None const h = refl

    by : (o : Option Expr) → run_default c ≡ o → initial_by o (by_type layouts c.ty) ≡ Some Computed
    by None e = absurd (let bad : None ≡ Some x = sym (ap computed_in e) ∙ is in cc bad)
    by (Some d) e = ap (λ (i : Initial). Some i) (unless d (constant_at d) refl (sym (ap computed_in e) ∙ is))

-- and it is evaluated where valid code says so
module _ (code : Code) (masters t : ℕ) where
  other_evaluated : (p n : ℕ) (o : Option Initial) (xs : List Begun) → AreEvaluated code masters t (begun_before p n o xs) → AreEvaluated code masters t xs
  other_evaluated p n None xs h = h
  other_evaluated p n (Some i) xs h = h.1

  this_evaluated : (p n : ℕ) (o : Option Initial) (xs : List Begun) → o ≡ Some Computed → AreEvaluated code masters t (begun_before p n o xs) → IsEvaluatedAt code masters (default_of code t p) Computed
  this_evaluated p n None xs is h = absurd (cc is)
  this_evaluated p n (Some i) xs is h = let same : i ≡ Computed = cc is in subst (IsEvaluatedAt code masters (default_of code t p)) same h.0

  is_evaluated : (layouts : List Layout) (size : Ty → ℕ) (p n : ℕ) (cs : List Component) → AreEvaluated code masters t (begun_from layouts size p n cs) → (i : ℕ) (c : Component) (x : Expr) → slice_get cs i ≡ Some c → computed c ≡ Some x → IsEvaluatedAt code masters (default_of code t (p + i)) Computed
  is_evaluated layouts size p n [] h i c x at is = absurd (cc at)
  is_evaluated layouts size p n (b ∷ cs) h zero c x at is =
      let same : b ≡ c = cc at in
      let here : p ≡ p + 0 = omega arith in
      subst (λ q. IsEvaluatedAt code masters (default_of code t q) Computed) here
      (this_evaluated p n (initial_of layouts b) (begun_from layouts size (p + 1) (n + size b.ty) cs) (begins_so layouts b x (ap computed same ∙ is)) h)
  is_evaluated layouts size p n (b ∷ cs) h (suc i) c x at is =
      let later : p + 1 + i ≡ p + suc i = omega arith in
      subst (λ q. IsEvaluatedAt code masters (default_of code t q) Computed) later
      (is_evaluated layouts size (p + 1) (n + size b.ty) cs (other_evaluated p n (initial_of layouts b) (begun_from layouts size (p + 1) (n + size b.ty) cs) h) i c x at is)

  level_within : (place level number : ℕ) → IsEvaluatedAt code masters place Computed → kinds_at code place ≡ Some (Default level number ∷ []) → level ≤ masters
  level_within place level number h standing =
      let both : Some (Default h.0 h.1 ∷ []) ≡ Some (Default level number ∷ []) = sym h.3 ∙ standing in
      let same : h.0 ≡ level = cc both in
      let few = h.2 in
      omega (arith, same, few)

module _ (program : Checked) (code : Code) (valid : IsValid code) (laid : IsLaidOut program code) (lines : Laid code (behind_bodies program) (all_defaults 0 program.records)) where
  abbrev Rows : List (List ℕ)
  Rows = rows_from 0 (behind_bodies program) [] program.records

  -- a component is declared by a type, and the default that is evaluated here is one of that type's
  pub record Origin (c : Component) (here : ℕ) : Type 0 where
    pub number : ℕ
    pub r : RecordType
    pub found : slice_get program.records number ≡ Some r
    pub index : ℕ
    pub own : slice_get r.own index ≡ Some c
    pub place : ℕ
    pub stands : Laid code place (defaults_code r.level number r.own)
    pub is : here ≡ item_or 0 (slice_get (places_from r.level number place r.own) index)

  -- there is a place for each of these components, where its default is evaluated
  abbrev AreFrom : List Component → List ℕ → Type 0
  AreFrom cs places = (length places ≡ length cs) × ((i : ℕ) (c : Component) → slice_get cs i ≡ Some c → Origin c (item_or 0 (slice_get places i)))

  both_from : (cs ds : List Component) (xs ys : List ℕ) → AreFrom cs xs → AreFrom ds ys → AreFrom (cs ++ ds) (xs ++ ys)
  unfolding opened_lists
  both_from [] ds [] ys h g = g
  both_from [] ds (x ∷ xs) ys h g = absurd (let e = h.0 in omega (arith, e))
  both_from (c ∷ cs) ds [] ys h g = absurd (let e = h.0 in omega (arith, e))
  both_from (c ∷ cs) ds (x ∷ xs) ys h g =
      let first : length xs ≡ length cs = (let e = h.0 in omega (arith, e)) in
      let others = both_from cs ds xs ys (first, λ i b at. h.1 (suc i) b at) g in
      (let e = others.0 in omega (arith, e), by others)
    where
      by : AreFrom (cs ++ ds) (xs ++ ys) → (i : ℕ) (b : Component) → slice_get (c ∷ (cs ++ ds)) i ≡ Some b → Origin b (item_or 0 (slice_get (x ∷ (xs ++ ys)) i))
      by others zero b at = h.1 zero b at
      by others (suc i) b at = others.1 i b at

  -- the components of a type, and the row of their places
  record IsTold (t : ℕ) : Type 0 where
    components : List Component
    are : slice_get (component_rows program.records) t ≡ Some components
    row : List ℕ
    there : slice_get Rows t ≡ Some row
    from : AreFrom components row

  abbrev ToldAt : ℕ → Type 0
  ToldAt t = is_laid program.records t ≡ true → IsTold t

  -- those that it inherits
  inherits : (t : ℕ) (o : Option ℕ) (xs : List (List Component)) (ys : List (List ℕ)) → ((p : ℕ) → p < t → slice_get (component_rows program.records) p ≡ slice_get xs p) → ((p : ℕ) → p < t → slice_get Rows p ≡ slice_get ys p) → ((u : ℕ) → u < t → ToldAt u)
      → (o ≡ None) ⊎ ((p : ℕ) × (o ≡ Some p) × (p < t) × (is_laid program.records p ≡ true)) → AreFrom (inherited xs o) (inherited_places ys o)
  unfolding opened_lists
  inherits t None xs ys same alike before h = (refl, λ i c at. absurd (cc at))
  inherits t (Some q) xs ys same alike before (inl none) = absurd (cc none)
  inherits t (Some q) xs ys same alike before (inr z) =
      let one : z.0 ≡ q = (let both = z.1 in cc both) in
      let less : q < t = subst (λ p. p < t) one z.2 in
      let h = before q less (subst (λ p. is_laid program.records p ≡ true) one z.3) in
      let components : none_if_absent (slice_get xs q) ≡ h.components = ap none_if_absent (sym (same q less) ∙ h.are) in
      let row : item_or [] (slice_get ys q) ≡ h.row = ap (λ (o : Option (List ℕ)). item_or [] o) (sym (alike q less) ∙ h.there) in
      subst (λ cs. AreFrom cs (item_or [] (slice_get ys q))) (sym components) (subst (AreFrom h.components) (sym row) h.from)

  told_by : (t : ℕ) → ((u : ℕ) → u < t → ToldAt u) → ToldAt t
  told_by t before is =
      let z = extends_if program.records t is in
      let r = z.0 in
      let x = row_at all_components program.records t r z.1 in
      let y = row_from (Laid code) (λ place xs ys h. laid_front code place xs ys h) (λ place xs ys h. laid_back code place xs ys h) 0 (behind_bodies program) [] program.records refl lines t t r z.1 (omega arith) in
      let own = places_from r.level t y.place r.own in
      record {
        components = inherited x.before r.parent ++ r.own;
        are = x.is;
        row = inherited_places y.before r.parent ++ own;
        there = y.there;
        from = both_from (inherited x.before r.parent) r.own (inherited_places y.before r.parent) own
            (inherits t r.parent x.before y.before x.same y.same before z.2.parent) (
              places_length r.level t y.place r.own,
              λ i c at. record { number = t; r = r; found = z.1; index = i; own = at; place = y.place; stands = y.has; is = refl },
            );
      }

  told_within : (n t : ℕ) → t < n → ToldAt t
  told_within zero t lt = absurd (omega (arith, lt))
  told_within (suc n) t lt = told_by t (λ u less. told_within n u (omega (arith, less, lt)))

  -- where the default of a component comes from, and where it is evaluated
  pub origin : (t : ℕ) (cs : List Component) → IsLaid program.records t cs → (i : ℕ) (c : Component) → slice_get cs i ≡ Some c → Origin c (default_of code t (i + 1))
  origin t cs is i c at =
      let h = told_within (suc t) t (omega arith) is.is in
      let same : h.components ≡ cs = (let both : Some h.components ≡ Some cs = sym h.are ∙ is.has.row in cc both) in
      let back : i + 1 - 1 ≡ i = omega arith in
      let place : default_of code t (i + 1) ≡ item_or 0 (slice_get h.row i) = table_says program code laid t h.row h.there (i + 1) ∙ ap (λ j. item_or 0 (slice_get h.row j)) back in
      subst (Origin c) (sym place) (h.from.1 i c (ap (λ xs. slice_get xs i) same ∙ at))

  -- Valid code ---------------------------------------------------------------------------------------------

  -- where a default is evaluated there stand no more masters than around the type of the object: an heir is declared no further out than the
  -- type that declares the component
  within_layout : (t : ℕ) (cs : List Component) (z : Layout) → IsLaid program.records t cs → slice_get code.layouts.items t ≡ Some z → (i : ℕ) (c : Component) (x : Expr) → slice_get cs i ≡ Some c → computed c ≡ Some x → (level number : ℕ) → kinds_at code (default_of code t (i + 1)) ≡ Some (Default level number ∷ []) → (masters : ℕ) → IsDeclarable code masters t → level ≤ masters
  unfolding tables_of
  within_layout t cs z is there i c x at computes level number standing masters inside =
      let begun : z.begun.items ≡ begun_from code.layouts.items (cells_of (tables_of program)) 1 0 cs = ap Table.begun_in (sym there) ∙ (Layouts.sized (tables_of program) code.layouts.items laid.layouts t cs is).begun in
      let all = subst (AreEvaluated code z.level t) begun (valid.layouts t z there).defaults in
      let back : 1 + i ≡ i + 1 = omega arith in
      let h = subst (λ p. IsEvaluatedAt code z.level (default_of code t p) Computed) back (is_evaluated code z.level t code.layouts.items (cells_of (tables_of program)) 1 0 cs all i c x at computes) in
      let low = level_within code z.level t (default_of code t (i + 1)) level number h standing in
      let deep = subst (IsDeclaredIn masters) there inside in
      omega (arith, low, deep)

  within : (t : ℕ) (cs : List Component) → IsLaid program.records t cs → (i : ℕ) (c : Component) (x : Expr) → slice_get cs i ≡ Some c → computed c ≡ Some x → (level number : ℕ) → kinds_at code (default_of code t (i + 1)) ≡ Some (Default level number ∷ []) → (masters : ℕ) → IsDeclarable code masters t → level ≤ masters
  within t cs is = let z = Layouts.at program.records code.layouts.items laid.layouts t is.here.0 is.here.1 in within_layout t cs z.layout is z.there

  -- each default stands where the table says
  pub has_default : (t position : ℕ) (ty : Ty) (x : IsComputed (tables_of program) t position ty) → HasDefault code t position (value_code x.expression) ty
  unfolding tables_of
  has_default t position ty x =
      let o = origin t x.components x.laid x.index x.component x.there in
      let stands = own_laid code o.r.level o.number o.r.own o.place o.stands o.index x.component x.expression o.own x.is in
      let here = subst (λ p. Laid code p (evaluation o.r.level o.number (value_code x.expression) x.component.ty)) (sym o.is) stands in
      let standing = kinds_there code (Default o.r.level o.number ∷ []) (evaluation o.r.level o.number (value_code x.expression) x.component.ty) (default_of code t (x.index + 1)) (evaluation_first o.r.level o.number x.expression x.component.ty) here in
      record {
        level = o.r.level;
        number = o.number;
        laid = subst (λ (u : Ty). Laid code (default_of code t position) (evaluation o.r.level o.number (value_code x.expression) u)) x.of
            (subst (λ p. Laid code p (evaluation o.r.level o.number (value_code x.expression) x.component.ty)) (ap (default_of code t) (sym x.place)) here);
        around = λ masters inside. within t x.components x.laid x.index x.component x.expression x.there x.is o.r.level o.number standing masters inside;
      }
