-- Components as they are declared: in the tables and in the program they stand side by side (3.8, 3.9.1).
use Rattle.std.proofs.Common.{arith, ◌≡◌, ◌<◌, refl, sym, ap, ◌∙◌, subst, ℕ, zero, suc, ◌+◌, Bool, true, false, ◌&&◌, if◌then◌else◌, List, [], ◌∷◌, ◌++◌, length, slice_get, Option, Some, None, option_map}
use Rattle.std.proofs.lemmas.List.{append-nil, append_assoc}
use Rattle.ctl_grammar.specs.Spelling.{same_name}
use Rattle.ctl_tree.specs.declared.span.Span.{Span}
use Rattle.ctl_tree.specs.declared.fault.FaultCode.TheVariants as fault
use Rattle.ctl_program.specs.declared.types.Component.{Component}
use Rattle.ctl_program.specs.declared.types.Ty.{Ty}
use Rattle.ctl_program.specs.declared.types.Ty.TheVariants as ty
use Rattle.ctl_program.specs.declared.expression.Expr.{Expr}
use Rattle.ctl_syntax.specs.declared.denoted.Use.{Use}
use Rattle.ctl_syntax.specs.declared.expression.Expression.{Expression}
use Rattle.ctl_syntax.specs.declared.item.Components.{Components}
use Rattle.ctl_syntax.specs.declared.name.Identifier.{Identifier}
use Rattle.ctl_syntax.specs.declared.name.Mark.{Mark}
use Rattle.ctl_typing.specs.declared.table.Beginning.{Beginning}
use Rattle.ctl_typing.specs.declared.table.ComponentEntry.{ComponentEntry}
use Rattle.ctl_typing.specs.declared.table.RecordEntry.{RecordEntry}
use Rattle.ctl_typing.specs.declared.table.Tables.{Tables}
use Rattle.ctl_typing.specs.Judgement.{Judgement, known, but, wrong, ◌>>=◌, with_known, appended, each, each_on}
use Rattle.ctl_typing.specs.Lookup.{component_among, is_limited}
use Rattle.ctl_typing.specs.Typing.{Sense, sense, has_objects, together}
use Rattle.ctl_draft.specs.declared.draft.Draft.{Draft}
use Rattle.ctl_draft.specs.declared.draft.Enclosing.{Enclosing}
use Rattle.ctl_draft.specs.Draft.{Doing, early_when}
use Rattle.ctl_draft.specs.Marks as marks
use Rattle.ctl_declarations.specs.Types as types
use Rattle.ctl_well_typed.specs.Setting.{Frames, Setting, InView}
use Rattle.ctl_well_typed.specs.Expressions.{Perhaps}
use Rattle.ctl_well_typed.specs.Programs as program
use Rattle.ctl_well_typed.specs.Programs.{Added, Before}
use Rattle.ctl_sound.specs.Known.{IfSome, Gives}
use Rattle.ctl_sound.specs.Sound.{Sound}
use Rattle.ctl_sound.proofs.Known.{next, tested}
use Rattle.ctl_sound.proofs.Values.{expression_right}
use Rattle.ctl_sound.proofs.Items.{component_judged_good, default_good}

-- Side by side -----------------------------------------------------------------------------------------

-- entries and components, behind so many inherited ones, of the record type of this number
pub data Aligned (k : Setting) (env : Frames) (n : ℕ) : ℕ → List ComponentEntry → List Component → Type 0 where
  no_entries : {c : ℕ} → Aligned k env n c [] []
  one_entry : {c : ℕ} {x : ComponentEntry} {y : Component} {xs : List ComponentEntry} {ys : List Component} →
      x.position ≡ suc c → x.ty ≡ y.ty → InView k env y.ty → Before n y.ty → Perhaps k env y.default y.ty → Aligned k env n (suc c) xs ys → Aligned k env n c (x ∷ xs) (y ∷ ys)

module _ (k : Setting) (env : Frames) (n : ℕ) where
  aligned_more : (c : ℕ) (xs : List ComponentEntry) (ys : List Component) (x : ComponentEntry) (y : Component) → Aligned k env n c xs ys → x.position ≡ suc (types.last_position c xs) → x.ty ≡ y.ty → InView k env y.ty → Before n y.ty → Perhaps k env y.default y.ty →
      Aligned k env n c (xs ++ x ∷ []) (ys ++ y ∷ [])
  aligned_more c _ _ x y no_entries p t v b d = one_entry p t v b d no_entries
  aligned_more c _ _ x y (one_entry {x = z} {y = w} {xs = xs} {ys = ys} p2 t2 v2 b2 d2 more) p t v b d =
      one_entry p2 t2 v2 b2 d2 (aligned_more (suc c) xs ys x y more (p ∙ ap (λ q. suc (types.last_position q xs)) p2) t v b d)

  pub aligned_added : (c : ℕ) (xs : List ComponentEntry) (ys : List Component) → Aligned k env n c xs ys → Added k env n ys
  aligned_added c _ _ no_entries = program.no_more_components
  aligned_added c _ _ (one_entry {xs = xs} {ys = ys} p t v b d more) = program.one_more_component v b d (aligned_added (suc c) xs ys more)

  pub aligned_count : (c : ℕ) (xs : List ComponentEntry) (ys : List Component) → Aligned k env n c xs ys → types.last_position c xs ≡ c + length ys
  aligned_count c _ _ no_entries = omega arith
  aligned_count c _ _ (one_entry {x = x} {xs = xs} {ys = ys} p t v b d more) = let rest = aligned_count (suc c) xs ys more in let first = ap (λ q. types.last_position q xs) p in omega (arith, rest, first)

  -- a component that is found by its name
  pub record FoundOwn (c : ℕ) (ys : List Component) (i : ℕ) (t : Ty) : Type 0 where
    pub at : ℕ
    pub is : Component
    pub position : i ≡ suc (c + at)
    pub found : slice_get ys at ≡ Some is
    pub type : is.ty ≡ t
    pub in_view : InView k env t

  same_pair : (a b : ℕ × Ty) → Some a ≡ Some b → a ≡ b
  same_pair a b h = cc

  found_first : (c : ℕ) (x : ComponentEntry) (y : Component) (ys : List Component) (i : ℕ) (t : Ty) → x.position ≡ suc c → x.ty ≡ y.ty → InView k env y.ty → ◌≡◌ {A = Option (ℕ × Ty)} (Some (x.position, x.ty)) (Some (i, t)) → FoundOwn c (y ∷ ys) i t
  found_first c x y ys i t p q v e =
      let both = same_pair (x.position, x.ty) (i, t) e in
      let place : x.position ≡ i = ap (λ p. p.0) both in
      let type' : x.ty ≡ t = ap (λ p. p.1) both in
      let own : y.ty ≡ t = sym q ∙ type' in
      record { at = 0; is = y; position = let z : suc (c + 0) ≡ suc c = omega arith in sym place ∙ p ∙ sym z; found = refl; type = own; in_view = subst (InView k env) own v }

  pub aligned_found : (name : List ℕ) (c : ℕ) (xs : List ComponentEntry) (ys : List Component) (i : ℕ) (t : Ty) → Aligned k env n c xs ys → component_among name xs ≡ Some (i, t) → FoundOwn c ys i t
  aligned_found name c _ _ i t no_entries e = absurd (cc)
  aligned_found name c _ _ i t (one_entry {x = x} {y = y} {xs = xs} {ys = ys} p q v b d more) e = by_name (same_name name x.name) e (λ f. aligned_found name (suc c) xs ys i t more f)
    where
      by_name : (z : Bool) → (if z then Some (x.position, x.ty) else component_among name xs) ≡ Some (i, t) → (component_among name xs ≡ Some (i, t) → FoundOwn (suc c) ys i t) → FoundOwn c (y ∷ ys) i t
      by_name true e again = found_first c x y ys i t p q v e
      by_name false e again =
          let g = again e in
          record { at = suc g.at; is = g.is; position = let z : suc (suc c + g.at) ≡ suc (c + suc g.at) = omega arith in g.position ∙ z; found = g.found; type = g.type; in_view = g.in_view }

-- What is known of one component -----------------------------------------------------------------------------

gives_both : {A : Type 0} (Q R : A → Type 0) (p : Judgement A) → Gives Q p → Gives R p → Gives (λ x. Q x × R x) p
gives_both Q R p h g n = by_known (p n).0 (h n) (g n)
  where
    by_known : (o : Option _) → IfSome Q o → IfSome R o → IfSome (λ x. Q x × R x) o
    by_known None h g = tt
    by_known (Some x) h g = (h, g)

any_known : {A : Type 0} (o : Option A) → IfSome (λ (x : A). Unit {0}) o
any_known None = tt
any_known (Some x) = tt

module _ (tables : Tables) where
  abbrev HasObjects : Ty → Type 0
  HasObjects t = has_objects tables t ≡ true

  told_has : (b : Bool) (p : Judgement Ty) (t : Ty) → Gives HasObjects p → HasObjects t → Gives HasObjects (if b then p else known t)
  told_has true p t h i = h
  told_has false p t h i = λ s. i

  concrete_has : (place : Span) (m : Mark Use) → Gives HasObjects (marks.concrete_type tables place m)
  concrete_has place m = next (λ (t : Ty). Unit {0}) HasObjects (marks.named_type tables place m) (λ t. if has_objects tables t then known t else wrong fault.Type place) (λ n. any_known (marks.named_type tables place m n).0)
      (λ t u. tested HasObjects (has_objects tables t) (known t) (wrong fault.Type place) (λ e s. e) (λ s. tt))

  component_type_has : (within : Enclosing) (place : Span) (m : Mark Use) → Gives HasObjects (types.component_type tables within place m)
  component_type_has within place m = by_test (types.is_name_of within.number m.first.denoted && marks.is_alone m)
    where
      by_test : (b : Bool) → Gives HasObjects (if b then wrong fault.SelfContained place else (marks.concrete_type tables within.place m >>= marks.no_pool tables m.first.span))
      by_test true = λ s. tt
      by_test false = next HasObjects HasObjects (marks.concrete_type tables within.place m) (marks.no_pool tables m.first.span) (concrete_has within.place m) (λ t h. told_has (marks.is_pool tables t) (but fault.Pool m.first.span t) t (λ s. h) h)

  component_has : (within : Enclosing) (m : Mark Use) (value : Option Sense) (i : Identifier) → Gives HasObjects (types.component_judged within m value i tables)
  component_has within m value i = tested HasObjects (marks.is_root_pool m && types.excludes_limited within (types.is_given value)) (wrong fault.Limited i.span)
      (types.component_type tables within i.span m >>= types.may_be_limited tables within i.span (types.is_given value)) (λ e s. tt)
      (next HasObjects HasObjects (types.component_type tables within i.span m) (types.may_be_limited tables within i.span (types.is_given value)) (component_type_has within i.span m)
      (λ t h. told_has (is_limited tables t && types.excludes_limited within (types.is_given value)) (but fault.Limited i.span t) t (λ s. h) h))

  pub below : (xs : List RecordEntry) (i : ℕ) (x : RecordEntry) → slice_get xs i ≡ Some x → i < length xs
  below [] i x e = absurd (cc)
  below (y ∷ xs) zero x e = omega arith
  below (y ∷ xs) (suc i) x e = let inner = below xs i x e in omega (arith, inner)

  -- a type that has objects stands in the table
  before_here : (t : Ty) → HasObjects t → Before (length tables.records) t
  before_here (ty.Record t) h = by_entry (slice_get tables.records t) refl h
    where
      by_entry : (o : Option RecordEntry) → slice_get tables.records t ≡ o → has_objects (record tables { records = tables.records }) (ty.Record t) ≡ true → t < length tables.records
      by_entry None e h = absurd (let no = rw e at h in cc)
      by_entry (Some r) e h = below tables.records t r e
  before_here ty.Integer h = tt
  before_here ty.Count h = tt
  before_here ty.Boolean h = tt
  before_here ty.Address h = tt
  before_here ty.Handle h = tt
  before_here (ty.Access a) h = tt

-- Drafts as components are judged ---------------------------------------------------------------------------

-- but for the components so far and what was noted, the draft is that one
abbrev pub Only : Draft → Draft → Type 0
Only d e = e ≡ record d { own = e.own; own_names = e.own_names; notes = e.notes }

only_further : (d e f : Draft) → Only d e → Only e f → Only d f
only_further d e f h i = i ∙ ap (λ (x : Draft). let y : Draft = record x { own = f.own; own_names = f.own_names; notes = f.notes } in y) h

named_only : (within : Enclosing) (i : Identifier) (d : Draft) → Only d (types.name_component within i d)
named_only within i d = by_test (types.is_repeated d within.parent i.text)
  where
    by_test : (b : Bool) → Only d (types.with_name i.text (early_when b fault.Duplicate i.span d))
    by_test true = refl
    by_test false = refl

own_kept : (within : Enclosing) (i : Identifier) (d : Draft) → (types.name_component within i d).own ≡ d.own
own_kept within i d = by_test (types.is_repeated d within.parent i.text)
  where
    by_test : (b : Bool) → (types.with_name i.text (early_when b fault.Duplicate i.span d)).own ≡ d.own
    by_test true = refl
    by_test false = refl

entered_only : (within : Enclosing) (name : List ℕ) (b : Beginning) (t : Option Ty) (d : Draft) → Only d (types.enter_component within name b t d)
entered_only within name b None d = refl
entered_only within name b (Some t) d = refl

component_only : (within : Enclosing) (m : Mark Use) (value : Option Sense) (i : Identifier) (d : Draft) → Only d (types.component within m value i d).1
component_only within m value i d =
    let e = types.name_component within i d in
    let r1 = types.component_judged within m value i e.tables e.notes in
    let r2 = types.default_of e.tables r1.0 value r1.1 in
    let f : Draft = record e { notes = r2.1 } in
    only_further d e (types.enter_component within i.text (types.beginning_of value) r1.0 f) (named_only within i d) (only_further e f (types.enter_component within i.text (types.beginning_of value) r1.0 f) refl (entered_only within i.text (types.beginning_of value) r1.0 f))

module _ {A B : Type 0} (f : A → Doing B) where
  each_turn : (so_far : Option (List B)) (r : Option B × Draft) (xs : List A) → each_on f so_far r xs ≡ each f (appended so_far r.0) xs r.1
  each_turn so_far (b, e) [] = refl
  each_turn so_far (b, e) (x ∷ xs) = refl

  each_only : ((x : A) (d : Draft) → Only d (f x d).1) → (so_far : Option (List B)) (xs : List A) (d : Draft) → Only d (each f so_far xs d).1
  each_only h so_far [] d = refl
  each_only h so_far (x ∷ xs) d = subst (λ r. Only d r.1) (sym (each_turn so_far (f x d) xs)) (only_further d (f x d).1 (each f (appended so_far (f x d).0) xs (f x d).1).1 (h x d) (each_only h (appended so_far (f x d).0) xs (f x d).1))

  each_runs : (base : Draft) (P : Draft → List B → Type 0) → ((x : A) (d : Draft) (bs : List B) → Only base d → P d bs → IfSome (λ b. P (f x d).1 (bs ++ b ∷ [])) (f x d).0) → ((x : A) (d : Draft) → Only d (f x d).1) →
      (so_far : Option (List B)) (xs : List A) (d : Draft) → Only base d → IfSome (P d) so_far → IfSome (P (each f so_far xs d).1) (each f so_far xs d).0
  each_runs base P h keeps so_far [] d o g = g
  each_runs base P h keeps so_far (x ∷ xs) d o g =
      subst (λ r. IfSome (P r.1) r.0) (sym (each_turn so_far (f x d) xs))
      (each_runs base P h keeps (appended so_far (f x d).0) xs (f x d).1 (only_further base d (f x d).1 o (keeps x d)) (one so_far (f x d).0 g (λ bs. h x d bs o)))
    where
      one : (s : Option (List B)) (b : Option B) → IfSome (P d) s → ((bs : List B) → P d bs → IfSome (λ c. P (f x d).1 (bs ++ c ∷ [])) b) → IfSome (P (f x d).1) (appended s b)
      one None b g h = tt
      one (Some bs) None g h = tt
      one (Some bs) (Some b) g h = h bs g

-- Components of a type --------------------------------------------------------------------------------------

rows_only : (within : Enclosing) (cs : List (Components Use)) (d : Draft) → Only d (types.component_rows within cs d).1
rows_only within cs d = each_only (types.components_of within) (λ c e. each_only (types.component within c.mark (option_map sense c.default)) (component_only within c.mark (option_map sense c.default)) (Some []) c.names e) (Some []) cs d

joined_only : (d : Draft) (r : Option (List (List Component)) × Draft) → Only d r.1 → Only d (with_known (λ rows. known (together rows)) r).1
joined_only d (None, e) h = h
joined_only d (Some rows, e) h = h

pub components_only : (within : Enclosing) (cs : List (Components Use)) (d : Draft) → Only d (types.components within cs d).1
components_only within cs d = joined_only d (types.component_rows within cs d) (rows_only within cs d)

together_one : (rows : List (List Component)) (row : List Component) → together (rows ++ row ∷ []) ≡ together rows ++ row
together_one [] row = append-nil row
together_one (x ∷ rows) row = ap (λ ys. x ++ ys) (together_one rows row) ∙ sym (append_assoc x (together rows) row)

module _ (within : Enclosing) (base : Draft) (k : Setting) (env : Frames) (sound : Sound k env base.tables) where
  abbrev count : ℕ
  count = types.inherited_count (types.on_parent base.tables within.parent)

  abbrev Beside : Draft → List Component → Type 0
  Beside d cs = Aligned k env (length base.tables.records) count d.own cs

  abbrev DefaultFor : Option Ty → Option Expr → Type 0
  DefaultFor None v = Unit {0}
  DefaultFor (Some t) v = Perhaps k env v t

  default_right : (t : Option Ty) (x : Option (Expression Use)) → IfSome (InView k env) t → Gives (DefaultFor t) (types.default_of base.tables t (option_map sense x))
  default_right None x v n = any_known (types.default_of base.tables None (option_map sense x) n).0
  default_right (Some t) None v n = default_good k env base.tables sound t None v tt n
  default_right (Some t) (Some x) v n = default_good k env base.tables sound t (Some (sense x)) v (expression_right k env base.tables sound x) n

  abbrev ComponentTy : Ty → Type 0
  ComponentTy t = InView k env t × HasObjects base.tables t

  -- one that is known stands beside its entry
  made_beside : (i : Identifier) (b : Beginning) (d e : Draft) (bs : List Component) → e.tables ≡ base.tables → e.own ≡ d.own → Beside d bs → (t : Option Ty) (v : Option (Option Expr)) → IfSome ComponentTy t → IfSome (DefaultFor t) v →
      IfSome (λ y. Beside (types.enter_component within i.text b t e) (bs ++ y ∷ [])) (types.checked_component t v)
  made_beside i b d e bs same own h None v g w = tt
  made_beside i b d e bs same own h (Some t) None g w = tt
  made_beside i b d e bs same own h (Some t) (Some v) g w =
      let entry = types.component_entry within i.text b t e in
      let position : entry.position ≡ suc (types.last_position count d.own) =
      ap (λ (x : Tables). types.last_position (types.inherited_count (types.on_parent x within.parent)) e.own + 1) same ∙ ap (λ xs. types.last_position count xs + 1) own ∙ (let one : types.last_position count d.own + 1 ≡ suc (types.last_position count d.own) = omega arith in one) in
      subst (λ xs. Aligned k env (length base.tables.records) count (xs ++ entry ∷ []) (bs ++ record { ty = t; default = v } ∷ [])) (sym own)
      (aligned_more k env (length base.tables.records) count d.own bs entry (record { ty = t; default = v }) h position refl g.0 (before_here base.tables t g.1) w)

  judged_right : (m : Mark Use) (x : Option (Expression Use)) (i : Identifier) (tables : Tables) → tables ≡ base.tables → Gives ComponentTy (types.component_judged within m (option_map sense x) i tables)
  judged_right m x i tables same = subst (λ z. Gives ComponentTy (types.component_judged within m (option_map sense x) i z)) (sym same)
      (gives_both (InView k env) (HasObjects base.tables) (types.component_judged within m (option_map sense x) i base.tables) (component_judged_good k env base.tables sound within m (option_map sense x) i) (component_has base.tables within m (option_map sense x) i))

  types_of : (t : Option Ty) → IfSome ComponentTy t → IfSome (InView k env) t
  types_of None g = tt
  types_of (Some t) g = g.0

  component_beside : (m : Mark Use) (x : Option (Expression Use)) (i : Identifier) (d : Draft) (bs : List Component) → Only base d → Beside d bs → IfSome (λ b. Beside (types.component within m (option_map sense x) i d).1 (bs ++ b ∷ [])) (types.component within m (option_map sense x) i d).0
  component_beside m x i d bs o h =
      let value = option_map sense x in
      let e = types.name_component within i d in
      let same : e.tables ≡ base.tables = ap (λ z. z.tables) (only_further base d e o (named_only within i d)) in
      let r1 = types.component_judged within m value i e.tables e.notes in
      let r2 = types.default_of e.tables r1.0 value r1.1 in
      let f : Draft = record e { notes = r2.1 } in
      let g = judged_right m x i e.tables same e.notes in
      made_beside i (types.beginning_of value) d f bs same (own_kept within i d) h r1.0 r2.0 g
      (subst (λ z. IfSome (DefaultFor r1.0) (types.default_of z r1.0 value r1.1).0) (sym same) (default_right r1.0 x (types_of r1.0 g) r1.1))

  row_beside : (c : Components Use) (d : Draft) (rows : List (List Component)) → Only base d → Beside d (together rows) → IfSome (λ row. Beside (types.components_of within c d).1 (together (rows ++ row ∷ []))) (types.components_of within c d).0
  row_beside c d rows o h =
      let f = types.component within c.mark (option_map sense c.default) in
      let run = each_runs f base (λ e bs. Beside e (together rows ++ bs))
      (λ i e bs q g. joined_each (types.component within c.mark (option_map sense c.default) i e).0 (types.component within c.mark (option_map sense c.default) i e).1 (together rows) bs (component_beside c.mark c.default i e (together rows ++ bs) q g))
      (component_only within c.mark (option_map sense c.default)) (Some []) c.names d o (subst (λ cs. Beside d cs) (sym (append-nil (together rows))) h) in
      row_joined rows (each f (Some []) c.names d).0 (each f (Some []) c.names d).1 run
    where
      joined_each : (r : Option Component) (e : Draft) (xs bs : List Component) → IfSome (λ b. Beside e ((xs ++ bs) ++ b ∷ [])) r → IfSome (λ b. Beside e (xs ++ (bs ++ b ∷ []))) r
      joined_each None e xs bs g = tt
      joined_each (Some b) e xs bs g = subst (λ cs. Beside e cs) (append_assoc xs bs (b ∷ [])) g

      row_joined : (rows : List (List Component)) (r : Option (List Component)) (e : Draft) → IfSome (λ bs. Beside e (together rows ++ bs)) r → IfSome (λ row. Beside e (together (rows ++ row ∷ []))) r
      row_joined rows None e g = tt
      row_joined rows (Some row) e g = subst (λ cs. Beside e cs) (sym (together_one rows row)) g

  joined_beside : (r : Option (List (List Component)) × Draft) → IfSome (λ rows. Beside r.1 (together rows)) r.0 → IfSome (λ cs. Beside (with_known (λ rows. known (together rows)) r).1 cs) (with_known (λ rows. known (together rows)) r).0
  joined_beside (None, e) g = tt
  joined_beside (Some rows, e) g = g

  -- the components of a type, where they are known, stand beside their entries
  pub components_beside : (cs : List (Components Use)) → base.own ≡ [] → IfSome (λ ys. Beside (types.components within cs base).1 ys) (types.components within cs base).0
  components_beside cs none =
      joined_beside (types.component_rows within cs base)
      (each_runs (types.components_of within) base (λ e rows. Beside e (together rows)) (λ c d rows o h. row_beside c d rows o h)
      (λ c e. each_only (types.component within c.mark (option_map sense c.default)) (component_only within c.mark (option_map sense c.default)) (Some []) c.names e)
      (Some []) cs base refl (subst (λ xs. Aligned k env (length base.tables.records) count xs []) (sym none) no_entries))
