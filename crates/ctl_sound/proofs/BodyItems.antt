-- Declarations of subprograms, and their bodies as they stand among the items of a part (6.1, 6.3).
use Rattle.std.proofs.Common.{arith, ◌≡◌, refl, sym, ap, ◌∙◌, subst, ℕ, zero, suc, Bool, true, false, not, if◌then◌else◌, List, [], ◌∷◌, ◌++◌, map, length, slice_get, slice_set, Option, Some, None}
use Rattle.ctl_tree.specs.declared.span.Span.{Span}
use Rattle.ctl_tree.specs.declared.fault.FaultCode.TheVariants as fault
use Rattle.ctl_program.specs.declared.types.Ty.{Ty}
use Rattle.ctl_draft.specs.declared.draft.Routine.{Routine}
use Rattle.ctl_program.specs.declared.statement.Item.{Item as Checked_item}
use Rattle.ctl_program.specs.declared.statement.Item.TheVariants as made
use Rattle.ctl_program.specs.declared.statement.Master.{Master}
use Rattle.ctl_syntax.specs.declared.denoted.Definition.{Definition}
use Rattle.ctl_syntax.specs.declared.denoted.Use.{Use}
use Rattle.ctl_syntax.specs.declared.item.Formal.{Formal as Source_formal}
use Rattle.ctl_syntax.specs.declared.item.ItemKind.TheVariants as item
use Rattle.ctl_syntax.specs.declared.item.Mode.{Mode}
use Rattle.ctl_syntax.specs.declared.item.Specification.{Specification}
use Rattle.ctl_syntax.specs.declared.name.Mark.{Mark}
use Rattle.ctl_typing.specs.declared.table.Entry.{Entry}
use Rattle.ctl_typing.specs.declared.table.Entry.TheVariants as entry
use Rattle.ctl_typing.specs.declared.table.FormalEntry.{FormalEntry}
use Rattle.ctl_typing.specs.declared.table.Tables.{Tables}
use Rattle.ctl_draft.specs.declared.draft.Around.{Around}
use Rattle.ctl_draft.specs.declared.draft.Draft.{Draft}
use Rattle.ctl_draft.specs.declared.draft.Giving.{Giving}
use Rattle.ctl_resolve.specs.Library.{operation_named}
use Rattle.ctl_declarations.specs.Declarations as decl
use Rattle.ctl_types.specs.Subprograms as routines
use Rattle.ctl_draft.specs.Draft.{fault_when, is_declared_in, leave_view}
use Rattle.ctl_draft.specs.Freezing.{freeze_all}
use Rattle.ctl_types.specs.Elaboration as spec
use Rattle.ctl_types.specs.Elaboration.{Does, surely}
use Rattle.ctl_well_typed.specs.Setting.{Holding, OfFormal, Frame, Signature, Setting, InView}
use Rattle.ctl_well_typed.specs.Statements as rule
use Rattle.ctl_well_typed.specs.Statements.{Mastered}
use Rattle.ctl_sound.specs.Known.{IfSome}
use Rattle.ctl_sound.specs.Sound.{formal_of}
use Rattle.ctl_sound.proofs.Items.{heading_types_good}
use Rattle.ctl_sound.proofs.Growing.{unfrozen, mapped_length, all_same, all_further, Behind, behind_same, behind_self, behind_one, behind_further, from_start, Still, still_self, still_noted, still_further, Made, and_then, Grows, grows_behind, grows_further}
use Rattle.ctl_sound.proofs.Freezing.{freeze_all_quiet}
use Rattle.ctl_sound.proofs.Sites.{Site, around_site, Here, here, gives_of, IsHere, BodyFor, SubprogramKnown, Known, Front, Back, Agrees}
use Rattle.ctl_sound.proofs.Fronts.{in_view_deeper, front_still, front_sound, back_still, backwards, agrees_first, agrees_rest, agrees_still}
use Rattle.ctl_sound.proofs.Compounds.{around_of}
use Rattle.ctl_sound.proofs.Objects.{RightItems, told_still, elaborated_joined}
use Rattle.ctl_sound.proofs.Bodies.{ItemRight, RightMaster, DoesRight, inner, deeper_level, front_inner, front_outside}
use Rattle.ctl_sound.proofs.Headings.{ResultOf, HeadingRead, heading_read, Entered, slots_made, held, held_is, formals_entered}
use Rattle.ctl_sound.proofs.Subprograms.{Heading, HeadingUsable, HeadingKind, Numbered, one_signature, play_played, role_fine, introduce_leads, subprogram_leads}
use Rattle.ctl_sound.proofs.Steps.{Leads, still_leads}

-- Headings (6.1) ---------------------------------------------------------------------------------------

in_still : (m : Mode) (ns : List Definition) (d : Draft) → Still d (decl.not_in m ns d)
in_still m [] d = still_self d
in_still m (n ∷ ns) d = let e = fault_when (not (decl.is_in m)) fault.Mode n.identifier.span d in still_further d e (decl.not_in m ns e) (told_still (not (decl.is_in m)) fault.Mode n.identifier.span d) (in_still m ns e)

only_still : (fs : List (Source_formal Definition Use)) (d : Draft) → Still d (decl.only_in fs d)
only_still [] d = still_self d
only_still (f ∷ fs) d = let e = decl.not_in f.mode f.names d in still_further d e (decl.only_in fs e) (in_still f.mode f.names d) (only_still fs e)

modes_still : (m : Option (Mark Use)) (fs : List (Source_formal Definition Use)) (d : Draft) → Still d (decl.modes_kept m fs d)
modes_still None fs d = still_self d
modes_still (Some m) fs d = only_still fs d

module _ (place : Span) (x : Specification Definition Use) (d : Draft) where
  abbrev asked_of : Draft
  asked_of = decl.modes_kept x.result x.formals d

  -- what is known of the heading
  abbrev pub heading_of : Heading
  heading_of = (decl.heading_types place x asked_of.tables asked_of.notes).0

  abbrev pub heading_behind : Draft
  heading_behind = record asked_of { notes = (decl.heading_types place x asked_of.tables asked_of.notes).1 }

  pub heading_still : Still d heading_behind
  heading_still = still_further d asked_of heading_behind (modes_still x.result x.formals d) (still_noted asked_of asked_of.returning asked_of.waiting heading_behind.notes)

  abbrev pub ReadAs : Heading → Type 0
  ReadAs h = IfSome (HeadingRead heading_behind.tables place x) h

  read_by : (h : Heading) → heading_of ≡ h → ReadAs h
  read_by None e = tt
  read_by (Some y) e = heading_read asked_of.tables place x asked_of.notes y e

  pub heading_reads : ReadAs heading_of
  heading_reads = read_by heading_of refl

  pub heading_kind : HeadingKind x.result heading_of
  heading_kind = by_heading heading_of heading_reads
    where
      by_heading : (h : Heading) → ReadAs h → HeadingKind x.result h
      by_heading None r = tt
      by_heading (Some y) r = r.result

  pub heading_usable : (s : Site) → Front s heading_behind → HeadingUsable s heading_of
  heading_usable s f = heading_types_good s.k (around_site s) asked_of.tables (front_sound s heading_behind f) place x asked_of.notes

-- Declarations (6.1) ---------------------------------------------------------------------------------------

instead : {A C : Type 0} (h : Here) (Q : Site → A → Type 0) (R : Site → C → Type 0) (d : Draft) (r : Option A × Draft) (o : Option C) → Leads h Q d r → ((s : Site) → IfSome (R s) o) → Leads h R d (o, r.1)
instead h Q R d r o l g = record { made = l.made; grows = l.grows; right = λ s i f b k. ((l.right s i f b k).0, g s) }

pub declaration_leads : (a : Around) (place : Span) (x : Specification Definition Use) (d : Draft) → Leads (here a) (RightItems a) d (surely (routines.declaration place x a d))
declaration_leads a place x d =
    let h = heading_of place x d in
    let e = heading_behind place x d in
    still_leads (here a) (RightItems a) d e (Some (made.Silent ∷ []), (routines.introduce a x (h, e)).1) (heading_still place x d)
    (instead (here a) (Numbered h) (RightItems a) e (routines.introduce a x (h, e)) (Some (made.Silent ∷ [])) (introduce_leads a x h (heading_kind place x d) e (λ s i f. heading_usable place x d s f)) (λ s. rule.one_more_item rule.silent rule.no_more_items))

-- Bodies that are put where they belong (6.3) -----------------------------------------------------------------

set_at : {A : Type 0} (P : ℕ → A → Type 0) (xs : List A) (m : ℕ) (x : A) → ((n : ℕ) (y : A) → slice_get xs n ≡ Some y → P n y) → P m x → (n : ℕ) (y : A) → slice_get (slice_set xs m x) n ≡ Some y → P n y
set_at P [] m x h i n y e = h n y e
set_at P (z ∷ xs) zero x h i zero y e = let same : x ≡ y = cc in subst (λ w. P 0 w) same i
set_at P (z ∷ xs) zero x h i (suc n) y e = h (suc n) y e
set_at P (z ∷ xs) (suc m) x h i zero y e = h zero y e
set_at P (z ∷ xs) (suc m) x h i (suc n) y e = set_at (λ j. P (suc j)) xs m x (λ j. h (suc j)) i n y e

set_length : {A : Type 0} (xs : List A) (m : ℕ) (x : A) → length (slice_set xs m x) ≡ length xs
set_length [] m x = refl
set_length (y ∷ xs) zero x = refl
set_length (y ∷ xs) (suc m) x = ap suc (set_length xs m x)

-- a body for the subprogram of this number
pub record MasteredFor (k : Setting) (n : ℕ) (m : Master) : Type 0 where
  pub is : Signature
  pub found : slice_get k.subprograms n ≡ Some is
  pub body : BodyFor k is m

pub record Put (n : Option ℕ) (m : Option Master) (d e : Draft) : Type 0 where
  pub subprograms : List Routine
  pub is : e ≡ record d { subprograms = subprograms }
  pub count : length subprograms ≡ length d.subprograms
  pub known : (k : Setting) → ((j : ℕ) (p : Routine) → slice_get d.subprograms j ≡ Some p → SubprogramKnown k j p) → ((j : ℕ) (x : Master) → n ≡ Some j → m ≡ Some x → MasteredFor k j x) → (j : ℕ) (p : Routine) → slice_get subprograms j ≡ Some p → SubprogramKnown k j p

put_nothing : (n : Option ℕ) (m : Option Master) (d : Draft) → Put n m d d
put_nothing n m d = record { subprograms = d.subprograms; is = refl; count = refl; known = λ k h g. h }

with_body_known : (k : Setting) (j : ℕ) (m : Master) (p : Routine) → SubprogramKnown k j p → MasteredFor k j m → SubprogramKnown k j (record { level = p.level; kind = p.kind; body = Some m })
with_body_known k j m p h g =
    let same = one_signature g.is h.is (slice_get k.subprograms j) g.found h.found in
    record { is = h.is; found = h.found; level = h.level; result = h.result; formals = h.formals; body = subst (λ x. BodyFor k x m) same g.body }

pub put_known : (n : Option ℕ) (m : Option Master) (d : Draft) → Put n m d (routines.put_body n m d)
put_known None None d = put_nothing None None d
put_known None (Some m) d = put_nothing None (Some m) d
put_known (Some j) None d = put_nothing (Some j) None d
put_known (Some j) (Some m) d = by_old (slice_get d.subprograms j) refl
  where
    by_old : (o : Option Routine) → slice_get d.subprograms j ≡ o → Put (Some j) (Some m) d (routines.with_body j m o d)
    by_old None e = put_nothing (Some j) (Some m) d
    by_old (Some p) e = record {
      subprograms = slice_set d.subprograms j (record { level = p.level; kind = p.kind; body = Some m });
      is = refl;
      count = set_length d.subprograms j _;
      known = λ k h g. set_at (SubprogramKnown k) d.subprograms j _ h (with_body_known k j m p (h j p e) (g j m refl refl));
    }

-- Bodies (6.3) -------------------------------------------------------------------------------------------------------

-- a return gives the result of the heading
gives_result : (m : Option (Mark Use)) (fs : List FormalEntry) (r : Option Ty) → ResultOf m r → gives_of (routines.giving_of m (Some (fs, r))) ≡ r
gives_result None fs r e = sym e
gives_result (Some m) fs r e = subst (λ o. gives_of (routines.giving_of (Some m) (Some (fs, o))) ≡ o) (sym e.1) refl

module _ (a : Around) (place : Span) (x : Specification Definition Use) (h : Heading) (tables : Tables) (read : IfSome (HeadingRead tables place x) h) (b : Does) (masters : DoesRight b) (d : Draft) (more : Behind tables.entries d.tables.entries) where
  abbrev gives : Giving
  gives = routines.giving_of x.result h

  abbrev within : Around
  within = spec.inside a gives d

  abbrev begun : Draft
  begun = spec.fresh d

  abbrev formals_in_view : Draft
  formals_in_view = decl.enter_formals within place x.formals begun

  abbrev formal_slots : List Holding
  formal_slots = held within place x.formals begun

  entered : Entered within place formal_slots begun formals_in_view
  entered = formals_entered within place x.formals begun

  abbrev judged : Option Master × Draft
  judged = b place within formals_in_view

  pub body_lead : Leads (here within) (RightMaster within (length judged.1.slots)) formals_in_view judged
  body_lead = masters place within formals_in_view

  abbrev own_made : Made
  own_made = body_lead.made

  abbrev frame : Frame
  frame = formal_slots ++ own_made.holdings

  abbrev pub inside_made : Made
  inside_made = record { holdings = []; homes = λ env. own_made.homes (env ++ frame ∷ []) }

  abbrev returned : Draft
  returned = record (spec.returns_kept x.name.identifier.span gives judged.1) { returning = d.returning }

  abbrev behind : Draft
  behind = record (leave_view (length d.tables.entries) returned) { slots = d.slots }

  returned_still : Still judged.1 returned
  returned_still = let e = spec.returns_kept x.name.identifier.span gives judged.1 in still_further judged.1 e returned (told_still _ fault.Return x.name.identifier.span judged.1) (still_noted e d.returning e.waiting e.notes)

  all_grows : Grows (and_then (slots_made formal_slots) own_made) begun judged.1
  all_grows = grows_further (slots_made formal_slots) own_made begun formals_in_view judged.1 entered.grows body_lead.grows

  -- the draft behind the body, with its subprograms changed
  body_grows : (ps : List Routine) → length ps ≡ length behind.subprograms → Grows inside_made d (record behind { subprograms = ps })
  body_grows ps same =
      let g = all_grows in
      let q = returned_still in
      record {
        records = behind_further d.tables.records judged.1.tables.records returned.tables.records g.records (behind_same judged.1.tables.records returned.tables.records q.records);
        components = behind_further d.components judged.1.components returned.components g.components (behind_same judged.1.components returned.components q.components);
        exceptions = behind_further d.exceptions judged.1.exceptions returned.exceptions g.exceptions (behind_same judged.1.exceptions returned.exceptions q.exceptions);
        accesses = all_further d.tables.states.accesses judged.1.tables.states.accesses returned.tables.states.accesses g.accesses (all_same judged.1.tables.states.accesses returned.tables.states.accesses q.accesses);
        slots = omega arith;
        record_homes = λ env. let one = g.record_homes (env ++ frame ∷ []) in let two = ap length q.records in omega (arith, one, two);
        access_homes = λ env. let one = g.access_homes (env ++ frame ∷ []) in let two = mapped_length unfrozen judged.1.tables.states.accesses returned.tables.states.accesses q.accesses in omega (arith, one, two);
        signatures = λ env. let one = g.signatures (env ++ frame ∷ []) in let two = ap length q.subprograms in omega (arith, one, two, same);
      }

  giving_inside : (s : Site) → HeadingUsable s h → IfSome (InView s.k (around_site (inner s frame d))) (gives_of gives)
  giving_inside s usable = by_heading h read usable
    where
      by_result : (o : Option Ty) → IfSome (InView s.k (around_site s)) o → IfSome (InView s.k (around_site (inner s frame d))) o
      by_result None v = tt
      by_result (Some t) v = in_view_deeper s.k (around_site s) frame t v

      by_none : (m : Option (Mark Use)) → IfSome (InView s.k (around_site (inner s frame d))) (gives_of (routines.giving_of m None))
      by_none None = tt
      by_none (Some m) = tt

      by_heading : (g : Heading) → IfSome (HeadingRead tables place x) g → HeadingUsable s g → IfSome (InView s.k (around_site (inner s frame d))) (gives_of (routines.giving_of x.result g))
      by_heading None r u = by_none x.result
      by_heading (Some y) r u = subst (λ o. IfSome (InView s.k (around_site (inner s frame d))) o) (sym (gives_result x.result y.0 y.1 r.result)) (by_result y.1 u.1)

  here_inside : (s : Site) → IsHere s (here a) → HeadingUsable s h → IsHere (inner s frame d) (here within)
  here_inside s i usable = record { level = deeper_level s frame d a.level i.level; start = refl; first = refl; giving = giving_inside s usable }

  agrees_inside : (s : Site) → Agrees s d inside_made → Agrees (inner s frame d) begun (and_then (slots_made formal_slots) own_made)
  agrees_inside s g = record { holdings = from_start frame; records = g.records; accesses = g.accesses; subprograms = g.subprograms }

  -- inside the body
  record Inside (s : Site) : Type 0 where
    front : Front s behind
    master : IfSome (RightMaster within (length judged.1.slots) (inner s frame d)) judged.0

  inside_right : (s : Site) → IsHere s (here a) → HeadingUsable s h → Front s d → Back s.k judged.1 → Agrees s d inside_made → Inside s
  inside_right s i usable f k g =
      let t = inner s frame d in
      let j = here_inside s i usable in
      let all = agrees_inside s g in
      let first = entered.right t j (front_inner s frame d begun refl refl refl refl f) (agrees_first t begun (slots_made formal_slots) own_made all) in
      let y = body_lead.right t j first k (agrees_rest t begun formals_in_view (slots_made formal_slots) own_made entered.grows all) in
      record { front = front_outside s frame d returned d.slots f (front_still t judged.1 returned returned_still y.0); master = y.1 }

  frame_counts : length frame ≡ length judged.1.slots
  frame_counts = let more = all_grows.slots in omega (arith, more)

  -- a body that is known fits the subprogram that it is put to
  fits_number : (s : Site) (n : ℕ) (m : Master) → Numbered h s n → Mastered s.k (around_site s) frame (around_of within) m → MasteredFor s.k n m
  fits_number s n m num body =
      let r = subst (λ g. IfSome (HeadingRead tables place x) g) num.known read in
      let slots : formal_slots ≡ map OfFormal (map formal_of num.formals) = held_is within place tables x.formals num.formals r.formals begun more in
      let gives' : gives_of gives ≡ num.result = ap (λ g. gives_of (routines.giving_of x.result g)) num.known ∙ gives_result x.result num.formals num.result r.result in
      record {
        is = record { home = around_site s; formals = map formal_of num.formals; result = num.result };
        found = num.found;
        body = (
          own_made.holdings,
          subst (λ o. Mastered s.k (around_site s) (map OfFormal (map formal_of num.formals) ++ own_made.holdings) (record { in_loop = false; in_handler = false; gives = o }) m) gives'
              (subst (λ hs. Mastered s.k (around_site s) (hs ++ own_made.holdings) (around_of within) m) slots body),
        );
      }

  -- where the number of the subprogram is known
  pub record PutRight (n : Option ℕ) (layers : List Checked_item) (r : Option (List Checked_item) × Draft) : Type 0 where
    pub grows : Grows inside_made d r.1
    pub right : (s : Site) → IsHere s (here a) → HeadingUsable s h → IfSome (Numbered h s) n → RightItems a s layers → Front s d → Back s.k r.1 → Agrees s d inside_made → Front s r.1 × IfSome (RightItems a s) r.0

  number_is : (s : Site) (n : Option ℕ) → IfSome (Numbered h s) n → (j : ℕ) → n ≡ Some j → Numbered h s j
  number_is s n num j e = subst (λ o. IfSome (Numbered h s) o) e num

  master_is : (s : Site) (o : Option Master) → IfSome (RightMaster within (length judged.1.slots) (inner s frame d)) o → (m : Master) → o ≡ Some m → Mastered s.k (around_site s) frame (around_of within) m
  master_is s o h m e = subst (λ y. IfSome (RightMaster within (length judged.1.slots) (inner s frame d)) y) e h frame_counts

  put_right : (n : Option ℕ) (layers : List Checked_item) (e : Draft) → Put n judged.0 behind e → (o : Option (List Checked_item)) → ((s : Site) → RightItems a s layers → IfSome (RightItems a s) o) → PutRight n layers (o, e)
  put_right n layers e p o items = subst (λ z. PutRight n layers (o, z)) (sym p.is) (record {
    grows = body_grows p.subprograms p.count;
    right = λ s i usable num ls f k g.
        let back : Back s.k returned = record { exceptions = k.exceptions; records = k.records; accesses = k.accesses } in
        let y = inside_right s i usable f (back_still s.k judged.1 returned returned_still back) g in
        let q = y.front in
        let known : Known s.k (record behind { subprograms = p.subprograms }) = record {
          records = q.known.records;
          operations = q.known.operations;
          subprograms = p.known s.k q.known.subprograms (λ j m e1 e2. fits_number s j m (number_is s n num j e1) (master_is s judged.0 y.master m e2));
          accesses = q.known.accesses;
          states = q.known.states;
          components = q.known.components;
        } in
        (record { entries = q.entries; base = q.base; known = known; own = q.own; inner = q.inner }, items s ls);
  })

  pub put_item : (n : Option ℕ) (layers : List Checked_item) → PutRight n layers (spec.body_put n layers (judged.0, behind))
  put_item n layers = by_master judged.0 refl
    where
      by_master : (m : Option Master) → judged.0 ≡ m → PutRight n layers (spec.body_put n layers (m, behind))
      by_master None e = put_right n layers behind (put_nothing n judged.0 behind) None (λ s ls. tt)
      by_master (Some m) e = put_right n layers (routines.put_body n (Some m) behind) (subst (λ o. Put n o behind (routines.put_body n (Some m) behind)) (sym e) (put_known n (Some m) behind)) (Some (layers ++ made.Silent ∷ []))
          (λ s ls. elaborated_joined s.k (around_site s) layers (made.Silent ∷ []) ls (rule.one_more_item rule.silent rule.no_more_items))

-- Bodies among the items of a part -------------------------------------------------------------------------------------

subprogram_entries : (a : Around) (place : Span) (x : Specification Definition Use) (h : Heading) (d : Draft) → Behind d.tables.entries (routines.subprogram_of a place x (h, d)).1.tables.entries
subprogram_entries a place x h d = by_test (is_declared_in a x.name.number d)
  where
    completed_entries : (o : Option Entry) → Behind d.tables.entries (routines.completed a place x o (h, d)).1.tables.entries
    completed_entries (Some (entry.Subprogram p)) =
        let told = fault_when (not (routines.conformed p (routines.formal_names x.formals) h)) fault.Type place d in
        let still = still_further d told (decl.indicator_kept x told) (told_still (not (routines.conformed p (routines.formal_names x.formals) h)) fault.Type place d) (told_still (decl.is_unfounded x.indicator (operation_named x.name.identifier.text)) fault.Override x.name.identifier.span told) in
        behind_same d.tables.entries (decl.indicator_kept x told).tables.entries still.entries
    completed_entries None = behind_self d.tables.entries
    completed_entries (Some (entry.«Type» t)) = behind_self d.tables.entries
    completed_entries (Some (entry.Incomplete t)) = behind_self d.tables.entries
    completed_entries (Some (entry.Object o)) = behind_self d.tables.entries
    completed_entries (Some (entry.Deallocation t)) = behind_self d.tables.entries
    completed_entries (Some (entry.Exception n)) = behind_self d.tables.entries
    completed_entries (Some entry.Unknown) = behind_self d.tables.entries

    introduced : Behind d.tables.entries (routines.introduce a x (h, d)).1.tables.entries
    introduced =
        let role = decl.role_of a x h d.tables in
        let p = play_played a (length d.subprograms) h d x.name.identifier.span role (role_fine a x h d.tables) in
        let own = routines.entry_of (length d.subprograms) (routines.formal_names x.formals) h in
        subst (λ es. Behind d.tables.entries (es ++ own ∷ [])) (sym (ap (λ z. z.tables.entries) p.is)) (behind_one d.tables.entries own)

    by_test : (c : Bool) → Behind d.tables.entries (if c then routines.completed a place x (slice_get d.tables.entries x.name.number) (h, d) else routines.introduce a x (h, d)).1.tables.entries
    by_test true = completed_entries (slice_get d.tables.entries x.name.number)
    by_test false = introduced

pub body_item_leads : (place : Span) (x : Specification Definition Use) (b : Does) → DoesRight b → ItemRight (spec.item_of place (item.Body x b))
body_item_leads place x b masters o a d =
    let h = heading_of place x d in
    let d1 = heading_behind place x d in
    let asked = heading_still place x d in
    let r2 = routines.subprogram_of a place x (h, d1) in
    let q = freeze_all_quiet a r2.1 in
    let r3 = freeze_all a r2.1 in
    let numbered = subprogram_leads a place x h (heading_kind place x d) d1 (λ s i f. heading_usable place x d s f) in
    let more = behind_further d1.tables.entries r2.1.tables.entries r3.1.tables.entries (subprogram_entries a place x h d1) (behind_same r2.1.tables.entries r3.1.tables.entries q.still.entries) in
    let p = put_item a place x h d1.tables (heading_reads place x d) b masters r3.1 more r2.0 r3.0 in
    let inside = inside_made a place x h d1.tables (heading_reads place x d) b masters r3.1 more in
    let end = (spec.body_item place x b o a d).1 in
    let rest = grows_behind inside r2.1 r3.1 end q.still p.grows in
    record {
      made = and_then numbered.made inside;
      grows = grows_behind (and_then numbered.made inside) d d1 end asked (grows_further numbered.made inside d1 r2.1 end numbered.grows rest);
      right = λ s i f k g.
          let f1 = front_still s d d1 asked f in
          let g1 = agrees_still s d d1 (and_then numbered.made inside) asked g in
          let y = numbered.right s i f1 (backwards s.k inside r2.1 end rest k) (agrees_first s d1 numbered.made inside g1) in
          let f3 = front_still s r2.1 r3.1 q.still y.0 in
          let g3 = agrees_still s r2.1 r3.1 inside q.still (agrees_rest s d1 r2.1 numbered.made inside numbered.grows g1) in
          let layers = q.layers s i y.0 in
          p.right s i (heading_usable place x d s f1) y.1 layers f3 k g3;
    }
