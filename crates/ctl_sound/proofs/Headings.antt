-- Headings of subprograms: what is read of them again where the body stands, and the formals in view there (6.1, 6.3).
use Rattle.std.proofs.Common.{◌≡◌, refl, sym, ap, ◌∙◌, subst, ℕ, Bool, true, false, if◌then◌else◌, List, [], ◌∷◌, ◌++◌, map, slice_get, Option, Some, None}
use Rattle.std.proofs.lemmas.List.{append-nil, append_assoc}
use Rattle.ctl_tree.specs.declared.span.Span.{Span}
use Rattle.ctl_tree.specs.declared.fault.FaultCode.TheVariants as fault
use Rattle.ctl_program.specs.declared.types.Ty.{Ty}
use Rattle.ctl_syntax.specs.declared.denoted.Definition.{Definition}
use Rattle.ctl_syntax.specs.declared.denoted.Denoted.{Denoted}
use Rattle.ctl_syntax.specs.declared.denoted.Denoted.TheVariants as denoted
use Rattle.ctl_syntax.specs.declared.denoted.LibraryName.{LibraryName}
use Rattle.ctl_syntax.specs.declared.denoted.LibraryName.TheVariants as library
use Rattle.ctl_syntax.specs.declared.denoted.Use.{Use}
use Rattle.ctl_syntax.specs.declared.item.Aliasing.TheVariants as aliasing
use Rattle.ctl_syntax.specs.declared.item.Formal.{Formal as Source_formal}
use Rattle.ctl_syntax.specs.declared.item.Mode.{Mode}
use Rattle.ctl_syntax.specs.declared.item.Specification.{Specification}
use Rattle.ctl_syntax.specs.declared.name.Identifier.{Identifier}
use Rattle.ctl_syntax.specs.declared.name.Mark.{Mark}
use Rattle.ctl_typing.specs.declared.notes.Notes.{Notes}
use Rattle.ctl_typing.specs.declared.table.Entry.{Entry}
use Rattle.ctl_typing.specs.declared.table.Entry.TheVariants as entry
use Rattle.ctl_typing.specs.declared.table.FormalEntry.{FormalEntry}
use Rattle.ctl_typing.specs.declared.table.Standing.TheVariants as standing
use Rattle.ctl_typing.specs.declared.table.Tables.{Tables}
use Rattle.ctl_typing.specs.Judgement.{Judging, known, wrong, with_known, ◌>>=◌, paired, beside, both}
use Rattle.ctl_typing.specs.Typing.{entry_found, library_found, marked, mark_judged}
use Rattle.ctl_draft.specs.declared.draft.Around.{Around}
use Rattle.ctl_draft.specs.declared.draft.Draft.{Draft}
use Rattle.ctl_declarations.specs.Declarations as decl
use Rattle.ctl_draft.specs.Draft.{declare, declare_object}
use Rattle.ctl_draft.specs.Marks.{named_type, is_root_pool}
use Rattle.ctl_draft.specs.Operations.{formal}
use Rattle.ctl_well_typed.specs.Setting.{Holding, OfFormal, formal as Formal_stands, InView}
use Rattle.ctl_sound.specs.Known.{IfSome}
use Rattle.ctl_sound.specs.Sound.{formal_of}
use Rattle.ctl_sound.proofs.Items.{named_type_good}
use Rattle.ctl_sound.proofs.Growing.{Behind, behind_self, behind_one, behind_further, behind_read, still_noted, Made, no_homes, Grows, grows_self, grows_further, grows_behind}
use Rattle.ctl_sound.proofs.Sites.{Site, around_site, here, IsHere, Front, Agrees}
use Rattle.ctl_sound.proofs.Fronts.{front_noted, front_sound, agrees_first, agrees_rest, agrees_still}
use Rattle.ctl_sound.proofs.Declared.{slot_made, front_declared, object_grows, object_front}

-- What is known of two judgements -------------------------------------------------------------------

pub record KnownBoth {S A B : Type 0} (p : Judging S A) (q : Judging S B) (n : S) (y : A × B) : Type 0 where
  pub first : (p n).0 ≡ Some y.0
  pub second : (q (p n).1).0 ≡ Some y.1

absent_paired : {S A B : Type 0} (a : Option A) (r : Option B × S) → a ≡ None → (paired a r).0 ≡ None
absent_paired None (b, s) e = refl
absent_paired (Some a) r e = absurd (cc)

module _ {S A B : Type 0} (p : Judging S A) (q : Judging S B) (n : S) (y : A × B) where
  second_known : (x : A) (s : S) → p n ≡ (Some x, s) → (r : Option B × S) → q s ≡ r → (paired (Some x) r).0 ≡ Some y → KnownBoth p q n y
  second_known x s e (None, t) f h = absurd (cc)
  second_known x s e (Some z, t) f h =
      let same : (x, z) ≡ y = cc in
      record { first = ap (λ r. r.0) e ∙ ap (λ w. Some w.0) same; second = ap (λ r. (q r.1).0) e ∙ ap (λ r. r.0) f ∙ ap (λ w. Some w.1) same }

  first_known : (a : Option A) (s : S) → p n ≡ (a, s) → (paired a (q s)).0 ≡ Some y → KnownBoth p q n y
  first_known None s e h = absurd (let no = absent_paired {S = S} {A = A} {B = B} None (q s) refl in cc)
  first_known (Some x) s e h = second_known x s e (q s) refl h

  split_known : (r : Option A × S) → p n ≡ r → (beside q r).0 ≡ Some y → KnownBoth p q n y
  split_known (a, s) e h = first_known a s e h

  pub both_known : (both p q n).0 ≡ Some y → KnownBoth p q n y
  both_known h = split_known (p n) refl h

pub record KnownFrom {S A B : Type 0} (p : Judging S A) (f : A → B) (n : S) (b : B) : Type 0 where
  pub a : A
  pub known : (p n).0 ≡ Some a
  pub is : b ≡ f a

module _ {S A B : Type 0} (p : Judging S A) (f : A → B) (n : S) (b : B) where
  known_by : (r : Option A × S) → p n ≡ r → (with_known (λ a. known (f a)) r).0 ≡ Some b → KnownFrom p f n b
  known_by (None, s) e h = absurd (cc)
  known_by (Some x, s) e h = let same : f x ≡ b = cc in record { a = x; known = ap (λ r. r.0) e; is = sym same }

  pub known_from : ((p >>= (λ a. known (f a))) n).0 ≡ Some b → KnownFrom p f n b
  known_from h = known_by (p n) refl h

-- Types that are named again ----------------------------------------------------------------------------

module _ (es fs : Tables) (more : Behind es.entries fs.entries) (n m : Notes) (t : Ty) where
  library_again : (place : Span) (l : LibraryName) → (with_known (marked place) (library_found place l n)).0 ≡ Some t → (with_known (marked place) (library_found place l m)).0 ≡ Some t
  library_again place library.Integer h = h
  library_again place library.Boolean h = h
  library_again place library.StorageCount h = h
  library_again place library.Address h = h
  library_again place library.SubpoolHandle h = h
  library_again place library.Controlled h = h
  library_again place library.LimitedControlled h = h
  library_again place library.BlockPool h = h
  library_again place library.MarkReleasePool h = h
  library_again place l h = absurd (cc)

  entry_again : (place : Span) (number : ℕ) (x : Entry) → (with_known (marked place) (entry_found place number (Some x) n)).0 ≡ Some t → (with_known (marked place) (entry_found place number (Some x) m)).0 ≡ Some t
  entry_again place number (entry.«Type» u) h = h
  entry_again place number x h = absurd (cc)

  declared_again : (place : Span) (number : ℕ) (o : Option Entry) → slice_get es.entries number ≡ o → (with_known (marked place) (entry_found place number o n)).0 ≡ Some t → (with_known (marked place) (entry_found place number (slice_get fs.entries number) m)).0 ≡ Some t
  declared_again place number None e h = absurd (cc)
  declared_again place number (Some x) e h = subst (λ o. (with_known (marked place) (entry_found place number o m)).0 ≡ Some t) (sym (behind_read es.entries fs.entries number x more e)) (entry_again place number x h)

  denoted_again : (place : Span) (x : Denoted) → (mark_judged es (record { span = place; denoted = x }) [] n).0 ≡ Some t → (mark_judged fs (record { span = place; denoted = x }) [] m).0 ≡ Some t
  denoted_again place (denoted.Declared number level) h = declared_again place number (slice_get es.entries number) refl h
  denoted_again place (denoted.Library l) h = library_again place l h
  denoted_again place (denoted.Operation o) h = absurd (cc)
  denoted_again place denoted.Unknown h = absurd (cc)

  mark_again : (place : Span) (x : Denoted) (rest : List Identifier) → (mark_judged es (record { span = place; denoted = x }) rest n).0 ≡ Some t → (mark_judged fs (record { span = place; denoted = x }) rest m).0 ≡ Some t
  mark_again place x [] h = denoted_again place x h
  mark_again place x (i ∷ is') h = absurd (cc)

  -- a type that a mark names is named where more declarations are in view
  pub named_again : (place : Span) (x : Mark Use) → (named_type es place x n).0 ≡ Some t → (named_type fs place x m).0 ≡ Some t
  named_again place x h = by_root (is_root_pool x) h
    where
      by_root : (b : Bool) → ((if b then wrong fault.Pool x.first.span else mark_judged es (record { span = place; denoted = x.first.denoted }) x.rest) n).0 ≡ Some t →
          ((if b then wrong fault.Pool x.first.span else mark_judged fs (record { span = place; denoted = x.first.denoted }) x.rest) m).0 ≡ Some t
      by_root true h = absurd (cc)
      by_root false h = mark_again place x.first.denoted x.rest h

-- Formals as they are read (6.1) -------------------------------------------------------------------------

pub data FormalsRead (tables : Tables) (place : Span) : List (Source_formal Definition Use) → List FormalEntry → Type 0 where
  no_formals : FormalsRead tables place [] []
  one_formal : {f : Source_formal Definition Use} {fs : List (Source_formal Definition Use)} {gs : List FormalEntry} (n : Notes) (t : Ty) → (named_type tables place f.mark n).0 ≡ Some t → FormalsRead tables place fs gs → FormalsRead tables place (f ∷ fs) (map (λ x. formal f.mode t) f.names ++ gs)

pub record ReadBehind (tables : Tables) (place : Span) (fs : List (Source_formal Definition Use)) (before all : List FormalEntry) : Type 0 where
  pub more : List FormalEntry
  pub is : all ≡ before ++ more
  pub read : FormalsRead tables place fs more

module _ (tables : Tables) (place : Span) where
  formals_turn : (before : Option (List FormalEntry)) (r : Option (List FormalEntry) × Notes) (fs : List (Source_formal Definition Use)) → decl.formals_next tables place before r fs ≡ decl.formals_on tables place (decl.more_formals before r.0) fs r.1
  formals_turn before (more, n) [] = refl
  formals_turn before (more, n) (f ∷ fs) = refl

  none_read : (fs : List (Source_formal Definition Use)) (n : Notes) → (decl.formals_on tables place None fs n).0 ≡ None
  none_read [] n = refl
  none_read (f ∷ fs) n = ap (λ r. r.0) (formals_turn None (decl.formal_type tables place f n) fs) ∙ none_read fs (decl.formal_type tables place f n).1

  formals_read : (fs : List (Source_formal Definition Use)) (before all : List FormalEntry) (n : Notes) → (decl.formals_on tables place (Some before) fs n).0 ≡ Some all → ReadBehind tables place fs before all
  formals_read [] before all n h = let same : before ≡ all = cc in record { more = []; is = sym same ∙ sym (append-nil before); read = no_formals }
  formals_read (f ∷ fs) before all n h = by_first (decl.formal_type tables place f n).0 refl (ap (λ r. r.0) (sym (formals_turn (Some before) (decl.formal_type tables place f n) fs)) ∙ h) (λ g. formals_read fs (before ++ g) all (decl.formal_type tables place f n).1)
    where
      by_first : (o : Option (List FormalEntry)) → (decl.formal_type tables place f n).0 ≡ o → (decl.formals_on tables place (decl.more_formals (Some before) o) fs (decl.formal_type tables place f n).1).0 ≡ Some all →
          ((g : List FormalEntry) → (decl.formals_on tables place (Some (before ++ g)) fs (decl.formal_type tables place f n).1).0 ≡ Some all → ReadBehind tables place fs (before ++ g) all) → ReadBehind tables place (f ∷ fs) before all
      by_first None e h again = absurd (let no = none_read fs (decl.formal_type tables place f n).1 in cc)
      by_first (Some g) e h again =
          let rest = again g h in
          let own = known_from (named_type tables place f.mark) (λ t. map (λ x. formal f.mode t) f.names) n g e in
          record {
            more = map (λ x. formal f.mode own.a) f.names ++ rest.more;
            is = rest.is ∙ append_assoc before g rest.more ∙ ap (λ z. before ++ (z ++ rest.more)) own.is;
            read = one_formal n own.a own.known rest.read;
          }

-- what a heading has as its result is of its kind
abbrev pub ResultOf : Option (Mark Use) → Option Ty → Type 0
ResultOf None r = r ≡ None
ResultOf (Some m) r = (t : Ty) × (r ≡ Some t)

result_read : (tables : Tables) (place : Span) (m : Option (Mark Use)) (n : Notes) (r : Option Ty) → (decl.result_type place m tables n).0 ≡ Some r → ResultOf m r
result_read tables place None n r h = let same : None ≡ r = cc in sym same
result_read tables place (Some m) n r h = let own = known_from (decl.returned_type tables place m) (λ t. Some t) n r h in (own.a, own.is)

pub record HeadingRead (tables : Tables) (place : Span) (s : Specification Definition Use) (h : List FormalEntry × Option Ty) : Type 0 where
  pub formals : FormalsRead tables place s.formals h.0
  pub result : ResultOf s.result h.1

pub heading_read : (tables : Tables) (place : Span) (s : Specification Definition Use) (n : Notes) (h : List FormalEntry × Option Ty) → (decl.heading_types place s tables n).0 ≡ Some h → HeadingRead tables place s h
heading_read tables place s n h e =
    let parts = both_known (decl.formal_types place s.formals tables) (decl.result_type place s.result tables) n h e in
    let formals = formals_read tables place s.formals [] h.0 n parts.first in
    record {
      formals = subst (λ fs. FormalsRead tables place s.formals fs) (sym formals.is) formals.read;
      result = result_read tables place s.result (decl.formal_types place s.formals tables n).1 h.1 parts.second;
    }

-- Formals in view (6.3) -------------------------------------------------------------------------------------

abbrev pub slots_made : List Holding → Made
slots_made hs = record { holdings = hs; homes = λ env. no_homes }

abbrev held_names : Mode → Option Ty → List Definition → List Holding
held_names m None ns = []
held_names m (Some t) [] = []
held_names m (Some t) (n ∷ ns) = OfFormal (formal_of (formal m t)) ∷ held_names m (Some t) ns

module _ (a : Around) (place : Span) where
  -- the formals grow the draft by their slots
  pub record Entered (hs : List Holding) (d e : Draft) : Type 0 where
    pub grows : Grows (slots_made hs) d e
    pub right : (s : Site) → IsHere s (here a) → Front s d → Agrees s d (slots_made hs) → Front s e
    pub entries : Behind d.tables.entries e.tables.entries

  entered_self : (d : Draft) → Entered [] d d
  entered_self d = record { grows = grows_self d; right = λ s i f g. f; entries = behind_self d.tables.entries }

  entered_further : (hs gs : List Holding) (d e f : Draft) → Entered hs d e → Entered gs e f → Entered (hs ++ gs) d f
  entered_further hs gs d e f h g = record {
    grows = grows_further (slots_made hs) (slots_made gs) d e f h.grows g.grows;
    right = λ s i q k. g.right s i (h.right s i q (agrees_first s d (slots_made hs) (slots_made gs) k)) (agrees_rest s d e (slots_made hs) (slots_made gs) h.grows k);
    entries = behind_further d.tables.entries e.tables.entries f.tables.entries h.entries g.entries;
  }

  -- where the type can be used
  record NamesEntered (t : Option Ty) (hs : List Holding) (d e : Draft) : Type 0 where
    grows : Grows (slots_made hs) d e
    right : (s : Site) → IsHere s (here a) → IfSome (InView s.k (around_site s)) t → Front s d → Agrees s d (slots_made hs) → Front s e
    entries : Behind d.tables.entries e.tables.entries

  names_entered : (m : Mode) (t : Option Ty) (ns : List Definition) (d : Draft) → NamesEntered t (held_names m t ns) d (decl.enter_names a m t ns d)
  names_entered m None [] d = record { grows = grows_self d; right = λ s i v f g. f; entries = behind_self d.tables.entries }
  names_entered m None (n ∷ ns) d =
      let rest = names_entered m None ns (declare entry.Unknown d) in
      record {
        grows = let g = rest.grows in record { records = g.records; components = g.components; exceptions = g.exceptions; accesses = g.accesses; slots = g.slots; record_homes = g.record_homes; access_homes = g.access_homes; signatures = g.signatures };
        right = λ s i v f g. rest.right s i v (front_declared s d entry.Unknown tt f) (record { holdings = g.holdings; records = g.records; accesses = g.accesses; subprograms = g.subprograms });
        entries = behind_further d.tables.entries (d.tables.entries ++ entry.Unknown ∷ []) (decl.enter_names a m None ns (declare entry.Unknown d)).tables.entries (behind_one d.tables.entries entry.Unknown) rest.entries;
      }
  names_entered m (Some t) [] d = record { grows = grows_self d; right = λ s i v f g. f; entries = behind_self d.tables.entries }
  names_entered m (Some t) (n ∷ ns) d =
      let own : Holding = OfFormal (formal_of (formal m t)) in
      let mid = declare_object a t standing.Formal (decl.formal_mutability m) aliasing.Unaliased d in
      let more = held_names m (Some t) ns in
      let one = object_grows a t standing.Formal (decl.formal_mutability m) aliasing.Unaliased own Formal_stands d in
      let rest = names_entered m (Some t) ns mid in
      record {
        grows = grows_further (slot_made own) (slots_made more) d mid (decl.enter_names a m (Some t) ns mid) one rest.grows;
        right = λ s i v f g. rest.right s i v (object_front a t standing.Formal (decl.formal_mutability m) aliasing.Unaliased own Formal_stands (λ env k names. (tt, tt)) d s i v f (agrees_first s d (slot_made own) (slots_made more) g)) (agrees_rest s d mid (slot_made own) (slots_made more) one g);
        entries = behind_further d.tables.entries mid.tables.entries (decl.enter_names a m (Some t) ns mid).tables.entries (behind_one d.tables.entries _) rest.entries;
      }

  formal_entered : (f : Source_formal Definition Use) (d : Draft) → Entered (held_names f.mode (named_type d.tables place f.mark d.notes).0 f.names) d (decl.enter_formal a place f d)
  formal_entered f d =
      let r = named_type d.tables place f.mark d.notes in
      let e : Draft = record d { notes = r.1 } in
      let h = names_entered f.mode r.0 f.names e in
      let still = still_noted d d.returning d.waiting r.1 in
      let hs = held_names f.mode r.0 f.names in
      record {
        grows = grows_behind (slots_made hs) d e (decl.enter_names a f.mode r.0 f.names e) still h.grows;
        right = λ s i q g. h.right s i (named_type_good s.k (around_site s) d.tables (front_sound s d q) place f.mark d.notes) (front_noted s d r.1 q) (agrees_still s d e (slots_made hs) still g);
        entries = h.entries;
      }

  abbrev pub held : List (Source_formal Definition Use) → Draft → List Holding
  held [] d = []
  held (f ∷ fs) d = held_names f.mode (named_type d.tables place f.mark d.notes).0 f.names ++ held fs (decl.enter_formal a place f d)

  pub formals_entered : (fs : List (Source_formal Definition Use)) (d : Draft) → Entered (held fs d) d (decl.enter_formals a place fs d)
  formals_entered [] d = entered_self d
  formals_entered (f ∷ fs) d =
      let e = decl.enter_formal a place f d in
      entered_further (held_names f.mode (named_type d.tables place f.mark d.notes).0 f.names) (held fs e) d e (decl.enter_formals a place fs e) (formal_entered f d) (formals_entered fs e)

  abbrev slots_of : List FormalEntry → List Holding
  slots_of gs = map OfFormal (map formal_of gs)

  slots_joined : (gs hs : List FormalEntry) → slots_of (gs ++ hs) ≡ slots_of gs ++ slots_of hs
  slots_joined [] hs = refl
  slots_joined (g ∷ gs) hs = ap (λ xs. OfFormal (formal_of g) ∷ xs) (slots_joined gs hs)

  names_held : (m : Mode) (t : Ty) (ns : List Definition) → held_names m (Some t) ns ≡ slots_of (map (λ x. formal m t) ns)
  names_held m t [] = refl
  names_held m t (n ∷ ns) = ap (λ xs. OfFormal (formal_of (formal m t)) ∷ xs) (names_held m t ns)

  -- where a heading was read, the same formals are in view behind
  pub held_is : (tables : Tables) (fs : List (Source_formal Definition Use)) (gs : List FormalEntry) → FormalsRead tables place fs gs → (d : Draft) → Behind tables.entries d.tables.entries → held fs d ≡ slots_of gs
  held_is tables _ _ no_formals d b = refl
  held_is tables _ _ (one_formal {f = f} {fs = fs} {gs = gs} n t e more) d b =
      let again = named_again tables d.tables b n d.notes t place f.mark e in
      let own = ap (λ o. held_names f.mode o f.names) again ∙ names_held f.mode t f.names in
      let next = decl.enter_formal a place f d in
      let rest = held_is tables fs gs more next (behind_further tables.entries d.tables.entries next.tables.entries b (formal_entered f d).entries) in
      ap (λ xs. xs ++ held fs next) own ∙ ap (λ xs. slots_of (map (λ x. formal f.mode t) f.names) ++ xs) rest ∙ sym (slots_joined (map (λ x. formal f.mode t) f.names) gs)
