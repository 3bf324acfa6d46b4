-- Declarations that come into view, with the slots that they take, and go out of view.
use Rattle.std.proofs.Common.{arith, ◌≡◌, ◌≤◌, refl, sym, ap, ◌∙◌, subst, ℕ, zero, suc, ◌+◌, List, [], ◌∷◌, ◌++◌, map, length, take, slice_get, Some}
use Rattle.std.proofs.lemmas.List.{length-append}
use Rattle.ctl_program.specs.declared.types.Ty.{Ty}
use Rattle.ctl_syntax.specs.declared.item.Aliasing.{Aliasing}
use Rattle.ctl_typing.specs.declared.found.Head.TheVariants as head
use Rattle.ctl_typing.specs.declared.table.Entry.{Entry}
use Rattle.ctl_typing.specs.declared.table.Entry.TheVariants as entry
use Rattle.ctl_typing.specs.declared.table.Mutability.{Mutability}
use Rattle.ctl_typing.specs.declared.table.Standing.{Standing}
use Rattle.ctl_draft.specs.declared.draft.Around.{Around}
use Rattle.ctl_draft.specs.declared.draft.Draft.{Draft}
use Rattle.ctl_draft.specs.Draft.{declare, declare_object, leave_view}
use Rattle.ctl_draft.specs.Operations.{user_operation}
use Rattle.ctl_well_typed.specs.Setting.{Holding, Stands, Frame, Frames, Names, slot, Setting, InView}
use Rattle.ctl_sound.specs.Known.{IfSome}
use Rattle.ctl_sound.specs.Sound.{EntryFine, AliasFine, DeclaredFine}
use Rattle.ctl_sound.proofs.Growing.{operations_in, all_same, Behind, behind_same, behind_one, behind_further, behind_length, each_with, last_read, Made, no_homes, Grows}
use Rattle.ctl_sound.proofs.Sites.{Site, around_site, here, IsHere, Known, operations_at, Front, Agrees}

-- Names of slots --------------------------------------------------------------------------------

pub one_longer : (env : Frames) (f : Frame) → length (env ++ f ∷ []) ≡ suc (length env)
one_longer env f = let e = length-append env (f ∷ []) in omega (arith, e)

pub innermost : (env : Frames) (f : Frame) (n : ℕ) (h : Holding) → slice_get f n ≡ Some h → Names (env ++ f ∷ []) (record { level = length (env ++ f ∷ []); slot = n }) h
innermost env f n h e = subst (λ l. Names (env ++ f ∷ []) (record { level = l; slot = n }) h) (sym (one_longer env f)) (slot (last_read env f) e)

-- the next slot is for this
abbrev pub slot_made : Holding → Made
slot_made h = record { holdings = h ∷ []; homes = λ env. no_homes }

pub slot_named : (s : Site) (d : Draft) (h : Holding) → Agrees s d (slot_made h) → Names (around_site s) (record { level = length (around_site s); slot = length d.slots }) h
slot_named s d h a = let same : length d.slots + 0 ≡ length d.slots = omega arith in innermost s.outer s.frame (length d.slots) h (subst (λ n. slice_get s.frame n ≡ Some h) same (a.holdings 0 h refl))

-- Declarations ------------------------------------------------------------------------------------

pub known_same : (k : Setting) (d e : Draft) → e.tables.records ≡ d.tables.records → e.tables.states ≡ d.tables.states → e.components ≡ d.components → e.subprograms ≡ d.subprograms → Known k d → Known k e
known_same k d e rs ss cs ps h = record {
  records = λ t r q. h.records t r (subst (λ xs. slice_get xs t ≡ Some r) rs q);
  operations = λ o t n q. h.operations o t n (subst (λ x. user_operation o (operations_at (map operations_in x.records) t) ≡ Some n) ss q);
  subprograms = λ n p q. h.subprograms n p (subst (λ xs. slice_get xs n ≡ Some p) ps q);
  accesses = λ a x q. h.accesses a x (subst (λ y. slice_get y.accesses a ≡ Some x) ss q);
  states = ap (λ x. length x.records) ss ∙ h.states ∙ ap length (sym rs);
  components = ap length cs ∙ h.components ∙ ap length (sym rs);
}

-- what is in front of a construct does not name the slots
pub front_slots : (s : Site) (d : Draft) (ts : List Ty) → Front s d → Front s (record d { slots = ts })
front_slots s d ts f = record { entries = f.entries; base = f.base; known = known_same s.k d (record d { slots = ts }) refl refl refl refl f.known; own = f.own; inner = f.inner }

pub front_declared : (s : Site) (d : Draft) (x : Entry) → EntryFine s.k (around_site s) x → Front s d → Front s (declare x d)
front_declared s d x h f = record {
  entries = each_with (EntryFine s.k (around_site s)) d.tables.entries x f.entries h;
  base = behind_further s.base d.tables.entries (d.tables.entries ++ x ∷ []) f.base (behind_one d.tables.entries x);
  known = known_same s.k d (declare x d) refl refl refl refl f.known;
  own = f.own;
  inner = f.inner;
}

cut_holds : {A : Type 0} (P : A → Type 0) (xs : List A) (m : ℕ) → ((n : ℕ) → IfSome P (slice_get xs n)) → (n : ℕ) → IfSome P (slice_get (take m xs) n)
cut_holds P xs zero h n = tt
cut_holds P [] (suc m) h n = tt
cut_holds P (x ∷ xs) (suc m) h zero = h zero
cut_holds P (x ∷ xs) (suc m) h (suc n) = cut_holds P xs m (λ i. h (suc i)) n

cut_behind : {A : Type 0} (xs more : List A) (n : ℕ) → length xs ≤ n → Behind xs (take n (xs ++ more))
cut_behind [] more n h = record { more = take n more; is = refl }
cut_behind (x ∷ xs) more zero h = absurd (omega (arith, h))
cut_behind (x ∷ xs) more (suc n) h = let r = cut_behind xs more n (omega (arith, h)) in record { more = r.more; is = ap (λ zs. x ∷ zs) r.is }

-- those that came into view behind a place of the master go out of view
pub front_left : (s : Site) (d e : Draft) → Front s d → Front s e → Front s (leave_view (length d.tables.entries) e)
front_left s d e f g = record {
  entries = cut_holds (EntryFine s.k (around_site s)) e.tables.entries (length d.tables.entries) g.entries;
  base = subst (λ es. Behind s.base (take (length d.tables.entries) es)) (sym g.base.is) (cut_behind s.base g.base.more (length d.tables.entries) (behind_length s.base d.tables.entries f.base));
  known = known_same s.k e (leave_view (length d.tables.entries) e) refl refl refl refl g.known;
  own = g.own;
  inner = g.inner;
}

-- Objects with their slots ------------------------------------------------------------------------------

module _ (a : Around) (t : Ty) (st : Standing) (m : Mutability) (al : Aliasing) (h : Holding) (stands : Stands h t) where
  pub object_grows : (d : Draft) → Grows (slot_made h) d (declare_object a t st m al d)
  object_grows d = record {
    records = behind_same d.tables.records d.tables.records refl;
    components = behind_same d.components d.components refl;
    exceptions = behind_same d.exceptions d.exceptions refl;
    accesses = all_same d.tables.states.accesses d.tables.states.accesses refl;
    slots = length-append d.slots (t ∷ []);
    record_homes = λ env. omega arith;
    access_homes = λ env. omega arith;
    signatures = λ env. omega arith;
  }

  -- its name is what is asked of one of its standing that may be aliased
  pub object_front : ((env : Frames) (n : ℕ) → Names env (record { level = a.level; slot = n }) h → AliasFine env al (head.At (record { level = a.level; slot = n })) t × DeclaredFine env st (record { level = a.level; slot = n }) t) →
      (d : Draft) (s : Site) → IsHere s (here a) → InView s.k (around_site s) t → Front s d → Agrees s d (slot_made h) → Front s (declare_object a t st m al d)
  object_front asks d s i v f g =
      let env = around_site s in
      let names = subst (λ l. Names env (record { level = l; slot = length d.slots }) h) (sym i.level) (slot_named s d h g) in
      let both = asks env (length d.slots) names in
      front_slots s (declare (entry.Object (record { ty = t; var = record { level = a.level; slot = length d.slots }; standing = st; mutability = m; aliasing = al })) d) (d.slots ++ t ∷ [])
      (front_declared s d (entry.Object (record { ty = t; var = record { level = a.level; slot = length d.slots }; standing = st; mutability = m; aliasing = al }))
      (record { holding = h; names = names; stands = stands; in_view = v; alias = both.0; declared = both.1 }) f)
