-- What is frozen keeps all else; the collections that stand before a construct are those of the master around.
use Rattle.std.proofs.Common.{arith, ◌≡◌, ◌≤◌, refl, sym, ap, ◌∙◌, subst, ℕ, zero, suc, ◌+◌, ◌-◌, ◌^◌, nat_eq, Bool, true, false, ◌&&◌, if◌then◌else◌, List, [], ◌∷◌, ◌++◌, map, length, drop, slice_get, slice_set, Option, Some, None}
use Rattle.std.proofs.lemmas.Bool.Decides.{nat_tests}
use Rattle.ctl_program.specs.declared.types.Ty.{Ty}
use Rattle.ctl_program.specs.declared.types.Ty.TheVariants as ty
use Rattle.ctl_program.specs.declared.statement.Item.{Item as Checked_item}
use Rattle.ctl_typing.specs.declared.notes.Deed.{Deed}
use Rattle.ctl_typing.specs.declared.notes.Deed.TheVariants.{Freezes, Creates, Initializes, Allocates, Calls}
use Rattle.ctl_typing.specs.declared.table.States.{States}
use Rattle.ctl_typing.specs.declared.table.RecordEntry.{RecordEntry}
use Rattle.ctl_typing.specs.declared.table.RecordState.{RecordState}
use Rattle.ctl_typing.specs.declared.table.AccessEntry.{AccessEntry}
use Rattle.ctl_draft.specs.declared.draft.Draft.{Draft}
use Rattle.ctl_draft.specs.declared.draft.Around.{Around}
use Rattle.ctl_draft.specs.Freezing as spec
use Rattle.ctl_well_typed.specs.Setting.{Collection, Frames, Names, Encloses, Setting, HasAccess}
use Rattle.ctl_well_typed.specs.Statements as rule
use Rattle.ctl_well_typed.specs.Statements.{Gathers, ElaboratedEach}
use Rattle.ctl_sound.proofs.Sites.{Site, around_site, here, IsHere, Front}
use Rattle.ctl_sound.proofs.Fronts.{encloses_self, encloses_all, access_below, front_still}
use Rattle.ctl_sound.proofs.Growing.{operations_in, unfrozen, Still, still_self, still_states, still_further, still_noted}

-- One more element ---------------------------------------------------------------------------

-- a change keeps what each of them says
changed_says : {A B : Type 0} (g : A → B) (f : A → A) → ((a : A) → g (f a) ≡ g a) → (n : ℕ) (xs : List A) → map g (spec.changed f n xs) ≡ map g xs
changed_says g f same n [] = refl
changed_says g f same zero (x ∷ xs) = ap (λ y. y ∷ map g xs) (same x)
changed_says g f same (suc n) (x ∷ xs) = by_rest (slice_get xs n) (changed_says g f same n xs)
  where
    by_rest : (o : Option _) → map g (spec.changed_from f o n xs) ≡ map g xs → map g (spec.changed_from f o (suc n) (x ∷ xs)) ≡ g x ∷ map g xs
    by_rest None e = refl
    by_rest (Some y) e = ap (λ ys. g x ∷ ys) e

each_says : {A B : Type 0} (g : A → B) (f : A → A) → ((a : A) → g (f a) ≡ g a) → (n : ℕ) (xs : List A) → map g (spec.changed_each f n xs) ≡ map g xs
each_says g f same n [] = refl
each_says g f same zero (x ∷ xs) = ap (λ y. y ∷ map g (spec.changed_each f zero xs)) (same x) ∙ ap (λ ys. g x ∷ ys) (each_says g f same zero xs)
each_says g f same (suc n) (x ∷ xs) = ap (λ ys. g x ∷ ys) (each_says g f same n xs)

changed_length : {A : Type 0} (f : A → A) (n : ℕ) (xs : List A) → length (spec.changed f n xs) ≡ length xs
changed_length f n [] = refl
changed_length f zero (x ∷ xs) = refl
changed_length f (suc n) (x ∷ xs) = by_rest (slice_get xs n) (changed_length f n xs)
  where
    by_rest : (o : Option _) → length (spec.changed_from f o n xs) ≡ length xs → length (spec.changed_from f o (suc n) (x ∷ xs)) ≡ suc (length xs)
    by_rest None e = refl
    by_rest (Some y) e = ap suc e

pub each_length : {A : Type 0} (f : A → A) (n : ℕ) (xs : List A) → length (spec.changed_each f n xs) ≡ length xs
each_length f n [] = refl
each_length f zero (x ∷ xs) = ap suc (each_length f zero xs)
each_length f (suc n) (x ∷ xs) = ap suc (each_length f n xs)

-- States -----------------------------------------------------------------------------------------

record Alike (s t : States) : Type 0 where
  operations : map operations_in t.records ≡ map operations_in s.records
  accesses : map unfrozen t.accesses ≡ map unfrozen s.accesses

alike_self : (s : States) → Alike s s
alike_self s = record { operations = refl; accesses = refl }

alike_further : (s t u : States) → Alike s t → Alike t u → Alike s u
alike_further s t u h i = record { operations = i.operations ∙ h.operations; accesses = i.accesses ∙ h.accesses }

freeze_alike : (t : Ty) (s : States) → Alike s (spec.freeze t s)
freeze_alike (ty.Record t) s = record { operations = changed_says operations_in spec.frozen_record (λ r. refl) t s.records; accesses = refl }
freeze_alike (ty.Access a) s = record { operations = refl; accesses = changed_says unfrozen spec.frozen_access (λ r. refl) a s.accesses }
freeze_alike ty.Integer s = alike_self s
freeze_alike ty.Count s = alike_self s
freeze_alike ty.Boolean s = alike_self s
freeze_alike ty.Address s = alike_self s
freeze_alike ty.Handle s = alike_self s

initialize_alike : (t : Ty) (s : States) → Alike s (spec.initialize t s)
initialize_alike (ty.Record t) s = record { operations = changed_says operations_in spec.initialized_record (λ r. refl) t s.records; accesses = refl }
initialize_alike (ty.Access a) s = alike_self s
initialize_alike ty.Integer s = alike_self s
initialize_alike ty.Count s = alike_self s
initialize_alike ty.Boolean s = alike_self s
initialize_alike ty.Address s = alike_self s
initialize_alike ty.Handle s = alike_self s

deed_alike : (d : Deed) (s : States) → Alike s (spec.do_deed d s)
deed_alike (Freezes t) s = freeze_alike t s
deed_alike (Initializes t) s = initialize_alike t s
deed_alike (Creates t) s = alike_self s
deed_alike (Allocates a) s = alike_self s
deed_alike (Calls n) s = alike_self s

done_alike : (is_new : Bool) (d : Deed) (s : States) → Alike s (spec.done_if is_new d s)
done_alike true d s = deed_alike d s
done_alike false d s = alike_self s

in_turn_alike : (rs : List RecordEntry) (n : ℕ) (ds : List Deed) (s : States) → Alike s (spec.done_in_turn rs n ds s)
in_turn_alike rs zero ds s = alike_self s
in_turn_alike rs (suc n) [] s = alike_self s
in_turn_alike rs (suc n) (d ∷ ds) s =
    let new = spec.is_new s d in
    let next = spec.done_if new d s in
    let more = ds ++ spec.added rs new d in
    alike_further s next (spec.done_in_turn rs n more next) (done_alike new d s) (in_turn_alike rs n more next)

counted_alike : (t : ℕ) (o : Option RecordEntry) (s : States) → Alike s (spec.counted_from t o (slice_get s.records t) s)
counted_alike t None s = alike_self s
counted_alike t (Some r) s = record { operations = set_says s.records t; accesses = by_state (slice_get s.records t) }
  where
    by_state : (p : Option RecordState) → map unfrozen (spec.counted_from t (Some r) p s).accesses ≡ map unfrozen s.accesses
    by_state None = refl
    by_state (Some q) = refl

    put : Option RecordState → ℕ → List RecordState → List RecordState
    put None n xs = xs
    put (Some q) n xs = slice_set xs n (record q { called = spec.called_of s r q })

    put_next : (o : Option RecordState) (n : ℕ) (x : RecordState) (xs : List RecordState) → map operations_in (put o n xs) ≡ map operations_in xs → map operations_in (put o (suc n) (x ∷ xs)) ≡ map operations_in (x ∷ xs)
    put_next None n x xs e = refl
    put_next (Some q) n x xs e = ap (λ ys. operations_in x ∷ ys) e

    put_says : (xs : List RecordState) (n : ℕ) → map operations_in (put (slice_get xs n) n xs) ≡ map operations_in xs
    put_says [] n = refl
    put_says (x ∷ xs) zero = refl
    put_says (x ∷ xs) (suc n) = put_next (slice_get xs n) n x xs (put_says xs n)

    put_is : (o : Option RecordState) → (spec.counted_from t (Some r) o s).records ≡ put o t s.records
    put_is None = refl
    put_is (Some q) = refl

    set_says : (xs : List RecordState) (n : ℕ) → map operations_in (spec.counted_from t (Some r) (slice_get s.records t) s).records ≡ map operations_in s.records
    set_says xs n = ap (λ ys. map operations_in ys) (put_is (slice_get s.records t)) ∙ put_says s.records t

up_alike : (rs : List RecordEntry) (n t : ℕ) (s : States) → Alike s (spec.counted_up rs n t s)
up_alike rs zero t s = alike_self s
up_alike rs (suc n) t s = let next = spec.counted rs t s in alike_further s next (spec.counted_up rs n (suc t) next) (counted_alike t (slice_get rs t) s) (up_alike rs n (suc t) next)

-- Collections (7.6.1(11)) ----------------------------------------------------------------------------

drop_read : {A : Type 0} (first : ℕ) (xs : List A) (i : ℕ) → slice_get (drop first xs) i ≡ slice_get xs (first + i)
drop_read zero xs i = let same : 0 + i ≡ i = omega arith in ap (λ n. slice_get xs n) (sym same)
drop_read (suc first) [] i = refl
drop_read (suc first) (x ∷ xs) i = let same : suc first + i ≡ suc (first + i) = omega arith in drop_read first xs i ∙ ap (λ n. slice_get (x ∷ xs) n) (sym same)

module _ (k : Setting) (env : Frames) (level : ℕ) where
  -- what is to be known of an access type of this level
  pub record Gathered (n : ℕ) : Type 0 where
    pub has : HasAccess k env n
    pub deep : has.is.collection.level ≡ length env
    pub names : Names env has.is.collection (Collection n)

  gathers : (n : ℕ) (as' : List AccessEntry) → ((i : ℕ) (x : AccessEntry) → slice_get as' i ≡ Some x → x.level ≡ level → Gathered (n + i)) → Gathers k env (spec.unplaced level n as')
  gathers n [] h = rule.no_more_collections
  gathers n (a ∷ as') h = by_test (spec.is_frozen a.freezing) (nat_eq a.level level) refl (gathers (n + 1) as' (λ i x e l. let same : n + suc i ≡ (n + 1) + i = omega arith in subst Gathered same (h (suc i) x e l)))
    where
      by_test : (b c : Bool) → nat_eq a.level level ≡ c → Gathers k env (spec.unplaced level (n + 1) as') → Gathers k env (if b && c then n ∷ spec.unplaced level (n + 1) as' else spec.unplaced level (n + 1) as')
      by_test true true e more =
          let same : a.level ≡ level = grind (arith, nat_tests) in
          let zero' : n + 0 ≡ n = omega arith in
          let g = subst Gathered zero' (h 0 a refl same) in
          rule.one_more_collection g.has g.deep g.names more
      by_test true false e more = more
      by_test false c e more = more

layer_right : (k : Setting) (env : Frames) (as' : List ℕ) → Gathers k env as' → ElaboratedEach k env (spec.layer as')
layer_right k env [] h = rule.no_more_items
layer_right k env (a ∷ as') h = rule.one_more_item (rule.collections h) rule.no_more_items

-- a collection whose type is of the level of the master stands there
gathered_at : (a : Around) (s : Site) (i : IsHere s (here a)) (d : Draft) (f : Front s d) (n : ℕ) (x : AccessEntry) → s.first ≤ n → slice_get d.tables.states.accesses n ≡ Some x → x.level ≡ a.level → Gathered s.k (around_site s) a.level n
gathered_at a s i d f n x first found level =
    let q = f.known.accesses n x found in
    let l1 = q.own_level in
    let l2 = i.level in
    let same : around_site s ≡ q.home = encloses_all (around_site s) q.home (f.inner n q.home first (access_below d.tables.states.accesses n x found) q.at_home) (omega (arith, l1, l2, level)) in
    let names = subst (λ v. Names q.home v (Collection n)) (sym q.collection) q.names in
    let deep : q.is.collection.level ≡ length q.home = ap (λ v. v.level) q.collection ∙ q.level in
    record {
      has = record { is = q.is; home = q.home; found = q.found; at_home = q.at_home; encloses = subst (λ e. Encloses e (around_site s)) same (encloses_self (around_site s)) };
      deep = deep ∙ ap length (sym same);
      names = subst (λ e. Names e q.is.collection (Collection n)) (sym same) names;
    }

-- the layers that stand before are right, and nothing is declared
pub record Quiet (a : Around) (d : Draft) (r : List Checked_item × Draft) : Type 0 where
  pub layers : (s : Site) → IsHere s (here a) → Front s d → ElaboratedEach s.k (around_site s) r.0
  pub still : Still d r.1

placed_quiet : (around : Around) (d : Draft) → Quiet around d (spec.placed around d)
placed_quiet around d = record {
  layers = λ s i f. layer_right s.k (around_site s) (spec.unplaced around.level around.first_access (drop around.first_access d.tables.states.accesses))
      (gathers s.k (around_site s) around.level around.first_access (drop around.first_access d.tables.states.accesses) (λ j x e l.
      let past : s.first ≤ around.first_access + j = let first = i.first in omega (arith, first) in
      gathered_at around s i d f (around.first_access + j) x past (sym (drop_read around.first_access d.tables.states.accesses j) ∙ e) l));
  still = still_states d _ refl (each_says unfrozen spec.placed_access (λ r. refl) around.first_access d.tables.states.accesses);
}

quiet_behind : (around : Around) (s : States) (d : Draft) → Alike d.tables.states s → Quiet around d (spec.placed around (spec.with_states s d))
quiet_behind around s d a =
    let q = placed_quiet around (spec.with_states s d) in
    let still = still_states d s a.operations a.accesses in
    record { layers = λ t i f. q.layers t i (front_still t d (spec.with_states s d) still f); still = still_further d (spec.with_states s d) (spec.placed around (spec.with_states s d)).1 still q.still }

pub done_quiet : (around : Around) (ds : List Deed) (d : Draft) → Quiet around d (spec.done_by around ds d)
done_quiet around ds d = by_test (spec.are_new d.tables.states ds)
  where
    done : States
    done = spec.all_done d.tables.records ds d.tables.states

    by_test : (b : Bool) → Quiet around d (if b then spec.placed around (spec.with_states done d) else ([], d))
    by_test true = quiet_behind around done d (in_turn_alike d.tables.records (2 ^ 64 - 1) ds d.tables.states)
    by_test false = record { layers = λ s i f. rule.no_more_items; still = still_self d }

pub freeze_all_quiet : (around : Around) (d : Draft) → Quiet around d (spec.freeze_all around d)
freeze_all_quiet around d = quiet_behind around (spec.all_frozen around d.tables.states) d
    (record { operations = each_says operations_in spec.frozen_record (λ r. refl) around.first_record d.tables.states.records; accesses = each_says unfrozen spec.frozen_access (λ r. refl) around.first_access d.tables.states.accesses })

pub end_still : (around : Around) (waiting : ℕ) (d : Draft) → Still d (spec.end_of_part around waiting d)
end_still around waiting d =
    let s = spec.all_counted around d.tables.records d.tables.states in
    let counted = up_alike d.tables.records (length d.tables.records - around.first_record) around.first_record d.tables.states in
    let e = spec.with_states s d in
    still_further d e (spec.end_of_part around waiting d) (still_states d s counted.operations counted.accesses) (still_noted e e.returning e.waiting (spec.early_notes around e.tables.states (drop waiting e.waiting) e.notes))
