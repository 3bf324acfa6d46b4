-- Whether an object that was created may join its collection, by what is known of it.
use Rattle.std.proofs.Common.{◌≡◌, ℕ, List, Option, Some, None, true, false, refl, sym, ap, ◌∙◌, subst}
use Rattle.std.specs.Prelude.{◌&&◌, is_some, not}
use Rattle.std.specs.Option.{option_map}
use Rattle.ctl_meaning.specs.Allocation.{is_new, set_of}
use Rattle.ctl_meaning.specs.Ledger.{opened_ledger}
use Rattle.ctl_meaning.specs.Objects.{is_untouched, object_in}
use Rattle.ctl_meaning.specs.World.{Collection, Declared, Object, Origin, World}
use Rattle.ctl_storage.specs.declared.existing.Place.{Place}
use Rattle.ctl_objects.specs.declared.existing.Existing.{Existing}
use Rattle.ctl_objects.specs.declared.existing.Origin.TheVariants as OriginOf
use Rattle.ctl_objects.specs.Existing.{IsKnown, bare, known, origin_of}
use Rattle.ctl_storage.specs.Stages.{state_of}
use Rattle.ctl_code.specs.declared.code.Code.{Code}
use Rattle.ctl_code.specs.States as T
use Rattle.ctl_code.specs.States.{Word}
use Rattle.ctl_frames.specs.declared.frame.Owned.{Owned}
use Rattle.ctl_engine.specs.Allocating.{MayJoin}
use Rattle.ctl_frames.specs.Owned.{collection_of, set_in, sets_owned}
use Rattle.ctl_engine.specs.Shows.{Holds, Kept}
use Rattle.ctl_engine.proofs.Owned.{object_shown}

-- what is known of an object that is there
pub known_there : (n : ℕ) (x : Existing) (os : List Object) → IsKnown n (Some x) os → (o : Object) × (object_in n os ≡ Some o) × (bare o ≡ known n x)
known_there n x os h = by (object_in n os) refl h
  where
    by : (o : Option Object) → object_in n os ≡ o → Some (known n x) ≡ option_map bare o → (o : Object) × (object_in n os ≡ Some o) × (bare o ≡ known n x)
    by None is k = absurd (cc)
    by (Some o) is k = (o, is, cc)

-- nothing is known of it
pub none_known : (n : ℕ) (os : List Object) → IsKnown n None os → object_in n os ≡ None
none_known n os h = by (object_in n os) refl h
  where
    by : (x : Option Object) → object_in n os ≡ x → None ≡ option_map bare x → object_in n os ≡ None
    by None is k = is
    by (Some o) is k = absurd (cc)

pub unknown_joins : (code : Code) (e : Kept) (n : ℕ) (k : List T.Frame) (ops : List Word) (w : World) → Holds code e k ops w → IsKnown n None e.objects → MayJoin n w → ⊥
unknown_joins code e n k ops w h unknown may =
    let there : Some may.object ≡ None = sym may.found ∙ (object_shown code e k ops w n h ∙ none_known n e.objects unknown) in
    absurd (cc)

-- it is declared
of_no_set : (z : Origin) (m : ℕ) (w : World) (c : Collection) → z ≡ Declared m → set_of z w ≡ Some c → ⊥
unfolding set_of
of_no_set z m w c is there = let none : set_of (Declared m) w ≡ Some c = subst (λ (x : Origin). set_of x w ≡ Some c) is there in absurd (cc)

-- an object that may join is the one that is known
as_known : (code : Code) (e : Kept) (n : ℕ) (x : Existing) (k : List T.Frame) (ops : List Word) (w : World) → Holds code e k ops w → IsKnown n (Some x) e.objects → (may : MayJoin n w) → bare may.object ≡ known n x
as_known code e n x k ops w h knows may =
    let there = known_there n x e.objects knows in
    let both : Some may.object ≡ Some there.0 = sym may.found ∙ (object_shown code e k ops w n h ∙ there.1) in
    let same : may.object ≡ there.0 = cc in
    ap bare same ∙ there.2

pub declared_joins : (code : Code) (e : Kept) (n m : ℕ) (x : Existing) (k : List T.Frame) (ops : List Word) (w : World) → Holds code e k ops w → IsKnown n (Some x) e.objects → x.origin ≡ OriginOf.Declared m → MayJoin n w → ⊥
declared_joins code e n m x k ops w h knows is may =
    of_no_set may.object.origin m w may.collection (ap (λ (o : Object). o.origin) (as_known code e n x k ops w h knows may) ∙ ap origin_of is) may.stands

-- it is allocated
bare_new : (o : Object) → is_new (bare o) ≡ is_new o
unfolding is_new
bare_new o = refl

known_new : (n : ℕ) (x : Existing) → is_new (known n x) ≡ (is_untouched (state_of x.stage.life) && not x.stage.has_joined)
unfolding is_new
known_new n x = refl

-- its collection, among what is owned
collection_there : (code : Code) (e : Kept) (c : ℕ) (place : Place) (z : Origin) (k : List T.Frame) (ops : List Word) (w : World) → Holds code e k ops w → z ≡ origin_of (OriginOf.Allocated c place) → set_of z w ≡ set_in c (sets_owned e.owned)
unfolding set_of opened_ledger
collection_there code e c place z k ops w h is = ap (λ (y : Origin). set_of y w) is ∙ ap (set_in c) h.collections

-- it is a new one, and its collection stands
pub allocated_joins : (code : Code) (e : Kept) (n c : ℕ) (place : Place) (x : Existing) (set : Option Owned) (k : List T.Frame) (ops : List Word) (w : World) → Holds code e k ops w → IsKnown n (Some x) e.objects → x.origin ≡ OriginOf.Allocated c place
    → (is_untouched (state_of x.stage.life) && not x.stage.has_joined) ≡ true → option_map collection_of set ≡ set_in c (sets_owned e.owned) → is_some set ≡ true → MayJoin n w
allocated_joins code e n c place x None k ops w h knows is new found some = absurd (cc)
allocated_joins code e n c place x (Some o) k ops w h knows is new found some =
    let there = known_there n x e.objects knows in
    record {
      object = there.0;
      collection = collection_of o;
      found = object_shown code e k ops w n h ∙ there.1;
      stands = collection_there code e c place there.0.origin k ops w h (ap (λ (z : Object). z.origin) there.2 ∙ ap origin_of is) ∙ sym found;
      new = sym (bare_new there.0) ∙ (ap is_new there.2 ∙ (known_new n x ∙ new));
    }

-- it is no new one
pub old_joins : (code : Code) (e : Kept) (n : ℕ) (x : Existing) (k : List T.Frame) (ops : List Word) (w : World) → Holds code e k ops w → IsKnown n (Some x) e.objects → (is_untouched (state_of x.stage.life) && not x.stage.has_joined) ≡ false → MayJoin n w → ⊥
old_joins code e n x k ops w h knows old may =
    let both : true ≡ false = sym may.new ∙ (sym (bare_new may.object) ∙ (ap is_new (as_known code e n x k ops w h knows may) ∙ (known_new n x ∙ old))) in
    absurd (cc)

-- its collection is gone
pub without_set_joins : (code : Code) (e : Kept) (n c : ℕ) (place : Place) (x : Existing) (set : Option Owned) (k : List T.Frame) (ops : List Word) (w : World) → Holds code e k ops w → IsKnown n (Some x) e.objects → x.origin ≡ OriginOf.Allocated c place
    → option_map collection_of set ≡ set_in c (sets_owned e.owned) → is_some set ≡ false → MayJoin n w → ⊥
without_set_joins code e n c place x (Some o) k ops w h knows is found none may = absurd (cc)
without_set_joins code e n c place x None k ops w h knows is found none may =
    let gone : set_of may.object.origin w ≡ None = collection_there code e c place may.object.origin k ops w h (ap (λ (o : Object). o.origin) (as_known code e n x k ops w h knows may) ∙ ap origin_of is) ∙ sym found in
    let both : Some may.collection ≡ None = sym may.stands ∙ gone in
    absurd (cc)
