-- Access types that wait for a type, once it is complete (3.10.1).
use Rattle.std.proofs.Common.{arith, ◌≡◌, ◌≤◌, ◌<◌, ◌⊎◌, inl, inr, refl, sym, ap, ◌∙◌, subst, ℕ, zero, suc, nat_eq, Bool, true, false, if◌then◌else◌, List, [], ◌∷◌, length, slice_get, Some}
use Rattle.ctl_program.specs.declared.types.Ty.{Ty}
use Rattle.ctl_typing.specs.declared.table.AccessEntry.{AccessEntry}
use Rattle.ctl_typing.specs.declared.table.Designated.{Designated}
use Rattle.ctl_typing.specs.declared.table.Designated.TheVariants as designated
use Rattle.ctl_draft.specs.Freezing.{changed_each}
use Rattle.ctl_access_types.specs.AccessTypes.{completed_designated, completed_access}
use Rattle.ctl_well_typed.specs.Setting.{Frames, Encloses, InView}
use Rattle.ctl_sound.proofs.Growing.{Later, AllLater, later_self}
use Rattle.ctl_sound.proofs.Sites.{Site, around_site, AccessKnown, InAccesses}
use Rattle.ctl_sound.proofs.Fronts.{access_below, in_view_further, one_access}

-- Rows that change from a place on ---------------------------------------------------------------------

pub record ChangedAt {A : Type 0} (f : A → A) (first : ℕ) (xs : List A) (n : ℕ) (y : A) : Type 0 where
  pub from : A
  pub found : slice_get xs n ≡ Some from
  pub how : (y ≡ from) ⊎ ((first ≤ n) × (y ≡ f from))

pub changed_at : {A : Type 0} (f : A → A) (first : ℕ) (xs : List A) (n : ℕ) (y : A) → slice_get (changed_each f first xs) n ≡ Some y → ChangedAt f first xs n y
changed_at f first [] n y e = absurd (cc)
changed_at f zero (x ∷ xs) zero y e = let same : f x ≡ y = cc in record { from = x; found = refl; how = inr (omega arith, sym same) }
changed_at f zero (x ∷ xs) (suc n) y e =
    let g = changed_at f zero xs n y e in
    record { from = g.from; found = g.found; how = elim g.how [ inl h ↦ inl h | inr h ↦ inr (omega arith, h.1) ] }
changed_at f (suc m) (x ∷ xs) zero y e = let same : x ≡ y = cc in record { from = x; found = refl; how = inl (sym same) }
changed_at f (suc m) (x ∷ xs) (suc n) y e =
    let g = changed_at f m xs n y e in
    record { from = g.from; found = g.found; how = elim g.how [ inl h ↦ inl h | inr h ↦ inr (let less = h.0 in omega (arith, less), h.1) ] }

pub changed_later : (f : AccessEntry → AccessEntry) → ((x : AccessEntry) → Later x (f x)) → (first : ℕ) (xs : List AccessEntry) → AllLater xs (changed_each f first xs)
changed_later f h first [] n x e = absurd (cc)
changed_later f h zero (y ∷ xs) zero x e = let same : y ≡ x = cc in record { is = f y; found = refl; later = subst (λ z. Later z (f y)) same (h y) }
changed_later f h zero (y ∷ xs) (suc n) x e = let g = changed_later f h zero xs n x e in record { is = g.is; found = g.found; later = g.later }
changed_later f h (suc m) (y ∷ xs) zero x e = let same : y ≡ x = cc in record { is = y; found = refl; later = subst (λ z. Later z y) same (later_self y) }
changed_later f h (suc m) (y ∷ xs) (suc n) x e = let g = changed_later f h m xs n x e in record { is = g.is; found = g.found; later = g.later }

-- Awaited types ------------------------------------------------------------------------------------------

pub completed_later : (number : ℕ) (t : Ty) (x : AccessEntry) → Later x (completed_access number t x)
completed_later number t x = record { level = refl; collection = refl; designated = λ u e. ap (completed_designated number t) e; pool = λ p e. e }

module _ (s : Site) (number : ℕ) (t : Ty) (first : ℕ) (same_first : first ≡ s.first) (usable : InView s.k (around_site s) t) (xs : List AccessEntry)
    (inner : (n : ℕ) (home : Frames) → s.first ≤ n → n < length xs → slice_get s.k.access_homes n ≡ Some home → Encloses (around_site s) home)
    (known : (a : ℕ) (x : AccessEntry) → slice_get xs a ≡ Some x → AccessKnown s.k a x) where
  designated_usable : (home : Frames) (x : AccessEntry) (w : Designated) → x.designated ≡ w → ((u : Ty) → x.designated ≡ designated.Known u → InView s.k home u) → InView s.k home t → (u : Ty) → completed_designated number t w ≡ designated.Known u → InView s.k home u
  designated_usable home x (designated.Known v) e h g u q = let same : v ≡ u = cc in h u (e ∙ ap designated.Known same)
  designated_usable home x designated.Unclear e h g u q = absurd (cc)
  designated_usable home x (designated.Awaited n place) e h g u q = by_test (nat_eq n number) q
    where
      by_test : (b : Bool) → (if b then designated.Known t else designated.Awaited n place) ≡ designated.Known u → InView s.k home u
      by_test true q = let same : t ≡ u = cc in subst (InView s.k home) same g
      by_test false q = absurd (cc)

  completed_known : (a : ℕ) (x : AccessEntry) → slice_get xs a ≡ Some x → first ≤ a → InAccesses s.k a (completed_access number t x) → AccessKnown s.k a (completed_access number t x)
  completed_known a x e past g =
      let q = known a x e in
      let one = one_access g.is q.is (slice_get s.k.accesses a) g.found q.found in
      let from : s.first ≤ a = omega (arith, past, same_first) in
      let home = in_view_further s.k (around_site s) q.home t (inner a q.home from (access_below xs a x e) q.at_home) usable in
      record {
        is = q.is;
        home = q.home;
        found = q.found;
        at_home = q.at_home;
        collection = q.collection;
        own_level = q.own_level;
        level = q.level;
        names = q.names;
        designated = λ u d. (sym (ap (λ z. z.designated) one) ∙ g.designated u d, designated_usable q.home x x.designated refl (λ v w. (q.designated v w).1) home u d);
        pool = q.pool;
        pooled = q.pooled;
        subpools = q.subpools;
      }

  pub complete_known : ((a : ℕ) (y : AccessEntry) → slice_get (changed_each (completed_access number t) first xs) a ≡ Some y → InAccesses s.k a y) → (a : ℕ) (y : AccessEntry) → slice_get (changed_each (completed_access number t) first xs) a ≡ Some y → AccessKnown s.k a y
  complete_known there a y e =
      let g = changed_at (completed_access number t) first xs a y e in
      elim g.how [
        | inl h ↦ subst (AccessKnown s.k a) (sym h) (known a g.from g.found)
        | inr h ↦ subst (AccessKnown s.k a) (sym h.1) (completed_known a g.from g.found h.0 (subst (InAccesses s.k a) h.1 (there a y e)))
      ]
