-- The candidates of a group: each is a member of an object that is due, and they are in the order of their numbers.
use Rattle.std.proofs.Common.{◌≡◌, refl, sym, ap, subst, inl, inr, ℕ, ◌<◌, List, [], ◌∷◌, map, Bool, true, false, if◌then◌else◌}
use Rattle.ctl_meaning.specs.World.{Object, Member, World}
use Rattle.ctl_meaning.specs.Lists.{keep}
use Rattle.ctl_meaning.specs.Members.{Group, member_of, is_candidate, candidates_of}
use Rattle.ctl_meaning.specs.Types.{Tables}
use Rattle.ctl_meaning.specs.Emptied.{Lists, AllAbove, Ascend, numbers_of, member_numbers, InOrder}

kept_only : {A : Type 0} (p : A → Bool) (x y : A) (b : Bool) (ys kept : List A) → p y ≡ b → (Lists x kept → Lists x ys × (p x ≡ true)) → Lists x (if b then y ∷ kept else kept) → Lists x (y ∷ ys) × (p x ≡ true)
kept_only p x y true ys kept i h (inl j) = (inl j, subst (λ z. p z ≡ true) (sym j) i)
kept_only p x y true ys kept i h (inr j) = (inr (h j).0, (h j).1)
kept_only p x y false ys kept i h j = (inr (h j).0, (h j).1)

keeps_only : {A : Type 0} (p : A → Bool) (xs : List A) (x : A) → Lists x (keep p xs) → Lists x xs × (p x ≡ true)
unfolding keep
keeps_only p [] x h = absurd h
keeps_only p (y ∷ ys) x h = kept_only p x y (p y) ys (keep p ys) refl (keeps_only p ys x) h

maps_only : {A B : Type 0} (f : A → B) (xs : List A) (b : B) → Lists b (map f xs) → (x : A) × Lists x xs × (f x ≡ b)
maps_only f [] b h = absurd h
maps_only f (y ∷ ys) b (inl e) = (y, inl refl, sym e)
maps_only f (y ∷ ys) b (inr h) = let r = maps_only f ys b h in (r.0, inr r.1, r.2)

above_kept_if : (n : ℕ) (b : Bool) (o : Object) (os : List Object) → n < o.number → AllAbove n (numbers_of os) → AllAbove n (numbers_of (if b then o ∷ os else os))
above_kept_if n true o os h i = (h, i)
above_kept_if n false o os h i = i

above_kept : (p : Object → Bool) (n : ℕ) (os : List Object) → AllAbove n (numbers_of os) → AllAbove n (numbers_of (keep p os))
unfolding keep
above_kept p n [] h = tt
above_kept p n (o ∷ os) h = above_kept_if n (p o) o (keep p os) h.0 (above_kept p n os h.1)

ascend_if : (b : Bool) (o : Object) (os : List Object) → AllAbove o.number (numbers_of os) → Ascend (numbers_of os) → Ascend (numbers_of (if b then o ∷ os else os))
ascend_if true o os h i = (h, i)
ascend_if false o os h i = i

pub ascend_kept : (p : Object → Bool) (os : List Object) → Ascend (numbers_of os) → Ascend (numbers_of (keep p os))
unfolding keep
ascend_kept p [] h = tt
ascend_kept p (o ∷ os) h = ascend_if (p o) o (keep p os) (above_kept p o.number os h.0) (ascend_kept p os h.1)

same_numbers : (os : List Object) → member_numbers (map member_of os) ≡ numbers_of os
unfolding member_of
same_numbers [] = refl
same_numbers (o ∷ os) = ap (λ ns. o.number ∷ ns) (same_numbers os)

-- each candidate is the member of an object that is one
pub candidate_of : (k : Tables) (g : Group) (w : World) (m : Member) → Lists m (candidates_of k g w) → (o : Object) × Lists o w.objects × (is_candidate k g o ≡ true) × (member_of o ≡ m)
unfolding candidates_of
candidate_of k g w m h =
    let r = maps_only member_of (keep (is_candidate k g) w.objects) m h in
    let s = keeps_only (is_candidate k g) w.objects r.0 r.1 in
    (r.0, s.0, s.1, r.2)

pub in_order : (k : Tables) (g : Group) (w : World) → InOrder w → Ascend (member_numbers (candidates_of k g w))
unfolding candidates_of
in_order k g w h = subst Ascend (sym (same_numbers (keep (is_candidate k g) w.objects))) (ascend_kept (is_candidate k g) w.objects h.ascend)
