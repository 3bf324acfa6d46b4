-- How the masters of the ledger change, and what of it concerns one master (7.6.1).
use Rattle.std.specs.Prelude.{◌≡◌, ℕ, ◌<◌, List, [], ◌∷◌, Some, Bool, true, false, not, nat_eq, if◌then◌else◌}
use Rattle.std.proofs.Common.{refl, sym, ap, ◌∙◌, arith, eqb-true, eq-eqb, inl}
use Rattle.ctl_meaning.specs.World.{Layer, Master, Slot, World}
use Rattle.ctl_meaning.specs.Lists.{first_with, keep, change_each}
use Rattle.ctl_meaning.specs.Ledger.{master_at, enter_master, with_layer, push_layer, without_newest, drop_layer, drop_master}
use Rattle.ctl_meaning.specs.Changes.{forget_all, open_master, close_master, add_layer, take_layer}
use Rattle.ctl_orderly.proofs.Edits.{Edits, Numbered, kept_listed}

abbrev numbered : ℕ → Master → Bool
numbered n x = nat_eq x.number n

different : (a m : ℕ) → (a ≡ m → ⊥) → nat_eq a m ≡ false
different a m off = go (nat_eq a m) refl
  where
    go : (b : Bool) → nat_eq a m ≡ b → b ≡ false
    go true e = absurd (off (eqb-true a m e))
    go false e = refl

-- Another master is found as before ------------------------------------------------------------------

changed_if : (b c : Bool) (f : Master → Master) (x : Master) (m : ℕ) (xs ys : List Master) → ((y : Master) → (f y).number ≡ y.number) → nat_eq x.number m ≡ b → (b ≡ true → c ≡ false) → first_with (numbered m) ys ≡ first_with (numbered m) xs → first_with (numbered m) ((if c then f x else x) ∷ ys) ≡ first_with (numbered m) (x ∷ xs)
unfolding first_with
changed_if true true f x m xs ys h e off rest = absurd (cc (off refl))
changed_if true false f x m xs ys h e off rest = ap (λ b. if b then Some x else first_with (numbered m) ys) e ∙ sym (ap (λ b. if b then Some x else first_with (numbered m) xs) e)
changed_if false true f x m xs ys h e off rest = ap (λ n. if nat_eq n m then Some (f x) else first_with (numbered m) ys) (h x) ∙ ap (λ b. if b then Some (f x) else first_with (numbered m) ys) e ∙ rest ∙ sym (ap (λ b. if b then Some x else first_with (numbered m) xs) e)
changed_if false false f x m xs ys h e off rest = ap (λ b. if b then Some x else first_with (numbered m) ys) e ∙ rest ∙ sym (ap (λ b. if b then Some x else first_with (numbered m) xs) e)

changed_other : (i m : ℕ) (f : Master → Master) → ((y : Master) → (f y).number ≡ y.number) → (m ≡ i → ⊥) → (xs : List Master) → first_with (numbered m) (change_each (numbered i) f xs) ≡ first_with (numbered m) xs
unfolding change_each
changed_other i m f h off [] = refl
changed_other i m f h off (x ∷ xs) = changed_if (nat_eq x.number m) (nat_eq x.number i) f x m xs _ h refl (λ e. different x.number i (λ s. off (sym (eqb-true x.number m e) ∙ s))) (changed_other i m f h off xs)

kept_if : (b c : Bool) (x : Master) (m : ℕ) (xs ys : List Master) → nat_eq x.number m ≡ b → (b ≡ true → c ≡ false) → first_with (numbered m) ys ≡ first_with (numbered m) xs → first_with (numbered m) (if not c then x ∷ ys else ys) ≡ first_with (numbered m) (x ∷ xs)
unfolding first_with
kept_if true true x m xs ys e off rest = absurd (cc (off refl))
kept_if true false x m xs ys e off rest = ap (λ b. if b then Some x else first_with (numbered m) ys) e ∙ sym (ap (λ b. if b then Some x else first_with (numbered m) xs) e)
kept_if false true x m xs ys e off rest = rest ∙ sym (ap (λ b. if b then Some x else first_with (numbered m) xs) e)
kept_if false false x m xs ys e off rest = ap (λ b. if b then Some x else first_with (numbered m) ys) e ∙ rest ∙ sym (ap (λ b. if b then Some x else first_with (numbered m) xs) e)

kept_other : (i m : ℕ) → (m ≡ i → ⊥) → (xs : List Master) → first_with (numbered m) (keep (λ x. not (nat_eq x.number i)) xs) ≡ first_with (numbered m) xs
unfolding keep
kept_other i m off [] = refl
kept_other i m off (x ∷ xs) = kept_if (nat_eq x.number m) (nat_eq x.number i) x m xs _ refl (λ e. different x.number i (λ s. off (sym (eqb-true x.number m e) ∙ s))) (kept_other i m off xs)

-- One master that is found ------------------------------------------------------------------------------

pushed_if : (b : Bool) (f : Master → Master) (x y : Master) (m : ℕ) (xs ys : List Master) → ((z : Master) → (f z).number ≡ z.number) → nat_eq x.number m ≡ b → (if b then Some x else first_with (numbered m) xs) ≡ Some y → (first_with (numbered m) xs ≡ Some y → first_with (numbered m) ys ≡ Some (f y)) → first_with (numbered m) ((if b then f x else x) ∷ ys) ≡ Some (f y)
unfolding first_with
pushed_if true f x y m xs ys h e is rest = ap (λ n. if nat_eq n m then Some (f x) else first_with (numbered m) ys) (h x) ∙ ap (λ b. if b then Some (f x) else first_with (numbered m) ys) e ∙ ap (λ z. Some (f z)) (cc is)
pushed_if false f x y m xs ys h e is rest = ap (λ b. if b then Some x else first_with (numbered m) ys) e ∙ rest is

pushed : (m : ℕ) (f : Master → Master) → ((z : Master) → (f z).number ≡ z.number) → (xs : List Master) (y : Master) → first_with (numbered m) xs ≡ Some y → first_with (numbered m) (change_each (numbered m) f xs) ≡ Some (f y)
unfolding first_with change_each
pushed m f h [] y is = absurd (cc)
pushed m f h (x ∷ xs) y is = pushed_if (nat_eq x.number m) f x y m xs (change_each (numbered m) f xs) h refl is (pushed m f h xs y)

same_number : (x : Layer) (y : Master) → (with_layer x y).number ≡ y.number
unfolding with_layer
same_number x y = refl

newest_number : (y : Master) → (without_newest y).number ≡ y.number
unfolding without_newest
newest_number y = refl

-- Changes of the world -------------------------------------------------------------------------------------

-- a further layer of a master
pub layer_added : (m : ℕ) (x : Layer) (w : World) (y : Master) → master_at m w.ledger ≡ Some y → master_at m (add_layer m x w).ledger ≡ Some (with_layer x y)
unfolding add_layer push_layer master_at
layer_added m x w y is = pushed m (with_layer x) (same_number x) w.ledger.masters y is

-- a master that is entered has no layers
pub master_entered : (display : List ℕ) (slots : List Slot) (w : World) → master_at w.ledger.next_master (open_master display slots w).ledger ≡ Some (record { number = w.ledger.next_master; layers = [] })
unfolding open_master enter_master master_at first_with
master_entered display slots w = ap (λ b. if b then Some (record { number = w.ledger.next_master; layers = [] }) else first_with (numbered w.ledger.next_master) w.ledger.masters) (eq-eqb w.ledger.next_master w.ledger.next_master refl)

below_not : (i m : ℕ) → i < m → i ≡ m → ⊥
below_not i m lt e = absurd (omega arith)

pub edit_layer : (m : ℕ) (x : Layer) (w : World) → Numbered w → Edits m w (add_layer m x w)
unfolding add_layer push_layer master_at
edit_layer m x w n = record { next = omega arith; next_master = omega arith; layers = λ i lt. changed_other m i (with_layer x) (same_number x) (below_not i m lt) w.ledger.masters; objects = λ o l. inl (o, l, refl, refl, λ s. s); numbers = n }

pub edit_takes : (m : ℕ) (w : World) → Numbered w → Edits m w (take_layer m w)
unfolding take_layer drop_layer master_at
edit_takes m w n = record { next = omega arith; next_master = omega arith; layers = λ i lt. changed_other m i without_newest newest_number (below_not i m lt) w.ledger.masters; objects = λ o l. inl (o, l, refl, refl, λ s. s); numbers = n }

pub edit_closes : (m : ℕ) (w : World) → Numbered w → Edits m w (close_master m w)
unfolding close_master forget_all drop_master master_at
edit_closes m w n = record { next = omega arith; next_master = omega arith; layers = λ i lt. kept_other m i (below_not i m lt) w.ledger.masters; objects = λ o l. inl (o, kept_listed _ w.objects o l, refl, refl, λ s. s); numbers = λ o l. n o (kept_listed _ w.objects o l) }

entered_other : (next m : ℕ) (y : Master) (xs : List Master) → m < next → y.number ≡ next → first_with (numbered m) (y ∷ xs) ≡ first_with (numbered m) xs
unfolding first_with
entered_other next m y xs lt e = ap (λ b. if b then Some y else first_with (numbered m) xs) (different y.number m (λ s. below_not m next lt (sym s ∙ e)))

pub edit_opens : (display : List ℕ) (slots : List Slot) (w : World) → Numbered w → Edits w.ledger.next_master w (open_master display slots w)
unfolding open_master enter_master master_at
edit_opens display slots w n = record { next = omega arith; next_master = omega arith; layers = λ i lt. entered_other w.ledger.next_master i _ w.ledger.masters lt refl; objects = λ o l. inl (o, l, refl, refl, λ s. s); numbers = n }
