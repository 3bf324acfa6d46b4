-- Choices among candidates: which one is taken, and how many are left.
use Rattle.std.proofs.Common.{◌≡◌, ℕ, zero, suc, ◌+◌, ◌<◌, List, [], ◌∷◌, length, Option, Some, None, Bool, true, false, refl, ap, arith}
use Rattle.std.specs.Prelude.{nat_lt, ◌||◌, if◌then◌else◌}
use Rattle.std.proofs.lemmas.Bool.{ltb-true}
use Rattle.ctl_meaning.specs.World.{Log, World}
use Rattle.ctl_meaning.specs.Lists.{pull_item, pull_rest}
use Rattle.ctl_meaning.specs.Choice.{Ask, accepted, noted, picked}
use Rattle.ctl_meaning.specs.Outcome.{Act, Cut, add, after_pick, bind, on_goes, ◌>>=◌, opened_outcome}
use Rattle.ctl_meaning.specs.Types.{Placed}
use Rattle.ctl_meaning.specs.Names.{Tools}
use Rattle.ctl_meaning.specs.Finalization.{in_any_order, no_component}

pub rest_length : {A : Type 0} (i n : ℕ) (xs : List A) → i < length xs → length xs ≡ suc n → length (pull_rest i xs) ≡ n
unfolding pull_rest
rest_length i n [] less e = absurd (omega (arith, less))
rest_length zero n (x ∷ xs) less e = omega (arith, e)
rest_length (suc i) zero (x ∷ xs) less e = absurd (omega (arith, less, e))
rest_length (suc i) (suc n) (x ∷ xs) less e = let rest = rest_length i n xs (omega (arith, less)) (omega (arith, e)) in omega (arith, rest)

-- only a candidate is chosen
pub picked_less : (ask : Ask) (m : ℕ) (l : Log) (p : ℕ × Log) → picked ask (suc m) l ≡ Some p → p.0 < suc m
unfolding picked noted accepted
picked_less ask zero l p e = let same : Some (0, l) ≡ Some p = e in let none : 0 ≡ p.0 = chosen_is 0 l p same in omega (arith, none)
  where
    chosen_is : (q : ℕ) (l1 : Log) (p1 : ℕ × Log) → Some (q, l1) ≡ Some p1 → q ≡ p1.0
    chosen_is q l1 p1 e1 = ap (λ (o : Option (ℕ × Log)). by o) e1
      where
        by : Option (ℕ × Log) → ℕ
        by None = 0
        by (Some x) = x.0
picked_less ask (suc m) l p e = by (ask (length l.taken) (suc (suc m))) e
  where
    chosen_is : (q : ℕ) (l1 : Log) (p1 : ℕ × Log) → Some (q, l1) ≡ Some p1 → q ≡ p1.0
    chosen_is q l1 p1 e1 = ap (λ (o : Option (ℕ × Log)). of o) e1
      where
        of : Option (ℕ × Log) → ℕ
        of None = 0
        of (Some x) = x.0

    tested : (q : ℕ) (b : Bool) → nat_lt q (suc (suc m)) ≡ b → noted (suc (suc m)) (if b then Some q else None) l ≡ Some p → p.0 < suc (suc m)
    tested q true less e1 = let same = chosen_is q _ p e1 in let small = ltb-true q (suc (suc m)) less in omega (arith, same, small)
    tested q false less e1 = absurd (cc)

    by : (o : Option ℕ) → noted (suc (suc m)) (accepted (suc (suc m)) o) l ≡ Some p → p.0 < suc (suc m)
    by None e1 = absurd (cc)
    by (Some q) e1 = tested q (nat_lt q (suc (suc m))) refl e1

-- of parts in an order that is chosen, the next one is what is picked
pub next_in_order : (K : Tools) (f : Placed → Act Bool) (count i c : ℕ) (left : List Placed) (failed : Bool) (l l1 : Log) (w : World) → picked K.ask (suc count) l ≡ Some (i, l1) → in_any_order K f (suc count) left failed c l w ≡ add (suc count + 0) (bind (f (pull_item no_component i left) c l1 w) (on_goes (λ b. in_any_order K f count (pull_rest i left) (failed || b))))
unfolding in_any_order opened_outcome
next_in_order K f count i c left failed l l1 w is = ap (λ x. bind (add (suc count) (after_pick x c l w)) (on_goes (λ j. f (pull_item no_component j left) >>= (λ b. in_any_order K f count (pull_rest j left) (failed || b))))) is

-- and none where the choice is not answered
pub none_in_order : (K : Tools) (f : Placed → Act Bool) (count c : ℕ) (left : List Placed) (failed : Bool) (l : Log) (w : World) → picked K.ask (suc count) l ≡ None → in_any_order K f (suc count) left failed c l w ≡ Cut (suc count + 0) c l
unfolding in_any_order opened_outcome
none_in_order K f count c left failed l w is = ap (λ x. bind (add (suc count) (after_pick x c l w)) (on_goes (λ j. f (pull_item no_component j left) >>= (λ b. in_any_order K f count (pull_rest j left) (failed || b))))) is
