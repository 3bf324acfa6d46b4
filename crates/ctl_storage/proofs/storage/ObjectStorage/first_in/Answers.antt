use Rattle.std.proofs.Common.{◌≡◌, ◌∙◌, Option, None, Some, IfNone, IfSome, IsNone, ap, subst, sym, ℕ, true, false}
use Rattle.owned_numbers.specs.Owned.{owns}
use Rattle.ctl_storage.specs.Calls.{AreOutside, number_lies_in}
use Rattle.ctl_storage.specs.Order.{Rise}
use Rattle.ctl_storage.specs.Storage.{Storage}
use Rattle.ctl_storage.proofs.Kept.{lies_seen, outside_seen}
use Rattle.ctl_storage.proofs.Seen.{rise_seen}
use Rattle.ctl_storage.proofs.storage.ObjectStorage.first_in.Goals as goal

pub returns-clause-rise : goal.returns-clause-rise
returns-clause-rise c = let s = c.self.inside in subst (λ (v : Storage). Rise 0 v.objects) c.self.view_is (rise_seen s.objects.values s.store)

each : (r : Option ℕ) (P Q : ℕ → Type 0) → ((n : ℕ) → P n → Q n) → IfSome r P → IfSome r Q
each None P Q f h = h
each (Some n) P Q f h = f n h

where_none : (r : Option ℕ) (P : Type 0) → IfNone r P → IsNone r → P
where_none None P h none = h
where_none (Some n) P h none = absurd (cc)

pub returns-clause-some : goal.returns-clause-some
returns-clause-some c =
    let s = c.self.inside in
    let n = c.args.number in
    each c.any_of.result (λ k. owns n k s.located ≡ true) (λ k. number_lies_in n k c.args.self.now.objects ≡ true) (λ k listed.
    ap (λ (v : Storage). number_lies_in n k v.objects) (sym c.self.view_is) ∙ (lies_seen s.objects.values s.store n k ∙ (sym (c.self.invariant.listed n k) ∙ listed))) c.any_of.ensures.some

pub returns-clause-none : goal.returns-clause-none
returns-clause-none c = λ none.
    let s = c.self.inside in
    let n = c.args.number in
    let free = where_none c.any_of.result ((k : ℕ) → owns n k s.located ≡ false) c.any_of.ensures.none none in
    subst (λ (v : Storage). AreOutside n v.objects) c.self.view_is
    (outside_seen _ n (λ k. lies_seen s.objects.values s.store n k ∙ (sym (c.self.invariant.listed n k) ∙ free k)))
