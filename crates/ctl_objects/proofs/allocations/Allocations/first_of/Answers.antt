use Rattle.std.proofs.Common.{◌≡◌, ◌∙◌, ℕ, Option, None, Some, IfNone, IfSome, IsNone, true, false, ap, subst, sym}
use Rattle.std.specs.Prelude.{not}
use Rattle.owned_numbers.specs.Owned.{owns}
use Rattle.ctl_meaning.specs.Lists.{keep}
use Rattle.ctl_meaning.specs.Objects.{is_of_set}
use Rattle.ctl_storage.specs.Allocated.{is_member}
use Rattle.ctl_objects.specs.Stock.{Stock}
use Rattle.ctl_objects.proofs.Listed.{all_outside, no_member}
use Rattle.ctl_objects.proofs.allocations.Allocations.first_of.Goals as goal

each : (r : Option ℕ) (P Q : ℕ → Type 0) → ((n : ℕ) → P n → Q n) → IfSome r P → IfSome r Q
each None P Q f h = h
each (Some n) P Q f h = f n h

where_none : (r : Option ℕ) (P : Type 0) → IfNone r P → IsNone r → P
where_none None P h none = h
where_none (Some n) P h none = absurd (cc)

pub returns-clause-some : goal.returns-clause-some
returns-clause-some c =
    let s = c.self.inside in
    let set = c.args.set in
    each c.any_of.result (λ n. owns set n s.sets ≡ true) (λ n. is_member set n c.args.self.now.objects ≡ true) (λ n listed.
    ap (λ (v : Stock). is_member set n v.objects) (sym c.self.view_is) ∙ (sym (c.self.invariant.listed.members set n) ∙ listed)) c.any_of.ensures.some

pub returns-clause-none : goal.returns-clause-none
returns-clause-none c = λ none.
    let s = c.self.inside in
    let set = c.args.set in
    subst (λ (v : Stock). v.objects ≡ keep (λ o. not (is_of_set set o.origin)) v.objects) c.self.view_is
    (all_outside s.objects.objects set c.self.invariant.listed.rise (no_member s.objects.objects s.sets set c.self.invariant.listed (where_none c.any_of.result ((n : ℕ) → owns set n s.sets ≡ false) c.any_of.ensures.none none)))
