use Rattle.std.proofs.Common.{◌≡◌, ℕ, Option, Some, None, IfNone, IfSome, true, false, sym, ap, ◌∙◌}
use Rattle.owned_numbers.specs.declared.newest.Newest.{Newest}
use Rattle.owned_numbers.specs.Owned.{Owned, owns, with_newest}
use Rattle.owned_numbers.proofs.Apart.{none_there, other_there, own_there}
use Rattle.owned_numbers.proofs.owned.OwnedNumbers.any_of.Goals as goal

pub returns-in-Some-clause-some : goal.returns-in-Some-clause-some
returns-in-Some-clause-some c =
    let s = c.self.inside in
    let p = c.args.owner in
    let n = c.in-Some.number in
    ap (λ (o : Owned). owns p n o) (sym c.self.view_is) ∙ ap (λ (a : Newest). owns p n (with_newest a s.others)) c.in-Some.ensures.some ∙ own_there s.others p n

each : (r : Option ℕ) (P Q : ℕ → Type 0) → ((n : ℕ) → P n → Q n) → IfSome r P → IfSome r Q
each None P Q f h = h
each (Some n) P Q f h = f n h

where_none : (r : Option ℕ) (P Q : Type 0) → (P → Q) → IfNone r P → IfNone r Q
where_none None P Q f h = f h
where_none (Some n) P Q f h = h

pub returns-in-None-clause-some : goal.returns-in-None-clause-some
returns-in-None-clause-some c =
    let s = c.self.inside in
    let p = c.args.owner in
    each c.any_of.result (λ n. owns p n s.others ≡ true) (λ n. owns p n c.args.self.now ≡ true) (λ n there.
    ap (λ (o : Owned). owns p n o) (sym c.self.view_is) ∙ other_there s.newest s.others p n c.self.invariant there) c.any_of.ensures.some

pub returns-in-None-clause-none : goal.returns-in-None-clause-none
returns-in-None-clause-none c =
    let s = c.self.inside in
    let p = c.args.owner in
    where_none c.any_of.result ((n : ℕ) → owns p n s.others ≡ false) ((n : ℕ) → owns p n c.args.self.now ≡ false) (λ none n.
    ap (λ (o : Owned). owns p n o) (sym c.self.view_is) ∙ none_there s.newest s.others p c.in-None.ensures.none none n) c.any_of.ensures.none
