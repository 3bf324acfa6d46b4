use Rattle.std.proofs.Common.{◌≡◌, ℕ, zero, suc, ◌+◌, ◌<◌, ◌≤◌, length, Option, true, refl, sym, ap, subst, ◌∙◌, arith}
use Rattle.std.specs.Prelude.{is_some, Result, Ok, Err}
use Rattle.std.specs.Option.{option_map_or}
use Rattle.std.specs.FinMap.{get}
use Rattle.pool_store.specs.declared.fault.StoreFault.{StoreFault}
use Rattle.pool_store.specs.declared.fault.StoreFault.TheVariants.{Gone}
use Rattle.pool_store.specs.Entries.{Stored}
use Rattle.pool_store.specs.Store as store
use Rattle.pool_store.specs.Store.{Store}
use Rattle.pool_store.proofs.Held.{within, gone, is_held_ok, none_copied_from, none_copied_to}
use Rattle.pool_store.proofs.CopyLemmas.{copied_nothing}
use Rattle.pool_store.proofs.store.PoolStore.copy.Goals as goal

-- of two objects that are held neither is gone
both_held : (o p : Option Stored) → is_some o ≡ true → is_some p ≡ true → let r : Result (Unit {0}) StoreFault = Ok tt in r ≡ option_map_or (λ x. option_map_or (λ y. r) p (Err Gone)) o (Err Gone)
both_held o p from to = is_held_ok p (Ok tt) to ∙ is_held_ok o _ from

pub copy_within-requires : goal.copy_within-requires
copy_within-requires g c =
    let a = c.args in
    let some : 0 < a.count = positive a.count c.if-count-eq0.false in
    let to = within (get a.self.now.objects a.to) (a.target + a.count) (sym c.is_held-2.ensures ∙ c.if-not-is_held-2.false) (c.requires.to some) in
    let from = within (get a.self.now.objects a.from) (a.word + a.count) (sym c.is_held.ensures ∙ c.if-not-is_held.false) (c.requires.from some) in
    record { some = some; from = subst (λ n. a.word + a.count ≤ length (store.words_of n a.self.now)) c.if-from-to.true from; to = to }
  where
    positive : (n : ℕ) → (n ≡ 0 → ⊥) → 0 < n
    positive zero not_zero = absurd (not_zero refl)
    positive (suc n) not_zero = omega arith

pub returns-then-count-eq0-clause-store : goal.returns-then-count-eq0-clause-store
returns-then-count-eq0-clause-store g c =
    let a = c.args in
    copied_nothing a.from a.word a.to a.target a.self.now ∙ ap (λ n. store.copied a.from a.word a.to a.target n a.self.now) (sym c.if-count-eq0.true)

pub returns-then-not-is_held-clause-result : goal.returns-then-not-is_held-clause-result
returns-then-not-is_held-clause-result g c = gone (get c.args.self.now.objects c.args.from) _ (sym c.is_held.ensures ∙ c.if-not-is_held.true)

pub returns-then-not-is_held-clause-store : goal.returns-then-not-is_held-clause-store
returns-then-not-is_held-clause-store g c =
    let a = c.args in
    none_copied_from a.self.now a.from a.word a.to a.target a.count (sym c.is_held.ensures ∙ c.if-not-is_held.true)

pub returns-then-not-is_held-2-clause-result : goal.returns-then-not-is_held-2-clause-result
returns-then-not-is_held-2-clause-result g c =
    gone (get c.args.self.now.objects c.args.to) (λ o. Ok tt) (sym c.is_held-2.ensures ∙ c.if-not-is_held-2.true)
    ∙ is_held_ok (get c.args.self.now.objects c.args.from) _ (sym c.is_held.ensures ∙ c.if-not-is_held.false)

pub returns-then-not-is_held-2-clause-store : goal.returns-then-not-is_held-2-clause-store
returns-then-not-is_held-2-clause-store g c =
    let a = c.args in
    none_copied_to a.self.now a.from a.word a.to a.target a.count (sym c.is_held-2.ensures ∙ c.if-not-is_held-2.true)

pub returns-then-count-eq0-clause-result : goal.returns-then-count-eq0-clause-result
returns-then-count-eq0-clause-result g c = both_held (get c.args.self.now.objects c.args.from) (get c.args.self.now.objects c.args.to) (sym c.is_held.ensures ∙ c.if-not-is_held.false) (sym c.is_held-2.ensures ∙ c.if-not-is_held-2.false)

pub returns-then-from-to-clause-result : goal.returns-then-from-to-clause-result
returns-then-from-to-clause-result g c = both_held (get c.args.self.now.objects c.args.from) (get c.args.self.now.objects c.args.to) (sym c.is_held.ensures ∙ c.if-not-is_held.false) (sym c.is_held-2.ensures ∙ c.if-not-is_held-2.false)

pub returns-clause-result : goal.returns-clause-result
returns-clause-result g c = both_held (get c.args.self.now.objects c.args.from) (get c.args.self.now.objects c.args.to) (sym c.is_held.ensures ∙ c.if-not-is_held.false) (sym c.is_held-2.ensures ∙ c.if-not-is_held-2.false)
