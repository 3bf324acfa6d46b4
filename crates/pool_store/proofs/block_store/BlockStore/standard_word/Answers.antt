use Rattle.std.proofs.Common.{◌≡◌, ℕ, ◌+◌, ◌≤◌, length, Option, Some, None, sym, ap, subst, ◌∙◌, arith}
use Rattle.std.specs.Prelude.{IfSome, Result, Ok}
use Rattle.std.specs.FinMap.{get}
use Rattle.pool_store.specs.declared.entry.Entry.TheVariants.{Standard}
use Rattle.pool_store.specs.declared.fault.StoreFault.{StoreFault}
use Rattle.pool_store.specs.Entries.{Stored}
use Rattle.pool_store.proofs.Steps.{entry_seen}
use Rattle.pool_store.proofs.block_store.BlockStore.standard_word.Goals as goal

pub word-requires : goal.word-requires
word-requires g c =
    let s = c.self.inside in
    let n = c.args.object in
    let here = sym c.in-Some-Standard.ensures ∙ ap (λ e. Some e) c.in-Some-Standard.field-0-is in
    let seen : get c.args.self.now.objects n ≡ Some (record { spot = None; site = None; words = c.in-Some-Standard.words }) =
    sym (ap (λ v. get v.objects n) c.self.view_is) ∙ entry_seen s.objects.values s.blocks.values n (Standard c.in-Some-Standard.words) here in
    let fits : c.args.place + 1 ≤ length c.in-Some-Standard.words = subst (λ (o : Option Stored). IfSome o (λ x. c.args.place + 1 ≤ length x.words)) seen c.requires in
    omega arith

pub returns-in-Some-Standard : goal.returns-in-Some-Standard
returns-in-Some-Standard g c =
    let s = c.self.inside in
    let n = c.args.object in
    let here = sym c.in-Some-Standard.ensures ∙ ap (λ e. Some e) c.in-Some-Standard.field-0-is in
    let seen : get c.args.self.now.objects n ≡ Some (record { spot = None; site = None; words = c.in-Some-Standard.words }) =
    sym (ap (λ v. get v.objects n) c.self.view_is) ∙ entry_seen s.objects.values s.blocks.values n (Standard c.in-Some-Standard.words) here in
    rw seen (ap (λ w. let r : Result ℕ StoreFault = Ok w in r) (sym c.word.ensures))
