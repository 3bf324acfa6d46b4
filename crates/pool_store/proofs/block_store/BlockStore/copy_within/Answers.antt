use Rattle.std.proofs.Common.{◌≡◌, ℕ, ◌+◌, ◌≤◌, length, List, [], Some, refl, sym, ap, subst, ◌∙◌, arith}
use Rattle.std.specs.Option.{option_map}
use Rattle.std.specs.FinMap.{get, insert}
use Rattle.number_map.specs.Table.{change}
use Rattle.number_map.proofs.Mapped.{get_mapped}
use Rattle.pool_area.specs.Lots.{with_words_over, overwritten, run_of}
use Rattle.pool_store.specs.declared.entry.Entry.{Entry}
use Rattle.pool_store.specs.declared.entry.Entry.TheVariants.{Standard, InBlock}
use Rattle.pool_store.specs.Entries.{lot_at, words_in, stored_in, Ties, own_words, with_own_words}
use Rattle.pool_store.specs.Store as store
use Rattle.pool_store.specs.Store.{Store}
use Rattle.pool_store.proofs.Steps.{seen, words_seen, no_words_seen, standard_ties, standard_written, written, spot_is, standard_is, spot_of_entry}
use Rattle.pool_store.proofs.CopyLemmas.{copied_here}
use Rattle.pool_store.proofs.block_store.BlockStore.copy_within.Goals as goal

pub copy_within_at-requires-clause-from : goal.copy_within_at-requires-clause-from
copy_within_at-requires-clause-from g c =
    let s = c.self.inside in
    let n = c.args.object in
    let a = c.args in
    let here = spot_is s.objects.values s.blocks.values n c.in-Some.spot (ap (store.spot_of n) c.self.view_is ∙ sym c.in-Some.ensures) in
    subst (λ (ws : List ℕ). a.word + a.count ≤ length ws) (ap (store.words_of n) (sym c.self.view_is)
    ∙ words_seen s.objects.values s.blocks.values s.given c.self.invariant n (InBlock c.in-Some.spot) here) c.requires.from

pub copy_within_at-requires-clause-to : goal.copy_within_at-requires-clause-to
copy_within_at-requires-clause-to g c =
    let s = c.self.inside in
    let n = c.args.object in
    let a = c.args in
    let here = spot_is s.objects.values s.blocks.values n c.in-Some.spot (ap (store.spot_of n) c.self.view_is ∙ sym c.in-Some.ensures) in
    subst (λ (ws : List ℕ). a.target + a.count ≤ length ws) (ap (store.words_of n) (sym c.self.view_is)
    ∙ words_seen s.objects.values s.blocks.values s.given c.self.invariant n (InBlock c.in-Some.spot) here) c.requires.to

pub copy_within-requires-clause-from : goal.copy_within-requires-clause-from
copy_within-requires-clause-from g c =
    let s = c.self.inside in
    let n = c.args.object in
    let a = c.args in
    let e = c.in-Some-get_mut.entry.now in
    let there = sym c.in-Some-get_mut.ensures.value in
    let outside = sym (spot_of_entry s.objects.values s.blocks.values n e there) ∙ ap (store.spot_of n) c.self.view_is ∙ sym c.spot_of.ensures ∙ c.in_default.is in
    let is = standard_is s.blocks.values e outside in
    subst (λ (ws : List ℕ). a.word + a.count ≤ length ws) (ap (store.words_of n) (sym c.self.view_is)
    ∙ words_seen s.objects.values s.blocks.values s.given c.self.invariant n e there ∙ ap (λ x. (stored_in s.blocks.values x).words) is) c.requires.from

pub copy_within-requires-clause-to : goal.copy_within-requires-clause-to
copy_within-requires-clause-to g c =
    let s = c.self.inside in
    let n = c.args.object in
    let a = c.args in
    let e = c.in-Some-get_mut.entry.now in
    let there = sym c.in-Some-get_mut.ensures.value in
    let outside = sym (spot_of_entry s.objects.values s.blocks.values n e there) ∙ ap (store.spot_of n) c.self.view_is ∙ sym c.spot_of.ensures ∙ c.in_default.is in
    let is = standard_is s.blocks.values e outside in
    subst (λ (ws : List ℕ). a.target + a.count ≤ length ws) (ap (store.words_of n) (sym c.self.view_is)
    ∙ words_seen s.objects.values s.blocks.values s.given c.self.invariant n e there ∙ ap (λ x. (stored_in s.blocks.values x).words) is) c.requires.to

pub unreachable-requires : goal.unreachable-requires
unreachable-requires g c =
    let s = c.self.inside in
    let n = c.args.object in
    let none : store.words_of n c.args.self.now ≡ [] = ap (store.words_of n) (sym c.self.view_is) ∙ no_words_seen s.objects.values s.blocks.values s.given c.self.invariant n (sym c.in_default-get_mut.ensures.value) in
    let long : length (store.words_of n c.args.self.now) ≡ 0 = ap length none in
    omega (arith, c.requires.some, c.requires.from)

pub invariant_of-self : goal.invariant_of-self
invariant_of-self g c =
    let s = c.self.inside in
    let n = c.args.object in
    let a = c.args in
    let x = c.in-Some.spot in
    let here = spot_is s.objects.values s.blocks.values n x (ap (store.spot_of n) c.self.view_is ∙ sym c.in-Some.ensures) in
    let ws : List ℕ = words_in (lot_at x s.blocks.values) in
    let is = written s.objects.values s.blocks.values s.given c.self.invariant n x here (with_words_over a.target (run_of a.word a.count ws)) (λ (l : List ℕ). overwritten a.target (run_of a.word a.count ws) l) (λ h. refl) (λ h. refl) in
    subst (λ b. Ties s.objects.values b s.given) (sym c.copy_within_at.ensures) is.0

pub returns-in-Some : goal.returns-in-Some
returns-in-Some g c =
    let s = c.self.inside in
    let n = c.args.object in
    let a = c.args in
    let x = c.in-Some.spot in
    let here = spot_is s.objects.values s.blocks.values n x (ap (store.spot_of n) c.self.view_is ∙ sym c.in-Some.ensures) in
    let ws : List ℕ = words_in (lot_at x s.blocks.values) in
    let is = written s.objects.values s.blocks.values s.given c.self.invariant n x here (with_words_over a.target (run_of a.word a.count ws)) (λ (l : List ℕ). overwritten a.target (run_of a.word a.count ws) l) (λ h. refl) (λ h. refl) in
    ap (λ b. seen s.objects.values b s.given) c.copy_within_at.ensures ∙ is.1 ∙ ap (λ v. let r : Store = record v { objects = change n (store.with_words (overwritten a.target (run_of a.word a.count ws))) v.objects } in r) c.self.view_is
    ∙ copied_here n a.word a.target a.count c.args.self.now (stored_in s.blocks.values (let e : Entry g.row.A.Denot = InBlock x in e)) (ap (λ v. get v.objects n) (sym c.self.view_is) ∙ get_mapped (stored_in s.blocks.values) s.objects.values n ∙ ap (option_map (stored_in s.blocks.values)) here)

pub invariant_of-self-2 : goal.invariant_of-self-2
invariant_of-self-2 g c =
    let s = c.self.inside in
    let n = c.args.object in
    let a = c.args in
    let e = c.in-Some-get_mut.entry.now in
    let there = sym c.in-Some-get_mut.ensures.value in
    let outside = sym (spot_of_entry s.objects.values s.blocks.values n e there) ∙ ap (store.spot_of n) c.self.view_is ∙ sym c.spot_of.ensures ∙ c.in_default.is in
    let is = standard_is s.blocks.values e outside in
    let ws = own_words e in
    let new = c.copy_within.ensures ∙ ap (λ y. with_own_words (λ (l : List ℕ). overwritten a.target (run_of a.word a.count l) l) y) is in
    subst (λ y. Ties (insert s.objects.values n y) s.blocks.values s.given) (sym new)
    (standard_ties s.objects.values s.blocks.values s.given c.self.invariant n ws (there ∙ ap (λ y. Some y) is) (λ (l : List ℕ). overwritten a.target (run_of a.word a.count ws) l))

pub returns : goal.returns
returns g c =
    let s = c.self.inside in
    let n = c.args.object in
    let a = c.args in
    let e = c.in-Some-get_mut.entry.now in
    let there = sym c.in-Some-get_mut.ensures.value in
    let outside = sym (spot_of_entry s.objects.values s.blocks.values n e there) ∙ ap (store.spot_of n) c.self.view_is ∙ sym c.spot_of.ensures ∙ c.in_default.is in
    let is = standard_is s.blocks.values e outside in
    let ws = own_words e in
    let new = c.copy_within.ensures ∙ ap (λ y. with_own_words (λ (l : List ℕ). overwritten a.target (run_of a.word a.count l) l) y) is in
    ap (λ y. seen (insert s.objects.values n y) s.blocks.values s.given) new
    ∙ standard_written s.objects.values s.blocks.values s.given c.self.invariant n ws (there ∙ ap (λ y. Some y) is) (λ (l : List ℕ). overwritten a.target (run_of a.word a.count ws) l)
    ∙ ap (λ v. let r : Store = record v { objects = change n (store.with_words (overwritten a.target (run_of a.word a.count ws))) v.objects } in r) c.self.view_is
    ∙ copied_here n a.word a.target a.count c.args.self.now (stored_in s.blocks.values (let y : Entry g.row.A.Denot = Standard ws in y)) (ap (λ v. get v.objects n) (sym c.self.view_is) ∙ get_mapped (stored_in s.blocks.values) s.objects.values n ∙ ap (option_map (stored_in s.blocks.values)) (there ∙ ap (λ y. Some y) is))
