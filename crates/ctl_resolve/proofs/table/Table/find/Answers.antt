use Rattle.std.proofs.Common.{◌≡◌, ◌<◌, ◌-◌, suc, sym, ap, ◌∙◌, arith, length, take, Some, List, subst}
use Rattle.std.specs.Prelude.{slice_index_or, slice_index}
use Rattle.ctl_resolve.specs.declared.view.Declaration.{Declaration}
use Rattle.ctl_resolve.specs.Places.{last_place}
use Rattle.ctl_resolve.proofs.Places.{leads_whole, found_here, leads_here, found_nowhere, place_before}
use Rattle.ctl_resolve.proofs.table.Table.find.Goals as goal

pub chain-init : goal.chain-init
chain-init c = leads_whole c.args.self.now c.args.sought c.args.key.now c.newest_place-place.result c.newest_place-place.ensures

pub returns-then-passes : goal.returns-then-passes
returns-then-passes c =
    let ds = c.args.self.now in
    let k = c.chain.place - 1 in
    let d = c.in_ok-declaration.declaration.now in
    let items : c.deref.result.now ≡ ds = c.deref.ensures.value ∙ c.self.view_is in
    let lt : k < length ds = subst (λ (xs : List Declaration). k < length xs) items c.in_ok-declaration.ensures.lookup.3.0 in
    let at : slice_index_or ds k d ≡ d = ap (λ xs. slice_index_or xs k d) (sym items) ∙ sym c.in_ok-declaration.ensures.lookup.1 in
    let place : c.chain.place ≡ suc k = omega (arith, c.chain-test.true) in
    ap Some c.known_at.ensures ∙ sym (found_here ds c.args.sought c.args.key.now c.chain.place k d c.chain.invariant place lt at (sym c.passes.ensures ∙ c.if-passes.true))

-- the place that the declaration hides is that of the last one of its key before it
hidden : (c : goal.After-row_known-1) → (c.chain.place - 1 < length c.args.self.now) × (c.in_ok-place.field-0.now ≡ last_place (take (c.chain.place - 1) c.args.self.now) (slice_index_or c.args.self.now (c.chain.place - 1) c.in_ok-declaration.declaration.now).key)
hidden c =
    let k = c.chain.place - 1 in
    let d = c.in_ok-declaration.declaration.now in
    let q = c.in_ok-place.field-0.now in
    let inner = c.self.inside.declarations.items in
    let same : inner ≡ c.args.self.now = c.self.view_is in
    let within : k < length inner = subst (λ (xs : List Declaration). k < length xs) c.deref.ensures.value c.in_ok-declaration.ensures.lookup.3.0 in
    let read : q ≡ slice_index c.self.inside.hides.items k = c.in_ok-place.ensures.lookup.3.1 0 ∙ ap (λ xs. slice_index xs k) c.deref-in-chain.ensures.value in (
      subst (λ (xs : List Declaration). k < length xs) same within,
      read ∙ c.self.invariant.hidden k d within ∙ ap (λ (xs : List Declaration). last_place (take k xs) (slice_index_or xs k d).key) same,
    )

pub chain-smaller : goal.chain-smaller
chain-smaller c =
    let ds = c.args.self.now in
    let k = c.chain.place - 1 in
    let below = place_before ds (slice_index_or ds k c.in_ok-declaration.declaration.now).key k (hidden c).0 in
    omega (arith, below, (hidden c).1, c.chain-test.true)

pub chain-preserved : goal.chain-preserved
chain-preserved c =
    let ds = c.args.self.now in
    let k = c.chain.place - 1 in
    let d = c.in_ok-declaration.declaration.now in
    let items : c.deref.result.now ≡ ds = c.deref.ensures.value ∙ c.self.view_is in
    let at : slice_index_or ds k d ≡ d = ap (λ xs. slice_index_or xs k d) (sym items) ∙ sym c.in_ok-declaration.ensures.lookup.1 in
    let place : c.chain.place ≡ suc k = omega (arith, c.chain-test.true) in
    leads_here ds c.args.sought c.args.key.now c.chain.place k d c.in_ok-place.field-0.now c.chain.invariant place (hidden c).0 at (sym c.passes.ensures ∙ c.if-passes.false) (hidden c).1

pub returns : goal.returns
returns c = sym (found_nowhere c.args.self.now c.args.sought c.args.key.now c.chain.place c.chain.invariant (omega (arith, c.chain-test.false)))
