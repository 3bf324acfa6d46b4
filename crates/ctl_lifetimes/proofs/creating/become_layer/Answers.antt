use Rattle.std.proofs.Common.{◌≡◌, ◌-◌, ℕ, Some, refl, sym, ap, ◌∙◌, subst}
use Rattle.std.specs.Prelude.{slice_get, slice_set}
use Rattle.std.proofs.lemmas.List.{append-nil}
use Rattle.std.proofs.lemmas.Option.{get_or_from_slice_get}
use Rattle.ctl_frames.specs.declared.frame.Owned.{Owned}
use Rattle.ctl_engine.specs.Initializing.{alive}
use Rattle.ctl_engine.specs.Shows.{Kept, kept}
use Rattle.ctl_lifetimes.proofs.creating.become_layer.Goals as goal

pub returns : goal.returns
returns g c =
    let old = c.args.engine.now in
    let count = c.count_owned-newest.result in
    let there : slice_get old.owned.items (count - 1) ≡ Some g.o = subst (λ n. slice_get old.owned.items (n - 1) ≡ Some g.o) (sym c.count_owned-newest.ensures) c.requires in
    let same : c.index_mut.result.now ≡ g.o = c.index_mut.ensures.value ∙ get_or_from_slice_get old.owned.items (count - 1) g.o c.index_mut.result.now there in
    let with_item : ℕ → Owned → Kept = λ n o. record (kept old) { owned = slice_set old.owned.items n (alive o) } in
    record {
      mode = refl;
      kept = ap (λ o. with_item (count - 1) o) same ∙ ap (λ n. with_item (n - 1) g.o) c.count_owned-newest.ensures;
      events = sym (append-nil old.events.items);
      picks = refl;
    }
