use Rattle.std.proofs.Common.{◌∙◌, ◌++◌, [], List, Option, ap, sym, ℕ}
use Rattle.std.specs.Prelude.{is_some}
use Rattle.std.specs.Option.{option_map_or}
use Rattle.std.proofs.lemmas.List.{append-nil}
use Rattle.pool_store.specs.Store.{words_of}
use Rattle.ctl_meaning.specs.World.{Object}
use Rattle.ctl_meaning.specs.Objects.{cells_at, object_in}
use Rattle.ctl_storage.specs.Storage.{Storage}
use Rattle.ctl_storage.proofs.InStore.{as_many, cells_saved, found_here, found_none}
use Rattle.ctl_storage.proofs.storage.ObjectStorage.save.Goals as goal

pub save_words-requires-clause-cells : goal.save_words-requires-clause-cells
save_words-requires-clause-cells c =
    let s = c.self.inside in
    as_many s.objects.values s.store c.args.number c.in-Some.object.now c.self.invariant.each (sym c.in-Some.ensures)

pub returns-in-Some-clause-exists : goal.returns-in-Some-clause-exists
returns-in-Some-clause-exists c =
    let s = c.self.inside in
    let n = c.args.number in
    sym (ap (λ (o : Option Object). is_some o) (found_here s.objects.values s.store n c.in-Some.object.now (sym c.in-Some.ensures)))
    ∙ ap (λ (l : List Object). is_some (object_in n l)) (ap (λ (x : Storage). x.objects) c.self.view_is)

pub returns-in-Some-clause-items : goal.returns-in-Some-clause-items
returns-in-Some-clause-items c =
    let a = c.args in
    let s = c.self.inside in
    let items = a.saved.now.items in
    c.save_words.ensures
    ∙ ap (λ (l : List ℕ). items ++ l)
    (cells_saved a.start a.count a.number c.in-Some.object.now (words_of a.number s.store)
    ∙ (ap (λ (o : Option Object). option_map_or (cells_at a.start a.count) o []) (sym (found_here s.objects.values s.store a.number c.in-Some.object.now (sym c.in-Some.ensures)))
    ∙ ap (λ (l : List Object). option_map_or (cells_at a.start a.count) (object_in a.number l) []) (ap (λ (x : Storage). x.objects) c.self.view_is)))

pub returns-in-None-clause-exists : goal.returns-in-None-clause-exists
returns-in-None-clause-exists c =
    let s = c.self.inside in
    let n = c.args.number in
    sym (ap (λ (o : Option Object). is_some o) (found_none s.objects.values s.store n (sym c.in-None.ensures)))
    ∙ ap (λ (l : List Object). is_some (object_in n l)) (ap (λ (x : Storage). x.objects) c.self.view_is)

pub returns-in-None-clause-items : goal.returns-in-None-clause-items
returns-in-None-clause-items c =
    let a = c.args in
    let s = c.self.inside in
    let items = a.saved.now.items in
    sym (append-nil items)
    ∙ ap (λ (l : List ℕ). items ++ l)
    (ap (λ (o : Option Object). option_map_or (cells_at a.start a.count) o []) (sym (found_none s.objects.values s.store a.number (sym c.in-None.ensures)))
    ∙ ap (λ (l : List Object). option_map_or (cells_at a.start a.count) (object_in a.number l) []) (ap (λ (x : Storage). x.objects) c.self.view_is))
