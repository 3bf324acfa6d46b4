use Rattle.std.proofs.Common.{◌≡◌, ◌∙◌, ◌+◌, List, Option, Some, ap, sym, ℕ}
use Rattle.std.specs.Option.{option_map}
use Rattle.pool_store.specs.Store.{words_of}
use Rattle.ctl_meaning.specs.World.{Object}
use Rattle.ctl_meaning.specs.Names.{scalar_of}
use Rattle.ctl_meaning.specs.Objects.{cells_at, object_in}
use Rattle.ctl_storage.specs.Allocated.{allocated}
use Rattle.ctl_storage.specs.Storage.{Storage}
use Rattle.ctl_storage.proofs.InStore.{as_many, cell_value, found_here, found_none}
use Rattle.ctl_storage.proofs.storage.ObjectStorage.read.Goals as goal

pub read_word-requires : goal.read_word-requires
read_word-requires c =
    let s = c.self.inside in
    as_many s.objects.values s.store c.args.number c.in-Some.object.now c.self.invariant.each (sym c.in-Some.ensures)

pub returns-in-Some : goal.returns-in-Some
returns-in-Some c =
    let s = c.self.inside in
    let n = c.args.number in
    let offset = c.args.start + c.args.offset in
    let o = allocated n c.in-Some.object.now (words_of n s.store) in
    let value : c.read_word.result ≡ scalar_of (cells_at offset 1 o) = c.read_word.ensures ∙ sym (cell_value offset o) in
    ap (λ n. let read : Option ℕ = Some n in read) value
    ∙ (ap (option_map (λ (o : Object). scalar_of (cells_at offset 1 o))) (sym (found_here s.objects.values s.store n c.in-Some.object.now (sym c.in-Some.ensures)))
    ∙ ap (λ (l : List Object). option_map (λ o. scalar_of (cells_at offset 1 o)) (object_in n l)) (ap (λ (x : Storage). x.objects) c.self.view_is))

pub returns-in-None : goal.returns-in-None
returns-in-None c =
    let s = c.self.inside in
    let n = c.args.number in
    let offset = c.args.start + c.args.offset in
    ap (option_map (λ (o : Object). scalar_of (cells_at offset 1 o))) (sym (found_none s.objects.values s.store n (sym c.in-None.ensures)))
    ∙ ap (λ (l : List Object). option_map (λ o. scalar_of (cells_at offset 1 o)) (object_in n l)) (ap (λ (x : Storage). x.objects) c.self.view_is)
