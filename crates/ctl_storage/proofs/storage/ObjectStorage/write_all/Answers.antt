use Rattle.std.proofs.Common.{◌∙◌, List, Option, ap, subst, sym}
use Rattle.std.specs.Prelude.{is_some}
use Rattle.pool_store.specs.Store.{Store}
use Rattle.ctl_meaning.specs.World.{Object}
use Rattle.ctl_meaning.specs.Objects.{change_in, object_in, with_cells}
use Rattle.ctl_storage.specs.Inside.{AreStored, seen, view_of}
use Rattle.ctl_storage.proofs.Rising.{change_lacking}
use Rattle.ctl_storage.specs.Storage.{Storage}
use Rattle.ctl_storage.proofs.Calls.{changed_pools}
use Rattle.ctl_storage.proofs.Kept.{blocks_all, given_all, kept_all}
use Rattle.ctl_storage.proofs.InStore.{as_many, cells_keep, found_here, found_none, seen_all}
use Rattle.ctl_storage.proofs.Calls.{same_but_objects}
use Rattle.ctl_storage.proofs.storage.ObjectStorage.write_all.Goals as goal

pub write_words-requires : goal.write_words-requires
write_words-requires c =
    let s = c.self.inside in
    as_many s.objects.values s.store c.args.number c.in-Some.object.now c.self.invariant.each (sym c.in-Some.ensures)

pub invariant_of-self : goal.invariant_of-self
invariant_of-self c =
    let s = c.self.inside in
    subst (λ (x : Store). AreStored s.objects.values s.sizes.values s.located x) (sym c.write_words.ensures)
    (kept_all s.objects.values s.sizes.values s.located s.store c.args.number c.args.start c.args.values.now c.self.invariant)

pub returns-in-Some-clause-exists : goal.returns-in-Some-clause-exists
returns-in-Some-clause-exists c =
    let s = c.self.inside in
    let n = c.args.number in
    sym (ap (λ (o : Option Object). is_some o) (found_here s.objects.values s.store n c.in-Some.object.now (sym c.in-Some.ensures)))
    ∙ ap (λ (l : List Object). is_some (object_in n l)) (ap (λ (x : Storage). x.objects) c.self.view_is)

pub returns-in-Some-clause-written : goal.returns-in-Some-clause-written
returns-in-Some-clause-written c =
    let s = c.self.inside in
    let n = c.args.number in
    let offset = c.args.start in
    ap (λ (x : Store). seen s.objects.values x) c.write_words.ensures
    ∙ (seen_all s.objects.values s.store n offset c.args.values.now
    ∙ ap (λ (l : List Object). change_in n (with_cells offset c.args.values.now) l) (ap (λ (x : Storage). x.objects) c.self.view_is))

pub returns-in-None-clause-exists : goal.returns-in-None-clause-exists
returns-in-None-clause-exists c =
    let s = c.self.inside in
    let n = c.args.number in
    sym (ap (λ (o : Option Object). is_some o) (found_none s.objects.values s.store n (sym c.in-None.ensures)))
    ∙ ap (λ (l : List Object). is_some (object_in n l)) (ap (λ (x : Storage). x.objects) c.self.view_is)

pub returns-in-None-clause-written : goal.returns-in-None-clause-written
returns-in-None-clause-written c =
    let s = c.self.inside in
    let n = c.args.number in
    let f = with_cells c.args.start c.args.values.now in
    sym (change_lacking n f c.args.self.now.objects (ap (λ (l : List Object). object_in n l) (sym (ap (λ (x : Storage). x.objects) c.self.view_is)) ∙ found_none s.objects.values s.store n (sym c.in-None.ensures)))

pub returns-in-Some-clause-pools : goal.returns-in-Some-clause-pools
returns-in-Some-clause-pools c =
    let s = c.self.inside in
    let t = c.write_words.new.store in
    changed_pools c.args.self.now (view_of s.objects.values s.sizes.values t) c.args.number (with_cells c.args.start c.args.values.now) (cells_keep c.args.start c.args.values.now) (returns-in-Some-clause-written c)
    (ap (λ (x : Storage). x.sizes) c.self.view_is)
    (ap (λ (x : Store). x.blocks) c.write_words.ensures ∙ (blocks_all c.args.number c.args.start c.args.values.now s.store ∙ ap (λ (x : Storage). x.blocks) c.self.view_is))
    (ap (λ (x : Store). x.given) c.write_words.ensures ∙ (given_all c.args.number c.args.start c.args.values.now s.store ∙ ap (λ (x : Storage). x.given) c.self.view_is))

pub returns-in-Some-clause-same : goal.returns-in-Some-clause-same
returns-in-Some-clause-same c =
    let s = c.self.inside in
    let t = c.write_words.new.store in
    same_but_objects c.args.self.now (view_of s.objects.values s.sizes.values t) (ap (λ (x : Storage). x.sizes) c.self.view_is)
    (ap (λ (x : Store). x.blocks) c.write_words.ensures ∙ (blocks_all c.args.number c.args.start c.args.values.now s.store ∙ ap (λ (x : Storage). x.blocks) c.self.view_is))
    (ap (λ (x : Store). x.given) c.write_words.ensures ∙ (given_all c.args.number c.args.start c.args.values.now s.store ∙ ap (λ (x : Storage). x.given) c.self.view_is))
