use Rattle.std.proofs.Common.{◌≡◌, List, None, subst, sym}
use Rattle.ctl_tree.specs.declared.ending.Stop.TheVariants.{UseAfterFree}
use Rattle.ctl_meaning.specs.Objects.{object_in}
use Rattle.ctl_meaning.specs.World.{Object}
use Rattle.ctl_storage.specs.Allocated.{place_of}
use Rattle.ctl_storage.specs.declared.existing.Place.{Place}
use Rattle.ctl_code.specs.Table.{return_to}
use Rattle.ctl_engine.specs.declared.freeing.GivenBack.TheVariants as BackOf
use Rattle.ctl_places.specs.Freeing.{IsGivenBack}
use Rattle.ctl_places.proofs.GivenBack.{gone_given, library_given, user_given}
use Rattle.ctl_places.proofs.MayJoin.{none_known}
use Rattle.ctl_steps.proofs.freeing.give_back.Goals as goal

pub returns-in_default-find-clause-back : goal.returns-in_default-find-clause-back
returns-in_default-find-clause-back c = λ next w objects shown.
    let code = c.args.code.now in
    let old = c.args.stock.now in
    let block = c.in-InBlock.block in
    subst (λ (x : Place). IsGivenBack code next w old (return_to code (place_of x) w) (BackOf.Stops UseAfterFree)) (sym c.in-InBlock.is)
    (gone_given code block.pool block.address next w old (subst (λ (l : List Object). object_in block.pool l ≡ None) (sym objects) (none_known block.pool old.objects c.in_default-find.ensures)) shown)

pub returns-in-Some-deallocate_of-clause-back : goal.returns-in-Some-deallocate_of-clause-back
returns-in-Some-deallocate_of-clause-back c = λ next w objects shown.
    let code = c.args.code.now in
    let old = c.args.stock.now in
    let block = c.in-InBlock.block in
    let body = c.in-Some-deallocate_of.body in
    subst (λ (x : Place). IsGivenBack code next w old (return_to code (place_of x) w) (BackOf.Calls (record { pool = block.pool; address = block.address; body = body }))) (sym c.in-InBlock.is)
    (user_given code block.pool block.address next body c.in-Some.pool w old old objects c.in-Some.ensures c.in-Some-deallocate_of.ensures shown)

pub returns-in-None-clause-back : goal.returns-in-None-clause-back
returns-in-None-clause-back c = λ next w objects shown.
    let code = c.args.code.now in
    let old = c.args.stock.now in
    let new = c.give_to_pool.new.stock in
    let block = c.in-InBlock.block in
    subst (λ (x : Place). IsGivenBack code next w new (return_to code (place_of x) w) c.give_to_pool.result) (sym c.in-InBlock.is)
    (library_given code block.pool block.address next c.in-Some.pool w old new c.give_to_pool.result objects c.in-Some.ensures (sym c.in-None.ensures) (c.give_to_pool.ensures.back code next w objects shown))
