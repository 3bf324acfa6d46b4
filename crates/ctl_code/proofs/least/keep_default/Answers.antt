use Rattle.std.proofs.Common.{refl}
use Rattle.std.proofs.lemmas.Result.{IfOk-weaker}
use Rattle.ctl_code.specs.declared.code.Initial.TheVariants.{Computed}
use Rattle.ctl_code.specs.declared.homes.Declaration.TheVariants.{Record}
use Rattle.ctl_code.specs.Demands.{with_counts}
use Rattle.ctl_code.specs.Homes.{Raises}
use Rattle.ctl_code.specs.Valid.{IsInitialWithin}
use Rattle.ctl_code.specs.Windows.{IsWithin}
use Rattle.ctl_code.proofs.Raising.{default_raised}
use Rattle.ctl_code.proofs.least.keep_default.Goals as goal

pub returns-in-Some : goal.returns-in-Some
returns-in-Some c =
    let code = c.args.code.now in
    let t = c.args.number in
    let place = c.args.place in
    let old = c.args.homes.now in
    let new = c.keep_within.new.homes in
    let found = c.in-Some.ensures in
    IfOk-weaker c.keep_within.result
    (λ raised. Raises (λ counts. IsWithin counts (Record t) (Record c.in-Some.other)) old new raised)
    (λ raised. Raises (λ counts. IsInitialWithin (with_counts counts code) t place Computed) old new raised)
    (λ raised h. default_raised code t place found.0 c.in-Some.other old new raised found.1 h)
    c.keep_within.ensures

pub returns-in-None : goal.returns-in-None
returns-in-None c = (λ most below p. below, λ e. (refl, λ most below p level number there. absurd (c.in-None.ensures level number there)))
