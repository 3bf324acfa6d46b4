-- Whether a pool was ever noted.
use Rattle.ctl_storage.specs.declared.sizes.Usage.{Usage}
use Rattle.ctl_storage.specs.declared.sizes.Usage.TheVariants.{Unused, Used}

abbrev pub IfUnused : Usage → Type 0 → Type 0
IfUnused Unused P = P
IfUnused Used P = Unit {0}
