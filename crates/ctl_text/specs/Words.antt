-- The words of the trace text.
use Rattle.std.specs.Prelude.{ℕ, List, codes}
use Rattle.ctl_tree.specs.declared.ending.Stop.{Stop}
use Rattle.ctl_tree.specs.declared.ending.Stop.TheVariants.{UseAfterFree, FreeWhileFinalizing, ForeignFree, BadAddress, ReleasedSubpool}
use Rattle.ctl_tree.specs.declared.event.Cause.{Cause}
use Rattle.ctl_tree.specs.declared.event.Cause.TheVariants.{Scope, Collection, Free, Subpool, Assign, Failed}

-- why a part is finalized
abbrev pub cause_word : Cause → List ℕ
cause_word Scope = codes "scope"
cause_word Collection = codes "collection"
cause_word Free = codes "free"
cause_word Subpool = codes "subpool"
cause_word Assign = codes "assign"
cause_word Failed = codes "failed"

-- why a run was stopped
abbrev pub stop_word : Stop → List ℕ
stop_word UseAfterFree = codes "USE_AFTER_FREE"
stop_word FreeWhileFinalizing = codes "FREE_WHILE_FINALIZING"
stop_word ForeignFree = codes "FOREIGN_FREE"
stop_word BadAddress = codes "BAD_ADDRESS"
stop_word ReleasedSubpool = codes "RELEASED_SUBPOOL"
