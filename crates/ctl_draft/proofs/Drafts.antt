-- What is judged by the tables alone is judged of the draft that has them.
use Rattle.std.proofs.Common.{◌≡◌, ap, ◌∙◌, Option, Result, Ok, Err}
use Rattle.ctl_typing.specs.declared.notes.Notes.{Notes}
use Rattle.ctl_typing.specs.declared.table.Tables.{Tables}
use Rattle.ctl_typing.specs.Judgement.{Judging, Judgement, Judges}
use Rattle.ctl_draft.specs.declared.draft.Draft.{Draft}
use Rattle.ctl_draft.specs.Draft.{by_tables, noted}

pub by_tables_judges : {A E : Type 0} (p : Tables → Judgement A) (d : Draft) (r : Result (Option A) E) (n : Notes) → Judges (p d.tables) d.notes r n → Judges (by_tables p) d r (record d { notes = n })
by_tables_judges p d (Ok a) n h = ap (noted d) h
by_tables_judges p d (Err e) n h = tt

-- what is judged of another state, is judged of this one where both give the same
pub judges_as : {S A E : Type 0} (j k : Judging S A) (s t : S) (r : Result (Option A) E) (new : S) → j s ≡ k t → Judges k t r new → Judges j s r new
judges_as j k s t (Ok a) new same h = same ∙ h
judges_as j k s t (Err e) new same h = tt
