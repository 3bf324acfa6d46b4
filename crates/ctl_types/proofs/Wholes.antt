-- A master, by what is known of its declarations, its statements and its handlers.
use Rattle.std.proofs.Common.{◌≡◌, refl, List, length, Option, Some, None}
use Rattle.ctl_program.specs.declared.statement.Handler.{Handler}
use Rattle.ctl_program.specs.declared.statement.Item.{Item}
use Rattle.ctl_program.specs.declared.statement.Stmt.{Stmt}
use Rattle.ctl_draft.specs.declared.draft.Draft.{Draft}
use Rattle.ctl_draft.specs.Draft.{Doing}
use Rattle.ctl_types.specs.Elaboration.{master_of}
use Rattle.ctl_types.specs.Parts.{master_of as master_known}
use Rattle.ctl_typing.specs.Judgement.{◌>>=◌, beside, both, paired, with_known}

all_known : (is : Option (List Item)) (ss : Option (List Stmt)) (hs : Option (List Handler)) (d : Draft)
    → with_known (λ r. master_of r.0.0 r.0.1 r.1) (paired (paired is (ss, d)).0 (hs, d)) ≡ (master_known (length d.slots) is ss hs, d)
all_known (Some is) (Some ss) (Some hs) d = refl
all_known (Some is) (Some ss) None d = refl
all_known (Some is) None (Some hs) d = refl
all_known (Some is) None None d = refl
all_known None (Some ss) (Some hs) d = refl
all_known None (Some ss) None d = refl
all_known None None (Some hs) d = refl
all_known None None None d = refl

first_known : (is : Option (List Item)) (ss : Option (List Stmt)) (h : Doing (List Handler)) (f g : Draft) (hs : Option (List Handler)) → h f ≡ (hs, g)
    → with_known (λ r. master_of r.0.0 r.0.1 r.1) (beside h (paired is (ss, f))) ≡ (master_known (length g.slots) is ss hs, g)
first_known (Some is) (Some ss) h f g hs judged = rw judged (all_known (Some is) (Some ss) hs g)
first_known (Some is) None h f g hs judged = rw judged (all_known (Some is) None hs g)
first_known None (Some ss) h f g hs judged = rw judged (all_known None (Some ss) hs g)
first_known None None h f g hs judged = rw judged (all_known None None hs g)

pub master_judged : (p : Doing (List Item)) (q : Doing (List Stmt)) (h : Doing (List Handler)) (d e f g : Draft) (is : Option (List Item)) (ss : Option (List Stmt)) (hs : Option (List Handler))
    → p d ≡ (is, e) → q e ≡ (ss, f) → h f ≡ (hs, g)
    → (both (both p q) h >>= (λ r. master_of r.0.0 r.0.1 r.1)) d ≡ (master_known (length g.slots) is ss hs, g)
master_judged p q h d e f g is ss hs items statements handlers = rw (items, statements) (first_known is ss h f g hs handlers)
