use Rattle.std.proofs.Common.{◌∙◌, Some, ap, sym}
use Rattle.std.specs.Prelude.{slice_get, slice_index_or}
use Rattle.std.proofs.lemmas.Option.{slice_get_within}
use Rattle.ctl_frames.specs.declared.frame.Owned.{Owned}
use Rattle.ctl_frames.specs.Owned.{collection_of}
use Rattle.ctl_engine.proofs.Come.{set_found, no_set_found}
use Rattle.ctl_frames.proofs.Lists.{get_index, same_at}
use Rattle.ctl_frames.proofs.Newest.{any_owned}
use Rattle.ctl_engine.proofs.holders.find_set.Goals as goal

pub returns-in-Some : goal.returns-in-Some
returns-in-Some c =
    let owned = c.args.owned.now in
    let at = c.in-Some.at in
    let there = c.in-Some.ensures.some in
    let o = there.0 in
    let within = slice_get_within owned at o there.1 in
    ap (λ (x : Owned). Some (collection_of x)) (same_at (slice_index_or owned at any_owned) o (slice_get owned at) (get_index owned at any_owned within) there.1)
    ∙ sym (set_found owned c.requires.0 at c.args.number o c.requires.1 there.1 there.2)

pub returns-in-None : goal.returns-in-None
returns-in-None c = sym (no_set_found c.args.owned.now c.args.number c.in-None.ensures.none)
