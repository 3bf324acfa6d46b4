use Rattle.std.proofs.Common.{◌∙◌, List, ap, arith, length, refl, subst, sym}
use Rattle.std.specs.Prelude.{IfSome}
use Rattle.std.proofs.lemmas.Option.{slice_get_within}
use Rattle.ctl_meaning.specs.Activations.{master_of}
use Rattle.ctl_frames.specs.declared.frame.Formal.{Formal}
use Rattle.ctl_frames.specs.declared.frame.Owned.{Owned}
use Rattle.ctl_frames.specs.Holders.{IsThere, found_in}
use Rattle.ctl_frames.specs.Masters.{first_display, heads_of}
use Rattle.ctl_places.proofs.Granted.{nothing_held, part_held}
use Rattle.ctl_places.proofs.HeldThere.{own_end_within, own_formals_within}
use Rattle.ctl_engine.proofs.Reached.{seen_read}
use Rattle.ctl_places.proofs.seen.holder_seen.Goals as goal

pub returns-in_err-place-clause-part : goal.returns-in_err-place-clause-part
returns-in_err-place-clause-part g c =
    let v = c.args.variable.now in
    ap (λ r. found_in c.args.engine.now.formals.items r) c.from_residual.ensures ∙ sym (nothing_held (master_of (first_display (heads_of g.s.world.activations)) v) v.slot g.s.world (c.in_err-place.ensures.none refl))

pub index-requires : goal.index-requires
index-requires g c =
    let there = c.in_ok-place.ensures.there in
    let less = slice_get_within c.args.engine.now.masters.items c.in_ok-place.place there.master there.found in
    let many = c.args.engine.now.masters.ok.1 in
    omega (arith, less, many)

pub own_end-requires : goal.own_end-requires
own_end-requires g c =
    let there = c.in_ok-place.ensures.there in
    slice_get_within c.args.engine.now.masters.items c.in_ok-place.place there.master there.found

pub holder-requires : goal.holder-requires
holder-requires g c =
    let engine = c.args.engine.now in
    let v = c.args.variable.now in
    let m = c.index.result.now in
    let seen = seen_read engine.masters.items c.in_ok-place.place (master_of (first_display (heads_of g.s.world.activations)) v) v.slot m c.in_ok-place.ensures.there c.index.ensures in
    let within = own_end_within c.args.code.now engine g.s.control g.s.operands g.s.world c.in_ok-place.place m c.requires seen.0 in
    let formals = (own_formals_within c.args.code.now engine g.s.control g.s.operands g.s.world c.in_ok-place.place m c.requires seen.0).1 in
    let end = c.own_end.ensures in
    let same = ap (λ (l : List Owned). length l) c.as_slice.ensures.value in
    let same' = ap (λ (l : List Formal). length l) c.as_slice-2.ensures.value in
    record { owned = omega (arith, within, end, same); formals = omega (arith, formals, same') }

pub returns-clause-part : goal.returns-clause-part
returns-clause-part g c =
    let engine = c.args.engine.now in
    let v = c.args.variable.now in
    let n = master_of (first_display (heads_of g.s.world.activations)) v in
    let m = c.index.result.now in
    let seen = seen_read engine.masters.items c.in_ok-place.place n v.slot m c.in_ok-place.ensures.there c.index.ensures in
    sym (part_held c.args.code.now engine g.s.control g.s.operands g.s.world n v.slot c.in_ok-place.place c.own_end.result m c.as_slice.result.now c.as_slice-2.result.now c.holder.result c.requires seen.0 seen.1 seen.2
    c.as_slice.ensures.value c.as_slice-2.ensures.value c.own_end.ensures c.holder.ensures.part)

pub returns-clause-there : goal.returns-clause-there
returns-clause-there g c = subst (λ (l : List Formal). IfSome c.holder.result (IsThere l)) c.as_slice-2.ensures.value c.holder.ensures.there
