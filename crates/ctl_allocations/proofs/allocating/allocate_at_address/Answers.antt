use Rattle.std.specs.Prelude.{◌<◌, ◌≤◌, OnOk, vec_capacity, vec_len}
use Rattle.std.proofs.Common.{◌+◌, Err, Ok, Result, ap, refl, subst, sym, ℕ}
use Rattle.ctl_code.specs.Table.{member_begins}
use Rattle.ctl_frames.specs.declared.frame.Mode.{Mode}
use Rattle.ctl_places.specs.Granting.{IsAdded, PlacesThere}
use Rattle.ctl_engine.specs.Moves.{GoesOn, Makes}
use Rattle.ctl_engine.proofs.Following.{makes_later}
use Rattle.ctl_places.proofs.Granted.{goes_both}
use Rattle.ctl_engine.proofs.Newborn.{place_in}
use Rattle.ctl_allocations.proofs.PlacedMember.{makes_in_block, makes_stop, member_in, placed_is}
use Rattle.ctl_allocations.proofs.allocating.allocate_at_address.Goals as goal

pub place_member-requires : goal.place_member-requires
place_member-requires g c = let b = c.requires.1.0 in (c.requires.0, ((b.stack, b.leads, b.fine.2, b.inside), c.requires.1.1.1))

pub begin_member-requires : goal.begin_member-requires
begin_member-requires g c =
    let code = c.args.code.now in
    let old = c.args.engine.now in
    let added = c.place_member.new.engine in
    let s = g.s.0 in
    let of = c.args.of in
    let b = c.requires.1.0 in
    let set = c.in-Ok.set in
    let placed : PlacesThere code old added of s (Ok set) = subst (λ (z : Result ℕ Mode). PlacesThere code old added of s z) c.in-Ok.is c.in_ok-set.ensures.ok in
    let is = placed_is code old added c.args.place of g.s.2 set g.s.1 s b placed.2 in
    let room = subst (λ (z : Result ℕ Mode). OnOk z (vec_len added.control + 2 ≤ vec_capacity added.control)) c.in-Ok.is c.in_ok-set.ensures.control in
    let free = subst (λ (z : Result ℕ Mode). OnOk z (vec_len added.spots < vec_capacity added.spots)) c.in-Ok.is c.in_ok-set.ensures.spots in
    (c.requires.0, (subst (λ k. IsAdded code added set of (c.args.place + 1) (member_in s.operands k s)) (sym (ap place_in b.mode)) is, (refl, (room, free))))

pub returns-in-Ok-clause-ok : goal.returns-in-Ok-clause-ok
returns-in-Ok-clause-ok g c =
    let code = c.args.code.now in
    let old = c.args.engine.now in
    let added = c.place_member.new.engine in
    let new = c.begin_member.new.engine in
    let s = g.s.0 in
    let of = c.args.of in
    let b = c.requires.1.0 in
    let set = c.in-Ok.set in
    let placed : PlacesThere code old added of s (Ok set) = subst (λ (z : Result ℕ Mode). PlacesThere code old added of s z) c.in-Ok.is c.in_ok-set.ensures.ok in
    let made = subst (λ k. let m = member_in s.operands k s in Makes code added new (member_begins code of set m.place m.point m.control m.granted)) (ap place_in b.mode) c.begin_member.ensures.makes in
    makes_in_block code old new c.args.place of g.s.2 set g.s.1 s b placed.0 placed.1 (makes_later code old added new _ (ap (λ v. v.items) c.place_member.ensures.events) (ap (λ v. v.items) c.place_member.ensures.picks) made)

pub returns-in-Err-clause-ok : goal.returns-in-Err-clause-ok
returns-in-Err-clause-ok g c =
    let code = c.args.code.now in
    let old = c.args.engine.now in
    let added = c.place_member.new.engine in
    let new = c.go_on.new.self in
    let s = g.s.0 in
    let of = c.args.of in
    let refused : PlacesThere code old added of s (Err c.in-Err.refused) = subst (λ (z : Result ℕ Mode). PlacesThere code old added of s z) c.in-Err.is c.in_ok-set.ensures.ok in
    let goes = goes_both old added new _ refused.3 c.go_on.ensures in
    makes_stop code old new c.args.place of g.s.2 g.s.1 refused.0 s c.requires.1.0 refused.2 (subst (λ (m : Mode). GoesOn old new m old.cells.items) refused.1 goes)
