use Rattle.std.proofs.Common.{◌≡◌, ◌∷◌, ◌∙◌, List, [], ap, arith, drop, refl, reverse, subst, sym}
use Rattle.ctl_tree.specs.declared.event.Cause.TheVariants.{Collection}
use Rattle.ctl_meaning.specs.Finalization.{Spot}
use Rattle.ctl_code.specs.States as T
use Rattle.ctl_code.specs.States.{whole_spot}
use Rattle.ctl_code.specs.Table.{finalize_object, parts_of}
use Rattle.ctl_engine.specs.declared.engine.Engine.{Engine}
use Rattle.ctl_frames.specs.declared.frame.Frame.{Frame}
use Rattle.ctl_frames.specs.declared.frame.Frame.TheVariants as FrameOf
use Rattle.ctl_engine.specs.Finishing.{AreDoubles, BeginsOver, Finished, Finishes}
use Rattle.ctl_engine.specs.Moves.{Makes}
use Rattle.ctl_engine.specs.Shows.{Kept, kept}
use Rattle.ctl_allocations.proofs.Emptied.{member_base, member_finishes, with_newest}
use Rattle.ctl_lifetimes.proofs.NextPart.{chooses, noted_so}
use Rattle.ctl_lifetimes.proofs.NextWindow.{end_is, tall_within}
use Rattle.ctl_machine.proofs.emptying.finalize_member.Goals as goal

pub next_window-base-requires : goal.next_window-base-requires
next_window-base-requires g c =
    let code = c.args.code.now in
    let old = c.args.engine.now in
    let t = g.t.1 in
    let u = c.requires.1.0 in
    let k : List T.Frame = T.Emptying t.sets g.t.0 ∷ t.control in
    let end = end_is code (kept old) k [] t.world u.holds u.waits u.sized in
    let within = tall_within code (kept old) k [] t.world u.holds in
    let few = old.cells.ok.0 in
    omega (arith, end, within, few)

pub finalize_whole-requires : goal.finalize_whole-requires
finalize_whole-requires g c =
    let code = c.args.code.now in
    let old = c.args.engine.now in
    let ready = c.prepare_finalization.new.self in
    let n = c.args.member.number in
    let t = g.t.1 in
    let u = c.requires.1.0 in
    let is = c.requires.1.1.0 in
    let parts = c.requires.1.1.1.1.0 in
    let goes = c.in_ok-prepare_finalization.ensures.ok in
    let room = c.in_ok-prepare_finalization.ensures.room in
    let frames = c.in_ok-prepare_finalization.ensures.control in
    let frame = FrameOf.Emptying c.args.first c.args.last c.args.failed in
    let mid : Engine = record ready { control = c.replace_top.new.control; picks = c.note_pick.new.picks } in
    let control : reverse c.replace_top.new.control.items ≡ frame ∷ drop 1 (reverse ready.control.items) = c.replace_top.ensures.items in
    let are = ap (λ (l : List Frame). record (kept ready) { control = l }) control ∙ ap (λ (e : Kept). with_newest frame e) goes.1.kept in
    let finishes = member_finishes code old mid c.args.first c.args.last g.t.0 c.args.failed t n goes.0 u are in
    let base = member_base code old c.args.first c.args.last c.next_window-base.result g.t.0 c.args.failed t n u c.next_window-base.ensures in
    let len = c.replace_top.ensures.len in
    let capacity = c.replace_top.ensures.capacity in
    let whole : c.whole.result ≡ whole_spot n = c.whole.ensures in (
      c.requires.0,
      (
        subst (λ (f : Finished). Finishes code mid f) (sym is) finishes,
        (
          subst (λ (f : Finished). BeginsOver c.next_window-base.result f) (sym is) base,
          (
            record { masters = room.masters; control = omega (arith, len, capacity, frames); events = room.events; formals = room.formals; cells = room.cells; number = room.number },
            (
              omega (arith, len, capacity, frames),
              (c.in_ok-prepare_finalization.ensures.spots, (subst (λ (s : Spot). AreDoubles c.in_ok-doubles.doubles s) whole c.in_ok-doubles.ensures, parts)),
            ),
          ),
        ),
      ),
    )

pub returns-clause-ok : goal.returns-clause-ok
returns-clause-ok g c =
    let code = c.args.code.now in
    let old = c.args.engine.now in
    let m = c.args.member in
    let is = c.requires.1.1.0 in
    let goes = c.in_ok-prepare_finalization.ensures.ok in
    let mid : Engine = record c.prepare_finalization.new.self { control = c.replace_top.new.control; picks = c.note_pick.new.picks } in
    let new = c.finalize_whole.new.engine in
    let noted = noted_so old.picks.items c.prepare_finalization.new.self.picks.items c.note_pick.new.picks.items c.args.count c.args.count c.pick_of.result c.args.order c.note_pick.ensures (ap (λ v. v.items) c.prepare_finalization.ensures.choices ∙ c.reserve.ensures.items) refl c.pick_of.ensures in
    let made = subst (λ (f : Finished). Makes code mid new (finalize_object code (parts_of code m.record_type) Collection m.number m.record_type f.control f.world)) is c.finalize_whole.ensures in
    chooses code old mid new _ _ goes.1.events noted made
