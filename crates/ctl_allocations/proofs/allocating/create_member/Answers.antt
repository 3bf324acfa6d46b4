use Rattle.std.proofs.Common.{◌≡◌, ◌+◌, ℕ, Option, Some, ap, arith, refl, subst, sym}
use Rattle.ctl_code.specs.Table.{Grant, behind_next, new_at, units_for}
use Rattle.ctl_frames.specs.declared.frame.Mode.{Mode}
use Rattle.ctl_places.specs.Granting.{Adds, Grants, IsAdded, Serves, place_granted, world_granted}
use Rattle.ctl_engine.specs.Moves.{here_of}
use Rattle.ctl_engine.specs.Shows.{kept}
use Rattle.ctl_places.proofs.Granted.{asks_none, grants_beside, no_user}
use Rattle.ctl_engine.proofs.Newborn.{place_in}
use Rattle.ctl_allocations.proofs.NewMember.{is_added, lacking_makes}
use Rattle.ctl_allocations.proofs.allocating.create_member.Goals as goal

pub returns-in-Some : goal.returns-in-Some
returns-in-Some g c =
    let code = c.args.code.now in
    let old = c.args.engine.now in
    let added = c.add_member.new.engine in
    let s = g.s.0 in
    let set = c.args.set in
    let of = c.args.of in
    let size = units_for code of in
    let b = c.requires.1.0.2 in
    let h = here_of c.args.place s in
    let mode = c.in-Some.refused in
    let grants : Grants code old s.world g.s.1 c.grantor-grantor.result = subst (λ (f : ℕ → Grant). Grants code old s.world f c.grantor-grantor.result) (sym c.requires.1.1.0) c.grantor-grantor.ensures in
    let none = no_user c.grantor-grantor.result c.in_default.not-User in
    let served : Serves code old added set of s.world (g.s.1 size) (Some mode) = subst (λ (o : Option Mode). Serves code old added set of s.world (g.s.1 size) o) c.in-Some.is c.in_ok-refused.ensures.ok in
    record {
      ok = lacking_makes code old added c.go_on.new.self mode b.stack s.operands h (λ x. new_at code of set x s.operands h) (g.s.1 size) (λ o f is. absurd (asks_none code old s.world g.s.1 c.grantor-grantor.result size o f grants none is)) refl refl b.inside served.0 served.1 c.go_on.ensures;
      err = tt;
    }

pub begin_member-requires : goal.begin_member-requires
begin_member-requires g c =
    let code = c.args.code.now in
    let old = c.args.engine.now in
    let added = c.add_member.new.engine in
    let s = g.s.0 in
    let set = c.args.set in
    let of = c.args.of in
    let size = units_for code of in
    let before = c.requires.1.0 in
    let b = before.2 in
    let place = place_granted (g.s.1 size) in
    let v = world_granted s.world (g.s.1 size) in
    let grants : Grants code old s.world g.s.1 c.grantor-grantor.result = subst (λ (f : ℕ → Grant). Grants code old s.world f c.grantor-grantor.result) (sym c.requires.1.1.0) c.grantor-grantor.ensures in
    let adds : Adds code (kept old) (kept added) set of s.world (g.s.1 size) = subst (λ (o : Option Mode). Serves code old added set of s.world (g.s.1 size) o) c.in_default-2.is c.in_ok-refused.ensures.ok in
    let beside = grants_beside code old s.world v g.s.1 c.grantor-grantor.result size place grants adds.granted in
    let p = behind_next s.operands (here_of c.args.place s) in
    let at : place_in s.mode ≡ c.args.place = ap place_in b.mode in
    let is : IsAdded code added set of (c.args.place + 2) (record { place = place; control = s.control; point = p; granted = v }) =
    is_added code old added set of (c.args.place + 2) before.0 b.stack place s.control p s.world v b.inside (omega arith) refl b.fine.0 b.fine.4 beside adds.member in
    (c.requires.0, (subst (λ k. IsAdded code added set of (c.args.place + 2) (record { place = place; control = s.control; point = behind_next s.operands (here_of k s); granted = v })) (sym at) is, (refl, (c.in_ok-refused.ensures.control, c.in_ok-refused.ensures.spots))))
