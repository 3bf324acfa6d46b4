use Rattle.std.proofs.Common.{◌≡◌, ◌≤◌, ℕ, Option, Some, None, ap, arith, refl, subst, sym, ◌∙◌}
use Rattle.std.specs.Prelude.{slice_get, slice_index_or}
use Rattle.std.proofs.lemmas.Option.{slice_get_within}
use Rattle.ctl_tree.specs.declared.ending.Stop.TheVariants.{UseAfterFree}
use Rattle.ctl_meaning.specs.World.{Collection, World}
use Rattle.ctl_code.specs.declared.code.AccessHome.{AccessHome}
use Rattle.ctl_code.specs.declared.code.Code.{Code}
use Rattle.ctl_code.specs.declared.code.Way.TheVariants as WayOf
use Rattle.ctl_code.specs.Table.{set_seen}
use Rattle.ctl_engine.specs.Copying.{Refuses}
use Rattle.ctl_frames.specs.declared.frame.Mode.TheVariants as ModeOf
use Rattle.ctl_frames.specs.Masters.{first_display, heads_of}
use Rattle.ctl_frames.specs.Owned.{collection_of}
use Rattle.ctl_frames.proofs.Links.{got}
use Rattle.ctl_frames.proofs.Lists.{same_at}
use Rattle.ctl_allocations.proofs.allocating.set_for.Goals as goal

access_read : (code : Code) (access : ℕ) (v w : AccessHome) → slice_get code.accesses.items access ≡ Some v → w ≡ slice_index_or code.accesses.items access w → slice_get code.accesses.items access ≡ Some w
access_read code access v w found read = got code.accesses.items access w (slice_get_within code.accesses.items access v found) read

-- the collection that was found, if one was
seen_as : (code : Code) (access : ℕ) (v : AccessHome) (seen : Option Collection) (w : World) → slice_get code.accesses.items access ≡ Some v → seen ≡ set_seen (Some v) (first_display (heads_of w.activations)) w
    → set_seen (slice_get code.accesses.items access) (first_display (heads_of w.activations)) w ≡ seen
seen_as code access v seen w found is = ap (λ (o : Option AccessHome). set_seen o (first_display (heads_of w.activations)) w) found ∙ sym is

pub index-requires : goal.index-requires
index-requires g c =
    let known = c.requires.1 in
    let within = slice_get_within c.args.code.now.accesses.items c.args.access known.0 known.1 in
    let many = c.args.code.now.accesses.ok.1 in
    omega (arith, within, many)

pub set_seen-requires : goal.set_seen-requires
set_seen-requires g c =
    let v = c.index.result.now in
    let known = c.requires.1 in
    let found = access_read c.args.code.now c.args.access known.0 v known.1 c.index.ensures in
    let same : v ≡ known.0 = same_at v known.0 (slice_get c.args.code.now.accesses.items c.args.access) found known.1 in
    (c.requires.0, subst (λ (x : AccessHome). 1 ≤ x.collection.level) (sym same) known.2)

pub returns-in_default-clause-err : goal.returns-in_default-clause-err
returns-in_default-clause-err g c =
    let code = c.args.code.now in
    let v = c.index.result.now in
    let known = c.requires.1 in
    let found = access_read code c.args.access known.0 v known.1 c.index.ensures in
    subst (λ (o : Option Collection). Refuses code c.args.of o (ModeOf.Stopped UseAfterFree)) (sym (seen_as code c.args.access v None g.s.world found (c.in_default.ensures v.pool))) refl

pub returns-then-is_refused-clause-err : goal.returns-then-is_refused-clause-err
returns-then-is_refused-clause-err g c =
    let code = c.args.code.now in
    let v = c.index.result.now in
    let known = c.requires.1 in
    let found = access_read code c.args.access known.0 v known.1 c.index.ensures in
    subst (λ (o : Option Collection). Refuses code c.args.of o (ModeOf.Transfers (WayOf.Raise 1))) (sym (seen_as code c.args.access v (Some (collection_of c.in-Some.set)) g.s.world found (c.in-Some.ensures v.pool))) (sym c.if-is_refused.ensures, refl)

pub returns-clause-ok : goal.returns-clause-ok
returns-clause-ok g c =
    let code = c.args.code.now in
    let v = c.index.result.now in
    let known = c.requires.1 in
    let found = access_read code c.args.access known.0 v known.1 c.index.ensures in
    record { collection = collection_of c.in-Some.set; is = seen_as code c.args.access v (Some (collection_of c.in-Some.set)) g.s.world found (c.in-Some.ensures v.pool); number = refl; takes = sym c.if-is_refused.ensures }
