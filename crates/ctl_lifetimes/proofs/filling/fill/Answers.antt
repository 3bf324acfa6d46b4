use Rattle.std.proofs.Common.{◌≡◌, ◌-◌, ◌∙◌, ◌++◌, List, ℕ, ap, arith, length, refl, subst}
use Rattle.std.proofs.lemmas.Option.{slice_get_within}
use Rattle.ctl_code.specs.declared.code.Begun.{Begun}
use Rattle.ctl_code.specs.declared.code.Initial.TheVariants.{Constant}
use Rattle.ctl_code.specs.Fits.{IsLed, SpeakOfKnown}
use Rattle.ctl_code.specs.States as T
use Rattle.ctl_code.specs.Table.{begun_of}
use Rattle.ctl_engine.specs.declared.engine.Engine.{Engine}
use Rattle.ctl_frames.specs.Filling.{noted_among}
use Rattle.ctl_lifetimes.proofs.Filled.{chosen_resumes, is_filling, left_in, newborn_in}
use Rattle.ctl_lifetimes.proofs.Evaluated.{chosen_led}
use Rattle.ctl_engine.proofs.Following.{makes_later}
use Rattle.ctl_frames.proofs.StillLeft.{count_left}
use Rattle.ctl_lifetimes.proofs.filling.fill.Goals as goal

pub begun_at-component-requires : goal.begun_at-component-requires
begun_at-component-requires g c =
    let code = c.args.code.now in
    let x = c.args.creation in
    let top = c.requires.1.1.0 in
    let f = is_filling code c.args.engine.now x.record_type x.owner c.args.left top.0 top.1 g.s c.requires.1.0 top.2 in
    let chosen = c.choose-chosen.ensures.chosen (begun_of code x.record_type) (left_in g.s.control) f.are in
    let b : Begun = record { position = 0; offset = 0; initial = Constant 0 } in
    slice_get_within (begun_of code x.record_type) c.choose-chosen.result.at _ (chosen.chosen b)

pub begin_chosen-requires : goal.begin_chosen-requires
begin_chosen-requires g c =
    let code = c.args.code.now in
    let x = c.args.creation in
    let top = c.requires.1.1.0 in
    let f = is_filling code c.args.engine.now x.record_type x.owner c.args.left top.0 top.1 g.s c.requires.1.0 top.2 in
    let all = begun_of code x.record_type in
    let left = left_in g.s.control in
    let chosen = c.choose-chosen.ensures.chosen all left f.are in
    let rest = chosen.rest in
    let led = subst (λ (k : List T.Frame). SpeakOfKnown code k) f.is c.requires.1.0.frames in
    let many : length left ≡ c.args.left.last - c.args.left.first = count_left all left c.args.left f.are in
    let some = c.requires.1.1.1 in
    let it = subst (λ t. IsLed code t c.begun_at-component.result) f.grows.is_of.type_is (chosen_led code (newborn_in g.s.control).type c.choose-chosen.result.pick c.choose-chosen.result.at all left c.begun_at-component.result led.0 (omega (arith, many, some)) chosen.chosen c.begun_at-component.ensures) in (
      c.requires.0,
      (
        record { is_of = f.grows.is_of; newest = f.grows.newest; holds = f.grows.holds; spots = f.grows.spots; waits = f.grows.waits; sized = f.grows.sized },
        (f.are, (record { rising = rest.rising; within = rest.within; are = refl }, (f.creation, it))),
      ),
    )

pub returns-clause-ok : goal.returns-clause-ok
returns-clause-ok g c = λ h.
    let code = c.args.code.now in
    let old = c.args.engine.now in
    let x = c.args.creation in
    let top = c.requires.1.1.0 in
    let f = is_filling code old x.record_type x.owner c.args.left top.0 top.1 g.s c.requires.1.0 top.2 in
    let pick = c.choose-chosen.result.pick in
    let ready : Engine = record old { picks = c.reserve.new.vector } in
    let mid = c.begin_chosen.new.engine in
    let made = makes_later code old ready mid _ refl c.in_ok-reserve.ensures.items c.in_ok-begin_chosen.ensures.ok in
    chosen_resumes code old mid _ x.record_type x.owner c.args.left top.0 c.choose-chosen.result.rest pick c.choose-chosen.result.at g.s c.begun_at-component.result c.args.order h f c.requires.1.1.1 c.begun_at-component.ensures
    (c.choose-chosen.ensures.chosen (begun_of code x.record_type)) c.choose-chosen.ensures.pick made refl
    (c.note_pick.ensures ∙ (ap (λ (l : List ℕ). l ++ noted_among c.count.result pick) (ap (λ v. v.items) c.in_ok-begin_chosen.ensures.picks ∙ c.in_ok-reserve.ensures.items) ∙ ap (λ n. old.picks.items ++ noted_among n pick) c.count.ensures))
