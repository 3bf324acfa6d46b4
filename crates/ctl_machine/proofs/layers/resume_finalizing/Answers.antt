use Rattle.std.proofs.Common.{◌≡◌, ◌∷◌, ◌∙◌, List, [], refl, ap, sym, reverse}
use Rattle.std.proofs.lemmas.List.{reverse-append}
use Rattle.ctl_engine.specs.declared.engine.Engine.{Engine}
use Rattle.ctl_frames.specs.declared.frame.Frame.{Frame}
use Rattle.ctl_frames.specs.declared.frame.Mode.TheVariants.{Giving}
use Rattle.ctl_frames.specs.declared.frame.Frame.TheVariants as FrameOf
use Rattle.ctl_engine.proofs.Leaves.{tail_is}
use Rattle.ctl_allocations.proofs.Resumed.{resumes_finalizing}
use Rattle.ctl_machine.proofs.layers.resume_finalizing.Goals as goal
use Rattle.ctl_engine.proofs.Stocked.{stock_so}

pub returns : goal.returns
returns g c =
    let old = c.args.engine.now in
    let cause = c.args.cause in
    let number = c.args.number in
    let top = c.requires.1.1 in
    let before = c.requires.1.0 in
    let x = c.close_after.new.engine.stock in
    let ended : Engine = record old { stock = c.end_finalization.new.self } in
    let same : c.close_after.new.engine ≡ record ended { stock = x } = c.close_after.ensures.same in
    let control : c.close_after.new.engine.control ≡ old.control = ap (λ (e : Engine). e.control) same in
    let last : reverse old.control.items ≡ c.take_last.result ∷ reverse c.take_last.new.self.items = ap (λ v. reverse v.items) (sym control) ∙ (ap (λ (l : List Frame). reverse l) c.take_last.ensures.items ∙ reverse-append c.take_last.new.self.items (c.take_last.result ∷ [])) in
    let mid : Engine = record ended { control = c.take_last.new.self; mode = Giving c.remembered.result } in
    let new : Engine = record c.close_after.new.engine { control = c.take_last.new.self; mode = Giving c.remembered.result } in
    record {
      done = resumes_finalizing c.args.code.now old mid new c.args.ended c.remembered.result g.s.control g.s.operands g.s.world cause number top.0 before.holds before.spots before.sized top.1 c.remembered.ensures
          (record {
            mode = refl;
            control = tail_is c.take_last.result (FrameOf.Finalizing cause number) (reverse c.take_last.new.self.items) top.0 (sym last ∙ top.1);
            masters = refl;
            cells = refl;
            owned = refl;
            stock = stock_so c.end_finalization.new.self old.stock _ c.end_finalization.ensures.objects c.end_finalization.ensures.same;
            saved = refl;
            noted = refl;
            formals = refl;
            spots = refl;
            given_masters = refl;
            numbered = refl;
            events = refl;
            picks = refl;
          })
          c.close_after.ensures.closed (ap (λ (e : Engine). record e { control = c.take_last.new.self; mode = Giving c.remembered.result }) same);
    }
