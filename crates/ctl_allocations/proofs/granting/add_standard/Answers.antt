use Rattle.std.proofs.Common.{◌+◌, refl}
use Rattle.ctl_code.specs.Table.{cells_for}
use Rattle.ctl_meaning.specs.World.{Standard}
use Rattle.ctl_engine.specs.Shows.{kept}
use Rattle.ctl_places.proofs.Granted.{member_kept, standard_shown}
use Rattle.ctl_allocations.proofs.granting.add_standard.Goals as goal

pub returns-clause-ok : goal.returns-clause-ok
returns-clause-ok g c =
    let code = c.args.code.now in
    let old = c.args.engine.now in
    let w = g.s.world in
    let n = old.numbered.objects + 1 in
    let x = c.allocate.new.self in
    let of = c.args.of in
    record {
      granted = refl;
      member = record {
        kept = member_kept (kept old) x n c.args.set of c.cells_for-size.result (cells_for code of) Standard refl c.cells_for-size.ensures c.in_ok-allocate.ensures.ok c.allocate.ensures.needs;
        pools = standard_shown code c.args.set (n + 1) of w x (c.in_ok-allocate.ensures.pools w.pools c.requires.0.pools);
      };
    }
