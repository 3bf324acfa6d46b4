use Rattle.ctl_places.proofs.returning.return_record.Given as goal

abbrev pub ghost-cells_on_top : goal.ghost-cells_on_top
ghost-cells_on_top g a = g.s
