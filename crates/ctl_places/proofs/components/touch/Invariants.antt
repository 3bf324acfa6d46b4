use Rattle.ctl_places.proofs.components.touch.Given as goal

abbrev pub ghost-touch_object : goal.ghost-touch_object
ghost-touch_object g a = g.s
