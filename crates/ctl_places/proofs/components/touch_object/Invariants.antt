use Rattle.ctl_places.proofs.components.touch_object.Given as goal

abbrev pub ghost-fetch_part : goal.ghost-fetch_part
ghost-fetch_part g a = g.s

abbrev pub ghost-locate : goal.ghost-locate
ghost-locate g a = g.s

abbrev pub ghost-store_part : goal.ghost-store_part
ghost-store_part g a = g.s

abbrev pub ghost-select : goal.ghost-select
ghost-select g a = g.s

abbrev pub ghost-take_part : goal.ghost-take_part
ghost-take_part g a = g.s

abbrev pub ghost-take_discriminant : goal.ghost-take_discriminant
ghost-take_discriminant g a = g.s

abbrev pub ghost-designate_variable : goal.ghost-designate_variable
ghost-designate_variable g a = g.s

abbrev pub ghost-give_value : goal.ghost-give_value
ghost-give_value g a = g.s

abbrev pub ghost-pass_component : goal.ghost-pass_component
ghost-pass_component g a = g.s

abbrev pub ghost-drop_part : goal.ghost-drop_part
ghost-drop_part g a = g.s
