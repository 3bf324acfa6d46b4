use Rattle.ctl_places.proofs.seen.read_seen.Given as goal

abbrev pub ghost-seen_at : goal.ghost-seen_at
ghost-seen_at g a = g.s
