use Rattle.tb_pipe_tests.proofs.tests.run_over.Goals as goal

pub drive_over-requires-clause-seen : goal.drive_over-requires-clause-seen
drive_over-requires-clause-seen g c κs within = c.requires.seen c.in-Ok.opened.submitters.items
