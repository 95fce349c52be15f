use Rattle.hash_probe.proofs.tests.threads.run_ahead.Given as goal

abbrev pub ghosts-work_ahead : goal.ghosts-work_ahead
ghosts-work_ahead g a = record { name = a.blank.name; parts = a.blank.parts }
