use Rattle.join_end.proofs.tests.one_worker_joins_two_tables.Given as goal

abbrev pub ghosts-join_alone : goal.ghosts-join_alone
ghosts-join_alone g a = record { name = a.blank.name; parts = a.blank.parts }
