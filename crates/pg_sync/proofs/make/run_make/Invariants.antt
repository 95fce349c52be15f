use Rattle.pg_sync.proofs.make.run_make.Given as goal

abbrev pub ghosts-made_pairs : goal.ghosts-made_pairs
ghosts-made_pairs g a = record { name = a.blank.name; parts = a.blank.parts }
