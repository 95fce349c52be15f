use Rattle.join_engine.proofs.tests.hashed.Given as goal

abbrev pub ghosts-hashed_with : goal.ghosts-hashed_with
ghosts-hashed_with a = record { name = a.blank.name; parts = a.blank.parts }
