use Rattle.join_engine.proofs.tests.join.Given as goal

abbrev pub ghosts-join_with : goal.ghosts-join_with
ghosts-join_with g a = record { name = a.blank.name; parts = a.blank.parts }
