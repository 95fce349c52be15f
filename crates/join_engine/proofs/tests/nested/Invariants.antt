use Rattle.join_engine.proofs.tests.nested.Given as goal

abbrev pub ghosts-nested_with : goal.ghosts-nested_with
ghosts-nested_with a = record { name = a.blank.name; parts = a.blank.parts }
