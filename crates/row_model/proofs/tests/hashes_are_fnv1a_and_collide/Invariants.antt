use Rattle.row_model.proofs.tests.hashes_are_fnv1a_and_collide.Given as goal

abbrev pub ghosts-looks : goal.ghosts-looks
ghosts-looks g a = record { name = a.blank.name; parts = a.blank.parts }
