use Rattle.hash_build.proofs.tests.each_row_is_placed.Given as goal

abbrev pub ghosts-expect_places : goal.ghosts-expect_places
ghosts-expect_places g a = record { name = a.blank.name; parts = a.blank.parts }
