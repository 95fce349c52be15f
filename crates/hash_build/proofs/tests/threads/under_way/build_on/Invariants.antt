use Rattle.hash_build.proofs.tests.threads.under_way.build_on.Given as goal

abbrev pub ghosts-finish : goal.ghosts-finish
ghosts-finish g a = record { name = a.blank.name; parts = a.blank.parts }
