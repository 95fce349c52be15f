use Rattle.hash_build.proofs.tests.threads.under_way.stand_in.Given as goal

abbrev pub ghosts-hash_until_wanted : goal.ghosts-hash_until_wanted
ghosts-hash_until_wanted g a = record { name = a.blank.name; parts = a.blank.parts }
