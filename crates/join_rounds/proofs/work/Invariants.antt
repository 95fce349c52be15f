use Rattle.join_rounds.proofs.work.Given as goal

abbrev pub ghosts-take_part : goal.ghosts-take_part
ghosts-take_part g a = record { name = a.blank.name; parts = a.blank.parts }
