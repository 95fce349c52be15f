use Rattle.pg_sync.proofs.join.join_inputs.Given as goal

abbrev pub ghosts-print_join : goal.ghosts-print_join
ghosts-print_join g a = record { name = a.blank.name; parts = a.blank.parts }
