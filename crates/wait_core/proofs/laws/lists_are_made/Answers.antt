use Rattle.wait_core.proofs.laws.lists_are_made.Goals as goal

pub returns : goal.returns
returns g c = λ s r. r.lists_made
