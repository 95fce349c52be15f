use Rattle.wait_core.proofs.laws.words_are_made.Goals as goal

pub returns : goal.returns
returns g c = λ s r. r.made
