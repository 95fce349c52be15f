use Rattle.join_law.proofs.Learned.{chain_found}
use Rattle.join_party.proofs.laws.probed_batch_is_loaded.Goals as goal

pub returns : goal.returns
returns c = λ j words views phases id v row x h s inner key running probing. chain_found j words views phases h id v s row x inner key running probing
