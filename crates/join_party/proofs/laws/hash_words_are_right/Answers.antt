use Rattle.join_law.proofs.Learned.{hash_found}
use Rattle.join_party.proofs.laws.hash_words_are_right.Goals as goal

pub returns : goal.returns
returns c = λ j words views phases id v row n h s inside known found. hash_found j words views phases h id v s row n found inside known
