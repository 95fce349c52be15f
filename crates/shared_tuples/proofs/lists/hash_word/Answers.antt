use Rattle.std.proofs.Common.{arith}
use Rattle.shared_tuples.proofs.Hashes.{hash_word_found}
use Rattle.shared_tuples.proofs.lists.hash_word.Goals as goal

pub client-requires-clause-may : goal.client-requires-clause-may
client-requires-clause-may c κs = (c.requires.row.1, tt)

pub overflow_cast-result : goal.overflow_cast-result
overflow_cast-result c =
    let stood = c.client.ensures.stood in
    let found = hash_word_found c.args.waits.now.party _ _ _ stood.rule.client _ c.args.seat.now.view stood.step c.args.row c.client.result.old c.requires.row.0 stood.read in
    let few = found.1 in omega arith

pub returns-clause-hash : goal.returns-clause-hash
returns-clause-hash c =
    let stood = c.client.ensures.stood in
    (hash_word_found c.args.waits.now.party _ _ _ stood.rule.client _ c.args.seat.now.view stood.step c.args.row c.client.result.old c.requires.row.0 stood.read).0
