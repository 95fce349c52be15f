use Rattle.std.proofs.Common.{◌≡◌, Some}
use Rattle.equal_words.proofs.tests.whoever_comes_reads_equal_words.Given as goal

abbrev pub invariant-loop : goal.invariant-loop
invariant-loop g l = (l.zero.table_id ≡ l.initial.zero.table_id) × (l.zero.view.own ≡ Some 0)
