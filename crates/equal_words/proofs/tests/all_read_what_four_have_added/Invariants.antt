use Rattle.std.proofs.Common.{◌≡◌, [], None, Some}
use Rattle.equal_words.specs.declared.Progress.TheVariants.{Fresh}
use Rattle.equal_words.proofs.tests.all_read_what_four_have_added.Given as goal

abbrev pub invariant-loop : goal.invariant-loop
invariant-loop g l = (l.zero.table_id ≡ l.initial.zero.table_id) × (l.zero.view.own ≡ Some 0) × (l.zero.view.place ≡ []) × (l.zero.view.target ≡ None) × (l.zero.view.attached ≡ []) × (l.zero.view.client ≡ Fresh)
