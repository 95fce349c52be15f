use Rattle.std.proofs.Common.{◌≡◌, ◌++◌, drop}
use Rattle.signal_script.specs.Signals.{changed_words}
use Rattle.signal_script.proofs.texts.push_changed.Given as goal

abbrev pub invariant-words : goal.invariant-words
invariant-words l = l.initial.out.items ++ changed_words l.about (drop 1 l.words) 1 ≡ l.out.items ++ changed_words l.about (drop l.word l.words) l.word
