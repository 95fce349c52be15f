use Rattle.std.proofs.Common.{◌≡◌, ◌++◌, drop}
use Rattle.lock_script.specs.Locks.{changed_word}
use Rattle.script_play.specs.Texts.{texts_of}
use Rattle.lock_script.proofs.texts.push_changed.Given as goal

abbrev pub invariant-words : goal.invariant-words
invariant-words l = l.initial.out.items ++ texts_of (changed_word l.size) (drop 1 l.words) 1 ≡ l.out.items ++ texts_of (changed_word l.size) (drop l.word l.words) l.word
