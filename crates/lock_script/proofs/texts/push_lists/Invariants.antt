use Rattle.std.proofs.Common.{◌≡◌, ◌++◌, drop, map}
use Rattle.lock_script.specs.Locks.{list_text}
use Rattle.script_play.specs.Texts.{texts_of}
use Rattle.lock_script.proofs.texts.push_lists.Given as goal

abbrev pub invariant-lists : goal.invariant-lists
invariant-lists l = l.initial.out.items ++ texts_of list_text (map (λ h. h.items) l.homes) 0 ≡ l.out.items ++ texts_of list_text (drop l.lock (map (λ h. h.items) l.homes)) l.lock
