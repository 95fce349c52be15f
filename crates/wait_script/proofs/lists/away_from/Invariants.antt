use Rattle.std.proofs.Common.{◌≡◌, ◌++◌, drop}
use Rattle.wait_core.specs.Jobs.{away_from}
use Rattle.wait_script.proofs.lists.away_from.Given as goal

abbrev pub invariant-attachments : goal.invariant-attachments
invariant-attachments l = l.others.items ++ away_from l.barrier (drop l.attachment-index l.attached) ≡ away_from l.barrier l.attached
