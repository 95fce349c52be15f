use Rattle.std.proofs.Common.{◌≡◌, drop}
use Rattle.std.specs.Prelude.{is_some}
use Rattle.wait_core.specs.Parties.{phase_of}
use Rattle.wait_script.proofs.lists.is_attached.Given as goal

abbrev pub invariant-attachments : goal.invariant-attachments
invariant-attachments l = is_some (phase_of l.attached l.barrier) ≡ is_some (phase_of (drop l.attachment-index l.attached) l.barrier)
