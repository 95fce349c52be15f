use Rattle.std.proofs.Common.{append_assoc}
use Rattle.lock_script.proofs.texts.push_heard.Goals as goal

pub returns-in_ok-push-in-Free : goal.returns-in_ok-push-in-Free
returns-in_ok-push-in-Free c = rw (c.in-Free.is, ← append_assoc, ← c.in_ok-push-in-Free.ensures) c.push_state-in-Free.ensures
