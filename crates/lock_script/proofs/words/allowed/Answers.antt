use Rattle.lw_core.proofs.Flags.{or_ok}
use Rattle.lock_script.proofs.words.allowed.Goals as goal

pub returns : goal.returns
returns c = or_ok c.args.word
