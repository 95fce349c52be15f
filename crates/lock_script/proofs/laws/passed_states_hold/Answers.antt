use Rattle.lock_script.proofs.HeaderFacts.{header_fits}
use Rattle.lock_script.proofs.PassedStates.{all_passed}
use Rattle.lock_script.proofs.laws.passed_states_hold.Goals as goal

pub returns : goal.returns
returns c = λ line size lines is. let fits = header_fits line size is in all_passed size fits.locks fits.procs lines
