use Rattle.wait_script.proofs.HeaderFacts.{header_fits}
use Rattle.wait_script.proofs.PassedStates.{all_passed}
use Rattle.wait_script.proofs.laws.passed_states_hold.Goals as goal

pub returns : goal.returns
returns c = λ line opening lines is. let fits = header_fits line opening is in all_passed opening fits.procs.0 fits.procs.1 fits.conditions fits.barriers.0 fits.barriers.1 fits.phase lines
