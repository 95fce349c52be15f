use Rattle.signal_script.proofs.HeaderFacts.{header_fits}
use Rattle.signal_script.proofs.PassedStates.{all_passed}
use Rattle.signal_script.proofs.laws.passed_states_hold.Goals as goal

pub returns : goal.returns
returns c = λ line about lines is. let fits = header_fits line about is in all_passed about fits.procs.0 fits.procs.1 fits.generation lines
