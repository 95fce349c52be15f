use Rattle.signal_script.proofs.steps.step_in.Goals as goal

pub returns-in-Taking-clause-within : goal.returns-in-Taking-clause-within
returns-in-Taking-clause-within c = c.asked.ensures.within c.args.procs
