use Rattle.std.proofs.Common.{◌≡◌, ℕ, arith, subst}
use Rattle.signal_core.proofs.OpeningWords.{OpensBelow, opens_more, opens_all}
use Rattle.signal_core.proofs.words.opening_words.Goals as goal

pub loop-p-preserved : goal.loop-p-preserved
loop-p-preserved c = let long = c.loop-p.invariant.long in opens_more c.loop-p.words.items c.loop-p.p c.args.about (omega arith) c.loop-p.invariant

pub returns : goal.returns
returns c = let most = c.loop-p.auto.p-end in let least = c.loop-p-test.false in let all : c.loop-p.p ≡ c.args.about.procs = omega arith in opens_all c.args.about c.loop-p.words.items (subst (λ (n : ℕ). OpensBelow n c.args.about c.loop-p.words.items) all c.loop-p.invariant)
