use Rattle.std.proofs.Common.{◌∙◌, refl, sym, true≢false}
use Rattle.wait_event_set.specs.declared.set.Event.TheVariants.{Latch}
use Rattle.wait_event_set.proofs.Found.{first_here, none_more, none_such}
use Rattle.wait_event_set.proofs.set.EventSet.first.Goals as goal

pub returns-then-is : goal.returns-then-is
returns-then-is c =
    first_here c.deref-member-items.result.now c.args.self.now c.args.event c.loop-at.at record { event = Latch; user = 0 } (c.deref-member-items.ensures.0 ∙ c.self.view_is) c.loop-at-test.true (c.if-is.ensures.0 refl) c.loop-at.invariant

pub loop-at-preserved : goal.loop-at-preserved
loop-at-preserved c = none_more c.deref-member-items.result.now c.args.event c.loop-at.at record { event = Latch; user = 0 } c.loop-at-test.true (λ is. true≢false (sym (c.if-is.ensures.1 is))) c.loop-at.invariant

pub returns : goal.returns
returns c = none_such c.deref-member-items.result.now c.args.self.now c.args.event c.loop-at.at (c.deref-member-items.ensures.0 ∙ c.self.view_is) c.loop-at-test.false c.loop-at.invariant
