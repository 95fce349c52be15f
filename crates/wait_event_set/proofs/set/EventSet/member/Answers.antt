use Rattle.std.proofs.Common.{◌≡◌, List, get_or, sym, ◌∙◌, subst}
use mathlib.Core.Option as maybe
use lib.ListN.{get_elem?}
use Rattle.wait_event_set.specs.declared.set.Event.TheVariants.{Latch}
use Rattle.wait_event_set.specs.declared.set.Member.{Member}
use Rattle.wait_event_set.proofs.Found.{at_get}
use Rattle.wait_event_set.proofs.set.EventSet.member.Goals as goal

pub returns : goal.returns
returns c =
    let ms = c.args.self.now in
    subst (λ (l : List Member). get_elem? ms c.args.at ≡ maybe.some (get_or l c.args.at record { event = Latch; user = 0 })) (sym (c.deref.ensures.0 ∙ c.self.view_is)) (at_get ms c.args.at record { event = Latch; user = 0 } c.requires)
