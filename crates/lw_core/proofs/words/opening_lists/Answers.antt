use Rattle.std.proofs.Common.{◌≡◌, List, [], ◌∷◌, ◌++◌, length, ap, sym, subst, length-append, arith}
use Rattle.lw_core.specs.Words.{Waiters}
use Rattle.lw_core.specs.WaitLists.{AllEmpty}
use Rattle.lw_core.proofs.words.opening_lists.Goals as goal

one_more : (lists : List Waiters) (list : Waiters) → AllEmpty lists → list.items ≡ [] → AllEmpty (lists ++ list ∷ [])
one_more [] list all none = (none, tt)
one_more (x ∷ xs) list all none = (all.0, one_more xs list all.1 none)

grown : (lists after : List Waiters) (list : Waiters) → after ≡ lists ++ list ∷ [] → AllEmpty lists → list.items ≡ [] → AllEmpty after
grown lists after list is all none = subst AllEmpty (sym is) (one_more lists list all none)

pub loop-preserved : goal.loop-preserved
loop-preserved c = let more = c.in_ok-push.ensures.items in (omega (arith, ap length more, length-append {A = Waiters}), grown c.loop.lists.items c.push.new.self.items c.new.result more c.loop.invariant.1 c.new.ensures)
