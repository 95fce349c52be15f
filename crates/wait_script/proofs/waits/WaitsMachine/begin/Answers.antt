use Rattle.std.proofs.Common.{◌≡◌, ◌∙◌, ◌<◌, Bool, ℕ, List, Some, map, set, length, sym, subst, arith}
use Rattle.std.specs.Prelude.{IfOk}
use Rattle.std.proofs.lemmas.List.{length-set}
use Rattle.std.proofs.lemmas.Result.{IfOk-weaker}
use Rattle.std.proofs.lemmas.List.Elements.{All-set}
use Rattle.wait_script.specs.declared.waits.Backend.{Backend}
use Rattle.script_play.specs.Play.{Prints}
use Rattle.script_play.proofs.ListFacts.{below-true, map-set, on_ok}
use Rattle.wait_script.specs.Waits.{ask_of}
use Rattle.wait_script.specs.WaitSketch.{BackendFits, Counts, Sketch, Stand, begins, kept_of, stand_at, stand_of, started}
use Rattle.wait_script.proofs.WaitFacts.{begins-by, counts-begun, stand-at}
use Rattle.wait_script.proofs.waits.WaitsMachine.begin.Goals as goal

pub invariant_of-self : goal.invariant_of-self
invariant_of-self c = record {
  opening = c.self.invariant.opening;
  words_are = c.self.invariant.words_are;
  homes_are = c.self.invariant.homes_are;
  backends_are = length-set c.self.inside.backends.items c.args.proc c.begin.new.self ∙ c.self.invariant.backends_are;
  lists = c.self.invariant.lists;
  each = All-set (BackendFits c.self.inside.opening.size) c.self.inside.backends.items c.args.proc c.begin.new.self c.begin.ensures.fits c.self.invariant.each;
}

pub returns-clause-begun : goal.returns-clause-begun
returns-clause-begun c =
    let backends : List Backend = c.self.inside.backends.items in
    let s : Sketch = record { opening = c.self.inside.opening; words = c.self.inside.words.items; homes = map kept_of c.self.inside.homes.items; stands = map stand_of backends } in
    let p : ℕ = c.args.proc in
    let below : p < s.opening.size.procs = omega (arith, c.if-proc-from.false, c.from.ensures) in
    let near : p < length backends = omega (arith, below, c.self.invariant.backends_are) in
    let old : Backend = c.index_mut.result.now in
    let new : Backend = c.begin.new.self in
    let asks : ask_of s.opening.size c.args.call.now ≡ Some c.in-Some.ask = sym c.ask_of.ensures.ask ∙ c.in-Some.is in
    let at : stand_at s p ≡ stand_of old = stand-at backends p old near c.index_mut.ensures.value in
    let made : List Stand → Sketch = λ t. record { opening = s.opening; words = s.words; homes = s.homes; stands = t } in
    subst (λ (t : Sketch). IfOk c.begin.result (λ (moved : Bool). Prints (begins t p c.args.call.now) moved (made (map stand_of (set backends p new))) c.args.out.now.items c.begin.new.out.items)) c.self.view_is
    (subst (λ (t : List Stand). IfOk c.begin.result (λ (moved : Bool). Prints (begins s p c.args.call.now) moved (made t) c.args.out.now.items c.begin.new.out.items)) (sym (map-set stand_of backends p new))
    (IfOk-weaker c.begin.result (λ (moved : Bool). Prints (started (stand_of old) old.ask c.in-Some.ask) moved (stand_of new) c.args.out.now.items c.begin.new.out.items) _
    (λ (moved : Bool) prints. begins-by s p c.args.call.now c.in-Some.ask (stand_of old) (stand_of new) moved c.args.out.now.items c.begin.new.out.items (below-true p s.opening.size.procs below) asks at prints) c.begin.ensures.begun))

pub returns-clause-holds : goal.returns-clause-holds
returns-clause-holds c =
    let backends : List Backend = c.self.inside.backends.items in
    let s : Sketch = record { opening = c.self.inside.opening; words = c.self.inside.words.items; homes = map kept_of c.self.inside.homes.items; stands = map stand_of backends } in
    let p : ℕ = c.args.proc in
    let below : p < s.opening.size.procs = omega (arith, c.if-proc-from.false, c.from.ensures) in
    let near : p < length backends = omega (arith, below, c.self.invariant.backends_are) in
    let old : Backend = c.index_mut.result.now in
    let new : Backend = c.begin.new.self in
    let at : stand_at s p ≡ stand_of old = stand-at backends p old near c.index_mut.ensures.value in
    let made : List Stand → Sketch = λ t. record { opening = s.opening; words = s.words; homes = s.homes; stands = t } in
    on_ok c.begin.result _ (λ n counts. subst (λ (t : List Stand). Counts (made t) n) (sym (map-set stand_of backends p new))
    (counts-begun s n p (stand_of old) (stand_of new) (subst (λ (t : Sketch). Counts t n) (sym c.self.view_is) counts) at c.begin.ensures.spot))
