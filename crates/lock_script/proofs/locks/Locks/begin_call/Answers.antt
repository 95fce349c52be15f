use Rattle.std.proofs.Common.{◌≡◌, ◌∙◌, ◌<◌, ℕ, List, Some, map, set, length, sym, subst, arith}
use Rattle.lock_script.specs.declared.locks.Backend.{Backend}
use Rattle.script_play.specs.Play.{ComesTo}
use Rattle.lock_script.specs.Locks.{ask_of}
use Rattle.lock_script.specs.LockSketch.{Counts, Sketch, Stand, begins, stand_at, stand_of}
use Rattle.lock_script.proofs.LockFacts.{begins-by, counts-begun, items, stand-at}
use Rattle.script_play.proofs.ListFacts.{below-true, map-set}
use Rattle.lock_script.proofs.locks.Locks.begin_call.Goals as goal

pub returns-clause-begun : goal.returns-clause-begun
returns-clause-begun c =
    let backends : List Backend = c.self.inside.backends.items in
    let s : Sketch = record { size = c.self.inside.size; words = c.self.inside.words.items; homes = map items c.self.inside.homes.items; stands = map stand_of backends } in
    let p : ℕ = c.args.proc in
    let below : p < s.size.procs = omega (arith, c.if-proc-from.false, c.from.ensures) in
    let near : p < length backends = omega (arith, below, c.self.invariant.backends_are) in
    let old : Backend = c.index_mut.result.now in
    let new : Backend = c.begin.new.self in
    let asks : ask_of s.size c.args.call.now ≡ Some c.in-Some.ask = sym c.ask_of.ensures.ask ∙ c.in-Some.is in
    let at : stand_at s p ≡ stand_of old = stand-at backends p old near c.index_mut.ensures.value in
    let comes = begins-by s p c.args.call.now c.in-Some.ask (stand_of old) (stand_of new) c.begin.result (below-true p s.size.procs below) asks at c.begin.ensures.begun in
    let made : List Stand → Sketch = λ t. record { size = s.size; words = s.words; homes = s.homes; stands = t } in
    subst (λ (t : Sketch). ComesTo (begins t p c.args.call.now) c.begin.result (made (map stand_of (set backends p new)))) c.self.view_is
    (subst (λ (t : List Stand). ComesTo (begins s p c.args.call.now) c.begin.result (made t)) (sym (map-set stand_of backends p new)) comes)

pub returns-clause-counts : goal.returns-clause-counts
returns-clause-counts c = λ n counts.
    let backends : List Backend = c.self.inside.backends.items in
    let s : Sketch = record { size = c.self.inside.size; words = c.self.inside.words.items; homes = map items c.self.inside.homes.items; stands = map stand_of backends } in
    let p : ℕ = c.args.proc in
    let below : p < s.size.procs = omega (arith, c.if-proc-from.false, c.from.ensures) in
    let near : p < length backends = omega (arith, below, c.self.invariant.backends_are) in
    let old : Backend = c.index_mut.result.now in
    let new : Backend = c.begin.new.self in
    let at : stand_at s p ≡ stand_of old = stand-at backends p old near c.index_mut.ensures.value in
    let made : List Stand → Sketch = λ t. record { size = s.size; words = s.words; homes = s.homes; stands = t } in
    subst (λ (t : List Stand). Counts (made t) n) (sym (map-set stand_of backends p new))
    (counts-begun s n p (stand_of old) (stand_of new) (subst (λ (t : Sketch). Counts t n) (sym c.self.view_is) counts) at c.begin.ensures.surplus c.begin.ensures.pokes)
