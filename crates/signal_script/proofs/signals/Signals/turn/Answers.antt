use Rattle.std.proofs.Common.{◌≡◌, ◌∙◌, ◌<◌, ℕ, Some, get_or, set, length, sym, ap, subst, arith}
use Rattle.std.proofs.lemmas.List.{get_or_read}
use Rattle.signal_core.specs.declared.step.SigStep.{SigStep}
use Rattle.signal_script.specs.declared.signals.Backend.{Backend}
use Rattle.signal_script.specs.SignalSketch.{BackendFits, Sketch, backend_at, idle, turn, told, went}
use Rattle.signal_script.proofs.SignalFacts.{set-fits, told-by, turned-by, went-fits, word-in}
use Rattle.script_play.proofs.ListFacts.{on_ok}
use Rattle.signal_script.proofs.signals.Signals.turn.Goals as goal

pub invariant_of-self : goal.invariant_of-self
invariant_of-self c =
    let s : Sketch = record { about = c.self.inside.about; words = c.self.inside.words.items; backends = c.self.inside.backends.items } in
    let b : Backend = c.index-backend.result.now in
    let n : ℕ = c.index-found.result.now in
    let own : ℕ = c.args.own in
    let below : own < s.about.procs = subst (λ (t : Sketch). own < t.about.procs) (sym c.self.view_is) c.requires.own in
    let at : c.number.result ≡ own = c.number.ensures.number in
    let is : b ≡ get_or s.backends own idle = get_or_read s.backends _ _ (omega (arith, c.self.invariant.backends)) c.index-backend.ensures idle ∙ ap (λ (p : ℕ). get_or s.backends p idle) at in
    let asks : b.ask ≡ Some c.args.ask = ap (λ (x : Backend). x.ask) is ∙ subst (λ (t : Sketch). (backend_at t own).ask ≡ Some c.args.ask) (sym c.self.view_is) c.requires.ask in
    let fits : BackendFits s.about.procs b = subst (λ (x : Backend). BackendFits s.about.procs x) (sym is) (c.self.invariant.each own) in
    let new : BackendFits s.about.procs c.went-next.result = subst (λ (x : Backend). BackendFits s.about.procs x)
    (sym (c.went-next.ensures ∙ ap (λ (k : SigStep). went s.about k n b) c.step_at-step.ensures.step)) (went-fits s.about own n c.args.ask b c.self.invariant.procs.0 asks fits) in
    set-fits s c.number-2.result c.word-word.result c.becomes-left.result c.went-next.result c.self.invariant (omega (arith, c.number-2.ensures.number)) new

pub returns-clause-turned : goal.returns-clause-turned
returns-clause-turned c =
    let s : Sketch = record { about = c.self.inside.about; words = c.self.inside.words.items; backends = c.self.inside.backends.items } in
    let b : Backend = c.index-backend.result.now in
    let n : ℕ = c.index-found.result.now in
    let i : ℕ = c.word-word.result in
    let x : ℕ = c.becomes-left.result in
    let own : ℕ = c.args.own in
    let below : own < s.about.procs = subst (λ (t : Sketch). own < t.about.procs) (sym c.self.view_is) c.requires.own in
    let at : c.number.result ≡ own = c.number.ensures.number in
    let is : b ≡ get_or s.backends own idle = get_or_read s.backends _ _ (omega (arith, c.self.invariant.backends)) c.index-backend.ensures idle ∙ ap (λ (p : ℕ). get_or s.backends p idle) at in
    let inside : i < length s.words = let w = word-in s.about.procs own c.step_at-step.result below c.step_at-step.ensures.within in let e = c.word-word.ensures in let f = c.self.invariant.words in omega arith in
    let read : n ≡ get_or s.words i 0 = get_or_read s.words _ _ inside c.index-found.ensures 0 in
    let same : (let r : Sketch = record { about = s.about; words = set s.words i x; backends = set s.backends own c.went-next.result } in r ≡ (turn s own b c.args.ask).0) =
    turned-by s own i n x c.args.ask b c.went-next.result c.step_at-step.result c.step_at-step.ensures.step c.word-word.ensures read c.becomes-left.ensures c.went-next.ensures in
    on_ok c.push_turn.result _ (rw (← c.self.view_is, c.number-2.ensures.number) (rw is at same))

pub returns-clause-text : goal.returns-clause-text
returns-clause-text c =
    let s : Sketch = record { about = c.self.inside.about; words = c.self.inside.words.items; backends = c.self.inside.backends.items } in
    let b : Backend = c.index-backend.result.now in
    let n : ℕ = c.index-found.result.now in
    let i : ℕ = c.word-word.result in
    let own : ℕ = c.args.own in
    let below : own < s.about.procs = subst (λ (t : Sketch). own < t.about.procs) (sym c.self.view_is) c.requires.own in
    let at : c.number.result ≡ own = c.number.ensures.number in
    let is : b ≡ get_or s.backends own idle = get_or_read s.backends _ _ (omega (arith, c.self.invariant.backends)) c.index-backend.ensures idle ∙ ap (λ (p : ℕ). get_or s.backends p idle) at in
    let inside : i < length s.words = let w = word-in s.about.procs own c.step_at-step.result below c.step_at-step.ensures.within in let e = c.word-word.ensures in let f = c.self.invariant.words in omega arith in
    let read : n ≡ get_or s.words i 0 = get_or_read s.words _ _ inside c.index-found.ensures 0 in
    let same : told own c.args.ask c.step_at-step.result n b c.went-next.result ≡ (turn s own b c.args.ask).1 =
    told-by s own i n c.args.ask b c.went-next.result c.step_at-step.result c.step_at-step.ensures.step c.word-word.ensures read c.went-next.ensures in
    rw (← c.self.view_is, ← is, ← same) c.push_turn.ensures
