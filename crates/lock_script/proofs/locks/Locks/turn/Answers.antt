use Rattle.std.proofs.Common.{◌≡◌, ◌∙◌, ◌<◌, ◌+◌, ◌++◌, ℕ, List, [], Vec, Global, map, get_or, set, length, refl, sym, ap, subst, arith}
use Rattle.std.specs.Prelude.{OnOk, slice_index, slice_index_or}
use Rattle.std.proofs.lemmas.List.{get_or_read, length-map, length-set}
use Rattle.lw_core.specs.declared.step.LwStep.{LwStep}
use Rattle.lw_core.specs.declared.view.Waiter.{Waiter}
use Rattle.lw_core.specs.WaitLists.{AllBelow}
use Rattle.lw_core.specs.Machine.{becomes, lock_number, word_of}
use Rattle.lock_script.specs.declared.locks.Backend.{Backend}
use Rattle.proc_table.specs.declared.Mode.{Mode}
use Rattle.lock_script.specs.Locks.{answer, answer_line, ask_lock, ended, mode_held, step_at, step_line}
use Rattle.lock_script.specs.LockSketch.{Counts, Sketch, Stand, frames, mode_at, stand_at, stand_of, told, turn}
use Rattle.lock_script.proofs.LockFacts.{counts-after, home-at, items, set-fits, stand-at, told-by, turned-by}
use Rattle.script_play.proofs.ListFacts.{map-set, on_ok}
use Rattle.lock_script.proofs.locks.Locks.turn.Goals as goal

pub went-requires-clause-home : goal.went-requires-clause-home
went-requires-clause-home c =
    let homes : List (Vec Waiter Global) = c.self.inside.homes.items in
    let l : ℕ = c.lock_number.result in
    let inside : l < length homes = omega (arith, c.in_ok-step.ensures.fits.lock, c.lock_number.ensures, c.self.invariant.homes_are, length-map homes items) in
    subst (λ (us : List Waiter). AllBelow c.self.inside.size.procs us) (home-at homes l c.index_mut-home.result.now inside c.index_mut-home.ensures.value) (c.self.invariant.lists l)

pub invariant_of-self-in_err-went : goal.invariant_of-self-in_err-went
invariant_of-self-in_err-went c =
    set-fits c.self.inside.size c.self.inside.words.items c.self.inside.words.items c.self.inside.homes.items c.self.inside.backends.items c.lock_number.result c.number.result c.went.new.home c.went.new.backend c.self.invariant refl c.went.ensures.below c.went.ensures.fits

pub invariant_of-self-2 : goal.invariant_of-self-2
invariant_of-self-2 c =
    set-fits c.self.inside.size c.self.inside.words.items (set c.self.inside.words.items c.word_of-word.result c.becomes-left.result) c.self.inside.homes.items c.self.inside.backends.items c.lock_number.result c.number.result c.went.new.home c.went.new.backend
    c.self.invariant (length-set c.self.inside.words.items c.word_of-word.result c.becomes-left.result) c.went.ensures.below c.went.ensures.fits

pub returns-clause-turned : goal.returns-clause-turned
returns-clause-turned c =
    let words : List ℕ = c.self.inside.words.items in
    let homes : List (Vec Waiter Global) = c.self.inside.homes.items in
    let backends : List Backend = c.self.inside.backends.items in
    let s : Sketch = record { size = c.self.inside.size; words = words; homes = map items homes; stands = map stand_of backends } in
    let old : Backend = c.index_mut-backend.result.now in
    let new : Backend = c.went.new.backend in
    let k : LwStep = c.in_ok-step.step in
    let own : ℕ = c.args.own in
    let i : ℕ = c.word_of-word.result in
    let n : ℕ = c.index-found.result.now in
    let x : ℕ = c.becomes-left.result in
    let l : ℕ = c.lock_number.result in
    let below : own < s.size.procs = subst (λ (t : Sketch). own < t.size.procs) (sym c.self.view_is) c.requires.own in
    let at : c.number.result ≡ own = c.number.ensures.number in
    let near : c.number.result < length backends = omega (arith, below, at, c.self.invariant.backends_are) in
    let is : stand_at s own ≡ stand_of old = ap (λ (p : ℕ). stand_at s p) (sym at) ∙ stand-at backends c.number.result old near c.index_mut-backend.ensures.value in
    let word : i ≡ word_of s.size own k = c.word_of-word.ensures in
    let inside : i < length words = omega (arith, c.in_ok-step.ensures.fits.word, word, c.self.invariant.words_are) in
    let read : n ≡ slice_index words i = get_or_read words _ _ inside c.index-found.ensures 0 in
    let lock : c.number-lock.result ≡ ask_lock c.args.ask = c.number-lock.ensures.number ∙ c.ask_lock.ensures in
    let step : k ≡ step_at own c.args.ask (mode_held (mode_at old.modes (ask_lock c.args.ask))) (frames old.spot) =
    c.in_ok-step.ensures.step ∙ ap (λ (m : Mode). step_at own c.args.ask m (frames old.spot)) (c.mode_held-mode.ensures ∙ ap (λ (j : ℕ). mode_held (mode_at old.modes j)) lock) in
    let within : l < length homes = omega (arith, c.in_ok-step.ensures.fits.lock, c.lock_number.ensures, c.self.invariant.homes_are, length-map homes items) in
    let home : c.index_mut-home.result.now.items ≡ slice_index_or s.homes (lock_number k) [] =
    sym (home-at homes l c.index_mut-home.result.now within c.index_mut-home.ensures.value) ∙ ap (λ (j : ℕ). get_or s.homes j []) c.lock_number.ensures in
    let same = turned-by s own i n x c.args.ask (stand_of old) (stand_of new) k c.index_mut-home.result.now.items c.went.new.home.items step word read c.becomes-left.ensures home c.in_ok-went.ensures.home c.in_ok-went.ensures.stand in
    let made : List (List Waiter) → List Stand → Sketch = λ hs bs. record { size = s.size; words = set words i x; homes = hs; stands = bs } in
    let homes_is = map-set items homes l c.went.new.home ∙ ap (λ (j : ℕ). set s.homes j c.went.new.home.items) c.lock_number.ensures in
    let stands_is = map-set stand_of backends c.number.result new ∙ ap (λ (p : ℕ). set s.stands p (stand_of new)) at in
    on_ok c.push_turn.result _
    (ap (λ (hs : List (List Waiter)). made hs (map stand_of (set backends c.number.result new))) homes_is ∙ ap (λ (bs : List Stand). made (set s.homes (lock_number k) c.went.new.home.items) bs) stands_is
    ∙ same ∙ ap (λ (b : Stand). (turn s own b c.args.ask).0) (sym is) ∙ ap (λ (t : Sketch). (turn t own (stand_at t own) c.args.ask).0) c.self.view_is)

pub returns-clause-text : goal.returns-clause-text
returns-clause-text c =
    let words : List ℕ = c.self.inside.words.items in
    let homes : List (Vec Waiter Global) = c.self.inside.homes.items in
    let backends : List Backend = c.self.inside.backends.items in
    let s : Sketch = record { size = c.self.inside.size; words = words; homes = map items homes; stands = map stand_of backends } in
    let old : Backend = c.index_mut-backend.result.now in
    let new : Backend = c.went.new.backend in
    let k : LwStep = c.in_ok-step.step in
    let own : ℕ = c.args.own in
    let i : ℕ = c.word_of-word.result in
    let n : ℕ = c.index-found.result.now in
    let x : ℕ = c.becomes-left.result in
    let l : ℕ = c.lock_number.result in
    let below : own < s.size.procs = subst (λ (t : Sketch). own < t.size.procs) (sym c.self.view_is) c.requires.own in
    let at : c.number.result ≡ own = c.number.ensures.number in
    let near : c.number.result < length backends = omega (arith, below, at, c.self.invariant.backends_are) in
    let is : stand_at s own ≡ stand_of old = ap (λ (p : ℕ). stand_at s p) (sym at) ∙ stand-at backends c.number.result old near c.index_mut-backend.ensures.value in
    let word : i ≡ word_of s.size own k = c.word_of-word.ensures in
    let inside : i < length words = omega (arith, c.in_ok-step.ensures.fits.word, word, c.self.invariant.words_are) in
    let read : n ≡ slice_index words i = get_or_read words _ _ inside c.index-found.ensures 0 in
    let lock : c.number-lock.result ≡ ask_lock c.args.ask = c.number-lock.ensures.number ∙ c.ask_lock.ensures in
    let step : k ≡ step_at own c.args.ask (mode_held (mode_at old.modes (ask_lock c.args.ask))) (frames old.spot) =
    c.in_ok-step.ensures.step ∙ ap (λ (m : Mode). step_at own c.args.ask m (frames old.spot)) (c.mode_held-mode.ensures ∙ ap (λ (j : ℕ). mode_held (mode_at old.modes j)) lock) in
    let within : l < length homes = omega (arith, c.in_ok-step.ensures.fits.lock, c.lock_number.ensures, c.self.invariant.homes_are, length-map homes items) in
    let home : c.index_mut-home.result.now.items ≡ slice_index_or s.homes (lock_number k) [] =
    sym (home-at homes l c.index_mut-home.result.now within c.index_mut-home.ensures.value) ∙ ap (λ (j : ℕ). get_or s.homes j []) c.lock_number.ensures in
    let same : told s.size own c.args.ask k n (stand_of new) ≡ (turn s own (stand_of old) c.args.ask).1 =
    told-by s own i n c.args.ask (stand_of old) (stand_of new) k c.index_mut-home.result.now.items step word read home c.in_ok-went.ensures.stand in
    let line : ℕ → List ℕ = λ j. step_line s.size own k n (word_of s.size own k) (becomes k n) ++ ended new.ask (answer_line own (answer c.args.ask n (mode_at new.modes j) new.waited new.heard)) in
    subst (λ (t : List ℕ). OnOk c.push_turn.result (c.push_turn.new.out.items ≡ c.args.out.now.items ++ t))
    (ap line lock ∙ same ∙ ap (λ (b : Stand). (turn s own b c.args.ask).1) (sym is) ∙ ap (λ (t : Sketch). (turn t own (stand_at t own) c.args.ask).1) c.self.view_is) c.push_turn.ensures

pub returns-clause-counts : goal.returns-clause-counts
returns-clause-counts c =
    let words : List ℕ = c.self.inside.words.items in
    let homes : List (Vec Waiter Global) = c.self.inside.homes.items in
    let backends : List Backend = c.self.inside.backends.items in
    let s : Sketch = record { size = c.self.inside.size; words = words; homes = map items homes; stands = map stand_of backends } in
    let old : Backend = c.index_mut-backend.result.now in
    let new : Backend = c.went.new.backend in
    let k : LwStep = c.in_ok-step.step in
    let own : ℕ = c.args.own in
    let i : ℕ = c.word_of-word.result in
    let n : ℕ = c.index-found.result.now in
    let x : ℕ = c.becomes-left.result in
    let l : ℕ = c.lock_number.result in
    let below : own < s.size.procs = subst (λ (t : Sketch). own < t.size.procs) (sym c.self.view_is) c.requires.own in
    let at : c.number.result ≡ own = c.number.ensures.number in
    let near : c.number.result < length backends = omega (arith, below, at, c.self.invariant.backends_are) in
    let is : stand_at s own ≡ stand_of old = ap (λ (p : ℕ). stand_at s p) (sym at) ∙ stand-at backends c.number.result old near c.index_mut-backend.ensures.value in
    let word : i ≡ word_of s.size own k = c.word_of-word.ensures in
    let inside : i < length words = omega (arith, c.in_ok-step.ensures.fits.word, word, c.self.invariant.words_are) in
    let read : n ≡ slice_index words i = get_or_read words _ _ inside c.index-found.ensures 0 in
    let counts : Counts s c.args.made = subst (λ (t : Sketch). Counts t c.args.made) (sym c.self.view_is) c.requires.counts in
    let hs : List (List Waiter) = map items (set homes l c.went.new.home) in
    let after = counts-after s c.args.made own k hs (stand_of old) (stand_of new) counts c.in_ok-step.ensures.fits is c.went.ensures.little.0 c.went.ensures.little.1 in
    let made : List ℕ → List Stand → Sketch = λ ws bs. record { size = s.size; words = ws; homes = hs; stands = bs } in
    let words_is = ap (λ (y : ℕ). set words i y) (c.becomes-left.ensures ∙ ap (λ (m : ℕ). becomes k m) read) ∙ ap (λ (j : ℕ). set words j (becomes k (slice_index words j))) word in
    let stands_is = map-set stand_of backends c.number.result new ∙ ap (λ (p : ℕ). set s.stands p (stand_of new)) at in
    on_ok c.push_turn.result _
    (subst (λ (ws : List ℕ). Counts (made ws (map stand_of (set backends c.number.result new))) (c.args.made + 1)) (sym words_is)
    (subst (λ (bs : List Stand). Counts (made (set words (word_of s.size own k) (becomes k (slice_index words (word_of s.size own k)))) bs) (c.args.made + 1)) (sym stands_is) after))
