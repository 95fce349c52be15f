use Rattle.std.proofs.Common.{◌≡◌, ◌∙◌, ◌<◌, ◌+◌, ◌++◌, ℕ, List, map, set, length, refl, sym, ap, subst, arith}
use Rattle.std.specs.Prelude.{OnOk, slice_index}
use Rattle.std.proofs.lemmas.List.{get_or_read, length-map, length-set}
use Rattle.wait_core.specs.declared.step.WaitStep.{WaitStep}
use Rattle.wait_core.specs.declared.view.Kept.{Kept}
use Rattle.wait_core.specs.Lists.{AllBelow}
use Rattle.wait_core.specs.Machine.{slot_number, word_of}
use Rattle.script_play.proofs.ListFacts.{map-set, on_ok}
use Rattle.wait_script.specs.declared.homes.Home.{Home}
use Rattle.wait_script.specs.declared.waits.Backend.{Backend}
use Rattle.wait_script.specs.WaitScripts.{home_after, home_at}
use Rattle.wait_script.specs.WaitSketch.{Counts, HeldNear, Near, Sketch, Stand, frames, kept_of, shown, stand_at, stand_of, turn}
use Rattle.wait_script.proofs.HomeFacts.{held-more, held-spot}
use Rattle.wait_script.proofs.WaitFacts.{counts-after, home-at, set-fits, shown-by, stand-at, turned-by}
use Rattle.wait_script.proofs.waits.Waits.turn.Goals as goal

pub went-requires-clause-home : goal.went-requires-clause-home
went-requires-clause-home c =
    let homes : List Home = c.self.inside.homes.items in
    let x : ℕ = c.slot_number.result in
    let inside : x < length homes = omega (arith, c.step_at-step.ensures.fits.slot, c.slot_number.ensures, c.self.invariant.homes_are, length-map homes kept_of) in
    subst (λ (k : Kept). AllBelow c.self.inside.opening.size.procs k.list.items) (home-at homes x c.index_mut-home.result.now inside c.index_mut-home.ensures.value) (c.self.invariant.lists x)

pub invariant_of-self : goal.invariant_of-self
invariant_of-self c =
    set-fits c.self.inside.opening c.self.inside.words.items c.self.inside.words.items c.self.inside.homes.items c.self.inside.backends.items c.slot_number.result c.args.proc c.went.new.home c.went.new.backend c.self.invariant refl c.went.ensures.below c.went.ensures.fits

pub invariant_of-self-2 : goal.invariant_of-self-2
invariant_of-self-2 c =
    set-fits c.self.inside.opening c.self.inside.words.items (set c.self.inside.words.items c.word_of-word.result c.becomes-left.result) c.self.inside.homes.items c.self.inside.backends.items c.slot_number.result c.args.proc c.went.new.home c.went.new.backend
    c.self.invariant (length-set c.self.inside.words.items c.word_of-word.result c.becomes-left.result) c.went.ensures.below c.went.ensures.fits

pub returns-clause-turned : goal.returns-clause-turned
returns-clause-turned c =
    let words : List ℕ = c.self.inside.words.items in
    let homes : List Home = c.self.inside.homes.items in
    let backends : List Backend = c.self.inside.backends.items in
    let s : Sketch = record { opening = c.self.inside.opening; words = words; homes = map kept_of homes; stands = map stand_of backends } in
    let old : Backend = c.index_mut-backend.result.now in
    let new : Backend = c.went.new.backend in
    let k : WaitStep = c.step_at-step.result in
    let p : ℕ = c.args.proc in
    let i : ℕ = c.word_of-word.result in
    let n : ℕ = c.index-found.result.now in
    let x : ℕ = c.becomes-left.result in
    let l : ℕ = c.slot_number.result in
    let below : p < s.opening.size.procs = subst (λ (t : Sketch). p < t.opening.size.procs) (sym c.self.view_is) c.requires.proc in
    let near : p < length backends = omega (arith, below, c.self.invariant.backends_are) in
    let is : stand_at s p ≡ stand_of old = stand-at backends p old near c.index_mut-backend.ensures.value in
    let word : i ≡ word_of s.opening.size old.own k = c.word_of-word.ensures in
    let inside : i < length words = omega (arith, c.step_at-step.ensures.fits.word, word, c.self.invariant.words_are) in
    let read : n ≡ slice_index words i = get_or_read words _ _ inside c.index-found.ensures 0 in
    let within : l < length homes = omega (arith, c.step_at-step.ensures.fits.slot, c.slot_number.ensures, c.self.invariant.homes_are, length-map homes kept_of) in
    let there : home_at s.homes l ≡ kept_of c.index_mut-home.result.now = home-at homes l c.index_mut-home.result.now within c.index_mut-home.ensures.value in
    let home : kept_of c.index_mut-home.result.now ≡ home_at s.homes (slot_number k) = sym there ∙ ap (λ (j : ℕ). home_at s.homes j) c.slot_number.ensures in
    let same = turned-by s p i n x c.args.ask (stand_of old) (stand_of new) k (kept_of c.index_mut-home.result.now) (kept_of c.went.new.home) c.step_at-step.ensures.step word read c.becomes-left.ensures home c.in_ok-went.ensures.home c.in_ok-went.ensures.stand in
    let made : List Kept → List Stand → Sketch = λ hs bs. record { opening = s.opening; words = set words i x; homes = hs; stands = bs } in
    let homes_is = map-set kept_of homes l c.went.new.home ∙ ap (λ (j : ℕ). set s.homes j (kept_of c.went.new.home)) c.slot_number.ensures in
    on_ok c.push_turn.result _
    (ap (λ (hs : List Kept). made hs (map stand_of (set backends p new))) homes_is ∙ ap (λ (bs : List Stand). made (set s.homes (slot_number k) (kept_of c.went.new.home)) bs) (map-set stand_of backends p new)
    ∙ same ∙ ap (λ (b : Stand). (turn s p b c.args.ask).0) (sym is) ∙ ap (λ (t : Sketch). (turn t p (stand_at t p) c.args.ask).0) c.self.view_is)

pub returns-clause-text : goal.returns-clause-text
returns-clause-text c =
    let words : List ℕ = c.self.inside.words.items in
    let homes : List Home = c.self.inside.homes.items in
    let backends : List Backend = c.self.inside.backends.items in
    let s : Sketch = record { opening = c.self.inside.opening; words = words; homes = map kept_of homes; stands = map stand_of backends } in
    let old : Backend = c.index_mut-backend.result.now in
    let new : Backend = c.went.new.backend in
    let k : WaitStep = c.step_at-step.result in
    let p : ℕ = c.args.proc in
    let i : ℕ = c.word_of-word.result in
    let n : ℕ = c.index-found.result.now in
    let x : ℕ = c.becomes-left.result in
    let l : ℕ = c.slot_number.result in
    let below : p < s.opening.size.procs = subst (λ (t : Sketch). p < t.opening.size.procs) (sym c.self.view_is) c.requires.proc in
    let near : p < length backends = omega (arith, below, c.self.invariant.backends_are) in
    let is : stand_at s p ≡ stand_of old = stand-at backends p old near c.index_mut-backend.ensures.value in
    let word : i ≡ word_of s.opening.size old.own k = c.word_of-word.ensures in
    let inside : i < length words = omega (arith, c.step_at-step.ensures.fits.word, word, c.self.invariant.words_are) in
    let read : n ≡ slice_index words i = get_or_read words _ _ inside c.index-found.ensures 0 in
    let within : l < length homes = omega (arith, c.step_at-step.ensures.fits.slot, c.slot_number.ensures, c.self.invariant.homes_are, length-map homes kept_of) in
    let there : home_at s.homes l ≡ kept_of c.index_mut-home.result.now = home-at homes l c.index_mut-home.result.now within c.index_mut-home.ensures.value in
    let home : kept_of c.index_mut-home.result.now ≡ home_at s.homes (slot_number k) = sym there ∙ ap (λ (j : ℕ). home_at s.homes j) c.slot_number.ensures in
    let same : shown s.opening.size old.own c.args.ask k n (stand_of new) ≡ (turn s p (stand_of old) c.args.ask).1 =
    shown-by s p i n c.args.ask (stand_of old) (stand_of new) k (kept_of c.index_mut-home.result.now) c.step_at-step.ensures.step word read home c.in_ok-went.ensures.stand in
    subst (λ (t : List ℕ). OnOk c.push_turn.result (c.push_turn.new.out.items ≡ c.args.out.now.items ++ t))
    (same ∙ ap (λ (b : Stand). (turn s p b c.args.ask).1) (sym is) ∙ ap (λ (t : Sketch). (turn t p (stand_at t p) c.args.ask).1) c.self.view_is) c.push_turn.ensures

pub returns-clause-counts : goal.returns-clause-counts
returns-clause-counts c =
    let words : List ℕ = c.self.inside.words.items in
    let homes : List Home = c.self.inside.homes.items in
    let backends : List Backend = c.self.inside.backends.items in
    let s : Sketch = record { opening = c.self.inside.opening; words = words; homes = map kept_of homes; stands = map stand_of backends } in
    let old : Backend = c.index_mut-backend.result.now in
    let new : Backend = c.went.new.backend in
    let k : WaitStep = c.step_at-step.result in
    let p : ℕ = c.args.proc in
    let i : ℕ = c.word_of-word.result in
    let n : ℕ = c.index-found.result.now in
    let x : ℕ = c.becomes-left.result in
    let l : ℕ = c.slot_number.result in
    let below : p < s.opening.size.procs = subst (λ (t : Sketch). p < t.opening.size.procs) (sym c.self.view_is) c.requires.proc in
    let near : p < length backends = omega (arith, below, c.self.invariant.backends_are) in
    let is : stand_at s p ≡ stand_of old = stand-at backends p old near c.index_mut-backend.ensures.value in
    let word : i ≡ word_of s.opening.size old.own k = c.word_of-word.ensures in
    let inside : i < length words = omega (arith, c.step_at-step.ensures.fits.word, word, c.self.invariant.words_are) in
    let read : n ≡ slice_index words i = get_or_read words _ _ inside c.index-found.ensures 0 in
    let within : l < length homes = omega (arith, c.step_at-step.ensures.fits.slot, c.slot_number.ensures, c.self.invariant.homes_are, length-map homes kept_of) in
    let there : home_at s.homes l ≡ kept_of c.index_mut-home.result.now = home-at homes l c.index_mut-home.result.now within c.index_mut-home.ensures.value in
    let home : kept_of c.index_mut-home.result.now ≡ home_at s.homes (slot_number k) = sym there ∙ ap (λ (j : ℕ). home_at s.homes j) c.slot_number.ensures in
    let counts : Counts s c.args.made = subst (λ (t : Sketch). Counts t c.args.made) (sym c.self.view_is) c.requires.counts in
    let found : Near c.args.made c.index_mut-home.result.now.record = subst (λ (h : Kept). Near c.args.made h.record) there (counts.homes l) in
    let held : HeldNear (c.args.made + 1) (frames new.spot) = held-more c.args.made (frames new.spot) (held-spot c.args.made new.spot (c.in_ok-went.ensures.near c.args.made found)) in
    let after = counts-after s c.args.made p k (set words i x) (stand_of old) (stand_of new) counts is held n in
    let made : List Kept → List Stand → Sketch = λ hs bs. record { opening = s.opening; words = set words i x; homes = hs; stands = bs } in
    let left : kept_of c.went.new.home ≡ home_after k n old.own (frames old.spot) (home_at s.homes (slot_number k)) = c.in_ok-went.ensures.home ∙ ap (λ (h : Kept). home_after k n old.own (frames old.spot) h) home in
    let homes_is = map-set kept_of homes l c.went.new.home ∙ ap (λ (j : ℕ). set s.homes j (kept_of c.went.new.home)) c.slot_number.ensures ∙ ap (λ (h : Kept). set s.homes (slot_number k) h) left in
    on_ok c.push_turn.result _
    (subst (λ (hs : List Kept). Counts (made hs (map stand_of (set backends p new))) (c.args.made + 1)) (sym homes_is)
    (subst (λ (bs : List Stand). Counts (made (set s.homes (slot_number k) (home_after k n old.own (frames old.spot) (home_at s.homes (slot_number k)))) bs) (c.args.made + 1)) (sym (map-set stand_of backends p new)) after))
