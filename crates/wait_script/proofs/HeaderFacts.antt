-- What the first line of a script on waits opens is within the bounds, with no more barriers than conditions.
use Rattle.std.proofs.Common.{◌≡◌, ℕ, ◌<◌, ◌≤◌, List, Option, None, Some, arith}
use Rattle.std.specs.Prelude.{IfSome, codes, min}
use Rattle.std.specs.Str.{bytes_eq}
use Rattle.std.proofs.lemmas.Option.{same_Some}
use Rattle.decimal_word.specs.Numbers.{number_of}
use Rattle.decimal_word.proofs.NumberFacts.{number_of-range}
use Rattle.wait_core.specs.Words.{last_phase, most_conditions}
use Rattle.script_play.specs.Lines.{after_word, first_word}
use Rattle.script_play.proofs.HeaderFacts.{if_map, if_named, if_opens, if_then}
use Rattle.wait_script.specs.declared.waits.Opening.{Opening}
use Rattle.wait_script.specs.WaitScripts.{phase_in, wait_header, with_bars, with_conditions, with_procs}

pub record HeaderFits (o : Opening) : Type 0 where
  pub procs : (0 < o.size.procs) × (o.size.procs ≤ 64)
  pub conditions : o.size.cvs ≤ most_conditions
  pub barriers : (0 < o.size.bars) × (o.size.bars ≤ o.size.cvs)
  pub phase : o.phase ≤ last_phase

phase_low : (word : Option (List ℕ)) (phase : ℕ) → phase_in word ≡ Some phase → phase ≤ last_phase
phase_low None phase is = let same = same_Some 0 phase is in omega (arith, same)
phase_low (Some word) phase is = (number_of-range 0 last_phase phase word is).1

bars_fit : (p c : ℕ) → (0 < p) × (p ≤ 64) → c ≤ most_conditions → (text : List ℕ) → IfSome (with_bars p c text) HeaderFits
bars_fit p c procs conditions text = if_then HeaderFits _ (number_of 1 (min c 72) (first_word text)) (λ b is. if_map HeaderFits _ (phase_in (after_word text)) (λ ph read.
    let within = number_of-range 1 (min c 72) b (first_word text) is in
    record { procs = procs; conditions = conditions; barriers = (within.0, omega (arith, within)); phase = phase_low (after_word text) ph read }))

conditions_fit : (p : ℕ) → (0 < p) × (p ≤ 64) → (text : List ℕ) → IfSome (with_conditions p text) HeaderFits
conditions_fit p procs text = if_then HeaderFits _ (number_of 1 most_conditions (first_word text)) (λ c is. if_then HeaderFits _ (after_word text) (λ more _. bars_fit p c procs (number_of-range 1 most_conditions c (first_word text) is).1 more))

procs_fit : (text : List ℕ) → IfSome (with_procs text) HeaderFits
procs_fit text = if_then HeaderFits _ (number_of 1 64 (first_word text)) (λ p is. if_then HeaderFits _ (after_word text) (λ more _. conditions_fit p (number_of-range 1 64 p (first_word text) is) more))

pub header_fits : (line : List ℕ) (o : Opening) → wait_header line ≡ Some o → HeaderFits o
header_fits line o is = if_opens HeaderFits (wait_header line) o is (if_named HeaderFits (bytes_eq (first_word line) (codes "wait")) _ (if_then HeaderFits _ (after_word line) (λ more _. procs_fit more)))
