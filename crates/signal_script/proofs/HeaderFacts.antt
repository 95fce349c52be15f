-- What the first line of a script on signals opens is within the bounds.
use Rattle.std.proofs.Common.{◌≡◌, ℕ, ◌<◌, ◌≤◌, List, Option, None, Some, arith}
use Rattle.std.specs.Prelude.{IfSome, codes}
use Rattle.std.specs.Str.{bytes_eq}
use Rattle.decimal_word.specs.Numbers.{number_of}
use Rattle.decimal_word.proofs.NumberFacts.{number_of-range}
use Rattle.signal_core.specs.declared.view.About.{About}
use Rattle.signal_core.specs.Words.{worn}
use Rattle.script_play.specs.Lines.{after_word, first_word}
use Rattle.script_play.proofs.HeaderFacts.{if_map, if_named, if_opens, if_then}
use Rattle.signal_script.specs.SignalScripts.{about_of, signal_header}

pub record AboutFits (z : About) : Type 0 where
  pub procs : (0 < z.procs) × (z.procs ≤ 64)
  pub generation : z.generation ≤ worn

words_fit : (procs : List ℕ) (generation : Option (List ℕ)) → IfSome (about_of procs generation) AboutFits
words_fit procs None = if_map AboutFits _ (number_of 1 64 procs) (λ p is. record { procs = number_of-range 1 64 p procs is; generation = omega arith })
words_fit procs (Some generation) = if_then AboutFits _ (number_of 1 64 procs) (λ p is. if_map AboutFits _ (number_of 0 worn generation)
    (λ g read. record { procs = number_of-range 1 64 p procs is; generation = (number_of-range 0 worn g generation read).1 }))

pub header_fits : (line : List ℕ) (z : About) → signal_header line ≡ Some z → AboutFits z
header_fits line z is = if_opens AboutFits (signal_header line) z is (if_named AboutFits (bytes_eq (first_word line) (codes "signal")) _ (if_then AboutFits _ (after_word line) (λ more _. words_fit (first_word more) (after_word more))))
