-- What the first line of a script on locks opens is within the bounds.
use Rattle.std.proofs.Common.{◌≡◌, ℕ, List, Some}
use Rattle.std.specs.Prelude.{IfSome, codes}
use Rattle.std.specs.Str.{bytes_eq}
use Rattle.decimal_word.specs.Numbers.{number_of}
use Rattle.decimal_word.proofs.NumberFacts.{number_of-range}
use Rattle.lw_core.specs.declared.view.Size.{Size}
use Rattle.script_play.specs.Lines.{after_word, first_word}
use Rattle.script_play.proofs.HeaderFacts.{if_map, if_named, if_opens, if_then}
use Rattle.lock_script.specs.LockScripts.{lock_header, size_of}
use Rattle.lock_script.specs.LockSketch.{SizeFits}

words_fit : (procs locks : List ℕ) → IfSome (size_of procs locks) SizeFits
words_fit procs locks = if_then SizeFits _ (number_of 1 64 procs) (λ p is. if_map SizeFits _ (number_of 1 200 locks) (λ l read. record { locks = number_of-range 1 200 l locks read; procs = number_of-range 1 64 p procs is }))

pub header_fits : (line : List ℕ) (z : Size) → lock_header line ≡ Some z → SizeFits z
header_fits line z is = if_opens SizeFits (lock_header line) z is (if_named SizeFits (bytes_eq (first_word line) (codes "lock")) _
    (if_then SizeFits _ (after_word line) (λ more _. if_then SizeFits _ (after_word more) (λ locks _. words_fit (first_word more) locks))))
