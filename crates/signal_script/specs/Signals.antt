-- A script on the signal machine: the step that a backend's place and call name, and what is printed of it.
use Rattle.std.specs.Prelude.{ℕ, zero, suc, ◌+◌, ◌-◌, ◌/◌, ◌%◌, ◌==◌, ◌++◌, bit_and, Bool, true, is_none, is_some, List, [], ◌∷◌, codes, decimal, Option, None, Some, option_map, if◌then◌else◌}
use Rattle.std.specs.Int.{bit_at}
use Rattle.std.specs.Str.{bytes_eq}
use Rattle.decimal_word.specs.Numbers.{number_of}
use Rattle.signal_core.specs.declared.step.Call.TheVariants as call
use Rattle.signal_core.specs.declared.step.SigStep.{SigStep}
use Rattle.signal_core.specs.declared.step.SigStep.TheVariants.{Hload, Hadd, Mor, Mswap, Gstore, Gload, Pstore, Pload, Pend, Pswap}
use Rattle.signal_core.specs.declared.view.Frame.{Frame}
use Rattle.signal_core.specs.declared.view.Frame.TheVariants.{Reading, Opening, Entering, Leaving, Posting, Numbering, Telling, Prodding, Comparing, Heading, Swapping, Taking, Keeping, Reminding}
use Rattle.signal_core.specs.declared.view.About.{About}
use Rattle.signal_core.specs.declared.view.Slot.{Slot}
use Rattle.signal_core.specs.Words.{gone, opened}
use Rattle.signal_core.specs.Machine.{Place, kinds_below}
use Rattle.signal_script.specs.declared.signals.Ask.{Ask}
use Rattle.signal_script.specs.declared.signals.Ask.TheVariants.{Join, Leave, Emit, Absorb}
use Rattle.script_play.specs.Lines.{first_word, after_word, number}

-- THE CALLS, by their words
abbrev pub plain_ask : List ℕ → Option Ask
plain_ask word =
    if bytes_eq word (codes "join") then Some Join
    else if bytes_eq word (codes "leave") then Some Leave
    else if bytes_eq word (codes "absorb") then Some (Absorb 0) else None

abbrev pub numbered_ask : List ℕ → List ℕ → Option Ask
numbered_ask word argument =
    if bytes_eq word (codes "emit") then option_map Emit (number_of 0 31 argument)
    else if bytes_eq word (codes "absorb") then option_map Absorb (number argument) else None

abbrev pub ask_named : List ℕ → Option (List ℕ) → Option Ask
ask_named word None = plain_ask word
ask_named word (Some argument) = numbered_ask word argument

abbrev pub ask_of : List ℕ → Option Ask
ask_of call = ask_named (first_word call) (after_word call)

-- who joins isn't joined; who leaves or absorbs is
abbrev pub may_begin : Ask → Option Slot → Bool
may_begin Join t = is_none t
may_begin Leave t = is_some t
may_begin (Emit k) t = true
may_begin (Absorb failing) t = is_some t

-- THE STEP that comes next. The first of a call
abbrev pub first_step : Ask → SigStep
first_step Join = Mswap (Some call.Join)
first_step Leave = Gstore gone (Some call.Leave)
first_step (Emit k) = Hload (Some (call.Emit k 0))
first_step (Absorb failing) = Pswap (Some call.Absorb)

-- the kinds that an absorption is told to fail
abbrev pub failing_of : Ask → ℕ
failing_of (Absorb failing) = failing
failing_of a = 0

-- of the last kinds below 32, so many of them, the lowest that failed
unfoldable pub lowest : ℕ → ℕ → ℕ
lowest failed zero = 31
lowest failed (suc left) = if bit_at failed (31 - left) == 1 then 31 - left else lowest failed left

-- the kinds of a mask were asked for: where none failed the header is published, else the lowest is put back
abbrev pub asked : ℕ → ℕ → ℕ → SigStep
asked p h failed = if failed == 0 then Gstore h None else Mor p (lowest failed 32) (Some failed)

-- and the one that the place of the backend p names
abbrev pub step_in : ℕ → ℕ → Frame → SigStep
step_in p failing Reading = Hload None
step_in p failing (Opening h) = Gstore h None
step_in p failing (Entering h) = Pstore (p + 1)
step_in p failing Leaving = Pstore 0
step_in p failing (Posting k x q) = Mor q k None
step_in p failing (Numbering k x) = Hadd
step_in p failing (Telling q) = Pload q
step_in p failing (Prodding q) = Pend q
step_in p failing Comparing = Gload p None
step_in p failing (Heading g) = Hload None
step_in p failing (Swapping h) = Mswap None
step_in p failing (Taking h found) = asked p h (bit_and found failing)
step_in p failing (Keeping h found failed done) = Mor p (lowest failed (32 - done)) None
step_in p failing (Reminding h found failed k) = Pend p

abbrev pub step_at : ℕ → Ask → Place → SigStep
step_at p a None = first_step a
step_at p a (Some frame) = step_in p (failing_of a) frame

-- THE TEXT
abbrev pub kind_name : SigStep → List ℕ
kind_name (Hload begins) = codes "hload"
kind_name Hadd = codes "hadd"
kind_name (Mor q k failed) = codes "mor"
kind_name (Mswap begins) = codes "mswap"
kind_name (Gstore g begins) = codes "gstore"
kind_name (Gload q begins) = codes "gload"
kind_name (Pstore x) = codes "pstore"
kind_name (Pload q) = codes "pload"
kind_name (Pend q) = codes "pend"
kind_name (Pswap begins) = codes "pswap"

-- the name of the word i
abbrev pub field_name : ℕ → List ℕ
field_name i = if i == 2 then codes ".pid" else if i == 3 then codes ".gen" else if i == 0 then codes ".mask" else codes ".pend"

abbrev pub word_name : ℕ → List ℕ
word_name i = if i == 1 then codes "G" else codes "S" ++ decimal ((i - 2) / 4) ++ field_name (i % 4)

-- the backend p made a step, and left x in the word i
abbrev pub step_line : ℕ → SigStep → ℕ → ℕ → List ℕ
step_line p k i x = decimal p ++ codes " " ++ kind_name k ++ codes " " ++ word_name i ++ codes " " ++ decimal x ++ codes "\n"

abbrev pub kinds_text : List ℕ → List ℕ
kinds_text [] = []
kinds_text (k ∷ kinds) = codes " " ++ decimal k ++ kinds_text kinds

-- the word i, which is x now, where it differs from its opening
abbrev pub changed_word : About → ℕ → ℕ → List ℕ
changed_word z x i = if x == opened z i then [] else word_name i ++ codes " " ++ decimal x ++ codes "\n"

-- the words from i on that differ from their opening
unfoldable pub changed_words : About → List ℕ → ℕ → List ℕ
changed_words z [] i = []
changed_words z (x ∷ words) i = changed_word z x i ++ changed_words z words (i + 1)

-- the kinds of a mask, from the lowest
unfoldable pub kinds_in : ℕ → List ℕ
kinds_in found = kinds_below 32 (bit_at found)

abbrev pub published_by : Option Slot → ℕ
published_by None = 0
published_by (Some t) = t.published

-- what a call answers that ends: by the place before its last step and what the step found, and by the slot and the last number of an emission after it
abbrev pub absorb_answer : Place → ℕ → List ℕ
absorb_answer (Some (Taking h found)) published = codes "published " ++ decimal h ++ kinds_text (kinds_in found)
absorb_answer (Some (Reminding h found failed k)) published = codes "kept " ++ decimal failed
absorb_answer place published = codes "idle " ++ decimal published

abbrev pub emit_answer : Place → ℕ → ℕ → List ℕ
emit_answer None found emitted = codes "worn " ++ decimal found
emit_answer (Some frame) found emitted = codes "gen " ++ decimal emitted

abbrev pub answer : Ask → Place → ℕ → Option Slot → ℕ → List ℕ
answer Join place found t emitted = codes "gen " ++ decimal (published_by t)
answer Leave place found t emitted = codes "done"
answer (Emit k) place found t emitted = emit_answer place found emitted
answer (Absorb failing) place found t emitted = absorb_answer place (published_by t)

abbrev pub answer_line : ℕ → List ℕ → List ℕ
answer_line p text = decimal p ++ codes " = " ++ text ++ codes "\n"

-- a call has ended where its backend is in none any more
abbrev pub ended : Place → List ℕ → List ℕ
ended None line = line
ended (Some frame) line = []

abbrev pub still : Place → Option Ask → Option Ask
still None a = None
still (Some frame) a = a

-- the last number of an emission
abbrev pub emitted_after : SigStep → Place → ℕ → ℕ → ℕ
emitted_after Hadd (Some (Numbering k x)) found emitted = found + 1
emitted_after k place found emitted = emitted
