-- What a replay keeps of a signal machine: the words, and of each backend the call that it is in, its place, its slot and the number of its last emission.
use Rattle.std.specs.Prelude.{◌≡◌, ◌⊎◌, ◌≤◌, ◌<◌, ℕ, ◌+◌, ◌++◌, nat_lt, List, length, slice_index, slice_index_or, slice_set, map, drop, codes, Option, None, Some, option_map, option_and_then, ⊤, if◌then◌else◌}
use Rattle.std.specs.List.{range_with_len}
use Rattle.signal_core.specs.declared.view.About.{About}
use Rattle.signal_core.specs.declared.view.Frame.{Frame}
use Rattle.signal_core.specs.declared.view.Frame.TheVariants.{Posting, Telling, Prodding, Keeping, Reminding}
use Rattle.signal_core.specs.declared.step.SigStep.{SigStep}
use Rattle.signal_core.specs.declared.step.SigStep.TheVariants.{Mor, Gload, Pload, Pend}
use Rattle.signal_core.specs.Words.{header_at, word_count, worn}
use Rattle.signal_core.specs.Machine.{Place, word_of, becomes, place_after, slot_after}
use Rattle.signal_script.specs.declared.signals.Ask.{Ask}
use Rattle.signal_script.specs.declared.signals.Ask.TheVariants.{Emit}
use Rattle.signal_script.specs.declared.signals.Backend.{Backend}
use Rattle.signal_script.specs.SignalScripts.{first_words}
use Rattle.signal_script.specs.Signals.{answer, answer_line, ask_of, changed_words, emitted_after, ended, may_begin, step_at, step_line, still}

pub record Sketch : Type 0 where
  pub about : About
  pub words : List ℕ
  pub backends : List Backend

abbrev pub idle : Backend
idle = record { ask = None; place = None; slot = None; emitted = 0 }

abbrev pub backend_at : Sketch → ℕ → Backend
backend_at s p = slice_index_or s.backends p idle

-- a backend begins a call
abbrev pub begun_with : Sketch → ℕ → Backend → Option Ask → Ask → Option Sketch
begun_with s p b (Some other) a = None
begun_with s p b None a = if may_begin a b.slot then Some (record s { backends = slice_set s.backends p (record b { ask = Some a }) }) else None

abbrev pub begins : Sketch → ℕ → List ℕ → Option Sketch
begins s p call = if nat_lt p s.about.procs then option_and_then (begun_with s p (backend_at s p) (backend_at s p).ask) (ask_of call) else None

-- and makes its next step, which found n
abbrev pub went : About → SigStep → ℕ → Backend → Backend
went z k n b = record {
  ask = still (place_after z k n b.place) b.ask;
  place = place_after z k n b.place;
  slot = slot_after k b.place b.slot;
  emitted = emitted_after k b.place n b.emitted;
}

abbrev pub told : ℕ → Ask → SigStep → ℕ → Backend → Backend → List ℕ
told p a k n b c = step_line p k (word_of p k) (becomes k n) ++ ended c.place (answer_line p (answer a b.place n c.slot c.emitted))

abbrev pub turned : Sketch → ℕ → Backend → SigStep → ℕ → Sketch
turned s p b k n = record { about = s.about; words = slice_set s.words (word_of p k) (becomes k n); backends = slice_set s.backends p (went s.about k n b) }

unfoldable pub turn : Sketch → ℕ → Backend → Ask → Sketch × List ℕ
turn s p b a =
    let k = step_at p a b.place in
    let n = slice_index s.words (word_of p k) in
    (turned s p b k n, told p a k n b (went s.about k n b))

abbrev pub steps : Sketch → ℕ → Option (Sketch × List ℕ)
steps s p = if nat_lt p s.about.procs then option_map (turn s p (backend_at s p)) (backend_at s p).ask else None

abbrev pub ends : Sketch → List ℕ
ends s = codes "final\n" ++ changed_words s.about (drop 1 s.words) 1

-- WHERE A SKETCH STANDS. The numbers in a place are below their limits
abbrev pub FrameFits : ℕ → Frame → Type 0
FrameFits procs (Posting k x q) = (k < 32) × (q < procs)
FrameFits procs (Telling q) = q < procs
FrameFits procs (Prodding q) = q < procs
FrameFits procs (Keeping h found failed done) = done ≤ 32
FrameFits procs (Reminding h found failed k) = k < 32
FrameFits procs frame = ⊤

abbrev pub PlaceFits : ℕ → Place → Type 0
PlaceFits procs None = ⊤
PlaceFits procs (Some frame) = FrameFits procs frame

abbrev pub AskFits : Option Ask → Type 0
AskFits (Some (Emit k)) = k < 32
AskFits a = ⊤

abbrev pub BackendFits : ℕ → Backend → Type 0
BackendFits procs b = PlaceFits procs b.place × AskFits b.ask

pub record Fits (s : Sketch) : Type 0 where
  pub procs : (0 < s.about.procs) × (s.about.procs ≤ 64)
  pub generation : s.about.generation ≤ worn
  pub words : length s.words ≡ word_count s.about
  pub backends : length s.backends ≡ s.about.procs
  pub each : (p : ℕ) → BackendFits s.about.procs (slice_index_or s.backends p idle)

-- after so many steps the header is near its opening
abbrev pub HeaderFits : Sketch → ℕ → Type 0
HeaderFits s made = slice_index s.words header_at ≤ worn + made

-- a step is on a word of the table, and a kind is one of 32
abbrev pub StepFits : ℕ → ℕ → SigStep → Type 0
StepFits procs own (Mor q k failed) = (k < 32) × ((q < procs) ⊎ (q ≡ own))
StepFits procs own (Gload q begins) = (q < procs) ⊎ (q ≡ own)
StepFits procs own (Pload q) = q < procs
StepFits procs own (Pend q) = (q < procs) ⊎ (q ≡ own)
StepFits procs own k = ⊤

-- the opening
abbrev pub opening_sketch : About → Sketch
opening_sketch z = record { about = z; words = first_words z; backends = map (λ _. idle) (range_with_len 0 z.procs) }
