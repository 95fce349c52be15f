-- What the replay of a script shows of its bytes, and what it leaves written.
use Rattle.std.proofs.Common.{◌≡◌, ◌∙◌, ◌⊎◌, ℕ, ◌<◌, ◌≤◌, List, length, take, append-nil, Option, Some, None, refl, sym, ap, inl, inr}
use Rattle.std.specs.Option.{IfSome}
use Rattle.std.specs.Io.KnownBytes.{Appends}
use Rattle.std.proofs.lemmas.Bool.{le-ltb, lt-ltb}
use Rattle.row_model.specs.declared.Side.TheVariants as side
use Rattle.csv_tables.specs.Loading.{input_limit}
use Rattle.csv_tables.specs.Appending.{AppendsFront, AppendsPart}
use Rattle.script_play.specs.Answers.{Answer, Text, BadLine}
use Rattle.schedule_script.specs.ScriptText.{script_answer}
use Rattle.pg_sync.specs.declared.status.Status.{Status}
use Rattle.pg_sync.specs.declared.status.Status.TheVariants as status
use Rattle.pg_sync.specs.Answer.{Counts, CountsShow, Leaves, NoneRose, ScriptDecided, ScriptFaultless}
use Rattle.pg_sync.specs.Schedule.{IsBadAt, IsText, PlayShows, ScriptShows, script_due, script_status, status_of, text_in}

-- the bytes that are told are these, and within the limit
abbrev pub IsRead : Option (List ℕ) → List ℕ → Type 0
IsRead told script = IfSome told (λ held. (script ≡ held) × (length held ≤ input_limit))

due_told : (told : Option (List ℕ)) (script : List ℕ) (a : Answer) → a ≡ script_answer script → IsRead told script → (script_due told ≡ None) ⊎ (script_due told ≡ Some (text_in a))
unfolding script_due
due_told None script a e read = inl refl
due_told (Some held) script a e read = inr (rw (le-ltb input_limit (length held) read.1) (ap (λ (x : Answer). Some (text_in x)) (sym (e ∙ ap script_answer read.0))))

-- what of the text was written
of_due : (P : List ℕ → Type 0) (due : Option (List ℕ)) (text : List ℕ) → (due ≡ None) ⊎ (due ≡ Some text) → P text → IfSome due P
of_due P due text (inl e) h = rw e tt
of_due P due text (inr e) h = rw e h

any_due : (P : List ℕ → Type 0) (due : Option (List ℕ)) → ((text : List ℕ) → P text) → IfSome due P
any_due P None each = tt
any_due P (Some text) each = each text

-- what stays as it was has a front of any text
front-none : (old new : Option (List ℕ)) (text : List ℕ) → new ≡ old → AppendsFront old new text
front-none old new text same = (0, rw same (at_end old))
  where
    at_end : (o : Option (List ℕ)) → Appends o o (take 0 text)
    at_end None = tt
    at_end (Some xs) = sym (append-nil xs)

module _ (told : Option (List ℕ)) (script : List ℕ) (old new : Option (List ℕ)) (faults faults' : ℕ) (read : IsRead told script) where
  pub written_shown : (a : Answer) (result : Status) → a ≡ script_answer script → PlayShows a old new faults faults' result → Leaves old new (script_due told) result
  written_shown (Text text) status.Done e h = of_due (λ t. Appends old new t) (script_due told) text (due_told told script (Text text) e read) h.0
  written_shown (Text text) status.WriteFault e h = of_due (λ t. AppendsPart old new t) (script_due told) text (due_told told script (Text text) e read) h.0
  written_shown (Text text) status.NoMemory e h = any_due (λ t. AppendsFront old new t) (script_due told) (λ t. front-none old new t h.0)
  written_shown (Text text) status.Words e h = absurd h
  written_shown (Text text) (status.OpenFault s) e h = absurd h
  written_shown (Text text) (status.ReadFault s) e h = absurd h
  written_shown (Text text) (status.TooLong s) e h = absurd h
  written_shown (Text text) (status.BadInput s f) e h = absurd h
  written_shown (Text text) status.TooManyResults e h = absurd h
  written_shown (Text text) (status.BadScript n) e h = absurd h
  written_shown (BadLine n) (status.BadScript line) e h = h.1
  written_shown (BadLine n) status.NoMemory e h = any_due (λ t. AppendsFront old new t) (script_due told) (λ t. front-none old new t h.0)
  written_shown (BadLine n) status.Done e h = absurd h
  written_shown (BadLine n) status.WriteFault e h = absurd h
  written_shown (BadLine n) status.Words e h = absurd h
  written_shown (BadLine n) (status.OpenFault s) e h = absurd h
  written_shown (BadLine n) (status.ReadFault s) e h = absurd h
  written_shown (BadLine n) (status.TooLong s) e h = absurd h
  written_shown (BadLine n) (status.BadInput s f) e h = absurd h
  written_shown (BadLine n) status.TooManyResults e h = absurd h

-- THE ANSWER that the bytes decide
each-some : (o : Option Status) (P : Status → Type 0) → ((s : Status) → P s) → IfSome o P
each-some None P each = tt
each-some (Some s) P each = each s

calm : (before now : Counts) (faults faults' : ℕ) (s : Status) → ScriptFaultless before now faults faults' s → NoneRose before now side.Inner
calm before now f g status.Done h = h.0
calm before now f g status.Words h = h
calm before now f g (status.OpenFault s) h = h
calm before now f g (status.ReadFault s) h = h
calm before now f g (status.TooLong s) h = h
calm before now f g (status.BadInput s x) h = h
calm before now f g status.TooManyResults h = h
calm before now f g status.WriteFault h = h
calm before now f g status.NoMemory h = h
calm before now f g (status.BadScript n) h = h

status-text : (script : List ℕ) → length script ≤ input_limit → IsText (script_answer script) → script_status (Some script) ≡ Some status.Done
unfolding script_status
status-text script few text = rw (le-ltb input_limit (length script) few) (by_answer (script_answer script) text)
  where
    by_answer : (a : Answer) → IsText a → Some (status_of a) ≡ Some status.Done
    by_answer (Text t) h = refl
    by_answer (BadLine n) h = absurd h

status-bad : (script : List ℕ) (n : ℕ) → length script ≤ input_limit → IsBadAt n (script_answer script) → script_status (Some script) ≡ Some (status.BadScript n)
unfolding script_status
status-bad script n few bad = rw (le-ltb input_limit (length script) few) (by_answer (script_answer script) bad)
  where
    by_answer : (a : Answer) → IsBadAt n a → Some (status_of a) ≡ Some (status.BadScript n)
    by_answer (Text t) h = absurd h
    by_answer (BadLine m) h = ap (λ (k : ℕ). Some (status.BadScript k)) h

status-long : (script : List ℕ) → input_limit < length script → script_status (Some script) ≡ Some (status.TooLong side.Inner)
unfolding script_status
status-long script long = rw (lt-ltb input_limit (length script) long) refl

status-none : script_status None ≡ None
unfolding script_status
status-none = refl

pub script_decided : (told : Option (List ℕ)) (before now : Counts) (faults faults' : ℕ) (result : Status)
    → ScriptShows told result → CountsShow before now faults faults' result → ScriptDecided told before now faults faults' result
script_decided told before now f g status.NoMemory bytes counts = each-some (script_status told) _ (λ s none. inr refl)
script_decided told before now f g (status.OpenFault side.Inner) bytes counts = each-some (script_status told) _ (λ s none. absurd ((calm before now f g s none).opens counts.0))
script_decided told before now f g (status.ReadFault side.Inner) bytes counts = each-some (script_status told) _ (λ s none. absurd ((calm before now f g s none).reads counts.0))
script_decided told before now f g (status.OpenFault side.Outer) bytes counts = absurd bytes
script_decided told before now f g (status.ReadFault side.Outer) bytes counts = absurd bytes
script_decided told before now f g (status.TooLong side.Outer) bytes counts = absurd bytes
script_decided told before now f g (status.BadInput s x) bytes counts = absurd bytes
script_decided told before now f g status.Words bytes counts = absurd bytes
script_decided told before now f g status.TooManyResults bytes counts = absurd bytes
script_decided None before now f g status.Done bytes counts = rw status-none tt
script_decided None before now f g status.WriteFault bytes counts = rw status-none tt
script_decided None before now f g (status.TooLong side.Inner) bytes counts = rw status-none tt
script_decided None before now f g (status.BadScript n) bytes counts = rw status-none tt
script_decided (Some script) before now f g status.Done bytes counts = rw (status-text script bytes.0 bytes.1) (λ none. inl refl)
script_decided (Some script) before now f g status.WriteFault bytes counts = rw (status-text script bytes.0 bytes.1) (λ none. absurd (none.1 counts.2))
script_decided (Some script) before now f g (status.TooLong side.Inner) bytes counts = rw (status-long script bytes) (λ none. inl refl)
script_decided (Some script) before now f g (status.BadScript n) bytes counts = rw (status-bad script n bytes.0 bytes.1) (λ none. inl refl)
