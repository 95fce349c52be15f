-- The law of the two words.
use Rattle.std.specs.Prelude.{◌≡◌, ℕ, ◌+◌, ◌-◌, ◌<◌, List, length, slice_index}
use Rattle.wait_core.specs.declared.party.ClientOp.{ClientOp}
use Rattle.wait_core.specs.declared.party.ClientOp.TheVariants.{Add}
use Rattle.wait_core.specs.declared.view.PartyView.{PartyView}
use Rattle.seat_roster.specs.Totals.{total}
use Rattle.two_words.specs.declared.Turn.{Turn}
use Rattle.two_words.specs.declared.Turn.TheVariants.{First, Second}
use Rattle.two_words.specs.declared.Progress.{Progress}

abbrev pub progress : ℕ → ℕ → ℕ → Progress
progress l b d = record { left = l; between = b; done = d }

abbrev pub turn_op : Turn → ClientOp
turn_op First = Add 0 1
turn_op Second = Add 1 1

abbrev pub may_turn : Progress → Turn → Type 0
may_turn v First = 0 < v.left
may_turn v Second = 0 < v.between

abbrev pub turned : Progress → Turn → Progress
turned v First = progress (v.left - 1) (v.between + 1) v.done
turned v Second = progress v.left (v.between - 1) (v.done + 1)

abbrev pub added : Progress → Progress → Progress
added v w = progress (v.left + w.left) (v.between + w.between) (v.done + w.done)

abbrev pub left_of : PartyView Progress → ℕ
left_of v = v.client.left

abbrev pub between_of : PartyView Progress → ℕ
between_of v = v.client.between

abbrev pub done_of : PartyView Progress → ℕ
done_of v = v.client.done

-- word 0 less word 1 is the number of turns in between, and each seat came with one turn
pub record Balanced (words : List ℕ) (views : List (PartyView Progress)) : Type 0 where
  pub two : length words ≡ 2
  pub second : slice_index words 1 ≡ total done_of views
  pub first : slice_index words 0 ≡ slice_index words 1 + total between_of views
  pub one_each : total left_of views + total between_of views + total done_of views ≡ length views
