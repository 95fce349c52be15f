-- What a seat may do with a row follows from what it knows, and what the steps on a list add up to.
use Rattle.std.proofs.Common.{◌≡◌, ℕ, refl, sym, ap, ◌∙◌, subst, Some, None, Option, MatchOption}
use Rattle.row_model.specs.declared.Side.{Side}
use Rattle.row_model.specs.declared.Side.TheVariants.{Inner, Outer}
use Rattle.wait_core.specs.Seating.{client_moved, party_of}
use Rattle.join_law.specs.Machine.{May, took, saw_end}
use Rattle.join_law.specs.declared.step.HashStep.TheVariants.{Push}
use Rattle.join_law.specs.declared.step.Source.{Source}
use Rattle.join_law.specs.declared.step.Source.TheVariants as from
use Rattle.join_law.specs.Layout.{Join, SizesOf, sizes_of}
use Rattle.join_law.specs.Phases.{With, WithSizes, known_word}
use Rattle.join_law.specs.Views.{View, dropped}
use Rattle.join_party.specs.Claims.{MayStillEnd}
use Rattle.wait_core.specs.declared.view.WaitView.{WaitView}
use Rattle.join_law.specs.declared.view.HashView.{HashView}
use Rattle.shared_tuples.specs.Lists.{MayPushTo}
use Rattle.shared_tuples.specs.Tuples.{Routed}

-- what is asked of something that is there
pub with_is : (o : Option ℕ) (P : ℕ → Type 0) → With o P → (x : ℕ) × (o ≡ Some x) × P x
with_is None P h = absurd h
with_is (Some x) P h = (x, refl, h)

pub routed : (j : Join) (v : View) (row : ℕ) (P : SizesOf → ℕ → Type 0) → Routed j v row P → (x w : ℕ) × (j.hash row ≡ Some x) × (known_word v ≡ Some w) × P (sizes_of w) x
routed j v row P h = let a = with_is (j.hash row) (λ x. WithSizes v (λ z. P z x)) h in let b = with_is (known_word v) (λ w. P (sizes_of w) a.0) a.2 in (a.0, b.0, a.1, b.1, b.2)

-- a seat whose row left its hand, or came to it, may still find an end by an add
pub still_ends : (v w : WaitView HashView) (c : HashView) → w ≡ client_moved v c → ((side : Side) → MayStillEnd c side) → (side : Side) → MayStillEnd w.client side
still_ends v w c is may = subst (λ (y : WaitView HashView). (side : Side) → MayStillEnd y.client side) (sym is) may

pub dropped_ends : (c : HashView) (row : ℕ) → ((side : Side) → MayStillEnd c side) → (side : Side) → MayStillEnd (dropped c row) side
dropped_ends c row may Inner = may Inner
dropped_ends c row may Outer = may Outer

pub took_ends : (c : HashView) (row : ℕ) → ((side : Side) → MayStillEnd c side) → (side : Side) → MayStillEnd (took c row) side
took_ends c row may Inner = may Inner
took_ends c row may Outer = may Outer

pub end_ends : (v : View) (source : Source) → ((side : Side) → MayStillEnd v.client side) → (side : Side) → MayStillEnd (saw_end v source) side
end_ends v (from.Inner half batch) may Inner = may Inner
end_ends v (from.Inner half batch) may Outer = may Outer
end_ends v (from.Outer batch) may Inner = may Inner
end_ends v (from.Outer batch) may Outer = may Outer
end_ends v (from.Old bar turn head) may Inner = may Inner
end_ends v (from.Old bar turn head) may Outer = may Outer

pub take_ends : (result : Option ℕ) (v w : WaitView HashView) (source : Source) → MatchOption result (w ≡ client_moved v (saw_end (party_of v) source)) (λ row. w ≡ client_moved v (took v.client row))
    → ((side : Side) → MayStillEnd v.client side) → (side : Side) → MayStillEnd w.client side
take_ends None v w source is may = still_ends v w _ is (end_ends (party_of v) source may)
take_ends (Some row) v w source is may = still_ends v w _ is (took_ends v.client row may)

-- a row that was linked to what the head had may be pushed
pub linked_to : (v l a y : WaitView HashView) (k : Option (ℕ × ℕ)) (row found : ℕ) → l ≡ client_moved v (record (v.client) { linked = k }) → a ≡ client_moved l (l.client) → y ≡ client_moved a (record (a.client) { linked = Some (row, found) })
    → y ≡ client_moved v (record (v.client) { linked = Some (row, found) })
linked_to v l a y k row found one two three =
    three ∙ (ap (λ (x : WaitView HashView). client_moved x (record (x.client) { linked = Some (row, found) })) two
    ∙ ap (λ (x : WaitView HashView). client_moved x (record (x.client) { linked = Some (row, found) })) one)

pub may_push : (j : Join) (v y : WaitView HashView) (row head found : ℕ) → MayPushTo j (party_of v) head row → y ≡ client_moved v (record (v.client) { linked = Some (row, found) }) → May j (party_of y) (Push row head found)
may_push j v y row head found may is = subst (λ (x : WaitView HashView). May j (party_of x) (Push row head found)) (sym is) (may.inside, (may.ready.0, may.ready.1, refl, may.route))
