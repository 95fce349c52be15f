use Rattle.std.proofs.Common.{ℕ, sym, ap, ◌∙◌, arith, subst}
use Rattle.signal_core.specs.Machine.{IsPart, IsJoined}
use Rattle.signal_core.specs.Seats.{about_of}
use Rattle.signal_core.specs.GenerationsStand.{SlotStands, IsPublished}
use Rattle.generation_barrier.specs.Absorbing.{Asks, PutBack}
use Rattle.generation_barrier.proofs.Upto.{up_to_swap, slot_stays, published_view, publishes_more, kept_view}
use Rattle.generation_barrier.proofs.process.absorb.Goals as goal

pub put_back-requires-clause-place : goal.put_back-requires-clause-place
put_back-requires-clause-place g c =
    let at = up_to_swap (about_of c.args.table.now) c.args.seat.now.view c.step.new.seat.view c.step-generation.new.seat.view c.step-header.new.seat.view c.step-found.new.seat.view _ _ _ _ _ c.step.ensures.view c.if-step-eq0.false c.step-generation.ensures.view c.step-header.ensures.view c.if-header-generation.false c.step-found.ensures.view in
    (c.step-header.result.old, c.step-found.result.old, ap (λ v. v.place) at, subst (λ (n : ℕ). IsPart n c.step-found.result.old) (sym c.from.ensures) c.ask-failed.ensures.part)

pub put_back-requires-clause-own : goal.put_back-requires-clause-own
put_back-requires-clause-own g c =
    let at = up_to_swap (about_of c.args.table.now) c.args.seat.now.view c.step.new.seat.view c.step-generation.new.seat.view c.step-header.new.seat.view c.step-found.new.seat.view _ _ _ _ _ c.step.ensures.view c.if-step-eq0.false c.step-generation.ensures.view c.step-header.ensures.view c.if-header-generation.false c.step-found.ensures.view in
    (ap (λ v. v.own) at ∙ c.proc_of-own.ensures.own, c.proc_of-own.ensures.inside)

pub returns-then-failed-eq0-clause-answer : goal.returns-then-failed-eq0-clause-answer
returns-then-failed-eq0-clause-answer g c =
    let v = c.args.seat.now.view in
    let h : ℕ = c.step-header.result.old in
    let at = up_to_swap (about_of c.args.table.now) c.args.seat.now.view c.step.new.seat.view c.step-generation.new.seat.view c.step-header.new.seat.view c.step-found.new.seat.view _ _ _ _ _ c.step.ensures.view c.if-step-eq0.false c.step-generation.ensures.view c.step-header.ensures.view c.if-header-generation.false c.step-found.ensures.view in
    let same = slot_stays (about_of c.args.table.now) v c.step.new.seat.view c.step-generation.new.seat.view _ _ _ c.step.ensures.view c.step-generation.ensures.view in
    let now = published_view (about_of c.args.table.now) v c.step-found.new.seat.view c.step-then-failed-eq0.new.seat.view _ _ _ h c.step-found.result.old c.step-then-failed-eq0.result.old at c.step-then-failed-eq0.ensures.view in record {
      found = c.step-found.result.old;
      asked = subst (λ (n : ℕ). Asks g.A.Absorber.meets c.step-found.result.old 32 c.args.absorber.now n c.ask-failed.new.absorber) c.if-failed-eq0.true c.ask-failed.ensures.asks;
      shown = c.step-found.ensures.told;
      slot = publishes_more h c.step-generation.result.old v.slot c.step-then-failed-eq0.new.seat.view.slot c.requires.place.1 (subst (SlotStands h) same.1 c.step-header.ensures.told.1) (subst (IsPublished c.step-generation.result.old) same.0 c.step-generation.ensures.told) c.if-header-generation.false now.0;
      backend = c.proc_of-own.result;
      own = c.proc_of-own.ensures.own;
      pending = c.step.result.old;
      before = c.step-generation.result.old;
      was = c.step-then-failed-eq0.result.old;
      view = now.1;
    }

pub returns-clause-place : goal.returns-clause-place
returns-clause-place g c =
    let at = up_to_swap (about_of c.args.table.now) c.args.seat.now.view c.step.new.seat.view c.step-generation.new.seat.view c.step-header.new.seat.view c.step-found.new.seat.view _ _ _ _ _ c.step.ensures.view c.if-step-eq0.false c.step-generation.ensures.view c.step-header.ensures.view c.if-header-generation.false c.step-found.ensures.view in
    let back = c.put_back.ensures.back c.step-header.result.old c.step-found.result.old (ap (λ v. v.place) at) in
    (ap (λ v. v.place) back.2, subst IsJoined (sym (ap (λ v. v.slot) back.2 ∙ ap (λ v. v.slot) at)) c.requires.place.1)

pub returns-clause-answer : goal.returns-clause-answer
returns-clause-answer g c =
    let at = up_to_swap (about_of c.args.table.now) c.args.seat.now.view c.step.new.seat.view c.step-generation.new.seat.view c.step-header.new.seat.view c.step-found.new.seat.view _ _ _ _ _ c.step.ensures.view c.if-step-eq0.false c.step-generation.ensures.view c.step-header.ensures.view c.if-header-generation.false c.step-found.ensures.view in
    let back = c.put_back.ensures.back c.step-header.result.old c.step-found.result.old (ap (λ v. v.place) at) in record {
      found = c.step-found.result.old;
      asked = c.ask-failed.ensures.asks;
      shown = c.step-found.ensures.told;
      some = let some = c.if-failed-eq0.false in omega arith;
      backend = c.proc_of-own.result;
      own = c.proc_of-own.ensures.own;
      pending = c.step.result.old;
      before = c.step-generation.result.old;
      header = c.step-header.result.old;
      back = back.0;
      put = subst (λ (n : ℕ). PutBack c.proc_of-own.result n 32 back.0) c.from.ensures back.1;
      view = kept_view c.args.seat.now.view c.step-found.new.seat.view c.put_back.new.seat.view _ _ _ c.step-found.result.old c.from.result c.ask-failed.result back.0 c.from.ensures at back.2;
    }
