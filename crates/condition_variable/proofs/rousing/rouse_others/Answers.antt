use Rattle.std.proofs.Common.{◌≡◌, ℕ, suc, true, false, cond, [], ◌∷◌, ◌++◌, refl, sym, ap, ◌∙◌, subst}
use Rattle.wait_core.specs.declared.view.Frame.TheVariants.{Taking}
use Rattle.wait_core.specs.declared.view.Job.TheVariants as job
use Rattle.wait_core.specs.declared.view.WaitView.{WaitView}
use Rattle.wait_core.specs.Jobs.{resumed}
use Rattle.wait_core.specs.Lists.{is_listed, rest_of}
use Rattle.wait_core.specs.Machine.{Place, number_of, outer}
use Rattle.latch.specs.Reads.{went}
use Rattle.latch.proofs.Walks.{went_through}
use Rattle.condition_variable.specs.Calls.{Round}
use Rattle.condition_variable.proofs.Walks.{went_none}
use Rattle.condition_variable.proofs.rousing.rouse_others.Goals as goal

pub loop-init : goal.loop-init
loop-init g c = (refl, refl, (0, [], went_none c.args.seat.now.view, refl))

pub rouse_next-requires-clause-target : goal.rouse_next-requires-clause-target
rouse_next-requires-clause-target g c = λ _ _. ap (λ (y : WaitView _). y.target) c.loop.invariant.2.2 ∙ c.requires.target

pub rouse_next-requires-clause-place : goal.rouse_next-requires-clause-place
rouse_next-requires-clause-place g c = λ _ _. subst (λ (y : WaitView _). y.place ≡ Taking (job.Rebroadcast c.args.cv) ∷ outer y.place) (sym c.loop.invariant.2.2) c.requires.place

pub returns-then-not-rouse_next-clause-roused : goal.returns-then-not-rouse_next-clause-roused
returns-then-not-rouse_next-clause-roused g c =
    let off : c.rouse_next.result ≡ false = c.if-not-rouse_next.true in
    let v = c.args.seat.now.view in
    let w = c.loop.seat.view in
    let inv = c.loop.invariant.2 in
    let r = c.rouse_next.ensures.roused in
    let own : number_of w.own ≡ number_of v.own = ap (λ (y : WaitView _). number_of y.own) inv.2 in
    let same : w.place ≡ v.place = ap (λ (y : WaitView _). y.place) inv.2 in
    let after : Place = resumed (outer v.place) in
    let is : c.rouse_next.new.seat.view ≡ went w after r.1 = r.3 ∙ (λ i. went w (cond (off i) (Taking (job.Rebroadcast c.args.cv) ∷ outer (same i)) (resumed (outer (same i)))) r.1) in
    (inv.1 ++ r.1, went_through v w c.rouse_next.new.seat.view v.place after inv.1 r.1 inv.2 is, record { count = inv.0; before = inv.1; last = r.1; found = r.0; split = refl; rounds = inv.3; round = subst (λ (o : ℕ). Round o c.args.cv r.0 r.1) own r.4; off = ap (λ (o : ℕ). is_listed o (rest_of r.0)) (sym own) ∙ (sym r.2 ∙ off) })

pub loop-preserved : goal.loop-preserved
loop-preserved g c =
    let off : c.rouse_next.result ≡ true = c.if-not-rouse_next.false in
    let v = c.args.seat.now.view in
    let w = c.loop.seat.view in
    let inv = c.loop.invariant.2 in
    let r = c.rouse_next.ensures.roused in
    let own : number_of w.own ≡ number_of v.own = ap (λ (y : WaitView _). number_of y.own) inv.2 in
    let same : w.place ≡ v.place = ap (λ (y : WaitView _). y.place) inv.2 in
    let after : Place = v.place in
    let is : c.rouse_next.new.seat.view ≡ went w after r.1 = r.3 ∙ (λ i. went w (cond (off i) (Taking (job.Rebroadcast c.args.cv) ∷ outer (same i)) (resumed (outer (same i)))) r.1) ∙ ap (λ (p : Place). went w p r.1) (sym c.requires.place) in
    ((cc), (cc), (suc inv.0, inv.1 ++ r.1, went_through v w c.rouse_next.new.seat.view v.place after inv.1 r.1 inv.2 is, (inv.1, r.1, r.0, refl, inv.3, subst (λ (o : ℕ). Round o c.args.cv r.0 r.1) own r.4, ap (λ (o : ℕ). is_listed o (rest_of r.0)) (sym own) ∙ (sym r.2 ∙ off))))
