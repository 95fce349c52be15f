use Rattle.std.proofs.Common.{◌≡◌, ℕ, true, false, cond, [], ◌∷◌, ◌++◌, append-nil, refl, sym, ap, ◌∙◌, subst}
use Rattle.wait_core.specs.declared.view.Frame.TheVariants.{Taking}
use Rattle.wait_core.specs.declared.view.Job.TheVariants as job
use Rattle.wait_core.specs.declared.view.WaitView.{WaitView}
use Rattle.wait_core.specs.Jobs.{resumed}
use Rattle.wait_core.specs.Lists.{rest_of}
use Rattle.wait_core.specs.Machine.{Place, number_of, outer}
use Rattle.latch.specs.Reads.{went}
use Rattle.latch.proofs.Walks.{went_through}
use Rattle.condition_variable.specs.Visits.{entering}
use Rattle.condition_variable.specs.Calls.{UntilOff}
use Rattle.condition_variable.proofs.Walks.{goes_none, goes_others}
use Rattle.condition_variable.proofs.rousing.rouse_all.Goals as goal

pub rouse_others-requires-clause-target : goal.rouse_others-requires-clause-target
rouse_others-requires-clause-target g c = λ _ _. ap (λ (y : WaitView _). y.target) c.rouse_first.ensures.roused.3 ∙ c.requires.target

pub rouse_others-requires-clause-place : goal.rouse_others-requires-clause-place
rouse_others-requires-clause-place g c =
    let on : c.rouse_first.result ≡ true = c.if-not-rouse_first.false in
    let v = c.args.seat.now.view in
    let r = c.rouse_first.ensures.roused in
    let p : Place = outer (entering c.args.begins v.target v.place) in
    let stood = r.3 ∙ ap (λ (b : _). went v (cond b (Taking (job.Rebroadcast c.args.cv) ∷ p) (resumed p)) r.1) on in
    λ _ _. subst (λ (y : WaitView _). y.place ≡ Taking (job.Rebroadcast c.args.cv) ∷ outer y.place) (sym stood) refl

pub returns-then-not-rouse_first-clause-roused : goal.returns-then-not-rouse_first-clause-roused
returns-then-not-rouse_first-clause-roused g c =
    let off : c.rouse_first.result ≡ false = c.if-not-rouse_first.true in
    let v = c.args.seat.now.view in
    let r = c.rouse_first.ensures.roused in
    let p : Place = outer (entering c.args.begins v.target v.place) in
    (r.1 ++ [], r.3 ∙ (λ i. went v (cond (off i) (Taking (job.Rebroadcast c.args.cv) ∷ p) (resumed p)) (sym (append-nil r.1) i)), record { first = r.1; rounds = []; found = r.0; split = refl; rouses = r.4; goes = goes_none (number_of v.own) c.args.cv (rest_of r.0) (sym r.2 ∙ off) })

pub returns-clause-roused : goal.returns-clause-roused
returns-clause-roused g c =
    let on : c.rouse_first.result ≡ true = c.if-not-rouse_first.false in
    let v = c.args.seat.now.view in
    let r = c.rouse_first.ensures.roused in
    let p : Place = outer (entering c.args.begins v.target v.place) in
    let w = c.rouse_first.new.seat.view in
    let stood = r.3 ∙ ap (λ (b : _). went v (cond b (Taking (job.Rebroadcast c.args.cv) ∷ p) (resumed p)) r.1) on in
    let others = c.rouse_others.ensures.roused in
    let own : number_of w.own ≡ number_of v.own = ap (λ (y : WaitView _). number_of y.own) stood in
    (r.1 ++ others.0, went_through v w c.rouse_others.new.seat.view _ (resumed p) r.1 others.0 stood (others.1 ∙ ap (λ (y : WaitView _). went w (resumed (outer y.place)) others.0) stood), record { first = r.1; rounds = others.0; found = r.0; split = refl; rouses = r.4; goes = goes_others (number_of v.own) c.args.cv (rest_of r.0) others.0 (sym r.2 ∙ on) (subst (λ (o : ℕ). UntilOff o c.args.cv others.0) own others.2) })
