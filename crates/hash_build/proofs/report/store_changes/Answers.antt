use Rattle.std.proofs.Common.{◌≡◌, ℕ, List, Option, Some, set, ap, ◌∙◌}
use Rattle.lw_core.specs.declared.view.Hold.{Hold}
use Rattle.lw_core.specs.Machine.{hold_in}
use Rattle.hash_build.specs.declared.report.Reported.{Reported}
use Rattle.hash_build.specs.Reports.{known_of}
use Rattle.hash_build.proofs.Reporting.{known_lawful, touched_more}
use Rattle.hash_build.proofs.report.store_changes.Goals as goal

pub returns-clause-steps : goal.returns-clause-steps
returns-clause-steps c =
    let l = c.args.lock in
    let v = c.args.seat.now.view in
    let a = c.store_change.new.seat.view in
    let b = c.store_change-2.new.seat.view in
    let d = c.store_change-3.new.seat.view in
    let e = c.store_change-4.new.seat.view in
    touched_more l _ _ v a e c.store_change.ensures.steps (touched_more l _ _ a b e c.store_change-2.ensures.steps (touched_more l _ _ b d e c.store_change-3.ensures.steps c.store_change-4.ensures.steps))

pub returns-clause-lawful : goal.returns-clause-lawful
returns-clause-lawful c =
    let next : Reported = c.args.next in
    let now = hold_in c.args.lock c.store_change-4.new.seat.view in
    let known : now.known ≡ known_of next =
    c.store_change-4.ensures.known ∙ ap (λ (k : List (Option ℕ)). set k 1 (Some next.wanted))
    (c.store_change-3.ensures.known ∙ ap (λ (k : List (Option ℕ)). set k 2 (Some next.largest))
    (c.store_change-2.ensures.known ∙ ap (λ (k : List (Option ℕ)). set k 3 (Some next.reports)) (c.store_change.ensures.known ∙ ap (λ (h : Hold). set h.known 0 (Some next.rows)) c.requires.known.1))) in known_lawful now next known c.requires.lawful
