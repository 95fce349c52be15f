use Rattle.std.proofs.Common.{◌≡◌, ap, sym, ◌∙◌, subst}
use Rattle.lw_core.specs.declared.step.GuardOp.TheVariants as guard
use Rattle.lw_core.specs.declared.view.Hold.{Hold}
use Rattle.lw_core.specs.Machine.{hold_in, learnt}
use Rattle.lw_core.specs.Told.{KnowsAll}
use Rattle.hash_build.specs.declared.report.Reported.{Reported}
use Rattle.hash_build.specs.Reports.{knowing, words_of}
use Rattle.hash_build.proofs.Reporting.{touched_one, touched_more, knows_all}
use Rattle.hash_build.proofs.report.read_words.Goals as goal

pub returns-clause-steps : goal.returns-clause-steps
returns-clause-steps c =
    let l = c.args.lock in
    let v = c.args.seat.now.view in
    let a = c.read_word-rows.new.seat.view in
    let b = c.read_word-wanted.new.seat.view in
    let d = c.read_word-largest.new.seat.view in
    let e = c.read_word-reports.new.seat.view in
    touched_more l _ _ v d e (touched_more l _ _ v b d (touched_more l _ _ v a b (touched_one l 0 guard.Load c.read_word-rows.result v a c.read_word-rows.ensures.view) (touched_one l 1 guard.Load c.read_word-wanted.result a b c.read_word-wanted.ensures.view))
    (touched_one l 2 guard.Load c.read_word-largest.result b d c.read_word-largest.ensures.view)) (touched_one l 3 guard.Load c.read_word-reports.result d e c.read_word-reports.ensures.view)

pub returns-clause-lawful : goal.returns-clause-lawful
returns-clause-lawful c =
    let found : Reported = record { rows = c.read_word-rows.result; wanted = c.read_word-wanted.result; largest = c.read_word-largest.result; reports = c.read_word-reports.result } in
    let known : hold_in c.args.lock c.read_word-reports.new.seat.view ≡ knowing found =
    c.read_word-reports.ensures.hold ∙ ap (λ (h : Hold). learnt h 3 found.reports)
    (c.read_word-largest.ensures.hold ∙ ap (λ (h : Hold). learnt h 2 found.largest)
    (c.read_word-wanted.ensures.hold ∙ ap (λ (h : Hold). learnt h 1 found.wanted)
    (c.read_word-rows.ensures.hold ∙ ap (λ (h : Hold). learnt h 0 found.rows) c.requires.held.1))) in
    c.read_word-reports.ensures.lawful (ap (λ (h : Hold). h.wrote) known) (words_of found) (subst (λ (h : Hold). KnowsAll h (words_of found)) (sym known) (knows_all found))
