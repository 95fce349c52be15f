use Rattle.std.proofs.Common.{ℕ, List, length, Some, [], ◌∷◌, ap, sym, ◌∙◌, subst}
use Rattle.atomic_table.specs.Table.{opening}
use Rattle.wait_core.specs.declared.view.Size.{Size}
use Rattle.wait_core.specs.Words.{opened, opening_phases}
use Rattle.wait_core.specs.Parties.{newcomer}
use Rattle.wait_core.specs.Rule.{Rule}
use Rattle.wait_core.specs.Seating.{fresh}
use Rattle.seat_roster.proofs.Stretches.{for_same}
use Rattle.wait_core.proofs.Openings.{opens, length-opening}
use Rattle.wait_core.proofs.table.WaitTable.new.Goals as goal

pub new-requires-2 : goal.new-requires-2
new-requires-2 g c =
    let z : Size = record { procs = c.args.procs; cvs = c.args.cvs; bars = c.args.bars } in
    let means = g.P.Party.means c.args.party in
    let first = g.P.Party.first c.args.party in
    let values = g.P.Party.opens c.args.party in
    let count : ℕ = c.words-count.result in
    subst (λ (ws : List ℕ). Rule means z c.args.opening_phase count (opening ws c.in_ok-homes.homes.items (fresh first (Some 0)))) (sym (c.as_slice.ensures.value ∙ c.in_ok-words.ensures))
    (opens means z c.args.opening_phase count values first c.in_ok-homes.homes.items c.in_ok-homes.ensures c.requires.procs.0 c.requires.procs.1 c.requires.cvs.1 c.requires.bars.2 c.requires.phase
    (for_same _ _ c.words-count.ensures (λ n. means.holds (opened values n) (newcomer first (Some 0) ∷ []) (opening_phases z c.args.opening_phase)) c.requires.opening))

pub invariant_of-result : goal.invariant_of-result
invariant_of-result g c =
    let z : Size = record { procs = c.args.procs; cvs = c.args.cvs; bars = c.args.bars } in (
      c.in-Ok.ensures.ok.5,
      record {
        words = c.in-Ok.ensures.ok.0 ∙ (ap (λ (l : List ℕ). length l) (c.as_slice.ensures.value ∙ c.in_ok-words.ensures)
            ∙ length-opening (g.P.Party.means c.args.party) z c.args.opening_phase c.words-count.result (g.P.Party.opens c.args.party) (g.P.Party.first c.args.party));
        slots = c.in-Ok.ensures.ok.1 ∙ c.in_ok-homes.ensures.count;
        procs = c.requires.procs;
        cvs = c.requires.cvs.1;
        bars = c.requires.bars.1;
      },
    )
