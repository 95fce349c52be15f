use Rattle.std.proofs.Common.{◌+◌, ℕ, ap, sym, ◌∙◌, subst}
use Rattle.wait_core.specs.Ops.{op_at, op_gives}
use Rattle.wait_core.specs.Words.{client_base}
use Rattle.wait_core.specs.Seating.{party_of}
use Rattle.wait_core.specs.Seats.{size_of}
use Rattle.wait_core.specs.Closing.{Stood}
use Rattle.std.proofs.lemmas.List.{get_or-drop}
use Rattle.wait_core.specs.Told.{does_client, Turns}
use Rattle.seat_roster.proofs.Stretches.{for_same}
use Rattle.wait_core.proofs.SeatsKept.{is_step}
use Rattle.wait_core.proofs.Asks.{client_turns}
use Rattle.wait_core.proofs.table.WaitTable.client.Goals as goal

pub make-old-requires-clause-told : goal.make-old-requires-clause-told
make-old-requires-clause-told g c κs within =
    let t = c.args.self.now in
    let seat = c.seat.inside.seat in
    let word : ℕ = c.client_word-word.result in
    let idle = ap (λ (v : _). v.view.place) c.seat.view_is ∙ c.requires.place in
    let told : ℕ → Type 0 = Stood (g.P.Party.means t.party) (g.P.Party.word_count t.party) t seat.id seat.me.0 (op_at (g.P.Party.does t.party c.args.step)) in
    let laws = g.met.P.Party g.world.𝓛 g.world.𝓜 g.world.𝓡 ((λ s x. x), (λ x. x), (λ x. x), λ x. x) in
    let op = c.op-op.ensures ∙ ap (λ (x : _). g.P.Party.does x c.args.step) (ap (λ v. v.party) c.self.view_is) in
    let may = subst (λ v. g.P.Party.may t.party (party_of v.view) c.args.step) (sym c.seat.view_is) c.requires.may in
    for_same _ _ op (λ o. Turns (g.P.Party.means t.party) (size_of t) t.phase (g.P.Party.word_count t.party) t.table_id.slots seat.id seat.me word (op_gives o) (does_client (g.P.Party.after t.party (party_of seat.me.0) c.args.step) told seat.me))
    (client_turns (g.P.Party.means t.party) (size_of t) t.phase (g.P.Party.word_count t.party) t.table_id.slots seat.id seat.me word (g.P.Party.does t.party c.args.step) (g.P.Party.after t.party (party_of seat.me.0) c.args.step) told
    (c.client_word-word.ensures ∙ ap (λ (k : ℕ). client_base (size_of t) + k) (c.at.ensures ∙ ap op_at op))
    (laws.step_inside t.party (party_of seat.me.0) c.args.step may)
    c.seat.inside.number c.seat.invariant.own idle
    (λ s r there. record { state = s; rule = r; here = there; step = is_step (g.P.Party.means t.party) (size_of t) t.phase (g.P.Party.word_count t.party) s r seat.id seat.me.0 there c.seat.inside.number c.seat.invariant.own idle; read = get_or-drop (client_base (size_of t)) s.words (op_at (g.P.Party.does t.party c.args.step)) 0 })
    (λ words views phases kept at. laws.step_keeps t.party words views phases seat.id (party_of seat.me.0) c.args.step kept at may))
