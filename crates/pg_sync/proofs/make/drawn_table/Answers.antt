use Rattle.std.proofs.Common.{◌≡◌, ◌∙◌, ◌+◌, [], ℕ, refl, sym, ap, arith}
use Rattle.pg_sync.specs.Make.{drawn_table, next_state, states_after}
use Rattle.pg_sync.proofs.MakeFacts.{drawing, drawn_records-fine, drawn_records-form, drawn_records-next, drawn_records-table, length-states, state-more, state-start, states-start}
use Rattle.pg_sync.proofs.make.drawn_table.Goals as goal

pub add_row-requires-clause-fine : goal.add_row-requires-clause-fine
add_row-requires-clause-fine c = rw c.in_ok-builder.ensures (drawn_records-fine c.args.keys [] (omega arith))

pub draws-init : goal.draws-init
draws-init c = record {
  built = rw (c.in_ok-add_row.ensures, c.in_ok-builder.ensures, states-start c.args.start) refl;
  state = sym (state-start c.args.start);
}

pub add_row-requires-in-draws-clause-fine : goal.add_row-requires-in-draws-clause-fine
add_row-requires-in-draws-clause-fine c =
    let key = c.as_bytes.ensures.value ∙ c.format-key.ensures.text in
    let size = length-states c.args.start (c.draws.drawn + 1) in
    let fine = drawn_records-fine c.args.keys (states_after c.args.start (c.draws.drawn + 1)) (omega arith) in
    rw (c.draws.invariant.built, key, c.next_state-state.ensures, c.draws.invariant.state) (rw (← drawn_records-next c.args.keys c.args.start c.draws.drawn) at fine)

pub draws-preserved : goal.draws-preserved
draws-preserved c =
    let key = c.as_bytes.ensures.value ∙ c.format-key.ensures.text in
    record {
      built = rw (c.in_ok-add_row-2.ensures, c.draws.invariant.built, key, c.next_state-state.ensures, c.draws.invariant.state)
          (ap drawing (drawn_records-next c.args.keys c.args.start c.draws.drawn));
      state = c.next_state-state.ensures ∙ ap next_state c.draws.invariant.state ∙ sym (state-more c.args.start c.draws.drawn);
    }

pub unreachable-requires : goal.unreachable-requires
unreachable-requires c =
    let size = length-states c.args.start c.draws.drawn in
    let fine = drawn_records-form c.args.keys (states_after c.args.start c.draws.drawn) (omega arith) in
    let bad = rw (c.in-Err-Bad.field-0-is, c.draws.invariant.built) at c.in-Err-Bad.ensures in
    let wrong = sym fine ∙ bad in
    cc

pub returns-in-Ok-clause-table : goal.returns-in-Ok-clause-table
returns-in-Ok-clause-table c =
    let all : c.draws.drawn ≡ c.args.keys = omega arith in
    let made = rw c.draws.invariant.built at c.in-Ok.ensures.1 in
    made ∙ drawn_records-table c.args.keys (states_after c.args.start c.draws.drawn) ∙ ap (λ (n : ℕ). drawn_table c.args.keys (states_after c.args.start n)) all
