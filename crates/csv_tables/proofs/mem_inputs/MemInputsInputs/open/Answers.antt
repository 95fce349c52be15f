use Rattle.std.proofs.Common.{◌∙◌, sym}
use Rattle.csv_tables.proofs.MemoryFacts.{fails-listed, fails-missing}
use Rattle.csv_tables.proofs.mem_inputs.MemInputsInputs.open.Goals as goal
use Rattle.csv_tables.proofs.mem_inputs.MemInputsInputs.open.Goals.{then-not-contains+in_default, else-not-contains}

pub returns-in-Inner-side-clause-fails : goal.returns-in-Inner-side-clause-fails
returns-in-Inner-side-clause-fails c = elim c.if-not-contains.branch [
  | then-not-contains+in_default w ↦
      let missing = rw w.as_slice.ensures.value at w.in_default.ensures.missing in
      rw (← c.self.view_is) (fails-missing _ _ missing)
  | else-not-contains w ↦
      let listed = rw (c.deref.ensures.value, c.saturating_add-self-inside.ensures) at (sym c.contains.ensures.value ∙ w.if-not-contains.false) in
      rw (← c.self.view_is) (fails-listed _ _ listed)
]

pub returns-in-Outer-side-clause-fails : goal.returns-in-Outer-side-clause-fails
returns-in-Outer-side-clause-fails c = elim c.if-not-contains.branch [
  | then-not-contains+in_default w ↦
      let missing = rw w.as_slice.ensures.value at w.in_default.ensures.missing in
      rw (← c.self.view_is) (fails-missing _ _ missing)
  | else-not-contains w ↦
      let listed = rw (c.deref.ensures.value, c.saturating_add-self-inside.ensures) at (sym c.contains.ensures.value ∙ w.if-not-contains.false) in
      rw (← c.self.view_is) (fails-listed _ _ listed)
]
