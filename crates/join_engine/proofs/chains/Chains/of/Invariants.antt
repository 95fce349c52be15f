use Rattle.std.proofs.Common.{◌≡◌, ℕ, ◌+◌, ◌≤◌, length, nat_eq}
use Rattle.std.specs.Prelude.{slice_get}
use Rattle.std.specs.HashMap.{get}
use Rattle.join_engine.specs.Looks.{rows_from}
use Rattle.join_engine.specs.Chains.{IsLinked}
use Rattle.join_engine.proofs.chains.Chains.of.Given as goal

abbrev pub invariant-rows : goal.invariant-rows
invariant-rows g l = record {
  count : l.count ≡ length l.rows.rows;
  size : length l.next.items ≡ length l.rows.rows;
  heads : (hash : ℕ) → get nat_eq l.heads hash ≡ slice_get (rows_from l.rows l.row hash) 0;
  next : IsLinked l.rows l.next.items l.row;
  looks : l.steps + l.row ≤ l.fn.steps + length l.rows.rows;
}
