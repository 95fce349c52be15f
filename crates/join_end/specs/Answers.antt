-- When a join is refused.
use Rattle.std.specs.Prelude.{◌≡◌, Bool, true}
use Rattle.row_model.specs.Table.{Table}
use Rattle.join_end.specs.declared.answer.JoinFault.{JoinFault}
use Rattle.join_end.specs.declared.answer.JoinFault.TheVariants.{TooMany, NoMemory}
use Rattle.join_end.specs.Works.{IsOver}

-- there are too many pairs, or somebody wanted memory
abbrev pub Refuses : Table → Table → Bool → JoinFault → Type 0
Refuses outer inner short (TooMany counted) = IsOver outer inner counted
Refuses outer inner short NoMemory = short ≡ true
