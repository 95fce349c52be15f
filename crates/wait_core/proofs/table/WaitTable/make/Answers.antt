use Rattle.wait_core.proofs.Asks.{asked}
use Rattle.wait_core.proofs.table.WaitTable.make.Goals as goal

pub load-requires : goal.load-requires
load-requires g c = asked _ _ c.self.invariant.0 (λ a. a.party) (λ a. a.size) (λ a. a.phase) (λ a. a.count) g.P.Party.means g.P.Party.word_count _ _ c.self.view_is c.self.inside.about.counted _ _ _ _ _ _ c.in-Load.is g.M.Doing.gives c.requires.table c.requires.told

pub swap-requires : goal.swap-requires
swap-requires g c = asked _ _ c.self.invariant.0 (λ a. a.party) (λ a. a.size) (λ a. a.phase) (λ a. a.count) g.P.Party.means g.P.Party.word_count _ _ c.self.view_is c.self.inside.about.counted _ _ _ _ _ _ c.in-Store.is g.M.Doing.gives c.requires.table c.requires.told

pub fetch_add-requires : goal.fetch_add-requires
fetch_add-requires g c = asked _ _ c.self.invariant.0 (λ a. a.party) (λ a. a.size) (λ a. a.phase) (λ a. a.count) g.P.Party.means g.P.Party.word_count _ _ c.self.view_is c.self.inside.about.counted _ _ _ _ _ _ c.in-Add.is g.M.Doing.gives c.requires.table c.requires.told

pub fetch_or-requires : goal.fetch_or-requires
fetch_or-requires g c = asked _ _ c.self.invariant.0 (λ a. a.party) (λ a. a.size) (λ a. a.phase) (λ a. a.count) g.P.Party.means g.P.Party.word_count _ _ c.self.view_is c.self.inside.about.counted _ _ _ _ _ _ c.in-Or.is g.M.Doing.gives c.requires.table c.requires.told

pub compare_exchange-requires : goal.compare_exchange-requires
compare_exchange-requires g c = asked _ _ c.self.invariant.0 (λ a. a.party) (λ a. a.size) (λ a. a.phase) (λ a. a.count) g.P.Party.means g.P.Party.word_count _ _ c.self.view_is c.self.inside.about.counted _ _ _ _ _ _ c.in-Change.is g.M.Doing.gives c.requires.table c.requires.told
