use Rattle.std.proofs.Common.{◌+◌, ◌-◌, sym, ap, ◌∙◌, subst, arith, refl}
use Rattle.wait_core.specs.declared.view.WaitView.{WaitView}
use Rattle.wait_core.specs.Seating.{client_moved, party_of}
use Rattle.join_law.specs.declared.view.HashView.{HashView}
use Rattle.join_law.specs.Quiet.{AllSwept}
use Rattle.join_party.specs.declared.party.HashParty.{HashParty}
use Rattle.join_party.specs.Joins.{join}
use Rattle.shared_tuples.specs.Growing.{bar_of}
use Rattle.hash_build.specs.Growths.{AreAt, phase_at}
use Rattle.hash_build.specs.Hashing.{KnowsThese}
use Rattle.hash_build.proofs.Hashing.{knows_still}
use Rattle.hash_build.proofs.Moving.{all_swept, may_take_still, may_take_turn, moves_more, shares_few, these_few}
use Rattle.hash_build.proofs.Passing.{reads_sizes_there}
use Rattle.hash_build.proofs.moves.move_rows.Goals as goal

pub before-old-requires : goal.before-old-requires
before-old-requires g c =
    let few = these_few (join c.args.tables.now.waits.party) (party_of c.read_sizes-sizes.new.seats.wait.view) c.read_sizes-sizes.result (c.read_sizes-sizes.ensures.known (reads_sizes_there c.args.phases c.args.seats.now.wait.view c.requires.growing.attached)) in
    record { half = few.0 }

pub overflow_add-heads : goal.overflow_add-heads
overflow_add-heads g c =
    let few = these_few (join c.args.tables.now.waits.party) (party_of c.read_sizes-sizes.new.seats.wait.view) c.read_sizes-sizes.result (c.read_sizes-sizes.ensures.known (reads_sizes_there c.args.phases c.args.seats.now.wait.view c.requires.growing.attached)) in
    let old = c.before-old.ensures.few in
    let a = few.1.1 in let b = few.2.1 in let d = old.1 in let e = old.2 few.2.0 in omega arith

pub overflow_sub-heads : goal.overflow_sub-heads
overflow_sub-heads g c =
    let few = these_few (join c.args.tables.now.waits.party) (party_of c.read_sizes-sizes.new.seats.wait.view) c.read_sizes-sizes.result (c.read_sizes-sizes.ensures.known (reads_sizes_there c.args.phases c.args.seats.now.wait.view c.requires.growing.attached)) in
    c.before-old.ensures.some few.1.0 few.2.0

pub overflow_mul-first : goal.overflow_mul-first
overflow_mul-first g c =
    let few = these_few (join c.args.tables.now.waits.party) (party_of c.read_sizes-sizes.new.seats.wait.view) c.read_sizes-sizes.result (c.read_sizes-sizes.ensures.known (reads_sizes_there c.args.phases c.args.seats.now.wait.view c.requires.growing.attached)) in
    let old = c.before-old.ensures.few in let d = old.1 in let e = old.2 few.2.0 in
    let few = shares_few c.draw_start.result c.args.tables.now.plan.workers c.before-old.result.buckets c.before-old.result.batches c.draw_start.ensures.start c.args.tables.now.workers.1 (omega arith) (omega arith) in omega arith

pub empty_heads-requires-clause-known : goal.empty_heads-requires-clause-known
empty_heads-requires-clause-known g c =
    subst (λ (y : WaitView HashView). KnowsThese (join c.args.tables.now.waits.party) (party_of y) c.read_sizes-sizes.result) (sym c.draw_start.ensures.same.2)
    (c.read_sizes-sizes.ensures.known (reads_sizes_there c.args.phases c.args.seats.now.wait.view c.requires.growing.attached))

pub empty_heads-requires-clause-turns : goal.empty_heads-requires-clause-turns
empty_heads-requires-clause-turns g c turn less =
    let at = subst (λ (y : WaitView HashView). AreAt c.args.phases y.attached) (sym (c.draw_start.ensures.same.2 ∙ c.read_sizes-sizes.ensures.view)) c.requires.growing.attached in
    may_take_turn (join c.args.tables.now.waits.party) c.draw_start.new.seats.wait.view c.args.growth c.args.phases c.read_sizes-sizes.result c.before-old.result turn c.party.result.now.first_batches at c.requires.moving.0 c.requires.moving.1 (empty_heads-requires-clause-known g c)
    c.before-old.ensures.sizes (sym (ap (λ (p : HashParty). p.first_batches) c.party.ensures)) less

pub empty_heads-requires-2-clause-known : goal.empty_heads-requires-2-clause-known
empty_heads-requires-2-clause-known g c =
    let moved = c.empty_heads.ensures.moves in
    let knows : KnowsThese (join c.args.tables.now.waits.party) (party_of c.draw_start.new.seats.wait.view) c.read_sizes-sizes.result = subst (λ (y : WaitView HashView). KnowsThese (join c.args.tables.now.waits.party) (party_of y) c.read_sizes-sizes.result) (sym c.draw_start.ensures.same.2) (c.read_sizes-sizes.ensures.known (reads_sizes_there c.args.phases c.args.seats.now.wait.view c.requires.growing.attached)) in
    knows_still (join c.args.tables.now.waits.party) c.draw_start.new.seats.wait.view c.empty_heads.new.seats.wait.view c.empty_heads.new.seats.wait.view.client c.read_sizes-sizes.result moved.view moved.sizes.0 knows

pub empty_heads-requires-2-clause-turns : goal.empty_heads-requires-2-clause-turns
empty_heads-requires-2-clause-turns g c turn less =
    let at = subst (λ (y : WaitView HashView). AreAt c.args.phases y.attached) (sym (c.draw_start.ensures.same.2 ∙ c.read_sizes-sizes.ensures.view)) c.requires.growing.attached in
    let knows : KnowsThese (join c.args.tables.now.waits.party) (party_of c.draw_start.new.seats.wait.view) c.read_sizes-sizes.result = subst (λ (y : WaitView HashView). KnowsThese (join c.args.tables.now.waits.party) (party_of y) c.read_sizes-sizes.result) (sym c.draw_start.ensures.same.2) (c.read_sizes-sizes.ensures.known (reads_sizes_there c.args.phases c.args.seats.now.wait.view c.requires.growing.attached)) in
    may_take_still (join c.args.tables.now.waits.party) c.draw_start.new.seats.wait.view c.empty_heads.new.seats.wait.view c.args.growth turn c.empty_heads.ensures.moves
    (may_take_turn (join c.args.tables.now.waits.party) c.draw_start.new.seats.wait.view c.args.growth c.args.phases c.read_sizes-sizes.result c.before-old.result turn c.party.result.now.first_batches at c.requires.moving.0 c.requires.moving.1 knows
    c.before-old.ensures.sizes (sym (ap (λ (p : HashParty). p.first_batches) c.party.ensures)) less)

pub add_batch_sizes-requires-clause-sizes : goal.add_batch_sizes-requires-clause-sizes
add_batch_sizes-requires-clause-sizes g c =
    let few = these_few (join c.args.tables.now.waits.party) (party_of c.read_sizes-sizes.new.seats.wait.view) c.read_sizes-sizes.result (c.read_sizes-sizes.ensures.known (reads_sizes_there c.args.phases c.args.seats.now.wait.view c.requires.growing.attached)) in
    (few.0, few.2.1)

pub returns-clause-swept : goal.returns-clause-swept
returns-clause-swept g c =
    let j = join c.args.tables.now.waits.party in
    let w = c.empty_heads-2.new.seats.wait.view in
    let moved = moves_more c.draw_start.new.seats.wait.view c.empty_heads.new.seats.wait.view w c.empty_heads.ensures.moves c.empty_heads-2.ensures.moves in
    let at = subst (λ (y : WaitView HashView). AreAt c.args.phases y.attached) (sym (moved.view ∙ ap (λ (y : WaitView HashView). client_moved y w.client) (c.draw_start.ensures.same.2 ∙ c.read_sizes-sizes.ensures.view))) c.requires.growing.attached in
    let drawn : KnowsThese j (party_of c.draw_start.new.seats.wait.view) c.read_sizes-sizes.result = subst (λ (y : WaitView HashView). KnowsThese (join c.args.tables.now.waits.party) (party_of y) c.read_sizes-sizes.result) (sym c.draw_start.ensures.same.2) (c.read_sizes-sizes.ensures.known (reads_sizes_there c.args.phases c.args.seats.now.wait.view c.requires.growing.attached)) in
    let knows = knows_still j c.draw_start.new.seats.wait.view w w.client c.read_sizes-sizes.result moved.view moved.sizes.0 drawn in
    subst (λ (y : WaitView HashView). AllSwept j (party_of y) (bar_of c.args.growth) (phase_at c.args.growth c.args.phases)) (sym c.add_batch_sizes.ensures.view)
    (all_swept j w c.args.growth c.args.phases c.read_sizes-sizes.result c.before-old.result (c.before-old.result.buckets + c.before-old.result.batches - 1) c.party.result.now.first_batches at c.requires.moving.0 c.requires.moving.1 knows
    c.before-old.ensures.sizes (sym (ap (λ (p : HashParty). p.first_batches) c.party.ensures)) (omega arith) (c.empty_heads-2.ensures.swept refl))
