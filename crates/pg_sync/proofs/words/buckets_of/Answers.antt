use Rattle.std.proofs.Common.{◌∙◌, count_ones, arith, sym}
use Rattle.std.proofs.lemmas.Bool.{eqb-true}
use Rattle.pg_sync.proofs.WordFacts.{power_of_one_bit}
use Rattle.pg_sync.proofs.words.buckets_of.Goals as goal

pub returns-clause-range : goal.returns-clause-range
returns-clause-range c =
    let one = eqb-true (count_ones c.in_ok-buckets.buckets) 1 (sym c.is_power_of_two.ensures ∙ c.if-not-is_power_of_two.false) in
    (power_of_one_bit c.in_ok-buckets.buckets one, omega (arith, c.in_ok-buckets.ensures.range))
