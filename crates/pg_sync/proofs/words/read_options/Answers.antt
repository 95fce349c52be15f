use Rattle.std.proofs.Common.{◌∙◌, refl}
use Rattle.pg_sync.specs.Words.{options_at}
use Rattle.pg_sync.proofs.WordFacts.{defaults, reads_on}
use Rattle.pg_sync.proofs.words.read_options.Goals as goal

pub options-init : goal.options-init
options-init c = record { reads = refl; plan = defaults }

pub options-preserved : goal.options-preserved
options-preserved c =
    let more = rw (c.as_str.ensures.value, c.as_str-in-len2-up.ensures.value) at c.in_ok-given.ensures.options in
    record {
      reads = reads_on (options_at c.options.given) (options_at c.in_ok-given.given) c.options.left.now c.name-item.result c.value-item.result
          c.in-len2-up.len_at_least c.name-item.is c.value-item.is more ∙ c.options.invariant.reads;
      plan = c.in_ok-given.ensures.plan;
    }
