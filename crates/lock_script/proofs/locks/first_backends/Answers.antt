use Rattle.std.proofs.Common.{◌∙◌, ◌++◌, ℕ, [], ◌∷◌, List, map, sym, ap, subst, arith}
use Rattle.std.specs.Prelude.{All}
use Rattle.std.proofs.lemmas.List.FromFn.{map-range_with_len_more}
use Rattle.std.proofs.lemmas.List.{map-append}
use Rattle.std.proofs.lemmas.List.Elements.{All-push}
use Rattle.lock_script.specs.declared.locks.Backend.{Backend}
use Rattle.lock_script.specs.LockSketch.{BackendFits, Stand, idle, stand_of}
use Rattle.lock_script.proofs.locks.first_backends.Goals as goal

pub backends-preserved : goal.backends-preserved
backends-preserved c =
    let none : ℕ → Stand = λ _. idle in
    let more = map-range_with_len_more none 0 c.backends.backend c.backends.backend (omega arith) in
    record {
      stands = ap (λ (t : List Backend). map stand_of t) c.in_ok-push.ensures.items ∙ map-append stand_of c.backends.backends.items (c.idle.result ∷ []) ∙ ap (λ (t : Stand). map stand_of c.backends.backends.items ++ t ∷ []) c.idle.ensures.stand
          ∙ ap (λ (t : List Stand). t ++ idle ∷ []) c.backends.invariant.stands ∙ sym more;
      fits = subst (λ (t : List Backend). All (BackendFits c.args.size) t) (sym c.in_ok-push.ensures.items)
          (All-push (BackendFits c.args.size) c.backends.backends.items c.idle.result c.backends.invariant.fits c.idle.ensures.fits);
    }
