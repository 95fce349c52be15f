use Rattle.std.proofs.Common.{◌<◌, ℕ, Option, get_or, sym, subst}
use Rattle.std.proofs.lemmas.List.{drop-set-lt}
use Rattle.wait_core.specs.Words.{client_base}
use Rattle.wait_core.specs.Machine.{word_of, number_of, becomes, Permits}
use Rattle.wait_core.proofs.RuleKept.{word_inside, own_below}
use Rattle.wait_core.proofs.laws.machine_leaves_client.Goals as goal

pub returns : goal.returns
returns g c = let p = c.args.party.now in let z = c.args.size in λ s id o v k r at own ok.
    let i : ℕ = word_of z (number_of v.own) k in
    let inside = word_inside z o k r.sized.cvs v.target v.place (own_below (g.P.Party.means p) z c.args.phase (g.P.Party.word_count p) s r id v o at own) (subst (λ (x : Option ℕ). Permits z k x v.target v.place) own ok) in
    drop-set-lt (client_base z) s.words i (becomes k (get_or s.words i 0)) (subst (λ (x : Option ℕ). word_of z (number_of x) k < client_base z) (sym own) inside.1)
