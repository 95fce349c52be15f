-- A seat that attaches, notices a passed phase, gains an election or detaches keeps all parts.
use Rattle.std.proofs.Common.{◌≡◌, ◌≢◌, ◌⊎◌, ℕ, suc, ◌≤◌, true, List, set, refl, sym, ap, ◌∙◌, subst, arith, inl, inr, ⊎_elim, Some, None, Option}
use Rattle.std.proofs.lemmas.Option.{none-some, same_Some}
use mathlib.Core.Logic.{dite}
use native.Mathlib.Decide.{ℕ_discrete}
use Rattle.seat_roster.specs.Totals.{total}
use Rattle.seat_roster.specs.Roster.{times, one_if}
use Rattle.seat_roster.proofs.Totals.{total_set, total_at}
use Rattle.atomic_table.proofs.Lists.{set_else}
use Rattle.seat_roster.proofs.Stretches.{each_set}
use Rattle.wait_core.specs.Parties.{phase_of, now, Reattached, IsEnter, IsNotice, IsLeave, elected}
use Rattle.join_law.specs.Layout.{Join, Memory, SizesOf, sizes_of}
use Rattle.join_law.specs.Routes.{batch_of}
use Rattle.join_law.specs.Phases.{On, batch_bar, growth_phase, HASH_INNER, HASH_OUTER, RUN, LOAD, PROBE}
use Rattle.join_law.specs.Quiet.{Quiet, Enters, Stays, QuietAt}
use Rattle.join_law.specs.Machine.{At}
use Rattle.join_law.specs.Views.{View}
use Rattle.join_law.specs.Stands.{There, on_bar, Parts}
use Rattle.join_law.proofs.Views.{attached_still, stored_still, count_still, growth_still}
use Rattle.join_law.proofs.Cursors.{cursors_still}
use Rattle.join_law.proofs.ClientMoves.{knows_of, place_still}

module _ (j : Join) (m : Memory) (lists : List (List ℕ)) (growth : Option (ℕ × ℕ)) (views : List View) (phases : List ℕ) (p : Parts j m lists growth views phases) (id : ℕ) (v : View) (at : There views id v) where
  abbrev z : SizesOf
  z = sizes_of m.sizes

  -- a seat's attachments change
  pub attached_moves : (a : List (ℕ × ℕ))
      → ((r : ℕ) → 1 ≤ times r v.client.hand → (b ph : ℕ) → On phases v b ph → phase_of a b ≡ Some ph)
      → ((bar ph : ℕ) → (bar ≡ 1) ⊎ (bar ≡ 2) → phase_of a bar ≡ Some ph → (phase_of a 0 ≡ Some HASH_INNER) × (now phases 0 ≡ HASH_INNER))
      → ((b ph : ℕ) → phase_of a (batch_bar b) ≡ Some ph → (phase_of a 0 ≡ Some RUN) × (now phases 0 ≡ RUN))
      → ((bar : ℕ) → (bar ≡ 1) ⊎ (bar ≡ 2) → 1 ≤ growth_phase bar (now phases bar) → 1 ≤ total (on_bar bar) (set views id (record v { attached = a })))
      → Parts j m lists growth (set views id (record v { attached = a })) phases
  attached_moves a hand growths batches manned =
      let w : View = record v { attached = a } in
      let k = knows_of j m lists growth views phases p id v at in
      record {
        laid = p.laid;
        bars = p.bars;
        meet = p.meet;
        fit = p.fit;
        place = place_still j m lists growth views phases p id v w at (λ _. refl);
        links = p.links;
        next = record { stored = each_set _ views id w p.next.stored k.hand.next };
        hashes = record { listed = p.hashes.listed; known = each_set _ views id w p.hashes.known k.hand.hashed };
        routes = p.routes;
        hands = record {
          inner = each_set _ views id w p.hands.inner (λ r more inner. ⊎_elim (λ o. inl (hand r more 0 HASH_INNER o, o.1)) (λ o. inr (o.0, o.1, (hand r more 0 RUN o.2, (o.2).1), (hand r more (batch_bar (batch_of z o.0)) LOAD o.3, (o.3).1))) (k.hand.inner r more inner));
          outer = each_set _ views id w p.hands.outer (λ r more outer. ⊎_elim (λ o. inl (hand r more 0 HASH_OUTER o, o.1)) (λ o. inr (o.0, o.1, (hand r more 0 RUN o.2, (o.2).1), (hand r more (batch_bar (batch_of z o.0)) PROBE o.3, (o.3).1))) (k.hand.outer r more outer));
        };
        gone = record { aside = each_set _ views id w p.gone.aside k.gone.aside; given = each_set _ views id w p.gone.given k.gone.given; probed = each_set _ views id w p.gone.probed k.gone.probed };
        count = count_still m.results views id v w at refl p.count;
        cursors = cursors_still j m.inner_cursor m.outer_cursor phases views id v w at refl refl refl refl p.cursors;
        attached = record {
          growths = each_set _ views id w p.attached.growths growths;
          batches = each_set _ views id w p.attached.batches batches;
          manned = manned;
          unbegun = p.attached.unbegun;
        };
        seen = record { emptied = each_set _ views id w p.seen.emptied k.seen.emptied; drained = each_set _ views id w p.seen.drained k.seen.drained; done = each_set _ views id w p.seen.done k.seen.done; late = each_set _ views id w p.seen.late k.seen.late };
        takes = record { fits = each_set _ views id w p.takes.fits k.takes };
        walks = record { fits = each_set _ views id w p.walks.fits k.walks };
        known = record { fits = each_set _ views id w p.known.fits k.known };
        grown = growth_still j z growth phases lists lists views id v w at (λ _ _ _ e. e) refl refl refl p.grown;
      }

  -- the view that only differs in its attachments
  reattached : (w : View) (bar : ℕ) (o : Option ℕ) → Reattached v w bar o → record v { attached = w.attached } ≡ w
  reattached w bar o r = λ i. record { client = sym r.client i; proc = sym r.proc i; attached = w.attached; elections = sym r.elections i }

  pub attached_to : (w : View) (bar : ℕ) (o : Option ℕ) → Reattached v w bar o → Parts j m lists growth (set views id (record v { attached = w.attached })) phases → Parts j m lists growth (set views id w) phases
  attached_to w bar o r = subst (λ (u : View). Parts j m lists growth (set views id u) phases) (reattached w bar o r)

  -- as many seats are on a barrier, or more
  still_manned : (bar : ℕ) (w : View) → on_bar bar v ≤ on_bar bar w → 1 ≤ total (on_bar bar) views → 1 ≤ total (on_bar bar) (set views id w)
  still_manned bar w more some = let t = total_set (on_bar bar) views id v w at in omega arith

-- ATTACHES
pub enter_keeps : (j : Join) (m : Memory) (lists : List (List ℕ)) (growth : Option (ℕ × ℕ)) (views : List View) (phases : List ℕ) → Parts j m lists growth views phases → (id : ℕ) (v w : View) (bar : ℕ) → IsEnter views phases id v w bar → Enters v bar
    → Parts j m lists growth (set views id w) phases
enter_keeps j m lists growth views phases p id v w bar s enters =
    let r = s.after in
    let not_there : (b ph : ℕ) → phase_of v.attached b ≡ Some ph → b ≢ bar = λ b ph on same. none-some ph (sym s.away ∙ subst (λ (c : ℕ). phase_of v.attached c ≡ Some ph) same on) in
    let keeps : (b ph : ℕ) → phase_of v.attached b ≡ Some ph → phase_of w.attached b ≡ Some ph = λ b ph on. r.elsewhere b (not_there b ph on) ∙ on in
    attached_to j m lists growth views phases p id v s.at w bar (Some (now phases bar)) r (attached_moves j m lists growth views phases p id v s.at w.attached
    (λ q more b ph on. keeps b ph on.0)
    (λ b ph is on. dite (ℕ_discrete b bar)
    (λ same. let e = growth_enters b is (subst (Enters v) (sym same) enters) in (keeps 0 HASH_INNER e, s.here 0 HASH_INNER e))
    (λ other. let o = p.attached.growths id v s.at b ph is (sym (r.elsewhere b other) ∙ on) in (keeps 0 HASH_INNER o.0, o.1)))
    (λ b ph on. dite (ℕ_discrete (batch_bar b) bar)
    (λ same. let e : At v 0 RUN = subst (Enters v) (sym same) enters in (keeps 0 RUN e, s.here 0 RUN e))
    (λ other. let o = p.attached.batches id v s.at b ph (sym (r.elsewhere (batch_bar b) other) ∙ on) in (keeps 0 RUN o.0, o.1)))
    (λ b is past. still_manned j m lists growth views phases p id v s.at b (record v { attached = w.attached }) (more_on b) (p.attached.manned b is past)))
  where
    growth_enters : (b : ℕ) → (b ≡ 1) ⊎ (b ≡ 2) → Enters v b → At v 0 HASH_INNER
    growth_enters b is e = ⊎_elim (λ one. subst (Enters v) one e) (λ two. subst (Enters v) two e) is

    more_on : (b : ℕ) → one_if (phase_of v.attached b) ≤ one_if (phase_of w.attached b)
    more_on b = dite (ℕ_discrete b bar)
        (λ same. let none : one_if (phase_of v.attached b) ≡ 0 = ap one_if (subst (λ (c : ℕ). phase_of v.attached c ≡ None) (sym same) s.away) in omega arith)
        (λ other. let e : one_if (phase_of w.attached b) ≡ one_if (phase_of v.attached b) = ap one_if ((s.after).elsewhere b other) in omega arith)

-- WAITS, NOTICES: the same barriers, at one of them perhaps a phase further
moves_on : (j : Join) (m : Memory) (lists : List (List ℕ)) (growth : Option (ℕ × ℕ)) (views : List View) (phases : List ℕ) → Parts j m lists growth views phases → (id : ℕ) (v w : View) (bar ph to : ℕ) → There views id v → phase_of v.attached bar ≡ Some ph → Reattached v w bar (Some to)
    → ((ph ≡ to) ⊎ (now phases bar ≢ ph)) → Parts j m lists growth (set views id w) phases
moves_on j m lists growth views phases p id v w bar ph to at on r way =
    let keeps : (b q : ℕ) → On phases v b q → phase_of w.attached b ≡ Some q = λ b q o. dite (ℕ_discrete b bar)
    (λ same.
    let same_ph : q ≡ ph = same_Some q ph (sym o.0 ∙ subst (λ (c : ℕ). phase_of v.attached c ≡ Some ph) (sym same) on) in
    ⊎_elim (λ (e : ph ≡ to). subst (λ (c : ℕ). phase_of w.attached c ≡ Some q) (sym same) (r.there ∙ ap Some (sym e ∙ sym same_ph)))
    (λ gone. absurd (gone (subst (λ (c : ℕ). now phases c ≡ ph) same (o.1 ∙ same_ph)))) way)
    (λ other. r.elsewhere b other ∙ o.0) in
    let before : (b q : ℕ) → phase_of w.attached b ≡ Some q → (x : ℕ) × (phase_of v.attached b ≡ Some x) = λ b q e. dite (ℕ_discrete b bar)
    (λ same. (ph, subst (λ (c : ℕ). phase_of v.attached c ≡ Some ph) (sym same) on)) (λ other. (q, sym (r.elsewhere b other) ∙ e)) in
    attached_to j m lists growth views phases p id v at w bar (Some to) r (attached_moves j m lists growth views phases p id v at w.attached
    (λ q more b x o. keeps b x o)
    (λ b q is e. let o = before b q e in let a = p.attached.growths id v at b o.0 is o.1 in (keeps 0 HASH_INNER a, a.1))
    (λ b q e. let o = before (batch_bar b) q e in let a = p.attached.batches id v at b o.0 o.1 in (keeps 0 RUN a, a.1))
    (λ b is past. still_manned j m lists growth views phases p id v at b (record v { attached = w.attached }) (more_on b) (p.attached.manned b is past)))
  where
    more_on : (b : ℕ) → one_if (phase_of v.attached b) ≤ one_if (phase_of w.attached b)
    more_on b = dite (ℕ_discrete b bar)
        (λ same. let a : one_if (phase_of w.attached b) ≡ 1 = ap one_if (subst (λ (c : ℕ). phase_of w.attached c ≡ Some to) (sym same) r.there) in let c : one_if (phase_of v.attached b) ≡ 1 = ap one_if (subst (λ (c : ℕ). phase_of v.attached c ≡ Some ph) (sym same) on) in omega arith)
        (λ other. let e : one_if (phase_of w.attached b) ≡ one_if (phase_of v.attached b) = ap one_if (r.elsewhere b other) in omega arith)

pub notice_keeps : (j : Join) (m : Memory) (lists : List (List ℕ)) (growth : Option (ℕ × ℕ)) (views : List View) (phases : List ℕ) → Parts j m lists growth views phases → (id : ℕ) (v w : View) (bar ph : ℕ) → IsNotice views phases id v w bar ph → Parts j m lists growth (set views id w) phases
notice_keeps j m lists growth views phases p id v w bar ph s = moves_on j m lists growth views phases p id v w bar ph (suc ph) s.at s.attached s.after (inr (λ e. let q = s.passed in omega arith))

-- DETACHES
pub leave_keeps : (j : Join) (m : Memory) (lists : List (List ℕ)) (growth : Option (ℕ × ℕ)) (views : List View) (phases : List ℕ) → Parts j m lists growth views phases → (id : ℕ) (v w : View) (bar ph : ℕ) → IsLeave Stays views phases id v w bar ph → Quiet j v bar ph
    → Parts j m lists growth (set views id w) phases
leave_keeps j m lists growth views phases p id v w bar ph s q =
    let r = s.after in
    let before : (b x : ℕ) → phase_of w.attached b ≡ Some x → (b ≢ bar) × (phase_of v.attached b ≡ Some x) = λ b x e. dite (ℕ_discrete b bar)
    (λ same. absurd (none-some x (sym r.there ∙ subst (λ (c : ℕ). phase_of w.attached c ≡ Some x) same e))) (λ other. (other, sym (r.elsewhere b other) ∙ e)) in
    -- who leaves build is on no growth barrier and on no batch
    let build_left : (x : ℕ) → 0 ≡ bar → phase_of v.attached 0 ≡ Some x → QuietAt j v 0 x = λ x same on.
    let same_ph : x ≡ ph = same_Some x ph (sym on ∙ subst (λ (c : ℕ). phase_of v.attached c ≡ Some ph) (sym same) s.attached) in
    subst (λ (c : ℕ). QuietAt j v c x) (sym same) (subst (QuietAt j v bar) (sym same_ph) q.1) in
    attached_to j m lists growth views phases p id v s.at w bar None r (attached_moves j m lists growth views phases p id v s.at w.attached
    (λ x more b c on. let none : times x v.client.hand ≡ 0 = ap (times x) q.0 in absurd (omega arith))
    (λ b x is e. let o = before b x e in let a = p.attached.growths id v s.at b x is o.1 in dite (ℕ_discrete 0 bar)
    (λ same. let d = build_left HASH_INNER same a.0 in ⊎_elim (λ one. absurd (none-some x (sym d.1 ∙ subst (λ (c : ℕ). phase_of v.attached c ≡ Some x) one o.1))) (λ two. absurd (none-some x (sym d.2 ∙ subst (λ (c : ℕ). phase_of v.attached c ≡ Some x) two o.1))) is)
    (λ other. (r.elsewhere 0 other ∙ a.0, a.1)))
    (λ b x e. let o = before (batch_bar b) x e in let a = p.attached.batches id v s.at b x o.1 in dite (ℕ_discrete 0 bar)
    (λ same. let d = build_left RUN same a.0 in absurd (none-some x (sym (d.1 b) ∙ o.1)))
    (λ other. (r.elsewhere 0 other ∙ a.0, a.1)))
    (λ b is past. dite (ℕ_discrete b bar)
    (λ same. ⊎_elim
    (λ free. absurd (free (subst (λ (c : ℕ). Stays c (now phases c)) same (stays_past b is past))))
    (λ o. let t = total_at (on_bar b) (set views id (record v { attached = w.attached })) o.0 o.1 (set_else views id o.0 (record v { attached = w.attached }) o.3 ∙ o.4) in
    let one_there : on_bar b o.1 ≡ 1 = ap one_if (subst (λ (c : ℕ). phase_of (o.1).attached c ≡ Some o.2) (sym same) o.5) in omega arith) s.leaves)
    (λ other. still_manned j m lists growth views phases p id v s.at b (record v { attached = w.attached }) (let e : one_if (phase_of w.attached b) ≡ one_if (phase_of v.attached b) = ap one_if (r.elsewhere b other) in omega arith) (p.attached.manned b is past))))
  where
    stays_past : (b : ℕ) → (b ≡ 1) ⊎ (b ≡ 2) → 1 ≤ growth_phase b (now phases b) → Stays b (now phases b)
    stays_past b is past = ⊎_elim (λ one. subst (λ (c : ℕ). Stays c (now phases c)) (sym one) (subst (λ (c : ℕ). 1 ≤ growth_phase c (now phases c)) one past))
        (λ two. subst (λ (c : ℕ). Stays c (now phases c)) (sym two) (subst (λ (c : ℕ). 1 ≤ growth_phase c (now phases c)) two past)) is

-- GAINS AN ELECTION
pub elect_keeps : (j : Join) (m : Memory) (lists : List (List ℕ)) (growth : Option (ℕ × ℕ)) (views : List View) (phases : List ℕ) → Parts j m lists growth views phases → (id : ℕ) (v : View) (bar ph : ℕ) → There views id v → Parts j m lists growth (set views id (elected v bar ph)) phases
elect_keeps j m lists growth views phases p id v bar ph at =
    let w : View = elected v bar ph in
    let k = knows_of j m lists growth views phases p id v at in
    record {
      laid = p.laid;
      bars = p.bars;
      meet = p.meet;
      fit = p.fit;
      place = place_still j m lists growth views phases p id v w at (λ _. refl);
      links = p.links;
      next = record { stored = each_set _ views id w p.next.stored k.hand.next };
      hashes = record { listed = p.hashes.listed; known = each_set _ views id w p.hashes.known k.hand.hashed };
      routes = p.routes;
      hands = record { inner = each_set _ views id w p.hands.inner k.hand.inner; outer = each_set _ views id w p.hands.outer k.hand.outer };
      gone = record { aside = each_set _ views id w p.gone.aside k.gone.aside; given = each_set _ views id w p.gone.given k.gone.given; probed = each_set _ views id w p.gone.probed k.gone.probed };
      count = count_still m.results views id v w at refl p.count;
      cursors = cursors_still j m.inner_cursor m.outer_cursor phases views id v w at refl refl refl refl p.cursors;
      attached = attached_still j phases views id v w at refl p.attached;
      seen = record { emptied = each_set _ views id w p.seen.emptied k.seen.emptied; drained = each_set _ views id w p.seen.drained k.seen.drained; done = each_set _ views id w p.seen.done k.seen.done; late = each_set _ views id w p.seen.late k.seen.late };
      takes = record { fits = each_set _ views id w p.takes.fits k.takes };
      walks = record { fits = each_set _ views id w p.walks.fits k.walks };
      known = record { fits = each_set _ views id w p.known.fits k.known };
      grown = record {
        last = λ b q e. let g = p.grown.last b q e in (g.0, g.1, g.2, g.3, stored_still views id v w b q at refl g.4);
        stored = each_set _ views id w p.grown.stored (λ b q e. let o = p.grown.stored id v at b q e in (suc o.0, o.1));
        swept = each_set _ views id w p.grown.swept k.swept;
      };
    }
