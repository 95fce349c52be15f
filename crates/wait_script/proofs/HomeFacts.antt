-- What a task leaves of a list and of a record.
use Rattle.std.proofs.Common.{ℕ, ◌+◌, ◌-◌, ◌<◌, eqb, Bool, true, false, cond, List, [], ◌∷◌, ◌++◌, arith}
use Rattle.wait_core.specs.declared.step.WaitStep.{WaitStep}
use Rattle.wait_core.specs.declared.step.WaitStep.TheVariants as kind
use Rattle.wait_core.specs.declared.view.Frame.TheVariants as frame
use Rattle.wait_core.specs.declared.view.Job.{Job}
use Rattle.wait_core.specs.declared.view.Job.TheVariants as job
use Rattle.wait_core.specs.declared.view.Kept.{Kept}
use Rattle.wait_core.specs.declared.view.Record.{Record}
use Rattle.wait_core.specs.Lists.{AllBelow, is_empty, is_listed, rest_of, without}
use Rattle.wait_core.specs.Jobs.{departed, has_passed, is_awaited, is_last, is_only, is_worn, left_list, left_record}
use Rattle.wait_core.specs.Machine.{Place, as_kept, left_at}
use Rattle.script_play.specs.Play.{step_limit}
use Rattle.wait_script.specs.declared.spots.Point.{Point}
use Rattle.wait_script.specs.declared.spots.Point.TheVariants as point
use Rattle.wait_script.specs.declared.spots.Popped.TheVariants as popped
use Rattle.wait_script.specs.declared.spots.Spot.{Spot}
use Rattle.wait_script.specs.declared.spots.Spot.TheVariants as spot
use Rattle.wait_script.specs.declared.spots.Stage.TheVariants as stage
use Rattle.wait_script.specs.WaitScripts.{home_after}
use Rattle.wait_script.specs.WaitSketch.{HeldNear, Near, SpotNear, SpotRoom, frames, frames_at}

-- LISTS of the table's backends
below-append : (procs : ℕ) (xs ys : List ℕ) → AllBelow procs xs → AllBelow procs ys → AllBelow procs (xs ++ ys)
below-append procs [] ys h k = k
below-append procs (x ∷ xs) ys h k = (h.0, below-append procs xs ys h.1 k)

below-cond : (procs : ℕ) (b : Bool) (xs ys : List ℕ) → AllBelow procs xs → AllBelow procs ys → AllBelow procs (cond b xs ys)
below-cond procs true xs ys h k = h
below-cond procs false xs ys h k = k

below-without : (procs p : ℕ) (xs : List ℕ) → AllBelow procs xs → AllBelow procs (without p xs)
below-without procs p [] h = tt
below-without procs p (x ∷ xs) h = below-cond procs (eqb x p) (without p xs) (x ∷ without p xs) (below-without procs p xs h.1) (h.0, below-without procs p xs h.1)

below-rest : (procs : ℕ) (xs : List ℕ) → AllBelow procs xs → AllBelow procs (rest_of xs)
below-rest procs [] h = tt
below-rest procs (x ∷ xs) h = h.1

pub left-below : (procs p : ℕ) (j : Job) (list : List ℕ) → p < procs → AllBelow procs list → AllBelow procs (left_list j p list)
left-below procs p (job.Cancel c) list own h = below-without procs p list h
left-below procs p (job.Prepare c) list own h = below-append procs list (p ∷ []) h (own, tt)
left-below procs p (job.Resleep c) list own h = below-cond procs (is_listed p list) list (list ++ p ∷ []) h (below-append procs list (p ∷ []) h (own, tt))
left-below procs p (job.Signal c) list own h = below-rest procs list h
left-below procs p (job.Broadcast c) list own h = below-cond procs (is_empty (rest_of list)) [] (rest_of list ++ p ∷ []) tt (below-append procs (rest_of list) (p ∷ []) (below-rest procs list h) (own, tt))
left-below procs p (job.Rebroadcast c) list own h = below-rest procs list h
left-below procs p (job.Attach b) list own h = h
left-below procs p (job.Arrive b) list own h = h
left-below procs p (job.Notice b ph) list own h = h
left-below procs p (job.Detach b) list own h = h
left-below procs p (job.ArriveDetach b) list own h = h
left-below procs p (job.ExceptLast b) list own h = h

-- RECORDS after so many steps
pub near-more : (m : ℕ) (r : Record) → Near m r → Near (m + 1) r
near-more m r h = record { phase = omega (arith, h.phase); participants = omega (arith, h.participants); arrived = omega (arith, h.arrived) }

near-cond : (m : ℕ) (b : Bool) (r s : Record) → Near m r → Near m s → Near m (cond b r s)
near-cond m true r s h k = h
near-cond m false r s h k = k

near-departed : (m : ℕ) (b : Bool) (r : Record) → Near m r → Near (m + 1) (departed b r)
near-departed m true r h = record { phase = omega (arith, h.phase); participants = omega (arith, h.participants); arrived = omega arith }
near-departed m false r h = record { phase = omega (arith, h.phase); participants = omega (arith, h.participants); arrived = omega (arith, h.arrived) }

near-left : (m : ℕ) (j : Job) (r : Record) → Near m r → Near (m + 1) (left_record j r)
near-left m (job.Cancel c) r h = near-more m r h
near-left m (job.Prepare c) r h = near-more m r h
near-left m (job.Resleep c) r h = near-more m r h
near-left m (job.Signal c) r h = near-more m r h
near-left m (job.Broadcast c) r h = near-more m r h
near-left m (job.Rebroadcast c) r h = near-more m r h
near-left m (job.Attach b) r h = record { phase = omega (arith, h.phase); participants = omega (arith, h.participants); arrived = omega (arith, h.arrived) }
near-left m (job.Arrive b) r h = near-cond (m + 1) (is_worn r) r _ (near-more m r h) (near-cond (m + 1) (is_last r) (record r { phase = r.phase + 1; arrived = 0; elected = r.phase + 1 }) (record r { arrived = r.arrived + 1 })
    (record { phase = omega (arith, h.phase); participants = omega (arith, h.participants); arrived = omega arith })
    (record { phase = omega (arith, h.phase); participants = omega (arith, h.participants); arrived = omega (arith, h.arrived) }))
near-left m (job.Notice b ph) r h = near-cond (m + 1) (has_passed ph r) (record r { elected = r.phase }) r
    (record { phase = omega (arith, h.phase); participants = omega (arith, h.participants); arrived = omega (arith, h.arrived) }) (near-more m r h)
near-left m (job.Detach b) r h = near-departed m (is_awaited r) r h
near-left m (job.ArriveDetach b) r h = near-cond (m + 1) (is_worn r) r (departed (is_last r) r) (near-more m r h) (near-departed m (is_last r) r h)
near-left m (job.ExceptLast b) r h = near-cond (m + 1) (is_worn r) r _ (near-more m r h) (near-cond (m + 1) (is_only r) (record r { phase = r.phase + 1 }) (record r { participants = r.participants - 1 })
    (record { phase = omega (arith, h.phase); participants = omega (arith, h.participants); arrived = omega (arith, h.arrived) })
    (record { phase = omega (arith, h.phase); participants = omega (arith, h.participants); arrived = omega (arith, h.arrived) }))

-- what goes home, and what is there after a step
pub zero-near : (m : ℕ) → Near m (left_at 0 []).record
zero-near m = record { phase = omega arith; participants = omega arith; arrived = omega arith }

near-at : (m p : ℕ) (place : Place) → HeldNear m place → Near (m + 1) (left_at p place).record
near-at m p (frame.Holding j list found ∷ rest) h = near-left m j found h
near-at m p place h = zero-near (m + 1)

near-taken : (m : ℕ) (b : Bool) (home : Kept) → Near m home.record → Near (m + 1) (cond b (as_kept [] home.record) home).record
near-taken m true home h = near-more m home.record h
near-taken m false home h = near-more m home.record h

pub near-home : (m : ℕ) (k : WaitStep) (n p : ℕ) (place : Place) (home : Kept) → HeldNear m place → Near m home.record → Near (m + 1) (home_after k n p place home).record
near-home m (kind.Take x begins) n p place home held h = near-taken m (eqb n 0) home h
near-home m (kind.Free x target) n p place home held h = near-at m p place held
near-home m k n p place home held h = near-more m home.record h

-- what a place has in hand
pub held-more : (m : ℕ) (place : Place) → HeldNear m place → HeldNear (m + 1) place
held-more m (frame.Holding j list found ∷ rest) h = near-more m found h
held-more m place h = tt

held-point : (m : ℕ) (p : Point) → HeldNear m (frames_at p)
held-point m (point.Inside (stage.Settling b ph)) = tt
held-point m (point.Inside (stage.Dozing b ph)) = tt
held-point m (point.Inside (stage.Passing b ph)) = tt
held-point m (point.Inside (stage.Returning b ph)) = tt
held-point m (point.Popping (popped.Signal c q)) = tt
held-point m (point.Popping (popped.Broadcast c q more o)) = tt
held-point m p = tt

pub held-spot : (m : ℕ) (s : Spot) → SpotNear m s → HeldNear m (frames s)
held-spot m (spot.At p) h = held-point m p
held-spot m (spot.Holding j list found) h = h

pub spot-room : (m : ℕ) (s : Spot) → m < step_limit → HeldNear m (frames s) → SpotRoom s
spot-room m (spot.At p) few h = tt
spot-room m (spot.Holding j list found) few h = record { phase = omega (arith, few, h.phase); participants = omega (arith, few, h.participants); arrived = omega (arith, few, h.arrived) }
