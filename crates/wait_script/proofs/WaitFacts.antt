-- What a step leaves of a sketch of a wait machine.
use Rattle.std.proofs.Common.{◌≡◌, ◌∙◌, ℕ, ◌+◌, ◌<◌, nat_lt, eqb, Bool, true, cond, List, map, length, set, get_or, Option, None, Some, refl, sym, ap, subst, arith}
use Rattle.std.specs.Prelude.{All, option_map, slice_index}
use Rattle.std.specs.List.{range_with_len}
use Rattle.std.proofs.lemmas.List.{get_or-map, length-map, length-set}
use Rattle.std.proofs.lemmas.List.FromFn.{length-map-range_with_len}
use Rattle.std.proofs.lemmas.List.Elements.{All-set}
use Rattle.wait_core.specs.declared.step.Call.{Call}
use Rattle.wait_core.specs.declared.step.WaitStep.{WaitStep}
use Rattle.wait_core.specs.declared.view.Kept.{Kept}
use Rattle.wait_core.specs.Words.{client_base, slots_in}
use Rattle.wait_core.specs.Lists.{AllBelow}
use Rattle.wait_core.specs.Machine.{Place, becomes, slot_number, word_of}
use Rattle.script_play.specs.Play.{Prints}
use Rattle.script_play.proofs.ListFacts.{each-map, each-set, map-set}
use Rattle.wait_script.specs.declared.homes.Home.{Home}
use Rattle.wait_script.specs.declared.waits.Backend.{Backend}
use Rattle.wait_script.specs.declared.waits.Opening.{Opening}
use Rattle.wait_script.specs.Waits.{ask_of, step_at}
use Rattle.wait_script.specs.WaitScripts.{first_home, first_homes, first_words, home_after, home_at, nothing}
use Rattle.wait_script.specs.WaitSketch.{BackendFits, Counts, Fits, HeldNear, Near, OpeningFits, Sketch, Stand, begins, idle, kept_of, opening_sketch, shown, stand_at, stand_of, started, turn, went, with_stand}
use Rattle.wait_script.proofs.HomeFacts.{held-more, near-home, near-more, zero-near}

pub stand-at : (bs : List Backend) (i : ℕ) (b : Backend) → i < length bs → b ≡ get_or bs i b → get_or (map stand_of bs) i (idle 0) ≡ stand_of b
stand-at bs i b inside is = get_or-map stand_of bs i b (idle 0) inside ∙ ap stand_of (sym is)

pub home-at : (hs : List Home) (i : ℕ) (h : Home) → i < length hs → h ≡ get_or hs i h → home_at (map kept_of hs) i ≡ kept_of h
home-at hs i h inside is = get_or-map kept_of hs i h nothing inside ∙ ap kept_of (sym is)

-- a word, what is at home in a slot and a backend are written
pub set-fits : (o : Opening) (words more : List ℕ) (homes : List Home) (backends : List Backend) (x p : ℕ) (h : Home) (b : Backend)
    → Fits o words (map kept_of homes) backends → length more ≡ length words → AllBelow o.size.procs h.list.items → BackendFits o.size b → Fits o more (map kept_of (set homes x h)) (set backends p b)
set-fits o words more homes backends x p h b fits same below new = record {
  opening = fits.opening;
  words_are = same ∙ fits.words_are;
  homes_are = ap (λ (t : List Kept). length t) (map-set kept_of homes x h) ∙ length-set (map kept_of homes) x (kept_of h) ∙ fits.homes_are;
  backends_are = length-set backends p b ∙ fits.backends_are;
  lists = λ j. subst (λ (t : List Kept). AllBelow o.size.procs (get_or t j nothing).list.items) (sym (map-set kept_of homes x h)) (each-set (λ (k : Kept). AllBelow o.size.procs k.list.items) nothing (map kept_of homes) x (kept_of h) fits.lists below j);
  each = All-set (BackendFits o.size) backends p b new fits.each;
}

-- THE OPENING
pub opening-fits : (o : Opening) (words : List ℕ) (homes : List Kept) (backends : List Backend)
    → OpeningFits o → words ≡ first_words o.size → homes ≡ first_homes o → map stand_of backends ≡ map idle (range_with_len 0 o.size.procs) → All (BackendFits o.size) backends → Fits o words homes backends
opening-fits o words homes backends some ew eh es each = record {
  opening = some;
  words_are = ap (λ (t : List ℕ). length t) ew ∙ length-map-range_with_len (λ i. cond (eqb i 0) o.size.procs 0) 0 (client_base o.size);
  homes_are = ap (λ (t : List Kept). length t) eh ∙ length-map-range_with_len first 0 (slots_in o.size);
  backends_are = sym (length-map backends stand_of) ∙ ap (λ (t : List Stand). length t) es ∙ length-map-range_with_len idle 0 o.size.procs;
  lists = λ x. subst (λ (t : List Kept). AllBelow o.size.procs (get_or t x nothing).list.items) (sym eh) (each-map (λ (k : Kept). AllBelow o.size.procs k.list.items) first nothing (range_with_len 0 (slots_in o.size)) (λ _. tt) tt x);
  each = each;
}
  where
    first : ℕ → Kept
    first _ = first_home o.phase

pub counts-opening : (o : Opening) → OpeningFits o → Counts (opening_sketch o) 0
counts-opening o some = record {
  homes = each-map (λ (k : Kept). Near 0 k.record) first nothing (range_with_len 0 (slots_in o.size)) (λ _. record { phase = omega (arith, some.phase); participants = omega arith; arrived = omega arith }) (zero-near 0);
  stands = each-map (λ (b : Stand). HeldNear 0 b.place) idle (idle 0) (range_with_len 0 o.size.procs) (λ _. tt) tt;
}
  where
    first : ℕ → Kept
    first _ = first_home o.phase

-- A STEP was made
pub counts-after : (s : Sketch) (made p : ℕ) (k : WaitStep) (words : List ℕ) (b c : Stand) → Counts s made → stand_at s p ≡ b → HeldNear (made + 1) c.place → (n : ℕ)
    → (let t : Sketch = record { opening = s.opening; words = words; homes = set s.homes (slot_number k) (home_after k n b.own b.place (home_at s.homes (slot_number k))); stands = set s.stands p c } in Counts t (made + 1))
counts-after s made p k words b c counts at held n = record {
  homes = each-set (λ (h : Kept). Near (made + 1) h.record) nothing s.homes (slot_number k) (home_after k n b.own b.place (home_at s.homes (slot_number k))) (λ x. near-more made (home_at s.homes x).record (counts.homes x))
      (near-home made k n b.own b.place (home_at s.homes (slot_number k)) (subst (λ (x : Stand). HeldNear made x.place) at (counts.stands p)) (counts.homes (slot_number k)));
  stands = each-set (λ (x : Stand). HeldNear (made + 1) x.place) (idle 0) s.stands p c (λ q. held-more made (stand_at s q).place (counts.stands q)) held;
}

-- a call began, or didn't
pub counts-begun : (s : Sketch) (made p : ℕ) (b c : Stand) → Counts s made → stand_at s p ≡ b → c.place ≡ b.place → Counts (with_stand s p c) made
counts-begun s made p b c counts at same = record {
  homes = counts.homes;
  stands = each-set (λ (x : Stand). HeldNear made x.place) (idle 0) s.stands p c counts.stands (subst (λ (t : Place). HeldNear made t) (sym same) (subst (λ (x : Stand). HeldNear made x.place) at (counts.stands p)));
}

prints-with : (s : Sketch) (p : ℕ) (o : Option (Stand × List ℕ)) (moved : Bool) (c : Stand) (before after : List ℕ) → Prints o moved c before after → Prints (option_map (λ t. let r : Sketch × List ℕ = (with_stand s p t.0, t.1) in r) o) moved (with_stand s p c) before after
prints-with s p None moved c before after h = h
prints-with s p (Some d) moved c before after h = (h.0, ap (with_stand s p) h.1, h.2)

pub begins-by : (s : Sketch) (p : ℕ) (text : List ℕ) (a : Call) (b c : Stand) (moved : Bool) (before after : List ℕ) → nat_lt p s.opening.size.procs ≡ true → ask_of s.opening.size text ≡ Some a → stand_at s p ≡ b → Prints (started b b.ask a) moved c before after
    → Prints (begins s p text) moved (with_stand s p c) before after
begins-by s p text a b c moved before after below asks at prints = rw (below, asks, at) (prints-with s p (started b b.ask a) moved c before after prints)

pub turned-by : (s : Sketch) (p i n x : ℕ) (a : Call) (b c : Stand) (k : WaitStep) (home new : Kept) → k ≡ step_at b.own a b.target b.place → i ≡ word_of s.opening.size b.own k → n ≡ slice_index s.words i → x ≡ becomes k n
    → home ≡ home_at s.homes (slot_number k) → new ≡ home_after k n b.own b.place home → c ≡ went s.opening.size k n home b
    → let r : Sketch = record { opening = s.opening; words = set s.words i x; homes = set s.homes (slot_number k) new; stands = set s.stands p c } in r ≡ (turn s p b a).0
unfolding turn
turned-by s p i n x a b c k home new ek ei en ex eh ew ec = rw (ec, ew, eh, ex, en, ei, ek) refl

pub shown-by : (s : Sketch) (p i n : ℕ) (a : Call) (b c : Stand) (k : WaitStep) (home : Kept) → k ≡ step_at b.own a b.target b.place → i ≡ word_of s.opening.size b.own k → n ≡ slice_index s.words i
    → home ≡ home_at s.homes (slot_number k) → c ≡ went s.opening.size k n home b → shown s.opening.size b.own a k n c ≡ (turn s p b a).1
unfolding turn
shown-by s p i n a b c k home ek ei en eh ec = rw (ec, eh, en, ei, ek) refl
