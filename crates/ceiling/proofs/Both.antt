-- Runs by choices under the ceiling and runs by timestamps of any size are seen alike.
-- For the way down, the timestamps that the whole run ends with are counted once, and each step is taken at the rank of its
-- timestamp among them, over a store that stays like the first. By induction over the run.
use Rattle.std.proofs.Common.{◌≡◌, ℕ, suc, ◌+◌, ◌<◌, ◌≤◌, Bool, true, List, [], ◌∷◌, length, get_or, Some, None, Option, sym, refl, ap, ◌∙◌, subst, ap₂, arith}
use Rattle.memory.specs.declared.actions.Action.{Action}
use Rattle.memory.specs.declared.shapes.Shape.{Shape}
use Rattle.memory.specs.Shapes.{Shaped}
use Rattle.memory.specs.Fences.{lowered}
use Rattle.memory.specs.Rules.{Store, start, after, value, mark}
use Rattle.memory.specs.ReleaseAcquire.{Config, admitted, choices}
use Rattle.memory.specs.Choices.{Allowed, Timely}
use Rattle.memory.specs.Passing.{picked}
use Rattle.memory.specs.Admits.{admits}
use Rattle.memory.specs.Ruled.{ruled}
use Rattle.memory.specs.Timely.{initial_timely, kept}
use Rattle.ceiling.specs.declared.moves.Move.{Move}
use Rattle.ceiling.specs.Programs.{Program, World, led, switches}
use Rattle.ceiling.specs.Programs as chosen
use Rattle.ceiling.specs.Timed.{Scene, Timing}
use Rattle.ceiling.specs.Timed as timed
use Rattle.ceiling.specs.Ceiling.{memory, IsChosen, IsTimed, Alike, Reached, Reachable, LosesNothing, Enough}
use Rattle.ceiling.proofs.Views.{has, at}
use Rattle.ceiling.proofs.Like.{Sound, Like, Counted}
use Rattle.ceiling.proofs.Renamed.{sound, moved, follows}
use Rattle.ceiling.proofs.Counting.{start_sound, start_like, stays, low_end}

module _ {Place : Type 0} (shape : Shape) (G : Program Place) where
  abbrev config : Store → Config
  config C = record { shape = shape; store = C }

  abbrev world : Store → (ℕ → Place) → World Config Place
  world C places = record { config = config C; places = places }

  abbrev scene : Store → (ℕ → Place) → Scene Place
  scene C places = record { store = C; places = places }

  abbrev move : ℕ → ℕ → Move
  move p c = record { process = p; choice = c }

  abbrev timing : ℕ → ℕ → Timing
  timing p t = record { process = p; time = t }

  -- over the store C' the choice c, which leads to D', is seen as over C the timestamp t
  record Fits (C' C D' : Store) (p : ℕ) (o : Option Action) (c t : ℕ) : Type 0 where
    offered : c < chosen.offer_of memory G (config C') p o
    can : timed.Can shape G C p o t
    next : (chosen.step_of memory G (config C') p o c).next ≡ config D'
    same_value : (chosen.step_of memory G (config C') p o c).value ≡ timed.value_of shape G C o t
    same_mark : (chosen.step_of memory G (config C') p o c).mark ≡ timed.mark_of shape G C p o t

  -- a run by choices from w and one by timestamps from v are seen alike
  record Same (w : World Config Place) (v : Scene Place) (r : List Move) (s : List Timing) : Type 0 where
    choice : chosen.Offered memory G w r
    time : timed.Obeys shape G v s
    story : chosen.story memory G w r ≡ timed.story shape G v s
    size : length r ≡ length s
    ending : (chosen.end memory G w r).places ≡ (timed.end shape G v s).places

  none : (C' C : Store) (places : ℕ → Place) → Same (world C' places) (scene C places) [] []
  none C' C places = record { choice = tt; time = tt; story = refl; size = refl; ending = refl }

  -- one step before such runs
  module _ (C' C D' : Store) (places : ℕ → Place) (p c t : ℕ) (F : Fits C' C D' p (G.does p (places p)) c t) where
    abbrev places_after : ℕ → Place
    places_after = led G places p (timed.value_of shape G C (G.does p (places p)) t)

    next_world : chosen.next memory G (world C' places) (move p c) ≡ world D' places_after
    next_world = λ i. record { config = F.next i; places = led G places p (F.same_value i) }

    extend : (r : List Move) (s : List Timing)
        → Same (world D' places_after) (timed.next shape G (scene C places) (timing p t)) r s
        → Same (world C' places) (scene C places) (move p c ∷ r) (timing p t ∷ s)
    extend r s N =
        let M : Same (chosen.next memory G (world C' places) (move p c)) (timed.next shape G (scene C places) (timing p t)) r s =
        subst (λ w. Same w (timed.next shape G (scene C places) (timing p t)) r s) (sym next_world) N in
        record {
          choice = (F.offered, M.choice);
          time = (F.can, M.time);
          story = ap₂ ◌∷◌ (λ i. record { process = p; value = F.same_value i; mark = F.same_mark i }) M.story;
          size = ap suc M.size;
          ending = M.ending;
        }

  -- a choice is a timestamp
  free_step : (C : Store) (p : ℕ) (o : Option Action) (c : ℕ) → c < chosen.offer_of memory G (config C) p o
      → (t : ℕ) × Fits C C (timed.store_after shape G C p o t) p o c t
  free_step C p (Some a) c l =
      let t : ℕ = get_or (choices (config C) p (lowered a)) c 0 in
      let k = picked (admitted (config C) p (lowered a)) (shape.ceiling + 1) c l in
      let h = admits (config C) p (lowered a) t (omega (arith, k.1)) k.0 in
      (t, record { offered = l; can = (h.0, h.1); next = refl; same_value = refl; same_mark = refl })
  free_step C p None c l = absurd (omega arith)

  free : (C : Store) (places : ℕ → Place) (r : List Move) → chosen.Offered memory G (world C places) r
      → (s : List Timing) × Same (world C places) (scene C places) r s
  free C places [] h = ([], none C C places)
  free C places (k ∷ r) h =
      let p : ℕ = k.process in
      let o : Option Action = G.does p (places p) in
      let f = free_step C p o k.choice h.0 in
      let D : Store = timed.store_after shape G C p o f.0 in
      let rest = free D (places_after C C D places p k.choice f.0 f.1) r
      (subst (λ w. chosen.Offered memory G w r) (next_world C C D places p k.choice f.0 f.1) h.1) in
      (timing p f.0 ∷ rest.0, extend C C D places p k.choice f.0 f.1 r rest.0 rest.1)

  module _ (H : ℕ → ℕ → Bool) (low : (y s : ℕ) → H y s ≡ true → at H y s ≤ shape.ceiling) where
    -- over the renamed store a choice is seen as the timestamp
    record Bound (C C' : Store) (p : ℕ) (o : Option Action) (t : ℕ) : Type 0 where
      choice : ℕ
      store : Store
      fits : Fits C' C store p o choice t
      like : Like H (timed.store_after shape G C p o t) store
      still_sound : Sound shape.variables (timed.store_after shape G C p o t)
      timely : Timely (config store)

    bind_step : (C C' : Store) (p : ℕ) (o : Option Action) (t : ℕ)
        → Like H C C' → Sound shape.variables C → Timely (config C')
        → Counted H (timed.store_after shape G C p o t) → timed.Can shape G C p o t → Bound C C' p o t
    bind_step C C' p (Some a) t L S T all h =
        let b : Action = lowered a in
        let u : ℕ = moved H b t in
        let F = follows H shape C C' p b t L S low all h.0.1 h.1 in
        let allowed : Allowed (config C') p b u = (h.0, F.may, F.below) in
        let j = ((ruled (config C') T.low p b).exactly u).1 allowed in
        record {
          choice = j.0;
          store = after C' p b u;
          fits = record {
            offered = j.1.0;
            can = h;
            next = ap (λ s. config (after C' p b s)) j.1.1;
            same_value = ap (value C' b) j.1.1 ∙ F.same_value;
            same_mark = ap (mark shape.variables C' p b) j.1.1 ∙ F.same_mark;
          };
          like = F.like;
          still_sound = sound shape.variables C S p b t h.1;
          timely = kept (config C') T p b u allowed;
        }
    bind_step C C' p None t L S T all h = absurd h

    bind : (C C' : Store) (places : ℕ → Place) (s : List Timing)
        → Like H C C' → Sound shape.variables C → Timely (config C')
        → Counted H (timed.end shape G (scene C places) s).store → timed.Obeys shape G (scene C places) s
        → (r : List Move) × Same (world C' places) (scene C places) r s
    bind C C' places [] L S T all h = ([], none C' C places)
    bind C C' places (k ∷ s) L S T all h =
        let p : ℕ = k.process in
        let o : Option Action = G.does p (places p) in
        let D : Scene Place = timed.next shape G (scene C places) k in
        let b = bind_step C C' p o k.time L S T (λ y u e. all y u (stays shape G D s y u e)) h.0 in
        let rest = bind D.store b.store D.places s b.like b.still_sound b.timely all h.1 in
        (move p b.choice ∷ rest.0, extend C' C b.store places p b.choice k.time b.fits rest.0 s rest.1)

  abbrev V : ℕ
  V = shape.variables

  alike : (r : List Move) (s : List Timing)
      → Same (world (start V) G.begins) (scene (start V) G.begins) r s → Alike shape G r s
  alike r s k = record { choice = k.choice; time = k.time; story = k.story; size = k.size; ending = k.ending }

  freed : (r : List Move) → IsChosen shape G r → (s : List Timing) × Alike shape G r s
  freed r h =
      let k = free (start V) G.begins r h in
      (k.0, alike r k.0 k.1)

  -- timestamps are renamed to their ranks among those that the run ends with
  bound : (s : List Timing) → IsTimed shape G s → length s ≤ shape.ceiling → (r : List Move) × Alike shape G r s
  bound s h le =
      let H : ℕ → ℕ → Bool = has (timed.end shape G (timed.opening shape G) s).store in
      let k = bind H (λ y u e. omega (arith, low_end shape G s y u e)) (start V) (start V) G.begins s
      (start_like H V) (start_sound V) (initial_timely shape) (λ y u e. e) h in
      (k.0, alike k.0 s k.1)

  module _ (n : ℕ) (enough : n ≤ shape.ceiling) where
    reachable : (k : ℕ) (goal : (ℕ → Place) → Bool) → Reached shape G n k goal → Reachable shape G n k goal
    reachable k goal x =
        let a = freed x.0 x.1 in (
          a.0,
          a.1.time,
          omega (arith, a.1.size, x.2),
          omega (arith, ap switches a.1.story, x.3),
          ap goal (sym a.1.ending) ∙ x.4,
        )

    reached : (k : ℕ) (goal : (ℕ → Place) → Bool) → Reachable shape G n k goal → Reached shape G n k goal
    reached k goal x =
        let a = bound x.0 x.1 (omega (arith, x.2)) in (
          a.0,
          a.1.choice,
          omega (arith, a.1.size, x.2),
          omega (arith, ap switches a.1.story, x.3),
          ap goal a.1.ending ∙ x.4,
        )

    loses_nothing : LosesNothing shape G n
    loses_nothing = record {
      freed = freed;
      bound = λ s h le. bound s h (omega arith);
      answers = λ k goal. (reachable k goal, reached k goal);
    }

-- a shape of these numbers has that ceiling
pub enough : (Place : Type 0) (p v n : ℕ) (r : Option Shape) → Shaped p v n r → Enough Place n r
enough Place p v n (Some shape) h = λ G. loses_nothing shape G n (omega (arith, h.2))
enough Place p v n None h = tt
