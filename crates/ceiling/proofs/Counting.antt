-- The start is like itself, and a run adds at most as many timestamps to a variable as it has steps.
-- So the ranks among the timestamps at the end of a run stay within its number of steps, which is the ceiling.
use Rattle.std.proofs.Common.{◌≡◌, ℕ, zero, suc, ◌+◌, ◌≤◌, Bool, true, false, ◌&&◌, eqb, leb, ◌⊎◌, List, [], ◌∷◌, length, Some, None, Option, sym, refl, ap, ◌∙◌, subst, inl, inr, arith}
use Rattle.std.proofs.lemmas.Bool.{and_from, le-leb, cond-true}
use Rattle.memory.specs.declared.actions.Action.{Action}
use Rattle.memory.specs.declared.actions.Action.TheVariants.{Local, Read, Write, Swap}
use Rattle.memory.specs.declared.shapes.Shape.{Shape}
use Rattle.memory.specs.Fences.{lowered}
use Rattle.memory.specs.Rules.{Message, Store, first, first_pool, start, raise, reads, after}
use Rattle.memory.specs.ReleaseAcquire.{held}
use Rattle.memory.specs.Passing.{count_yes}
use Rattle.memory.specs.Admits.{get_held}
use Rattle.memory.specs.Timely.{first_at}
use Rattle.ceiling.specs.Programs.{Program}
use Rattle.ceiling.specs.Timed.{Scene, Timing, opening, deed, store_after, next, end}
use Rattle.ceiling.proofs.Rank.{rank, rank_no, rank_more}
use Rattle.ceiling.proofs.Views.{has, at, renamed}
use Rattle.ceiling.proofs.Like.{Sound, Like, has_old}
use Rattle.ceiling.proofs.Renamed.{grows}

pub start_sound : (V : ℕ) → Sound V (start V)
start_sound V = record {
  own = λ p x l. here x l;
  sent = λ x t m e y l. subst (λ (o : Message). has (start V) y (o.view y) ≡ true) (sym (first_at V x t m e).1) (here y l);
}
  where
    here : (x : ℕ) → x ≤ V → has (start V) x 0 ≡ true
    here x l = ap held (cond-true (leb x V && eqb 0 0) (Some first) None (and_from (leb x V) (eqb 0 0) (le-leb x V l) refl))

pub start_like : (H : ℕ → ℕ → Bool) (V : ℕ) → Like H (start V) (start V)
start_like H V = record {
  views = λ p. refl;
  there = λ x t m e.
      let k = first_at V x t m e in
      ap (λ s. first_pool V x (at H x s)) k.0 ∙ ap (first_pool V x) (sym k.0) ∙ e
      ∙ ap Some k.1 ∙ ap (λ (o : Message). Some (renamed H o)) (sym k.1);
  back = λ x s m e.
      let k = first_at V x s m e in
      (0, k.0, ap (λ u. has (start V) x u) (sym k.0) ∙ ap held e);
}

rank_none : (t : ℕ) → rank (λ s. false) t ≡ 0
rank_none zero = refl
rank_none (suc t) = rank_no (λ s. false) t refl ∙ rank_none t

start_rank : (V x t : ℕ) → rank (has (start V) x) t ≤ 1
start_rank V x t = omega (
  arith,
  rank_none t,
  rank_more (λ s. false) (has (start V) x) 0
      (λ s h. let k = get_held (first_pool V x s) h in inr (first_at V x s k.0 k.1).0) t,
)

-- a step adds at most one timestamp of a variable
one_more : (C : Store) (p : ℕ) (a : Action) (t y : ℕ)
    → (u : ℕ) × ((s : ℕ) → has (after C p a t) y s ≡ true → (has C y s ≡ true) ⊎ (s ≡ u))
one_more C p Local t y = (0, λ s h. inl h)
one_more C p (Read x) t y = (0, λ s h. inl h)
one_more C p (Write x v) t y = (t, has_old C p x t v (raise (C.views p) x t) y)
one_more C p (Swap x old new) t y = (t + 1, has_old C p x (t + 1) new (raise (reads C p x t) x (t + 1)) y)
one_more C p a t y = (0, λ s h. inl h)

module _ {Place : Type 0} (shape : Shape) (G : Program Place) where
  -- messages stay to the end
  stays_deed : (C : Store) (p : ℕ) (o : Option Action) (t y s : ℕ)
      → has C y s ≡ true → has (store_after shape G C p o t) y s ≡ true
  stays_deed C p (Some a) t y s h = grows C p (lowered a) t y s h
  stays_deed C p None t y s h = h

  pub stays : (w : Scene Place) (ks : List Timing) (y s : ℕ)
      → has w.store y s ≡ true → has (end shape G w ks).store y s ≡ true
  stays w [] y s h = h
  stays w (k ∷ ks) y s h = stays (next shape G w k) ks y s
      (stays_deed w.store k.process (deed shape G w k.process) k.time y s h)

  rank_deed : (C : Store) (p : ℕ) (o : Option Action) (t y s : ℕ)
      → rank (has (store_after shape G C p o t) y) s ≤ rank (has C y) s + 1
  rank_deed C p (Some a) t y s =
      let k = one_more C p (lowered a) t y in
      rank_more (has C y) (has (after C p (lowered a) t) y) k.0 k.1 s
  rank_deed C p None t y s = omega arith

  rank_end : (w : Scene Place) (ks : List Timing) (y s : ℕ)
      → rank (has (end shape G w ks).store y) s ≤ length ks + rank (has w.store y) s
  rank_end w [] y s = omega arith
  rank_end w (k ∷ ks) y s =
      omega (
        arith,
        rank_end (next shape G w k) ks y s,
        rank_deed w.store k.process (deed shape G w k.process) k.time y s,
      )

  -- the ranks among the timestamps at the end are at most the number of steps
  pub low_end : (ks : List Timing) (y s : ℕ) → has (end shape G (opening shape G) ks).store y s ≡ true
      → at (has (end shape G (opening shape G) ks).store) y s ≤ length ks
  low_end ks y s h =
      omega (
        arith,
        count_yes (has (end shape G (opening shape G) ks).store y) s h,
        rank_end (opening shape G) ks y (s + 1),
        start_rank shape.variables y (s + 1),
      )
