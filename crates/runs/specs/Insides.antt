-- Only the processes of a table have moves.
use Rattle.std.proofs.Common.{◌≡◌, ℕ, ◌<◌, ◌≤◌, Bool, true, false, cond, leb, None, refl, arith}
use Rattle.std.proofs.lemmas.Bool.{and_parts, leb-true}
use Rattle.memory.specs.Machine.{Machine}
use Rattle.ceiling.specs.Programs.{World, offers, offer_of}
use Rattle.program.specs.Program.{Program, within, instruction_at}
use Rattle.worlds.specs.declared.places.Place.{Place}
use Rattle.worlds.specs.Worlds.{over, action_by}

pub inside_of : {Config : Type 0} (m : Machine Config) (t : Program) (w : World Config Place) (p : ℕ)
    → 0 < offers m (over t) w p → (1 ≤ p) × (p ≤ t.counts.processes)
inside_of m t w p h = go (within 1 t.counts.processes p) refl h
  where
    at : Bool → ℕ
    at b = offer_of m (over t) w.config p (action_by (cond b (instruction_at t.rows p (w.places p).label) None) (w.places p))

    go : (b : Bool) → within 1 t.counts.processes p ≡ b → 0 < at b → (1 ≤ p) × (p ≤ t.counts.processes)
    go true e l = let both = and_parts (leb 1 p) (leb p t.counts.processes) e in (leb-true 1 p both.0, leb-true p t.counts.processes both.1)
    go false e l = absurd (omega arith)
