-- A move with room for its switch is entered, and what is onward of it begins with its runs; any other is passed over, and the
-- world is brought back to the path.
use Rattle.std.proofs.Common.{◌≡◌, ◌-◌, ◌≤◌, cond, ◌∷◌, ◌++◌, [], length, List, subst, refl, sym, rules, arith}
use Rattle.std.proofs.lemmas.List.{length_push}
use Rattle.ceiling.specs.declared.moves.Move.{Move}
use Rattle.program.specs.Tables.{program}
use Rattle.worlds.specs.Worlds.{world as stand}
use Rattle.runs.specs.Asked.{system, root}
use Rattle.runs.specs.Cursors.{StandsAt}
use Rattle.runs.specs.Paths.{path}
use Rattle.runs.specs.Runs.{after, at, onward, rest}
use Rattle.runs.proofs.Walks.{here_push, here_step}
use Rattle.runs.proofs.cursors.Cursor.enter.Goals as goal

pub returns-clause-sound : goal.returns-clause-sound
returns-clause-sound g c =
    let m = g.M.Memory.machine in
    let t = program c.args.table.now in
    let q = c.args.question in
    let old = c.args.self.now in
    let s = path old.run in
    let last = c.args.last in
    let room : old.room - c.from-switch.result ≡ old.room - cond c.step.result 1 0 = search rules in
    let long = length_push s last in
    let left = c.requires.left in
    let within : length (s ++ (last ∷ [])) ≤ q.steps = omega arith in
    let here = here_push (system m t) (root m t q) (stand g.M.Memory.config old.world) (stand g.M.Memory.config c.step.new.world) old.room (old.room - c.from-switch.result) s last c.step.result c.requires.sound.here c.requires.offered c.step.ensures.next c.step.ensures.mark room in
    record {
      within = subst (λ (r : List Move). length r ≤ q.steps) (sym c.push.ensures) within;
      here = subst (λ (r : List Move). StandsAt m t q (stand g.M.Memory.config c.step.new.world) (old.room - c.from-switch.result) r) (sym c.push.ensures) here;
    }

pub returns-clause-goes : goal.returns-clause-goes
returns-clause-goes g c =
    let m = g.M.Memory.machine in
    let t = program c.args.table.now in
    let q = c.args.question in
    let S = system m t in
    let d = root m t q in
    let old = c.args.self.now in
    let s = path old.run in
    let last = c.args.last in
    let fits : cond c.step.result 1 0 ≤ old.room = let e : c.from-switch.result ≡ cond c.step.result 1 0 = search rules in omega arith in
    let found = here_step S d (stand g.M.Memory.config old.world) old.room s last c.step.result refl c.requires.sound.here c.requires.offered c.step.ensures.mark fits in
    subst (λ (r : List Move). onward S (at S d s) last.process last.choice ++ after S d s ≡ r ∷ rest S d r) (sym c.push.ensures) found
