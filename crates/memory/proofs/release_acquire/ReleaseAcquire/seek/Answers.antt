use Rattle.std.proofs.Common.{◌≡◌, ℕ, ◌+◌, Bool, ◌∙◌, ap, length, arith}
use Rattle.memory.specs.ReleaseAcquire.{admitted, passing}
use Rattle.memory.specs.MessageTable.{config}
use Rattle.memory.proofs.Walks.{Passed, passed_yes, passed_no, Arrived, arrived}
use Rattle.memory.proofs.release_acquire.ReleaseAcquire.seek.Goals as goal
use Rattle.memory.proofs.release_acquire.ReleaseAcquire.seek.Goals.{then-admits+else-passed-choice, else-admits}

pub returns-then-passed-choice : goal.returns-then-passed-choice
returns-then-passed-choice c =
    let test : ℕ → Bool = admitted (config c.args.self.now) c.args.process c.args.action in
    let end : ℕ = c.args.self.now.shape.ceiling + 1 in
    let at : Arrived test end c.args.choice c.loop-time.time =
    arrived test end c.args.choice c.loop-time.time c.loop-time.passed (omega arith)
    c.if-admits.ensures c.loop-time.invariant.0 c.if-passed-choice.true in
    record { offered = at.offered; chosen = at.chosen; low = omega arith; passes = at.passes }

pub loop-time-preserved : goal.loop-time-preserved
loop-time-preserved c =
    let test : ℕ → Bool = admitted (config c.args.self.now) c.args.process c.args.action in
    elim c.if-admits.branch [
      | then-admits+else-passed-choice w ↦ passed_yes test c.args.choice c.loop-time.time c.loop-time.passed _ c.loop-time.invariant w.if-admits.ensures w.if-passed-choice.false w.passed-is
      | else-admits w ↦ passed_no test c.args.choice c.loop-time.time c.loop-time.passed _ c.loop-time.invariant w.if-admits.ensures w.passed-is
    ]

pub returns-after-admits : goal.returns-after-admits
returns-after-admits c =
    let test : ℕ → Bool = admitted (config c.args.self.now) c.args.process c.args.action in
    let passed : Passed test c.args.choice (c.loop-time.time + 1) c.if-admits.passed = elim c.if-admits.branch [
      | then-admits+else-passed-choice w ↦ passed_yes test c.args.choice c.loop-time.time c.loop-time.passed _ c.loop-time.invariant w.if-admits.ensures w.if-passed-choice.false w.passed-is
      | else-admits w ↦ passed_no test c.args.choice c.loop-time.time c.loop-time.passed _ c.loop-time.invariant w.if-admits.ensures w.passed-is
    ] in
    let end : c.loop-time.time + 1 ≡ c.args.self.now.shape.ceiling + 1 = omega arith in
    record { offered = passed.0 ∙ ap (λ n. length (passing test n)) end; beyond = passed.1 }
