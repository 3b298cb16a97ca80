use Rattle.std.proofs.Common.{◌≡◌, ℕ, ◌+◌, Bool, length, ap, ◌∙◌, arith}
use Rattle.memory.specs.ReleaseAcquire.{admitted, passing}
use Rattle.memory.specs.MessageTable.{config}
use Rattle.memory.specs.Passing.{few}
use Rattle.memory.specs.Words.{offers_told}
use Rattle.memory.proofs.Walks.{counted}
use Rattle.memory.proofs.release_acquire.ReleaseAcquireMemory.offers.Goals as goal

pub overflow_add-count : goal.overflow_add-count
overflow_add-count c =
    let test : ℕ → Bool = admitted (config c.args.self.now) c.args.process c.args.action in
    omega (arith, few test (c.loop-at.at + 1), counted test c.loop-at.at c.loop-at.count _ _ c.loop-at.invariant c.admits.ensures c.from-count.ensures)

pub loop-at-preserved : goal.loop-at-preserved
loop-at-preserved c =
    let test : ℕ → Bool = admitted (config c.args.self.now) c.args.process c.args.action in
    counted test c.loop-at.at c.loop-at.count _ _ c.loop-at.invariant c.admits.ensures c.from-count.ensures

pub returns-2 : goal.returns-2
returns-2 c =
    let test : ℕ → Bool = admitted (config c.args.self.now) c.args.process c.args.action in
    let end : c.loop-at.at + 1 ≡ c.args.self.now.shape.ceiling + 1 = omega arith in
    let all = counted test c.loop-at.at c.loop-at.count _ _ c.loop-at.invariant c.admits.ensures c.from-count.ensures
    ∙ ap (λ n. length (passing test n)) end in
    record { value = all; words = offers_told c.args.self.now c.args.process c.args.action _ all }
