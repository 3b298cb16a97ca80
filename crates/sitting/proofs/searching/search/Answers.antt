use Rattle.std.proofs.Common.{sym, ◌∙◌, arith}
use Rattle.session.specs.Contents.{content}
use Rattle.sitting.proofs.Settles.{early, late, none_yet, one_more}
use Rattle.sitting.proofs.searching.search.Goals as goal

pub loop-init : goal.loop-init
loop-init g c = λ b h. none_yet g.M.Memory.machine b (content c.args.session.now) h

pub loop-preserved : goal.loop-preserved
loop-preserved g c = λ b h.
    one_more g.M.Memory.machine b c.loop.counter (content c.loop.session) (content c.work.new.self) c.work.result (c.loop.invariant b h) c.work.ensures.outcome

pub returns-then-is_settled : goal.returns-then-is_settled
returns-then-is_settled g c = λ b h.
    early g.M.Memory.machine b c.loop.counter (content c.loop.session) (content c.work.new.self) c.work.result (c.loop.invariant b h) c.work.ensures.outcome
    c.loop-test.true (sym c.is_settled.ensures ∙ c.if-is_settled.true)

pub returns : goal.returns
returns g c = λ b h. late g.M.Memory.machine b c.loop.counter (content c.loop.session) (c.loop.invariant b h) (omega arith)
