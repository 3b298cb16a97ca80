use Rattle.std.proofs.Common.{◌≡◌, ◌+◌, ◌-◌, suc, length, IsErr, rules, arith}
use Rattle.sittings.specs.Batches.{batch_text}
use Rattle.sittings.specs.Cases.{the_case}
use Rattle.sittings.proofs.Turns.{breaks, ends, goes_on, shorter, stopped}
use Rattle.sittings.proofs.serving.answer_all.Goals as goal

pub returns-in_default : goal.returns-in_default
returns-in_default g c =
    let left = length c.args.batch.now - c.loop-passed.passed in
    let turns = length c.args.batch.now - (c.loop-passed.passed + 1) in
    let more : left ≡ suc turns = omega arith in
    ends (g.W.Write.contents c.args.output.now) (g.W.Write.contents c.loop-passed.output) (batch_text c.args.batch.now) left turns
    (c.loop-passed.passed + 1) c.loop-passed.rest.now (g.W.Write.contents c.end.new.output) c.end.result more
    c.loop-passed.invariant.stands c.in_default.ensures.value c.end.ensures

pub returns-in_err-answer : goal.returns-in_err-answer
returns-in_err-answer g c =
    let left = length c.args.batch.now - c.loop-passed.passed in
    let turns = length c.args.batch.now - (c.loop-passed.passed + 1) in
    let more : left ≡ suc turns = omega arith in
    let failed : IsErr c.from_residual.result = search rules in
    stopped (g.W.Write.contents c.args.output.now) (g.W.Write.contents c.answer.new.output) c.from_residual.result (batch_text c.args.batch.now) failed
    (breaks (g.W.Write.contents c.args.output.now) (g.W.Write.contents c.loop-passed.output) (batch_text c.args.batch.now) left turns
    (c.loop-passed.passed + 1) c.loop-passed.rest.now (the_case c.in-Some.case) (g.W.Write.contents c.answer.new.output) more
    c.loop-passed.invariant.stands c.in-Some.ensures.value c.in_err-answer.ensures)

pub loop-passed-preserved : goal.loop-passed-preserved
loop-passed-preserved g c =
    let left = length c.args.batch.now - c.loop-passed.passed in
    let turns = length c.args.batch.now - (c.loop-passed.passed + 1) in
    let more : left ≡ suc turns = omega arith in
    record {
      stands =
          goes_on (g.W.Write.contents c.args.output.now) (g.W.Write.contents c.loop-passed.output) (batch_text c.args.batch.now) left turns
          (c.loop-passed.passed + 1) c.loop-passed.rest.now (the_case c.in-Some.case) (g.W.Write.contents c.answer.new.output) more
          c.loop-passed.invariant.stands c.in-Some.ensures.value c.in_ok-answer.ensures;
      few =
          let low = shorter c.loop-passed.rest.now (the_case c.in-Some.case) c.in-Some.ensures.only.0 in
          omega (arith, low, c.loop-passed.invariant.few);
    }
