use Rattle.std.proofs.Common.{ℕ, ◌+◌, ◌*◌, ◌∙◌, refl, sym, subst, arith}
use Rattle.program.specs.Tables.{program}
use Rattle.runs.specs.Searches.{Since}
use Rattle.searching.proofs.Tallies.{ended, since_few}
use Rattle.searching.proofs.search.Goals as goal

pub loop-work-preserved : goal.loop-work-preserved
loop-work-preserved g c =
    let m = g.M.Memory.machine in
    let t = program c.args.table.now in
    let i = c.loop-work.invariant in
    let new = c.work-worked.new.search in
    let E = c.loop-work._work * 1000000 in
    let U = c.loop-work.looked in
    let P : ℕ → Type 0 = λ e. Since m t new e (U + c.from-looked.result) in
    let Q : ℕ → Type 0 = λ u. Since m t new (E + 1000000) (U + u) in
    let next = subst P (omega arith) (subst Q (sym c.from-looked.ensures) (c.work-worked.ensures.told E U i.since).0) in
    record {
      question = c.work-worked.ensures.works.question ∙ i.question;
      few = since_few m t new ((c.loop-work._work + 1) * 1000000) (U + c.from-looked.result) next;
      since = next;
    }

pub returns : goal.returns
returns g c =
    let i = c.loop-work.invariant in
    ended g.M.Memory.machine (program c.args.table.now) c.args.question c.loop-work.search (c.loop-work._work * 1000000) 1000000000
    c.loop-work.looked c.loop-work.search.verdict i.since i.question (omega (arith, c.loop-work-test.false, c.loop-work.auto._work-end)) refl
