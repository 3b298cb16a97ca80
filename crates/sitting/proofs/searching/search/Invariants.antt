use Rattle.std.proofs.Common.{◌≡◌}
use Rattle.session.specs.Contents.{content}
use Rattle.session.specs.Law.{content_of}
use Rattle.session.specs.Series.{Book, from}
use Rattle.sitting.specs.Outputs.{works}
use Rattle.sitting.proofs.searching.search.Given as goal

abbrev pub invariant-loop : goal.invariant-loop
invariant-loop g l =
    (b : Book) → content l.fn.session ≡ content_of g.M.Memory.machine b → content l.session ≡ content_of g.M.Memory.machine (from b (works l.counter))
