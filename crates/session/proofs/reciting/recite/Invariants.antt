use Rattle.std.proofs.Common.{◌≡◌, ◌++◌, length, drop}
use Rattle.ceiling.specs.Programs.{opening}
use Rattle.program.specs.Tables.{program}
use Rattle.worlds.specs.Worlds.{over, world as stand}
use Rattle.session.specs.Recited.{recited}
use Rattle.session.proofs.reciting.recite.Given as goal

abbrev pub invariant-loop-next : goal.invariant-loop-next
invariant-loop-next g l =
    let t = program l.fn.table in
    record {
      count : length l.records.items ≡ l.next-index;
      so_far : l.records.items ++ recited g.M.Memory.machine t (stand g.M.Memory.config l.world) (drop l.next-index l.moves)
          ≡ recited g.M.Memory.machine t (opening g.M.Memory.machine (over t) l.fn.shape) l.fn.moves;
    }
