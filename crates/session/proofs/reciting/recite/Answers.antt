use Rattle.std.proofs.Common.{rules}
use Rattle.session.proofs.Recitals.{from_start}
use Rattle.session.proofs.reciting.recite.Goals as goal

pub loop-next-init : goal.loop-next-init
loop-next-init g c = record { count = search rules; so_far = search (rules, from_start) }
