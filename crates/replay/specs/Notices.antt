-- A fault as it is told: number, place and the part that found it; and what is offered.
use Rattle.std.specs.Prelude.{ℕ, Some, None, Option}
use Rattle.notice.specs.declared.Part.TheVariants as part
use Rattle.notice.specs.declared.Notice.{Notice}
use Rattle.replay.specs.declared.faults.Fault.{Fault}
use Rattle.replay.specs.declared.faults.Fault.TheVariants.{Length, Field, Number, Process, NoMove, Choice, Seen, Bounds, Targets}

abbrev pub notice : Fault → Notice
notice Length = record { number = 42; place = 0; part = part.Text }
notice (Field i) = record { number = 43; place = i; part = part.Text }
notice (Number i) = record { number = 51; place = i; part = part.Run }
notice (Process i) = record { number = 52; place = i; part = part.Run }
notice (NoMove i) = record { number = 53; place = i; part = part.Run }
notice (Choice i refused) = record { number = 53; place = i; part = part.Run }
notice (Seen i) = record { number = 54; place = i; part = part.Run }
notice (Bounds i) = record { number = 55; place = i; part = part.Run }
notice (Targets i) = record { number = 56; place = i; part = part.Run }

-- how many choices the process of a refused move has
abbrev pub offer : Fault → Option ℕ
offer Length = None
offer (Field i) = None
offer (Number i) = None
offer (Process i) = None
offer (NoMove i) = Some 0
offer (Choice i refused) = Some refused.offered
offer (Seen i) = None
offer (Bounds i) = None
offer (Targets i) = None
