use Rattle.std.proofs.Common.{◌≡◌, ℕ, List, Result, ap, rules}
use Rattle.memory.specs.Machine.{Machine}
use Rattle.ceiling.specs.Programs.{opening}
use Rattle.program.specs.declared.lines.Unread.TheVariants as of_lines
use Rattle.program.specs.Program.{Program}
use Rattle.program.specs.Reading.{then_do, lines_or}
use Rattle.program.specs.Tables.{program}
use Rattle.program.proofs.Kept.{keeps_of}
use Rattle.program.proofs.Told.{told, lines_told}
use Rattle.worlds.specs.Worlds.{over}
use Rattle.runs.specs.declared.questions.Question.{Question}
use Rattle.replay.specs.declared.faults.Fault.{Fault}
use Rattle.replay.specs.Playing.{lines_played, played, unread}
use Rattle.replay.proofs.Says.{says}
use Rattle.replay.proofs.playing.replay.Goals as goal

-- a run's text, by what it is read as in lines
played_told : {Config : Type 0} (m : Machine Config) (t : Program) (q : Question) (text : List ℕ) → played m t q text ≡ then_do (told unread (lines_or 0 24 of_lines.Length of_lines.Field text)) (lines_played m t q (opening m (over t) q.shape) 1 0)
played_told m t q text = ap (λ (r : Result (List (List ℕ)) Fault). then_do r (lines_played m t q (opening m (over t) q.shape) 1 0)) (lines_told unread 0 24 of_lines.Length of_lines.Field text)

pub returns-in_err-read_lines : goal.returns-in_err-read_lines
returns-in_err-read_lines g c =
    let m = g.M.Memory.machine in
    let t = program c.args.table.now in
    let value : c.from_residual.result ≡ played m t c.args.question c.args.text.now = rw (played_told m t c.args.question c.args.text.now) (search rules) in
    let words = says m t c.args.question (keeps_of c.args.table.now) g.M.Memory.WIDEST g.met.M.Memory.bounded g.met.M.Memory.few g.met.M.Memory.bytes c.args.text.now in
    record { value = value; words = rw value words }

pub returns : goal.returns
returns g c =
    let m = g.M.Memory.machine in
    let t = program c.args.table.now in
    let value : c.play.result ≡ played m t c.args.question c.args.text.now = rw (played_told m t c.args.question c.args.text.now) (search rules) in
    let words = says m t c.args.question (keeps_of c.args.table.now) g.M.Memory.WIDEST g.met.M.Memory.bounded g.met.M.Memory.few g.met.M.Memory.bytes c.args.text.now in
    record { value = value; words = rw value words }
