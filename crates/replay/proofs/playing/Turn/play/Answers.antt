use Rattle.std.proofs.Common.{◌≡◌, true, get_or, rules}
use Rattle.std.proofs.lemmas.Result.{err_from_is_err_and}
use Rattle.program.specs.Tables.{program}
use Rattle.worlds.specs.Worlds.{label_in, world as stand}
use Rattle.replay.specs.Playing.{is_label}
use Rattle.replay.proofs.Turns.{not_made, is_judged}
use Rattle.replay.proofs.playing.Turn.play.Goals as goal

pub returns-in_err-made-clause-value : goal.returns-in_err-made-clause-value
returns-in_err-made-clause-value g c =
    let self = c.args.self.now in
    let t = program self.table.now in
    let w = stand g.M.Memory.config c.args.world.now in
    let v = stand g.M.Memory.config c.make.new.world in
    let f = c.args.numbers in
    let number : get_or f 0 0 ≡ self.line = search rules in
    let label : is_label (label_in t w.places (get_or f 1 0)) (get_or f 2 0) ≡ true = search rules in
    let choice : c.from-2.result ≡ get_or f 3 0 = search rules in
    let p = err_from_is_err_and c.from_residual.result c.from_residual.ensures.1 in
    rw (p.1, p.2) (not_made g.M.Memory.machine t self.question w v self.line self.switches f number label c.from-2.result c.in_err-made.field-0.0 choice c.in_err-made.ensures)

pub returns-clause-value : goal.returns-clause-value
returns-clause-value g c =
    let self = c.args.self.now in
    let t = program self.table.now in
    let w = stand g.M.Memory.config c.args.world.now in
    let v = stand g.M.Memory.config c.make.new.world in
    let f = c.args.numbers in
    let number : get_or f 0 0 ≡ self.line = search rules in
    let label : is_label (label_in t w.places (get_or f 1 0)) (get_or f 2 0) ≡ true = search rules in
    let choice : c.from-2.result ≡ get_or f 3 0 = search rules in
    is_judged g.M.Memory.machine t self.question w v self.line self.switches f number label c.from-2.result c.in_ok-made.made c.judge.result choice c.in_ok-made.ensures c.judge.ensures.value
