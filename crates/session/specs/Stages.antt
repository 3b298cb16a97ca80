-- How far a session is, as a number.
use Rattle.std.specs.Prelude.{ℕ}
use Rattle.session.specs.declared.standings.Stage.{Stage}
use Rattle.session.specs.declared.standings.Stage.TheVariants.{New, Table, Open, Found, None}

abbrev pub stage_number : Stage → ℕ
stage_number New = 0
stage_number Table = 1
stage_number Open = 2
stage_number Found = 3
stage_number None = 4
