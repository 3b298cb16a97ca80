-- What is printed of a table and its parts, and of a refusal.
use Rattle.std.specs.Prelude.{ℕ, cond, List, [], ◌∷◌, ◌++◌, length, Ok, Err, codes, decimal, Result, ◌==◌}
use Rattle.program.specs.declared.refusals.Refusal.{Refusal}
use Rattle.program.specs.declared.rows.Counts.{Counts}
use Rattle.program.specs.declared.rows.Row.{Row}
use Rattle.program.specs.Program.{Program}
use Rattle.program.specs.Refusals.{notice}
use Rattle.program.specs.Words.{instruction_words, reason}
use Rattle.wording.specs.Amounts.{amount_words}

-- the line of a row
abbrev pub line_words : Row → List ℕ
line_words r = codes "  " ++ (decimal r.label ++ (codes ": " ++ (instruction_words r.instruction ++ codes "\n")))

-- a heading stands above the first row of a process
abbrev pub row_words : Row → List ℕ
row_words r =
    cond (r.label == 1) (codes "process " ++ (decimal r.process ++ (codes "\n" ++ line_words r))) (line_words r)

abbrev pub rows_words : List Row → List ℕ
rows_words [] = []
rows_words (r ∷ rs) = row_words r ++ rows_words rs

abbrev pub counts_words : Counts → ℕ → List ℕ
counts_words c rows =
    amount_words c.processes (codes "process") (codes "processes") ++ (codes ", " ++
    (amount_words c.variables (codes "variable") (codes "variables") ++ (codes ", " ++
    (amount_words c.registers (codes "register") (codes "registers") ++ (codes ", " ++
    (amount_words c.values (codes "value") (codes "values") ++ (codes ", " ++
    (amount_words rows (codes "row") (codes "rows") ++ codes "\n"))))))))

-- a line of the counts, then each process under its heading
abbrev pub listing : Program → List ℕ
listing p = counts_words p.counts (length p.rows) ++ rows_words p.rows

abbrev pub refusal_words : Refusal → List ℕ
refusal_words f = codes "refused (" ++ (decimal (notice f).number ++ (codes "): " ++ reason f))

-- what is printed for what was read: the listing, or a line that says why it is refused
abbrev pub answered : Result Program Refusal → List ℕ
answered (Ok p) = listing p
answered (Err f) = refusal_words f ++ codes "\n"
