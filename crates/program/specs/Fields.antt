-- What a refusal of lines says of the text, in a reader's words: a table's lines and a run's are refused in the same way.
use Rattle.std.specs.Prelude.{◌≡◌, ℕ, ◌+◌, ◌*◌, ◌≤◌, List, ◌++◌, length, ◌≢◌}
use Rattle.std.specs.List.{AllByRecursion}
use Rattle.text.specs.Lines.{line_text}
use Rattle.program.specs.Program.{Six, lines_text}

-- from least to most lines are allowed
module _ (least most : ℕ) (text : List ℕ) where
  -- the text is as long as n lines, and so many are allowed
  abbrev pub Lines : ℕ → Type 0
  Lines n = (length text ≡ 25 * n) × (least ≤ n) × (n ≤ most)

  -- it is as long as no number of lines that is allowed
  abbrev pub WrongLength : Type 0
  WrongLength = (n : ℕ) → Lines n → ⊥

  -- it is as long as lines that are allowed; those before line i are numbers, and the 25 bytes of line i are not
  pub record WrongField (i : ℕ) : Type 0 where
    pub long : (n : ℕ) × Lines n
    pub before : List (List ℕ)
    pub line : List ℕ
    pub rest : List ℕ
    pub are : text ≡ lines_text before ++ (line ++ rest)
    pub numbers : AllByRecursion Six before
    pub place : i ≡ length before + 1
    pub there : length line ≡ 25
    pub wrong : (f : List ℕ) → Six f → line ≢ line_text f
