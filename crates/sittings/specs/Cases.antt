-- What a case of a batch is.
use Rattle.std.specs.Prelude.{◌≡◌, ℕ, ◌+◌, cond, List, ◌∷◌, ◌++◌, length, take, drop, Some, None, Option, ◌==◌, nat_le}
use Rattle.std.specs.Borrow.{Bor}
use Rattle.std.specs.List.{position}
use Rattle.std.specs.Option.{option_and_then, option_map}
use Rattle.sittings.specs.Numerals.{number_of}
use Rattle.sittings.specs.declared.cases.Case.{Case}

-- a case: its input, the room of its buffer, and what follows in the batch
pub record First : Type 0 where
  pub input : List ℕ
  pub room : ℕ
  pub rest : List ℕ

-- A batch that begins with a case: a line of two numbers, one space between and a byte 10 at its end, the length of the
-- input and the room of the buffer; then the input, and the rest.
pub record Begins (batch : List ℕ) (c : First) : Type 0 where
  pub size : List ℕ
  pub space : List ℕ
  pub batch_is : batch ≡ size ++ (32 ∷ (space ++ (10 ∷ (c.input ++ c.rest))))
  pub size_is : number_of size ≡ Some (length c.input)
  pub room_is : number_of space ≡ Some c.room

-- it begins with this case and with no other, or with none
abbrev pub BeginsWith : List ℕ → Option First → Type 0
BeginsWith batch (Some c) = Begins batch c × ((d : First) → Begins batch d → d ≡ c)
BeginsWith batch None = (d : First) → Begins batch d → ⊥

-- a text cut at its first byte e: what stands before it, and what follows it
abbrev pub cut : ℕ → List ℕ → Option (List ℕ × List ℕ)
cut e s = option_map (λ i. (take i s, drop (i + 1) s)) (position (λ b. b == e) s)

-- the case of this size and room, if the text has as many bytes
abbrev pub taken : ℕ → ℕ → List ℕ → Option First
taken size room text = cond (nat_le size (length text)) (Some (record { input = take size text; room = room; rest = drop size text })) None

-- the case of a line's second number, and of what follows it
abbrev pub case_after : ℕ → List ℕ × List ℕ → Option First
case_after size p = option_and_then (λ room. taken size room p.1) (number_of p.0)

-- the case of a line's first number, and of what follows it
abbrev pub case_with : List ℕ × List ℕ → Option First
case_with p = option_and_then (λ size. option_and_then (case_after size) (cut 10 p.1)) (number_of p.0)

-- the case with which a batch begins, read from the front
abbrev pub case_of : List ℕ → Option First
case_of batch = option_and_then case_with (cut 32 batch)

-- what the code's parts and its case stand for
abbrev pub the_parts : Bor (List ℕ) × Bor (List ℕ) → List ℕ × List ℕ
the_parts p = (p.0.now, p.1.now)

abbrev pub the_case : Case → First
the_case c = record { input = c.input.now; room = c.room; rest = c.rest.now }
