-- What the calls answer for two litmus tables over release-acquire memory, one after another, in a session that began new.
use Rattle.std.specs.Prelude.{◌≡◌, ℕ, false, List, [], ◌∷◌, ◌++◌, Some, None as Nothing, Ok, Err, Result, codes, ◌≤◌, length}
use Rattle.text.specs.Writing.{over}
use Rattle.ceiling.specs.Ceiling.{memory}
use Rattle.program.specs.Reading.{read}
use Rattle.runs.specs.declared.questions.Unasked.TheVariants.{Bounds}
use Rattle.runs.specs.declared.verdicts.Verdict.{Verdict}
use Rattle.runs.specs.declared.verdicts.Verdict.TheVariants.{More, Found, None}
use Rattle.runs.specs.declared.verdicts.Worked.{Worked}
use Rattle.replay.specs.declared.faults.Fault.TheVariants as fault
use Rattle.session.specs.declared.refusals.Refusal.{Refusal}
use Rattle.session.specs.declared.refusals.Refusal.TheVariants.{Question, Effort, Run}
use Rattle.session.specs.declared.standings.Stage.TheVariants as stage
use Rattle.session.specs.Outcomes.{put_out}
use Rattle.session.specs.Answers.{opened, replayed, reported, stepped, stood, worked}
use Rattle.session.specs.Notices.{notice}
use Rattle.session.specs.Series.{Book, load, put, work, booked, next}
use Rattle.sitting.specs.Outputs.{sat_in}
use Rattle.worked.specs.Tables.{store_buffering_text, store_buffering, message_passing_text, message_passing, run_text}

abbrev pub four : ℕ → ℕ → List ℕ
four one two = one ∷ (two ∷ (0 ∷ (0 ∷ [])))

-- a table is loaded and a question put
abbrev put_to : List ℕ → ℕ → ℕ → ℕ → ℕ → Book
put_to text n k one two = booked (load text ∷ (put n k (four one two) ∷ []))

-- so many units, and what is known then
abbrev units : ℕ → Verdict → Result Worked Refusal
units u v = Ok (record { units = u; verdict = v })

abbrev pub asked_sb : Book
asked_sb = put_to store_buffering_text 8 0 5 5

abbrev worked_on : Book → ℕ → Book
worked_on b e = next b (work e)

abbrev found_sb : Book
found_sb = worked_on (worked_on (worked_on asked_sb 4) 4) 1

abbrev loaded_sb : Book
loaded_sb = booked (load store_buffering_text ∷ [])

abbrev number_of : Refusal → ℕ
number_of why = (notice why).number

-- Store buffering within 8 steps and no switch: both processes are to get to their ends.
pub record Efforts : Type 0 where
  pub first : worked memory asked_sb 4 ≡ units 4 More
  pub second : worked memory (worked_on asked_sb 4) 4 ≡ units 4 More
  pub third : worked memory (worked_on (worked_on asked_sb 4) 4) 1 ≡ units 1 Found
  pub fourth : worked memory found_sb 5 ≡ units 0 Found

-- what a report writes then, over any buffer that has room for it
abbrev pub sb_report : List ℕ
sb_report = codes "   0   1   8   0   0   0\n" ++ run_text (codes "   7   2   3   0   0   0\n")

pub record Reports : Type 0 where
  pub written : (out : List ℕ) → reported memory found_sb out ≡ put_out sb_report out
  pub steps : stood memory found_sb ≡ record { stage = stage.Found; steps = 8 }
  pub sixth : stepped memory found_sb 6 ≡ Some (record { step = 6; process = 2; label = 2; choice = 0; value = 0; switch = false })
  pub ninth : stepped memory found_sb 9 ≡ Nothing

-- a sitting's input that asks the same, and what it writes
abbrev pub sb_input : List ℕ
sb_input = codes "   1   8   0   5   5   0   0\n" ++ store_buffering_text

pub record Sittings : Type 0 where
  pub written : (out : List ℕ) → 625 ≤ length out → sat_in sb_input out ≡ (Ok 225, over sb_report out)

-- that run replayed, as it is and with another line 7
pub record Replays : Type 0 where
  pub same : replayed memory asked_sb (run_text (codes "   7   2   3   0   0   0\n")) ≡ Ok (record { steps = 8; switches = 0 })
  pub choice_2 : replayed memory asked_sb (run_text (codes "   7   2   3   2   0   0\n")) ≡ Err (Run (fault.Choice 7 (record { offered = 2 })))
  pub choice_1 : replayed memory asked_sb (run_text (codes "   7   2   3   1   0   0\n")) ≡ Err (Run (fault.Seen 7))
  pub all_1 : replayed memory asked_sb (run_text (codes "   7   2   3   1   1   1\n")) ≡ Err (Run (fault.Bounds 7))
  pub numbers : (number_of (Run (fault.Choice 7 (record { offered = 2 }))) ≡ 53) × (number_of (Run (fault.Seen 7)) ≡ 54) × (number_of (Run (fault.Bounds 7)) ≡ 55)

-- no step at all
pub record NoSteps : Type 0 where
  pub anywhere : worked memory (put_to store_buffering_text 0 0 0 0) 1 ≡ units 1 Found
  pub at_2 : worked memory (put_to store_buffering_text 0 0 2 0) 1 ≡ units 1 None

-- message passing within 6 steps: the flag is seen and the data not, by one switch and not without
pub record MessagePassing : Type 0 where
  pub is_read : read message_passing_text ≡ Ok message_passing
  pub one_switch : worked memory (put_to message_passing_text 6 1 0 4) 1000000 ≡ units 8 Found
  pub no_switch : worked memory (put_to message_passing_text 6 0 0 4) 1000000 ≡ units 609 None

-- bounds and efforts at their limits
pub record Limits : Type 0 where
  pub steps_24 : opened loaded_sb 24 0 (four 0 0) ≡ Ok tt
  pub steps_25 : opened loaded_sb 25 0 (four 0 0) ≡ Err (Question Bounds)
  pub bounds_number : number_of (Question Bounds) ≡ 22
  pub million : worked memory (put_to store_buffering_text 0 0 2 0) 1000000 ≡ units 1 None
  pub none : worked memory asked_sb 0 ≡ Err Effort
  pub too_much : worked memory asked_sb 1000001 ≡ Err Effort
  pub effort_number : number_of Effort ≡ 32

pub record Examples : Type 0 where
  pub is_read : read store_buffering_text ≡ Ok store_buffering
  pub efforts : Efforts
  pub reports : Reports
  pub sittings : Sittings
  pub replays : Replays
  pub no_steps : NoSteps
  pub message_passing : MessagePassing
  pub limits : Limits
