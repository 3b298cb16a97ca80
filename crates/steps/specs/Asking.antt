-- What a line asks for: the process, the action and the choice.
use Rattle.std.specs.Prelude.{ℕ, cond, List, Some, None, Ok, codes, Option, Result}
use Rattle.std.specs.Option.{ok_or}
use Rattle.std.specs.Str.{bytes_eq}
use Rattle.memory.specs.declared.actions.Action.{Action}
use Rattle.memory.specs.declared.actions.Action.TheVariants.{Local, Read, Write, Swap, Fence}
use Rattle.memory.specs.declared.actions.Take.{Take}
use Rattle.steps.specs.declared.asking.Verb.{Verb}
use Rattle.steps.specs.declared.asking.Verb.TheVariants.{Local as ToLocal, Read as ToRead, Write as ToWrite, Swap as ToSwap, Fence as ToFence}
use Rattle.steps.specs.declared.wrongs.Wrong.{Wrong}
use Rattle.steps.specs.declared.wrongs.Wrong.TheVariants.{Process, Action as NoAction, Variable, Value, Choice}
use Rattle.steps.specs.Chains.{then, onward}
use Rattle.steps.specs.Cutting.{front, back, after, word_after}
use Rattle.steps.specs.Numbers.{number_of, byte_of}

abbrev pub verb_of : List ℕ → Option Verb
verb_of w =
    cond (bytes_eq w (codes "local")) (Some ToLocal)
    (cond (bytes_eq w (codes "read")) (Some ToRead)
    (cond (bytes_eq w (codes "write")) (Some ToWrite)
    (cond (bytes_eq w (codes "swap")) (Some ToSwap)
    (cond (bytes_eq w (codes "fence")) (Some ToFence)
    None))))

-- the choice ends its line
abbrev pub choice_at : List ℕ → Option ℕ
choice_at s = then (after (codes " choice ") s) number_of

-- a variable is written as x and its number
abbrev pub variable_at : List ℕ → Result (ℕ × List ℕ) Wrong
variable_at s = ok_or (word_after (codes " x") byte_of s) Variable

abbrev pub value_at : List ℕ → Result (ℕ × List ℕ) Wrong
value_at s = ok_or (word_after (codes " ") byte_of s) Value

-- what follows the name of an action
abbrev pub operands_at : Verb → List ℕ → Result (Action × List ℕ) Wrong
operands_at ToLocal s = Ok (Local, s)
operands_at ToRead s = onward (variable_at s) (λ x. Ok (Read x.0, x.1))
operands_at ToWrite s = onward (variable_at s) (λ x. onward (value_at x.1) (λ v. Ok (Write x.0 v.0, v.1)))
operands_at ToSwap s =
    onward (variable_at s) (λ x. onward (value_at x.1) (λ old. onward (value_at old.1) (λ new. Ok (Swap x.0 old.0 new.0, new.1))))
operands_at ToFence s = Ok (Fence, s)

abbrev pub action_at : List ℕ → Result (Action × List ℕ) Wrong
action_at s = onward (ok_or (word_after (codes " ") verb_of s) NoAction) (λ v. operands_at v.0 v.1)

abbrev pub take_of : List ℕ → Result Take Wrong
take_of l =
    onward (ok_or (byte_of (front 32 l)) Process) (λ p.
    onward (action_at (back 32 l)) (λ a.
    onward (ok_or (choice_at a.1) Choice) (λ c.
    Ok (record { process = p; action = a.0; choice = c }))))
