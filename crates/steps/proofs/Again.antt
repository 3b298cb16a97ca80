-- A line that was read is what is printed of it again.
use Rattle.std.proofs.Common.{◌≡◌, ℕ, Bool, true, false, cond, List, ◌∷◌, ◌++◌, Some, Ok, codes, decimal, Option, sym, refl, ap, ◌∙◌, append_assoc}
use Rattle.std.proofs.lemmas.Option.{none-some, same_Some}
use Rattle.std.proofs.lemmas.Slice.Eq.{bytes_eq-Decides}
use Rattle.std.specs.Option.{ok_or}
use Rattle.std.specs.Str.{bytes_eq}
use Rattle.memory.specs.declared.actions.Action.{Action}
use Rattle.memory.specs.declared.actions.Action.TheVariants.{Local, Read, Write, Swap, Fence}
use Rattle.memory.specs.declared.actions.Take.{Take}
use Rattle.steps.specs.declared.asking.Verb.{Verb}
use Rattle.steps.specs.declared.asking.Verb.TheVariants.{Local as ToLocal, Read as ToRead, Write as ToWrite, Swap as ToSwap, Fence as ToFence}
use Rattle.steps.specs.declared.wrongs.Wrong.{Wrong}
use Rattle.steps.specs.declared.wrongs.Wrong.TheVariants.{Process, Action as NoAction, Variable, Value, Choice}
use Rattle.steps.specs.Asking.{verb_of, choice_at, variable_at, value_at, operands_at, action_at, take_of}
use Rattle.steps.specs.Chains.{onward}
use Rattle.steps.specs.Cutting.{front, back, after, word_after}
use Rattle.steps.specs.Numbers.{number_of, byte_of}
use Rattle.steps.specs.Words.{action_words, take_words}
use Rattle.steps.proofs.Inversions.{same_ok, then_some, onward_ok, ok_some}
use Rattle.steps.proofs.Repeats.{cut_joins, after_joins, word_joins, number_repeats, byte_repeats}

abbrev verb_words : Verb → List ℕ
verb_words ToLocal = codes "local"
verb_words ToRead = codes "read"
verb_words ToWrite = codes "write"
verb_words ToSwap = codes "swap"
verb_words ToFence = codes "fence"

-- a word is the name x, or else one of those that follow
name_if : (b : Bool) (w name : List ℕ) (x v : Verb) (others : Option Verb) → (b ≡ true → w ≡ name) → verb_words x ≡ name → cond b (Some x) others ≡ Some v → (others ≡ Some v → verb_words v ≡ w) → verb_words v ≡ w
name_if true w name x v others is ex h rest = ap verb_words (sym (same_Some x v h)) ∙ (ex ∙ sym (is refl))
name_if false w name x v others is ex h rest = rest h

named : (w name : List ℕ) (x v : Verb) (others : Option Verb) → verb_words x ≡ name → cond (bytes_eq w name) (Some x) others ≡ Some v → (others ≡ Some v → verb_words v ≡ w) → verb_words v ≡ w
named w name x v others = name_if (bytes_eq w name) w name x v others (bytes_eq-Decides w name).0

verb_repeats : (w : List ℕ) (v : Verb) → verb_of w ≡ Some v → verb_words v ≡ w
verb_repeats w v h =
    named w (codes "local") ToLocal v _ refl h (λ i. named w (codes "read") ToRead v _ refl i (λ j. named w (codes "write") ToWrite v _ refl j
    (λ k. named w (codes "swap") ToSwap v _ refl k (λ l. named w (codes "fence") ToFence v _ refl l (λ n. absurd (none-some v n))))))

-- a number after a beginning
number_joins : (start s : List ℕ) (w : Wrong) (p : ℕ × List ℕ) → ok_or (word_after start byte_of s) w ≡ Ok p → start ++ (decimal p.0 ++ p.1) ≡ s
number_joins start s w p h =
    let q = word_joins start byte_of s p (ok_some (word_after start byte_of s) w p h) in
    ap (λ (l : List ℕ). start ++ (l ++ p.1)) (byte_repeats q.0 p.0 q.1) ∙ q.2

variable_joins : (s : List ℕ) (p : ℕ × List ℕ) → variable_at s ≡ Ok p → codes " x" ++ (decimal p.0 ++ p.1) ≡ s
variable_joins s = number_joins (codes " x") s Variable

value_joins : (s : List ℕ) (p : ℕ × List ℕ) → value_at s ≡ Ok p → codes " " ++ (decimal p.0 ++ p.1) ≡ s
value_joins s = number_joins (codes " ") s Value

-- the action and what follows it, as one text
abbrev whole : Action × List ℕ → List ℕ
whole p = action_words p.0 ++ p.1

operands_join : (v : Verb) (s : List ℕ) (p : Action × List ℕ) → operands_at v s ≡ Ok p → whole p ≡ verb_words v ++ s
operands_join ToLocal s p h = ap whole (sym (same_ok (Local, s) p h))
operands_join ToFence s p h = ap whole (sym (same_ok (Fence, s) p h))
operands_join ToRead s p h =
    let x = onward_ok (variable_at s) (λ x. Ok (Read x.0, x.1)) p h in
    ap whole (sym (same_ok (Read x.0.0, x.0.1) p x.2)) ∙ ap (λ (l : List ℕ). codes "read" ++ l) (variable_joins s x.0 x.1)
operands_join ToWrite s p h =
    let x = onward_ok (variable_at s) (λ x. onward (value_at x.1) (λ v. Ok (Write x.0 v.0, v.1))) p h in
    let v = onward_ok (value_at x.0.1) (λ v. Ok (Write x.0.0 v.0, v.1)) p x.2 in
    ap whole (sym (same_ok (Write x.0.0 v.0.0, v.0.1) p v.2)) ∙
    (ap (λ (l : List ℕ). codes "write x" ++ l) (append_assoc (decimal x.0.0) (32 ∷ decimal v.0.0) v.0.1) ∙
    (ap (λ (l : List ℕ). codes "write x" ++ (decimal x.0.0 ++ l)) (value_joins x.0.1 v.0 v.1) ∙
    ap (λ (l : List ℕ). codes "write" ++ l) (variable_joins s x.0 x.1)))
operands_join ToSwap s p h =
    let x = onward_ok (variable_at s) (λ x. onward (value_at x.1) (λ old. onward (value_at old.1) (λ new. Ok (Swap x.0 old.0 new.0, new.1)))) p h in
    let o = onward_ok (value_at x.0.1) (λ old. onward (value_at old.1) (λ new. Ok (Swap x.0.0 old.0 new.0, new.1))) p x.2 in
    let n = onward_ok (value_at o.0.1) (λ new. Ok (Swap x.0.0 o.0.0 new.0, new.1)) p o.2 in
    let dx = decimal x.0.0 in
    let do_old = decimal o.0.0 in
    let dn = decimal n.0.0 in
    ap whole (sym (same_ok (Swap x.0.0 o.0.0 n.0.0, n.0.1) p n.2)) ∙
    (ap (λ (l : List ℕ). codes "swap x" ++ l) (append_assoc dx (32 ∷ (do_old ++ (32 ∷ dn))) n.0.1) ∙
    (ap (λ (l : List ℕ). codes "swap x" ++ (dx ++ (32 ∷ l))) (append_assoc do_old (32 ∷ dn) n.0.1) ∙
    (ap (λ (l : List ℕ). codes "swap x" ++ (dx ++ (32 ∷ (do_old ++ l)))) (value_joins o.0.1 n.0 n.1) ∙
    (ap (λ (l : List ℕ). codes "swap x" ++ (dx ++ l)) (value_joins x.0.1 o.0 o.1) ∙
    ap (λ (l : List ℕ). codes "swap" ++ l) (variable_joins s x.0 x.1)))))

action_joins : (s : List ℕ) (p : Action × List ℕ) → action_at s ≡ Ok p → codes " " ++ whole p ≡ s
action_joins s p h =
    let v = onward_ok (ok_or (word_after (codes " ") verb_of s) NoAction) (λ v. operands_at v.0 v.1) p h in
    let q = word_joins (codes " ") verb_of s v.0 (ok_some (word_after (codes " ") verb_of s) NoAction v.0 v.1) in
    ap (λ (l : List ℕ). 32 ∷ l) (operands_join v.0.0 v.0.1 p v.2) ∙
    (ap (λ (w : List ℕ). 32 ∷ (w ++ v.0.1)) (verb_repeats q.0 v.0.0 q.1) ∙ q.2)

choice_joins : (s : List ℕ) (n : ℕ) → choice_at s ≡ Some n → codes " choice " ++ decimal n ≡ s
choice_joins s n h =
    let p = then_some (after (codes " choice ") s) number_of n h in
    ap (λ (w : List ℕ). codes " choice " ++ w) (number_repeats p.0 n p.2) ∙ after_joins (codes " choice ") s p.0 p.1

pub take_repeats : (l : List ℕ) (k : Take) → take_of l ≡ Ok k → take_words k ≡ l
take_repeats l k h =
    let p = onward_ok (ok_or (byte_of (front 32 l)) Process) (λ p. onward (action_at (back 32 l)) (λ a. onward (ok_or (choice_at a.1) Choice) (λ c. Ok (record { process = p; action = a.0; choice = c })))) k h in
    let a = onward_ok (action_at (back 32 l)) (λ a. onward (ok_or (choice_at a.1) Choice) (λ c. Ok (record { process = p.0; action = a.0; choice = c }))) k p.2 in
    let c = onward_ok (ok_or (choice_at a.0.1) Choice) (λ c. Ok (record { process = p.0; action = a.0.0; choice = c })) k a.2 in
    let dp = decimal p.0 in
    ap take_words (sym (same_ok (record { process = p.0; action = a.0.0; choice = c.0 }) k c.2)) ∙
    (ap (λ (t : List ℕ). dp ++ (32 ∷ (action_words a.0.0 ++ t))) (choice_joins a.0.1 c.0 (ok_some (choice_at a.0.1) Choice c.0 c.1)) ∙
    (ap (λ (t : List ℕ). dp ++ t) (action_joins (back 32 l) a.0 a.1) ∙
    (ap (λ (t : List ℕ). t ++ back 32 l) (byte_repeats (front 32 l) p.0 (ok_some (byte_of (front 32 l)) Process p.0 p.1)) ∙ cut_joins 32 l)))
