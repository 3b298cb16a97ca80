-- What a chain of steps that gave a value says of each step.
use Rattle.std.proofs.Common.{◌≡◌, Bool, true, false, cond, Some, None, Ok, Err, Option, Result, refl}
use Rattle.std.proofs.lemmas.Option.{none-some}
use Rattle.std.specs.Option.{ok_or}
use Rattle.steps.specs.Chains.{then, onward}

not_err : {X E : Type 0} (e : E) (x : X) → ◌≡◌ {A = Result X E} (Err e) (Ok x) → ⊥
not_err e x h = cc

pub same_ok : {X E : Type 0} (x y : X) → ◌≡◌ {A = Result X E} (Ok x) (Ok y) → x ≡ y
same_ok x y h = cc

pub then_some : {X Y : Type 0} (o : Option X) (f : X → Option Y) (y : Y) → then o f ≡ Some y → (x : X) × (o ≡ Some x) × (f x ≡ Some y)
then_some None f y h = absurd (none-some y h)
then_some (Some x) f y h = (x, refl, h)

pub onward_ok : {X Y E : Type 0} (r : Result X E) (f : X → Result Y E) (y : Y) → onward r f ≡ Ok y → (x : X) × (r ≡ Ok x) × (f x ≡ Ok y)
onward_ok (Err e) f y h = absurd (not_err e y h)
onward_ok (Ok x) f y h = (x, refl, h)

pub ok_some : {X E : Type 0} (o : Option X) (e : E) (x : X) → ok_or o e ≡ Ok x → o ≡ Some x
ok_some None e x h = absurd (not_err e x h)
ok_some (Some y) e x h = cc

pub cond_some : {X : Type 0} (b : Bool) (o : Option X) (x : X) → cond b o None ≡ Some x → (b ≡ true) × (o ≡ Some x)
cond_some true o x h = (refl, h)
cond_some false o x h = absurd (none-some x h)
