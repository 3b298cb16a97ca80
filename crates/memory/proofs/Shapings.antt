-- What the limits of a shape let through.
use Rattle.std.proofs.Common.{◌≡◌, ℕ, Bool, true, false, ◌&&◌, T, leb, Some, refl, ap, subst, le→leb}
use native.Mathlib.Bridge.{le_prop}
use Rattle.memory.specs.declared.shapes.Shape.{Shape}
use Rattle.memory.specs.Shapes.{Limits, Shaped, limited, within, shape_if, shape_by}

-- a shape is its three numbers: that they keep the limits has one proof
some_if : (s : Shape) (b : Bool) (h : T b → Limits s.processes s.variables s.ceiling) → T b
    → Some s ≡ shape_if s.processes s.variables s.ceiling b h
some_if s true h t = ap Some (λ i. record {
  processes = s.processes;
  variables = s.variables;
  ceiling = s.ceiling;
  peopled = le_prop s.peopled (h tt).0 i;
  crowd = le_prop s.crowd (h tt).1 i;
  stored = le_prop s.stored (h tt).2 i;
  small = le_prop s.small (h tt).3 i;
  low = le_prop s.low (h tt).4 i;
})
some_if s false h t = absurd t

t_both : (a b : Bool) → T a → T b → T (a && b)
t_both true b x y = y
t_both false b x y = x

inside : (p v n : ℕ) → Limits p v n → T (limited p v n)
inside p v n h =
    t_both (leb 1 p) _ (le→leb 1 p h.0) (t_both (leb p 4) _ (le→leb p 4 h.1) (t_both (leb 1 v) _ (le→leb 1 v h.2)
    (t_both (leb v 4) _ (le→leb v 4 h.3) (le→leb n 24 h.4))))

pub by_its_numbers : (s : Shape) → Some s ≡ shape_by s.processes s.variables s.ceiling
by_its_numbers s =
    some_if s (limited s.processes s.variables s.ceiling) (within s.processes s.variables s.ceiling)
    (inside s.processes s.variables s.ceiling (s.peopled, s.crowd, s.stored, s.small, s.low))

-- within the limits there is a shape
pub shape_there : (p v n : ℕ) → Limits p v n → (s : Shape) × (shape_by p v n ≡ Some s)
shape_there p v n limits = go (limited p v n) (within p v n) (inside p v n limits)
  where
    go : (b : Bool) (h : T b → Limits p v n) → T b → (s : Shape) × (shape_if p v n b h ≡ Some s)
    go true h t = (_, refl)
    go false h t = absurd t

-- and it has these numbers
pub shaped_is : (p v n : ℕ) (s : Shape) → shape_by p v n ≡ Some s → Shaped p v n (Some s)
shaped_is p v n s = go (limited p v n) (within p v n)
  where
    go : (b : Bool) (h : T b → Limits p v n) → shape_if p v n b h ≡ Some s → Shaped p v n (Some s)
    go true h e = subst (Shaped p v n) e (refl, refl, refl)
    go false h e = cc
