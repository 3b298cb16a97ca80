-- Takes lead to one configuration, and one more take goes on from there.
use Rattle.std.proofs.Common.{◌≡◌, ℕ, ◌+◌, ◌<◌, ◌≤◌, List, [], ◌∷◌, ◌++◌, length, get_or, take, Ok, Err, Result, sym, refl, ◌∙◌, subst, subst₂, arith, take_all}
use Rattle.std.proofs.lemmas.List.{take_more}
use Rattle.memory.specs.declared.actions.Action.{Action}
use Rattle.memory.specs.declared.actions.NotOffered.{NotOffered}
use Rattle.memory.specs.declared.actions.Seen.{Seen}
use Rattle.memory.specs.declared.actions.Take.{Take}
use Rattle.memory.specs.Machine.{Machine, Taken, Leads}

module _ {Config : Type 0} (m : Machine Config) where
  taken_one : (s : Config) (p : ℕ) (a : Action) (c : ℕ) (t u : Config) (r q : Result Seen NotOffered)
      → Taken m s p a c t r → Taken m s p a c u q → t ≡ u
  taken_one s p a c t u (Ok x) (Ok y) h k = h.after ∙ sym k.after
  taken_one s p a c t u (Ok x) (Err g) h k = absurd (omega (arith, h.offered, k.beyond))
  taken_one s p a c t u (Err f) (Ok y) h k = absurd (omega (arith, h.beyond, k.offered))
  taken_one s p a c t u (Err f) (Err g) h k = h.same ∙ sym k.same

  pub leads_one : (s : Config) (ks : List Take) (t u : Config) → Leads m s ks t → Leads m s ks u → t ≡ u
  leads_one s [] t u h k = h ∙ sym k
  leads_one s (j ∷ ks) t u h k =
      let e = taken_one s j.process j.action j.choice h.0 k.0 h.1.0 k.1.0 h.1.1 k.1.1 in
      leads_one k.0 ks t u (subst (λ w. Leads m w ks t) e h.2) k.2

  pub leads_more : (s : Config) (ks : List Take) (t : Config) (k : Take) (u : Config) (r : Result Seen NotOffered)
      → Leads m s ks t → Taken m t k.process k.action k.choice u r → Leads m s (ks ++ (k ∷ [])) u
  leads_more s [] t k u r h took = (u, (r, subst (λ w. Taken m w k.process k.action k.choice u r) h took), refl)
  leads_more s (j ∷ ks) t k u r h took = (h.0, h.1, leads_more h.0 ks t k u r h.2 took)

  -- one take more of a list
  pub leads_next : (s : Config) (ks : List Take) (i : ℕ) (d : Take) (t u : Config) (r : Result Seen NotOffered) → i < length ks
      → Leads m s (take i ks) t → Taken m t (get_or ks i d).process (get_or ks i d).action (get_or ks i d).choice u r
      → Leads m s (take (i + 1) ks) u
  leads_next s ks i d t u r h led took =
      subst (λ (js : List Take). Leads m s js u) (sym (take_more ks i d h)) (leads_more s (take i ks) t (get_or ks i d) u r led took)

  -- all of them
  pub leads_all : (s s' : Config) (ks : List Take) (i : ℕ) (t : Config) → length ks ≤ i → s ≡ s'
      → Leads m s (take i ks) t → Leads m s' ks t
  leads_all s s' ks i t h e led = subst₂ (λ (q : Config) (js : List Take). Leads m q js t) e (take_all i ks h) led
