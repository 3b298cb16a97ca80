-- What comes of a line over a memory, and how outcomes are counted.
use Rattle.std.specs.Prelude.{◌+◌, Bool, cond, Ok, Err, Result, nat_lt}
use Rattle.memory.specs.declared.actions.Take.{Take}
use Rattle.memory.specs.Machine.{Machine}
use Rattle.steps.specs.declared.outcomes.Done.{Done}
use Rattle.steps.specs.declared.outcomes.Stop.{Stop}
use Rattle.steps.specs.declared.outcomes.Stop.TheVariants.{Refused, Wrong as Misread}
use Rattle.steps.specs.declared.outcomes.Tally.{Tally}
use Rattle.steps.specs.declared.wrongs.Wrong.{Wrong}

module _ {Config : Type 0} (m : Machine Config) (s : Config) where
  -- whether the choice is offered
  abbrev pub is_offered : Take → Bool
  is_offered k = nat_lt k.choice (m.offer s k.process k.action)

  -- what comes of it, and the configuration after
  abbrev pub outcome_at : Take → Result Done Stop
  outcome_at k =
      cond (is_offered k)
      (Ok (record {
        take = k;
        offered = m.offer s k.process k.action;
        seen = record {
          value = (m.step s k.process k.action k.choice).value;
          switch = (m.step s k.process k.action k.choice).mark;
        };
      }))
      (Err (Refused k (m.offer s k.process k.action)))

  abbrev pub config_after : Take → Config
  config_after k = cond (is_offered k) (m.step s k.process k.action k.choice).next s

  -- the same of a line as it was read
  abbrev pub outcome_of : Result Take Wrong → Result Done Stop
  outcome_of (Ok k) = outcome_at k
  outcome_of (Err w) = Err (Misread w)

  abbrev pub config_of : Result Take Wrong → Config
  config_of (Ok k) = config_after k
  config_of (Err w) = s

abbrev pub no_tally : Tally
no_tally = record { performed = 0; switches = 0 }

-- the numbers after one action more
abbrev pub tallied : Tally → Done → Tally
tallied t d = record { performed = t.performed + 1; switches = cond d.seen.switch (t.switches + 1) t.switches }
