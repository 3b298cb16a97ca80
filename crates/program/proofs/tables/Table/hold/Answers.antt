use Rattle.std.proofs.Common.{◌≡◌, ◌+◌, ◌≤◌, true, ◌&&◌, List, ◌++◌, length, sym, ap, ◌∙◌, subst, arith}
use Rattle.std.specs.Prelude.{Result, Ok, Err, IsOk, OnOk}
use Rattle.std.proofs.lemmas.Bool.{or_right}
use Rattle.program.specs.declared.rows.Row.{Row}
use Rattle.program.specs.Program.{kept, proper, starts_of, counts_none, is_nothing}
use Rattle.program.proofs.Blocks.{tested}
use Rattle.program.proofs.Starts.{sums_few, sums_are}
use Rattle.program.proofs.tables.Table.hold.Goals as goal

pub running_sums-starts-requires : goal.running_sums-starts-requires
running_sums-starts-requires c =
    let p = c.args.parsed in
    let good = tested (record { counts = p.frame.counts; rows = p.rows.now.items }) p.right in
    omega (arith, good.short, sums_few p.frame.labels p.rows.now.items p.counted)

-- what holds at Ok, where it is Ok
at_ok : {A E P : Type 0} (r : Result A E) → IsOk r → OnOk r P → P
at_ok (Ok _) is p = p
at_ok (Err _) is p = cc

pub invariant_of-self : goal.invariant_of-self
invariant_of-self c =
    let p = c.args.parsed in
    let rows = p.rows.now.items in
    let counts = p.frame.counts in
    let all = c.try_extend_from_slice.ensures in
    let room : length c.clear.new.self.items + length c.as_slice.result.now ≤ 128 = omega (arith, ap length c.clear.ensures, c.as_slice.ensures.fits) in
    let items : c.try_extend_from_slice.new.self.items ≡ rows = at_ok c.try_extend_from_slice.result (all.variant.1 room) all.ok ∙ ap (λ (xs : List Row). xs ++ c.as_slice.result.now) c.clear.ensures ∙ c.as_slice.ensures.value in
    let keeps : kept (record { counts = counts; rows = rows }) ≡ true = or_right (counts_none counts && is_nothing (record { counts = counts; rows = rows })) (proper (record { counts = counts; rows = rows })) p.right in
    record {
      keeps = subst (λ (xs : List Row). kept (record { counts = counts; rows = xs }) ≡ true) (sym items) keeps;
      placed = c.running_sums-starts.ensures ∙ sums_are p.frame.labels rows p.counted ∙ ap starts_of (sym items);
    }
