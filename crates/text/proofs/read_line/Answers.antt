use Rattle.std.proofs.Common.{Some, None, ◌∙◌, sym, arith, length-set, inl, inr}
use Rattle.text.proofs.Lines.{same_reads}
use Rattle.text.proofs.Reading.{unread, unequal, ends_there, line_is_fields, both_stop, both_more, both_all}
use Rattle.text.proofs.read_line.Goals as goal

pub returns-then-ne-clause-value : goal.returns-then-ne-clause-value
returns-then-ne-clause-value g c =
    let end = c.as_chunks.result.1.now in
    let ne = unequal end c.as_slice.result.now c.ne.result c.ne.ensures in
    unread g.row.N c.args.bytes.now (λ l e.
    let there = ends_there g.row.N c.args.bytes.now end c.as_chunks.ensures.back l e in
    elim c.then-ne.either [ inl h ↦ ne.0 h (there ∙ sym c.as_slice.ensures) | inr h ↦ h.1 (omega arith) ])

pub returns-then-ne-clause-words : goal.returns-then-ne-clause-words
returns-then-ne-clause-words g c = same_reads _ _ None (returns-then-ne-clause-value g c)

pub returns-in_err-numbers-clause-value : goal.returns-in_err-numbers-clause-value
returns-in_err-numbers-clause-value g c =
    c.from_residual.ensures ∙ both_stop _ _ _ c.loop-i-test.true c.in_err-numbers.ensures ∙ c.loop-i.invariant.read
    ∙ line_is_fields g.row.N _ _ _ c.as_chunks.ensures.front c.as_chunks.ensures.front_len c.as_chunks.ensures.back c.as_chunks.ensures.back_len
    ((unequal c.as_chunks.result.1.now c.as_slice.result.now c.ne.result c.ne.ensures).1 c.if-ne.false ∙ c.as_slice.ensures) (omega arith)

pub returns-in_err-numbers-clause-words : goal.returns-in_err-numbers-clause-words
returns-in_err-numbers-clause-words g c = same_reads _ _ _ (returns-in_err-numbers-clause-value g c)

pub loop-i-preserved : goal.loop-i-preserved
loop-i-preserved g c = record {
  read = both_more _ _ _ _ c.loop-i-test.true (omega arith) c.in_ok-numbers.ensures ∙ c.loop-i.invariant.read;
  long = length-set c.loop-i.numbers c.loop-i.i _ ∙ c.loop-i.invariant.long;
}

pub returns-clause-value : goal.returns-clause-value
returns-clause-value g c = both_all _ _ _ c.loop-i-test.false (omega arith) ∙ c.loop-i.invariant.read
    ∙ line_is_fields g.row.N _ _ _ c.as_chunks.ensures.front c.as_chunks.ensures.front_len c.as_chunks.ensures.back c.as_chunks.ensures.back_len
    ((unequal c.as_chunks.result.1.now c.as_slice.result.now c.ne.result c.ne.ensures).1 c.if-ne.false ∙ c.as_slice.ensures) (omega arith)

pub returns-clause-words : goal.returns-clause-words
returns-clause-words g c = same_reads _ _ (Some c.loop-i.numbers) (returns-clause-value g c)
