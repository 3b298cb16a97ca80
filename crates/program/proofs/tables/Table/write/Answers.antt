-- After i turns the first i lines of the text stand over the front of the buffer (Pages), and a turn writes one more; the rest of
-- the buffer is as it was.
use Rattle.std.proofs.Common.{◌≡◌, ◌+◌, ◌*◌, false, length, refl, eqb, sym, ap, arith}
use Rattle.program.specs.declared.tables.Table.{Table}
use Rattle.text.specs.Lines.{line_text}
use Rattle.program.specs.Program.{is_nothing, header_fields}
use Rattle.program.specs.Tables.{program}
use Rattle.program.proofs.Pages.{text_back, line_put, row_small, first_line, next_line, page_short, page_all}
use Rattle.program.proofs.tables.Table.write.Goals as goal

module _ (t : Table) (e : false ≡ eqb (length t.rows.items) 0) where
  some : is_nothing (program t) ≡ false
  some = sym e

pub returns-then-out-needed-clause-value : goal.returns-then-out-needed-clause-value
returns-then-out-needed-clause-value c =
    let t = c.args.self.now in
    let long = c.len.ensures.value in
    rw long (page_short (program t) t.keeps (some t c.if-is_empty.ensures) c.args.out.now (omega arith))

pub loop-i-init : goal.loop-i-init
loop-i-init c =
    let t = c.args.self.now in
    let long = c.len-2.ensures.value in
    let header : c.put.new.line ≡ line_text (header_fields t.counts (length (program t).rows)) = cc in
    first_line (program t) t.keeps (some t c.if-is_empty.ensures) c.args.out.now _ (line_put (header_fields t.counts (length (program t).rows)) c.put.new.line c.args.out.now 0 25 refl header)

pub put-requires-in-loop-i : goal.put-requires-in-loop-i
put-requires-in-loop-i c =
    let t = c.args.self.now in
    let rows = c.deref-row-items.ensures.0 in
    let line = rw rows at c.from.ensures in
    (row_small (program t) t.keeps (some t c.if-is_empty.ensures) c.from.result c.loop-i.i _ line (omega (arith, ap length rows)), omega (arith, ap length rows))

pub loop-i-preserved : goal.loop-i-preserved
loop-i-preserved c =
    let t = c.args.self.now in
    let rows = c.deref-row-items.ensures.0 in
    let line = rw rows at c.from.ensures in
    next_line (program t) t.keeps (some t c.if-is_empty.ensures) c.args.out.now c.loop-i.out _ c.from.result c.loop-i.i _ line (omega (arith, ap length rows)) c.loop-i.invariant (line_put c.from.result c.put-in-loop-i.new.line c.loop-i.out (25 * (c.loop-i.i + 1)) _ (omega arith) c.put-in-loop-i.ensures)

pub returns-clause-value : goal.returns-clause-value
returns-clause-value c =
    let t = c.args.self.now in
    let long = c.len.ensures.value in
    rw long (page_all (program t) t.keeps (some t c.if-is_empty.ensures) c.args.out.now c.loop-i.i c.loop-i.out (omega (arith, ap length c.deref-row-items.ensures.0)) (omega (arith, ap length c.deref-row-items.ensures.0)) c.loop-i.invariant)

pub returns-clause-back : goal.returns-clause-back
returns-clause-back c = text_back (program c.args.self.now) c.args.self.now.keeps

pub returns-then-out-needed-clause-back : goal.returns-then-out-needed-clause-back
returns-then-out-needed-clause-back c = text_back (program c.args.self.now) c.args.self.now.keeps
