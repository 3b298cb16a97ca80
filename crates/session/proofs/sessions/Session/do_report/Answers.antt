-- The lines are those of the definition, each with numbers that fit their fields, so 25 bytes for each are the text's length.
use Rattle.std.proofs.Common.{◌≡◌, ℕ, List, length, Some, Option, sym, subst, ap, ◌∙◌, rules, arith}
use Rattle.std.specs.List.{AllByRecursion}
use Rattle.text.specs.Writing.{over}
use Rattle.program.specs.Program.{Six, lines_text}
use Rattle.program.specs.Tables.{program}
use Rattle.worlds.specs.declared.records.Record.{Record}
use Rattle.runs.specs.declared.searches.Search.{Search}
use Rattle.session.specs.Contents.{content, inquiry_in, steps_in}
use Rattle.session.specs.Outcomes.{put_out, reported_by}
use Rattle.session.specs.Recited.{InField}
use Rattle.session.specs.Reports.{report_lines, report_text}
use Rattle.session.proofs.Recitals.{steps_small}
use Rattle.session.proofs.Reports.{put_whole, put_short}
use Rattle.session.proofs.sessions.Session.do_report.Goals as goal

pub lines-lines-requires-clause-small : goal.lines-lines-requires-clause-small
lines-lines-requires-clause-small g c =
    let records : c.deref.result.now ≡ steps_in g.M.Memory.machine (content c.args.self.now) = search rules in
    subst (AllByRecursion InField) (sym records)
    (steps_small g.M.Memory.machine (program c.args.self.now.table) g.M.Memory.WIDEST g.met.M.Memory.bounded g.met.M.Memory.few (inquiry_in c.args.self.now.search))

pub write_lines-requires-clause-six : goal.write_lines-requires-clause-six
write_lines-requires-clause-six g c = subst (AllByRecursion Six) (sym c.deref-2.ensures.0) c.lines-lines.ensures.six

-- a report of a search that is there
asked : (o : Option Search) (s : Search) (records : List Record) (out : List ℕ)
    → o ≡ Some s → put_out (report_text s.verdict records) out ≡ reported_by (inquiry_in o) records out
asked o s records out e = ap (λ (x : Option Search). reported_by (inquiry_in x) records out) (sym e)

pub returns-then-out-needed-clause-value : goal.returns-then-out-needed-clause-value
returns-then-out-needed-clause-value g c =
    let steps = steps_in g.M.Memory.machine (content c.args.self.now) in
    let s = c.in_ok-search.search in
    let held : c.args.self.now.search ≡ Some s = search rules in
    let lines : c.lines-lines.result.items ≡ report_lines s.verdict steps = search rules in
    let count : c.len-needed.result ≡ length c.lines-lines.result.items = search rules in
    rw count (put_short c.lines-lines.result.items (report_lines s.verdict steps) c.args.out.now lines c.lines-lines.ensures.six (omega arith))
    ∙ asked c.args.self.now.search s steps c.args.out.now held

pub returns-clause-value : goal.returns-clause-value
returns-clause-value g c =
    let steps = steps_in g.M.Memory.machine (content c.args.self.now) in
    let s = c.in_ok-search.search in
    let held : c.args.self.now.search ≡ Some s = search rules in
    let lines : c.lines-lines.result.items ≡ report_lines s.verdict steps = search rules in
    let count : c.len-needed.result ≡ length c.lines-lines.result.items = search rules in
    let written : c.write_lines.new.out ≡ over (lines_text c.lines-lines.result.items) c.args.out.now = search rules in
    rw count (put_whole c.lines-lines.result.items (report_lines s.verdict steps) c.args.out.now lines c.lines-lines.ensures.six c.write_lines.new.out (omega arith) written)
    ∙ asked c.args.self.now.search s steps c.args.out.now held
