-- Refusals: those of lines, and each as it is told, with its number, its place and the part that found it.
use Rattle.program.specs.declared.lines.Unread.{Unread}
use Rattle.program.specs.declared.lines.Unread.TheVariants as why
use Rattle.program.specs.declared.refusals.Refusal.{Refusal}
use Rattle.program.specs.declared.refusals.Refusal.TheVariants.{Length, Field, Header, Order, Operand, NoTerm, NoProcess}
use Rattle.notice.specs.declared.Part.TheVariants as part
use Rattle.notice.specs.declared.Notice.{Notice}

-- lines that are not read, as a table tells it
abbrev pub unread : Unread → Refusal
unread why.Length = Length
unread (why.Field i) = Field i

abbrev pub notice : Refusal → Notice
notice Length = record { number = 11; place = 0; part = part.Text }
notice (Field i) = record { number = 12; place = i; part = part.Text }
notice Header = record { number = 13; place = 1; part = part.Table }
notice (Order i) = record { number = 14; place = i; part = part.Table }
notice (Operand i) = record { number = 15; place = i; part = part.Table }
notice (NoTerm i) = record { number = 16; place = i; part = part.Table }
notice (NoProcess i) = record { number = 16; place = i; part = part.Table }
