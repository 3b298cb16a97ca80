use Rattle.std.proofs.Common.{◌≡◌, ◌≤◌, ◌+◌, ◌-◌, length, drop}
use Rattle.std.specs.Iterator.Adapters.{enumerate_count, enumerate_source}
use Rattle.std.specs.Slice.Iter.{windows_rest, windows_size}
use Rattle.std.specs.Slice.ArrayWindows.{array_windows_parts}
use Rattle.program.specs.Reading.{ends_read}
use Rattle.program.proofs.reading.check_ends.Given as goal

abbrev pub invariant-loop-i : goal.invariant-loop-i
invariant-loop-i l =
    let left = array_windows_parts (enumerate_source l.i-iterator) in
    let i = enumerate_count l.i-iterator in
    record {
      next : (goal.iterator-loop-i).can_next l.i-iterator;
      pairs : windows_size left ≡ 2;
      left : windows_rest left ≡ drop i l.rows.items;
      place : i ≤ length l.rows.items - 1;
      read : ends_read l.processes (i + 2) (drop i l.rows.items) ≡ ends_read l.processes 2 l.rows.items;
    }
