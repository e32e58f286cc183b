use Rattle.std.proofs.Common.{◌≡◌, ◌+◌, ◌≤◌, ◌++◌, ◌||◌, length, map, string_bytes}
use Rattle.tb_program.proofs.Words.{into_iter_items, submitters_max, replies_of, AreAllAnswered, AreAllDone, results_of}
use Rattle.tb_program.specs.clauses.RunText.{lacks_packets, packets_text}
use Rattle.tb_program.proofs.run.report.put_all_packets.Given as goal

abbrev pub invariant-loop-driver : goal.invariant-loop-driver
invariant-loop-driver l =
    let drivers = l.driver-iterator.rest.items in
    let ends = into_iter_items l.ends in
    record {
      few : l.submitter + length drivers ≤ submitters_max;
      number : length ends ≡ length drivers;
      answered : AreAllAnswered drivers ends;
      done : AreAllDone drivers → AreAllDone l.fn.drivers.items;
      text : string_bytes l.out.text ++ packets_text l.submitter (map results_of drivers) (replies_of ends)
          ≡ string_bytes l.fn.out.text ++ packets_text 0 (map results_of l.fn.drivers.items) (replies_of l.fn.ends.items);
      lacking : (l.out.lacks_memory || lacks_packets (map results_of drivers) (replies_of ends))
          ≡ (l.fn.out.lacks_memory || lacks_packets (map results_of l.fn.drivers.items) (replies_of l.fn.ends.items));
    }
