use Rattle.std.proofs.Common.{◌≡◌, ◌++◌, ◌||◌, drop, string_bytes}
use Rattle.tb_program.proofs.Words.{IsAnswered, lines_of_packets}
use Rattle.tb_program.specs.clauses.RunText.{lacks_packet}
use Rattle.tb_program.proofs.run.report.put_results.Given as goal

abbrev pub invariant-loop-packet_result : goal.invariant-loop-packet_result
invariant-loop-packet_result l = record {
  answered : IsAnswered (drop l.packet_result-index l.results) l.replies;
  text : string_bytes l.out.text ++ lines_of_packets l.submitter (drop l.packet_result-index l.results) l.replies
      ≡ string_bytes l.fn.out.text ++ lines_of_packets l.submitter l.results l.fn.replies;
  lacking : (l.out.lacks_memory || lacks_packet (drop l.packet_result-index l.results) l.replies)
      ≡ (l.fn.out.lacks_memory || lacks_packet l.results l.fn.replies);
}
