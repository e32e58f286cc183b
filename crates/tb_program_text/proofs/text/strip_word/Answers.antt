use Rattle.std.proofs.Common.{rules}
use Rattle.tb_program_text.proofs.Words.{bytes_eq-Decides}
use Rattle.tb_program_text.proofs.Named.{begins_with, after_sign}
use Rattle.tb_program_text.proofs.text.strip_word.Goals as goal
use Rattle.tb_program_text.proofs.text.strip_word.Goals.{else-length-text-via-then-length-text+then-text-length+else-eq, else-length-text-via-then-length-text+else-text-length, else-length-text-via-else-length-text}

pub returns-then-eq : goal.returns-then-eq
returns-then-eq c =
    after_sign c.args.text.now c.args.word.now c.args.end (record
    { long = search rules; sign = search rules; front = search (rules, bytes_eq-Decides) })

pub returns-else-length-text : goal.returns-else-length-text
returns-else-length-text c = λ others e.
    let begins = begins_with c.args.text.now c.args.word.now others c.args.end e in
    elim c.else-length-text.branch [
      | else-length-text-via-then-length-text+then-text-length+else-eq w ↦ search (rules, begins.front)
      | else-length-text-via-then-length-text+else-text-length w ↦ search (rules, begins.sign)
      | else-length-text-via-else-length-text w ↦ search (rules, begins.long)
    ]
