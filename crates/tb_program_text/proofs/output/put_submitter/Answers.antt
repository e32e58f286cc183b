use Rattle.std.proofs.Common.{◌<◌, rules}
use Rattle.tb_program_text.proofs.Words.{decimal_digit}
use Rattle.tb_program_text.proofs.output.put_submitter.Goals as goal

pub returns-then-submitter-lt10 : goal.returns-then-submitter-lt10
returns-then-submitter-lt10 c =
    let digit : c.args.submitter < 10 = search rules in
    search (rules, decimal_digit c.args.submitter digit)
