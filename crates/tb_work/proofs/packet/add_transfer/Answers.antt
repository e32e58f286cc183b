use Rattle.std.proofs.Common.{ap, sym, ◌∙◌}
use Rattle.tb_work.proofs.Words.{transfer_of}
use Rattle.tb_work.proofs.packet.add_transfer.Goals as goal

pub returns-in_err-extend_from_slice-clause-read_back : goal.returns-in_err-extend_from_slice-clause-read_back
returns-in_err-extend_from_slice-clause-read_back c =
    ap transfer_of (sym c.write_transfer.ensures.value) ∙ c.write_transfer.ensures.read_back

pub returns-clause-read_back : goal.returns-clause-read_back
returns-clause-read_back c = ap transfer_of (sym c.write_transfer.ensures.value) ∙ c.write_transfer.ensures.read_back
