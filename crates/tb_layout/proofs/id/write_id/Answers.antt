use Rattle.std.proofs.Common.{◌≡◌, ◌∙◌, ap, take}
use Rattle.tb_layout.specs.claim.BytesOfNumbers.{bytes_of}
use Rattle.tb_layout.specs.claim.Bytes.{little_endian}
use Rattle.tb_layout.proofs.Numbers.{little_endian-bytes_of}
use Rattle.tb_layout.proofs.id.write_id.Goals as goal

pub returns-clause-read_back : goal.returns-clause-read_back
returns-clause-read_back c =
    let front : take 16 c.write_u128.new.bytes ≡ bytes_of 16 c.args.id = c.write_u128.ensures.front in
    ap little_endian front ∙ little_endian-bytes_of 16 c.args.id c.write_u128.ensures.fits
