-- A script's driver may move to another thread.
use denote.Param.Send.{IsSend, AllSend, EachSend, enum_send, recorded_send, struct_send, sendable}
use denote.Enum.Declared.{variants, shape as enum_shape}
use denote.Struct.Struct.{Struct}
use denote.Struct.Declared.{fields, shape}
use Rattle.std.proofs.Crossing.{crosses}
use Rattle.tb_program.specs.contracts.run.driver.ScriptDriver as driver
use Rattle.tb_program.specs.contracts.run.notes.Notes as notes
use Rattle.tb_program.specs.contracts.run.notes.PacketResult as packet_result
use Rattle.tb_work.specs.contracts.reply.Reply as reply
use Rattle.tb_work.specs.contracts.outcome.Outcome as outcome
use Rattle.tb_work.specs.contracts.packet.Packet as packet
use Rattle.tb_layout.specs.contracts.account.Account as account
use Rattle.tb_layout.specs.contracts.answer.Failures as failures
use Rattle.tb_layout.specs.contracts.answer.Accounts as accounts
use Rattle.tb_layout.specs.contracts.answer.Answer as answer

result_send : IsSend packet_result.the_row
result_send = search (sendable, crosses) depth 20

packet_send : IsSend (packet.the_field).row
packet_send = search (sendable, crosses) depth 20

failures_send : IsSend failures.the_row
failures_send = search (sendable, crosses) depth 20

account_send : IsSend account.the_row
account_send = search (sendable, crosses) depth 20

accounts_send : IsSend accounts.the_row
accounts_send = search (sendable, crosses, account_send) depth 20

answer_send : IsSend (answer.the_field).row
answer_send = search (sendable, crosses, failures_send, accounts_send) depth 20

outcome_send : IsSend (outcome.the_field).row
outcome_send =
    let each : EachSend (variants outcome.the_type) = ((search sendable, (answer_send, tt)), (tt, (tt, tt))) in
    enum_send (enum_shape outcome.the_type) each

reply_send : IsSend reply.the_row
reply_send = search (sendable, crosses, outcome_send, packet_send) depth 20

notes_send : IsSend (notes.the_field).row
notes_send =
    let all : AllSend (fields notes.the_type) =
    (search (sendable, crosses, result_send) depth 20, (search (sendable, crosses, reply_send) depth 20, (search (sendable, crosses) depth 20, tt))) in
    struct_send (shape notes.the_type) all

pub driver_send : IsSend driver.the_row
driver_send =
    let all : AllSend (fields driver.the_type) =
    (search (sendable, crosses) depth 20, (search (sendable, crosses) depth 20, (notes_send, tt))) in
    recorded_send (Struct (shape driver.the_type)) _ (driver.the_type).to (driver.the_type).to_one
    (struct_send (shape driver.the_type) all)
