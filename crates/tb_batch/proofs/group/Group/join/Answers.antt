use Rattle.std.proofs.Common.{◌≡◌, arith, ap, sym, ◌∙◌, ◌∷◌, [], ◌++◌, ◌+◌}
use Rattle.tb_batch.proofs.Words.{Vec, vec_capacity, stub_of, count_of, HasRoom, is_taken}
use Rattle.std.specs.declared.alloc.Global.{Global}
use Rattle.tb_layout.specs.declared.account.Account.{Account}
use Rattle.tb_layout.specs.declared.failure.Failure.{Failure}
use Rattle.tb_work.specs.declared.stub.Stub.{Stub}
use Rattle.tb_batch.proofs.Groups.{HasOneMore, batch_more, given}
use Rattle.tb_batch.proofs.group.Group.join.Goals as goal

-- src/group.rt:82:5
pub invariant_of-self-2 : goal.invariant_of-self-2
invariant_of-self-2 c =
    let room = c.reserve_for.ensures in
    let put = c.append.ensures in
    let succeeded = sym c.is_err.ensures.value ∙ c.if-is_err.false in
    let counted : c.stub.result.count ≡ count_of c.args.job.packet = ap
    (λ (stub : Stub). stub.count) c.stub.ensures.value in
    let has_room : HasRoom c.self.inside.parts.operation
    (c.self.inside.events + count_of c.args.job.packet) c.append.new.self.failures c.append.new.self.accounts =
    record {
      no_failures = ap (λ (v : Vec Failure Global). v.items) put.answer.0 ∙ room.answer.0;
      no_accounts = ap (λ (v : Vec Account Global). v.items) put.answer.1 ∙ room.answer.1;
      for_failures = λ other. omega (
        arith,
        ap (λ (v : Vec Failure Global). vec_capacity v) put.answer.0,
        counted,
        given c.reserve_for.result _ succeeded room.room_for_failures other,
      );
      for_accounts = λ lookup. omega (
        arith,
        ap (λ (v : Vec Account Global). vec_capacity v) put.answer.1,
        counted,
        given c.reserve_for.result _ succeeded room.room_for_accounts lookup,
      );
    } in
    let more : HasOneMore c.self.inside.parts c.append.new.self c.args.job = record {
      operation = put.operation ∙ room.operation;
      jobs = put.jobs ∙ ap (λ js. js ++ c.args.job ∷ []) room.jobs.0;
      stubs = put.stubs ∙ ap (λ ss. ss ++ stub_of c.args.job ∷ []) room.jobs.1;
      body = put.body ∙ ap (λ bs. bs ++ c.args.job.packet.bytes) room.jobs.2;
    } in
    rw c.stub.ensures.value (batch_more c.args.limit more c.self.invariant c.requires.limit
    (ap (λ js. is_taken c.args.limit js c.args.job) c.self.view_is ∙ c.requires.joins) put.admitted has_room)
