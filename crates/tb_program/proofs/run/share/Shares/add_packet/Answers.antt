use Rattle.std.proofs.Common.{rules, ◌≡◌, ◌+◌, ◌≤◌, ◌<◌, ◌∷◌, ◌++◌, [], length, get_or, arith}
use Rattle.tb_program.proofs.Sharing.{dealt_past, dealt_to, not_its}
use Rattle.tb_program.proofs.run.share.Shares.add_packet.Goals as goal

pub returns-in_ok-push-clause-packets : goal.returns-in_ok-push-clause-packets
returns-in_ok-push-clause-packets c = λ items dealt.
    let shares = c.args.self.now.packets.items in
    let k = c.get.result in
    let its : c.args.submitter ≡ k = search rules in
    let here : c.args.submitter ≡ 0 + k = omega (arith, its) in
    let within : k < length shares = search rules in
    let is : c.push.new.self.items ≡ (get_or shares k c.push.new.self).items ++ c.args.packet ∷ [] = search rules in
    dealt_to items c.args.submitter c.args.packet c.push.new.self 0 k shares here within is dealt

pub returns-in_default-clause-packets : goal.returns-in_default-clause-packets
returns-in_default-clause-packets c = λ items dealt.
    let shares = c.args.self.now.packets.items in
    let its : c.args.submitter ≡ c.get.result = search rules in
    let past : length shares ≤ c.get.result = search rules in
    dealt_past 0 shares items _ (λ other least most.
    not_its other c.args.submitter c.args.packet (λ e. omega (arith, e, its, past, most))) dealt
