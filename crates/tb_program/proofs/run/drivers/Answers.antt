use Rattle.std.proofs.Common.{rules, ◌≡◌, ◌++◌, ◌∷◌, [], Vec, sym, subst}
use Rattle.tb_program.proofs.Words.{map-append, Global, Packet, AreNew, share_of}
use Rattle.tb_program.proofs.Noting.{one_more_new}
use Rattle.tb_program.proofs.run.drivers.Goals as goal

pub loop-packets-preserved : goal.loop-packets-preserved
loop-packets-preserved c =
    let drivers = c.loop-packets.drivers.items in
    let last = c.in_ok-new.field-0 in
    let pushed : c.push.new.self.items ≡ drivers ++ last ∷ [] = search rules in
    record {
      shares = rw (
        pushed,
        map-append share_of drivers
            (last ∷ []),
        c.loop-packets.invariant.shares,
        c.in_ok-new.ensures.share,
      )
          (sym (map-append (λ (share : Vec Packet Global). share.items) c.loop-packets.yielded (_ ∷ [])));
      new = subst AreNew (sym pushed) (one_more_new drivers last c.loop-packets.invariant.new c.in_ok-new.ensures.new);
    }
