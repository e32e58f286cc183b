use Rattle.std.proofs.Common.{◌≡◌, subst, refl, sym, ◌∙◌, arith, None, Some, true, false, ◌&&◌, get_or}
use Rattle.std.proofs.lemmas.Bool.Decides.{nat_tests}
use Rattle.std.specs.Prelude.{◌==◌}
use Rattle.tb_embed.specs.clauses.Engine.{packet_with, submit_refusal}
use Rattle.tb_embed.specs.clauses.Restoring.{is_next_place}
use Rattle.tb_embed.proofs.Restored.{packet_fault_is}
use Rattle.tb_embed.proofs.engine.Engine.packet_fault.Goals as goal
use Rattle.tb_embed.proofs.engine.Engine.packet_fault.Goals.{else-is_next_place-via-then-is_next_place+else-entry-next_number, else-is_next_place-via-else-is_next_place}

pub returns-in-Some : goal.returns-in-Some
returns-in-Some c =
    sym (packet_fault_is c.args.self.now c.args.entry.now (Some c.in-Some.refusal) _ (sym c.is_idle.ensures ∙ c.if-not-is_idle.false)
    (sym (subst (λ bytes. c.refusal_of.result ≡ submit_refusal c.args.self.now c.args.entry.now.submitter
    (packet_with c.args.entry.now.packet.operation bytes c.args.entry.now.packet.user)) c.as_slice.ensures (c.refusal_of.ensures c.args.entry.now.packet.user)) ∙ c.in-Some.is) refl)

pub returns-then-entry-next_number : goal.returns-then-entry-next_number
returns-then-entry-next_number c =
    sym (packet_fault_is c.args.self.now c.args.entry.now None true (sym c.is_idle.ensures ∙ c.if-not-is_idle.false)
    (sym (subst (λ bytes. c.refusal_of.result ≡ submit_refusal c.args.self.now c.args.entry.now.submitter
    (packet_with c.args.entry.now.packet.operation bytes c.args.entry.now.packet.user)) c.as_slice.ensures (c.refusal_of.ensures c.args.entry.now.packet.user)) ∙ c.in_default.is)
    (grind (arith, nat_tests, c.if-is_next_place.true, c.is_next_place.ensures, c.if-entry-next_number.true, c.next_number.ensures)))

pub returns : goal.returns
returns c =
    let engine = c.args.self.now in
    let entry = c.args.entry.now in
    let other : (is_next_place engine entry.place && (entry.number == get_or engine.numbers entry.submitter 0)) ≡ false =
    elim c.else-is_next_place.branch [
      | else-is_next_place-via-then-is_next_place+else-entry-next_number w ↦
          grind (arith, nat_tests, w.if-entry-next_number.false, w.next_number.ensures)
      | else-is_next_place-via-else-is_next_place w ↦ grind (arith, nat_tests, c.is_next_place.ensures, w.if-is_next_place.false)
    ] in
    sym (packet_fault_is engine entry None false (sym c.is_idle.ensures ∙ c.if-not-is_idle.false)
    (sym (subst (λ bytes. c.refusal_of.result ≡ submit_refusal engine entry.submitter
    (packet_with entry.packet.operation bytes entry.packet.user)) c.as_slice.ensures (c.refusal_of.ensures entry.packet.user)) ∙ c.in_default.is) other)
