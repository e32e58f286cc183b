use Rattle.std.proofs.Common.{◌≡◌, ◌∙◌, ap, arith, sym, ◌/◌, length, if◌then◌else◌}
use Rattle.tb_batch.proofs.Groups.{body_counted, event_bytes}
use Rattle.tb_batch.proofs.parts.Parts.events.Goals as goal
use Rattle.tb_batch.proofs.parts.Parts.events.Goals.{then-looks_up, else-looks_up}

by_size : (c : goal.After-row_known-1) → length c.as_slice.result.now / c.if-looks_up.size
    ≡ length c.args.self.now.body.items / event_bytes c.args.self.now.operation
by_size c =
    let looks : c.if-looks_up.size ≡ event_bytes c.args.self.now.operation = elim c.if-looks_up.branch [
      | then-looks_up w ↦ w.size-is ∙ ap (λ b. if b then 16 else 128) (sym w.if-looks_up.true ∙ c.looks_up.ensures)
      | else-looks_up w ↦ w.size-is ∙ ap (λ b. if b then 16 else 128) (sym w.if-looks_up.false ∙ c.looks_up.ensures)
    ] in
    rw looks (ap (λ body. length body / event_bytes c.args.self.now.operation) c.as_slice.ensures.value)

pub overflow_cast-result : goal.overflow_cast-result
overflow_cast-result c = omega (arith, by_size c, (body_counted c.args.self.now c.requires).few)

pub returns : goal.returns
returns c = by_size c ∙ (body_counted c.args.self.now c.requires).counted
