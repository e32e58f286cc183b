use Rattle.std.proofs.Common.{◌≡◌, ◌≤◌, ◌∙◌, ap, arith, drop, length, map, sym}
use Rattle.tb_durable.proofs.Words.{bytes, stub_at, stubs_in, whole_number}
use Rattle.tb_durable.proofs.StubLemmas.{first_stub}
use Rattle.tb_durable.proofs.rows.settings_in.Goals as goal

pub returns-in_err-first-clause-none : goal.returns-in_err-first-clause-none
returns-in_err-first-clause-none c = rw c.from_residual-in_err-first.ensures (λ first.
    let same : c.in_ok-blob_in.field-0.now ≡ first.stubs = sym (ap bytes c.in_ok-blob_in.ensures.some) ∙ ap bytes first.has_stubs in
    let empty : length c.as_chunks.result.0.now ≤ 0 = c.in_err-first.ensures.item.3 in
    omega (arith, ap length same, first.long, empty, c.as_chunks.ensures.front_len))

pub returns-clause-has : goal.returns-clause-has
returns-clause-has c =
    let chunks = c.as_chunks.result.0.now in
    record {
      clock = ap whole_number c.in_ok-clock.ensures.some;
      number = c.stub_at-stub.result.number;
      more = map stub_at (drop 1 chunks);
      stubs = ap (λ value. stubs_in (bytes value)) c.in_ok-blob_in.ensures.some
          ∙ sym (ap (map stub_at) c.as_chunks.ensures.front)
          ∙ first_stub chunks c.in_ok-first.field-0.now c.stub_at-stub.result c.in_ok-first.ensures.value c.stub_at-stub.ensures;
    }
