use Rattle.std.proofs.Common.{arith, sym, true≢false, ℕ}
use Rattle.tb_tables.proofs.Pairs.{has_pair-permuted, taken-more}
use Rattle.tb_tables.proofs.Words.{nat_tests, pair_of}
use Rattle.tb_tables.proofs.expiries.push_open.Goals.{then-is_open_at+in-Ok, else-is_open_at}
use Rattle.tb_tables.proofs.expiries.push_open.Goals as goal

pub unreachable-requires : goal.unreachable-requires
unreachable-requires c =
    true≢false (sym (c.in_default.ensures.succeeds
    (omega (arith, c.loop-pair.invariant.ready.room, c.loop-pair-test.true))))

pub loop-pair-preserved : goal.loop-pair-preserved
loop-pair-preserved c =
    let i = c.loop-pair.invariant in
    let more = taken-more c.args.pairs.now c.loop-pair.pair-index (pair_of 0 0) c.loop-pair-test.true in
    elim c.if-is_open_at.branch [
      | then-is_open_at+in-Ok w ↦
          let pushed = λ (m p : ℕ). has_pair-permuted w.in-Ok.ensures.permutation m p in
          rw w.heap-is (record {
            ready = record {
              ordered = w.in-Ok.ensures.heap_order i.ready.ordered;
              room = omega (arith, i.ready.room, w.in-Ok.ensures.len, w.in-Ok.ensures.capacity, c.loop-pair-test.true);
            };
            stay = λ m p has. grind (arith, pushed m p, i.stay m p has);
            come = λ m p open_one has. grind (arith, pushed m p, more m p, i.come m p open_one, has);
            only = λ m p has.
                grind (arith, nat_tests, pushed m p, i.only m p, has, c.is_open_at.ensures, w.if-is_open_at.true);
            most = omega (arith, i.most, w.in-Ok.ensures.len);
          })
      | else-is_open_at w ↦
          rw w.heap-is (record {
            ready = record { ordered = i.ready.ordered; room = omega (arith, i.ready.room, c.loop-pair-test.true) };
            stay = i.stay;
            come = λ m p open_one has.
                grind (arith, nat_tests, more m p, i.come m p open_one, has, open_one, c.is_open_at.ensures, w.if-is_open_at.false);
            only = i.only;
            most = omega (arith, i.most);
          })
    ]
