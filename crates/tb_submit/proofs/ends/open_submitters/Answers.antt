use Rattle.std.proofs.Common.{◌≡◌, ◌+◌, ◌∷◌, [], map, ap, sym, ◌∙◌, arith, length, length-append, Some}
use Rattle.tb_submit.proofs.Words.{All-push, ReplyValue, given, slots, Outlet, SenderState, new_submitter, new_intake, origins_from, seat_at, ReaderState}
use Rattle.tb_submit.proofs.OpenedSubmitters.{opened_more, reader_counted}
use Rattle.tb_submit.proofs.ends.open_submitters.Goals as goal

pub loop-number-preserved : goal.loop-number-preserved
loop-number-preserved c =
    let loop = c.loop-number in
    let before = c.args.reader.now in
    let was = loop.invariant.reader in
    let outlet = c.in_ok-outlet.outlet in
    let seats = seat_at (new_intake before.queue c.args.submitters c.args.limit before.capacity) in
    let seat : c.in_ok-sender.sender.seat ≡ seats loop.number = ap
    (λ (s : SenderState). s.seat) c.in_ok-sender.ensures.sender
    ∙ ap (λ (r : ReaderState). record {
      queue = Some r.queue;
      submitters = c.args.submitters;
      limit = c.args.limit;
      number = loop.number;
    }) was in
    record {
      reader = reader_counted c.sender.new.self loop.reader c.in_ok-sender.ensures.queue c.in_ok-sender.ensures.same
          c.in_ok-sender.ensures.count ∙ ap (λ (r : ReaderState). record r { count = r.count + 1 }) was;
      opened = c.in_ok-push-2.ensures.items
          ∙ opened_more c.args.credit loop.number seats loop.outlets.items outlet loop.invariant.long
          loop.invariant.opened (c.new.ensures
          ∙ (λ i. new_submitter c.args.credit (record { seat = seat i; ring = c.in_ok-outlet.ensures.pair i })))
          ∙ ap (λ outlets. map (new_submitter c.args.credit) (origins_from seats 0 outlets))
          (sym c.in_ok-push.ensures.items);
      long = omega (
        arith,
        loop.invariant.long,
        ap length c.in_ok-push.ensures.items,
        length-append
            loop.outlets.items (outlet ∷ []),
      );
      given = rw c.in_ok-push.ensures.items (All-push
          (λ (o : Outlet ReplyValue). given o ≡ []) _ _ loop.invariant.given c.in_ok-outlet.ensures.empty.0);
      slots = rw c.in_ok-push.ensures.items (All-push
          (λ (o : Outlet ReplyValue). slots o ≡ c.args.credit) _ _ loop.invariant.slots c.in_ok-outlet.ensures.slots);
    }
