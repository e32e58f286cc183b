use Rattle.std.proofs.Common.{◌≡◌, [], map, length, All}
use Rattle.tb_submit.proofs.Words.{ReplyValue, given, slots, Outlet, new_submitter, new_intake, origins}
use Rattle.tb_submit.proofs.ends.open_submitters.Given as goal

abbrev pub invariant-loop-number : goal.invariant-loop-number
invariant-loop-number l = record {
  reader : l.reader ≡ record l.fn.reader { count = l.number };
  opened : l.opened.items ≡ map (new_submitter l.credit)
      (origins (new_intake l.fn.reader.queue l.submitters l.limit l.fn.reader.capacity) l.outlets.items);
  long : length l.outlets.items ≡ l.number;
  given : All (λ (outlet : Outlet ReplyValue). given outlet ≡ []) l.outlets.items;
  slots : All (λ (outlet : Outlet ReplyValue). slots outlet ≡ l.credit) l.outlets.items;
}
