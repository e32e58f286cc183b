use Rattle.std.proofs.Common.{◌∙◌, ap, sym, refl, ◌++◌}
use Rattle.tb_tables.proofs.Words.{Transfer}
use Rattle.tb_tables.proofs.ChangedBalances as settling
use Rattle.tb_tables.proofs.storing.apply.Goals as goal

pub add_amount-requires : goal.add_amount-requires
add_amount-requires c = rw c.phase_of.ensures (settling.can_add c.requires.1 c.in-None.is c.requires.2.accounts_are)

pub returns-in-None : goal.returns-in-None
returns-in-None c = λ _ s is. record {
  accounts_are = (rw c.phase_of.ensures at c.add_amount.ensures _ _ _ _ s.allow.are_at is.accounts_are)
      ∙ sym (settling.add-sums s c.in-None.is);
  transfers_are = is.transfers_are ∙ ap (λ rows. rows ++ s.more) (sym (settling.rows-kept s c.in-None.is));
}

pub set_status-reserved-requires : goal.set_status-reserved-requires
set_status-reserved-requires c = rw (settling.at-index c.requires.1 c.in-Some.is c.requires.2) refl

pub subtract_amount-requires : goal.subtract_amount-requires
subtract_amount-requires c =
    let s = c.requires.1 in
    let is = c.requires.2 in
    let amount = ap (λ (x : Transfer). x.amount) (c.set_status-reserved.ensures.transfer _ _
    (settling.at-index s c.in-Some.is is)) in
    settling.takes s (settling.between s c.in-Some.is)
    (is.accounts_are ∙ settling.release-sums s c.in-Some.is amount)

pub post_if-requires : goal.post_if-requires
post_if-requires c = λ post.
    let s = c.requires.1 in
    let is = c.requires.2 in
    let amount = ap (λ (x : Transfer). x.amount) (c.set_status-reserved.ensures.transfer _ _
    (settling.at-index s c.in-Some.is is)) in
    settling.can_return s c.in-Some.is _ (settling.posted s c.in-Some.is).may.at_most
    (c.subtract_amount.ensures _ _ _ _ s.allow.are_at
    (is.accounts_are ∙ settling.release-sums s c.in-Some.is amount))

pub returns-in-Some : goal.returns-in-Some
returns-in-Some c = λ _ s is.
    let at = settling.at-index s c.in-Some.is is in
    let amount = ap (λ (x : Transfer). x.amount) (c.set_status-reserved.ensures.transfer _ _ at) in
    let between = settling.between s c.in-Some.is in
    let released = c.subtract_amount.ensures between _ _ _ s.allow.are_at
    (is.accounts_are ∙ settling.release-sums s c.in-Some.is amount) in
    record {
      accounts_are = c.post_if.ensures between _ _ _ s.allow.are_at released
          ∙ sym (settling.post-sums s c.in-Some.is c.is_post-in-Some.ensures);
      transfers_are = c.set_status-reserved.ensures.entries _ _ at
          ∙ rw (c.resolved_status.ensures, c.is_post.ensures)
          (settling.rows-settled s c.in-Some.is is c.set_status-reserved.ensures.unique);
    }
