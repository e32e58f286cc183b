use Rattle.std.proofs.Common.{arith, ◌∙◌, ap, sym, refl, ◌++◌}
use Rattle.tb_tables.proofs.Words.{Transfer, sums_of}
use Rattle.tb_tables.proofs.ChangedBalances as settling
use Rattle.tb_tables.proofs.storing.unapply.Goals as goal

pub subtract_amount-requires : goal.subtract_amount-requires
subtract_amount-requires c =
    rw c.phase_of.ensures (settling.takes c.requires.0 (sums_of c.requires.0.facts)
    (c.requires.1.accounts_are ∙ settling.add-sums c.requires.0 c.in-None.is))

pub returns-in-None : goal.returns-in-None
returns-in-None c = λ s is. record {
  accounts_are = rw c.phase_of.ensures at c.subtract_amount.ensures _ _ _ _ s.allow.are_at
      (is.accounts_are ∙ settling.add-sums s c.in-None.is);
  transfers_are = is.transfers_are ∙ ap (λ rows. rows ++ s.more) (settling.rows-kept s c.in-None.is);
}

pub set_status-reserved-requires : goal.set_status-reserved-requires
set_status-reserved-requires c = rw (settling.at-index c.requires.0 c.in-Some.is c.requires.1) refl

pub unpost_if-requires : goal.unpost_if-requires
unpost_if-requires c = λ post.
    let s = c.requires.0 in
    settling.takes s (settling.between s c.in-Some.is)
    (c.requires.1.accounts_are ∙ settling.post-sums s c.in-Some.is (sym post ∙ c.is_post.ensures))

pub add_amount-requires : goal.add_amount-requires
add_amount-requires c =
    let s = c.requires.0 in
    let is = c.requires.1 in
    let amount = ap (λ (x : Transfer). x.amount) (c.set_status-reserved.ensures.transfer _ _
    (settling.at-index s c.in-Some.is is)) in
    let unpaid = c.unpost_if.ensures (settling.between s c.in-Some.is) _ _ _ s.allow.are_at
    (is.accounts_are ∙ settling.post-sums s c.in-Some.is c.is_post.ensures) in
    settling.can_return s c.in-Some.is _ (omega (arith, amount)) unpaid

pub returns-in-Some : goal.returns-in-Some
returns-in-Some c = λ s is.
    let at = settling.at-index s c.in-Some.is is in
    let amount = ap (λ (x : Transfer). x.amount) (c.set_status-reserved.ensures.transfer _ _ at) in
    let unpaid = c.unpost_if.ensures (settling.between s c.in-Some.is) _ _ _ s.allow.are_at
    (is.accounts_are ∙ settling.post-sums s c.in-Some.is c.is_post.ensures) in
    record {
      accounts_are = c.add_amount.ensures (settling.between s c.in-Some.is) _ _ _ s.allow.are_at unpaid
          ∙ sym (settling.release-sums s c.in-Some.is amount);
      transfers_are = c.set_status-reserved.ensures.entries _ _ at
          ∙ settling.rows-open s c.in-Some.is is c.set_status-reserved.ensures.unique;
    }
