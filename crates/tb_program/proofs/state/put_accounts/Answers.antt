use Rattle.std.proofs.Common.{◌≡◌, ◌∙◌, ◌+◌, ◌++◌, ◌∷◌, [], Some, ap, sym, take, string_bytes, rules, arith}
use Rattle.std.proofs.lemmas.Grind.{common_steps}
use Rattle.tb_program.proofs.Words.{flat_map, slice_get, take_more, flat_map_more, get_or_from_slice_get, slice_get_within, balanced_accounts, account_line}
use Rattle.tb_program.proofs.state.put_accounts.Goals as goal

pub loop-place-preserved : goal.loop-place-preserved
loop-place-preserved c =
    let accounts = balanced_accounts c.args.machine.now.facts in
    let place = c.loop-place.place in
    let account = c.unwrap-account.result in
    let at : slice_get accounts place ≡ Some account = sym c.account_at.ensures ∙ c.unwrap-account.ensures in
    let taken : take (place + 1) accounts ≡ take place accounts ++ account ∷ [] =
    take_more accounts place account (slice_get_within accounts place account at)
    ∙ ap (λ x. take place accounts ++ x ∷ []) (get_or_from_slice_get accounts place account account at) in
    c.in_ok-put_account.ensures ∙ ap (λ bytes. bytes ++ account_line account) c.loop-place.invariant
    ∙ flat_map_more account_line (string_bytes c.args.out.now) (take place accounts) account
    ∙ ap (λ xs. string_bytes c.args.out.now ++ flat_map account_line xs) (sym taken)

pub returns-in_err-put_account : goal.returns-in_err-put_account
returns-in_err-put_account c = search rules

pub returns : goal.returns
returns c = grind (arith, common_steps)
