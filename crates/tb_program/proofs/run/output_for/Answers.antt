use Rattle.std.proofs.Common.{rules, ◌≡◌, ◌∙◌, length, ap}
use Rattle.tb_program.proofs.Words.{flat_map, clock_of, items_of, limit_of, submitters_of, lists_of, operations_of, AreDealt, moments_asked, shares_of, shuts_in}
use Rattle.tb_program_text.specs.declared.item.Settings.{Settings}
use Rattle.tb_program.proofs.Sharing.{dealt_lists}
use Rattle.tb_program.proofs.run.output_for.Goals as goal

pub returns-clause-memory : goal.returns-clause-memory
returns-clause-memory g c =
    let parsed = c.args.script in
    let packets = c.in_ok-shares.shares.packets.items in
    let script = c.in_ok-settings.field-0 in
    let is = c.in_ok-settings.ensures in
    let number : length packets ≡ submitters_of script.settings = search rules in
    let dealt : AreDealt 0 packets script.items.items = search rules in
    let shares = dealt_lists 0 packets script.items.items dealt
    ∙ ap (λ n. shares_of 0 n script.items.items) number
    ∙ ap (λ (settings : Settings). shares_of 0 (submitters_of settings) script.items.items) is.settings
    ∙ ap (shares_of 0 (submitters_of parsed.settings)) is.items in
    let clock : clock_of script.settings ≡ clock_of parsed.settings = ap clock_of is.settings in
    let limit : limit_of script.settings ≡ limit_of parsed.settings = ap limit_of is.settings in
    let moments : c.in_ok-shares.shares.lines.moments.items ≡ moments_asked (items_of parsed) = search rules in
    let shuts : c.in_ok-shares.shares.lines.shuts ≡ shuts_in (items_of parsed) = search rules in
    rw (clock, limit, shares, moments, shuts) at c.in_ok-made.ensures

pub returns-clause-text : goal.returns-clause-text
returns-clause-text g c = (returns-clause-memory g c).ran

pub returns-clause-operations : goal.returns-clause-operations
returns-clause-operations g c =
    let parsed = c.args.script in
    let packets = c.in_ok-shares.shares.packets.items in
    let script = c.in_ok-settings.field-0 in
    let is = c.in_ok-settings.ensures in
    let number : length packets ≡ submitters_of script.settings = search rules in
    let dealt : AreDealt 0 packets script.items.items = search rules in
    let shares : lists_of packets ≡ shares_of 0 (submitters_of parsed.settings) (items_of parsed) =
    dealt_lists 0 packets script.items.items dealt
    ∙ ap (λ n. shares_of 0 n script.items.items) number
    ∙ ap (λ (settings : Settings). shares_of 0 (submitters_of settings) script.items.items) is.settings
    ∙ ap (shares_of 0 (submitters_of parsed.settings)) is.items in
    c.in_ok-operations.ensures ∙ ap (λ dealt. flat_map operations_of (lists_of dealt)) c.deref.ensures.value
    ∙ ap (flat_map operations_of) shares
