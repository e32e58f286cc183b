use Rattle.tb_core.proofs.BadRuns.{commits_a_stranger, shuts_down_a_committed, stops_a_committed, stops_behind_the_close, drops_pulses, changes_places, forgets_the_state, loses_the_journal, counts_places_anew, commits_nothing_running, commits_nothing_stopped, invents_a_packet, invents_a_pulse, overtakes, gives_anothers_reply, answers_anotherwise, loses_an_item}
use Rattle.tb_core.proofs.laws.bad_runs_are_excluded.Goals as goal

pub returns-clause-stranger : goal.returns-clause-stranger
returns-clause-stranger c = commits_a_stranger

pub returns-clause-shut_down : goal.returns-clause-shut_down
returns-clause-shut_down c = shuts_down_a_committed

pub returns-clause-stopped : goal.returns-clause-stopped
returns-clause-stopped c = stops_a_committed

pub returns-clause-stopped_behind : goal.returns-clause-stopped_behind
returns-clause-stopped_behind c = stops_behind_the_close

pub returns-clause-dropped_pulses : goal.returns-clause-dropped_pulses
returns-clause-dropped_pulses c = drops_pulses

pub returns-clause-changed_places : goal.returns-clause-changed_places
returns-clause-changed_places c = changes_places

pub returns-clause-state : goal.returns-clause-state
returns-clause-state c = forgets_the_state

pub returns-clause-lost_journal : goal.returns-clause-lost_journal
returns-clause-lost_journal c = loses_the_journal

pub returns-clause-places_anew : goal.returns-clause-places_anew
returns-clause-places_anew c = counts_places_anew

pub returns-clause-nothing_running : goal.returns-clause-nothing_running
returns-clause-nothing_running c = commits_nothing_running

pub returns-clause-nothing_stopped : goal.returns-clause-nothing_stopped
returns-clause-nothing_stopped c = commits_nothing_stopped

pub returns-clause-invented_packet : goal.returns-clause-invented_packet
returns-clause-invented_packet c = invents_a_packet

pub returns-clause-invented_pulse : goal.returns-clause-invented_pulse
returns-clause-invented_pulse c = invents_a_pulse

pub returns-clause-overtaken : goal.returns-clause-overtaken
returns-clause-overtaken c = overtakes

pub returns-clause-anothers_reply : goal.returns-clause-anothers_reply
returns-clause-anothers_reply c = gives_anothers_reply

pub returns-clause-another_answer : goal.returns-clause-another_answer
returns-clause-another_answer c = answers_anotherwise

pub returns-clause-lost_item : goal.returns-clause-lost_item
returns-clause-lost_item c = loses_an_item
