use Rattle.tb_program_text.proofs.UsualLines.{usual_account, usual_packet, usual_transfer}
use Rattle.tb_program_text.proofs.script.Script.take_usual.Goals as goal

pub returns-in-Some : goal.returns-in-Some
returns-in-Some c =
    usual_transfer c.args.self.now c.take_usual_event.new.self c.args.text.now c.in-Some.fields.now c.take_usual_event.result
    c.in-Some.ensures c.take_usual_event.ensures

pub returns-in-Some-strip_word : goal.returns-in-Some-strip_word
returns-in-Some-strip_word c =
    usual_account c.args.self.now c.take_usual_event-in-Some-strip_word.new.self c.args.text.now c.in-Some-strip_word.fields.now
    c.take_usual_event-in-Some-strip_word.result c.in-Some-strip_word.ensures c.take_usual_event-in-Some-strip_word.ensures

pub returns-in-Some-strip_word-2 : goal.returns-in-Some-strip_word-2
returns-in-Some-strip_word-2 c =
    usual_packet c.args.self.now c.take_usual_packet.new.self c.args.text.now c.in-Some-strip_word-2.numbers.now
    c.take_usual_packet.result c.in-Some-strip_word-2.ensures c.take_usual_packet.ensures
