use Rattle.std.proofs.Common.{◌≡◌, ◌≤◌, ◌-◌, true, take}
use Rattle.tb_program_text.proofs.Words.{list_all, is_ascii_digit, digits_value}
use Rattle.tb_program_text.proofs.number.leading_number.Given as goal

abbrev pub invariant-loop-digits : goal.invariant-loop-digits
invariant-loop-digits l = record {
  within : l.digits ≤ l.end;
  digits : list_all is_ascii_digit (take l.digits l.text) ≡ true;
  value : l.number ≡ digits_value 10 (take l.digits l.text);
}

abbrev pub decreases-loop-digits : goal.decreases-loop-digits
decreases-loop-digits l = l.end - l.digits
