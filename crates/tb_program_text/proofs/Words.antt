-- The words that these proofs speak in.
pub use Rattle.std.proofs.Math.Seq.{drop-append-add, take-append_seam, take-append-add, drop-append_seam, get_or-append_seam, split_at}
pub use Rattle.std.proofs.lemmas.Bool.{and_parts, cases_lt, false_from_ne_true, cond_below}
pub use Rattle.std.proofs.lemmas.Bool.Decides.{nat_tests, Decides-eqb}
pub use Rattle.std.proofs.lemmas.Fmt.{IsAscii-from_digits, decimal_digit, decimal_is_IsNumeral_wide, length-decimal-le_wide}
pub use Rattle.std.proofs.lemmas.Grind.{common_steps}
pub use Rattle.std.proofs.lemmas.Iterator.Consumers.{YieldsList-at, YieldsList-from_filter, count_from_yields_List}
pub use Rattle.std.proofs.lemmas.Iterator.Splits.{YieldsList-from_slice_split}
pub use Rattle.std.proofs.lemmas.List.{drop-replicate, get_or-set_other, drop-drop, length-drop, nil_from_length, get_or-take}
pub use Rattle.std.proofs.lemmas.List.Elements.{All-head, All-tail, All-drop, All-map, All-nil, All-cons}
pub use Rattle.std.proofs.lemmas.List.Folds.{list_all-append, length-prefix_len, list_all_more}
pub use Rattle.std.proofs.lemmas.List.Sums.{split_at_first, passes_at_first, AllPass-from_list_all, list_all-from_AllPass, prefix_len-le-length, prefix_len_passes, position_or_len_is, length-filter}
pub use Rattle.std.proofs.lemmas.Slice.Eq.{bytes_eq-Decides}
pub use Rattle.std.specs.Char.{is_ascii_digit}
pub use Rattle.std.specs.Int.{byte_at, bytes_low_first, to_le_bytes, w128, w64}
pub use Rattle.std.specs.Io.KnownBytes.{Consumes}
pub use Rattle.std.specs.List.{list_all, position_or_len, before_first, after_first as rest_after, flat_map, slice_split, onto_first, after_first}
pub use Rattle.std.specs.Prelude.{◌==◌, ◌&&◌, All, map, codes, decimal, nat_le, nat_lt, slice_index, slice_index_or, is_some, not, ◌||◌, IsOk, bytes_eq, get_or, filter, unwrap_or, position, IfOk}
pub use Rattle.std.specs.Str.Parse.{ParsesUnsigned, digits_value}
pub use Rattle.tb_program_text.specs.clauses.Event.{field, fields_of, found, greatest, named, new_field, put, sides_of, with_number, blank}
pub use Rattle.tb_program_text.specs.clauses.Laws.{Adds, SpelledAccountsAreLaidOut, SpelledTransfersAreLaidOut, SpelledIdsAreLaidOut, FirstFaultDecides, FaultlessLinesAreParsed, SpelledScriptsAreRead}
pub use Rattle.tb_program_text.specs.clauses.Naming.{first_operation, named_line, all_words, code_in, named_text, named_words}
pub use Rattle.tb_program_text.specs.clauses.Number.{number_within, fitting, within}
pub use Rattle.tb_program_text.specs.clauses.Output.{found_text, failure_text}
pub use Rattle.tb_program_text.specs.clauses.Script.{ParsedScript, may_stand, with_bytes, at_line, nothing_parsed, items_of, is_text, is_text_byte, with_words, with_pulse, with_close, submitters_of, line_max, packet_numbers, with_event, script_of}
pub use Rattle.tb_program_text.specs.clauses.Spelling.{NamedNumber, IsOfItsSize, field_word, fields_line, line_of_words, named_of_account, named_of_transfer, text_of_lines, setting_lines, settings_lines, byte_line, packet_lines, item_lines, IsWithin, CanBeSet, CanBeSubmitted, CanBeWritten, CanAllBeWritten, shut_by}
pub use Rattle.tb_program_text.specs.clauses.Steps.{◌>>=◌, look_up}
pub use Rattle.tb_program_text.specs.clauses.Text.{first_line, after_first_line, first_word, after_first_word, line_end, word_end}
pub use Rattle.tb_program_text.specs.inside.Fields.{AreRowsOf, IsBare, Lies, NamesField}
pub use Rattle.tb_program_text.specs.inside.FirstWord.{IsAfterFirstWord, spaces}
pub use Rattle.tb_program_text.specs.inside.UsualLine.{TakesUsual}
pub use Rattle.tb_program_text.specs.declared.event.Draft.{Draft}
pub use Rattle.tb_program_text.specs.declared.event.Field.{Field}
pub use Rattle.tb_program_text.specs.declared.event.NamedField.{NamedField}
pub use Rattle.tb_program_text.specs.declared.event.Layout.{Layout}
pub use Rattle.tb_program_text.specs.declared.event.Layout.TheVariants.{Account, Transfer}
pub use Rattle.tb_program_text.specs.declared.fault.Fault.{Fault}
pub use Rattle.tb_program_text.specs.declared.keyword.Keyword.{Keyword}
