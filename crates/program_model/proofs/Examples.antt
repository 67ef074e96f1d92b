-- Outputs that the checker computes.
use Rattle.std.specs.Prelude.{◌≡◌, refl, [], ◌∷◌, Some, None, Ok, Err, codes}
use Rattle.std.specs.Fmt.{digits as decimal_digits}
use Rattle.protocol_model.specs.Bits.{int_width, digits}
use Rattle.protocol_model.specs.Numbers.{leading_groups}
use Rattle.protocol_model.specs.declared.Version.TheVariants.{One, Two}
use Rattle.script_model.specs.Lines.{Text}
use Rattle.table_model.specs.declared.Place.TheVariants.{Property}
use Rattle.table_model.specs.declared.TableWhy.TheVariants.{Range}
use Rattle.protocol_model.specs.declared.LineWhy.TheVariants.{NoActor}
use Rattle.std.specs.Prelude.{ℕ, List}
use Rattle.protocol_model.specs.declared.Version.{Version}
use Rattle.program_model.specs.Words.{Replay, Check, Show, Sample, command_of}
use Rattle.program_model.specs.Refused.{table_refused_text, script_refused_text}
use Rattle.program_model.specs.Shown.{packets_of, show_text, line_refused_text}

replay_is_read : command_of (codes "replay" ∷ codes "-" ∷ codes "S" ∷ []) ≡ Some (Replay (codes "-") (codes "S"))
replay_is_read = refl

other_table_is_read : command_of (codes "replay" ∷ codes "T" ∷ codes "S" ∷ []) ≡ Some (Replay (codes "T") (codes "S"))
other_table_is_read = refl

dash_is_no_script : command_of (codes "replay" ∷ codes "-" ∷ codes "-" ∷ []) ≡ None
dash_is_no_script = refl

built_in_table_is_checked : command_of (codes "check" ∷ codes "-" ∷ []) ≡ Some (Check (codes "-"))
built_in_table_is_checked = refl

first_version_is_shown : command_of (codes "show" ∷ codes "F" ∷ []) ≡ Some (Show One (codes "F"))
first_version_is_shown = refl

second_version_is_shown : command_of (codes "show2" ∷ codes "F" ∷ []) ≡ Some (Show Two (codes "F"))
second_version_is_shown = refl

most_ticks_are_read : command_of (codes "sample" ∷ codes "2000" ∷ []) ≡ Some (Sample 2000)
most_ticks_are_read = refl

no_more_ticks : command_of (codes "sample" ∷ codes "2001" ∷ []) ≡ None
no_more_ticks = refl

no_leading_zero : command_of (codes "sample" ∷ codes "06" ∷ []) ≡ None
no_leading_zero = refl

no_file_named_like_an_option : command_of (codes "show" ∷ codes "-f" ∷ []) ≡ None
no_file_named_like_an_option = refl

table_is_refused : table_refused_text (record { place = Property 1 3; why = Range })
    ≡ codes "unet: class table refused at class 1 property 3: Range\n"
unfolding decimal_digits
table_is_refused = refl

script_is_refused : script_refused_text (12, NoActor) ≡ codes "unet: script refused at line 12: NoActor\n"
unfolding decimal_digits
script_is_refused = refl

-- what the packets of a file are shown as, or the line that is refused
shown : Version → List ℕ → Text
shown version bytes = elim (packets_of version bytes) [
  | Ok packets ↦ show_text version packets
  | Err bad ↦ line_refused_text bad
]

acknowledgement_is_shown : shown One (codes "05c00120\n") ≡ codes "packet 5 1\nack 3\n"
unfolding decimal_digits digits int_width leading_groups shown
acknowledgement_is_shown = refl

head_is_shown : shown Two (codes "0140008000000080") ≡ codes "packet 1 0\nhead 1 00000001\n"
unfolding decimal_digits digits int_width leading_groups shown
head_is_shown = refl

second_line_is_no_hex : shown One (codes "05c00120\n5g\n") ≡ codes "unet: line 2: not hex\n"
unfolding decimal_digits digits int_width leading_groups shown
second_line_is_no_hex = refl
